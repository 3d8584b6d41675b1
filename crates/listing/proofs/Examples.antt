-- 01's example of a line, and the lines of two refusals: "13: later, then first; 9: none".
use mathlib.Core.Path.{◌≡◌, refl}
use mathlib.Core.List.{[], ◌∷◌, ◌++◌}
use lib.ListN.{replicate}
use Rattle.text.specs.Text.{decimal_in, decimal_of, hex_digit}
use Rattle.records.specs.Record.{circuit_in, trace_in}
use Rattle.records.specs.Refusals.{catalogue_number, catalogue_places}
use Rattle.records.specs.declared.Refusal.TheVariants.{Length, Repeated}
use Rattle.record_line.specs.RecordLine.{number_and_label, characters_of, trace_and_flags, line_of}
use Rattle.refusal_line.specs.RefusalLine.{blank_before, refusal_line}
use Rattle.listing.specs.Listing.{listing_form}

-- "5A 4D 00 07 12, `03E5` with eleven spaces, 0F": `7 12 [03E5           ] 15`
paper_line : line_of listing_form (0x5a ∷ 0x4d ∷ 0x00 ∷ 0x07 ∷ 0x12 ∷ 0x30 ∷ 0x33 ∷ 0x45 ∷ 0x35 ∷ (replicate 11 0x20 ++ (0x0f ∷ [])))
    ≡ 0x37 ∷ 0x20 ∷ 0x31 ∷ 0x32 ∷ 0x20 ∷ 0x5b ∷ 0x30 ∷ 0x33 ∷ 0x45 ∷ 0x35 ∷ (replicate 11 0x20 ++ (0x5d ∷ 0x20 ∷ 0x31 ∷ 0x35 ∷ []))
unfolding line_of number_and_label characters_of trace_and_flags decimal_of decimal_in hex_digit circuit_in trace_in
paper_line = refl

-- `13 5 2`
repeated_line : refusal_line (catalogue_number (Repeated 5 2)) (catalogue_places (Repeated 5 2)) ≡ 0x31 ∷ 0x33 ∷ 0x20 ∷ 0x35 ∷ 0x20 ∷ 0x32 ∷ 0x0a ∷ []
unfolding refusal_line blank_before decimal_of decimal_in
repeated_line = refl

-- `9`
length_line : refusal_line (catalogue_number Length) (catalogue_places Length) ≡ 0x39 ∷ 0x0a ∷ []
unfolding refusal_line blank_before decimal_of decimal_in
length_line = refl
