-- Each promise allows one outcome: whatever a function answers and leaves in a lent buffer is the same in any two outcomes that its contract
-- allows at the same arguments. Read off the contracts themselves, the `Post` that the check makes of each `ensures`. Assumes nothing.
use mathlib.Core.Path.{◌≡◌, sym, ◌∙◌}
use mathlib.Core.Bool.{Bool}
use mathlib.Core.List.{List}
use Prim.Native.Nat.{ℕ}
use borrow.Fn.Kinds.{Out, ended_of, ParamKind, ResultKind, Dens, res_t}
use contract.Lifetimes.{Lfts}
use denote.Triple.Clauses.{AtExit}
use Rattle.std.specs.Prelude.{Result, ⊤}
use Rattle.refusals.specs.declared.Refusal.{Refusal}
use Rattle.refusals.specs.declared.TraceFault.{TraceFault}
use Rattle.settings.specs.declared.Flags.{Flags}
use Rattle.word.specs.declared.Ndf.{Ndf}
use Rattle.sheet_line.specs.declared.LineFault.{LineFault}
use Rattle.records.specs.declared.Kind.{Kind}
use Rattle.records.specs.declared.Places.{Places}
use Rattle.records.specs.declared.Refusal as of-records
use Rattle.sheet_refusals.specs.declared.Refusal as of-sheets
use Rattle.card.specs.declared.CardRefusal.{CardRefusal}
use Rattle.pairs.specs.declared.Visited.{Visited}
use Rattle.catalogue.specs.declared.Counted.{Counted}
use Rattle.catalogue.specs.declared.Entry.{Entry}
use Rattle.parity.proofs.parity.Kinds as parity
use Rattle.parity.proofs.parity.Reads as parity-promise
use Rattle.trace_message.proofs.start_byte.Kinds as trace-message-start-byte
use Rattle.trace_message.proofs.start_byte.Reads as trace-message-start-byte-promise
use Rattle.trace_message.proofs.good_message.Kinds as trace-message-good-message
use Rattle.trace_message.proofs.good_message.Reads as trace-message-good-message-promise
use Rattle.trace_message.proofs.trace_check.Kinds as trace-message-trace-check
use Rattle.trace_message.proofs.trace_check.Reads as trace-message-trace-check-promise
use Rattle.trace_message.proofs.same.Kinds as trace-message-same
use Rattle.trace_message.proofs.same.Reads as trace-message-same-promise
use Rattle.settings.proofs.label_refused.Kinds as settings-label-refused
use Rattle.settings.proofs.label_refused.Reads as settings-label-refused-promise
use Rattle.settings.proofs.trace_answer.Kinds as settings-trace-answer
use Rattle.settings.proofs.trace_answer.Reads as settings-trace-answer-promise
use Rattle.settings.proofs.flags_of.Kinds as settings-flags-of
use Rattle.settings.proofs.flags_of.Reads as settings-flags-of-promise
use Rattle.settings.proofs.path_answer.Kinds as settings-path-answer
use Rattle.settings.proofs.path_answer.Reads as settings-path-answer-promise
use Rattle.settings.proofs.answer.Kinds as settings-answer
use Rattle.settings.proofs.answer.Reads as settings-answer-promise
use Rattle.settings.proofs.answer_alone.Kinds as settings-answer-alone
use Rattle.settings.proofs.answer_alone.Reads as settings-answer-alone-promise
use Rattle.word.proofs.of.Kinds as word_of
use Rattle.word.proofs.of.Reads as word-of-promise
use Rattle.word.proofs.h1.Kinds as word-h1
use Rattle.word.proofs.h1.Reads as word-h1-promise
use Rattle.word.proofs.h2.Kinds as word-h2
use Rattle.word.proofs.h2.Reads as word-h2-promise
use Rattle.word.proofs.kind.Kinds as word-kind
use Rattle.word.proofs.kind.Reads as word-kind-promise
use Rattle.word.proofs.ss.Kinds as word-ss
use Rattle.word.proofs.ss.Reads as word-ss-promise
use Rattle.word.proofs.value.Kinds as word_value
use Rattle.word.proofs.value.Reads as word-value-promise
use Rattle.word.proofs.reading.Kinds as word-reading
use Rattle.word.proofs.reading.Reads as word-reading-promise
use Rattle.word.proofs.of_kind.Kinds as word-of-kind
use Rattle.word.proofs.of_kind.Reads as word-of-kind-promise
use Rattle.word.proofs.is_good.Kinds as word-is-good
use Rattle.word.proofs.is_good.Reads as word-is-good-promise
use Rattle.word.proofs.inverted_at.Kinds as word-inverted-at
use Rattle.word.proofs.inverted_at.Reads as word-inverted-at-promise
use Rattle.word.proofs.plain.Kinds as word-plain
use Rattle.word.proofs.plain.Reads as word-plain-promise
use Rattle.word.proofs.adjusting.Kinds as word-adjusting
use Rattle.word.proofs.adjusting.Reads as word-adjusting-promise
use Rattle.pairs.proofs.first_repeat.Kinds as pairs-first-repeat
use Rattle.pairs.proofs.first_repeat.Reads as pairs-first-repeat-promise
use Rattle.catalogue.proofs.check.Kinds as catalogue-check
use Rattle.catalogue.proofs.check.Reads as catalogue-check-promise
use Rattle.catalogue.proofs.lookup.Kinds as catalogue-lookup
use Rattle.catalogue.proofs.lookup.Reads as catalogue-lookup-promise
use Rattle.records.proofs.Refusal.number.Kinds as records-refusal-number
use Rattle.records.proofs.Refusal.number.Reads as records-refusal-number-promise
use Rattle.records.proofs.Refusal.places.Kinds as records-refusal-places
use Rattle.records.proofs.Refusal.places.Reads as records-refusal-places-promise
use Rattle.card.proofs.card_parity.Kinds as card-parity
use Rattle.card.proofs.card_parity.Reads as card-parity-promise
use Rattle.card.proofs.card_trace_check.Kinds as card-trace-check
use Rattle.card.proofs.card_trace_check.Reads as card-trace-check-promise
use Rattle.card.proofs.card_word_reading.Kinds as card-word-reading
use Rattle.card.proofs.card_word_reading.Reads as card-word-reading-promise
use Rattle.card.proofs.card_settings_check.Kinds as card-settings-check
use Rattle.card.proofs.card_settings_check.Reads as card-settings-check-promise
use Rattle.copier.proofs.copy.Kinds as copier-copy
use Rattle.copier.proofs.copy.Reads as copier-copy-promise
use Rattle.copier.proofs.fill.Kinds as copier-fill
use Rattle.copier.proofs.fill.Reads as copier-fill-promise
use Rattle.copier.proofs.copy_long.Kinds as copier-copy-long
use Rattle.copier.proofs.copy_long.Reads as copier-copy-long-promise
use Rattle.copier.proofs.copy_part.Kinds as copier-copy-part
use Rattle.copier.proofs.copy_part.Reads as copier-copy-part-promise
use Rattle.copier.proofs.copy_at.Kinds as copier-copy-at
use Rattle.copier.proofs.copy_at.Reads as copier-copy-at-promise
use Rattle.records.proofs.Kind.old.Kinds as records-kind-old
use Rattle.records.proofs.Kind.old.Reads as records-kind-old-promise
use Rattle.records.proofs.Kind.record_at.Kinds as records-kind-record-at
use Rattle.records.proofs.Kind.record_at.Reads as records-kind-record-at-promise
use Rattle.records.proofs.File.record.Kinds as records-file-record
use Rattle.records.proofs.File.record.Reads as records-file-record-promise
use Rattle.records.proofs.Record.fault.Kinds as records-record-fault
use Rattle.records.proofs.Record.fault.Reads as records-record-fault-promise
use Rattle.records.proofs.Record.label.Kinds as records-record-label
use Rattle.records.proofs.Record.label.Reads as records-record-label-promise
use Rattle.records.proofs.Record.flags.Kinds as records-record-flags
use Rattle.records.proofs.Record.flags.Reads as records-record-flags-promise
use Rattle.records.proofs.Places.numbers.Kinds as records-places-numbers
use Rattle.records.proofs.Places.numbers.Reads as records-places-numbers-promise
use Rattle.records.proofs.Record.circuit.Kinds as records-record-circuit
use Rattle.records.proofs.Record.circuit.Reads as records-record-circuit-promise
use Rattle.records.proofs.Record.trace.Kinds as records-record-trace
use Rattle.records.proofs.Record.trace.Reads as records-record-trace-promise
use Rattle.text.proofs.Writer.bytes.Kinds as text-writer-bytes
use Rattle.text.proofs.Writer.bytes.Reads as text-writer-bytes-promise
use Rattle.text.proofs.Writer.byte.Kinds as text-writer-byte
use Rattle.text.proofs.Writer.byte.Reads as text-writer-byte-promise
use Rattle.text.proofs.Writer.decimal.Kinds as text-writer-decimal
use Rattle.text.proofs.Writer.decimal.Reads as text-writer-decimal-promise
use Rattle.text.proofs.Writer.hex.Kinds as text-writer-hex
use Rattle.text.proofs.Writer.hex.Reads as text-writer-hex-promise
use Rattle.split.proofs.from.Kinds as Split-from
use Rattle.split.proofs.from.Reads as split-from-promise
use Rattle.split.proofs.before.Kinds as split-before
use Rattle.split.proofs.before.Reads as split-before-promise
use Rattle.split.proofs.behind.Kinds as split-behind
use Rattle.split.proofs.behind.Reads as split-behind-promise
use Rattle.split.proofs.begins.Kinds as split-begins
use Rattle.split.proofs.begins.Reads as split-begins-promise
use Rattle.digits.proofs.is_number.Kinds as digits-is-number
use Rattle.digits.proofs.is_number.Reads as digits-is-number-promise
use Rattle.digits.proofs.value.Kinds as digits_value
use Rattle.digits.proofs.value.Reads as digits-value-promise
use Rattle.digits.proofs.is_label.Kinds as digits-is-label
use Rattle.digits.proofs.is_label.Reads as digits-is-label-promise
use Rattle.digits.proofs.label.Kinds as digits-label
use Rattle.digits.proofs.label.Reads as digits-label-promise
use Rattle.quotes.proofs.behind.Kinds as quotes-behind
use Rattle.quotes.proofs.behind.Reads as quotes-behind-promise
use Rattle.quotes.proofs.count.Kinds as quotes-count
use Rattle.quotes.proofs.count.Reads as quotes-count-promise
use Rattle.quotes.proofs.characters.Kinds as quotes-characters
use Rattle.quotes.proofs.characters.Reads as quotes-characters-promise
use Rattle.quotes.proofs.double.Kinds as quotes-double
use Rattle.quotes.proofs.double.Reads as quotes-double-promise
use Rattle.record_line.proofs.lines.Kinds as record-line-lines
use Rattle.record_line.proofs.lines.Reads as record-line-lines-promise
use Rattle.refusal_line.proofs.write.Kinds as refusal-line-write
use Rattle.refusal_line.proofs.write.Reads as refusal-line-write-promise
use Rattle.sheet_line.proofs.answer.Kinds as sheet-line-answer
use Rattle.sheet_line.proofs.answer.Reads as sheet-line-answer-promise
use Rattle.sheet_line.proofs.record.Kinds as sheet-line-record
use Rattle.sheet_line.proofs.record.Reads as sheet-line-record-promise
use Rattle.sheet_refusals.proofs.Refusal.number.Kinds as sheet-refusals-refusal-number
use Rattle.sheet_refusals.proofs.Refusal.number.Reads as sheet-refusals-refusal-number-promise
use Rattle.sheet_refusals.proofs.Refusal.places.Kinds as sheet-refusals-refusal-places
use Rattle.sheet_refusals.proofs.Refusal.places.Reads as sheet-refusals-refusal-places-promise
use Rattle.importing.proofs.import.Kinds as importing-import
use Rattle.importing.proofs.import.Reads as importing-import-promise
use Rattle.exporting.proofs.export.Kinds as exporting-export
use Rattle.exporting.proofs.export.Reads as exporting-export-promise
use Rattle.listing.proofs.list.Kinds as listing-list
use Rattle.listing.proofs.list.Reads as listing-list-promise
use Rattle.probe.proofs.probe_copy.Kinds as probe-copy
use Rattle.probe.proofs.probe_copy.Reads as probe-copy-promise
use Rattle.probe.proofs.probe_start_byte.Kinds as probe-start-byte
use Rattle.probe.proofs.probe_start_byte.Reads as probe-start-byte-promise
use Rattle.probe.proofs.probe_plain_word.Kinds as probe-plain-word
use Rattle.probe.proofs.probe_plain_word.Reads as probe-plain-word-promise
use Rattle.probe.proofs.probe_adjusting_word.Kinds as probe-adjusting-word
use Rattle.probe.proofs.probe_adjusting_word.Reads as probe-adjusting-word-promise
use Rattle.probe.proofs.probe_inverted.Kinds as probe-inverted
use Rattle.probe.proofs.probe_inverted.Reads as probe-inverted-promise
use Rattle.probe.proofs.probe_check.Kinds as probe-check
use Rattle.probe.proofs.probe_check.Reads as probe-check-promise
use Rattle.probe.proofs.probe_lookup.Kinds as probe-lookup
use Rattle.probe.proofs.probe_lookup.Reads as probe-lookup-promise
use Rattle.probe.proofs.probe_import.Kinds as probe-import
use Rattle.probe.proofs.probe_import.Reads as probe-import-promise
use Rattle.probe.proofs.probe_export.Kinds as probe-export
use Rattle.probe.proofs.probe_export.Reads as probe-export-promise
use Rattle.probe.proofs.probe_list.Kinds as probe-list
use Rattle.probe.proofs.probe_list.Reads as probe-list-promise

-- whatever f reads off the result and off the parameters at exit; n is the number of references among the parameters
abbrev pub Determines : {O : Type 0} (n : ℕ) (ps : List (ParamKind n)) (r : ResultKind n) → Out n ps r → ((κs : Lfts n) → (res_t r κs).Denot → AtExit (ended_of n ps r) κs → O) → Type 0
Determines n ps r Post f =
    (κs : Lfts n) (a : Dens κs ps) (x y : (res_t r κs).Denot) (s t : AtExit (ended_of n ps r) κs) → Post κs a x s → Post κs a y t → f κs x s ≡ f κs y t

-- ---- parity

pub parity_determined : Determines {O = ℕ} 1 parity.ps parity.r parity-promise.Post (λ κs r e. r)
parity_determined κs a x y s t p q = p ∙ sym q

-- ---- trace_message

pub trace_message_start_byte_determined : Determines {O = ℕ} 1 trace-message-start-byte.ps trace-message-start-byte.r trace-message-start-byte-promise.Post (λ κs r e. r)
trace_message_start_byte_determined κs a x y s t p q = p ∙ sym q

pub trace_message_good_message_determined : Determines {O = Bool} 1 trace-message-good-message.ps trace-message-good-message.r trace-message-good-message-promise.Post (λ κs r e. r)
trace_message_good_message_determined κs a x y s t p q = p ∙ sym q

pub trace_message_trace_check_determined : Determines {O = Bool} 1 trace-message-trace-check.ps trace-message-trace-check.r trace-message-trace-check-promise.Post (λ κs r e. r)
trace_message_trace_check_determined κs a x y s t p q = p ∙ sym q

pub trace_message_same_determined : Determines {O = Bool} 2 trace-message-same.ps trace-message-same.r trace-message-same-promise.Post (λ κs r e. r)
trace_message_same_determined κs a x y s t p q = p ∙ sym q

-- ---- settings

pub settings_label_refused_determined : Determines {O = Bool} 0 settings-label-refused.ps settings-label-refused.r settings-label-refused-promise.Post (λ κs r e. r)
settings_label_refused_determined κs a x y s t p q = p ∙ sym q

pub settings_trace_answer_determined : Determines {O = Result ⊤ TraceFault} 1 settings-trace-answer.ps settings-trace-answer.r settings-trace-answer-promise.Post (λ κs r e. r)
settings_trace_answer_determined κs a x y s t p q = p ∙ sym q

pub settings_flags_of_determined : Determines {O = Flags} 0 settings-flags-of.ps settings-flags-of.r settings-flags-of-promise.Post (λ κs r e. r)
settings_flags_of_determined κs a x y s t p q = p ∙ sym q

pub settings_path_answer_determined : Determines {O = Result ⊤ Refusal} 1 settings-path-answer.ps settings-path-answer.r settings-path-answer-promise.Post (λ κs r e. r)
settings_path_answer_determined κs a x y s t p q = p ∙ sym q

pub settings_answer_determined : Determines {O = Result ⊤ Refusal} 0 settings-answer.ps settings-answer.r settings-answer-promise.Post (λ κs r e. r)
settings_answer_determined κs a x y s t p q = p ∙ sym q

pub settings_answer_alone_determined : Determines {O = Result ⊤ Refusal} 1 settings-answer-alone.ps settings-answer-alone.r settings-answer-alone-promise.Post (λ κs r e. r)
settings_answer_alone_determined κs a x y s t p q = p ∙ sym q

-- ---- word

pub word_of_determined : Determines {O = ℕ} 0 word_of.ps word_of.r word-of-promise.Post (λ κs r e. r)
word_of_determined κs a x y s t p q = p ∙ sym q

pub word_h1_determined : Determines {O = ℕ} 0 word-h1.ps word-h1.r word-h1-promise.Post (λ κs r e. r)
word_h1_determined κs a x y s t p q = p ∙ sym q

pub word_h2_determined : Determines {O = ℕ} 0 word-h2.ps word-h2.r word-h2-promise.Post (λ κs r e. r)
word_h2_determined κs a x y s t p q = p ∙ sym q

pub word_kind_determined : Determines {O = Ndf} 0 word-kind.ps word-kind.r word-kind-promise.Post (λ κs r e. r)
word_kind_determined κs a x y s t p q = p ∙ sym q

pub word_ss_determined : Determines {O = ℕ} 0 word-ss.ps word-ss.r word-ss-promise.Post (λ κs r e. r)
word_ss_determined κs a x y s t p q = p ∙ sym q

pub word_value_determined : Determines {O = ℕ} 0 word_value.ps word_value.r word-value-promise.Post (λ κs r e. r)
word_value_determined κs a x y s t p q = p ∙ sym q

pub word_reading_determined : Determines {O = ℕ} 1 word-reading.ps word-reading.r word-reading-promise.Post (λ κs r e. r)
word_reading_determined κs a x y s t p q = p ∙ sym q

pub word_of_kind_determined : Determines {O = Bool} 0 word-of-kind.ps word-of-kind.r word-of-kind-promise.Post (λ κs r e. r)
word_of_kind_determined κs a x y s t p q = p ∙ sym q

pub word_is_good_determined : Determines {O = Bool} 0 word-is-good.ps word-is-good.r word-is-good-promise.Post (λ κs r e. r)
word_is_good_determined κs a x y s t p q = p ∙ sym q

pub word_inverted_at_determined : Determines {O = ℕ} 0 word-inverted-at.ps word-inverted-at.r word-inverted-at-promise.Post (λ κs r e. r)
word_inverted_at_determined κs a x y s t p q = p ∙ sym q

pub word_plain_determined : Determines {O = ℕ} 0 word-plain.ps word-plain.r word-plain-promise.Post (λ κs r e. r)
word_plain_determined κs a x y s t p q = p ∙ sym q

pub word_adjusting_determined : Determines {O = ℕ} 0 word-adjusting.ps word-adjusting.r word-adjusting-promise.Post (λ κs r e. r)
word_adjusting_determined κs a x y s t p q = p ∙ sym q

-- ---- catalogue

pub pairs_first_repeat_determined : Determines {O = Visited} 1 pairs-first-repeat.ps pairs-first-repeat.r pairs-first-repeat-promise.Post (λ κs r e. r)
pairs_first_repeat_determined κs a x y s t p q = p ∙ sym q

pub catalogue_check_determined : Determines {O = Counted} 1 catalogue-check.ps catalogue-check.r catalogue-check-promise.Post (λ κs r e. r)
catalogue_check_determined κs a x y s t p q = p.answer_is ∙ sym q.answer_is

pub catalogue_lookup_determined : Determines {O = Result Entry of-records.Refusal} 1 catalogue-lookup.ps catalogue-lookup.r catalogue-lookup-promise.Post (λ κs r e. r)
catalogue_lookup_determined κs a x y s t p q = p.answer_is ∙ sym q.answer_is

pub records_refusal_number_determined : Determines {O = ℕ} 0 records-refusal-number.ps records-refusal-number.r records-refusal-number-promise.Post (λ κs r e. r)
records_refusal_number_determined κs a x y s t p q = p ∙ sym q

pub records_refusal_places_determined : Determines {O = Places} 0 records-refusal-places.ps records-refusal-places.r records-refusal-places-promise.Post (λ κs r e. r)
records_refusal_places_determined κs a x y s t p q = p ∙ sym q

pub records_places_numbers_determined : Determines {O = ℕ × ℕ} 0 records-places-numbers.ps records-places-numbers.r records-places-numbers-promise.Post (λ κs r e. r)
records_places_numbers_determined κs a x y s t p q = p ∙ sym q

-- ---- card

pub card_parity_determined : Determines {O = ℕ} 1 card-parity.ps card-parity.r card-parity-promise.Post (λ κs r e. r)
card_parity_determined κs a x y s t p q = p ∙ sym q

pub card_trace_check_determined : Determines {O = Bool} 1 card-trace-check.ps card-trace-check.r card-trace-check-promise.Post (λ κs r e. r)
card_trace_check_determined κs a x y s t p q = p ∙ sym q

pub card_word_reading_determined : Determines {O = ℕ} 1 card-word-reading.ps card-word-reading.r card-word-reading-promise.Post (λ κs r e. r)
card_word_reading_determined κs a x y s t p q = p ∙ sym q

pub card_settings_check_determined : Determines {O = CardRefusal} 1 card-settings-check.ps card-settings-check.r card-settings-check-promise.Post (λ κs r e. r)
card_settings_check_determined κs a x y s t p q = p ∙ sym q

-- ---- records: what is read of one, the bytes of the part that is handed back

pub records_kind_old_determined : Determines {O = Kind} 0 records-kind-old.ps records-kind-old.r records-kind-old-promise.Post (λ κs r e. r)
records_kind_old_determined κs a x y s t p q = p ∙ sym q

pub records_kind_record_at_determined : Determines {O = List ℕ} 1 records-kind-record-at.ps records-kind-record-at.r records-kind-record-at-promise.Post (λ κs r e. r.bytes.now)
records_kind_record_at_determined κs a x y s t p q = p ∙ sym q

pub records_file_record_determined : Determines {O = List ℕ} 1 records-file-record.ps records-file-record.r records-file-record-promise.Post (λ κs r e. r.bytes.now)
records_file_record_determined κs a x y s t p q = p ∙ sym q

pub records_record_trace_determined : Determines {O = List ℕ} 1 records-record-trace.ps records-record-trace.r records-record-trace-promise.Post (λ κs r e. r.now)
records_record_trace_determined κs a x y s t p q = p.0 ∙ sym q.0

pub records_record_fault_determined : Determines {O = Result ⊤ of-records.Refusal} 1 records-record-fault.ps records-record-fault.r records-record-fault-promise.Post (λ κs r e. r)
records_record_fault_determined κs a x y s t p q = p ∙ sym q

pub records_record_label_determined : Determines {O = ℕ} 1 records-record-label.ps records-record-label.r records-record-label-promise.Post (λ κs r e. r)
records_record_label_determined κs a x y s t p q = p ∙ sym q

pub records_record_flags_determined : Determines {O = ℕ} 1 records-record-flags.ps records-record-flags.r records-record-flags-promise.Post (λ κs r e. r)
records_record_flags_determined κs a x y s t p q = p ∙ sym q

pub records_record_circuit_determined : Determines {O = ℕ} 1 records-record-circuit.ps records-record-circuit.r records-record-circuit-promise.Post (λ κs r e. r)
records_record_circuit_determined κs a x y s t p q = p ∙ sym q

-- ---- bytes parted, digits and quotes read: numbers, tests, and the bytes of the part that is handed back

pub split_from_determined : Determines {O = List ℕ} 1 Split-from.ps Split-from.r split-from-promise.Post (λ κs r e. r.now)
split_from_determined κs a x y s t p q = p ∙ sym q

pub split_before_determined : Determines {O = List ℕ} 1 split-before.ps split-before.r split-before-promise.Post (λ κs r e. r.now)
split_before_determined κs a x y s t p q = p ∙ sym q

pub split_behind_determined : Determines {O = List ℕ} 1 split-behind.ps split-behind.r split-behind-promise.Post (λ κs r e. r.now)
split_behind_determined κs a x y s t p q = p ∙ sym q

pub split_begins_determined : Determines {O = Bool} 1 split-begins.ps split-begins.r split-begins-promise.Post (λ κs r e. r)
split_begins_determined κs a x y s t p q = p ∙ sym q

pub digits_is_number_determined : Determines {O = Bool} 1 digits-is-number.ps digits-is-number.r digits-is-number-promise.Post (λ κs r e. r)
digits_is_number_determined κs a x y s t p q = p ∙ sym q

pub digits_value_determined : Determines {O = ℕ} 1 digits_value.ps digits_value.r digits-value-promise.Post (λ κs r e. r)
digits_value_determined κs a x y s t p q = p.0 ∙ sym q.0

pub digits_is_label_determined : Determines {O = Bool} 1 digits-is-label.ps digits-is-label.r digits-is-label-promise.Post (λ κs r e. r)
digits_is_label_determined κs a x y s t p q = p ∙ sym q

pub digits_label_determined : Determines {O = ℕ} 1 digits-label.ps digits-label.r digits-label-promise.Post (λ κs r e. r)
digits_label_determined κs a x y s t p q = p ∙ sym q

pub quotes_behind_determined : Determines {O = List ℕ} 1 quotes-behind.ps quotes-behind.r quotes-behind-promise.Post (λ κs r e. r.now)
quotes_behind_determined κs a x y s t p q = p ∙ sym q

pub quotes_count_determined : Determines {O = ℕ} 1 quotes-count.ps quotes-count.r quotes-count-promise.Post (λ κs r e. r)
quotes_count_determined κs a x y s t p q = p ∙ sym q

-- ---- a line of a spreadsheet, and the import's refusals

pub sheet_line_answer_determined : Determines {O = Result ⊤ LineFault} 1 sheet-line-answer.ps sheet-line-answer.r sheet-line-answer-promise.Post (λ κs r e. r)
sheet_line_answer_determined κs a x y s t p q = p ∙ sym q

pub sheet_refusals_refusal_number_determined : Determines {O = ℕ} 0 sheet-refusals-refusal-number.ps sheet-refusals-refusal-number.r sheet-refusals-refusal-number-promise.Post (λ κs r e. r)
sheet_refusals_refusal_number_determined κs a x y s t p q = p ∙ sym q

pub sheet_refusals_refusal_places_determined : Determines {O = Places} 0 sheet-refusals-refusal-places.ps sheet-refusals-refusal-places.r sheet-refusals-refusal-places-promise.Post (λ κs r e. r)
sheet_refusals_refusal_places_determined κs a x y s t p q = p ∙ sym q

-- ---- lent buffers: every byte of them. A parameter's list at exit stands at its place among the parameters

pub copier_copy_determined : Determines {O = List ℕ} 2 copier-copy.ps copier-copy.r copier-copy-promise.Post (λ κs r e. e.1.0.now)
copier_copy_determined κs a x y s t p q = p ∙ sym q

pub copier_fill_determined : Determines {O = List ℕ} 1 copier-fill.ps copier-fill.r copier-fill-promise.Post (λ κs r e. e.0.now)
copier_fill_determined κs a x y s t p q = p ∙ sym q

pub copier_copy_long_determined : Determines {O = List ℕ} 2 copier-copy-long.ps copier-copy-long.r copier-copy-long-promise.Post (λ κs r e. e.1.0.now)
copier_copy_long_determined κs a x y s t p q = p ∙ sym q

pub copier_copy_part_determined : Determines {O = List ℕ} 2 copier-copy-part.ps copier-copy-part.r copier-copy-part-promise.Post (λ κs r e. e.1.0.now)
copier_copy_part_determined κs a x y s t p q = p ∙ sym q

pub copier_copy_at_determined : Determines {O = List ℕ} 2 copier-copy-at.ps copier-copy-at.r copier-copy-at-promise.Post (λ κs r e. e.1.0.now)
copier_copy_at_determined κs a x y s t p q = p ∙ sym q

-- an answer and a buffer
pub record Left : Type 0 where
  pub answer : ℕ
  pub buffer : List ℕ

left_same : {m n : ℕ} {b c : List ℕ} → m ≡ n → b ≡ c → ◌≡◌ {A = Left} (record { answer = m; buffer = b }) (record { answer = n; buffer = c })
left_same d e = rw (d, e)

-- what a writer has: the place, and every byte of its buffer
pub record Held : Type 0 where
  pub at : ℕ
  pub out : List ℕ

held_same : {m n : ℕ} {b c : List ℕ} → m ≡ n → b ≡ c → ◌≡◌ {A = Held} (record { at = m; out = b }) (record { at = n; out = c })
held_same d e = rw (d, e)

pub text_writer_bytes_determined : Determines {O = Held} 3 text-writer-bytes.ps text-writer-bytes.r text-writer-bytes-promise.Post (λ κs r e. record { at = e.0.now.at; out = e.0.now.out.now })
text_writer_bytes_determined κs a x y s t p q = held_same (p.next_is ∙ sym q.next_is) (p.now_is ∙ sym q.now_is)

pub text_writer_byte_determined : Determines {O = Held} 2 text-writer-byte.ps text-writer-byte.r text-writer-byte-promise.Post (λ κs r e. record { at = e.0.now.at; out = e.0.now.out.now })
text_writer_byte_determined κs a x y s t p q = held_same (p.next_is ∙ sym q.next_is) (p.now_is ∙ sym q.now_is)

pub text_writer_decimal_determined : Determines {O = Held} 2 text-writer-decimal.ps text-writer-decimal.r text-writer-decimal-promise.Post (λ κs r e. record { at = e.0.now.at; out = e.0.now.out.now })
text_writer_decimal_determined κs a x y s t p q = held_same (p.next_is ∙ sym q.next_is) (p.now_is ∙ sym q.now_is)

pub text_writer_hex_determined : Determines {O = Held} 2 text-writer-hex.ps text-writer-hex.r text-writer-hex-promise.Post (λ κs r e. record { at = e.0.now.at; out = e.0.now.out.now })
text_writer_hex_determined κs a x y s t p q = held_same (p.next_is ∙ sym q.next_is) (p.now_is ∙ sym q.now_is)

pub quotes_characters_determined : Determines {O = Held} 3 quotes-characters.ps quotes-characters.r quotes-characters-promise.Post (λ κs r e. record { at = e.0.now.at; out = e.0.now.out.now })
quotes_characters_determined κs a x y s t p q = held_same (p.next_is ∙ sym q.next_is) (p.now_is ∙ sym q.now_is)

pub quotes_double_determined : Determines {O = Held} 3 quotes-double.ps quotes-double.r quotes-double-promise.Post (λ κs r e. record { at = e.0.now.at; out = e.0.now.out.now })
quotes_double_determined κs a x y s t p q = held_same (p.next_is ∙ sym q.next_is) (p.now_is ∙ sym q.now_is)

pub record_line_lines_determined : Determines {O = Held} 3 record-line-lines.ps record-line-lines.r record-line-lines-promise.Post (λ κs r e. record { at = e.1.0.now.at; out = e.1.0.now.out.now })
record_line_lines_determined κs a x y s t p q = held_same (p.next_is ∙ sym q.next_is) (p.now_is ∙ sym q.now_is)

pub refusal_line_write_determined : Determines {O = Left} 1 refusal-line-write.ps refusal-line-write.r refusal-line-write-promise.Post (λ κs r e. record { answer = r; buffer = e.0.now })
refusal_line_write_determined κs a x y s t p q = left_same (p.written.next_is ∙ sym q.written.next_is) (p.written.now_is ∙ sym q.written.now_is)

pub sheet_line_record_determined : Determines {O = Held} 3 sheet-line-record.ps sheet-line-record.r sheet-line-record-promise.Post (λ κs r e. record { at = e.0.now.at; out = e.0.now.out.now })
sheet_line_record_determined κs a x y s t p q = held_same (p.next_is ∙ sym q.next_is) (p.now_is ∙ sym q.now_is)

-- the import and the export: the answer, and every byte of the buffer
pub importing_import_determined : Determines {O = Result ℕ of-sheets.Refusal} 2 importing-import.ps importing-import.r importing-import-promise.Post (λ κs r e. r)
importing_import_determined κs a x y s t p q = p.answer_is ∙ sym q.answer_is

pub importing_import_buffer_determined : Determines {O = List ℕ} 2 importing-import.ps importing-import.r importing-import-promise.Post (λ κs r e. e.1.0.now)
importing_import_buffer_determined κs a x y s t p q = p.now_is ∙ sym q.now_is

pub exporting_export_determined : Determines {O = Result ℕ of-records.Refusal} 2 exporting-export.ps exporting-export.r exporting-export-promise.Post (λ κs r e. r)
exporting_export_determined κs a x y s t p q = p.answer_is ∙ sym q.answer_is

pub exporting_export_buffer_determined : Determines {O = List ℕ} 2 exporting-export.ps exporting-export.r exporting-export-promise.Post (λ κs r e. e.1.0.now)
exporting_export_buffer_determined κs a x y s t p q = p.now_is ∙ sym q.now_is

pub listing_list_determined : Determines {O = Left} 2 listing-list.ps listing-list.r listing-list-promise.Post (λ κs r e. record { answer = r; buffer = e.1.0.now })
listing_list_determined κs a x y s t p q = left_same (p.length_is ∙ sym q.length_is) (p.now_is ∙ sym q.now_is)

-- ---- probe

pub probe_start_byte_determined : Determines {O = ℕ} 1 probe-start-byte.ps probe-start-byte.r probe-start-byte-promise.Post (λ κs r e. r)
probe_start_byte_determined κs a x y s t p q = p ∙ sym q

pub probe_plain_word_determined : Determines {O = ℕ} 0 probe-plain-word.ps probe-plain-word.r probe-plain-word-promise.Post (λ κs r e. r)
probe_plain_word_determined κs a x y s t p q = p ∙ sym q

pub probe_adjusting_word_determined : Determines {O = ℕ} 0 probe-adjusting-word.ps probe-adjusting-word.r probe-adjusting-word-promise.Post (λ κs r e. r)
probe_adjusting_word_determined κs a x y s t p q = p ∙ sym q

pub probe_inverted_determined : Determines {O = ℕ} 0 probe-inverted.ps probe-inverted.r probe-inverted-promise.Post (λ κs r e. r)
probe_inverted_determined κs a x y s t p q = p ∙ sym q

pub probe_check_determined : Determines {O = ℕ} 1 probe-check.ps probe-check.r probe-check-promise.Post (λ κs r e. r)
probe_check_determined κs a x y s t p q = p ∙ sym q

pub probe_copy_answer_determined : Determines {O = Bool} 2 probe-copy.ps probe-copy.r probe-copy-promise.Post (λ κs r e. r)
probe_copy_answer_determined κs a x y s t p q = p.0 ∙ sym q.0

pub probe_copy_buffer_determined : Determines {O = List ℕ} 2 probe-copy.ps probe-copy.r probe-copy-promise.Post (λ κs r e. e.1.0.now)
probe_copy_buffer_determined κs a x y s t p q = p.1 ∙ sym q.1

pub probe_lookup_determined : Determines {O = Left} 2 probe-lookup.ps probe-lookup.r probe-lookup-promise.Post (λ κs r e. record { answer = r; buffer = e.1.1.0.now })
probe_lookup_determined κs a x y s t p q = left_same (p.0 ∙ sym q.0) (p.1 ∙ sym q.1)

pub probe_import_determined : Determines {O = Left} 2 probe-import.ps probe-import.r probe-import-promise.Post (λ κs r e. record { answer = r; buffer = e.1.0.now })
probe_import_determined κs a x y s t p q = left_same (p.0 ∙ sym q.0) (p.1 ∙ sym q.1)

pub probe_export_determined : Determines {O = Left} 2 probe-export.ps probe-export.r probe-export-promise.Post (λ κs r e. record { answer = r; buffer = e.1.0.now })
probe_export_determined κs a x y s t p q = left_same (p.0 ∙ sym q.0) (p.1 ∙ sym q.1)

pub probe_list_determined : Determines {O = Left} 2 probe-list.ps probe-list.r probe-list-promise.Post (λ κs r e. record { answer = r; buffer = e.1.0.now })
probe_list_determined κs a x y s t p q = left_same (p.length_is ∙ sym q.length_is) (p.now_is ∙ sym q.now_is)
