-- Containers out of a unit: 01, "Containers out of a unit", for every shape.
-- In every unit the bytes of containers lie in one run, up to the unit's end. The held bytes and this run are one line of bytes, and every `size` of them are a container;
-- what is left over is held. How the word was taken comes to two numbers:
--   kept, the held bytes that the unit goes on with: 0 where none are held, or where they were dropped;
--   from, the place where its run begins, counted from H1.
use Rattle.std.specs.Prelude.{Bool, cond, List, [], ◌∷◌, ◌++◌, ℕ, ◌+◌, ◌-◌, ◌*◌, take, drop, ltb, leb}
use Rattle.shape.specs.Shape.{Shape, unit_length}
use Rattle.cut.specs.declared.Cut.{Cut}

-- ---- the cut, as numbers

-- the place after the container begun earlier: the unit has what the held bytes lack. The run's begin, where none are held
unfoldable pub next_of : Shape → ℕ → ℕ → ℕ
next_of s kept from = cond (ltb 0 kept) (from + (s.size - kept)) from

-- "one that begins and ends in this unit": it begins at byte offset 0, or before it in H3
unfoldable pub inside_of : Shape → ℕ → Bool
inside_of s next = leb next (3 * s.step)

-- "what begins and does not end": from this place on
unfoldable pub begin_of : Shape → ℕ → ℕ
begin_of s next = cond (inside_of s next) (next + s.size) next

unfoldable pub cut_of : Shape → ℕ → ℕ → Cut
cut_of s kept from =
    let next = next_of s kept from in
    record {
      kept = kept;
      from = from;
      ends = ltb 0 kept;
      next = next;
      inside = inside_of s next;
      begin = begin_of s next;
      rest = unit_length s - begin_of s next;
    }

-- ---- the containers that end

-- "one begun earlier is completed in the done buffer: the held bytes first, and a continuation is written from the held count on"
unfoldable pub completed_of : Shape → Cut → List ℕ → List ℕ → List ℕ
completed_of s c unit held = take c.kept held ++ take (s.size - c.kept) (drop c.from unit)

-- "one that begins and ends in this unit is handed back as that part of the unit itself"
unfoldable pub inside_part : Shape → Cut → List ℕ → List ℕ
inside_part s c unit = take s.size (drop c.next unit)

-- one container, or none
abbrev pub one_if : Bool → List ℕ → List (List ℕ)
one_if b x = cond b (x ∷ []) []

-- "up to two containers end in a unit", in this order
unfoldable pub ended_of : Shape → Cut → List ℕ → List ℕ → List (List ℕ)
ended_of s c unit held = one_if c.ends (completed_of s c unit held) ++ one_if c.inside (inside_part s c unit)

-- how many
unfoldable pub ended_count : Cut → ℕ
ended_count c = cond c.ends 1 0 + cond c.inside 1 0

-- ---- the buffers after the unit: "bytes of either buffer not named so keep their values"

unfoldable pub done_of : Shape → Cut → List ℕ → List ℕ → List ℕ → List ℕ
done_of s c unit held done = cond c.ends (completed_of s c unit held) done

-- "what begins and does not end goes to the held buffer from its first byte"
unfoldable pub held_of : Cut → List ℕ → List ℕ → List ℕ
held_of c unit held = drop c.begin unit ++ drop c.rest held
