-- The rows P1 to P12 of 01, "Pointer words and units on both sides", as one statement; the "run only" line; and words in a row, from the fresh state and others.
-- Assumes nothing.
use mathlib.Core.Path.{◌≡◌, refl}
use mathlib.Core.List.{List, [], ◌∷◌, map}
use Prim.Native.Nat.{ℕ}
use native.Mathlib.Omega.{arith}
use borrow.Author.Tests.{le-leb}
use lib.Count.{ones, ones_in}
use lib.ListN.{replicate}
use Rattle.counts.specs.Counts.{more, run_on}
use Rattle.word.specs.Word.{kind_of, ss_of, number_of, value_of, of_kind, good, inverted}
use Rattle.shape.specs.Shape.{up_of, down_of, offset_after}
use Rattle.pointer_rules.specs.Rules.{no_run, run_after, elsewhere, adjustment, in_normal, in_alarm_or_lost, by_state, taken_as}
use Rattle.pointer_state.specs.declared.State.{State}
use Rattle.pointer_state.specs.declared.State.TheVariants.{Normal, Alarm, Lost}
use Rattle.pointer_rules.specs.declared.Taken.{Taken}
use Rattle.shape.specs.declared.Adjustment.TheVariants.{Increment, Decrement}
use Rattle.pointer_rules.specs.declared.Taken.TheVariants.{NewData, Resync, Adjusted, Plain, Invalid}
use Rattle.pointer_state.specs.State.{is_normal}
use Rattle.pointer.specs.Machine.{no_rows, fresh_pointer, rows_after, alarm_word, renewed, new_data, invalid, state_after, wait_after, taken_in, pointer_step}
use Rattle.pointer.specs.Words.{after_words, takens}
use Rattle.pointer.specs.declared.Pointer.{Pointer}

-- ---- the table

-- a row: the offset, the word, what it is taken as, and the offset after it
pub record Row : Type 0 where
  pub offset : ℕ
  pub word : ℕ
  pub taken : Taken
  pub leads : ℕ

pub row : ℕ → ℕ → Taken → ℕ → Row
row o w t l = record { offset = o; word = w; taken = t; leads = l }

-- P1 to P12, in their order
pub rows : List Row
rows =
    row 0 0x6800 Plain 0
    ∷ row 0 0x6aaa (Adjusted Increment 1) 1
    ∷ row 0 0x6955 (Adjusted Decrement 782) 782
    ∷ row 782 0x69a4 (Adjusted Increment 0) 0
    ∷ row 1 0x6954 (Adjusted Decrement 0) 0
    ∷ row 782 0x6800 (Adjusted Increment 0) 0
    ∷ row 0 0x6b0f Invalid 0
    ∷ row 0 0x6c00 Invalid 0
    ∷ row 0 0x7800 Plain 0
    ∷ row 0 0x0800 Invalid 0
    ∷ row 5 0x9800 (NewData 0) 0
    ∷ row 5 0x1801 (NewData 1) 1
    ∷ []

-- "Wait passed, state normal, the word the first of its run and row"
pub before : State → Pointer
before state = record { state = state; rows = no_rows; run = no_run; wait = 3 }

pub record Outcome : Type 0 where
  pub taken : Taken
  pub state : State

-- what the machine makes of a row's offset and word, and what the row says
unfoldable pub found : ℕ → Row → Outcome
unfolding pointer_step taken_in run_after run_on elsewhere up_of down_of offset_after adjustment in_normal in_alarm_or_lost by_state taken_as rows_after alarm_word renewed new_data invalid state_after is_normal wait_after kind_of ss_of number_of value_of of_kind good inverted ones ones_in
found top r = let a = pointer_step (before (Normal r.offset)) top r.word in record { taken = a.taken; state = a.pointer.state }

pub said : Row → Outcome
said r = record { taken = r.taken; state = Normal r.leads }

pub table : map (found 782) rows ≡ map said rows
unfolding rows row before found said
table = refl

-- P6 says "run 1": its word is in range, and the first of its run
pub p6_run : (pointer_step (before (Normal 782)) 782 0x6800).pointer.run.count ≡ 1
unfolding before found
p6_run = refl

-- ---- words in a row

-- "Run only: P2 with two units since the last adjustment is invalid"; with three it is an increment
pub too_soon : takens (before (Normal 782)) 782 (0x69a4 ∷ 0x6800 ∷ 0x6800 ∷ 0x6aaa ∷ 0x6aaa ∷ []) ≡ Adjusted Increment 0 ∷ Plain ∷ Plain ∷ Invalid ∷ Adjusted Increment 1 ∷ []
unfolding takens before found
too_soon = refl

-- rule 3, from the fresh state; it does not start the wait, so that an adjustment may follow at once
pub three_alike : takens fresh_pointer 782 (0x6800 ∷ 0x6800 ∷ 0x6800 ∷ 0x6aaa ∷ []) ≡ Plain ∷ Plain ∷ Resync 0 ∷ Adjusted Increment 1 ∷ []
unfolding fresh_pointer takens before found
three_alike = refl

-- "however else each was taken": two invalid words, three I and three D bits inverted, are in the run of the third
pub invalid_alike : takens (before (Normal 0)) 782 (0x68fc ∷ 0x68fc ∷ 0x68fc ∷ []) ≡ Invalid ∷ Invalid ∷ Resync 252 ∷ []
unfolding takens before found
invalid_alike = refl

-- where the first of the run has brought the offset there, as in P6, the third is plain
pub third_plain : takens (before (Normal 782)) 782 (0x6800 ∷ 0x6800 ∷ 0x6800 ∷ []) ≡ Adjusted Increment 0 ∷ Plain ∷ Plain ∷ []
unfolding takens before found
third_plain = refl

-- rule 1: "Three in a row lead to alarm from any state", of any pointer, in range or not
pub three_alarms : (top : ℕ) (s : Pointer) → (after_words s top (0xffff ∷ 0xffff ∷ 0xffff ∷ [])).state ≡ Alarm
unfolding after_words before found
three_alarms top s = rw (le-leb 3 (more (more (more s.rows.alarms 3) 3) 3) (omega arith))

-- ---- so many times the same word

-- from a state, so many times a word, and the state and the wait that it leads to
pub record Repeated : Type 0 where
  pub from : State
  pub times : ℕ
  pub word : ℕ
  pub to : State
  pub waits : ℕ

pub repeat : State → ℕ → ℕ → State → ℕ → Repeated
repeat p n w q k = record { from = p; times = n; word = w; to = q; waits = k }

-- rule 1: the third FFFF leads to alarm; rule 2: new data from normal or alarm is normal, the eighth lost, and in lost it changes nothing;
-- rule 3: the third alike leads to normal; rule 6: the eighth invalid leads to lost. Of these, new data that ended normal alone starts the wait anew.
pub repeats : List Repeated
repeats =
    repeat (Normal 5) 2 0xffff (Normal 5) 3
    ∷ repeat (Normal 5) 3 0xffff Alarm 3
    ∷ repeat Lost 3 0xffff Alarm 3
    ∷ repeat Alarm 1 0x9805 (Normal 5) 0
    ∷ repeat (Normal 0) 7 0x9805 (Normal 5) 0
    ∷ repeat (Normal 0) 8 0x9805 Lost 1
    ∷ repeat Alarm 8 0x9805 Lost 1
    ∷ repeat Lost 1 0x9805 Lost 3
    ∷ repeat Lost 2 0x6805 Lost 3
    ∷ repeat Lost 3 0x6805 (Normal 5) 3
    ∷ repeat Alarm 3 0x6805 (Normal 5) 3
    ∷ repeat (Normal 5) 7 0x0800 (Normal 5) 3
    ∷ repeat (Normal 5) 8 0x0800 Lost 3
    ∷ repeat Alarm 8 0x0800 Lost 3
    ∷ []

pub record Ended : Type 0 where
  pub state : State
  pub wait : ℕ

pub ending : Repeated → Ended
ending r = let s = after_words (before r.from) 782 (replicate r.times r.word) in record { state = s.state; wait = s.wait }

pub led : Repeated → Ended
led r = record { state = r.to; wait = r.waits }

pub repeated : map ending repeats ≡ map led repeats
unfolding repeats repeat before found after_words ending led
repeated = refl
