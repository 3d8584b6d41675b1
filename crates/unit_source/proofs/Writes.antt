-- What `write` has to show: a unit that is ready has room for header and run, and its two containers have the bytes. Assumes nothing.
use mathlib.Core.Path.{◌≡◌, ◌∙◌}
use mathlib.Core.List.{List, ◌++◌}
use Prim.Native.Nat.{ℕ, ◌-◌}
use native.Mathlib.Omega.{arith}
use lib.ListN.{length, take, drop}
use Rattle.shape.specs.Shape.{Shape, Fit, held_count, run_from}
use Rattle.shape.specs.declared.Adjustment.{Adjustment}
use Rattle.shape.proofs.Offsets.{held_low, run_begins}
use Rattle.unit.specs.Unit.{head_of, run_of}
use Rattle.unit.specs.Inner.{Head, Pour}
use Rattle.unit.proofs.Writing.{length_head, head_long, written_is}
use Rattle.unit_source.specs.Source.{word_sent, unit_sent}
use Rattle.unit_source.specs.Inner.{Ready}

module _ (s : Shape) (a : Adjustment) (v : ℕ) (c n d : List ℕ) (f : Fit s) (ready : Ready s v (length c) (length n) (length d)) (from : ℕ) (from_is : from ≡ run_from s.step a) where
  pub write_head : Head s.step from d
  write_head =
      let b = run_begins s.step a in
      record { some = f.some; behind = omega (arith, b.behind); within = omega (arith, b.before, f.two, ready.unit_is) }

  module _ (sent word : ℕ) (w : List ℕ) (sent_is : sent ≡ held_count s v) (word-is : word ≡ word_sent a v) (w_is : w ≡ head_of s.step word from ++ drop from d) where
    long : length (head_of s.step word from) ≡ from
    long = length_head s.step word from write_head.some write_head.behind

    pub write_pour : Pour c n sent from w
    write_pour =
        let b = run_begins s.step a in
        let k = held_low s v f in
        let l : length w ≡ length d = head_long (head_of s.step word from) d w from w_is long write_head.within in
        record {
          within = omega (arith, write_head.within);
          begun = omega (arith, k, ready.current_is);
          enough = omega (arith, k, b.behind, b.before, ready.current_is, ready.next_is, ready.unit_is);
        }

    pub write_unit : (u : List ℕ) → u ≡ take from w ++ run_of (length w - from) sent c n → u ≡ unit_sent s a v c n
    unfolding unit_sent
    write_unit u u-is =
        u-is ∙ written_is (head_of s.step word from) d w c n from sent w_is long write_head.within
        ∙ rw (ready.unit_is, from_is, sent_is, word-is)
