-- The monitor after a unit, and the columns told in it, are those of the containers that ended, one after the other. Assumes nothing.
use mathlib.Core.Path.{◌≡◌, refl}
use mathlib.Core.Bool.{Bool, true, false, cond}
use mathlib.Core.List.{List, ◌++◌}
use Prim.Native.Nat.{ℕ}
use Rattle.shape.specs.Shape.{Shape}
use Rattle.cut.specs.Cut.{one_if, ended_count}
use Rattle.cut.specs.declared.Cut.{Cut}
use Rattle.monitor.specs.Monitoring.{seen_of}
use Rattle.monitor.specs.declared.Monitor.{Monitor}
use Rattle.settings.specs.declared.Settings.{Settings}
use Rattle.receiving.specs.Receiving.{watched, ended_in, both_seen}
use Rattle.settles_stream.specs.InOrder.{violated_told}
use Rattle.settles_stream.specs.Inner.{watched_all, violated_all}

-- whether or not each of the two ended
module _ (columns : ℕ) (completed inside : List ℕ) (m : Monitor) (e : Settings) where
  watched_by : (a b : Bool)
      → (watched b columns inside e (watched a columns completed e m).monitor).monitor ≡ watched_all columns e m (one_if a completed ++ one_if b inside)
  unfolding watched seen_of watched_all
  watched_by true true = refl
  watched_by true false = refl
  watched_by false true = refl
  watched_by false false = refl

  told_by : (a b : Bool) (number place : ℕ)
      → let first = watched a columns completed e m in
      let second = watched b columns inside e first.monitor in
      violated_told
      (record {
        number = number;
        completed = a;
        inside = b;
        place = place;
        first = record { violated = first.violated; returned = first.returned };
        second = record { violated = second.violated; returned = second.returned };
      })
      ≡ violated_all columns e m (one_if a completed ++ one_if b inside)
  unfolding watched seen_of violated_told violated_all
  told_by true true number place = refl
  told_by true false number place = refl
  told_by false true number place = refl
  told_by false false number place = refl

module _ (s : Shape) (c : Cut) (completed inside : List ℕ) (m : Monitor) (e : Settings) where
  -- "per container, in order": the monitor after the unit
  pub seen_all : (both_seen s c completed inside m e).monitor ≡ watched_all s.columns e m (one_if c.ends completed ++ one_if c.inside inside)
  unfolding both_seen
  seen_all = watched_by s.columns completed inside m e c.ends c.inside

  -- and what is told of each
  pub told_all : violated_told (both_seen s c completed inside m e).ended
      ≡ violated_all s.columns e m (one_if c.ends completed ++ one_if c.inside inside)
  unfolding both_seen ended_in
  told_all = told_by s.columns completed inside m e c.ends c.inside (ended_count c) (cond c.inside c.next 0)
