-- Laws of what a unit leaves: what its parts ask for, and that they come to the definition. Assumes nothing.
use Rattle.std.specs.Prelude.{Option, Some}
use mathlib.Core.Path.{◌≡◌, refl, sym, ap, ◌∙◌}
use mathlib.Core.Bool.{Bool, true, false}
use mathlib.Core.List.{List, [], ◌∷◌}
use Prim.Native.Nat.{ℕ, zero, suc, ◌+◌, ◌-◌, ◌*◌, ◌<◌, ◌≤◌, ◌^◌}
use native.Mathlib.Omega.{arith}
use lib.ListN.{get_or, length, take, drop}
use Rattle.copier.proofs.Parts.{length_part}
use Rattle.shape.specs.Shape.{Shape, Fit, unit_length}
use Rattle.pointer_rules.specs.declared.Taken.{Taken}
use Rattle.cut.specs.Cut.{cut_of, completed_of, inside_part, done_of, held_of}
use Rattle.cut.specs.Inner.{Line, Cuts}
use Rattle.cut.specs.declared.Cut.{Cut}
use Rattle.cut.proofs.Within.{inside_fits}
use Rattle.monitor.specs.Seeing.{seen_in}
use Rattle.monitor.specs.declared.Monitor.{Monitor}
use Rattle.monitor.specs.declared.Overhead.{Overhead}
use Rattle.settings.specs.declared.Settings.{Settings}
use Rattle.monitor.specs.declared.Seen.{Seen}
use Rattle.receiving.specs.declared.Ended.{Ended}
use Rattle.receiving.specs.declared.Begin.{Begin}
use Rattle.receiving.specs.declared.AfterUnit.{AfterUnit}
use Rattle.receiving.specs.InnerTurns.{seen_where, taken, taken_both}
use Rattle.receiving.specs.Receiving.{begin_in, cut_in, not_seen, watched, ended_in, both_seen, received_normal, monitor_in}
use Rattle.receiving.specs.Inner.{NormalOutcomeIs, Inside, Seeable, Receivable}

-- ---- what is watched

some_columns : (s : Shape) → Fit s → 0 < s.columns
some_columns s f = omega (arith, f.nine, f.two, f.some)

-- what is seen in the done buffer is the completed container, where one was completed
watched_done : (s : Shape) (c : Cut) (unit held done : List ℕ) (e : Settings) (m : Monitor) (b : Bool) → c.ends ≡ b
    → watched b s.columns (done_of s c unit held done) e m ≡ watched b s.columns (completed_of s c unit held) e m
unfolding watched done_of
watched_done s c unit held done e m true h = rw h refl
watched_done s c unit held done e m false h = refl

-- ---- what is seen and taken in

-- what is seen where it ended, taken in where it ended
taken_watched : (ended : Bool) (columns : ℕ) (container : List ℕ) (e : Settings) (m : Monitor)
    → taken (seen_where ended columns container) e m ≡ watched ended columns container e m
unfolding watched
taken_watched true columns container e m = refl
taken_watched false columns container e m = refl

-- what can be watched is long enough
pub done_long : (s : Shape) (done : List ℕ) → Fit s → length done ≡ s.size → (0 < s.columns) × (3 * s.columns < length done)
done_long s done f l = (some_columns s f, omega (arith, l, some_columns s f, f.nine))

pub done_seen : (s : Shape) (c : Cut) (unit done : List ℕ) → Seeable s c unit done → (0 < s.columns) × (3 * s.columns < length done)
done_seen s c unit done w = done_long s done w.part.fit w.done_is

module _ (s : Shape) (c : Cut) (unit : List ℕ) (w : Inside s c unit) (h : c.inside ≡ true) where
  pub end_low : c.next + s.size ≤ unit_length s
  end_low = omega (arith, w.within h, w.low)

  -- so that the end is a number of the machine's, and a place in the unit
  pub end_counted : c.next + s.size < 2 ^ 64
  end_counted = omega (arith, end_low, w.fit.two, w.fit.low)

  pub end_within : c.next + s.size ≤ length unit
  end_within = w.within h

  part_is : take (c.next + s.size - c.next) (drop c.next unit) ≡ inside_part s c unit
  unfolding inside_part
  part_is =
      let q : c.next + s.size - c.next ≡ s.size = omega arith in
      rw q refl

  pub part_long : (0 < s.columns) × (3 * s.columns < length (take (c.next + s.size - c.next) (drop c.next unit)))
  part_long =
      let l = length_part unit c.next s.size (w.within h) in
      (some_columns s w.fit, omega (arith, l, some_columns s w.fit, w.fit.nine))

  pub seen_part : (o : Overhead) → o ≡ seen_in s.columns (take (c.next + s.size - c.next) (drop c.next unit))
      → Some o ≡ seen_where c.inside s.columns (inside_part s c unit)
  unfolding inside_part
  seen_part o j = rw (h, j, part_is) refl

-- ---- what is seen of both

pub both_watched : (s : Shape) (c : Cut) (done inside : List ℕ) (m : Monitor) (e : Settings) (o p : Option Overhead) (r : AfterUnit)
    → o ≡ seen_where c.ends s.columns done → p ≡ seen_where c.inside s.columns inside → r ≡ taken_both c o p m e
    → r ≡ both_seen s c done inside m e
unfolding both_seen
both_watched s c done inside m e o p r h i j =
    j ∙ rw (h, i, taken_watched c.ends s.columns done e m, taken_watched c.inside s.columns inside e (watched c.ends s.columns done e m).monitor) refl

-- ---- the unit

module _ (s : Shape) (t : Taken) (offset count : ℕ) (unit held done : List ℕ) (q : Receivable s t offset count unit held done)
    (b : Begin) (b-is : b ≡ begin_in s t offset count)
  where
    pub fit_is : Fit s
    fit_is = q.line.fit

    pub line_is : Line s b.kept b.from
    line_is = rw b-is q.line

    module _ (c : Cut) (held' done' : List ℕ) (cuts : Cuts s b.kept b.from unit held done c held' done')
      where
        pub seeable : length done' ≡ length done → Seeable s c unit done'
        seeable l =
            let inside_is = ap (λ (x : Cut). x.inside) cuts.cut_is in
            let next_is = ap (λ (x : Cut). x.next) cuts.cut_is in
            record {
              part =
                  record {
                    fit = fit_is;
                    within = λ h. omega (arith, next_is, inside_fits s b.kept b.from line_is (sym inside_is ∙ h), q.sizes.unit_is);
                    low = q.sizes.unit_is;
                  };
              done_is = l ∙ q.sizes.done_is;
            }

        pub unit_leaves : (m before : Monitor) (e : Settings) (left : AfterUnit)
            → before ≡ monitor_in t m
            → left ≡ both_seen s c done' (inside_part s c unit) before e
            → NormalOutcomeIs s t offset count m e unit held done left held' done'
        unfolding received_normal both_seen
        unit_leaves m before e left before-is left_is =
            let c-is : c ≡ cut_in s t offset count = cuts.cut_is ∙ ap (λ (x : Begin). cut_of s x.kept x.from) b-is in
            let done-as : done' ≡ done_of s c unit held done = cuts.done_is ∙ ap (λ (x : Cut). done_of s x unit held done) (sym cuts.cut_is) in
            let held-as : held' ≡ held_of c unit held = cuts.held_is ∙ ap (λ (x : Cut). held_of x unit held) (sym cuts.cut_is) in
            let first-as : watched c.ends s.columns done' e before ≡ watched c.ends s.columns (completed_of s c unit held) e (monitor_in t m) =
            rw (done-as, before-is) (watched_done s c unit held done e (monitor_in t m) c.ends refl) in
            rw (left_is, first-as, held-as, done-as, c-is) refl

-- ---- the two taken in

-- what was seen last after the first k of them
unfoldable pub last_seen : ℕ → Option Overhead → Option Overhead → Settings → Seen → Seen
last_seen zero completed inside e none = none
last_seen (suc zero) completed inside e none = taken completed e none.monitor
last_seen (suc (suc k)) completed inside e none = taken inside e (taken completed e none.monitor).monitor

module _ (completed inside : Option Overhead) (e : Settings) (none : Seen) where
  pub last_on : (k : ℕ) (d : Option Overhead) (later r : Seen) → k < 2 → later ≡ last_seen k completed inside e none
      → r ≡ taken (get_or (completed ∷ inside ∷ []) k d) e later.monitor
      → (r ≡ last_seen (k + 1) completed inside e none) × (later ≡ last_seen (k + 1 - 1) completed inside e none)
  unfolding last_seen
  last_on zero d later r h i j = (rw i at j, i)
  last_on (suc zero) d later r h i j = (rw i at j, i)
  last_on (suc (suc k)) d later r h i j = absurd (omega arith)

  -- two turns take in both
  pub both_taken : (k : ℕ) (c : Cut) (m : Monitor) (earlier later : Seen) (ended : Ended)
      → none ≡ not_seen m → 2 ≤ k → k ≤ 2
      → (later ≡ last_seen k completed inside e none) × (earlier ≡ last_seen (k - 1) completed inside e none)
      → ended ≡ ended_in c earlier later
      → record { monitor = later.monitor; held = c.rest; ended = ended } ≡ taken_both c completed inside m e
  unfolding last_seen
  both_taken k c m earlier later ended n h i f d =
      let two : k ≡ 2 = omega arith in
      rw (d, f.0, f.1, two, n) refl
