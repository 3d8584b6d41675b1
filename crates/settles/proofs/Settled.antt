-- DEMAND 3: a good signal settles within 66 units, and from the 67th every container comes back as sent. For every shape that fits and has 64 steps or more in a container,
-- and from every state whose numbers are in range; and so from every state that calls can reach. Assumes nothing.
use mathlib.Core.Path.{◌≡◌, refl, ap, subst, ◌∙◌}
use mathlib.Core.Bool.{Bool, true, false, cond}
use Prim.Native.Nat.{ℕ, zero, suc, ◌+◌, ◌-◌, ◌*◌, ◌%◌, ◌≤◌, ◌<◌}
use native.Mathlib.Nat.{add-suc, mul-le-mul_right, le_trans}
use native.Mathlib.Omega.{arith}
use lib.Dec.{leb}
use lib.ListN.{replicate}
use borrow.Author.Tests.{leb-true, leb-false}
use Rattle.shape.specs.Shape.{Shape, Fit, au4, tu3}
use Rattle.shape.proofs.Offsets.{au4_fit, tu3_fit}
use Rattle.container_source.specs.Source as container-source
use Rattle.settings.proofs.Refuses.{fine_label, fine_trace}
use Rattle.overhead.specs.Violations.{kept_of}
use Rattle.monitor.specs.Seeing.{seen_in}
use Rattle.settles_monitor.specs.Near.{Setting, Whole, enough}
use Rattle.settles_monitor.proofs.Settles.{Near, near_none, near_settled, near_free, setting}
use Rattle.settles_stream.specs.InOrder.{boxes, violated_told}
use Rattle.settles_stream.specs.Inner.{violated_all}
use Rattle.unit_end.specs.Settled.{none_stands}
use Rattle.sink.specs.Sink as sink
use Rattle.sink_theorems.proofs.Ranges.{reached_in_range}
use Rattle.settles.specs.Demand.{Run, Path, Making, Reached, Supplied, Good, Settles, Demand, most, eight, Demand3, path_at, sent_at, fed_at, received_at, log_of, unsettled}
use Rattle.settles.proofs.Kept.{reached_whole, reached_total}
use Rattle.settles.proofs.Sources as sources
use Rattle.settles.proofs.Units.{Ready, defects_is}
use Rattle.settles.proofs.Along.{Runs, five, along, late}
use Rattle.settles.proofs.Count.{number_at, goes_up, ends_enough}
use Rattle.settles.proofs.Watched.{Sent, Chained, near_all, parity_on, none_violated_all}
use Rattle.settles.proofs.Signal.{made_done, box_full, box_like, box_chained}
use Rattle.settles.proofs.Every.{sent_all, fed_all, number_on, total_all, handed_all, monitor_all, told_all, settled_all, in_order_all}

-- ---- the monitor along the run

-- How near it is: so many containers were watched since the one whose number is `since`, the next of which has in J1 the byte of the message that is due, and the parity kept
-- is that of the last
record Watching (s : Shape) (r : Run) (label place since : ℕ) (x : Path) : Type 0 where
  many : ℕ
  number_is : since + many ≡ x.source.number
  near : Near label r.settings ((place + x.source.number) % 16) many x.state.monitor
  parity : (i : ℕ) → suc i ≡ x.source.number → 0 < many → x.state.monitor.parity ≡ kept_of (seen_in s.columns (r.box i)).parity

-- Of the containers those below `end` are asked for, but for the one under way as the run begins: what is said is said of the units that end no others
module _ (s : Shape) (r : Run) (u : Runs s r) (label place end : ℕ) (g : Setting label r.settings)
    (like : (j : ℕ) → 0 < j → j < end → Sent s.columns label r.settings r.box place j)
    (chain : (j : ℕ) → 0 < j → suc j < end → Chained s.columns label r.settings r.box j) (steps : 64 * s.step ≤ s.size)
  where
    -- the container that is current as the third unit has passed, by which the sink is locked
    since : ℕ
    since = number_at s r u 3

    -- by then the one that was under way as the run began has ended
    since_some : 0 < since
    unfolding since
    since_some =
        let few : 3 * s.step ≤ s.size = omega (arith, steps) in
        omega (arith, ends_enough s r u 0 3 few)

    watching_on : (n : ℕ) → 3 ≤ n → number_at s r u (suc n) ≤ end → Watching s r label place since (path_at s r n) → Watching s r label place since (path_at s r (suc n))
    watching_on n w o h =
        let x = path_at s r n in
        let k = (sent_at s r n).made.ended in
        record {
          many = h.many + k;
          number_is = omega (arith, h.number_is, number_on s r u n);
          near = rw (number_on s r u n, monitor_all s r u n w) (near_all s.columns label r.settings r.box place x.source.number h.many k x.state.monitor g (λ j l q. like j (omega (arith, since_some, h.number_is)) (omega (arith, number_on s r u n))) h.near);
          parity = rw (number_on s r u n, monitor_all s r u n w) (parity_on s.columns label r.settings r.box x.source.number h.many k x.state.monitor h.parity);
        }

    -- before unit n, where the units before it ended no others
    abbrev WatchingAt : ℕ → Type 0
    WatchingAt n = number_at s r u n ≤ end → Watching s r label place since (path_at s r n)

    watching_next : (n : ℕ) → 3 ≤ n → WatchingAt n → WatchingAt (suc n)
    watching_next n w h o = watching_on n w o (h (omega (arith, o, number_on s r u n)))

    watching : (j : ℕ) → WatchingAt (3 + j)
    unfolding since
    watching zero =
        λ o. record {
          many = 0;
          number_is = omega arith;
          near = near_none label r.settings ((place + number_at s r u 3) % 16) (path_at s r 3).state.monitor (along s r u 3).ready.whole;
          parity = λ i e p. absurd (omega arith);
        }
    watching (suc j) = rw (add-suc 3 j) (watching_next (3 + j) (omega arith) (watching j))

    watching_at : (n : ℕ) → 3 ≤ n → WatchingAt n
    watching_at n w = let e : 3 + (n - 3) ≡ n = omega arith in subst WatchingAt e (watching (n - 3))

    -- as the 66th unit has passed, and later, at least 62 were watched; as the 67th has, 63
    many_at : (j n : ℕ) → j ≤ 64 → 3 + j ≤ n → (w : 3 ≤ n) (o : number_at s r u n ≤ end) → j ≤ (watching_at n w o).many + 1
    unfolding since
    many_at j n a b w o =
        let few : j * s.step ≤ s.size = le_trans (mul-le-mul_right s.step a) steps in
        let e : 3 + j + (n - (3 + j)) ≡ n = omega arith in
        let up = rw e at (goes_up s r u (3 + j) (n - (3 + j))) in
        omega (arith, ends_enough s r u 3 j few, up, (watching_at n w o).number_is)

    -- ---- from the 67th unit on

    module _ (n : ℕ) (w : most ≤ n) (o : number_at s r u (suc n) ≤ end) where
      now : Watching s r label place since (path_at s r (suc n))
      now = watching_at (suc n) (omega arith) o

      all_watched : enough ≤ now.many
      unfolding now
      all_watched = omega (arith, many_at 64 (suc n) (omega arith) (omega arith) (omega arith) o)

      pub settled_then : (fed_at s r n).received.settled ≡ true
      settled_then =
          settled_all s r u n (omega arith)
          ∙ near_settled label r.settings ((place + number_at s r u (suc n)) % 16) now.many (path_at s r (suc n)).state.monitor (omega arith) all_watched now.near g.fitting

      pub free_then : none_stands (fed_at s r n).received.defects ≡ true
      unfolding path_at
      free_then =
          ap none_stands (defects_is s u.fit r u.set (path_at s r n) (r.ask n) (along s r u n).ready (late s r u n (path_at s r n) (along s r u n)))
          ∙ near_free label r.settings ((place + number_at s r u (suc n)) % 16) now.many (path_at s r (suc n)).state.monitor (omega arith) all_watched now.near

      -- before it
      was : number_at s r u n ≤ end
      was = omega (arith, o, number_on s r u n)

      pub clean_then : violated_told (fed_at s r n).received.ended ≡ replicate (sent_at s r n).made.ended 0x00
      clean_then =
          told_all s r u n (omega arith)
          ∙ go (number_at s r u n) refl (watching_at n (omega arith) was).number_is (watching_at n (omega arith) was).parity
        where
          some : 0 < (watching_at n (omega arith) was).many
          some = omega (arith, many_at 63 n (omega arith) (omega arith) (omega arith) was)

          go : (i : ℕ) → i ≡ number_at s r u n → since + (watching_at n (omega arith) was).many ≡ i
              → ((j : ℕ) → suc j ≡ i → 0 < (watching_at n (omega arith) was).many → (path_at s r n).state.monitor.parity ≡ kept_of (seen_in s.columns (r.box j)).parity)
              → violated_all s.columns r.settings (path_at s r n).state.monitor (boxes r.box i (sent_at s r n).made.ended) ≡ replicate (sent_at s r n).made.ended 0x00
          go zero i-is e h = absurd (omega (arith, some))
          go (suc i) i-is e h =
              none_violated_all s.columns label r.settings r.box i (sent_at s r n).made.ended (path_at s r n).state.monitor (λ j l q. chain j (omega (arith, since_some, some)) (omega (arith, o, number_on s r u n, i-is))) (h i refl some)

-- ---- the count of unsettled units

module _ (s : Shape) (r : Run) (settled : (n : ℕ) → most ≤ n → (fed_at s r n).received.settled ≡ true) where
  at_most : (n : ℕ) → unsettled (received_at s r) n ≤ n
  unfolding unsettled
  at_most zero = omega arith
  at_most (suc n) = omega (arith, at_most n, one (fed_at s r n).received.settled)
    where
      one : (b : Bool) → cond b 0 1 ≤ 1
      one true = omega arith
      one false = omega arith

  no_more : (j : ℕ) → unsettled (received_at s r) (most + j) ≤ most
  unfolding unsettled
  no_more zero = at_most most
  no_more (suc j) =
      rw (add-suc most j, settled (most + j) (omega arith)) (omega (arith, no_more j))

  pub few_all : (n : ℕ) → unsettled (received_at s r) n ≤ most
  few_all n = go (leb n most) refl
    where
      go : (b : Bool) → leb n most ≡ b → unsettled (received_at s r) n ≤ most
      go true q = omega (arith, at_most n, leb-true n most q)
      go false q = let e : most + (n - most) ≡ n = omega (arith, leb-false n most q) in rw e at (no_more (n - most))

-- ---- from every state whose numbers are in range

-- more than every state that calls can reach; the 15 places of the message that is gathered, and the total's sixteen bits, are by their types
pub record InRange (s : Shape) (m : Making) (r : Run) : Type 0 where
  pub state_in : sink.sink_out_of_range s r.state ≡ false
  pub total_low : r.state.total ≤ 65535
  pub whole : Whole r.state.monitor
  pub source_in : sources.InRange s r.source
  pub first_in : m.first.place ≤ 15

pub settles : (noneBefore : ℕ) (s : Shape) (m : Making) (r : Run) → five ≤ noneBefore → Fit s → 64 * s.step ≤ s.size → InRange s m r → Supplied s m r → Good noneBefore s m r → Settles most s r (log_of s m r)
unfolding path_at
settles noneBefore s m r some f steps i box-is g =
    let place = m.first.place + 15 in
    let fine = g.fine.settings_fine in
    let made = made_done s f m g.label r.settings i.first_in g.label_fits fine g.given in
    let full = box_full s f m g.label r.settings i.first_in g.label_fits fine g.given r.box box-is g.under_way in
    let like = box_like s f m g.label r.settings i.first_in g.label_fits fine g.given r.box box-is in
    let chain = box_chained s f m g.label r.settings i.first_in g.label_fits fine g.given r.box box-is in
    let ready : Ready s r (path_at s r 0) =
    record {
      source_fine = record { offset_low = i.source_in.offset_low; wait_low = i.source_in.wait_low; full = full; unit_is = g.fine.unit_is };
      state_in = i.state_in;
      total_low = i.total_low;
      whole = i.whole;
      held_is = g.fine.held_is;
      done_is = g.fine.done_is;
    }
    in
    let u : Runs s r = record { fit = f; set = fine; ready = ready; spaced = record { quiet = λ n l. g.spaced.quiet n (omega arith); apart = g.spaced.apart } } in
    let e : Setting g.label r.settings = setting g.label r.settings g.label_fits (fine_label r.settings fine) (fine_trace r.settings fine) g.fine.trace_is in
    let settled : (n : ℕ) → most ≤ n → (fed_at s r n).received.settled ≡ true =
    λ n w. settled_then s r u g.label place (number_at s r u (suc n)) e (λ j l _. like j l) (λ j l _. chain j l) steps n w (omega arith)
    in
    record {
      made_done = made;
      sent_done = sent_all s r u;
      fed_done = fed_all s r u;
      few = few_all s r settled;
      total_is = total_all s r u;
      back = λ n w. handed_all s r u n (omega arith);
      in_order = λ n units w. in_order_all s r u units n (omega arith);
      no_column = λ n w. clean_then s r u g.label place (number_at s r u (suc n)) e (λ j l _. like j l) (λ j l _. chain j l) steps n w (omega arith);
      settled = settled;
      no_defect = λ n w. free_then s r u g.label place (number_at s r u (suc n)) e (λ j l _. like j l) (λ j l _. chain j l) steps n w (omega arith);
    }

-- ---- and so from every state that calls can reach

pub reached_in : (s : Shape) (m : Making) (r : Run) → Fit s → Reached s m r → InRange s m r
reached_in s m r f h =
    record {
      state_in = rw h.state_is (reached_in_range s h.received f);
      total_low = rw h.state_is (reached_total s h.received);
      whole = rw h.state_is (reached_whole s h.received);
      source_in = rw h.source_is (sources.source_low s _ h.asked (record { offset_low = omega arith; wait_low = omega arith }));
      first_in = rw h.first_is (sources.made_low s container-source.fresh_container_source h.made h.many (omega arith));
    }

-- for every shape that fits, with no adjustment in the first five units or more
pub demand : (noneBefore : ℕ) (s : Shape) → five ≤ noneBefore → Fit s → 64 * s.step ≤ s.size → Demand most noneBefore s
demand noneBefore s some f steps m r h = settles noneBefore s m r some f steps (reached_in s m r f h)

-- DEMAND 3
pub demand_3 : Demand3
demand_3 = demand eight au4 (omega arith) au4_fit (omega arith)

-- and the same of TU-3, counted in its own frames
pub demand_3_of_tu3 : Demand most eight tu3
demand_3_of_tu3 = demand eight tu3 (omega arith) tu3_fit (omega arith)
