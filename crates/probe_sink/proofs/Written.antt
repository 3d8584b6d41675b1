-- What the probe of the view has to show, of what the calls have shown. Assumes nothing.
use mathlib.Core.Path.{◌≡◌, refl, subst, ap, ◌∙◌}
use mathlib.Core.List.{List}
use Prim.Native.Nat.{ℕ, ◌<◌, ◌≤◌}
use lib.ListN.{length}
use borrow.Author.Tests.{lt-ltb, le-ltb}
use Rattle.copier.specs.Put.{put}
use Rattle.shape.specs.Shape.{Shape, au4}
use Rattle.receiving.specs.declared.Ended.{Ended}
use Rattle.view.specs.View.{container_handed}
use Rattle.probe_sink.specs.Probe.{ContainerWritten, written_to, WritesContainer}

written_none : (x out : List ℕ) → length out < length x → ◌≡◌ {A = ContainerWritten} (record { number = 0; bytes = out }) (written_to x out)
unfolding written_to
written_none x out h = rw (lt-ltb (length out) (length x) h) refl

written_all : (x out out' : List ℕ) → length x ≤ length out → out' ≡ put 0 x out → ◌≡◌ {A = ContainerWritten} (record { number = length x; bytes = out' }) (written_to x out)
unfolding written_to
written_all x out out' h e = rw (le-ltb (length out) (length x) h, e) refl

-- a container x that was taken at the shape s
module _ (s : Shape) (e : Ended) (unit done : List ℕ) (k : ℕ) (x : List ℕ) (Shape-is : s ≡ au4) (taken : x ≡ container_handed e s.size done unit k) where
  is_au4 : x ≡ container_handed e au4.size done unit k
  is_au4 = taken ∙ ap (λ (y : Shape). container_handed e y.size done unit k) Shape-is

  pub hands_none : (out : List ℕ) → length out < length x → WritesContainer e unit done k out 0 out
  hands_none out h = subst (λ (y : List ℕ). ◌≡◌ {A = ContainerWritten} (record { number = 0; bytes = out }) (written_to y out)) is_au4 (written_none x out h)

  pub hands_all : (out out' : List ℕ) → length x ≤ length out → out' ≡ put 0 x out → WritesContainer e unit done k out (length x) out'
  hands_all out out' h p = subst (λ (y : List ℕ). ◌≡◌ {A = ContainerWritten} (record { number = length x; bytes = out' }) (written_to y out)) is_au4 (written_all x out out' h p)
