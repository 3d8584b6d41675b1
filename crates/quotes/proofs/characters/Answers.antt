-- `quotes::characters` meets its contract: those before the rest are written. Assumes nothing.
use native.Mathlib.Omega.{arith}
use Rattle.quotes.proofs.Laws.{said_less}
use Rattle.quotes.proofs.Inside.{half_start, half_end, half_room, half_turn}
use Rattle.quotes.proofs.characters.Goals as goal

pub loop-b-init : goal.loop-b-init
loop-b-init c = search half_start

pub byte-requires : goal.byte-requires
byte-requires c = half_room _ _ _ _ _ _ c.requires c.loop-b.invariant c.in-Some.ensures

pub loop-b-smaller : goal.loop-b-smaller
loop-b-smaller c = omega (arith, said_less _ _ _ c.in-Some.ensures)

pub loop-b-preserved : goal.loop-b-preserved
loop-b-preserved c = half_turn _ _ _ _ _ _ c.requires c.loop-b.invariant c.in-Some.ensures _ c.byte.ensures

pub returns : goal.returns
returns c = half_end _ _ _ _ c.loop-b.invariant c.in_default.ensures
