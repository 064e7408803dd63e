use Prim.Native.Nat.{ℕ}
use mathlib.Core.Bool.{Bool, true, false}
use mathlib.Core.List.{List}
use mathlib.Core.Path.{◌≡◌, refl, sym, ap, ◌∙◌}
use lib.Dec.{leb}
use lib.ListN.{length}
use Rattle.bits.specs.Choice.{pick}
use Rattle.bits.specs.Order.{octets_of, word_bit, laid_at}
use Rattle.frame.specs.Lane.{lane_octets, fill_after}
use Rattle.frame.proofs.Lane.{no-fill, fill-kept}
use Rattle.multiblock.specs.Shape.{shape}
use Rattle.multiblock.proofs.write.Goals as goal

-- without gaps the register stays as it is, whether the multiblock fits or not
kept : (t : Bool) (register : ℕ) → register ≡ pick t (fill_after 0 register) register
kept true register = sym (fill-kept register)
kept false register = refl

pub returns-then-gap-eq0-clause-value : goal.returns-then-gap-eq0-clause-value
unfolding shape
returns-then-gap-eq0-clause-value c = let a = c.args in
    rw c.if-gap-eq0.true (kept (leb (lane_octets 0) (length a.lane.now)) a.register)

pub returns-then-gap-eq0-clause-lane_after : goal.returns-then-gap-eq0-clause-lane_after
unfolding shape
returns-then-gap-eq0-clause-lane_after c = let a = c.args in
    let octets = octets_of (word_bit a.blocks.now) 256 in
    rw c.if-gap-eq0.true (c.write.ensures ∙ ap (λ (x : List ℕ). laid_at x 0 a.lane.now) (no-fill 0 a.register a.sync octets))
