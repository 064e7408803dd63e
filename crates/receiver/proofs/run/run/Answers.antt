use Rattle.std.proofs.Common.{rules}
use Prim.Native.Nat.{ℕ, suc, ◌*◌, ◌≤◌}
use mathlib.Core.Path.{ap, ◌∙◌}
use native.Mathlib.Nat.{le_trans, mul-le-mul_left, mul-suc}
use native.Mathlib.Omega.{arith}
use lib.ListN.{length, drop, length-drop}
use Rattle.bits.specs.Order.{bit_at}
use Rattle.receiver.proofs.Turns.{held_none, rest_of, still-waits, held_more, held_all}
use Rattle.receiver.proofs.run.run.Goals as goal

-- what is received of the lane is there
there : (size k n long : ℕ) → k ≤ n → size * n ≤ long → size * k ≤ long
there size k n long h l = le_trans (mul-le-mul_left size h) l

pub loop-k-init : goal.loop-k-init
loop-k-init c = (search rules, held_none _ _ _ _ _ _ _ _ _)

pub release-turn-requires : goal.release-turn-requires
release-turn-requires c = let a = c.args in
    let pre = c.requires in
    let l = c.loop-k in
    let h = l.invariant.1 in
    let room = pre.room in
    let at = a.layout.size * l.k in
    let long = ap length (rest_of a.lane.now at) ∙ length-drop at a.lane.now in
    let part = ap length (rest_of l.octets (256 * l.k)) ∙ length-drop (256 * l.k) l.octets in
    let less = c.loop-k-test.true in
    let next = there a.layout.size (suc l.k) a.n (length a.lane.now) less pre.waiting_value.1 in (
      omega (arith, long, next, mul-suc a.layout.size l.k),
      still-waits a.layout.row a.lane.now a.start l.k a.n l.state a.octets.now a.statuses.now a.commands.now a.places.now a.patterns.now a.invalid.now l.octets l.statuses l.commands l.places l.patterns l.invalid (pre.waiting_value.0 (omega (arith, less))) less room h,
      omega (arith, part, less, room.octets-fit, h.octets-long),
    )

pub loop-k-preserved : goal.loop-k-preserved
loop-k-preserved c =
    let a = c.args in
    let pre = c.requires in
    let l = c.loop-k in
    let less = c.loop-k-test.true in
    let r = c.release-turn in
    (omega (arith, less), held_more a.layout.row a.lane.now a.start l.k a.n l.state a.octets.now a.statuses.now a.commands.now a.places.now a.patterns.now a.invalid.now l.octets l.statuses l.commands l.places l.patterns l.invalid (pre.waiting_value.0 (omega (arith, less))) less pre.room l.invariant.1 _ r.result _ (rest_of a.lane.now (a.layout.size * l.k) ∙ ap (λ (x : ℕ). drop (x * l.k) a.lane.now) a.layout.sized) r.auto.octets r.ensures)

pub returns : goal.returns
returns c =
    let a = c.args in
    let l = c.loop-k in
    held_all a.layout.row (bit_at a.lane.now) a.start l.k a.n l.state _ _ _ _ _ _ _ _ _ _ _ _ c.requires.waiting_value.0 (omega (arith, c.loop-k-test.false, l.invariant.0)) l.invariant.1
