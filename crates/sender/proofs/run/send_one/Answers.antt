use Prim.Native.Nat.{ℕ, ◌+◌, ◌%◌, ◌<◌}
use mathlib.Core.Path.{◌≡◌}
use native.Mathlib.Nat.{mod_self, mod-eq_of_lt}
use native.Mathlib.Omega.{arith}
use borrow.Author.Tests.{eqb-true, eqb-false}
use lib.Dec.{eqb}
use Rattle.bits.specs.Choice.{pick}
use Rattle.bits.proofs.Choice.{pick-both}
use Rattle.sender.proofs.Turns.{sent-one}
use Rattle.sender.proofs.run.send_one.Goals as goal

-- the number of the next multiblock: from 0 again after the last of an extended multiblock
number_after : (n E : ℕ) → n < E → (n + 1) % E ≡ pick (eqb (n + 1) E) 0 (n + 1)
number_after n E h =
    pick-both (λ (x : ℕ). (n + 1) % E ≡ x) (eqb (n + 1) E) 0 (n + 1) (λ e. rw (eqb-true (n + 1) E e) (mod_self E))
    (λ e. let differ = eqb-false (n + 1) E e in mod-eq_of_lt (omega arith))

pub returns : goal.returns
returns c =
    let a = c.args in
    let turned = c.scramble_multiblock-scrambled in
    let all = c.parity_of in
    let parts = c.split-parts in
    let word = c.word-word in
    let s = sent-one a.layout a.e a.state a.user.now turned.result.blocks a.lane.now _ a.command turned.result.history word.result all.result _ c.write-fill.result parts.result c.requires.0
    turned.ensures.blocks_value turned.ensures.history_value word.ensures c.write-fill.ensures.lane_after all.ensures parts.ensures (number_after a.state.number a.e c.requires.1) c.write-fill.ensures.value in
    record { value = s.0; lane_after = s.1 }
