use Rattle.capture.proofs.Received.{received-ok, lists}
use Rattle.capture.proofs.lane.receive.Goals as goal
use mathlib.Core.Path.{sym, ap, ◌∙◌}
use native.Mathlib.Nat.{div-le_self}
use native.Mathlib.Omega.{arith}
use Prim.Native.Nat.{ℕ, ◌*◌}
use lib.ListN.{length, length-replicate}
use Rattle.frame.specs.declared.modes.Numbers.{Numbers}
use Rattle.frame.proofs.Rows.{most-is, longest-is, lane-within}
use Rattle.frame.proofs.Sizes.{octets-some}

pub nonzero_div-result : goal.nonzero_div-result
nonzero_div-result c = omega (arith, ap (λ (N : Numbers). N.octets) c.numbers_of-numbers.ensures, octets-some c.row_of.result.gap)

pub overflow_cast-result : goal.overflow_cast-result
overflow_cast-result c =
    let a = c.args in
    omega (arith, div-le_self (length a.lane.now) c.numbers_of-numbers.result.octets, c.requires.short, lane-within a.mode, longest-is)

pub unwrap-ran-requires : goal.unwrap-ran-requires
unwrap-ran-requires c =
    let a = c.args in
    received-ok a.mode a.lane.now c.requires _ _ _ _ _ _ _ _ _ _ _ _ _ c.receive.result c.receive.ensures c.fresh.ensures
    (length-replicate {A = ℕ} _ 0 ∙ sym (ap (λ (n : ℕ). 256 * n) most-is)) (length-replicate {A = ℕ} _ 0 ∙ sym most-is) (length-replicate {A = ℕ} _ 0 ∙ sym most-is) (length-replicate {A = ℕ} _ 0 ∙ sym most-is) (length-replicate {A = ℕ} _ 0 ∙ sym most-is) (length-replicate {A = ℕ} _ 0 ∙ sym most-is)

pub returns-clause-lists : goal.returns-clause-lists
returns-clause-lists c =
    let a = c.args in
    lists a.mode a.lane.now c.requires _ _ _ _ _ _ _ _ _ _ _ _ _ c.receive.result c.receive.ensures c.fresh.ensures
    (length-replicate {A = ℕ} _ 0 ∙ sym (ap (λ (n : ℕ). 256 * n) most-is)) (length-replicate {A = ℕ} _ 0 ∙ sym most-is) (length-replicate {A = ℕ} _ 0 ∙ sym most-is) (length-replicate {A = ℕ} _ 0 ∙ sym most-is) (length-replicate {A = ℕ} _ 0 ∙ sym most-is) (length-replicate {A = ℕ} _ 0 ∙ sym most-is) _ c.unwrap-ran.ensures
