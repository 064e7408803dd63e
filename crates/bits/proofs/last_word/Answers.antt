use Prim.Native.Nat.{ℕ, ◌+◌, ◌-◌, ◌*◌, ◌^◌}
use mathlib.Core.Path.{refl, ap, ◌∙◌}
use native.Mathlib.Nat.{sub_self}
use native.Mathlib.Omega.{arith}
use lib.ListN.{get_or}
use Rattle.bits.specs.Order.{bit_at, number}
use Rattle.bits.proofs.Words.{gather, gathered}
use Rattle.bits.proofs.last_word.Goals as goal

pub loop-i-init : goal.loop-i-init
unfolding number
loop-i-init c = (refl, omega arith, rw sub_self refl)

pub loop-i-preserved : goal.loop-i-preserved
loop-i-preserved c =
    let l = c.loop-i in
    let a = c.args in
    let k = l.i - a.at in (
      refl,
      omega arith,
      gather a.octets.now (λ i. omega (arith, c.type_inv.octets i)) a.at k l.word c.from.result (omega arith) l.invariant.2 (c.from.ensures ∙ ap (λ (i : ℕ). get_or a.octets.now i 0) (omega arith))
          ∙ ap (λ (k : ℕ). number (bit_at a.octets.now) (8 * a.at) (8 * k) * 2 ^ (64 - 8 * k)) {x = k + 1} {y = l.i + 1 - a.at} (omega arith),
    )

pub returns : goal.returns
returns c =
    let l = c.loop-i in
    let a = c.args in
    gathered a.octets.now a.at (l.i - a.at) l.word (omega arith) (omega arith) l.invariant.2
