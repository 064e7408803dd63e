use mathlib.Core.Path.{◌≡◌, ap₂, ◌∙◌}
use Prim.Native.Nat.{ℕ, ◌+◌, ◌-◌}
use native.Mathlib.Omega.{arith}
use lib.ListN.{length, set}
use Rattle.bits.specs.Order.{laid_at}
use Rattle.text.specs.Text.{decimal}
use Rattle.text.proofs.Decimal.{field-length}
use Rattle.text.proofs.Wrote.{laid-before, wrote-fitting}
use Rattle.text.proofs.fields.put_field.Goals as goal

pub returns-then-next-text : goal.returns-then-next-text
returns-then-next-text c =
    let a = c.args in
    let number = decimal a.n in
    let long = field-length a.n a.end in
    let last : c.saturating_add-next.result - 1 ≡ a.at + length number = omega (arith, c.width.ensures) in
    let start : c.saturating_add-next.result - 1 - length number ≡ a.at = omega (arith, c.width.ensures) in
    wrote-fitting (omega (arith, long, c.width.ensures)) (omega arith) (omega arith)
    (c.write_digits.ensures ∙ ap₂ (λ (x y : ℕ). laid_at number x (set a.text.now y a.end)) start last ∙ laid-before number a.end a.at a.text.now (omega arith))
