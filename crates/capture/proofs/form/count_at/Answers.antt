use Prim.Native.Nat.{ℕ, ◌*◌, ◌/◌, ◌^◌}
use mathlib.Core.Path.{ap, ◌∙◌}
use Rattle.bits.specs.Order.{bit_at}
use Rattle.bits.proofs.Numbers.{number-high, bit_at_lt}
use Rattle.capture.proofs.form.count_at.Goals as goal

pub returns : goal.returns
returns c =
    let a = c.args in
    ap (λ (x : ℕ). x / 2 ^ 32) c.word_at.ensures ∙ number-high (bit_at a.capture.now) (bit_at_lt a.capture.now) (8 * a.at) 32 32
