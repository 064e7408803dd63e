use Prim.Native.Nat.{ℕ, ◌%◌, ◌^◌}
use mathlib.Core.Path.{◌≡◌, ap, ◌∙◌}
use Rattle.bits.specs.Order.{bit_at, number}
use Rattle.bits.proofs.Numbers.{bit_at_lt, number-low}
use Rattle.scrambler.proofs.history_of.Goals as goal

pub returns : goal.returns
returns c =
    let octets = c.args.octets.now in
    let last : c.word_at.result ≡ number (bit_at octets) 1984 64 = c.word_at.ensures in
    c.history_after.ensures ∙ ap (λ (x : ℕ). x % 2 ^ 58) last ∙ number-low (bit_at octets) (bit_at_lt octets) 1984 6 58
