use mathlib.Core.Path.{◌∙◌}
use native.Mathlib.Omega.{arith}
use Rattle.bits.proofs.Words.{load}
use Rattle.bits.proofs.whole_word.Goals as goal

pub returns : goal.returns
returns c =
    let a = c.args in
    c.from_be_bytes.ensures ∙ load a.octets.now (λ i. omega (arith, c.type_inv.octets i)) a.at
