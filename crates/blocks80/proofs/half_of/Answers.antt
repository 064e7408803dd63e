use native.Mathlib.Omega.{arith}
use Rattle.blocks80.specs.inner.Half.{half}
use Rattle.blocks80.proofs.Tens.{pairs-apart-lt, octets-apart-lt}
use Rattle.blocks80.proofs.half_of.Goals as goal

pub overflow_add-result : goal.overflow_add-result
overflow_add-result c =
    let a = c.args in
    omega (arith, c.pairs_apart.ensures, c.octets_apart.ensures, pairs-apart-lt a.pairs, octets-apart-lt a.octets)

pub returns : goal.returns
unfolding half
returns c =
    let a = c.args in
    omega (arith, c.pairs_apart.ensures, c.octets_apart.ensures, pairs-apart-lt a.pairs)
