use native.Mathlib.Omega.{arith}
use Rattle.polynomial.proofs.Words.{left_over_lem}
use Rattle.parity.proofs.word.fec_word.Goals as goal

pub returns : goal.returns
returns c = left_over_lem c.args.r c.args.word c.from.result c.requires (omega arith) c.from.ensures
