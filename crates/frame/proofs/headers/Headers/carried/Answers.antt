use native.Mathlib.Omega.{arith}
use Rattle.frame.proofs.Reading.{all-carried}
use Rattle.frame.proofs.headers.Headers.carried.Goals as goal

pub returns : goal.returns
returns c = all-carried c.args.self.first c.args.self.second (omega (arith, c.well_formed)) (omega (arith, c.well_formed))
