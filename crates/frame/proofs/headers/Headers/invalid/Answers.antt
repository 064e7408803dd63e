use native.Mathlib.Omega.{arith}
use Rattle.frame.proofs.Reading.{all-invalid}
use Rattle.frame.proofs.headers.Headers.invalid.Goals as goal

pub returns : goal.returns
returns c = all-invalid c.args.self.first c.args.self.second (omega (arith, c.well_formed)) (omega (arith, c.well_formed))
