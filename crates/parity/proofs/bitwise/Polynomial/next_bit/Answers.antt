use Rattle.polynomial.proofs.Register.{step-code}
use Rattle.parity.proofs.bitwise.Polynomial.next_bit.Goals as goal

pub returns : goal.returns
returns c = step-code c.args.self.width c.args.self.lower c.args.r c.args.bit c.args.self.narrow c.requires
