use Rattle.fill.proofs.Registers.{next-at-once}
use Rattle.fill.proofs.next_register.Goals as goal

pub returns : goal.returns
returns c = next-at-once c.args.register
