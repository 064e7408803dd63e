use Rattle.bits.proofs.Blocks.{octet-in, octet-past}
use Rattle.bits.proofs.U64Block.octet.Goals as goal

pub returns-then-k-lt8 : goal.returns-then-k-lt8
returns-then-k-lt8 c = octet-in c.args.self.now c.args.k c.if-k-lt8.true

pub returns-else-k-lt8 : goal.returns-else-k-lt8
returns-else-k-lt8 c = octet-past c.args.self.now c.args.k c.if-k-lt8.false
