use Rattle.scrambler.proofs.Blocks.{descramble-block}
use Rattle.scrambler.proofs.descramble.Goals as goal

pub returns : goal.returns
returns c = descramble-block c.args.block c.args.history c.ranges.block.fits
