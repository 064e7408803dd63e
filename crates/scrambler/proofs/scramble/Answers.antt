use mathlib.Core.Path.{refl}
use Rattle.scrambler.proofs.Blocks.{scramble-block}
use Rattle.scrambler.proofs.scramble.Goals as goal

pub returns : goal.returns
returns c = scramble-block c.args.user c.args.history _ c.ranges.user.fits refl
