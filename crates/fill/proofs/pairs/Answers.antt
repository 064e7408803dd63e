use Rattle.fill.proofs.Table38.{replaced-as-said}
use Rattle.fill.proofs.pairs.Goals as goal

pub returns : goal.returns
returns c = (replaced-as-said c.args.register c.place_of-low.result c.place_of-low.ensures).1
