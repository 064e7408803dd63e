use Prim.Native.Nat.{◌*◌}
use native.Mathlib.Omega.{arith}
use Rattle.blocks66.proofs.Packing.{word_made}
use Rattle.blocks66.proofs.lane_word.Goals as goal

pub returns : goal.returns
returns c =
    let a = c.args in
    word_made a.sync a.block a.before c.header_of-header.result a.own (2 * a.block) c.header_of-header.ensures c.ranges.own.fits (omega arith)
