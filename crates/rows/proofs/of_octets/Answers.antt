use Prim.Native.Nat.{◌/◌}
use mathlib.Core.Path.{ap, ◌∙◌}
use lib.ListN.{length}
use Rattle.bits.proofs.Blocks.{bits-chunks}
use Rattle.polynomial.specs.Remainder.{remainder}
use Rattle.rows.proofs.of_octets.Goals as goal

pub returns : goal.returns
returns c =
    let octets = c.args.octets.now in
    let blocks = c.as_chunks in
    c.of_blocks.ensures ∙ ap (remainder 12 0x30F) (bits-chunks octets blocks.result.0.now (length octets / 8) blocks.ensures.front blocks.ensures.front_len)
