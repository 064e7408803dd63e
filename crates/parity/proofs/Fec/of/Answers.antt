use Prim.Native.Nat.{◌/◌}
use mathlib.Core.Path.{ap, ◌∙◌}
use lib.Dec.{lit<}
use lib.ListN.{length}
use Rattle.bits.proofs.Blocks.{bits-chunks}
use Rattle.polynomial.specs.Remainder.{remainder}
use Rattle.polynomial.proofs.Remainder.{remainder-lt}
use Rattle.polynomial.proofs.Words.{words-rest}
use Rattle.parity.specs.Codeword.{parity_of}
use Rattle.parity.proofs.Fec.of.Goals as goal

pub rest-requires : goal.rest-requires
rest-requires c = rw c.of_blocks.ensures (remainder-lt 26 0x0220211 (lit< tt) _)

pub returns : goal.returns
unfolding parity_of
returns c =
    let octets = c.args.octets.now in
    let chunks = c.as_chunks in
    rw c.rest.ensures
    (words-rest 26 0x0220211 octets chunks.result.1.now c.of_blocks.result chunks.ensures.back
    (c.of_blocks.ensures ∙ ap (remainder 26 0x0220211) (bits-chunks octets chunks.result.0.now (length octets / 8) chunks.ensures.front chunks.ensures.front_len)))
