use Prim.Native.Nat.{◌*◌, ◌/◌}
use lib.Dec.{lit<}
use lib.ListN.{length}
use Rattle.bits.specs.Order.{bit_at, list_from}
use Rattle.polynomial.proofs.Remainder.{remainder-lt}
use Rattle.polynomial.proofs.Words.{words-rest}
use Rattle.parity.specs.Codeword.{parity_of}
use Rattle.parity.proofs.Crc12.of.Goals as goal

pub rest-requires : goal.rest-requires
rest-requires c =
    let octets = c.args.octets.now in
    rw c.of_octets-r.ensures (remainder-lt 12 0x30F (lit< tt) (list_from (bit_at octets) 0 (64 * (length octets / 8))))

pub returns : goal.returns
unfolding parity_of
returns c = rw c.rest.ensures (words-rest 12 0x30F c.args.octets.now c.as_chunks.result.1.now c.of_octets-r.result c.as_chunks.ensures.back c.of_octets-r.ensures)
