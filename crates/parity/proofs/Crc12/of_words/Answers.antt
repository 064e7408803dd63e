use Rattle.parity.specs.Codeword.{parity_of}
use Rattle.parity.proofs.Crc12.of_words.Goals as goal

pub returns : goal.returns
unfolding parity_of
returns c = c.of_words.ensures
