use mathlib.Core.Path.{◌∙◌}
use Rattle.polynomial.proofs.Words.{words-all}
use Rattle.parity.specs.Codeword.{parity_of}
use Rattle.parity.proofs.Fec.of_words.Goals as goal

pub returns : goal.returns
unfolding parity_of
returns c = c.of_blocks.ensures ∙ words-all 26 0x0220211 c.args.words.now
