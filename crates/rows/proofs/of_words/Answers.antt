use mathlib.Core.Path.{◌∙◌}
use Rattle.polynomial.proofs.Words.{words-all}
use Rattle.rows.proofs.of_words.Goals as goal

pub returns : goal.returns
returns c = c.of_blocks.ensures ∙ words-all 12 0x30F c.args.words.now
