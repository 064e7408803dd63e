use mathlib.Core.Bool.{true, false}
use Rattle.commands.specs.Reading.{meant}
use Rattle.commands.proofs.words.Words.header_at.Given as goal

abbrev pub ghost-in_a_row : goal.ghost-in_a_row
ghost-in_a_row a = meant true false
