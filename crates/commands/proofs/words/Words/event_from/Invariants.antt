use mathlib.Core.Bool.{true}
use Rattle.commands.specs.Reading.{meant}
use Rattle.commands.proofs.words.Words.event_from.Given as goal

abbrev pub ghost-in_a_row : goal.ghost-in_a_row
ghost-in_a_row a = meant true true
