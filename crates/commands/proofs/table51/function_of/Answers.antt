use Rattle.std.proofs.Common.{arith}
use mathlib.Core.Path.{◌∙◌}
use Rattle.commands.proofs.Table.{reserved, past, users}
use Rattle.commands.proofs.table51.function_of.Goals.{in_default-via-then-code-lt16, in_default-via-else-code-lt16+else-code-lt32}
use Rattle.commands.proofs.table51.function_of.Goals as goal

pub returns-in-16-to-31-clause-line : goal.returns-in-16-to-31-clause-line
returns-in-16-to-31-clause-line c = c.any_number.ensures ∙ users c.args.code (omega arith) (omega arith)

pub returns-in_default-clause-line : goal.returns-in_default-clause-line
returns-in_default-clause-line c =
    elim c.in_default.branch [
      | in_default-via-then-code-lt16 w ↦ c.any_number-in_default.ensures ∙ reserved c.args.code (omega arith) (omega arith)
      | in_default-via-else-code-lt16+else-code-lt32 w ↦ c.any_number-in_default.ensures ∙ past c.args.code (omega arith)
    ]
