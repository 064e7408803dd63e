use mathlib.Core.Path.{sym, ap, ◌∙◌}
use mathlib.Core.Bool.{Bool}
use Rattle.bits.specs.Choice.{pick}
use Rattle.capture.specs.Form.{limited_by}
use Rattle.capture.proofs.form.limited_by.Goals as goal

pub returns-then-known : goal.returns-then-known
unfolding limited_by
returns-then-known c =
    ap (λ (t : Bool). pick t c.args.mode 0) (sym c.if-known.true ∙ c.known.ensures)

pub returns-else-known : goal.returns-else-known
unfolding limited_by
returns-else-known c =
    ap (λ (t : Bool). pick t c.args.mode 0) (sym c.if-known.false ∙ c.known.ensures)
