use mathlib.Core.Path.{ap, ◌∙◌}
use native.Mathlib.Omega.{arith}
use Rattle.frame.specs.Modes.{row}
use Rattle.frame.proofs.Rows.{longest-is, lane-within}
use Rattle.capture.specs.Form.{limited_by, longest_of}
use Rattle.capture.proofs.Refusals.{longest-product}
use Rattle.capture.proofs.form.longest_of.Goals as goal

pub overflow_mul-result : goal.overflow_mul-result
overflow_mul-result c =
    let mode = c.args.mode in
    let is = c.row_of-row.ensures ∙ ap row c.limited_by.ensures in
    omega (arith, longest-product (limited_by mode) _ _ is c.numbers_of.ensures, lane-within (limited_by mode), longest-is)

pub returns : goal.returns
unfolding longest_of
returns c =
    let mode = c.args.mode in
    let is = c.row_of-row.ensures ∙ ap row c.limited_by.ensures in
    let product = longest-product (limited_by mode) _ _ is c.numbers_of.ensures in
    (product, omega (arith, product, lane-within (limited_by mode)))
