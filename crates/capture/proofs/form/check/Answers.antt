use mathlib.Core.Path.{sym, ap, ◌∙◌}
use native.Mathlib.Omega.{arith}
use Rattle.frame.specs.declared.modes.Numbers.{Numbers}
use Rattle.frame.specs.Modes.{row, numbers_of, extent_fits}
use Rattle.frame.proofs.Sizes.{octets-some}
use Rattle.capture.proofs.Refusals.{formed-length, refused-8, refused-1, refused-2, refused-4, not-refused}
use Rattle.capture.proofs.form.check.Goals as goal

pub returns-then-not-well_formed : goal.returns-then-not-well_formed
returns-then-not-well_formed c = refused-8 _ c.args.capture.now (sym c.well_formed-2.ensures ∙ c.if-not-well_formed.true)

pub returns-then-not-taken : goal.returns-then-not-taken
returns-then-not-taken c = refused-1 _ c.args.capture.now (sym c.well_formed-2.ensures ∙ c.if-not-well_formed.false) c.if-not-taken.true

pub returns-then-not-extent_fits : goal.returns-then-not-extent_fits
returns-then-not-extent_fits c =
    refused-2 _ c.args.capture.now (sym c.well_formed-2.ensures ∙ c.if-not-well_formed.false) c.if-not-taken.false
    (sym (c.extent_fits.ensures ∙ ap extent_fits c.extent_of.ensures) ∙ c.if-not-extent_fits.true)

pub overflow_sub-capture : goal.overflow_sub-capture
overflow_sub-capture c = omega (arith, (formed-length c.args.capture.now (sym c.well_formed-2.ensures ∙ c.if-not-well_formed.false)).0)

pub nonzero_rem-capture : goal.nonzero_rem-capture
nonzero_rem-capture c = omega (arith, ap (λ (N : Numbers). N.octets) c.numbers_of-numbers.ensures, octets-some c.row_of.result.gap)

pub returns-then-capture-numbers-ne0 : goal.returns-then-capture-numbers-ne0
returns-then-capture-numbers-ne0 c =
    refused-4 _ c.args.capture.now (sym c.well_formed-2.ensures ∙ c.if-not-well_formed.false) c.if-not-taken.false
    (sym (c.extent_fits.ensures ∙ ap extent_fits c.extent_of.ensures) ∙ c.if-not-extent_fits.false)
    _ (c.numbers_of-numbers.ensures ∙ ap numbers_of (c.row_of.ensures ∙ ap row c.mode_of.ensures)) c.if-capture-numbers-ne0.true

pub returns : goal.returns
returns c =
    not-refused _ c.args.capture.now (sym c.well_formed-2.ensures ∙ c.if-not-well_formed.false) c.if-not-taken.false
    (sym (c.extent_fits.ensures ∙ ap extent_fits c.extent_of.ensures) ∙ c.if-not-extent_fits.false)
    _ (c.numbers_of-numbers.ensures ∙ ap numbers_of (c.row_of.ensures ∙ ap row c.mode_of.ensures)) c.if-capture-numbers-ne0.false
