use mathlib.Core.Path.{sym, ap, ◌∙◌}
use native.Mathlib.Omega.{arith}
use lib.ListN.{length}
use Rattle.answers.specs.Numbers.{refused}
use Rattle.frame.specs.declared.modes.Row.{Row}
use Rattle.frame.specs.declared.modes.Numbers.{Numbers}
use Rattle.frame.specs.Modes.{numbers_of}
use Rattle.frame.proofs.Sizes.{octets-some}
use Rattle.multiblock.proofs.Shapes.{own-shape}
use Rattle.receiver.specs.inner.Turn.{begun_by}
use Rattle.receiver.proofs.Answers.{is-refused, ready, is_all, taken-within}
use Rattle.receiver.proofs.receive.Goals as goal

pub returns-in_err-check : goal.returns-in_err-check
returns-in_err-check c =
    let a = c.args in
    is-refused a.mode a.state a.lane.now a.octets.now a.statuses.now a.commands.now a.places.now a.patterns.now a.invalid.now c.check.result c.check.ensures _ c.in_err-check.was c.from_residual.result c.from_residual.ensures.1

pub invariant_of-layout-clause-shaped : goal.invariant_of-layout-clause-shaped
invariant_of-layout-clause-shaped c = rw c.row_of-row.ensures (own-shape c.args.mode)

pub nonzero_div-n : goal.nonzero_div-n
nonzero_div-n c = omega (arith, ap (λ (x : Numbers). x.octets) c.numbers_of-numbers.ensures, octets-some c.row_of-row.result.gap)

pub overflow_sub-n : goal.overflow_sub-n
overflow_sub-n c =
    let size = ap (λ (x : Numbers). x.octets) c.numbers_of-numbers.ensures in
    taken-within _ _ (length c.args.lane.now) (omega (arith, size, octets-some c.row_of-row.result.gap)) c.begin-begun.ensures.taken_bound.1

pub run-requires-clause-waiting_value : goal.run-requires-clause-waiting_value
run-requires-clause-waiting_value c = let a = c.args in
    let accepted = sym c.check.ensures ∙ ap refused c.in_ok-check.was in
    let b = c.begin-begun in
    let own = c.row_of-row.ensures in
    let numbers = c.numbers_of-numbers.ensures in
    let size = ap (λ (x : Numbers). x.octets) (numbers ∙ ap numbers_of own) in
    let given = ready a.mode a.state a.lane.now a.octets.now a.statuses.now a.commands.now a.places.now a.patterns.now a.invalid.now accepted b.result (b.ensures.value ∙ ap (λ (x : Row). begun_by x a.state a.lane.now) own) _ size in given.0

pub run-requires-clause-room : goal.run-requires-clause-room
run-requires-clause-room c = let a = c.args in
    let accepted = sym c.check.ensures ∙ ap refused c.in_ok-check.was in
    let b = c.begin-begun in
    let own = c.row_of-row.ensures in
    let numbers = c.numbers_of-numbers.ensures in
    let size = ap (λ (x : Numbers). x.octets) (numbers ∙ ap numbers_of own) in
    let given = ready a.mode a.state a.lane.now a.octets.now a.statuses.now a.commands.now a.places.now a.patterns.now a.invalid.now accepted b.result (b.ensures.value ∙ ap (λ (x : Row). begun_by x a.state a.lane.now) own) _ size in given.1

pub returns : goal.returns
returns c =
    let a = c.args in
    let accepted = sym c.check.ensures ∙ ap refused c.in_ok-check.was in
    let b = c.begin-begun in
    let r = c.run in
    let own = c.row_of-row.ensures in
    let numbers = c.numbers_of-numbers.ensures in
    let size = ap (λ (x : Numbers). x.octets) (numbers ∙ ap numbers_of own) in
    is_all a.mode a.state a.lane.now a.octets.now a.statuses.now a.commands.now a.places.now a.patterns.now a.invalid.now accepted b.result (b.ensures.value ∙ ap (λ (x : Row). begun_by x a.state a.lane.now) own) _ own _ size _ _ _ _ _ _ _ r.ensures
