use mathlib.Core.Path.{◌≡◌, ◌∙◌}
use Rattle.std.proofs.Common.{rules}
use Rattle.frame.specs.Modes.{known}
use Rattle.capture.specs.Form.{mode_of, refusal_of}
use Rattle.capture.proofs.Refusals.{accepted, receivable, refused-read, opened-read}
use Rattle.capture.proofs.Received.{refused-listing, whole-listing}
use Rattle.capture.proofs.listing.Goals as goal

pub returns-in_err-opened : goal.returns-in_err-opened
unfolding refusal_of
returns-in_err-opened c =
    let capture = c.args.capture.now in
    let h = c.in_err-opened.ensures in
    let own : h.0 ≡ known (mode_of capture) = search rules in
    refused-listing capture c.args.text.now _ (refused-read known capture h.0 own _ h.2) c.from_residual.result c.from_residual.ensures.1

pub list-requires : goal.list-requires
unfolding refusal_of
list-requires c =
    let capture = c.args.capture.now in
    let h = c.in_ok-opened.ensures in
    let own : h.0 ≡ known (mode_of capture) = search rules in
    let is = opened-read known capture h.0 own c.in_ok-opened.opened h.2 in
    let a = accepted known capture is.0 in
    rw (← is.1, ← is.3) (receivable capture a a.mode)

pub returns : goal.returns
unfolding refusal_of
returns c =
    let capture = c.args.capture.now in
    let h = c.in_ok-opened.ensures in
    let own : h.0 ≡ known (mode_of capture) = search rules in
    let is = opened-read known capture h.0 own c.in_ok-opened.opened h.2 in
    c.list.ensures ∙ whole-listing capture c.args.text.now _ _ _ is.0 is.1 is.2 is.3
