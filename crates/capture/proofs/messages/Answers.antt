use mathlib.Core.Path.{◌≡◌, ◌∙◌}
use Rattle.std.proofs.Common.{rules}
use Rattle.capture.specs.Form.{mode_of}
use Rattle.capture.specs.Messages.{has_commands, messages_refusal}
use Rattle.capture.proofs.Refusals.{accepted, receivable, refused-read, opened-read}
use Rattle.capture.proofs.Channel.{known_some}
use Rattle.capture.proofs.Told.{refused-messages, whole-messages}
use Rattle.capture.proofs.messages.Goals as goal

pub returns-in_err-opened : goal.returns-in_err-opened
unfolding messages_refusal has_commands
returns-in_err-opened c =
    let capture = c.args.capture.now in
    let h = c.in_err-opened.ensures in
    let own : h.0 ≡ has_commands (mode_of capture) = search rules in
    refused-messages capture c.args.text.now _ (refused-read has_commands capture h.0 own _ h.2) c.from_residual.result c.from_residual.ensures.1

pub tell-requires : goal.tell-requires
unfolding messages_refusal has_commands
tell-requires c =
    let capture = c.args.capture.now in
    let h = c.in_ok-opened.ensures in
    let own : h.0 ≡ has_commands (mode_of capture) = search rules in
    let is = opened-read has_commands capture h.0 own c.in_ok-opened.opened h.2 in
    let a = accepted has_commands capture is.0 in
    rw (← is.1, ← is.3) (a.mode, receivable capture a (known_some (mode_of capture) a.mode))

pub returns : goal.returns
unfolding messages_refusal has_commands
returns c =
    let capture = c.args.capture.now in
    let h = c.in_ok-opened.ensures in
    let own : h.0 ≡ has_commands (mode_of capture) = search rules in
    let is = opened-read has_commands capture h.0 own c.in_ok-opened.opened h.2 in
    c.tell.ensures ∙ whole-messages capture c.args.text.now _ _ _ is.0 is.1 is.2 is.3
