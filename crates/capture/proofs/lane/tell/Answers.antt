use native.Mathlib.Omega.{arith}
use mathlib.Core.Path.{sym, ◌∙◌}
use lib.Seq.{length-take-le}
use Rattle.frame.proofs.Rows.{most-is}
use Rattle.capture.proofs.Told.{lane-told}
use Rattle.capture.proofs.lane.tell.Goals as goal

pub slice_bounds-commands-end : goal.slice_bounds-commands-end
slice_bounds-commands-end c = omega (arith, c.receive-received.ensures.lists.few, most-is)

pub slice_bounds-commands-end-2 : goal.slice_bounds-commands-end-2
slice_bounds-commands-end-2 c = sym (length-take-le c.receive-received.result.count c.receive-received.result.commands (omega (arith, c.receive-received.ensures.lists.few, most-is)))

pub returns : goal.returns
returns c =
    let o = c.args.opened in
    let r = c.receive-received.ensures in
    c.write_messages.ensures ∙ lane-told o.mode o.e _ _ o.lane.now _ _ _ _ c.args.text.now r.received c.requires.0 r.lists
