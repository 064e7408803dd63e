use native.Mathlib.Omega.{arith}
use mathlib.Core.Path.{sym, ◌∙◌}
use lib.Seq.{length-take-le}
use Rattle.frame.proofs.Rows.{most-is}
use Rattle.capture.proofs.Received.{lane-listed}
use Rattle.capture.proofs.lane.list.Goals as goal

pub slice_bounds-statuses-end : goal.slice_bounds-statuses-end
slice_bounds-statuses-end c = omega (arith, c.receive-received.ensures.lists.few, most-is)

pub slice_bounds-statuses-end-2 : goal.slice_bounds-statuses-end-2
slice_bounds-statuses-end-2 c = sym (length-take-le c.receive-received.result.count c.receive-received.result.statuses (omega (arith, c.receive-received.ensures.lists.few, most-is)))

pub slice_bounds-places-end : goal.slice_bounds-places-end
slice_bounds-places-end c = omega (arith, c.receive-received.ensures.lists.few, most-is)

pub slice_bounds-places-end-2 : goal.slice_bounds-places-end-2
slice_bounds-places-end-2 c = sym (length-take-le c.receive-received.result.count c.receive-received.result.places (omega (arith, c.receive-received.ensures.lists.few, most-is)))

pub slice_bounds-patterns-end : goal.slice_bounds-patterns-end
slice_bounds-patterns-end c = omega (arith, c.receive-received.ensures.lists.few, most-is)

pub slice_bounds-patterns-end-2 : goal.slice_bounds-patterns-end-2
slice_bounds-patterns-end-2 c = sym (length-take-le c.receive-received.result.count c.receive-received.result.patterns (omega (arith, c.receive-received.ensures.lists.few, most-is)))

pub returns : goal.returns
returns c =
    let o = c.args.opened in
    let r = c.receive-received.ensures in
    c.write.ensures ∙ lane-listed o.mode o.e _ _ o.lane.now _ _ _ _ c.args.text.now _ c.row_of-row.ensures r.received r.lists
