use Rattle.receiver.proofs.Turns.{turned}
use Rattle.receiver.proofs.run.release.Goals as goal

pub returns : goal.returns
returns c =
    let a = c.args in
    let pre = c.requires in
    let r = c.release-released in
    let e = r.ensures in
    turned a.layout.row a.state a.lane.now a.octets.now _ c.hear-heard.result c.whole.result r.result c.with-counts.result c.place.result c.pattern.result
    pre.1 pre.2 c.hear-heard.ensures c.whole.ensures e.verdict_value e.status_value e.history_value e.trusted_value e.out_after
    c.with-counts.ensures c.place.ensures c.pattern.ensures
