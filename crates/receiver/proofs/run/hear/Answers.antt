use Rattle.receiver.proofs.Hearing.{heard-is}
use Rattle.receiver.proofs.run.hear.Goals as goal

pub returns : goal.returns
returns c =
    let r = c.read-read in
    let a = c.args in
    heard-is a.layout a.lane.now r.result.headers.first r.result.headers.second c.carried.result c.parities.result c.command.result
    c.invalid_count.result r.result.octets c.requires r.ensures.first_value r.ensures.second_value r.ensures.octets_value c.carried.ensures
    c.parities.ensures c.command.ensures c.invalid_count.ensures
