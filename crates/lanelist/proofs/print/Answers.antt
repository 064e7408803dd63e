-- What is printed is the listing, or the line of the refusal.
use Rattle.std.proofs.Common.{arith}
use Rattle.capture.proofs.Short.{listing-printed, refusal-fits, refusal-printed}
use Rattle.lanelist.specs.Output.{printed}
use Rattle.lanelist.proofs.print.Goals as goal

pub returns-in-Ok : goal.returns-in-Ok
unfolding printed
returns-in-Ok c = listing-printed c.args.octets.now c.args.text.now _ (omega (arith, c.requires)) c.in-Ok.count c.in-Ok.ensures

pub unwrap-requires : goal.unwrap-requires
unwrap-requires c =
    let put = rw c.number.ensures at c.write_refusal.ensures in
    refusal-fits c.args.octets.now c.args.text.now _ (omega (arith, c.requires)) c.in-Err.why c.in-Err.ensures c.write_refusal.result _ put

pub returns-in-Err : goal.returns-in-Err
unfolding printed
returns-in-Err c =
    let put = rw c.number.ensures at c.write_refusal.ensures in
    refusal-printed c.args.octets.now c.args.text.now _ (omega (arith, c.requires)) c.in-Err.why c.in-Err.ensures c.write_refusal.result _ put _ c.unwrap.ensures
