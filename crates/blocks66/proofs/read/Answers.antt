use mathlib.Core.Path.{◌∙◌}
use Rattle.std.proofs.Common.{arith}
use Rattle.frame.proofs.Sizes.{octets-66}
use Rattle.frame.proofs.Lane.{read-octets, read-firsts, read-seconds, no-octets, no-firsts, no-seconds}
use Rattle.blocks66.proofs.read.Goals as goal

pub returns-in-Some-clause-octets_value : goal.returns-in-Some-clause-octets_value
returns-in-Some-clause-octets_value c =
    let first = c.in-Some.ensures.cases in
    c.gather.ensures.octets_value ∙ read-octets 0 264 c.args.lane.now _ (omega (arith, octets-66)) first.enough first.same

pub returns-in-Some-clause-first_value : goal.returns-in-Some-clause-first_value
returns-in-Some-clause-first_value c =
    let first = c.in-Some.ensures.cases in
    c.gather.ensures.first_value ∙ read-firsts 0 264 c.args.lane.now _ (omega (arith, octets-66)) first.enough first.same

pub returns-in-Some-clause-second_value : goal.returns-in-Some-clause-second_value
returns-in-Some-clause-second_value c =
    let first = c.in-Some.ensures.cases in
    c.gather.ensures.second_value ∙ read-seconds 0 264 c.args.lane.now _ (omega (arith, octets-66)) first.enough first.same

pub returns-in-None-clause-octets_value : goal.returns-in-None-clause-octets_value
returns-in-None-clause-octets_value c = no-octets 0 c.args.lane.now (omega (arith, c.in-None.ensures.cases, octets-66))

pub returns-in-None-clause-first_value : goal.returns-in-None-clause-first_value
returns-in-None-clause-first_value c = no-firsts 0 c.args.lane.now (omega (arith, c.in-None.ensures.cases, octets-66))

pub returns-in-None-clause-second_value : goal.returns-in-None-clause-second_value
returns-in-None-clause-second_value c = no-seconds 0 c.args.lane.now (omega (arith, c.in-None.ensures.cases, octets-66))
