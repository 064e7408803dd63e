use mathlib.Core.Path.{◌∙◌}
use Rattle.std.proofs.Common.{arith}
use Rattle.frame.proofs.Sizes.{octets-80}
use Rattle.frame.proofs.Lane.{read-octets, read-firsts, read-seconds, no-octets, no-firsts, no-seconds}
use Rattle.blocks80.proofs.read.Goals as goal

pub returns-in-Some-clause-octets_value : goal.returns-in-Some-clause-octets_value
returns-in-Some-clause-octets_value c =
    let first = c.in-Some.ensures.cases in
    c.gather.ensures.octets_value ∙ read-octets 2 320 c.args.lane.now _ (omega (arith, octets-80)) first.enough first.same

pub returns-in-Some-clause-first_value : goal.returns-in-Some-clause-first_value
returns-in-Some-clause-first_value c =
    let first = c.in-Some.ensures.cases in
    c.gather.ensures.first_value ∙ read-firsts 2 320 c.args.lane.now _ (omega (arith, octets-80)) first.enough first.same

pub returns-in-Some-clause-second_value : goal.returns-in-Some-clause-second_value
returns-in-Some-clause-second_value c =
    let first = c.in-Some.ensures.cases in
    c.gather.ensures.second_value ∙ read-seconds 2 320 c.args.lane.now _ (omega (arith, octets-80)) first.enough first.same

pub returns-in-None-clause-octets_value : goal.returns-in-None-clause-octets_value
returns-in-None-clause-octets_value c = no-octets 2 c.args.lane.now (omega (arith, c.in-None.ensures.cases, octets-80))

pub returns-in-None-clause-first_value : goal.returns-in-None-clause-first_value
returns-in-None-clause-first_value c = no-firsts 2 c.args.lane.now (omega (arith, c.in-None.ensures.cases, octets-80))

pub returns-in-None-clause-second_value : goal.returns-in-None-clause-second_value
returns-in-None-clause-second_value c = no-seconds 2 c.args.lane.now (omega (arith, c.in-None.ensures.cases, octets-80))
