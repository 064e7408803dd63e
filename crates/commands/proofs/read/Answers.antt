use mathlib.Core.Path.{ap}
use Rattle.answers.specs.Numbers.{refused}
use Rattle.commands.proofs.Answers.{list-ready}
use Rattle.commands.proofs.read.Goals as goal

pub invariant_of-words : goal.invariant_of-words
invariant_of-words c =
    let a = c.args in
    let ready = list-ready a.mode a.commands.now a.from _ c.of_list.ensures (ap refused c.in_ok-of_list.was) _ c.channel_words.ensures in
    record { some = ready.0; few = ready.1 }
