use mathlib.Core.Path.{◌∙◌}
use native.Mathlib.Omega.{arith}
use Rattle.commands.proofs.Found.{from_past}
use Rattle.commands.proofs.words.Words.event_from.Goals as goal

pub returns-then-from-all : goal.returns-then-from-all
returns-then-from-all c =
    let a = c.args in
    c.nothing_at.ensures ∙ from_past a.self.now.each a.self.now.commands.now a.from (omega arith) c.if-from-all.true
