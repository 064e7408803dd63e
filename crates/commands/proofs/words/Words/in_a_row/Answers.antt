use mathlib.Core.Path.{◌∙◌}
use Prim.Native.Nat.{ℕ, ◌+◌}
use native.Mathlib.Omega.{arith}
use Rattle.std.proofs.Common.{rules, tests}
use Rattle.std.proofs.lemmas.Iterator.{YieldsList-from_range}
use Rattle.std.proofs.lemmas.Iterator.Consumers.{count_from_yields_List}
use Rattle.std.proofs.lemmas.Iterator.Search.{YieldsList-from_take_while}
use Rattle.std.proofs.lemmas.List.Folds.{length-prefix_len}
use Rattle.std.specs.List.{range_with_len}
use Rattle.commands.specs.Words.{word_at}
use Rattle.commands.proofs.InARow.{row-walked}
use Rattle.commands.proofs.words.Words.in_a_row.Goals as goal

pub returns-clause-counted : goal.returns-clause-counted
returns-clause-counted g c =
    let a = c.args in
    let words = word_at a.self.now.each a.self.now.commands.now in
    let is = λ (i : ℕ). g.test (words i) in
    count_from_yields_List c.take_while.result _ c.count.ensures.ran
    (YieldsList-from_take_while _ is (YieldsList-from_range a.at (a.at + a.most) a.most (cc) (omega arith)) c.take_while.ensures.closure c.take_while.ensures.done (λ x b q k. search (rules, tests, c.requires.1.1.0)))
    ∙ length-prefix_len is (range_with_len a.at a.most) ∙ row-walked g.test words a.at a.most
