use Rattle.std.proofs.Common.{rules, tests}
use mathlib.Core.Path.{◌∙◌}
use lib.Dec.{ltb}
use Rattle.std.proofs.lemmas.Iterator.{YieldsList-from_slice}
use Rattle.std.proofs.lemmas.Iterator.Search.{all_from_yields_List}
use Rattle.bits.proofs.Bounds.{each_below}
use Rattle.bits.proofs.all_below.Goals as goal

pub returns : goal.returns
returns c =
    let a = c.args in
    all_from_yields_List (λ n. ltb n a.bound) _ _ _ c.all.ensures.ran (YieldsList-from_slice a.numbers.now cc) (λ x b q k. search (rules, tests))
    ∙ each_below a.bound a.numbers.now
