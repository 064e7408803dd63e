use mathlib.Core.Path.{◌≡◌, sym, ◌∙◌}
use native.Mathlib.Omega.{arith}
use lib.ListN.{get_or, get_or-eq_default}
use Rattle.bits.proofs.WordLists.{number_word}
use Rattle.parity.proofs.group.RefSliceU64Blocks.block.Goals as goal

pub returns-then-i-self : goal.returns-then-i-self
returns-then-i-self c =
    let a = c.args in
    sym (number_word a.self.now a.i (c.type_inv.self a.i).fits)

pub returns-else-i-self : goal.returns-else-i-self
returns-else-i-self c =
    let a = c.args in
    let none : get_or a.self.now a.i 0 ≡ 0 = get_or-eq_default a.self.now 0 c.if-i-self.false in
    sym (number_word a.self.now a.i (omega arith) ∙ none)
