use mathlib.Core.Path.{◌≡◌, sym, ap, ◌∙◌}
use native.Mathlib.Nat.{zero-add}
use native.Mathlib.Omega.{arith}
use lib.ListN.{length}
use Rattle.bits.specs.Order.{list_from}
use Rattle.commands.specs.Words.{with_parity}
use Rattle.commands.specs.Writing.{command_of}
use Rattle.commands.proofs.OneByOne.{none-laid, one-more-laid, all-laid}
use Rattle.commands.proofs.writing.Given.put.Goals as goal

pub loop-k-init : goal.loop-k-init
loop-k-init c =
    let a = c.args in
    none-laid (command_of a.self.now.each a.self.now.code a.self.now.payload.now) 0 a.commands.now

pub loop-k-preserved : goal.loop-k-preserved
unfolding command_of
loop-k-preserved c =
    let a = c.args in
    let l = c.loop-k in
    let command = command_of a.self.now.each a.self.now.code a.self.now.payload.now in
    one-more-laid command 0 l.k a.commands.now l.commands c.with_parity.result (omega arith) l.invariant
    (c.with_parity.ensures ∙ ap with_parity c.together.ensures.words ∙ ap command (sym (zero-add l.k)))

pub returns : goal.returns
returns c =
    let a = c.args in
    let l = c.loop-k in
    let command = command_of a.self.now.each a.self.now.code a.self.now.payload.now in
    let all : l.k ≡ length a.commands.now = omega arith in
    all-laid command 0 l.k a.commands.now l.commands all l.invariant ∙ ap (list_from command 0) all
