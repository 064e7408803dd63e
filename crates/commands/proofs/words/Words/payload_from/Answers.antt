use mathlib.Core.Path.{◌≡◌, ap, ◌∙◌}
use mathlib.Core.List.{List}
use Prim.Native.Nat.{ℕ}
use native.Mathlib.Omega.{arith}
use lib.ListN.{take, replicate}
use Rattle.std.proofs.lemmas.List.{length-take-le}
use Rattle.bits.specs.Order.{list_from}
use Rattle.commands.specs.Words.{word_at}
use Rattle.commands.specs.Reading.{five_bits, payload_from}
use Rattle.commands.proofs.OneByOne.{none-laid, one-more-laid, all-laid, laid-first}
use Rattle.commands.proofs.words.Words.payload_from.Goals as goal

abbrev payload : ℕ → List ℕ → ℕ → ℕ
payload n commands i = five_bits (word_at n commands i)

abbrev zeros : List ℕ
zeros = replicate 7 0

pub loop-k-init : goal.loop-k-init
loop-k-init c =
    let a = c.args in
    none-laid (payload a.self.now.each a.self.now.commands.now) a.at (take a.count zeros)

pub loop-k-preserved : goal.loop-k-preserved
loop-k-preserved c =
    let a = c.args in
    let l = c.loop-k in
    let read = c.five_bits.ensures ∙ ap five_bits c.at.ensures in
    one-more-laid (payload a.self.now.each a.self.now.commands.now) a.at l.k (take a.count zeros) l.bits-items c.five_bits.result (omega arith) l.invariant read

pub returns : goal.returns
unfolding payload_from
returns c =
    let a = c.args in
    let l = c.loop-k in
    let words = payload a.self.now.each a.self.now.commands.now in
    let long = length-take-le a.count zeros (omega arith) in
    let all : l.k ≡ a.count = omega (arith, long) in
    laid-first words a.at a.count zeros l.bits-items
    (all-laid words a.at l.k (take a.count zeros) l.bits-items (omega arith) l.invariant ∙ ap (list_from words a.at) all)
