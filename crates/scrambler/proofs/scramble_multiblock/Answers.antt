use Rattle.std.proofs.Common.{rules}
use Prim.Native.Nat.{ℕ, ◌*◌}
use mathlib.Core.Path.{◌≡◌, refl, ap, ◌∙◌}
use mathlib.Core.List.{List}
use native.Mathlib.Omega.{arith}
use lib.ListN.{set}
use Rattle.bits.specs.Order.{bit_at, number}
use Rattle.bits.proofs.Numbers.{bit_at_lt}
use Rattle.bits.proofs.WordLists.{words-none, words_more}
use Rattle.scrambler.specs.Scrambling.{sent, all_sent, history_after}
use Rattle.scrambler.proofs.Scrambling.{words-all}
use Rattle.scrambler.proofs.Blocks.{next-sent, next-history}
use Rattle.scrambler.proofs.scramble_multiblock.Goals as goal

pub loop-i-init : goal.loop-i-init
loop-i-init c =
    let a = c.args in
    (search rules, c.history_after-past.ensures ∙ unfold history_after all_sent in refl, words-none (sent (bit_at a.user.now) a.history) _)

pub loop-i-preserved : goal.loop-i-preserved
loop-i-preserved c =
    let a = c.args in
    let l = c.loop-i in
    let word = c.word_at in
    let block = c.scramble in
    let user = bit_at a.user.now in
    let bits = bit_at_lt a.user.now in
    let at : word.result ≡ number user (64 * l.i) 64 = word.ensures ∙ ap (λ (x : ℕ). number user x 64) (omega arith) in (
      omega arith,
      c.history_after-past-in-loop-i.ensures ∙ next-history user bits a.history l.i word.result l.past at l.invariant.1 block.result block.ensures,
      ap (λ (x : List ℕ). set x l.i block.result) l.invariant.2
          ∙ words_more (sent user a.history) l.i block.result _ (omega arith) (block.ensures ∙ next-sent user bits a.history l.i word.result l.past at l.invariant.1),
    )

pub returns-clause-blocks_value : goal.returns-clause-blocks_value
returns-clause-blocks_value c = let a = c.args in
    let l = c.loop-i in
    let user = bit_at a.user.now in
    let e : l.i ≡ 32 = omega arith in words-all (sent user a.history) 32 l.i _ e refl l.invariant.2
