use Rattle.std.proofs.Common.{rules}
use Prim.Native.Nat.{ℕ, ◌*◌}
use mathlib.Core.Path.{◌≡◌, refl, sym, ap, ◌∙◌}
use native.Mathlib.Omega.{arith}
use Rattle.bits.specs.Order.{bit_at, number, digit, octets_of, laid, laid_at}
use Rattle.bits.proofs.Laid.{too_short, laid-start, laid_none, laid_word}
use Rattle.bits.proofs.Numbers.{bit_at_lt}
use Rattle.scrambler.specs.Scrambling.{plain, descrambled}
use Rattle.scrambler.proofs.Scrambling.{all_come, plain-lt, length-descrambled}
use Rattle.scrambler.proofs.Blocks.{next-plain, next-come}
use Rattle.scrambler.proofs.descramble_multiblock.Goals as goal

pub loop-i-init : goal.loop-i-init
loop-i-init c =
    let a = c.args in
    (search rules, c.history_after-past.ensures ∙ unfold all_come in refl, laid_none (plain a.history (bit_at a.octets.now)) a.out.now)

pub loop-i-preserved : goal.loop-i-preserved
loop-i-preserved c =
    let a = c.args in
    let l = c.loop-i in
    let word = c.word_at-block in
    let block = c.descramble in
    let stream = bit_at a.octets.now in
    let bits = bit_at_lt a.octets.now in
    let own : block.result ≡ number (plain l.past (digit 64 word.result)) 0 64 = block.ensures in
    let at : word.result ≡ number stream (64 * l.i) 64 = word.ensures ∙ ap (λ (k : ℕ). number stream k 64) (omega arith) in (
      omega arith,
      c.history_after-past-in-loop-i.ensures ∙ next-come stream bits a.history l.i word.result l.past at,
      c.put_word.ensures
          ∙ ap (laid_at (octets_of (digit 64 block.result) 8) (8 * l.i)) l.invariant.2
          ∙ laid_word (plain a.history stream) (plain-lt a.history stream bits) l.i block.result a.out.now (omega arith)
          (own ∙ next-plain stream bits a.history l.i word.result l.past at l.invariant.1),
    )

pub returns-after-loop-i : goal.returns-after-loop-i
returns-after-loop-i c =
    let a = c.args in
    let l = c.loop-i in
    let size = length-descrambled a.octets.now a.history 256 in
    let all : l.i ≡ 32 = omega arith in
    l.invariant.2
    ∙ ap (λ (i : ℕ). laid (octets_of (plain a.history (bit_at a.octets.now)) (8 * i)) a.out.now) all
    ∙ sym (unfold descrambled in laid-start (descrambled a.octets.now a.history 256) a.out.now (omega arith))

pub returns-else-out-ge256 : goal.returns-else-out-ge256
returns-else-out-ge256 c =
    let a = c.args in
    let size = length-descrambled a.octets.now a.history 256 in
    sym (too_short (descrambled a.octets.now a.history 256) 0 a.out.now (omega arith))
