use Rattle.std.proofs.Common.{rules}
use Prim.Native.Nat.{ℕ, ◌+◌, ◌*◌, ◌/◌, ◌%◌, ◌^◌}
use mathlib.Core.Path.{◌≡◌, refl, ap, ap₂, ◌∙◌}
use native.Mathlib.Omega.{arith}
use lib.Dec.{lit≤}
use Rattle.bits.specs.Order.{bit_at, number, laid_at}
use Rattle.bits.proofs.Numbers.{bit_at_lt, number-none}
use Rattle.bits.proofs.Laid.{laid_none, laid_word}
use Rattle.frame.specs.Lane.{first_bit, second_bit, data_bit}
use Rattle.frame.proofs.Lane.{data_bit-lt}
use Rattle.frame.proofs.Gathering.{piece-word, first_more, second_more, octets-read}
use Rattle.blocks80.proofs.Tens.{gathered-lt, header_read_lem, data-read}
use Rattle.blocks80.proofs.gather.Goals as goal

pub loop-block-init : goal.loop-block-init
loop-block-init c =
    let lane = bit_at c.args.lane.now in (search rules, refl, number-none (first_bit 2 lane 0) 0, number-none (second_bit 2 lane 0) 0, laid_none (data_bit 2 lane 0) _)

pub overflow_add-data : goal.overflow_add-data
overflow_add-data c =
    let first = c.data_of in
    let second = c.data_of-in-loop-block in
    omega (arith, first.ensures, second.ensures, gathered-lt (c.word_at-upper.result / 2 ^ 24), gathered-lt (c.word_at-lower.result % 2 ^ 40))

pub loop-block-preserved : goal.loop-block-preserved
loop-block-preserved c =
    let l = c.loop-block in
    let octets = c.args.lane.now in
    let lane = bit_at octets in
    let bits = bit_at_lt octets in
    let eu : c.word_at-upper.result ≡ number lane (80 * l.block) 64 = c.word_at-upper.ensures ∙ piece-word 10 _ octets l.block 0 _ c.as_chunks.ensures.front (omega (arith, c.told-lane)) (lit≤ tt) (omega arith) in
    let el : c.word_at-lower.result ≡ number lane (80 * l.block + 16) 64 = c.word_at-lower.ensures ∙ piece-word 10 _ octets l.block 16 _ c.as_chunks.ensures.front (omega (arith, c.told-lane)) (lit≤ tt) (omega arith) in
    let header = header_read_lem lane bits l.block c.word_at-upper.result c.word_at-lower.result eu el in
    let both : c.data_of.result * 2 ^ 32 % 2 ^ 64 + c.data_of-in-loop-block.result ≡ number (data_bit 2 lane 0) (64 * l.block) 64 =
    ap₂ (λ (x y : ℕ). x * 2 ^ 32 % 2 ^ 64 + y) c.data_of.ensures c.data_of-in-loop-block.ensures ∙ data-read lane bits l.block c.word_at-upper.result c.word_at-lower.result eu el in (
      search rules,
      search rules,
      first_more 2 lane bits l.block _ (omega arith) header l.first l.invariant.2,
      second_more 2 lane bits l.block _ (omega arith) header l.second l.invariant.3,
      c.put_word.ensures
          ∙ ap (laid_at _ (8 * l.block)) l.invariant.4
          ∙ laid_word (data_bit 2 lane 0) (data_bit-lt 2 lane bits 0) l.block _ _ (omega arith) both,
    )

pub returns-clause-octets_value : goal.returns-clause-octets_value
returns-clause-octets_value c = let l = c.loop-block in
    let lane = bit_at c.args.lane.now in
    let e : l.block ≡ 32 = omega arith in octets-read 2 lane l.block _ e refl l.invariant.4
