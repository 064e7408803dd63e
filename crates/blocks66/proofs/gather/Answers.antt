use Rattle.std.proofs.Common.{rules}
use Prim.Native.Nat.{ℕ, ◌+◌, ◌*◌}
use mathlib.Core.Path.{◌≡◌, refl, ap, ◌∙◌}
use native.Mathlib.Omega.{arith}
use mathlib.Core.List.{List, []}
use lib.Dec.{lit≤}
use lib.ListN.{drop}
use Rattle.std.proofs.lemmas.List.{get_or-take}
use Rattle.std.proofs.lemmas.Grind.{get_or_after_one}
use Rattle.bits.specs.Order.{bit_at, digit, number, octets_of, laid_at}
use Rattle.bits.proofs.Numbers.{bit_at_lt, number-none}
use Rattle.bits.proofs.Laid.{laid_none, laid_word}
use Rattle.frame.specs.Lane.{first_bit, second_bit, data_bit}
use Rattle.frame.proofs.Lane.{data_bit-lt}
use Rattle.blocks66.proofs.Packing.{data-read, header_read_lem}
use Rattle.frame.proofs.Gathering.{piece-word, first_more, second_more, octets-read}
use Rattle.blocks66.proofs.gather.Goals as goal

pub loop-block-init : goal.loop-block-init
loop-block-init c =
    let octets = c.args.lane.now in
    let lane = bit_at octets in (
      search rules,
      refl,
      number-none (first_bit 0 lane 0) 0,
      number-none (second_bit 0 lane 0) 0,
      c.word_at-word.ensures ∙ piece-word 8 _ octets 0 0 0 c.as_chunks.ensures.front (omega (arith, c.told-lane)) (lit≤ tt) refl,
      laid_none (data_bit 0 lane 0) _,
    )

pub loop-block-preserved : goal.loop-block-preserved
loop-block-preserved c =
    let l = c.loop-block in
    let octets = c.args.lane.now in
    let lane = bit_at octets in
    let bits = bit_at_lt octets in
    let next = c.word_at-next in
    let words = c.as_chunks.result.0.now in
    let header = c.header_in-header in
    let block = c.data_in in
    let value = header_read_lem lane bits l.block l.word (omega arith) l.invariant.4 header.result header.ensures in
    let place : next.result ≡ number lane (64 * (l.block + 1)) 64 =
    next.ensures
    ∙ ap (λ (x : List ℕ). number (bit_at x) 0 64) (get_or-take _ (drop 1 words) l.block [] (omega (arith, c.told-lane, c.as_chunks.ensures.front_len)) ∙ get_or_after_one words l.block [])
    ∙ piece-word 8 _ octets (1 + l.block) 0 _ c.as_chunks.ensures.front (omega (arith, c.told-lane)) (lit≤ tt) (omega arith) in
    let put : c.put_word.new.out ≡ laid_at (octets_of (digit 64 block.result) 8) (8 * l.block) l.octets = c.put_word.ensures in (
      search rules,
      search rules,
      first_more 0 lane bits l.block header.result (omega arith) value l.first l.invariant.2,
      second_more 0 lane bits l.block header.result (omega arith) value l.second l.invariant.3,
      place,
      put
          ∙ ap (laid_at (octets_of (digit 64 block.result) 8) (8 * l.block)) l.invariant.5
          ∙ laid_word (data_bit 0 lane 0) (data_bit-lt 0 lane bits 0) l.block block.result _ (omega arith)
          (data-read lane bits l.block l.word (omega arith) l.invariant.4 next.result block.result place block.ensures),
    )

pub returns-clause-octets_value : goal.returns-clause-octets_value
returns-clause-octets_value c = let l = c.loop-block in
    let lane = bit_at c.args.lane.now in
    let e : l.block ≡ 32 = omega arith in octets-read 0 lane l.block _ e refl l.invariant.5
