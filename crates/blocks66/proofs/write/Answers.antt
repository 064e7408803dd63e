use Rattle.std.proofs.Common.{rules}
use Prim.Native.Nat.{ℕ, ◌*◌, ◌^◌, ◌<◌}
use mathlib.Core.Path.{◌≡◌, sym, ap, ◌∙◌}
use mathlib.Core.List.{List}
use native.Mathlib.Omega.{arith}
use lib.Dec.{lit≤}
use lib.ListN.{get_or}
use Rattle.bits.specs.Order.{digit, octets_of, word_bit, laid, laid_at}
use Rattle.bits.proofs.Numbers.{number-none}
use Rattle.bits.proofs.Laid.{too_short, laid_none, laid_word, laid-start}
use Rattle.frame.specs.Lane.{multiblock, multiblock_bit}
use Rattle.frame.proofs.Lane.{multiblock_bit-lt}
use Rattle.blocks66.proofs.Packing.{word-written, before-next, last_word, octets-written, length-written}
use Rattle.frame.proofs.Gathering.{block-given}
use Rattle.blocks66.proofs.write.Goals as goal

pub returns-then-lane-lt-OCTETS : goal.returns-then-lane-lt-OCTETS
returns-then-lane-lt-OCTETS c =
    let a = c.args in
    let octets = octets_of (word_bit a.blocks.now) 256 in
    let size = length-written a.sync octets in
    sym (too_short (multiblock 0 0 a.sync octets) 0 a.lane.now (omega arith))

pub loop-block-init : goal.loop-block-init
loop-block-init c =
    let a = c.args in
    let lane = multiblock_bit 0 0 a.sync (octets_of (word_bit a.blocks.now) 256) in (search rules, lit≤ tt, number-none lane 0, laid_none lane a.lane.now)

pub loop-block-preserved : goal.loop-block-preserved
loop-block-preserved c =
    let a = c.args in
    let l = c.loop-block in
    let octets = octets_of (word_bit a.blocks.now) 256 in
    let own = get_or a.blocks.now l.block 0 in
    let short : own < 2 ^ 64 = c.fits-blocks l.block in
    let is = block-given a.blocks.now l.block (omega arith) short in
    let word = c.lane_word in (
      search rules,
      short,
      before-next a.sync octets l.block own (omega arith) is,
      c.put_word.ensures
          ∙ ap (laid_at (octets_of (digit 64 word.result) 8) (8 * l.block)) l.invariant.3
          ∙ laid_word (multiblock_bit 0 0 a.sync octets) (multiblock_bit-lt 0 0 a.sync octets) l.block word.result a.lane.now (omega arith)
          (word-written a.sync octets l.block own (omega arith) is l.before word.result l.invariant.2 word.ensures),
    )

pub returns : goal.returns
returns c =
    let a = c.args in
    let l = c.loop-block in
    let octets = octets_of (word_bit a.blocks.now) 256 in
    let lane = multiblock_bit 0 0 a.sync octets in
    let size = length-written a.sync octets in
    let e : l.block ≡ 32 = omega arith in
    c.put_word-2.ensures
    ∙ ap (laid_at (octets_of (digit 64 l.before) 8) 256) (l.invariant.3 ∙ ap (λ (x : ℕ). laid (octets_of lane (8 * x)) a.lane.now) e)
    ∙ laid_word lane (multiblock_bit-lt 0 0 a.sync octets) 32 l.before a.lane.now (omega arith) (last_word a.sync octets l.block l.before e l.invariant.1 l.invariant.2)
    ∙ ap (λ (x : List ℕ). laid x a.lane.now) (octets-written a.sync octets)
    ∙ sym (laid-start (multiblock 0 0 a.sync octets) a.lane.now (omega arith))
