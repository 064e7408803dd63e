use Rattle.std.proofs.Common.{rules}
use Prim.Native.Nat.{ℕ, ◌+◌, ◌*◌}
use mathlib.Core.Path.{◌≡◌, sym, ap, ◌∙◌}
use mathlib.Core.List.{List}
use mathlib.Core.Bool.{Bool}
use native.Mathlib.Omega.{arith}
use borrow.Author.Tests.{le-leb, lt-leb}
use lib.Bits.{and_mask}
use lib.ListN.{length, get_or}
use Rattle.bits.specs.Choice.{pick}
use Rattle.bits.specs.Order.{octets_of, word_bit, laid, laid_at}
use Rattle.bits.proofs.Laid.{too_short, laid_none, laid-start}
use Rattle.fill.specs.Register.{register_after, shifts}
use Rattle.fill.proofs.Registers.{register-start, register-add}
use Rattle.frame.specs.Lane.{lane_octets, multiblock, multiblock_bit, fill_after}
use Rattle.frame.proofs.Sizes.{octets-80, length-multiblock}
use Rattle.frame.proofs.Lane.{fill-moved}
use Rattle.frame.proofs.Gathering.{block-given}
use Rattle.blocks80.proofs.Tens.{first_fits, last_fits, block-laid, octets-written}
use Rattle.blocks80.proofs.write.Goals as goal

pub returns-then-lane-lt-OCTETS-clause-value : goal.returns-then-lane-lt-OCTETS-clause-value
returns-then-lane-lt-OCTETS-clause-value c = let a = c.args in
    let octets = octets_of (word_bit a.blocks.now) 256 in
    let size = length-multiblock 2 a.register a.sync octets in ap (λ (t : Bool). pick t (fill_after 2 a.register) a.register) (sym (lt-leb (lane_octets 2) (length a.lane.now) (omega (arith, octets-80))))

pub loop-block-init : goal.loop-block-init
loop-block-init c =
    let a = c.args in (
      search rules,
      and_mask a.register 17 ∙ sym (register-start a.register),
      laid_none (multiblock_bit 2 a.register a.sync (octets_of (word_bit a.blocks.now) 256)) a.lane.now,
    )

pub overflow_add-upper : goal.overflow_add-upper
overflow_add-upper c =
    let l = c.loop-block in
    let a = c.args in
    let own = get_or a.blocks.now l.block 0 in
    let is = block-given a.blocks.now l.block (omega arith) (c.fits-blocks l.block) in
    let short = first_fits a.register a.sync (octets_of (word_bit a.blocks.now) 256) l.block l.fill c.pairs_of-pairs.result own l.invariant.1 c.pairs_of-pairs.ensures is
    c.half_of-upper.result c.half_of-lower.result c.half_of-upper.ensures c.half_of-lower.ensures in
    search (rules, short)

pub overflow_add-upper-in-loop-block : goal.overflow_add-upper-in-loop-block
overflow_add-upper-in-loop-block c =
    let l = c.loop-block in
    let a = c.args in
    let own = get_or a.blocks.now l.block 0 in
    let is = block-given a.blocks.now l.block (omega arith) (c.fits-blocks l.block) in
    let short = last_fits a.register a.sync (octets_of (word_bit a.blocks.now) 256) l.block l.fill c.pairs_of-pairs.result own l.invariant.1 c.pairs_of-pairs.ensures is
    c.half_of-upper.result c.half_of-lower.result c.half_of-upper.ensures c.half_of-lower.ensures in
    search (rules, short)

pub loop-block-preserved : goal.loop-block-preserved
loop-block-preserved c =
    let l = c.loop-block in
    let a = c.args in
    let octets = octets_of (word_bit a.blocks.now) 256 in
    let own = get_or a.blocks.now l.block 0 in
    let is = block-given a.blocks.now l.block (omega arith) (c.fits-blocks l.block) in (
      search rules,
      c.next_register-fill.ensures
          ∙ ap (λ (x : ℕ). register_after x shifts) l.invariant.1
          ∙ sym (register-add a.register (shifts * l.block) shifts)
          ∙ ap (register_after a.register) (omega arith),
      c.put_word-in-loop-block.ensures
          ∙ ap (laid_at _ (10 * l.block + 2)) (c.put_word.ensures ∙ ap (laid_at _ (10 * l.block)) l.invariant.2)
          ∙ block-laid a.register a.sync octets l.block l.fill c.pairs_of-pairs.result own l.invariant.1 c.pairs_of-pairs.ensures is
          c.half_of-upper.result c.half_of-lower.result c.half_of-upper.ensures c.half_of-lower.ensures a.lane.now (omega arith),
    )

pub returns-clause-value : goal.returns-clause-value
returns-clause-value c = let a = c.args in
    let l = c.loop-block in
    let octets = octets_of (word_bit a.blocks.now) 256 in
    let size = length-multiblock 2 a.register a.sync octets in
    let e : l.block ≡ 32 = omega arith in l.invariant.1
    ∙ ap (λ (x : ℕ). register_after a.register (shifts * x)) e
    ∙ sym (fill-moved 2 a.register (λ e. omega (arith, e)))
    ∙ ap (λ (t : Bool). pick t (fill_after 2 a.register) a.register) (sym (le-leb (lane_octets 2) (length a.lane.now) (omega (arith, octets-80))))

pub returns-clause-lane_after : goal.returns-clause-lane_after
returns-clause-lane_after c = let a = c.args in
    let l = c.loop-block in
    let octets = octets_of (word_bit a.blocks.now) 256 in
    let size = length-multiblock 2 a.register a.sync octets in
    let e : l.block ≡ 32 = omega arith in l.invariant.2
    ∙ ap (λ (x : ℕ). laid (octets_of (multiblock_bit 2 a.register a.sync octets) (10 * x)) a.lane.now) e
    ∙ ap (λ (x : List ℕ). laid x a.lane.now) (octets-written a.register a.sync octets)
    ∙ sym (laid-start (multiblock 2 a.register a.sync octets) a.lane.now (omega (arith, size, octets-80)))

pub returns-then-lane-lt-OCTETS-clause-lane_after : goal.returns-then-lane-lt-OCTETS-clause-lane_after
returns-then-lane-lt-OCTETS-clause-lane_after c = let a = c.args in
    let octets = octets_of (word_bit a.blocks.now) 256 in
    let size = length-multiblock 2 a.register a.sync octets in sym (too_short (multiblock 2 a.register a.sync octets) 0 a.lane.now (omega (arith, size, octets-80)))
