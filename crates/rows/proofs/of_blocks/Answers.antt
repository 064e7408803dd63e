use Rattle.std.proofs.Common.{rules}
use Prim.Native.Nat.{ℕ, ◌*◌, ◌^◌, ◌<◌}
use mathlib.Core.Path.{◌≡◌, sym, ap, ◌∙◌}
use mathlib.Core.List.{map}
use native.Mathlib.Omega.{arith}
use lib.Dec.{lit<}
use lib.ListN.{length}
use lib.Pow.{pow_pos}
use Rattle.bits.specs.Order.{word_bit, list_from}
use Rattle.polynomial.specs.Remainder.{remainder_from}
use Rattle.polynomial.proofs.Remainder.{from_zero, from-none, from-lt}
use Rattle.polynomial.proofs.Words.{block_next}
use Rattle.rows.proofs.of_blocks.Goals as goal

pub loop-block-init : goal.loop-block-init
loop-block-init g c = (search rules, sym (from-none 12 0x30F 0 (word_bit (map g.B.Block.word c.args.blocks.now)) 0))

pub next_block-s-requires-clause-r_bound : goal.next_block-s-requires-clause-r_bound
next_block-s-requires-clause-r_bound g c =
    let l = c.loop-block in
    let b : l.s < 2 ^ 12 = rw l.invariant.1 (from-lt 12 0x30F (lit< tt) 0 (list_from (word_bit (map g.B.Block.word c.args.blocks.now)) 0 (64 * l.block-index)) (pow_pos 12)) in
    omega arith

pub loop-block-preserved : goal.loop-block-preserved
loop-block-preserved g c =
    let l = c.loop-block in
    let b = c.block-item in
    (search rules, c.next_block-s.ensures ∙ block_next 12 0x30F g.B.Block.word c.args.blocks.now l.block-index l.s b.result c.loop-block-test.true b.is l.invariant.1)

pub returns : goal.returns
returns g c =
    let l = c.loop-block in
    let stream = word_bit (map g.B.Block.word c.args.blocks.now) in
    let all : l.block-index ≡ length c.args.blocks.now = omega arith in
    l.invariant.1 ∙ ap (λ (n : ℕ). remainder_from 12 0x30F 0 (list_from stream 0 (64 * n))) all
    ∙ from_zero 12 0x30F (list_from stream 0 (64 * length c.args.blocks.now))
