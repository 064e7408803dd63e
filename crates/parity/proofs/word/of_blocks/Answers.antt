use Rattle.std.proofs.Common.{rules}
use Prim.Native.Nat.{ℕ, ◌*◌, ◌^◌, ◌<◌}
use mathlib.Core.Path.{◌≡◌, sym, ap, ◌∙◌}
use mathlib.Core.List.{map}
use native.Mathlib.Omega.{arith}
use lib.Dec.{lit<}
use lib.ListN.{length}
use lib.Pow.{pow_pos}
use Rattle.bits.specs.Order.{word_bit, list_from, digits}
use Rattle.polynomial.specs.Remainder.{remainder_from}
use Rattle.polynomial.proofs.Remainder.{from_zero, from-none, from-lt}
use Rattle.polynomial.proofs.Words.{block_next}
use Rattle.parity.proofs.word.of_blocks.Goals as goal

pub loop-block-init : goal.loop-block-init
loop-block-init g c = (search rules, sym (from-none 26 0x0220211 0 (word_bit (map g.B.Block.word c.args.blocks.now)) 0))

pub fec_word-s-requires : goal.fec_word-s-requires
fec_word-s-requires g c =
    let l = c.loop-block in
    let b : l.s < 2 ^ 26 = rw l.invariant.1 (from-lt 26 0x0220211 (lit< tt) 0 (list_from (word_bit (map g.B.Block.word c.args.blocks.now)) 0 (64 * l.block-index)) (pow_pos 26)) in
    omega arith

pub loop-block-preserved : goal.loop-block-preserved
loop-block-preserved g c =
    let l = c.loop-block in
    let b = c.block-item in (
      search rules,
      c.fec_word-s.ensures
          ∙ ap (λ (word : ℕ). remainder_from 26 0x0220211 l.s (digits 64 word)) c.word.ensures
          ∙ block_next 26 0x0220211 g.B.Block.word c.args.blocks.now l.block-index l.s b.result c.loop-block-test.true b.is l.invariant.1,
    )

pub returns : goal.returns
returns g c =
    let l = c.loop-block in
    let stream = word_bit (map g.B.Block.word c.args.blocks.now) in
    let all : l.block-index ≡ length c.args.blocks.now = omega arith in
    l.invariant.1 ∙ ap (λ (n : ℕ). remainder_from 26 0x0220211 0 (list_from stream 0 (64 * n))) all
    ∙ from_zero 26 0x0220211 (list_from stream 0 (64 * length c.args.blocks.now))
