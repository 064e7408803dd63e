use Rattle.std.proofs.Common.{rules}
use Prim.Native.Nat.{ℕ, ◌*◌, ◌%◌, ◌^◌}
use mathlib.Core.Path.{sym, ap, ◌∙◌}
use lib.Dec.{lit<, lit≤}
use lib.Pow.{shl_exact}
use lib.Bits.{bit_xor}
use Rattle.bits.specs.Order.{digits}
use Rattle.polynomial.specs.Remainder.{remainder_from}
use Rattle.polynomial.proofs.Digits.{laid-over}
use Rattle.rows.proofs.Blocks.{index-laid, octet-more, octets-all}
use Rattle.rows.proofs.next_block.Goals as goal

pub loop-k-preserved : goal.loop-k-preserved
loop-k-preserved g c =
    let l = c.loop-k in
    let v = c.from-in-loop-k in
    let word = g.B.Block.word c.args.block.now in
    let over = c.from.result * 2 ^ 52 % 2 ^ 64 in (
      search rules,
      octet-more 12 0x30F (bit_xor word over) c.args.rows.now c.requires.rows_value l.k v.result l.s (search rules)
          (v.ensures ∙ index-laid word over l.k c.octet.result c.octet-in-loop-k.result (search rules) c.octet.ensures c.octet-in-loop-k.ensures)
          ∙ l.invariant.1,
    )

pub returns : goal.returns
returns g c =
    let l = c.loop-k in
    let word = g.B.Block.word c.args.block.now in
    let block = bit_xor word (c.from.result * 2 ^ 52 % 2 ^ 64) in
    c.from-2.ensures
    ∙ octets-all 12 0x30F block l.k l.s (search rules) l.invariant.1
    ∙ ap (λ (x : ℕ). remainder_from 12 0x30F 0 (digits 64 (bit_xor word x))) (ap (λ (x : ℕ). x * 2 ^ 52 % 2 ^ 64) c.from.ensures ∙ shl_exact 12 52 64 c.requires.r_bound (lit≤ tt))
    ∙ sym (laid-over 12 0x30F (lit< tt) 52 c.args.r word c.requires.r_bound)
