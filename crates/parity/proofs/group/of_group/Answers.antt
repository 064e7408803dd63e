use Rattle.std.proofs.Common.{rules}
use Prim.Native.Nat.{◌+◌, ◌*◌}
use mathlib.Core.Path.{◌∙◌}
use native.Mathlib.Omega.{arith}
use Rattle.polynomial.proofs.Words.{word_after}
use Rattle.polynomial.proofs.Crc3.{crc3_of, sum-none}
use Rattle.parity.specs.Codeword.{crc3}
use Rattle.parity.proofs.Groups.{group-all}
use Rattle.parity.proofs.group.of_group.Goals as goal

pub loop-k-init : goal.loop-k-init
loop-k-init g c = let a = c.args in (search rules, sum-none (g.B.Blocks.bit a.blocks) (512 * a.g))

pub loop-k-preserved : goal.loop-k-preserved
loop-k-preserved g c =
    let l = c.loop-k in
    let a = c.args in (
      search rules,
      c.next-sum.ensures
          ∙ word_after 3 3 (g.B.Blocks.bit a.blocks) (g.met.B.Blocks.bits a.blocks) (512 * a.g) l.k (64 * (8 * a.g + l.k)) (crc3_of l.sum) c.block.result (omega arith) l.invariant.1 c.block.ensures,
    )

pub returns : goal.returns
returns g c =
    let l = c.loop-k in
    let a = c.args in
    group-all crc3 (g.B.Blocks.bit a.blocks) a.g l.k c.left.result (omega arith) (c.left.ensures ∙ l.invariant.1)
