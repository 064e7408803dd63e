use Rattle.std.proofs.Common.{rules}
use Prim.Native.Nat.{ℕ, ◌+◌, ◌-◌, ◌/◌, ◌^◌, ◌<◌}
use mathlib.Core.Path.{◌≡◌, sym, ap, ◌∙◌}
use lib.Bits.{bit_and, bit_xor, and_mask}
use Rattle.parity.specs.Codeword.{fec}
use Rattle.parity.proofs.Bursts.{starts, pattern_sum, remainder-pattern}
use Rattle.parity.proofs.Trap.{weight-at, next-inside, bit-set, bit_not, bits-all}
use Rattle.parity.proofs.search.sum_of.Goals as goal
use Rattle.parity.proofs.search.sum_of.Goals.{then-pattern-k-eq1, else-pattern-k-eq1}

-- a position that a bit of the burst stands at
bit-inside : (position left : ℕ) → bit_and left 1 ≡ 1 → left < 2 ^ (2074 - position) → position < 2074
bit-inside position left odd inside =
    starts {b = 2074 - position} {q = left} (record { odd = sym (and_mask left 1) ∙ odd; short = inside; inside = inside })

pub loop-k-preserved : goal.loop-k-preserved
loop-k-preserved c =
    let l = c.loop-k in
    let a = c.args in
    let position = a.place + l.k in
    let left = a.pattern / 2 ^ l.k in (
      search rules,
      next-inside l.k a.place a.pattern l.invariant.1,
      elim c.if-pattern-k-eq1.branch [
        | then-pattern-k-eq1 w ↦
            bit-set l.k a.place a.pattern l.sum c.if-pattern-k-eq1.sum _ (search rules) l.invariant.2 w.if-pattern-k-eq1.true
            (w.sum-is ∙ ap (bit_xor l.sum) (weight-at a.weights.now position c.requires.weights_value (bit-inside position left w.if-pattern-k-eq1.true l.invariant.1)))
        | else-pattern-k-eq1 w ↦
            bit_not l.k a.place a.pattern l.sum c.if-pattern-k-eq1.sum _ (search rules) l.invariant.2 w.if-pattern-k-eq1.false w.sum-is
      ],
    )

pub returns : goal.returns
returns c =
    let l = c.loop-k in
    let a = c.args in
    bits-all l.k (a.place + l.k) (a.pattern / 2 ^ l.k) l.sum (pattern_sum fec 9 a.place a.pattern) (search rules) l.invariant.2
    ∙ sym (remainder-pattern fec 9 a.place a.pattern c.requires.burst)
