-- `judge::mend` meets its contract: bit by bit, what is left to flip of the burst; without one the octets stay.
use Prim.Native.Nat.{ℕ, ◌+◌, ◌/◌, ◌%◌, ◌^◌, ◌<◌}
use mathlib.Core.Path.{◌≡◌, sym, ap, ◌∙◌, subst}
use native.Mathlib.Omega.{arith}
use lib.Bits.{bit_and, and_mask}
use Rattle.judge.specs.declared.Verdict.{Verdict}
use Rattle.judge.specs.Judge.{mended}
use Rattle.judge.proofs.Mending.{flip_at, flip-next, skip-parity, skip-even, all-flipped, as-they-are}
use Rattle.judge.proofs.mend.Goals as goal
use Rattle.judge.proofs.mend.Goals.{then-burst-bit-eq1+then-position-lt2048, else-burst-bit-eq1, else-burst-bit-eq1-via-then-burst-bit-eq1+else-position-lt2048, else-burst-bit-eq1-via-else-burst-bit-eq1}

pub returns-in_default : goal.returns-in_default
returns-in_default c = as-they-are c.args.verdict c.args.octets c.in_default.not-Repaired c.requires.0 c.requires.1

pub loop-bit-preserved : goal.loop-bit-preserved
unfolding flip_at
loop-bit-preserved c =
    let l = c.loop-bit in
    let m = l.invariant in
    let left = c.in-Repaired.burst.pattern / 2 ^ l.bit in
    let low : bit_and left 1 ≡ left % 2 = and_mask left 1 in
    elim c.if-burst-bit-eq1.branch [
      | then-burst-bit-eq1+then-position-lt2048 w ↦ flip-next m (w.out-is ∙ ap (λ (x : ℕ). flip_at l.out (x + l.bit)) c.from.ensures) (omega (arith, c.from.ensures, w.if-position-lt2048.true)) (omega (arith, low, w.if-burst-bit-eq1.true))
      | else-burst-bit-eq1 w ↦ elim w.else-burst-bit-eq1.branch [
        | else-burst-bit-eq1-via-then-burst-bit-eq1+else-position-lt2048 v ↦ skip-parity m w.out-is (omega (arith, c.from.ensures, v.if-position-lt2048.false))
        | else-burst-bit-eq1-via-else-burst-bit-eq1 v ↦ skip-even m w.out-is (λ e. v.if-burst-bit-eq1.false (low ∙ e))
      ]
    ]

pub returns : goal.returns
returns c =
    let burst = c.in-Repaired.burst in
    let last : c.loop-bit.bit ≡ 16 = omega arith in
    all-flipped burst c.loop-bit.invariant (subst (λ (n : ℕ). burst.pattern < 2 ^ n) (sym last) (omega arith)) ∙ ap (λ (v : Verdict). mended v c.args.octets) (sym c.in-Repaired.is)
