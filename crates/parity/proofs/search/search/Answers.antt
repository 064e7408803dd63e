use Rattle.std.proofs.Common.{rules}
use Prim.Native.Nat.{ℕ, ◌+◌, ◌%◌, ◌≤◌, ◌<◌}
use mathlib.Core.Path.{◌≡◌, sym, ap, ◌∙◌}
use native.Mathlib.Decide.{dec_lt, ℕ_discrete}
use native.Mathlib.Omega.{arith}
use borrow.Author.Count.{below_more}
use Rattle.polynomial.proofs.Polynomial.{times_x-lt}
use Rattle.std.specs.Prelude.{Some, None}
use Rattle.parity.specs.Codeword.{fec, remainder_of}
use Rattle.parity.specs.Bursts.{flips}
use Rattle.parity.specs.Answer.{Explains}
use Rattle.parity.proofs.Answer.{answer-is}
use Rattle.parity.proofs.Bursts.{fec-proper, starts}
use Rattle.parity.proofs.Trap.{trap-next}
use Rattle.parity.proofs.search.search.Goals as goal
use Rattle.parity.proofs.search.search.Goals.{else-loop-pattern-test, then-loop-pattern-test+else-sum_of-remainder+else-end-pattern-gt2}

-- no pattern below the end explains, and one that explains is below it
none_at : (s place pattern end : ℕ) → pattern % 2 ≡ 1 → ((q : ℕ) → q < pattern → Explains fec s place q → ⊥) → (remainder_of fec (flips place pattern) ≡ s → ⊥) → end ≤ pattern + 2
    → (q : ℕ) → q < end → Explains fec s place q → ⊥
none_at s place pattern end odd before not_here last q h z = go (dec_lt q pattern) (ℕ_discrete q pattern)
  where
    go : Dec (q < pattern) → Dec (q ≡ pattern) → ⊥
    go (yes l) _ = before q l z
    go (no l) (yes e) = not_here (ap (λ (x : ℕ). remainder_of fec (flips place x)) (sym e) ∙ z.makes)
    go (no l) (no n) = let o : q % 2 ≡ 1 = z.burst.odd in omega (arith, n)

pub search-preserved : goal.search-preserved
search-preserved c =
    let l = c.loop-pattern in
    let below = c.patterns_below-end.ensures in
    let i = c.search in
    let s = c.args.remainder in (
      search rules,
      l.invariant.2,
      rw c.times_x-trap.ensures (times_x-lt 26 0x0220211 i.trap fec-proper.fits),
      rw c.times_x-trap.ensures (trap-next s i.place i.trap i.invariant.3),
      below_more _ i.place i.invariant.4 (λ q z.
          elim c.loop-pattern-test.branch [
            | else-loop-pattern-test w ↦ l.invariant.3 q (omega (arith, below.2 q z, w.loop-pattern-test.false)) z
            | then-loop-pattern-test+else-sum_of-remainder+else-end-pattern-gt2 w ↦
                none_at s i.place l.pattern c.patterns_below-end.result l.invariant.0 l.invariant.3 (λ e. w.if-sum_of-remainder.false (w.sum_of.ensures ∙ e)) (search rules) q (below.2 q z) z
          ]),
    )

pub returns-after-search : goal.returns-after-search
returns-after-search c =
    let i = c.search in
    i.invariant.1 ∙ answer-is c.args.remainder None (λ p q z. i.invariant.4 p (omega (arith, starts z.burst)) q z)

pub returns-then-sum_of-remainder : goal.returns-then-sum_of-remainder
returns-then-sum_of-remainder c =
    let l = c.loop-pattern in
    let below = c.patterns_below-end.ensures in
    let i = c.search in
    let s = c.args.remainder in
    answer-is s (Some (record { place = i.place; pattern = l.pattern }))
    (record {
      burst = record { odd = l.invariant.0; short = omega (arith, below.0); inside = omega (arith, below.1) };
      makes = sym c.sum_of.ensures ∙ c.if-sum_of-remainder.true;
    })
