use Prim.Native.Nat.{ℕ, ◌-◌, ◌%◌, ◌^◌, ◌≤◌, ◌<◌}
use mathlib.Core.Path.{◌≡◌}
use Rattle.polynomial.specs.Polynomial.{times_power}
use Rattle.std.specs.Prelude.{None}
use Rattle.parity.specs.Codeword.{fec}
use Rattle.parity.specs.Answer.{Explains}
use Rattle.parity.proofs.search.search.Given as goal

abbrev pub invariant-loop-pattern : goal.invariant-loop-pattern
invariant-loop-pattern l =
    (l.pattern % 2 ≡ 1) × (l.pattern ≤ 513) × (l.found ≡ None) × ((q : ℕ) → q < l.pattern → Explains fec l.remainder l.place q → ⊥)

abbrev pub decreases-loop-pattern : goal.decreases-loop-pattern
decreases-loop-pattern l = 513 - l.pattern

abbrev pub invariant-search : goal.invariant-search
invariant-search l =
    (l.place ≤ 2074) × (l.found ≡ None) × (l.trap < 2 ^ 26) × (l.place ≤ 2065 → times_power 26 0x0220211 (2065 - l.place) l.trap ≡ l.remainder)
    × ((p : ℕ) → p < l.place → (q : ℕ) → Explains fec l.remainder p q → ⊥)

abbrev pub decreases-search : goal.decreases-search
decreases-search l = 2074 - l.place
