-- Bursts: document 01, "Parity". A set of positions is a stream of bits: position p is in it where bit p is 1. Assumes nothing.
use Rattle.std.specs.Prelude.{◌≡◌, ℕ, ◌+◌, ◌-◌, ◌/◌, ◌%◌, ◌^◌, ◌≤◌, ◌<◌, leb}
use Rattle.bits.specs.Choice.{pick}

-- a burst of at most b bits: some positions of n, all within b consecutive ones, without wrapping from the end to the start
pub record BurstSet (b n : ℕ) (f : ℕ → ℕ) : Type 0 where
  pub bits : (p : ℕ) → f p < 2
  pub from : ℕ
  pub within : (p : ℕ) → f p ≡ 1 → (from ≤ p) × (p < from + b) × (p < n)
  pub some : ℕ
  pub there : f some ≡ 1

-- the same by place and pattern: position place + j is set where bit j of the pattern is
unfoldable pub flips : ℕ → ℕ → ℕ → ℕ
flips place pattern p = pick (leb place p) (pattern / 2 ^ (p - place) % 2) 0

pub record IsBurst (b n place pattern : ℕ) : Type 0 where
  pub odd : pattern % 2 ≡ 1  -- the place is the first position set
  pub short : pattern < 2 ^ b  -- none is set from place + b on
  pub inside : pattern < 2 ^ (n - place)  -- and none past the last position
