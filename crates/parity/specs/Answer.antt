-- What the burst search answers: document 01, "What the receiver releases". Assumes nothing.
use Rattle.std.specs.Prelude.{◌≡◌, Bool, ◌&&◌, ℕ, zero, suc, ◌-◌, ◌%◌, ◌^◌, eqb, ltb, Option, Some, None}
use Rattle.std.specs.Option.{option_or}
use Rattle.bits.specs.Choice.{pick}
use Rattle.parity.specs.declared.Burst.{Burst}
use Rattle.parity.specs.Codeword.{Code, remainder_of}
use Rattle.parity.specs.Bursts.{IsBurst, flips}

-- a burst that makes the remainder s
pub record Explains (C : Code) (s place pattern : ℕ) : Type 0 where
  pub burst : IsBurst C.limit C.positions place pattern
  pub makes : remainder_of C (flips place pattern) ≡ s

-- ---- "The burst search stops at the first place and pattern that agree"

-- a pattern agrees at a place: the place is the first position that it sets, it sets none past the last, and it makes s
unfoldable pub agrees_at : Code → ℕ → ℕ → ℕ → Bool
agrees_at C s place pattern = eqb (pattern % 2) 1 && ltb pattern (2 ^ (C.positions - place)) && eqb (remainder_of C (flips place pattern)) s

-- the first that agrees at a place, of the n patterns from q on
unfoldable pub first_pattern : Code → ℕ → ℕ → ℕ → ℕ → Option Burst
first_pattern C s place q zero = None
first_pattern C s place q (suc n) = pick (agrees_at C s place q) (Some (record { place = place; pattern = q })) (first_pattern C s place (suc q) n)

-- the first that agrees at any of the n places from p on
unfoldable pub first_place : Code → ℕ → ℕ → ℕ → Option Burst
first_place C s p zero = None
first_place C s p (suc n) = option_or (first_pattern C s p 0 (2 ^ C.limit)) (first_place C s (suc p) n)

-- of all places of a codeword, and at each of all patterns of at most as many bits as the code is used for
unfoldable pub burst_for : Code → ℕ → Option Burst
burst_for C s = first_place C s 0 C.positions
