-- Bits of a lane flipped in bursts, none gained or lost: demand 3's premise. Flips are a stream of bits: 1 where a lane bit was flipped.
-- Assumes nothing.
use Rattle.std.specs.Prelude.{◌≡◌, ◌⊎◌, List, [], ◌∷◌, ℕ, ◌+◌, ◌-◌, ◌≤◌, ◌<◌}

-- a burst: some consecutive bits of a lane
pub record Burst : Type 0 where
  pub first : ℕ
  pub bits : ℕ

-- bit x is one of a burst's
abbrev pub Covers : List Burst → ℕ → Type 0
Covers [] x = ⊥
Covers (b ∷ bursts) x = ((b.first ≤ x) × (x < b.first + b.bits)) ⊎ Covers bursts x

-- bursts in order, none before bit `from`, of at most `limit` bits each, with at least `clear` bits from the end of one to the start of the next
abbrev pub Spaced : ℕ → ℕ → ℕ → List Burst → Type 0
Spaced limit clear from [] = Unit {0}
Spaced limit clear from (b ∷ bursts) = (from ≤ b.first) × (b.bits ≤ limit) × Spaced limit clear (b.first + b.bits + clear) bursts

-- of n bits, those flipped all lie in such bursts
pub record InBursts (limit clear n : ℕ) (flips : ℕ → ℕ) : Type 0 where
  pub bursts : List Burst
  pub spaced : Spaced limit clear 0 bursts
  pub covered : (x : ℕ) → x < n → flips x ≡ 1 → Covers bursts x

-- the same by pairs: any two flipped bits are less than `limit` apart, or have at least `clear` bits between them
abbrev pub Pairwise : ℕ → ℕ → ℕ → (ℕ → ℕ) → Type 0
Pairwise limit clear n flips = (x y : ℕ) → x < y → y < n → flips x ≡ 1 → flips y ≡ 1 → (y - x < limit) ⊎ (clear < y - x)
