-- Laws of how many bits of a stream are 1: the ones of the number that they write. Assumes nothing.
use mathlib.Core.Path.{◌≡◌, refl, ap, ◌∙◌}
use Prim.Native.Nat.{ℕ, zero, suc, ◌+◌, ◌≤◌, ◌<◌}
use native.Mathlib.Omega.{arith}
use lib.Count.{ones, ones_step, ones_cat}
use Rattle.bits.specs.Order.{number}
use Rattle.bits.proofs.Xor.{bit-cases}

ones_bit : (b : ℕ) → b < 2 → ones b ≡ b
unfolding ones
ones_bit b h = bit-cases (λ (b : ℕ). ones b ≡ b) refl (ones_step 1) b h

-- one bit more
pub ones-more : (f : ℕ → ℕ) → ((k : ℕ) → f k < 2) → (k n : ℕ) → ones (number f k (suc n)) ≡ ones (number f k n) + f (k + n)
unfolding number
ones-more f bits k n = ones_cat 1 (number f k n) (f (k + n)) (bits (k + n)) ∙ ap (λ (x : ℕ). ones (number f k n) + x) (ones_bit (f (k + n)) (bits (k + n)))

module _ (f : ℕ → ℕ) (bits : (k : ℕ) → f k < 2) where
  pub ones_none : (n : ℕ) → ((j : ℕ) → j < n → f j ≡ 0) → ones (number f 0 n) ≡ 0
  unfolding number ones
  ones_none zero none = refl
  ones_none (suc n) none = omega (arith, ones-more f bits 0 n, ones_none n (λ j h. none j (omega arith)), none (0 + n) (omega arith))

  -- where each is at most the sum of two others, so are the ones
  pub ones-sum : (g h : ℕ → ℕ) → ((k : ℕ) → g k < 2) → ((k : ℕ) → h k < 2) → (n : ℕ) → ((j : ℕ) → j < n → f j ≤ g j + h j)
      → ones (number f 0 n) ≤ ones (number g 0 n) + ones (number h 0 n)
  unfolding number ones
  ones-sum g h gs hs zero le = omega arith
  ones-sum g h gs hs (suc n) le =
      omega (arith, ones-more f bits 0 n, ones-more g gs 0 n, ones-more h hs 0 n, ones-sum g h gs hs n (λ j q. le j (omega arith)), le (0 + n) (omega arith))
