-- Laws of the remainder, once over width and polynomial: it adds up, it is below 2^w, and it goes on where it was left. Assumes nothing.
use mathlib.Core.Path.{◌≡◌, refl, sym, ap, ap₂, ◌∙◌}
use mathlib.Core.List.{List, [], ◌∷◌, ◌++◌}
use Prim.Native.Nat.{ℕ, zero, suc, ◌+◌, ◌/◌, ◌%◌, ◌^◌, ◌<◌}
use lib.Pow.{pow_pos}
use lib.Bits.{bit_xor, xor_lt, xor_shr, xor_mod, xor_comm}
use Rattle.bits.specs.Order.{list_from, digits}
use Rattle.bits.proofs.Lists.{list-none, list-first, digits-none, digits-first}
use Rattle.bits.proofs.Xor.{xor-swap}
use Rattle.polynomial.specs.Polynomial.{scale, times_x, times_power, power}
use Rattle.polynomial.specs.Remainder.{next, remainder_from, remainder}
use Rattle.polynomial.proofs.Polynomial.{scale-xor, scale-lt, times_x-xor, times_x-lt, times_power-xor, times_power-scale, times_power-add, times_power-in, power-width}

module _ (w g : ℕ) where
  pub from_zero : (bits : List ℕ) → remainder_from w g 0 bits ≡ remainder w g bits
  unfolding remainder
  from_zero bits = refl

  -- along a run: no bit, and one
  pub from-none : (r : ℕ) (f : ℕ → ℕ) (k : ℕ) → remainder_from w g r (list_from f k 0) ≡ r
  unfolding remainder_from
  from-none r f k = ap (remainder_from w g r) (list-none f k)

  pub from_first : (r : ℕ) (f : ℕ → ℕ) (k n : ℕ) → remainder_from w g r (list_from f k (suc n)) ≡ remainder_from w g (next w g r (f k)) (list_from f (suc k) n)
  unfolding remainder_from
  from_first r f k n = ap (remainder_from w g r) (list-first f k n)

  -- along a number's digits
  pub no_digit : (r v : ℕ) → remainder_from w g r (digits 0 v) ≡ r
  unfolding remainder_from
  no_digit r v = ap (remainder_from w g r) (digits-none v)

  pub first-digit : (r n v : ℕ) → remainder_from w g r (digits (suc n) v) ≡ remainder_from w g (next w g r (v / 2 ^ n % 2)) (digits n v)
  unfolding remainder_from
  first-digit r n v = ap (remainder_from w g r) (digits-first n v)

  -- a bit and n places more: its weight is x^(w + n)
  pub next_power : 0 < w → (n r b : ℕ) → times_power w g n (next w g r b) ≡ bit_xor (times_power w g (suc n) r) (scale b (power w g (w + n)))
  unfolding next
  next_power some n r b =
      times_power-xor w g n (scale b g) (times_x w g r)
      ∙ ap₂ bit_xor
      (times_power-scale w g n b g ∙ ap (scale b) (ap (times_power w g n) (sym (power-width w g some)) ∙ sym (times_power-add w g w n 1)))
      (times_power-in w g n r)
      ∙ xor_comm (scale b (power w g (w + n))) (times_power w g (suc n) r)

  next-xor : (r s b c : ℕ) → next w g (bit_xor r s) (bit_xor b c) ≡ bit_xor (next w g r b) (next w g s c)
  unfolding next
  next-xor r s b c =
      ap₂ bit_xor (scale-xor b c g) (times_x-xor w g r s) ∙ xor-swap (scale b g) (scale c g) (times_x w g r) (times_x w g s)

  -- two streams over equal lengths
  from-linear : (f h : ℕ → ℕ) (k n r s : ℕ)
      → remainder_from w g (bit_xor r s) (list_from (λ p. bit_xor (f p) (h p)) k n) ≡ bit_xor (remainder_from w g r (list_from f k n)) (remainder_from w g s (list_from h k n))
  from-linear f h k zero r s = from-none (bit_xor r s) (λ p. bit_xor (f p) (h p)) k ∙ sym (ap₂ bit_xor (from-none r f k) (from-none s h k))
  from-linear f h k (suc n) r s =
      from_first (bit_xor r s) (λ p. bit_xor (f p) (h p)) k n
      ∙ ap (λ (x : ℕ). remainder_from w g x (list_from (λ p. bit_xor (f p) (h p)) (suc k) n)) (next-xor r s (f k) (h k))
      ∙ from-linear f h (suc k) n (next w g r (f k)) (next w g s (h k))
      ∙ sym (ap₂ bit_xor (from_first r f k n) (from_first s h k n))

  -- the remainder of two streams' sum is the sum of their remainders
  pub linear : (f h : ℕ → ℕ) (k n : ℕ) → remainder w g (list_from (λ p. bit_xor (f p) (h p)) k n) ≡ bit_xor (remainder w g (list_from f k n)) (remainder w g (list_from h k n))
  unfolding remainder
  linear f h k n = from-linear f h k n 0 0

  -- two numbers' digits
  pub from-digits : (n r s x y : ℕ) → remainder_from w g (bit_xor r s) (digits n (bit_xor x y)) ≡ bit_xor (remainder_from w g r (digits n x)) (remainder_from w g s (digits n y))
  from-digits zero r s x y = no_digit (bit_xor r s) (bit_xor x y) ∙ sym (ap₂ bit_xor (no_digit r x) (no_digit s y))
  from-digits (suc n) r s x y =
      first-digit (bit_xor r s) n (bit_xor x y)
      ∙ ap (λ (b : ℕ). remainder_from w g (next w g (bit_xor r s) b) (digits n (bit_xor x y))) (ap (λ (z : ℕ). z % 2) (xor_shr x y n) ∙ xor_mod (x / 2 ^ n) (y / 2 ^ n) 1)
      ∙ ap (λ (z : ℕ). remainder_from w g z (digits n (bit_xor x y))) (next-xor r s (x / 2 ^ n % 2) (y / 2 ^ n % 2))
      ∙ from-digits n (next w g r (x / 2 ^ n % 2)) (next w g s (y / 2 ^ n % 2)) x y
      ∙ sym (ap₂ bit_xor (first-digit r n x) (first-digit s n y))

  pub from-append : (r : ℕ) (xs ys : List ℕ) → remainder_from w g r (xs ++ ys) ≡ remainder_from w g (remainder_from w g r xs) ys
  unfolding remainder_from
  from-append r [] ys = refl
  from-append r (b ∷ xs) ys = from-append (next w g r b) xs ys

  module _ (fits : g < 2 ^ w) where
    pub next-lt : (r b : ℕ) → next w g r b < 2 ^ w
    unfolding next
    next-lt r b = xor_lt w (scale b g) (times_x w g r) (scale-lt w b g fits) (times_x-lt w g r fits)

    pub from-lt : (r : ℕ) (bits : List ℕ) → r < 2 ^ w → remainder_from w g r bits < 2 ^ w
    unfolding remainder_from
    from-lt r [] h = h
    from-lt r (b ∷ bits) h = from-lt (next w g r b) bits (next-lt r b)

    pub remainder-lt : (bits : List ℕ) → remainder w g bits < 2 ^ w
    unfolding remainder
    remainder-lt bits = from-lt 0 bits (pow_pos w)
