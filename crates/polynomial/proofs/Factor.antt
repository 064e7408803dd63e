-- The remainder modulo a factor of the polynomial: multiplying by x first and taking that remainder then is the same as the other way round,
-- because what multiplying by x takes away is the polynomial itself, of which the factor leaves nothing. Assumes nothing.
use mathlib.Core.Path.{◌≡◌, refl, sym, ap, ap₂, ◌∙◌}
use Prim.Native.Nat.{ℕ, zero, suc, ◌+◌, ◌*◌, ◌/◌, ◌%◌, ◌^◌, ◌<◌}
use native.Mathlib.Nat.{mod-lt, zero-mul, one-mul, zero-add, zero-lt-suc, mul-div_cancel, mul-mod_left, div-add-mod', div-mul-le_self, div-le_self, lt_of_le_of_lt}
use lib.Arith.{lt-one}
use lib.Pow.{pow_pos, split}
use lib.Bits.{bit_xor, xor_mod, xor_comm, xor_zero_r, xor_shifted, xor_block}
use Rattle.bits.proofs.Xor.{bit-cases, odd-lt, xor-half, xor-swap}
use Rattle.polynomial.specs.Polynomial.{scale, times_x, times_power}
use Rattle.polynomial.proofs.Polynomial.{scale-zero, scale_one, times_x-xor, times_x-zero, times_x-lt, times_x-low, top_lt, half_lt, times_power-lt}

-- the k low bits of r, as a polynomial, modulo x^u + l
unfoldable pub reduced : ℕ → ℕ → ℕ → ℕ → ℕ
reduced u l zero r = 0
reduced u l (suc k) r = bit_xor (times_x u l (reduced u l k (r / 2))) (r % 2)

-- x r is twice r, less the polynomial where that grows too wide
times_x-whole : (w g r : ℕ) → g < 2 ^ w → r < 2 ^ w → times_x w g r ≡ bit_xor (r * 2) (scale (r * 2 / 2 ^ w) (2 ^ w + g))
unfolding times_x
times_x-whole w g r fits h =
    bit-cases (λ (t : ℕ). t * 2 ^ w + r * 2 % 2 ^ w ≡ r * 2 → bit_xor (scale t g) (r * 2 % 2 ^ w) ≡ bit_xor (r * 2) (scale t (2 ^ w + g)))
    (λ e.
    ap (λ (x : ℕ). bit_xor x (r * 2 % 2 ^ w)) (scale-zero g)
    ∙ sym (ap₂ bit_xor (sym e ∙ ap (λ (x : ℕ). x + r * 2 % 2 ^ w) (zero-mul (2 ^ w)) ∙ zero-add (r * 2 % 2 ^ w)) (scale-zero (2 ^ w + g))
    ∙ xor_zero_r (r * 2 % 2 ^ w)))
    (λ e.
    ap (λ (x : ℕ). bit_xor x (r * 2 % 2 ^ w)) (scale_one g)
    ∙ xor_comm g (r * 2 % 2 ^ w)
    ∙ sym (ap₂ bit_xor (sym e) (scale_one (2 ^ w + g) ∙ ap (λ (x : ℕ). x + g) (sym (one-mul (2 ^ w))))
    ∙ xor_block w 1 1 (r * 2 % 2 ^ w) g (mod-lt (r * 2) (pow_pos w)) fits
    ∙ ap (λ (x : ℕ). x + bit_xor (r * 2 % 2 ^ w) g) (zero-mul (2 ^ w))
    ∙ zero-add (bit_xor (r * 2 % 2 ^ w) g)))
    (r * 2 / 2 ^ w) (top_lt w r h) (split (r * 2) w)

module _ (u l : ℕ) where
  reduced-xor : (k a b : ℕ) → reduced u l k (bit_xor a b) ≡ bit_xor (reduced u l k a) (reduced u l k b)
  unfolding reduced
  reduced-xor zero a b = refl
  reduced-xor (suc k) a b =
      ap₂ (λ (x y : ℕ). bit_xor (times_x u l (reduced u l k x)) y) (xor-half a b) (xor_mod a b 1)
      ∙ ap (λ (x : ℕ). bit_xor (times_x u l x) (bit_xor (a % 2) (b % 2))) (reduced-xor k (a / 2) (b / 2))
      ∙ ap (λ (x : ℕ). bit_xor x (bit_xor (a % 2) (b % 2))) (times_x-xor u l (reduced u l k (a / 2)) (reduced u l k (b / 2)))
      ∙ xor-swap (times_x u l (reduced u l k (a / 2))) (times_x u l (reduced u l k (b / 2))) (a % 2) (b % 2)

  reduced-double : (k r : ℕ) → reduced u l (suc k) (r * 2) ≡ times_x u l (reduced u l k r)
  unfolding reduced
  reduced-double k r =
      ap₂ (λ (x y : ℕ). bit_xor (times_x u l (reduced u l k x)) y) (mul-div_cancel r (zero-lt-suc 1)) (mul-mod_left r 2)
      ∙ xor_zero_r (times_x u l (reduced u l k r))

  reduced-zero : (k : ℕ) → reduced u l k 0 ≡ 0
  unfolding reduced
  reduced-zero zero = refl
  reduced-zero (suc k) = ap (λ (x : ℕ). bit_xor (times_x u l x) 0) (reduced-zero k) ∙ ap (λ (x : ℕ). bit_xor x 0) (times_x-zero u l)

  -- a high bit that is 0 changes nothing
  reduced-more : (k r : ℕ) → r < 2 ^ k → reduced u l (suc k) r ≡ reduced u l k r
  unfolding reduced
  reduced-more zero r h = ap (λ (x : ℕ). reduced u l 1 x) (lt-one h) ∙ reduced-zero 1
  reduced-more (suc k) r h = ap (λ (x : ℕ). bit_xor (times_x u l x) (r % 2)) (reduced-more k (r / 2) (half_lt k r h))

  -- what is narrower than the factor stays as it is
  pub reduced-narrow : (k r : ℕ) → r < 2 ^ k → r < 2 ^ u → reduced u l k r ≡ r
  unfolding reduced
  reduced-narrow zero r hk hu = sym (lt-one hk)
  reduced-narrow (suc k) r hk hu =
      ap (λ (x : ℕ). bit_xor (times_x u l x) (r % 2)) (reduced-narrow k (r / 2) (half_lt k r hk) (lt_of_le_of_lt (div-le_self r 2) hu))
      ∙ ap (λ (x : ℕ). bit_xor x (r % 2)) (times_x-low u l (r / 2) (lt_of_le_of_lt (div-mul-le_self r 2) hu))
      ∙ xor_shifted (r / 2) 1 (r % 2) (odd-lt r)
      ∙ div-add-mod' r 2

  -- where x^w + g is a multiple of x^u + l
  module _ (w g : ℕ) (fits : g < 2 ^ w) (factor : reduced u l (suc w) (2 ^ w + g) ≡ 0) where
    reduced-multiple : (t : ℕ) → reduced u l (suc w) (scale t (2 ^ w + g)) ≡ 0
    unfolding scale
    reduced-multiple t =
        bit-cases (λ (t : ℕ). reduced u l (suc w) (t * (2 ^ w + g)) ≡ 0)
        (ap (reduced u l (suc w)) (zero-mul (2 ^ w + g)) ∙ reduced-zero (suc w))
        (ap (reduced u l (suc w)) (one-mul (2 ^ w + g)) ∙ factor) (t % 2) (odd-lt t)

    reduced-times_x : (r : ℕ) → r < 2 ^ w → reduced u l w (times_x w g r) ≡ times_x u l (reduced u l w r)
    reduced-times_x r h =
        sym (reduced-more w (times_x w g r) (times_x-lt w g r fits))
        ∙ ap (reduced u l (suc w)) (times_x-whole w g r fits h)
        ∙ reduced-xor (suc w) (r * 2) (scale (r * 2 / 2 ^ w) (2 ^ w + g))
        ∙ ap₂ bit_xor (reduced-double w r) (reduced-multiple (r * 2 / 2 ^ w))
        ∙ xor_zero_r (times_x u l (reduced u l w r))

    pub reduced-times_power : (n r : ℕ) → r < 2 ^ w → reduced u l w (times_power w g n r) ≡ times_power u l n (reduced u l w r)
    unfolding times_power
    reduced-times_power zero r h = refl
    reduced-times_power (suc n) r h = reduced-times_x (times_power w g n r) (times_power-lt w g n r fits h) ∙ ap (times_x u l) (reduced-times_power n r h)
