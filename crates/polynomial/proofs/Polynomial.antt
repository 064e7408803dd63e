-- Arithmetic modulo a polynomial x^w + g over bits: adding and multiplying by powers of x commute, nothing outgrows the width,
-- and where g is odd, multiplying by x loses nothing: x^w + g then has the constant term 1, so that x has an inverse. Assumes nothing.
use mathlib.Core.Path.{◌≡◌, refl, sym, ap, ap₂, ◌∙◌, subst}
use Prim.Native.Nat.{ℕ, zero, suc, ◌+◌, ◌*◌, ◌/◌, ◌%◌, ◌^◌, ◌<◌, ◌∣◌, pred}
use native.Mathlib.Nat.{mod-lt, zero-mul, one-mul, pow-suc, add-zero, add-suc, div-eq_of_lt, mod-eq_of_lt, div_self, mod_self, mod-mod, mod-mod_of_dvd, mul-mod_left, dvd-mul_left, div-lt_iff_lt-mul, mul_comm, suc-pred-eq_of_pos, zero-lt-suc, not-suc-le-zero}
use native.Mathlib.Numerals.{one-add}
use native.Mathlib.Omega.{arith}
use lib.Pow.{pow_pos, pow-lt, split}
use lib.Bits.{bit_xor, bit_and, and_mask, xor_lt, xor_mod, xor_shr, xor_self, xor_zero_r, xor_shifted}
use Rattle.bits.proofs.Xor.{bit-cases, odd-lt, xor-odd, xor-swap, xor-eq, xor-double, xor-scale}
use Rattle.polynomial.specs.Polynomial.{scale, times_x, times_power, power}

-- ---- once or not at all

pub scale-xor : (c d g : ℕ) → scale (bit_xor c d) g ≡ bit_xor (scale c g) (scale d g)
unfolding scale
scale-xor c d g = ap (λ (x : ℕ). x * g) (xor-odd c d) ∙ xor-scale (c % 2) (d % 2) g (odd-lt c) (odd-lt d)

pub scale-zero : (g : ℕ) → scale 0 g ≡ 0
unfolding scale
scale-zero g = zero-mul g

pub scale_one : (g : ℕ) → scale 1 g ≡ g
unfolding scale
scale_one g = one-mul g

-- only whether c is odd matters
pub scale-mod : (c g : ℕ) → scale (c % 2) g ≡ scale c g
unfolding scale
scale-mod c g = ap (λ (x : ℕ). x * g) (mod-mod c 2)

-- as the code has it
pub scale-and : (c g : ℕ) → bit_and c 1 * g ≡ scale c g
unfolding scale
scale-and c g = ap (λ (x : ℕ). x * g) (and_mask c 1)

-- above a smaller number
pub scale-above : (c k m : ℕ) → m < 2 ^ k → bit_xor (scale c (2 ^ k)) m ≡ c % 2 * 2 ^ k + m
unfolding scale
scale-above c k m h = xor_shifted (c % 2) k m h

pub scale-lt : (w c g : ℕ) → g < 2 ^ w → scale c g < 2 ^ w
unfolding scale
scale-lt w c g h =
    bit-cases (λ (x : ℕ). x * g < 2 ^ w) (subst (λ (x : ℕ). x < 2 ^ w) (sym (zero-mul g)) (pow_pos w))
    (subst (λ (x : ℕ). x < 2 ^ w) (sym (one-mul g)) h) (c % 2) (odd-lt c)

-- ---- times x

pub times_x-xor : (w g a b : ℕ) → times_x w g (bit_xor a b) ≡ bit_xor (times_x w g a) (times_x w g b)
unfolding times_x
times_x-xor w g a b =
    ap (λ (x : ℕ). bit_xor (scale (x / 2 ^ w) g) (x % 2 ^ w)) (xor-double a b)
    ∙ ap₂ (λ (x y : ℕ). bit_xor (scale x g) y) (xor_shr (a * 2) (b * 2) w) (xor_mod (a * 2) (b * 2) w)
    ∙ ap (λ (x : ℕ). bit_xor x (bit_xor (a * 2 % 2 ^ w) (b * 2 % 2 ^ w))) (scale-xor (a * 2 / 2 ^ w) (b * 2 / 2 ^ w) g)
    ∙ xor-swap (scale (a * 2 / 2 ^ w) g) (scale (b * 2 / 2 ^ w) g) (a * 2 % 2 ^ w) (b * 2 % 2 ^ w)

-- where nothing falls out at the top: twice
pub times_x-low : (w g r : ℕ) → r * 2 < 2 ^ w → times_x w g r ≡ r * 2
unfolding times_x
times_x-low w g r h =
    ap₂ (λ (x y : ℕ). bit_xor (scale x g) y) (div-eq_of_lt h) (mod-eq_of_lt h) ∙ ap (λ (x : ℕ). bit_xor x (r * 2)) (scale-zero g)

pub times_x-zero : (w g : ℕ) → times_x w g 0 ≡ 0
times_x-zero w g = times_x-low w g 0 (pow_pos w)

pub times_x-lt : (w g r : ℕ) → g < 2 ^ w → times_x w g r < 2 ^ w
unfolding times_x
times_x-lt w g r h = xor_lt w (scale (r * 2 / 2 ^ w) g) (r * 2 % 2 ^ w) (scale-lt w (r * 2 / 2 ^ w) g h) (mod-lt (r * 2) (pow_pos w))

pub half_lt : (k a : ℕ) → a < 2 ^ suc k → a / 2 < 2 ^ k
half_lt k a h = (div-lt_iff_lt-mul (zero-lt-suc 1)).1 (subst (λ (x : ℕ). a < x) (pow-suc 2 k) h)

-- the bit that falls out at the top
pub top_lt : (w r : ℕ) → r < 2 ^ w → r * 2 / 2 ^ w < 2
top_lt w r h = (div-lt_iff_lt-mul (pow_pos w)).1 (subst (λ (x : ℕ). r * 2 < x) (mul_comm (2 ^ w) 2) (omega arith))

even-below : (w r : ℕ) → 0 < w → r * 2 % 2 ^ w % 2 ≡ 0
even-below w r h =
    mod-mod_of_dvd 2 (r * 2) (subst (λ (x : ℕ). 2 ∣ 2 ^ x) (suc-pred-eq_of_pos h) (subst (λ (x : ℕ). 2 ∣ x) (sym (pow-suc 2 (pred w))) (dvd-mul_left 2 (2 ^ pred w))))
    ∙ mul-mod_left r 2

module _ (w g : ℕ) (some : 0 < w) (fits : g < 2 ^ w) (odd : g % 2 ≡ 1) where
  -- the two parts of x r cancel only where both are 0: one is even, and the other is 0 or g
  times_x-kernel : (r : ℕ) → r < 2 ^ w → times_x w g r ≡ 0 → r ≡ 0
  unfolding times_x
  times_x-kernel r h e =
      bit-cases (λ (t : ℕ). t ≡ r * 2 / 2 ^ w → scale t g ≡ r * 2 % 2 ^ w → r ≡ 0) none one (r * 2 / 2 ^ w) (top_lt w r h) refl
      (xor-eq (scale (r * 2 / 2 ^ w) g) (r * 2 % 2 ^ w) e)
    where
      none : 0 ≡ r * 2 / 2 ^ w → scale 0 g ≡ r * 2 % 2 ^ w → r ≡ 0
      none t z =
          let twice : r * 2 ≡ 0 * 2 ^ w + 0 = sym (split (r * 2) w) ∙ ap₂ (λ (x y : ℕ). x * 2 ^ w + y) (sym t) (sym z ∙ scale-zero g) in
          let nothing : 0 * 2 ^ w ≡ 0 = zero-mul (2 ^ w) in omega arith

      one : 1 ≡ r * 2 / 2 ^ w → scale 1 g ≡ r * 2 % 2 ^ w → r ≡ 0
      one t z =
          let even : r * 2 % 2 ^ w % 2 ≡ 0 = even-below w r some in
          let same : g ≡ r * 2 % 2 ^ w = sym (scale_one g) ∙ z in
          let even' : g % 2 ≡ 0 = ap (λ (x : ℕ). x % 2) same ∙ even in omega arith

  pub times_x-injective : (a b : ℕ) → a < 2 ^ w → b < 2 ^ w → times_x w g a ≡ times_x w g b → a ≡ b
  times_x-injective a b ha hb e =
      xor-eq a b (times_x-kernel (bit_xor a b) (xor_lt w a b ha hb)
      (times_x-xor w g a b ∙ ap (λ (x : ℕ). bit_xor x (times_x w g b)) e ∙ xor_self (times_x w g b)))

-- ---- times a power of x

pub times_power-none : (w g r : ℕ) → times_power w g 0 r ≡ r
unfolding times_power
times_power-none w g r = refl

pub times_power-suc : (w g n r : ℕ) → times_power w g (suc n) r ≡ times_x w g (times_power w g n r)
unfolding times_power
times_power-suc w g n r = refl

pub times_power-xor : (w g n a b : ℕ) → times_power w g n (bit_xor a b) ≡ bit_xor (times_power w g n a) (times_power w g n b)
unfolding times_power
times_power-xor w g zero a b = refl
times_power-xor w g (suc n) a b = ap (times_x w g) (times_power-xor w g n a b) ∙ times_x-xor w g (times_power w g n a) (times_power w g n b)

pub times_power-zero : (w g n : ℕ) → times_power w g n 0 ≡ 0
unfolding times_power
times_power-zero w g zero = refl
times_power-zero w g (suc n) = ap (times_x w g) (times_power-zero w g n) ∙ times_x-zero w g

pub times_power-scale : (w g n c r : ℕ) → times_power w g n (scale c r) ≡ scale c (times_power w g n r)
unfolding scale
times_power-scale w g n c r =
    bit-cases (λ (x : ℕ). times_power w g n (x * r) ≡ x * times_power w g n r)
    (ap (times_power w g n) (zero-mul r) ∙ times_power-zero w g n ∙ sym (zero-mul (times_power w g n r)))
    (ap (times_power w g n) (one-mul r) ∙ sym (one-mul (times_power w g n r))) (c % 2) (odd-lt c)

pub times_power-add : (w g m n r : ℕ) → times_power w g (m + n) r ≡ times_power w g n (times_power w g m r)
unfolding times_power
times_power-add w g m zero r = ap (λ (x : ℕ). times_power w g x r) (add-zero m)
times_power-add w g m (suc n) r = ap (λ (x : ℕ). times_power w g x r) (add-suc m n) ∙ ap (times_x w g) (times_power-add w g m n r)

pub times_power-in : (w g n r : ℕ) → times_power w g n (times_x w g r) ≡ times_power w g (suc n) r
unfolding times_power
times_power-in w g n r = sym (times_power-add w g 1 n r) ∙ ap (λ (x : ℕ). times_power w g x r) (one-add n)

pub times_power-lt : (w g n r : ℕ) → g < 2 ^ w → r < 2 ^ w → times_power w g n r < 2 ^ w
unfolding times_power
times_power-lt w g zero r fits h = h
times_power-lt w g (suc n) r fits h = times_x-lt w g (times_power w g n r) fits

pub times_power-injective : (w g : ℕ) → 0 < w → g < 2 ^ w → g % 2 ≡ 1 → (n a b : ℕ) → a < 2 ^ w → b < 2 ^ w
    → times_power w g n a ≡ times_power w g n b → a ≡ b
unfolding times_power
times_power-injective w g some fits odd zero a b ha hb e = e
times_power-injective w g some fits odd (suc n) a b ha hb e =
    times_power-injective w g some fits odd n a b ha hb
    (times_x-injective w g some fits odd (times_power w g n a) (times_power w g n b) (times_power-lt w g n a fits ha) (times_power-lt w g n b fits hb) e)

-- ---- powers of x

pub power-low : (w g k : ℕ) → k < w → power w g k ≡ 2 ^ k
unfolding times_power
power-low w g zero h = refl
power-low w g (suc k) h =
    ap (times_x w g) (power-low w g k (omega arith))
    ∙ times_x-low w g (2 ^ k) (subst (λ (x : ℕ). x < 2 ^ w) (pow-suc 2 k) (pow-lt h)) ∙ sym (pow-suc 2 k)

pub power-width : (w g : ℕ) → 0 < w → power w g w ≡ g
unfolding times_power times_x
power-width zero g h = absurd (not-suc-le-zero h)
power-width (suc v) g h =
    ap (times_x (suc v) g) (power-low (suc v) g v (omega arith))
    ∙ ap (λ (x : ℕ). bit_xor (scale (x / 2 ^ suc v) g) (x % 2 ^ suc v)) (sym (pow-suc 2 v))
    ∙ ap₂ (λ (x y : ℕ). bit_xor (scale x g) y) (div_self (pow_pos (suc v))) (mod_self (2 ^ suc v))
    ∙ xor_zero_r (scale 1 g) ∙ scale_one g
