-- The code's step of a register of w bits is one bit more of the remainder. Assumes nothing.
use mathlib.Core.Path.{◌≡◌, sym, ap, ap₂, ◌∙◌}
use mathlib.Core.List.{List, [], ◌∷◌, ◌++◌}
use Prim.Native.Nat.{ℕ, zero, suc, ◌+◌, ◌-◌, ◌*◌, ◌/◌, ◌%◌, ◌^◌, ◌<◌, ◌≤◌}
use native.Mathlib.Nat.{not-suc-le-zero, one-mul, mod-eq_of_lt, zero-lt-suc, le_refl}
use native.Mathlib.Numerals.{sub-one}
use native.Mathlib.Omega.{arith}
use lib.ListN.{length, get_or, replicate}
use lib.Pow.{shl_exact}
use lib.Bits.{bit_xor, bit_and, and_mask, xor_comm}
use Rattle.bits.specs.Order.{bits_of, digits}
use Rattle.bits.proofs.Xor.{xor_assoc}
use Rattle.bits.proofs.Lists.{bits_from, from_start, from_next, from_end, digits-octet}
use Rattle.bits.proofs.Octets.{after_first}
use Rattle.polynomial.specs.Polynomial.{scale, times_x, times_power}
use Rattle.polynomial.specs.Remainder.{next, remainder_from}
use Rattle.polynomial.proofs.Polynomial.{scale-xor, top_lt, times_power-none, times_power-add}
use Rattle.polynomial.proofs.Remainder.{from-append, no_digit, first-digit}
use Rattle.polynomial.proofs.Digits.{from-zeros}

-- ---- what the shifts and masks come to

up : (w r : ℕ) → w ≤ 31 → r < 2 ^ w → r * 2 % 2 ^ 32 ≡ r * 2
up w r hw hr = shl_exact w 1 32 hr (omega arith)

one_up : (w : ℕ) → w ≤ 31 → 1 * 2 ^ w % 2 ^ 32 ≡ 2 ^ w
one_up w hw = shl_exact {a = 1} 1 w 32 (omega arith) (omega arith) ∙ one-mul (2 ^ w)

pub step-code : (w g r b : ℕ) → w ≤ 31 → r < 2 ^ w
    → bit_xor (bit_and (bit_xor (r * 2 % 2 ^ 32 / 2 ^ w) b) 1 * g) (bit_and (r * 2 % 2 ^ 32) (1 * 2 ^ w % 2 ^ 32 - 1)) ≡ next w g r b
step-code w g r b hw hr =
    rw (up w r hw hr, one_up w hw, and_mask (r * 2) w, and_mask (bit_xor (r * 2 / 2 ^ w) b) 1)
    (unfold next times_x scale in
    (ap (λ (x : ℕ). bit_xor x (r * 2 % 2 ^ w)) (both ∙ xor_comm (scale (r * 2 / 2 ^ w) g) (scale b g))
    ∙ xor_assoc (scale b g) (scale (r * 2 / 2 ^ w) g) (r * 2 % 2 ^ w)))
  where
    both : bit_xor (r * 2 / 2 ^ w) b % 2 * g ≡ bit_xor (scale (r * 2 / 2 ^ w) g) (scale b g)
    both = unfold scale in scale-xor (r * 2 / 2 ^ w) b g

-- times x, where twice r is had already
pub times-x : (w g r twice : ℕ) → r < 2 ^ w → twice ≡ r * 2 → bit_xor (twice / 2 ^ w * g) (bit_and twice (2 ^ w - 1)) ≡ times_x w g r
unfolding times_x scale
times-x w g r twice h e =
    ap₂ (λ (x y : ℕ). bit_xor (x * g) y)
    (ap (λ (x : ℕ). x / 2 ^ w) e ∙ sym (mod-eq_of_lt (top_lt w r h))) (and_mask twice w ∙ ap (λ (x : ℕ). x % 2 ^ w) e)

-- ---- the next bit of an octet, and the next octet

pub next-digit : (w g r k v : ℕ) → 0 < k → remainder_from w g (next w g r (bit_and (v / 2 ^ (k - 1)) 1)) (digits (k - 1) v) ≡ remainder_from w g r (digits k v)
next-digit w g r zero v h = absurd (not-suc-le-zero h)
next-digit w g r (suc n) v h = rw (sub-one (suc n), and_mask (v / 2 ^ n) 1) (sym (first-digit w g r n v))

pub no-digits : (w g r k v : ℕ) → k ≤ 0 → remainder_from w g r (digits k v) ≡ r
no-digits w g r zero v h = no_digit w g r v
no-digits w g r (suc k) v h = absurd (not-suc-le-zero h)

pub next-octets : (w g r i : ℕ) (octets : List ℕ) → i < length octets
    → remainder_from w g (remainder_from w g r (digits 8 (get_or octets i 0))) (bits_from octets (i + 1)) ≡ remainder_from w g r (bits_from octets i)
next-octets w g r i octets h =
    sym (ap (remainder_from w g r) (from_next octets i 1 (omega arith) ∙ ap (λ (l : List ℕ). l ++ bits_from octets (i + 1)) (sym (digits-octet octets i)))
    ∙ from-append w g r (digits 8 (get_or octets i 0)) (bits_from octets (i + 1)))

pub no-octets : (w g r i : ℕ) (octets : List ℕ) → length octets ≤ i → remainder_from w g r (bits_from octets i) ≡ r
unfolding remainder_from
no-octets w g r i octets h = ap (remainder_from w g r) (from_end octets i h)

-- an octet in front of others
pub first-octet : (w g r v : ℕ) (octets : List ℕ) → remainder_from w g r (bits_of (v ∷ octets)) ≡ remainder_from w g (remainder_from w g r (digits 8 v)) (bits_of octets)
first-octet w g r v octets =
    ap (remainder_from w g r) (sym (from_start (v ∷ octets)))
    ∙ sym (next-octets w g r 0 (v ∷ octets) (zero-lt-suc (length octets)))
    ∙ ap (remainder_from w g (remainder_from w g r (digits 8 v))) (after_first v octets)

-- n octets of zeros
pub zero-octets : (w g n r : ℕ) → remainder_from w g r (bits_of (replicate n 0)) ≡ times_power w g (8 * n) r
zero-octets w g zero r = ap (remainder_from w g r) (sym (from_start [])) ∙ no-octets w g r 0 [] (le_refl 0) ∙ sym (times_power-none w g r)
zero-octets w g (suc n) r =
    first-octet w g r 0 (replicate n 0)
    ∙ zero-octets w g n (remainder_from w g r (digits 8 0))
    ∙ ap (times_power w g (8 * n)) (from-zeros w g 8 r)
    ∙ sym (times_power-add w g 8 (8 * n) r)
    ∙ ap (λ (m : ℕ). times_power w g m r) {x = 8 + 8 * n} {y = 8 * suc n} (omega arith)
