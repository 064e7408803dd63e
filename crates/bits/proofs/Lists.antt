-- Laws of runs of bits as lists: they join, and octets and words are runs of 8 and of 64. Assumes nothing.
use mathlib.Core.Path.{◌≡◌, refl, sym, ap, ap₂, ◌∙◌}
use mathlib.Core.List.{List, [], ◌∷◌, ◌++◌}
use Prim.Native.Nat.{ℕ, zero, suc, ◌+◌, ◌-◌, ◌*◌, ◌/◌, ◌%◌, ◌^◌, ◌≤◌, ◌<◌}
use native.Mathlib.Nat.{add-zero, zero-add, add-suc, suc-add, sub-zero, zero-lt-suc, mod-eq_of_lt}
use native.Mathlib.Numerals.{one-add}
use native.Mathlib.Omega.{arith}
use lib.ListN.{length, get_or}
use lib.Pow.{high, low, field, mod-mod-pow}
use Rattle.bits.specs.Order.{bit_at, list_from, bits_of, number, digits}
use Rattle.bits.proofs.Numbers.{bit-octet, low_digit, number-first, number_lt}

pub list_ext : (f h : ℕ → ℕ) (k l n : ℕ) → ((j : ℕ) → j < n → f (k + j) ≡ h (l + j)) → list_from f k n ≡ list_from h l n
unfolding list_from
list_ext f h k l zero e = refl
list_ext f h k l (suc n) e =
    ap₂ (λ (x : ℕ) (y : List ℕ). x ∷ y)
    (ap f (sym (add-zero k)) ∙ e 0 (zero-lt-suc n) ∙ ap h (add-zero l))
    (list_ext f h (suc k) (suc l) n (λ j q. ap f (suc-add k j ∙ sym (add-suc k j)) ∙ e (suc j) (omega arith) ∙ ap h (add-suc l j ∙ sym (suc-add l j))))

pub list-none : (f : ℕ → ℕ) (k : ℕ) → list_from f k 0 ≡ []
unfolding list_from
list-none f k = refl

pub list-first : (f : ℕ → ℕ) (k n : ℕ) → list_from f k (suc n) ≡ f k ∷ list_from f (suc k) n
unfolding list_from
list-first f k n = refl

pub list-one : (f : ℕ → ℕ) (k : ℕ) → list_from f k 1 ≡ f k ∷ []
unfolding list_from
list-one f k = refl

pub length-list : (f : ℕ → ℕ) (k n : ℕ) → length (list_from f k n) ≡ n
unfolding list_from
length-list f k zero = refl
length-list f k (suc n) = ap suc (length-list f (suc k) n)

pub get_or-list : (f : ℕ → ℕ) (k n j : ℕ) → j < n → get_or (list_from f k n) j 0 ≡ f (k + j)
unfolding list_from
get_or-list f k zero j h = absurd (omega arith)
get_or-list f k (suc n) zero h = ap f (sym (add-zero k))
get_or-list f k (suc n) (suc j) h = get_or-list f (suc k) n j (omega arith) ∙ ap f (suc-add k j ∙ sym (add-suc k j))

pub list-append : (f : ℕ → ℕ) (k a n : ℕ) → list_from f k (a + n) ≡ list_from f k a ++ list_from f (k + a) n
unfolding list_from
list-append f k zero n = ap₂ (list_from f) (sym (add-zero k)) (zero-add n)
list-append f k (suc a) n = ap (list_from f k) (suc-add a n) ∙ ap (λ (y : List ℕ). f k ∷ y) (list-append f (suc k) a n ∙ ap (λ (x : ℕ). list_from f (suc k) a ++ list_from f x n) (suc-add k a ∙ sym (add-suc k a)))

-- ---- a number's digits

pub digits-none : (v : ℕ) → digits 0 v ≡ []
unfolding digits
digits-none v = refl

pub digits-first : (n v : ℕ) → digits (suc n) v ≡ v / 2 ^ n % 2 ∷ digits n v
unfolding digits
digits-first n v = refl

-- the low bits of a number have its low digits
pub digits_low : (n m v : ℕ) → n ≤ m → digits n (v % 2 ^ m) ≡ digits n v
unfolding digits
digits_low zero m v h = refl
digits_low (suc n) m v h = ap₂ (λ (a : ℕ) (b : List ℕ). a ∷ b) (low_digit v m n h) (digits_low n m v (omega arith))

-- the digits of the number that a run writes are the run
module _ (f : ℕ → ℕ) (d : (k : ℕ) → f k < 2) where
  low-digits : (k n x : ℕ) → x % 2 ^ n ≡ number f k n → digits n x ≡ list_from f k n
  unfolding digits list_from
  low-digits k zero x e = refl
  low-digits k (suc n) x e =
      let w : x % 2 ^ (1 + n) ≡ f k * 2 ^ n + number f (suc k) n = ap (λ (m : ℕ). x % 2 ^ m) (one-add n) ∙ e ∙ number-first f k n in
      ap₂ (λ (a : ℕ) (b : List ℕ). a ∷ b)
      (sym (field x 1 n) ∙ ap (λ (y : ℕ). y / 2 ^ n) w ∙ high (f k) n (number_lt f d (suc k) n))
      (low-digits (suc k) n x (sym (mod-mod-pow x 1 n) ∙ ap (λ (y : ℕ). y % 2 ^ n) w ∙ low (f k) n (number_lt f d (suc k) n)))

  pub digits_number : (k n : ℕ) → digits n (number f k n) ≡ list_from f k n
  digits_number k n = low-digits k n (number f k n) (mod-eq_of_lt (number_lt f d k n))

-- an octet's digits are eight of the bits
octet-digits : (octets : List ℕ) (i n j : ℕ) → j + n ≡ 8 → digits n (get_or octets i 0) ≡ list_from (bit_at octets) (8 * i + j) n
unfolding digits list_from
octet-digits octets i zero j e = refl
octet-digits octets i (suc n) j e =
    ap₂ (λ (a : ℕ) (b : List ℕ). a ∷ b)
    (ap (λ (x : ℕ). get_or octets i 0 / 2 ^ x % 2) {x = n} {y = 7 - j} (omega arith) ∙ sym (bit-octet octets i j (omega arith)))
    (octet-digits octets i n (suc j) (omega arith) ∙ ap (λ (k : ℕ). list_from (bit_at octets) k n) (add-suc (8 * i) j))

pub digits-octet : (octets : List ℕ) (i : ℕ) → digits 8 (get_or octets i 0) ≡ list_from (bit_at octets) (8 * i) 8
digits-octet octets i = octet-digits octets i 8 0 refl ∙ ap (λ (k : ℕ). list_from (bit_at octets) k 8) (add-zero (8 * i))

-- ---- the bits from octet i on

abbrev pub bits_from : List ℕ → ℕ → List ℕ
bits_from octets i = list_from (bit_at octets) (8 * i) (8 * (length octets - i))

pub from_start : (octets : List ℕ) → bits_from octets 0 ≡ bits_of octets
unfolding bits_of
from_start octets = ap (λ (n : ℕ). list_from (bit_at octets) 0 (8 * n)) (sub-zero (length octets))

pub from_end : (octets : List ℕ) (i : ℕ) → length octets ≤ i → bits_from octets i ≡ []
unfolding list_from
from_end octets i h = let e : 8 * (length octets - i) ≡ 0 = omega arith in ap (list_from (bit_at octets) (8 * i)) e

-- n octets more
pub from_next : (octets : List ℕ) (i n : ℕ) → i + n ≤ length octets → bits_from octets i ≡ list_from (bit_at octets) (8 * i) (8 * n) ++ bits_from octets (i + n)
from_next octets i n h =
    ap (list_from (bit_at octets) (8 * i)) {x = 8 * (length octets - i)} {y = 8 * n + 8 * (length octets - (i + n))} (omega arith)
    ∙ list-append (bit_at octets) (8 * i) (8 * n) (8 * (length octets - (i + n)))
    ∙ ap (λ (k : ℕ). list_from (bit_at octets) (8 * i) (8 * n) ++ list_from (bit_at octets) k (8 * (length octets - (i + n)))) (omega arith)
