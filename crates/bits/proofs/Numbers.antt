-- Laws of the number that a run of bits writes. Assumes nothing.
use mathlib.Core.Path.{◌≡◌, refl, sym, ap, ap₂, ◌∙◌, subst}
use mathlib.Core.List.{List, []}
use Prim.Native.Nat.{ℕ, zero, suc, ◌+◌, ◌-◌, ◌*◌, ◌/◌, ◌%◌, ◌^◌, ◌≤◌, ◌<◌}
use native.Mathlib.Nat.{add-zero, add-suc, add_assoc, mul-one, pow-suc, pow-zero, mul_assoc, add-mul, mod-lt, mod-eq_of_lt, mod-one, div-one, zero-div, zero-lt-suc}
use native.Mathlib.Numerals.{add-one, one-add}
use native.Mathlib.Omega.{arith}
use lib.ListN.{length, get_or, get_or-eq_default}
use lib.Arith.{digits_lt}
use lib.Pow.{pow_pos, shr-shr, high, low, field, mod-pow-add, mod-mod-pow}
use lib.Bits.{bit_and, bit_xor, and_block}
use Rattle.bits.specs.Order.{bit_at, number, digit}
use Rattle.bits.proofs.Xor.{xor-digit}

pub bit_at_lt : (octets : List ℕ) (k : ℕ) → bit_at octets k < 2
unfolding bit_at
bit_at_lt octets k = mod-lt (get_or octets (k / 8) 0 / 2 ^ (7 - k % 8)) (zero-lt-suc 1)

pub digit_at : (n v j : ℕ) → digit n v j ≡ v / 2 ^ (n - 1 - j) % 2
unfolding digit
digit_at n v j = refl

pub digit_lt : (n v j : ℕ) → digit n v j < 2
unfolding digit
digit_lt n v j = mod-lt (v / 2 ^ (n - 1 - j)) (zero-lt-suc 1)

module _ (f : ℕ → ℕ) (k : ℕ) where
  -- no bits, one more, and two
  pub number-none : 0 ≡ number f k 0
  unfolding number
  number-none = refl

  pub number_more : (n : ℕ) → number f k (n + 1) ≡ number f k n * 2 + f (k + n)
  unfolding number
  number_more n = ap (number f k) (add-one n)

  pub number-two : number f k 2 ≡ f k * 2 + f (k + 1)
  unfolding number
  number-two = omega (arith, ap f (add-zero k))

module _ (f : ℕ → ℕ) where
  -- a run of a + b bits is a run of a and then one of b
  pub number-split : (k a b : ℕ) → number f k (a + b) ≡ number f k a * 2 ^ b + number f (k + a) b
  unfolding number
  number-split k a zero = ap (number f k) (add-zero a) ∙ sym (add-zero _ ∙ (ap (λ (x : ℕ). number f k a * x) (pow-zero 2) ∙ mul-one _))
  number-split k a (suc b) =
      ap (number f k) (add-suc a b)
      ∙ ap₂ (λ (x y : ℕ). x * 2 + f y) (number-split k a b) (sym (add_assoc k a b))
      ∙ ap (λ (x : ℕ). x + f (k + a + b)) (add-mul (number f k a * 2 ^ b) (number f (k + a) b) 2 ∙ ap (λ (x : ℕ). x + number f (k + a) b * 2) (mul_assoc (number f k a) (2 ^ b) 2 ∙ ap (λ (x : ℕ). number f k a * x) (sym (pow-suc 2 b))))
      ∙ add_assoc (number f k a * 2 ^ suc b) (number f (k + a) b * 2) (f (k + a + b))

  pub number-first : (k n : ℕ) → number f k (suc n) ≡ f k * 2 ^ n + number f (suc k) n
  number-first k n =
      ap (number f k) (sym (one-add n))
      ∙ number-split k 1 n
      ∙ ap₂ (λ (x y : ℕ). x * 2 ^ n + number f y n) (unfold number in (omega (arith, ap f (add-zero k)))) (add-one k)

  module _ (d : (k : ℕ) → f k < 2) where
    pub number_lt : (k n : ℕ) → number f k n < 2 ^ n
    unfolding number
    number_lt k zero = omega (arith, pow_pos 0)
    number_lt k (suc n) = subst (λ (x : ℕ). number f k n * 2 + f (k + n) < x) (sym (pow-suc 2 n)) (digits_lt (number_lt k n) (d (k + n)))

    -- the low bits of the number are the end of the run
    pub number-low : (k a b : ℕ) → number f k (a + b) % 2 ^ b ≡ number f (k + a) b
    number-low k a b = ap (λ (x : ℕ). x % 2 ^ b) (number-split k a b) ∙ low (number f k a) b (number_lt (k + a) b)

    -- and its high bits the start
    pub number-high : (k a b : ℕ) → number f k (a + b) / 2 ^ b ≡ number f k a
    number-high k a b = ap (λ (x : ℕ). x / 2 ^ b) (number-split k a b) ∙ high (number f k a) b (number_lt (k + a) b)

    -- and w bits with b below them what stands between
    pub number-field : (k a w b : ℕ) → number f k (a + w + b) / 2 ^ b % 2 ^ w ≡ number f (k + a) w
    number-field k a w b = ap (λ (x : ℕ). x % 2 ^ w) (number-high k (a + w) b) ∙ number-low k a w

    -- digit j of the number that a run writes is bit j of the run
    pub digit-number : (k n j : ℕ) → j < n → digit n (number f k n) j ≡ f (k + j)
    unfolding digit number
    digit-number k n j h =
        ap (λ (x : ℕ). number f k x / 2 ^ (n - 1 - j) % 2) {x = n} {y = suc j + (n - 1 - j)} (omega arith)
        ∙ ap (λ (x : ℕ). x / 2 ^ (n - 1 - j) % 2) (number-split k (suc j) (n - 1 - j))
        ∙ ap (λ (x : ℕ). x % 2) (high (number f k (suc j)) (n - 1 - j) (number_lt (k + suc j) (n - 1 - j)))
        ∙ low (number f k j) 1 (d (k + j))

-- all zeros
pub number-zeros : (f : ℕ → ℕ) → ((j : ℕ) → f j ≡ 0) → (k n : ℕ) → number f k n ≡ 0
unfolding number
number-zeros f e k zero = refl
number-zeros f e k (suc n) = omega (arith, number-zeros f e k n, e (k + n))

-- all ones
pub number-ones : (k n : ℕ) → number (λ j. 1) k n ≡ 2 ^ n - 1
unfolding number
number-ones k zero = refl
number-ones k (suc n) = omega (arith, number-ones k n, pow-suc 2 n, pow_pos n)

-- equal bits, equal numbers
pub number-ext : (f g : ℕ → ℕ) (k l n : ℕ) → ((j : ℕ) → j < n → f (k + j) ≡ g (l + j)) → number f k n ≡ number g l n
unfolding number
number-ext f g k l zero h = refl
number-ext f g k l (suc n) h = ap₂ (λ (x y : ℕ). x * 2 + y) (number-ext f g k l n (λ j q. h j (omega arith))) (h n (omega arith))

-- w of the digits from digit k on are a field of the number
pub number-digit : (n v k w : ℕ) → k + w ≤ n → number (digit n v) k w ≡ v / 2 ^ (n - k - w) % 2 ^ w
unfolding number digit
number-digit n v k zero h = sym (mod-one _)
number-digit n v k (suc w) h =
    let r = n - k - suc w in
    ap₂ (λ (x y : ℕ). x * 2 + v / 2 ^ y % 2)
    (number-digit n v k w (omega arith) ∙ ap (λ (x : ℕ). v / 2 ^ x % 2 ^ w) {x = n - k - w} {y = r + 1} (omega arith) ∙ ap (λ (x : ℕ). x % 2 ^ w) (sym (shr-shr v r 1)))
    (omega arith)
    ∙ sym (ap (λ (x : ℕ). v / 2 ^ r % 2 ^ x) (sym (add-one w)) ∙ mod-pow-add (v / 2 ^ r) w 1)

-- and all of them the number
pub number-whole : (n v : ℕ) → number (λ j. v / 2 ^ (n - 1 - j) % 2) 0 n ≡ v % 2 ^ n
unfolding digit
number-whole n v =
    number-digit n v 0 n (omega arith)
    ∙ ap (λ (x : ℕ). v / 2 ^ x % 2 ^ n) {x = n - 0 - n} {y = 0} (omega arith)
    ∙ ap (λ (x : ℕ). x % 2 ^ n) (div-one v)

-- a number of n bits is what its digits write
pub number_digits : (n v : ℕ) → v < 2 ^ n → number (digit n v) 0 n ≡ v
unfolding digit
number_digits n v h = number-whole n v ∙ mod-eq_of_lt h

-- the low bits of a number have its low digits
pub low_digit : (v w k : ℕ) → k < w → v % 2 ^ w / 2 ^ k % 2 ≡ v / 2 ^ k % 2
low_digit v w k h =
    ap (λ (x : ℕ). v % 2 ^ x / 2 ^ k % 2) {x = w} {y = w - k + k} (omega arith)
    ∙ ap (λ (x : ℕ). x % 2) (field v (w - k) k)
    ∙ ap (λ (x : ℕ). v / 2 ^ k % 2 ^ x % 2) {x = w - k} {y = w - k - 1 + 1} (omega arith)
    ∙ mod-mod-pow (v / 2 ^ k) (w - k - 1) 1

-- exclusive or goes through, and so does "and"
pub number-xor : (f g : ℕ → ℕ) → ((k : ℕ) → f k < 2) → ((k : ℕ) → g k < 2) → (k n : ℕ)
    → number (λ j. bit_xor (f j) (g j)) k n ≡ bit_xor (number f k n) (number g k n)
unfolding number
number-xor f g d e k zero = refl
number-xor f g d e k (suc n) =
    ap (λ (x : ℕ). x * 2 + bit_xor (f (k + n)) (g (k + n))) (number-xor f g d e k n)
    ∙ sym (xor-digit (number f k n) (number g k n) (f (k + n)) (g (k + n)) (d (k + n)) (e (k + n)))

pub number-and : (f g : ℕ → ℕ) → ((k : ℕ) → f k < 2) → ((k : ℕ) → g k < 2) → (k n : ℕ)
    → number (λ j. bit_and (f j) (g j)) k n ≡ bit_and (number f k n) (number g k n)
unfolding number
number-and f g d e k zero = refl
number-and f g d e k (suc n) =
    ap (λ (x : ℕ). x * 2 + bit_and (f (k + n)) (g (k + n))) (number-and f g d e k n)
    ∙ sym (and_block 1 (number f k n) (number g k n) (f (k + n)) (g (k + n)) (d (k + n)) (e (k + n)))

-- ---- octets

-- the bits of octet i
pub bit-octet : (octets : List ℕ) (i j : ℕ) → j < 8 → bit_at octets (8 * i + j) ≡ get_or octets i 0 / 2 ^ (7 - j) % 2
unfolding bit_at
bit-octet octets i j h = ap₂ (λ (x y : ℕ). get_or octets x 0 / 2 ^ (7 - y) % 2) (omega arith) (omega arith)

-- octet i is the number of its eight bits
pub number-octet : (octets : List ℕ) (i : ℕ) → get_or octets i 0 < 256 → number (bit_at octets) (8 * i) 8 ≡ get_or octets i 0
number-octet octets i h =
    number-ext (bit_at octets) (λ j. get_or octets i 0 / 2 ^ (8 - 1 - j) % 2) (8 * i) 0 8 (λ j q. bit-octet octets i j q ∙ ap (λ (x : ℕ). get_or octets i 0 / 2 ^ x % 2) (omega arith))
    ∙ number-whole 8 (get_or octets i 0)
    ∙ mod-eq_of_lt h

-- eight bits more
pub number-next : (octets : List ℕ) (i n : ℕ) → get_or octets (i + n) 0 < 256
    → number (bit_at octets) (8 * i) (8 * (n + 1)) ≡ number (bit_at octets) (8 * i) (8 * n) * 256 + get_or octets (i + n) 0
number-next octets i n h =
    ap (number (bit_at octets) (8 * i)) (omega arith)
    ∙ number-split (bit_at octets) (8 * i) (8 * n) 8
    ∙ ap (λ (x : ℕ). number (bit_at octets) (8 * i) (8 * n) * 256 + x) (ap (λ (x : ℕ). number (bit_at octets) x 8) (omega arith) ∙ number-octet octets (i + n) h)

-- past the end every bit is 0, and so is every bit of no octets
pub bit-none : (k : ℕ) → bit_at [] k ≡ 0
unfolding bit_at
bit-none k = ap (λ (x : ℕ). x % 2) (zero-div (2 ^ (7 - k % 8)))

pub past_end : (octets : List ℕ) (at n : ℕ) → length octets ≤ at → number (bit_at octets) (8 * at) n ≡ 0
unfolding number bit_at
past_end octets at zero h = refl
past_end octets at (suc n) h =
    ap₂ (λ (x y : ℕ). x * 2 + y) (past_end octets at n h)
    (ap (λ (x : ℕ). x / 2 ^ (7 - (8 * at + n) % 8) % 2) (get_or-eq_default octets 0 {n = (8 * at + n) / 8} (omega arith)) ∙ ap (λ (x : ℕ). x % 2) (zero-div (2 ^ (7 - (8 * at + n) % 8))))
