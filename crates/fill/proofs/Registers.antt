-- Laws of the register that fill bits are taken from: only 17 bits count, each new bit is 1 plus those 17 and 14 before it, a register that is
-- not all ones never becomes so, and 17 bits follow at once. Clause 7.2.5; request 2. Assumes nothing.
use mathlib.Core.Path.{◌≡◌, refl, sym, ap, ap₂, ◌∙◌}
use Prim.Native.Nat.{ℕ, zero, suc, ◌+◌, ◌-◌, ◌*◌, ◌/◌, ◌%◌, ◌^◌, ◌≤◌, ◌<◌}
use native.Mathlib.Nat.{div-one, zero-div, mod-lt, mod-eq_of_lt, div-eq_of_lt, lt_of_lt_of_le, lt_of_le_of_lt, mul-mod_left}
use native.Mathlib.Nat.{zero-add, add-zero, add-suc, suc-add}
use native.Mathlib.Numerals.{one-add}
use native.Mathlib.Decide.{dec_le}
use native.Mathlib.Omega.{arith}
use lib.Pow.{pow_pos, pow_mono, shr-shr, shl-shr, shr_le, high, low, mod-pow-add, mod-mod-pow}
use lib.Bits.{bit_and, bit_xor, and_mask, mask_lt, xor_lt, xor_comm, xor_shr, xor_zero_r}
use Rattle.bits.specs.Order.{digit}
use Rattle.bits.proofs.Numbers.{low_digit, number-ext, number-whole, number-ones, digit_at, digit-number}
use Rattle.bits.proofs.Xor.{bit-cases, odd-lt, xor_assoc}
use Rattle.bits.proofs.Additive.{bit}
use Rattle.fill.specs.Register.{next_bit, all_bits, register_after, shifts, still}

-- ---- one bit

next-lt : (register : ℕ) → next_bit register < 2
unfolding next_bit
next-lt register = xor_lt 1 1 _ (omega arith) (xor_lt 1 _ _ (odd-lt (register / 2 ^ 16)) (odd-lt (register / 2 ^ 13)))

-- the same as a sum
next-sum : (register : ℕ) → next_bit register ≡ (1 + register / 2 ^ 16 % 2 + register / 2 ^ 13 % 2) % 2
unfolding next_bit
next-sum register =
    bit-cases (λ (x : ℕ). bit_xor 1 (bit_xor x (register / 2 ^ 13 % 2)) ≡ (1 + x + register / 2 ^ 13 % 2) % 2)
    (bit-cases (λ (y : ℕ). bit_xor 1 (bit_xor 0 y) ≡ (1 + 0 + y) % 2) refl refl _ (odd-lt (register / 2 ^ 13)))
    (bit-cases (λ (y : ℕ). bit_xor 1 (bit_xor 1 y) ≡ (1 + 1 + y) % 2) refl refl _ (odd-lt (register / 2 ^ 13))) _ (odd-lt (register / 2 ^ 16))

-- only the 17 latest bits count
same_bit : (register other j : ℕ) → j < 17 → register % 2 ^ 17 ≡ other % 2 ^ 17 → register / 2 ^ j % 2 ≡ other / 2 ^ j % 2
same_bit register other j h e = sym (low_digit register 17 j h) ∙ ap (λ (x : ℕ). x / 2 ^ j % 2) e ∙ low_digit other 17 j h

same_next : (register other : ℕ) → register % 2 ^ 17 ≡ other % 2 ^ 17 → next_bit register ≡ next_bit other
unfolding next_bit
same_next register other e = ap (bit_xor 1) (ap₂ bit_xor (same_bit register other 16 (omega arith) e) (same_bit register other 13 (omega arith) e))

same_after : (register other n : ℕ) → register % 2 ^ 17 ≡ other % 2 ^ 17 → all_bits register n % 2 ^ 17 ≡ all_bits other n % 2 ^ 17
unfolding all_bits
same_after register other zero e = e
same_after register other (suc n) e =
    let i = same_after register other n e in
    let s = same_next (all_bits register n) (all_bits other n) i in
    omega arith

-- ---- registers

pub register-lt : (register n : ℕ) → register_after register n < 2 ^ 17
unfolding register_after
register-lt register n = mod-lt (all_bits register n) (pow_pos 17)

all-add : (register a b : ℕ) → all_bits register (a + b) ≡ all_bits (all_bits register a) b
unfolding all_bits
all-add register a zero = ap (all_bits register) (add-zero a)
all-add register a (suc b) = ap (all_bits register) (add-suc a b) ∙ ap (λ (x : ℕ). x * 2 + next_bit x) (all-add register a b)

pub register-add : (register a b : ℕ) → register_after register (a + b) ≡ register_after (register_after register a) b
unfolding register_after
register-add register a b =
    ap (λ (x : ℕ). x % 2 ^ 17) (all-add register a b)
    ∙ same_after (all_bits register a) (all_bits register a % 2 ^ 17) b (sym (mod-mod-pow (all_bits register a) 0 17))

pub register-start : (register : ℕ) → register_after register 0 ≡ register % 2 ^ 17
unfolding register_after all_bits
register-start register = refl

pub register-none : (register : ℕ) → register < 2 ^ 17 → register_after register 0 ≡ register
unfolding register_after all_bits
register-none register h = mod-eq_of_lt h

-- a sum of three bits that is odd, with two of them 1
odd : (x : ℕ) → x < 2 → (1 + x + 1) % 2 ≡ 1 → x ≡ 1
odd x h e = omega arith

-- only all ones lead to all ones: the 16 low bits are ones, so is the bit 14 before, and so then is the bit 17 before
step : (all new : ℕ) → new < 2 → new ≡ (1 + all / 2 ^ 16 % 2 + all / 2 ^ 13 % 2) % 2 → all % 2 ^ 17 < still → (all * 2 + new) % 2 ^ 17 < still
step all new l e h = go (dec_le still ((all * 2 + new) % 2 ^ 17))
  where
    next : (all * 2 + new) % 2 ^ 17 ≡ all % 2 ^ 16 * 2 + new
    next = mod-pow-add (all * 2 + new) 16 1 ∙ ap₂ (λ (x y : ℕ). x % 2 ^ 16 * 2 + y) (high all 1 l) (low all 1 l)

    go : Dec (still ≤ (all * 2 + new) % 2 ^ 17) → (all * 2 + new) % 2 ^ 17 < still
    go (no q) = omega arith
    go (yes q) =
        let ones : all % 2 ^ 16 ≡ 2 ^ 16 - 1 = omega (arith, next) in
        let before-14 : all / 2 ^ 13 % 2 ≡ 1 = sym (low_digit all 16 13 (omega arith)) ∙ ap (λ (x : ℕ). x / 2 ^ 13 % 2) ones in
        let before-17 : all / 2 ^ 16 % 2 ≡ 1 =
        odd (all / 2 ^ 16 % 2) (odd-lt (all / 2 ^ 16)) (sym (ap (λ (y : ℕ). (1 + all / 2 ^ 16 % 2 + y) % 2) before-14) ∙ sym e ∙ omega (arith, next)) in
        omega (arith, mod-pow-add all 1 16)

-- a register that is not all ones never becomes so
pub moves : (register n : ℕ) → register < still → register_after register n < still
unfolding register_after all_bits
moves register zero h = omega arith
moves register (suc n) h = step (all_bits register n) _ (next-lt (all_bits register n)) (next-sum (all_bits register n)) (moves register n h)

-- and all ones stand still
pub stands : register_after still 1 ≡ still
unfolding register_after all_bits next_bit
stands = refl

-- ---- the bits that follow a register

module _ (register : ℕ) where
  half : (k : ℕ) → all_bits register (suc k) / 2 ≡ all_bits register k
  unfolding all_bits
  half k = high (all_bits register k) 1 (next-lt (all_bits register k))

  latest : (k : ℕ) → all_bits register (suc k) % 2 ≡ next_bit (all_bits register k)
  unfolding all_bits
  latest k = low (all_bits register k) 1 (next-lt (all_bits register k))

  -- the bits that came later shift those before
  shift : (a q j : ℕ) → all_bits register (a + q) / 2 ^ (q + j) ≡ all_bits register a / 2 ^ j
  shift a zero j = ap₂ (λ (x y : ℕ). all_bits register x / 2 ^ y) (add-zero a) (zero-add j)
  shift a (suc q) j =
      ap₂ (λ (x y : ℕ). all_bits register x / 2 ^ y) (add-suc a q) (suc-add q j ∙ sym (one-add (q + j)))
      ∙ sym (shr-shr (all_bits register (suc (a + q))) 1 (q + j))
      ∙ ap (λ (x : ℕ). x / 2 ^ (q + j)) (half (a + q))
      ∙ shift a q j

  -- bit e of the number, once e bits have followed bit k
  came : (n k e : ℕ) → n ≡ k + e + 1 → all_bits register n / 2 ^ e % 2 ≡ next_bit (all_bits register k)
  came n k e h =
      ap₂ (λ (x y : ℕ). all_bits register x / 2 ^ y % 2) {x = n} {y = suc k + e} (omega arith) (sym (add-zero e))
      ∙ ap (λ (x : ℕ). x % 2) (shift (suc k) e 0 ∙ div-one (all_bits register (suc k)))
      ∙ latest k

  -- and what is left of the register
  left : (k e : ℕ) → all_bits register k / 2 ^ (k + e) % 2 ≡ register / 2 ^ e % 2
  left k e = ap (λ (x : ℕ). all_bits register x / 2 ^ (k + e) % 2) (sym (zero-add k)) ∙ ap (λ (x : ℕ). x % 2) (shift 0 k e) ∙ unfold all_bits in refl

  -- each bit is 1, plus the bit 17 before, plus the bit 14 before
  pub bit-rule : (k : ℕ) → next_bit (all_bits register (k + 17)) ≡ bit_xor 1 (bit_xor (next_bit (all_bits register k)) (next_bit (all_bits register (k + 3))))
  bit-rule k =
      unfold next_bit in refl
      ∙ ap (bit_xor 1) (ap₂ bit_xor (came (k + 17) k 16 (omega arith)) (came (k + 17) (k + 3) 13 (omega arith)))

-- ---- 17 bits at once

-- below its shift a number has no bits
none_below : (x i t : ℕ) → t < i → x * 2 ^ i / 2 ^ t % 2 ≡ 0
none_below x i t h =
    sym (low_digit (x * 2 ^ i) i t h) ∙ ap (λ (y : ℕ). y / 2 ^ t % 2) (mul-mod_left x (2 ^ i)) ∙ ap (λ (y : ℕ). y % 2) (zero-div (2 ^ t))

-- every bit of all ones
one : (j : ℕ) → j < 17 → (2 ^ 17 - 1) / 2 ^ (16 - j) % 2 ≡ 1
one j h = sym (digit_at 17 (2 ^ 17 - 1) j) ∙ ap (λ (x : ℕ). digit 17 x j) (sym (number-ones 0 17)) ∙ digit-number (λ i. 1) (λ i. omega arith) 0 17 j h

module _ (register : ℕ) where
  abbrev new : ℕ
  new = register_after register 17

  abbrev up : ℕ
  up = register * 2 ^ 3 % 2 ^ 32

  abbrev own : ℕ
  own = bit_and (bit_xor (bit_xor register up) (2 ^ 17 - 1)) (2 ^ 17 - 1)

  -- bit j of the 17 that follow
  new-bit : (j e : ℕ) → j + e ≡ 16 → new / 2 ^ e % 2 ≡ next_bit (all_bits register j)
  unfolding register_after
  new-bit j e h = low_digit (all_bits register 17) 17 e (omega arith) ∙ came register 17 j e (omega arith)

  -- three bits are left above the 14 low ones
  gone : (k : ℕ) → 3 ≤ k → new / 2 ^ 14 / 2 ^ k ≡ 0
  gone k h = shr-shr new 14 k ∙ div-eq_of_lt (lt_of_lt_of_le (register-lt register 17) (pow_mono {i = 17} {j = 14 + k} (omega arith)))

  -- the bits 14 before: the register shifted up, and below it the first three new bits
  tap : (j : ℕ) → j < 17 → all_bits register j / 2 ^ 13 % 2 ≡ bit_xor (up / 2 ^ (16 - j) % 2) (new / 2 ^ 14 / 2 ^ (16 - j) % 2)
  tap j h =
      go (dec_le j 13) ∙ ap (λ (x : ℕ). bit_xor x (new / 2 ^ 14 / 2 ^ (16 - j) % 2)) (sym (low_digit (register * 2 ^ 3) 32 (16 - j) (omega arith)))
    where
      go : Dec (j ≤ 13) → all_bits register j / 2 ^ 13 % 2 ≡ bit_xor (register * 2 ^ 3 / 2 ^ (16 - j) % 2) (new / 2 ^ 14 / 2 ^ (16 - j) % 2)
      go (yes q) =
          ap (λ (x : ℕ). all_bits register j / 2 ^ x % 2) {x = 13} {y = j + (13 - j)} (omega arith)
          ∙ left register j (13 - j)
          ∙ sym (ap₂ bit_xor
          (ap (λ (x : ℕ). register * 2 ^ 3 / 2 ^ x % 2) {x = 16 - j} {y = 3 + (13 - j)} (omega arith)
          ∙ ap (λ (x : ℕ). x % 2) (sym (shr-shr (register * 2 ^ 3) 3 (13 - j)) ∙ ap (λ (x : ℕ). x / 2 ^ (13 - j)) (shl-shr register 3)))
          (ap (λ (x : ℕ). x % 2) (gone (16 - j) (omega arith)))
          ∙ xor_zero_r (register / 2 ^ (13 - j) % 2))
      go (no q) =
          came register j (j - 14) 13 (omega arith)
          ∙ sym (ap₂ bit_xor (none_below register 3 (16 - j) (omega arith))
          (ap (λ (x : ℕ). x % 2) (shr-shr new 14 (16 - j)) ∙ new-bit (j - 14) (14 + (16 - j)) (omega arith)))

  own-bit : (j : ℕ) → j < 17 → own / 2 ^ (16 - j) % 2 ≡ bit_xor 1 (bit_xor (register / 2 ^ (16 - j) % 2) (up / 2 ^ (16 - j) % 2))
  own-bit j h =
      ap (λ (x : ℕ). x / 2 ^ (16 - j) % 2) (and_mask (bit_xor (bit_xor register up) (2 ^ 17 - 1)) 17)
      ∙ low_digit (bit_xor (bit_xor register up) (2 ^ 17 - 1)) 17 (16 - j) (omega arith)
      ∙ bit (16 - j) (bit_xor register up) (2 ^ 17 - 1)
      ∙ ap₂ bit_xor (bit (16 - j) register up) (one j h)
      ∙ xor_comm (bit_xor (register / 2 ^ (16 - j) % 2) (up / 2 ^ (16 - j) % 2)) 1

  -- the new register is its own part, and its three highest bits once more
  new-own : new ≡ bit_xor own (new / 2 ^ 14)
  new-own =
      sym (number-whole 17 new ∙ mod-eq_of_lt (register-lt register 17))
      ∙ number-ext (λ j. new / 2 ^ (17 - 1 - j) % 2) (λ j. bit_xor own (new / 2 ^ 14) / 2 ^ (17 - 1 - j) % 2) 0 0 17 (λ j h. same (0 + j) (omega arith))
      ∙ number-whole 17 (bit_xor own (new / 2 ^ 14))
      ∙ mod-eq_of_lt
      (xor_lt 17 own (new / 2 ^ 14) (mask_lt (bit_xor (bit_xor register up) (2 ^ 17 - 1)) 17) (lt_of_le_of_lt (shr_le new 14) (register-lt register 17)))
    where
      same : (j : ℕ) → j < 17 → new / 2 ^ (16 - j) % 2 ≡ bit_xor own (new / 2 ^ 14) / 2 ^ (16 - j) % 2
      same j h =
          let old = register / 2 ^ (16 - j) % 2 in
          let above = up / 2 ^ (16 - j) % 2 in
          let first = new / 2 ^ 14 / 2 ^ (16 - j) % 2 in
          new-bit j (16 - j) (omega arith)
          ∙ unfold next_bit in refl
          ∙ ap (bit_xor 1)
          (ap₂ bit_xor (ap (λ (x : ℕ). all_bits register j / 2 ^ x % 2) {x = 16} {y = j + (16 - j)} (omega arith) ∙ left register j (16 - j)) (tap j h)
          ∙ sym (xor_assoc old above first))
          ∙ sym (bit (16 - j) own (new / 2 ^ 14) ∙ ap (λ (x : ℕ). bit_xor x first) (own-bit j h) ∙ xor_assoc 1 (bit_xor old above) first)

  -- and so are those of its own part
  pub next-at-once : bit_xor own (own / 2 ^ 14) ≡ register_after register shifts
  next-at-once =
      ap (bit_xor own)
      (sym (ap (λ (x : ℕ). x / 2 ^ 14) new-own
      ∙ xor_shr own (new / 2 ^ 14) 14
      ∙ ap (bit_xor (own / 2 ^ 14)) (gone 14 (omega arith))
      ∙ xor_zero_r (own / 2 ^ 14)))
      ∙ sym new-own
