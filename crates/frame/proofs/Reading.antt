-- What headers read as: one by its value, and the 32 of a multiblock by their first and second bits. Clause 7.3.2; request 1. Assumes nothing.
use mathlib.Core.Bool.{Bool, true, false}
use mathlib.Core.Path.{◌≡◌, refl, sym, ap, ap₂, ◌∙◌}
use Prim.Native.Nat.{ℕ, ◌+◌, ◌-◌, ◌*◌, ◌/◌, ◌^◌, ◌≤◌, ◌<◌}
use native.Mathlib.Nat.{zero-add}
use native.Mathlib.Omega.{arith}
use borrow.Author.Tests.{eqb-true, ne_eqb, lt-ltb, le-ltb}
use lib.Bits.{bit_and, bit_xor, and_mask, xor_lt}
use lib.Count.{ones, ones-le}
use lib.Dec.{eqb, lit≤}
use Rattle.bits.specs.Choice.{pick, bit_of}
use Rattle.bits.specs.Order.{list_from, number, digit}
use Rattle.bits.proofs.Choice.{pick-both}
use Rattle.bits.proofs.Xor.{bit-cases}
use Rattle.bits.proofs.Ones.{ones-sum}
use Rattle.bits.proofs.Numbers.{digit_at, digit_lt, digit-number, number_lt, number-ext, number-xor, number-and, number-ones, number_digits}
use Rattle.frame.specs.declared.headers.Header.{Header}
use Rattle.frame.specs.declared.headers.Header.TheVariants.{One, Zero, Invalid}
use Rattle.frame.specs.Headers.{value, header_read, carries, invalid, HeaderValues, header_of, header_in, invalid_among}
use Rattle.frame.specs.Lane.{header_place, first_bit, second_bit, value_at, header_at, invalid_headers}

-- ---- one header

pub header-values : HeaderValues
unfolding header_read list_from
header-values = (refl, refl)

pub read_one : (v : ℕ) → v ≡ 1 → header_read v ≡ One
unfolding header_read
read_one v e = ap header_read e

pub read-zero : (v : ℕ) → v ≡ 2 → header_read v ≡ Zero
unfolding header_read
read-zero v e = ap header_read e

pub read-invalid : (v : ℕ) → (v ≡ 1 → ⊥) → (v ≡ 2 → ⊥) → header_read v ≡ Invalid v
unfolding header_read
read-invalid v n m = simp (ne_eqb v 1 n, ne_eqb v 2 m)

pub carries-lt : (h : Header) → carries h < 2
carries-lt One = omega arith
carries-lt Zero = omega arith
carries-lt (Invalid pair) = omega arith

pub bit-lt : (b : Bool) → bit_of b < 2
bit-lt true = omega arith
bit-lt false = omega arith

-- a valid header is of a value that a header has
pub valid-le : (v : ℕ) → invalid (header_read v) ≡ false → v ≤ 3
unfolding header_read
valid-le v =
    pick-both (λ (h : Header). invalid h ≡ false → v ≤ 3) (eqb v 1) One (pick (eqb v 2) Zero (Invalid v)) (λ e z. omega (arith, eqb-true v 1 e))
    (λ _. pick-both (λ (h : Header). invalid h ≡ false → v ≤ 3) (eqb v 2) Zero (Invalid v) (λ e z. omega (arith, eqb-true v 2 e)) (λ e z. absurd (omega (arith, ap bit_of z))))

-- what carries a bit is valid, and reads as that bit
pub carried : (b : ℕ) → b < 2 → carries (header_read (header_of b)) ≡ b
unfolding header_read header_of
carried b h = bit-cases (λ (b : ℕ). carries (header_read (header_of b)) ≡ b) refl refl b h

pub header-valid : (b : ℕ) → b < 2 → invalid (header_read (header_of b)) ≡ false
unfolding header_read header_of
header-valid b h = bit-cases (λ (b : ℕ). invalid (header_read (header_of b)) ≡ false) refl refl b h

-- ---- the 32 headers of a multiblock

-- no more are invalid than there are; and of the same headers as many
pub invalid-le : (headers : ℕ → Header) → invalid_among headers ≤ 32
unfolding invalid_among
invalid-le headers = ones-le 32 _ (number_lt (λ t. bit_of (invalid (headers t))) (λ t. bit-lt (invalid (headers t))) 0 32)

pub among_same : (a b : ℕ → Header) → ((t : ℕ) → t < 32 → a t ≡ b t) → invalid_among a ≡ invalid_among b
unfolding invalid_among
among_same a b e =
    ap ones (number-ext (λ t. bit_of (invalid (a t))) (λ t. bit_of (invalid (b t))) 0 0 32 (λ j h. ap (λ (x : Header). bit_of (invalid x)) (e (0 + j) (omega arith))))

-- the ones of the word of invalid headers
pub among-ones : (word : ℕ) (headers : ℕ → Header) → word ≡ number (λ t. bit_of (invalid (headers t))) 0 32 → ones word ≡ invalid_among headers
unfolding invalid_among
among-ones word headers e = ap ones e

pair-cases : (P : ℕ → ℕ → Type 0) → P 0 0 → P 0 1 → P 1 0 → P 1 1 → (a b : ℕ) → a < 2 → b < 2 → P a b
pair-cases P p₀ p₁ p₂ p₃ a b ha hb =
    bit-cases (λ (a : ℕ). P a b) (bit-cases (P 0) p₀ p₁ b hb) (bit-cases (P 1) p₂ p₃ b hb) a ha

module _ (first second : ℕ) where
  pub header-in : (t : ℕ) → t < 32 → header_in first second t ≡ header_read (value (digit 32 first t) (digit 32 second t))
  unfolding header_in
  header-in t h = simp (lt-ltb t 32 h)

  -- by a shift
  pub header-by : (t : ℕ) → t < 32 → header_in first second t ≡ header_read (bit_and (first / 2 ^ (31 - t)) 1 * 2 + bit_and (second / 2 ^ (31 - t)) 1)
  unfolding value
  header-by t h =
      header-in t h
      ∙ ap₂ (λ (a b : ℕ). header_read (a * 2 + b)) (digit_at 32 first t ∙ sym (and_mask (first / 2 ^ (31 - t)) 1)) (digit_at 32 second t ∙ sym (and_mask (second / 2 ^ (31 - t)) 1))

  pub header-past : (t : ℕ) → 32 ≤ t → header_in first second t ≡ header_read 0
  unfolding header_in
  header-past t h = simp (le-ltb t 32 h)

  module _ (hf : first < 2 ^ 32) (hs : second < 2 ^ 32) where
    firsts : first ≡ number (digit 32 first) 0 32
    firsts = sym (number_digits 32 first hf)

    seconds : second ≡ number (digit 32 second) 0 32
    seconds = sym (number_digits 32 second hs)

    -- a header is valid where its bits differ, and then carries its second
    valid : ℕ → ℕ
    valid t = bit_xor (digit 32 first t) (digit 32 second t)

    valid-lt : (t : ℕ) → valid t < 2
    unfolding valid
    valid-lt t = xor_lt 1 (digit 32 first t) (digit 32 second t) (digit_lt 32 first t) (digit_lt 32 second t)

    all_valid : bit_xor first second ≡ number valid 0 32
    unfolding valid
    all_valid = ap₂ bit_xor firsts seconds ∙ sym (number-xor (digit 32 first) (digit 32 second) (digit_lt 32 first) (digit_lt 32 second) 0 32)

    pub all-carried : bit_and second (bit_xor first second) ≡ number (λ t. carries (header_in first second t)) 0 32
    unfolding valid header_read value
    all-carried =
        ap₂ bit_and seconds all_valid
        ∙ sym (number-ext (λ t. carries (header_in first second t)) (λ t. bit_and (digit 32 second t) (valid t)) 0 0 32
        (λ j q. ap carries (header-in (0 + j) (omega arith))
        ∙ pair-cases (λ a b. carries (header_read (value a b)) ≡ bit_and b (bit_xor a b)) refl refl refl refl (digit 32 first (0 + j)) (digit 32 second (0 + j)) (digit_lt 32 first (0 + j)) (digit_lt 32 second (0 + j)))
        ∙ number-and (digit 32 second) valid (digit_lt 32 second) valid-lt 0 32)

    pub all-invalid : bit_xor (bit_xor first second) 0xffffffff ≡ number (λ t. bit_of (invalid (header_in first second t))) 0 32
    unfolding valid header_read value
    all-invalid =
        ap (λ (x : ℕ). bit_xor x 0xffffffff) all_valid
        ∙ sym (number-ext (λ t. bit_of (invalid (header_in first second t))) (λ t. bit_xor (valid t) 1) 0 0 32
        (λ j q. ap (λ (h : Header). bit_of (invalid h)) (header-in (0 + j) (omega arith))
        ∙ pair-cases (λ a b. bit_of (invalid (header_read (value a b))) ≡ bit_xor (bit_xor a b) 1) refl refl refl refl (digit 32 first (0 + j)) (digit 32 second (0 + j)) (digit_lt 32 first (0 + j)) (digit_lt 32 second (0 + j)))
        ∙ number-xor valid (λ t. 1) valid-lt (λ t. lit≤ tt) 0 32
        ∙ ap (bit_xor (number valid 0 32)) (number-ones 0 32))

-- the two numbers of what a lane has at the headers of a multiblock
module _ (gap : ℕ) (lane : ℕ → ℕ) (bits : (k : ℕ) → lane k < 2) (m : ℕ) where
  pub first-lt : (t : ℕ) → first_bit gap lane m t < 2
  unfolding first_bit
  first-lt t = bits _

  pub second_lt : (t : ℕ) → second_bit gap lane m t < 2
  unfolding second_bit
  second_lt t = bits _

  pub headers-read : (t : ℕ) → t < 32 → header_in (number (first_bit gap lane m) 0 32) (number (second_bit gap lane m) 0 32) t ≡ header_at gap lane m t
  unfolding header_at value_at
  headers-read t h =
      header-in (number (first_bit gap lane m) 0 32) (number (second_bit gap lane m) 0 32) t h
      ∙ ap₂ (λ (x y : ℕ). header_read (value x y))
      (digit-number (first_bit gap lane m) first-lt 0 32 t h ∙ ap (first_bit gap lane m) (zero-add t))
      (digit-number (second_bit gap lane m) second_lt 0 32 t h ∙ ap (second_bit gap lane m) (zero-add t))

-- ---- flipped bits

-- of a valid header only a flipped bit makes an invalid one
flipped : (a b c d : ℕ) → a < 2 → b < 2 → c < 2 → d < 2 → invalid (header_read (value a b)) ≡ false → bit_of (invalid (header_read (value c d))) ≤ bit_xor a c + bit_xor b d
unfolding header_read value
flipped a b c d ha hb hc hd =
    pair-cases (λ a b. invalid (header_read (value a b)) ≡ false → bit_of (invalid (header_read (value c d))) ≤ bit_xor a c + bit_xor b d)
    (λ z. absurd (omega (arith, ap bit_of z)))
    (λ z. pair-cases (λ c d. bit_of (invalid (header_read (value c d))) ≤ bit_xor 0 c + bit_xor 1 d) (lit≤ tt) (lit≤ tt) (lit≤ tt) (lit≤ tt) c d hc hd)
    (λ z. pair-cases (λ c d. bit_of (invalid (header_read (value c d))) ≤ bit_xor 1 c + bit_xor 0 d) (lit≤ tt) (lit≤ tt) (lit≤ tt) (lit≤ tt) c d hc hd)
    (λ z. absurd (omega (arith, ap bit_of z))) a b ha hb

-- so no more headers are invalid than bits were flipped in them, where all were valid
pub invalid-flips : (gap : ℕ) (a b : ℕ → ℕ) → ((k : ℕ) → a k < 2) → ((k : ℕ) → b k < 2) → (m : ℕ) → ((t : ℕ) → t < 32 → invalid (header_at gap a m t) ≡ false)
    → invalid_headers gap b m
    ≤ ones (number (λ t. bit_xor (a (header_place gap m t)) (b (header_place gap m t))) 0 32)
    + ones (number (λ t. bit_xor (a (header_place gap m t + 1)) (b (header_place gap m t + 1))) 0 32)
unfolding invalid_headers invalid_among header_at value_at first_bit second_bit
invalid-flips gap a b bits-a bits-b m valid =
    let x = header_place gap m in
    ones-sum (λ t. bit_of (invalid (header_at gap b m t))) (λ t. bit-lt (invalid (header_at gap b m t)))
    (λ t. bit_xor (a (x t)) (b (x t))) (λ t. bit_xor (a (x t + 1)) (b (x t + 1)))
    (λ t. xor_lt 1 (a (x t)) (b (x t)) (bits-a (x t)) (bits-b (x t))) (λ t. xor_lt 1 (a (x t + 1)) (b (x t + 1)) (bits-a (x t + 1)) (bits-b (x t + 1))) 32
    (λ t h. flipped (a (x t)) (a (x t + 1)) (b (x t)) (b (x t + 1)) (bits-a (x t)) (bits-a (x t + 1)) (bits-b (x t)) (bits-b (x t + 1)) (valid t h))
