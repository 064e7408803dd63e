-- The CRC-3 remainder 64 bits at once, x^3 + x + 1: request 5; clause 7.4.3. x^7 is 1 by this polynomial, and so x^63 is 1 and x^64 is x: words are
-- added up with a shift by one place each, and only their sum is divided, by shifts. Assumes nothing.
use mathlib.Core.Path.{◌≡◌, refl, sym, ap, ◌∙◌}
use mathlib.Core.List.{List, [], ◌∷◌}
use Prim.Native.Nat.{ℕ, ◌*◌, ◌/◌, ◌%◌, ◌^◌, ◌<◌}
use lib.Dec.{T, eqb}
use lib.Bits.{bit_xor}
use Rattle.bits.specs.Order.{list_from, digits}
use Rattle.bits.proofs.Additive.{Additive, agree-test, shift-right, shift-left, both, after}
use Rattle.bits.proofs.Tests.{every}
use Rattle.polynomial.specs.Polynomial.{scale, times_x, times_power}
use Rattle.polynomial.specs.Remainder.{next, remainder_from}
use Rattle.polynomial.proofs.Polynomial.{times_power-xor, times_power-zero}
use Rattle.polynomial.proofs.Remainder.{from-none, from-digits}
use Rattle.polynomial.proofs.Digits.{from-zeros, from-apart}
use Rattle.polynomial.proofs.Quotient.{shifts, downs, ups, rounds, left_over, divides, of_word}

-- what the 64 bits of a sum leave
abbrev pub crc3_of : ℕ → ℕ
crc3_of sum = remainder_from 3 3 0 (digits 64 sum)

-- no word's sum
pub sum-none : (f : ℕ → ℕ) (from : ℕ) → crc3_of 0 ≡ remainder_from 3 3 0 (list_from f from 0)
sum-none f from = from-zeros 3 3 64 0 ∙ times_power-zero 3 3 64 ∙ sym (from-none 3 3 0 f from)

-- ---- a word more

-- a sum times x, after its bit 63, which is x^63, went to bit 0
unfoldable turned : ℕ → ℕ
turned sum = bit_xor sum (sum / 2 ^ 63) * 2 % 2 ^ 64

turned-additive : Additive turned
unfolding turned
turned-additive = after (λ a. a * 2 % 2 ^ 64) (λ a. bit_xor a (a / 2 ^ 63)) (shift-left 1 64) (both (λ a. a) (λ a. a / 2 ^ 63) (λ a b. refl) (shift-right 63))

turned-test : T (every (λ i. eqb (crc3_of (turned (2 ^ i))) (times_power 3 3 64 (crc3_of (2 ^ i)))) 64)
unfolding every turned times_power remainder_from digits next scale times_x
turned-test = tt

turned-word : (sum : ℕ) → sum < 2 ^ 64 → crc3_of (turned sum) ≡ times_power 3 3 64 (crc3_of sum)
turned-word =
    agree-test (λ a. crc3_of (turned a)) (λ a. times_power 3 3 64 (crc3_of a))
    (after crc3_of turned (from-digits 3 3 64 0 0) turned-additive) (after (times_power 3 3 64) crc3_of (times_power-xor 3 3 64) (from-digits 3 3 64 0 0)) 64 turned-test

-- as the code writes it out
pub sum-next : (sum word : ℕ) → sum < 2 ^ 64 → crc3_of (bit_xor (bit_xor sum (sum / 2 ^ 63) * 2 % 2 ^ 64) word) ≡ remainder_from 3 3 (crc3_of sum) (digits 64 word)
unfolding turned
sum-next sum word h =
    from-digits 3 3 64 0 0 (turned sum) word
    ∙ ap (λ (x : ℕ). bit_xor x (crc3_of word)) (turned-word sum h)
    ∙ sym (from-apart 3 3 64 (crc3_of sum) word)

-- ---- what the sum leaves

-- the quotient's shifts, and the polynomial's lower terms
abbrev down : List (List ℕ)
down = (2 ∷ 3 ∷ []) ∷ (4 ∷ 6 ∷ []) ∷ (8 ∷ 12 ∷ []) ∷ (16 ∷ 24 ∷ []) ∷ (32 ∷ 48 ∷ []) ∷ []

abbrev up : List ℕ
up = 1 ∷ []

crc3-test : T (divides 3 down up 3)
unfolding divides every left_over rounds ups downs shifts remainder_from digits next scale times_x
crc3-test = tt

-- as the code writes it out
pub sum_left : (sum : ℕ) → sum < 2 ^ 64
    → let q1 = bit_xor (bit_xor sum (sum / 2 ^ 2)) (sum / 2 ^ 3) in
    let q2 = bit_xor (bit_xor q1 (q1 / 2 ^ 4)) (q1 / 2 ^ 6) in
    let q4 = bit_xor (bit_xor q2 (q2 / 2 ^ 8)) (q2 / 2 ^ 12) in
    let q8 = bit_xor (bit_xor q4 (q4 / 2 ^ 16)) (q4 / 2 ^ 24) in
    let q16 = bit_xor (bit_xor q8 (q8 / 2 ^ 32)) (q8 / 2 ^ 48) in
    bit_xor q16 (q16 * 2 ^ 1 % 2 ^ 64) % 2 ^ 3 ≡ crc3_of sum
unfolding left_over rounds ups downs shifts
sum_left = of_word 3 down up 3 crc3-test
