-- The FEC remainder 64 bits at once by shifts, and any remainder word by word. Assumes nothing.
use mathlib.Core.Path.{◌≡◌, refl, sym, ap, ap₂, ◌∙◌}
use mathlib.Core.List.{List, [], ◌∷◌, map}
use Prim.Native.Nat.{ℕ, ◌+◌, ◌-◌, ◌*◌, ◌/◌, ◌%◌, ◌^◌, ◌<◌}
use native.Mathlib.Nat.{zero-add, le_refl}
use native.Mathlib.Omega.{arith}
use lib.ListN.{length, get_or, drop}
use lib.Dec.{T, lit<, lit≤}
use lib.Pow.{shl_exact}
use lib.Bits.{bit_xor, xor_lt}
use Rattle.std.proofs.lemmas.List.{get_or-map, map-id}
use Rattle.bits.specs.Order.{bit_at, bits_of, list_from, number, digits, word_bit, octets_in}
use Rattle.bits.proofs.Lists.{list-append, digits_number, digits_low, from_start}
use Rattle.bits.proofs.Octets.{bits-drop}
use Rattle.bits.proofs.WordLists.{word_bit-lt, number_low, bits_of-octets_in}
use Rattle.bits.proofs.Tests.{every}
use Rattle.polynomial.specs.Polynomial.{scale, times_x}
use Rattle.polynomial.specs.Remainder.{next, remainder_from, remainder}
use Rattle.polynomial.proofs.Remainder.{from-append}
use Rattle.polynomial.proofs.Digits.{laid-over}
use Rattle.polynomial.proofs.Quotient.{shifts, downs, ups, rounds, left_over, divides, of_word}

-- ---- FEC

-- the quotient's shifts, and the polynomial's lower terms
abbrev down : List (List ℕ)
down = (5 ∷ 9 ∷ 17 ∷ 22 ∷ 26 ∷ []) ∷ (10 ∷ 18 ∷ 34 ∷ 44 ∷ 52 ∷ []) ∷ (20 ∷ 36 ∷ []) ∷ (40 ∷ []) ∷ []

abbrev up : List ℕ
up = 4 ∷ 9 ∷ 17 ∷ 21 ∷ []

fec-test : T (divides 26 down up 0x0220211)
unfolding divides every left_over rounds ups downs shifts remainder_from digits next scale times_x
fec-test = tt

-- as the code writes it out, which casts the remainder r so far, and adds it to the word's top
pub left_over_lem : (r word wide : ℕ) → r < 2 ^ 26 → word < 2 ^ 64 → wide ≡ r
    → let q0 = bit_xor word (wide * 2 ^ 38 % 2 ^ 64) in
    let q1 = bit_xor (bit_xor (bit_xor (bit_xor (bit_xor q0 (q0 / 2 ^ 5)) (q0 / 2 ^ 9)) (q0 / 2 ^ 17)) (q0 / 2 ^ 22)) (q0 / 2 ^ 26) in
    let q2 = bit_xor (bit_xor (bit_xor (bit_xor (bit_xor q1 (q1 / 2 ^ 10)) (q1 / 2 ^ 18)) (q1 / 2 ^ 34)) (q1 / 2 ^ 44)) (q1 / 2 ^ 52) in
    let q4 = bit_xor (bit_xor q2 (q2 / 2 ^ 20)) (q2 / 2 ^ 36) in
    let q8 = bit_xor q4 (q4 / 2 ^ 40) in
    bit_xor (bit_xor (bit_xor (bit_xor q8 (q8 * 2 ^ 4 % 2 ^ 64)) (q8 * 2 ^ 9 % 2 ^ 64)) (q8 * 2 ^ 17 % 2 ^ 64)) (q8 * 2 ^ 21 % 2 ^ 64) % 2 ^ 26 ≡ remainder_from 26 0x0220211 r (digits 64 word)
unfolding left_over rounds ups downs shifts
left_over_lem r word wide h l e =
    ap (λ (x : ℕ). left_over 26 down up (bit_xor word x)) (ap (λ (x : ℕ). x * 2 ^ 38 % 2 ^ 64) e ∙ shl_exact 26 38 64 h (lit≤ tt))
    ∙ of_word 26 down up 0x0220211 fec-test (bit_xor word (r * 2 ^ 38)) (xor_lt 64 word (r * 2 ^ 38) l (omega arith))
    ∙ sym (laid-over 26 0x0220211 (lit< tt) 38 r word h)

-- ---- word by word

module _ (w g : ℕ) where
  -- a bits from a place on, and then n more
  before : (f : ℕ → ℕ) (from a n k m : ℕ) → k ≡ from + a → a + n ≡ m
      → remainder_from w g (remainder_from w g 0 (list_from f from a)) (list_from f k n) ≡ remainder_from w g 0 (list_from f from m)
  before f from a n k m p e =
      ap (λ (k : ℕ). remainder_from w g (remainder_from w g 0 (list_from f from a)) (list_from f k n)) p
      ∙ sym (from-append w g 0 (list_from f from a) (list_from f (from + a) n))
      ∙ ap (remainder_from w g 0) (sym (list-append f from a n) ∙ ap (list_from f from) e)

  -- a word more: from a place on, and from the start
  pub word_after : (f : ℕ → ℕ) → ((k : ℕ) → f k < 2) → (from i k s word : ℕ) → k ≡ from + 64 * i → s ≡ remainder_from w g 0 (list_from f from (64 * i)) → word ≡ number f k 64
      → remainder_from w g s (digits 64 word) ≡ remainder_from w g 0 (list_from f from (64 * (i + 1)))
  word_after f d from i k s word at p e =
      ap₂ (remainder_from w g) p (ap (digits 64) e ∙ digits_number f d k 64)
      ∙ before f from (64 * i) 64 k (64 * (i + 1)) at (omega arith)

  pub word_more : (f : ℕ → ℕ) → ((k : ℕ) → f k < 2) → (i k s word : ℕ) → k ≡ 64 * i → s ≡ remainder_from w g 0 (list_from f 0 (64 * i)) → word ≡ number f k 64
      → remainder_from w g s (digits 64 word) ≡ remainder_from w g 0 (list_from f 0 (64 * (i + 1)))
  word_more f d i k s word at = word_after f d 0 i k s word (at ∙ sym (zero-add (64 * i)))

  -- the next block of a list, as a word
  module _ {B : Type 0} (word : B → ℕ) (blocks : List B) where
    pub block_next : (i s : ℕ) (block : B) → i < length blocks → block ≡ get_or blocks i block
        → s ≡ remainder_from w g 0 (list_from (word_bit (map word blocks)) 0 (64 * i))
        → remainder_from w g s (digits 64 (word block)) ≡ remainder_from w g 0 (list_from (word_bit (map word blocks)) 0 (64 * (i + 1)))
    block_next i s block h b p =
        let words = map word blocks in
        let own : word block ≡ get_or words i 0 = ap word b ∙ sym (get_or-map word blocks i block 0 h) in
        sym (ap (remainder_from w g s) (digits_low 64 64 (word block) (le_refl 64)))
        ∙ word_more (word_bit words) (word_bit-lt words) i (64 * i) s (word block % 2 ^ 64) refl p (ap (λ (x : ℕ). x % 2 ^ 64) own ∙ sym (number_low words i))

  -- the words of a list
  module _ (words : List ℕ) where
    pub words-all : remainder w g (list_from (word_bit (map (λ (word : ℕ). word) words)) 0 (64 * length words)) ≡ remainder w g (bits_of (octets_in words))
    words-all =
        ap (λ (l : List ℕ). remainder w g (list_from (word_bit l) 0 (64 * length words))) (map-id words) ∙ ap (remainder w g) (sym (bits_of-octets_in words))

  -- the octets that fill no word
  pub words-rest : (octets rest : List ℕ) (s : ℕ) → rest ≡ drop (length octets / 8 * 8) octets → s ≡ remainder w g (list_from (bit_at octets) 0 (64 * (length octets / 8)))
      → remainder_from w g s (bits_of rest) ≡ remainder w g (bits_of octets)
  unfolding remainder
  words-rest octets rest s e p =
      let count = length octets / 8 in
      ap₂ (λ (r : ℕ) (l : List ℕ). remainder_from w g r (bits_of l)) p e
      ∙ ap (remainder_from w g (remainder_from w g 0 (list_from (bit_at octets) 0 (64 * count)))) (bits-drop (count * 8) octets)
      ∙ before (bit_at octets) 0 (64 * count) (8 * (length octets - count * 8)) (8 * (count * 8)) (8 * (length octets - 0)) (omega arith) (omega arith)
      ∙ ap (remainder_from w g 0) (from_start octets)
