-- What a word leaves when it is divided by shifts, once over width, polynomial and shifts: the quotient by shifts down, round after round, and the
-- quotient times the polynomial's lower part by shifts up. Assumes nothing.
use mathlib.Core.Path.{◌≡◌, refl, ap, ◌∙◌}
use mathlib.Core.Bool.{Bool}
use mathlib.Core.List.{List, [], ◌∷◌}
use Prim.Native.Nat.{ℕ, ◌*◌, ◌/◌, ◌%◌, ◌^◌, ◌<◌}
use lib.Dec.{T, eqb}
use lib.Bits.{bit_xor}
use Rattle.bits.specs.Order.{digits}
use Rattle.bits.proofs.Xor.{xor-swap}
use Rattle.bits.proofs.Additive.{Additive, agree-test, shift-right, shift-left, low_bits, after}
use Rattle.bits.proofs.Tests.{every}
use Rattle.polynomial.specs.Remainder.{remainder_from}
use Rattle.polynomial.proofs.Remainder.{from-digits}

-- ---- sums of shifts

-- s, and x shifted by each of some numbers of places
unfoldable pub shifts : (ℕ → ℕ → ℕ) → List ℕ → ℕ → ℕ → ℕ
shifts shift [] s x = s
shifts shift (k ∷ ks) s x = shifts shift ks (bit_xor s (shift k x)) x

shifts-xor : (shift : ℕ → ℕ → ℕ) → ((k : ℕ) → Additive (shift k)) → (ks : List ℕ) (s t x y : ℕ)
    → shifts shift ks (bit_xor s t) (bit_xor x y) ≡ bit_xor (shifts shift ks s x) (shifts shift ks t y)
unfolding shifts
shifts-xor shift h [] s t x y = refl
shifts-xor shift h (k ∷ ks) s t x y =
    ap (λ (z : ℕ). shifts shift ks z (bit_xor x y)) (ap (bit_xor (bit_xor s t)) (h k x y) ∙ xor-swap s t (shift k x) (shift k y))
    ∙ shifts-xor shift h ks (bit_xor s (shift k x)) (bit_xor t (shift k y)) x y

-- x, and x shifted down
unfoldable pub downs : List ℕ → ℕ → ℕ
downs ks x = shifts (λ k y. y / 2 ^ k) ks x x

-- x, and x shifted up in 64 bits
unfoldable pub ups : List ℕ → ℕ → ℕ
ups ks x = shifts (λ k y. y * 2 ^ k % 2 ^ 64) ks x x

-- shifts down again and again
unfoldable pub rounds : List (List ℕ) → ℕ → ℕ
rounds [] x = x
rounds (ks ∷ kss) x = rounds kss (downs ks x)

ups-additive : (ks : List ℕ) → Additive (ups ks)
unfolding ups
ups-additive ks a b = shifts-xor (λ k y. y * 2 ^ k % 2 ^ 64) (λ k. shift-left k 64) ks a b a b

rounds-additive : (kss : List (List ℕ)) → Additive (rounds kss)
unfolding rounds downs
rounds-additive [] a b = refl
rounds-additive (ks ∷ kss) a b =
    ap (rounds kss) (shifts-xor (λ k y. y / 2 ^ k) shift-right ks a b a b) ∙ rounds-additive kss (downs ks a) (downs ks b)

-- ---- a word

module _ (w : ℕ) (down : List (List ℕ)) (up : List ℕ) where
  -- what the division of the word times x^w leaves
  unfoldable pub left_over : ℕ → ℕ
  left_over x = ups up (rounds down x) % 2 ^ w

  left_over-additive : Additive left_over
  unfolding left_over
  left_over-additive = after (λ a. a % 2 ^ w) (λ x. ups up (rounds down x)) (low_bits w) (after (ups up) (rounds down) (ups-additive up) (rounds-additive down))

  module _ (g : ℕ) where
    -- the shifts are those of x^w + g at each single bit
    unfoldable pub divides : Bool
    divides = every (λ i. eqb (left_over (2 ^ i)) (remainder_from w g 0 (digits 64 (2 ^ i)))) 64

    -- and so at every word
    pub of_word : T divides → (word : ℕ) → word < 2 ^ 64 → left_over word ≡ remainder_from w g 0 (digits 64 word)
    unfolding divides
    of_word = agree-test left_over (λ x. remainder_from w g 0 (digits 64 x)) left_over-additive (from-digits w g 64 0 0) 64
