-- What the crates above use of codewords: data bits and then parity bits, whose remainder is what the parity of a group and the parity
-- received differ by, and which adds up. Over any code. Assumes nothing.
use mathlib.Core.Path.{◌≡◌, sym, ap, ◌∙◌}
use mathlib.Core.List.{List}
use Prim.Native.Nat.{ℕ, ◌+◌, ◌-◌, ◌*◌, ◌/◌, ◌%◌, ◌^◌, ◌≤◌, ◌<◌}
use native.Mathlib.Nat.{zero-add}
use native.Mathlib.Omega.{arith}
use lib.Bits.{bit_xor, xor_self}
use Rattle.bits.specs.Order.{list_from}
use Rattle.bits.proofs.Lists.{list_ext}
use Rattle.polynomial.specs.Remainder.{remainder}
use Rattle.parity.specs.Codeword.{Code, data_bits, group_parity, codeword, remainder_of}
use Rattle.parity.proofs.Codeword.{data-part, parity-part, received, weighed-xor, weighed-ext}
use Rattle.parity.proofs.Bursts.{Proper}

module _ (C : Code) where
  pub remainder-xor : (f h : ℕ → ℕ) → remainder_of C (λ p. bit_xor (f p) (h p)) ≡ bit_xor (remainder_of C f) (remainder_of C h)
  unfolding remainder_of
  remainder-xor f h = weighed-xor C f h 0 C.positions

  pub remainder-within : (f h : ℕ → ℕ) → ((p : ℕ) → p < C.positions → f p ≡ h p) → remainder_of C f ≡ remainder_of C h
  unfolding remainder_of
  remainder-within f h e = weighed-ext C f h 0 C.positions (λ j l. e (0 + j) (omega arith))

  -- no position set
  pub remainder-none : (f : ℕ → ℕ) → ((p : ℕ) → f p ≡ 0) → remainder_of C f ≡ 0
  remainder-none f z =
      remainder-within f (λ p. bit_xor (f p) (f p)) (λ p _. z p ∙ sym (xor_self (f p)))
      ∙ remainder-xor f f
      ∙ xor_self (remainder_of C f)

module _ (C : Code) (proper : Proper C) (f : ℕ → ℕ) (parity : ℕ) where
  room : C.width ≤ C.positions
  room = omega (arith, proper.long)

  pub word-data : (p : ℕ) → p < data_bits C → codeword C f parity p ≡ f p
  word-data p h = data-part C proper.some f parity room p (omega (arith, proper.long))

  pub word-parity : (r : ℕ) → codeword C f parity (data_bits C + r) ≡ parity / 2 ^ (C.width - 1 - r) % 2
  word-parity r =
      parity-part C proper.some f parity room (data_bits C + r) (omega (arith, proper.long))
      ∙ ap (λ (x : ℕ). parity / 2 ^ x % 2) {x = C.positions - 1 - (data_bits C + r)} {y = C.width - 1 - r} (omega (arith, proper.long))

-- a group of data bits with a parity received
pub received-group : (C : Code) → Proper C → («data» : ℕ → ℕ) (g parity : ℕ) → parity < 2 ^ C.width
    → bit_xor (group_parity C «data» g) parity ≡ remainder_of C (codeword C (λ p. «data» (data_bits C * g + p)) parity)
unfolding group_parity
received-group C proper bits g parity h =
    ap (λ (l : List ℕ). bit_xor (remainder C.width C.lower l) parity)
    (list_ext bits (λ p. bits (data_bits C * g + p)) (data_bits C * g) 0 (data_bits C) (λ j l. ap (λ (x : ℕ). bits (data_bits C * g + x)) (sym (zero-add j)))
    ∙ ap (list_from (λ p. bits (data_bits C * g + p)) 0) {x = data_bits C} {y = C.positions - C.width} (omega (arith, proper.long)))
    ∙ received C proper.some (λ p. bits (data_bits C * g + p)) parity (omega (arith, proper.long)) h
