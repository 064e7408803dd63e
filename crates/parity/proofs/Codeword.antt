-- The remainder of data, with the parity received, is the sum of the weights of the codeword's set positions. Octets 0 in front change no parity.
-- Assumes nothing.
use mathlib.Core.Path.{◌≡◌, refl, sym, ap, ap₂, ◌∙◌}
use mathlib.Core.List.{List, ◌∷◌, ◌++◌}
use Prim.Native.Nat.{ℕ, zero, suc, ◌+◌, ◌-◌, ◌*◌, ◌/◌, ◌%◌, ◌^◌, ◌≤◌, ◌<◌}
use native.Mathlib.Nat.{add-zero, zero-add, add-suc, suc-add, le_refl, mod-eq_of_lt, zero-lt-suc}
use native.Mathlib.Omega.{arith}
use lib.ListN.{replicate}
use lib.Pow.{pow_pos, pow-lt}
use lib.Bits.{bit_xor, xor_lt, xor_self, xor_zero_r}
use borrow.Author.Tests.{lt-ltb, le-ltb}
use Rattle.bits.specs.Order.{list_from, number, digits, bits_of}
use Rattle.bits.proofs.Xor.{odd-lt, xor_assoc, xor-swap}
use Rattle.bits.proofs.Numbers.{number-none, number-first, number_lt, number-ext, number-whole}
use Rattle.polynomial.specs.Polynomial.{scale, times_power, power}
use Rattle.polynomial.specs.Remainder.{next, remainder_from, remainder}
use Rattle.polynomial.proofs.Remainder.{from_zero, from-none, from_first, from-digits, next_power}
use Rattle.polynomial.proofs.Register.{first-octet}
use Rattle.polynomial.proofs.Polynomial.{scale-xor, scale-above, scale-lt, times_power-none, times_power-zero, times_power-lt, power-low}
use Rattle.parity.specs.Codeword.{Code, parity_of, weight, codeword, weighed, remainder_of}

module _ (C : Code) where
  -- the same positions set, the same sum
  pub weighed-ext : (f h : ℕ → ℕ) (p n : ℕ) → ((j : ℕ) → j < n → f (p + j) ≡ h (p + j)) → weighed C f p n ≡ weighed C h p n
  unfolding weighed
  weighed-ext f h p zero e = refl
  weighed-ext f h p (suc n) e =
      ap₂ (λ (x y : ℕ). bit_xor (scale x (weight C p)) y)
      (ap f (sym (add-zero p)) ∙ e 0 (zero-lt-suc n) ∙ ap h (add-zero p))
      (weighed-ext f h (suc p) n (λ j l. ap f (suc-add p j ∙ sym (add-suc p j)) ∙ e (suc j) (omega arith) ∙ ap h (add-suc p j ∙ sym (suc-add p j))))

  pub weighed-append : (f : ℕ → ℕ) (p m n : ℕ) → weighed C f p (m + n) ≡ bit_xor (weighed C f p m) (weighed C f (p + m) n)
  unfolding weighed
  weighed-append f p zero n = ap₂ (weighed C f) (sym (add-zero p)) (zero-add n)
  weighed-append f p (suc m) n =
      ap (weighed C f p) (suc-add m n)
      ∙ ap (bit_xor (scale (f p) (weight C p))) (weighed-append f (suc p) m n ∙ ap (λ (q : ℕ). bit_xor (weighed C f (suc p) m) (weighed C f q n)) (suc-add p m ∙ sym (add-suc p m)))
      ∙ sym (xor_assoc (scale (f p) (weight C p)) (weighed C f (suc p) m) (weighed C f (p + suc m) n))

  -- the sum of two sets of positions is the sum of their remainders
  pub weighed-xor : (f h : ℕ → ℕ) (p n : ℕ) → weighed C (λ q. bit_xor (f q) (h q)) p n ≡ bit_xor (weighed C f p n) (weighed C h p n)
  unfolding weighed
  weighed-xor f h p zero = refl
  weighed-xor f h p (suc n) =
      ap₂ bit_xor (scale-xor (f p) (h p) (weight C p)) (weighed-xor f h (suc p) n)
      ∙ xor-swap (scale (f p) (weight C p)) (scale (h p) (weight C p)) (weighed C f (suc p) n) (weighed C h (suc p) n)

  -- no sum outgrows the width
  pub weighed-lt : 0 < C.width → C.lower < 2 ^ C.width → (f : ℕ → ℕ) (p n : ℕ) → weighed C f p n < 2 ^ C.width
  unfolding weighed weight
  weighed-lt some fits f p zero = pow_pos C.width
  weighed-lt some fits f p (suc n) =
      xor_lt C.width (scale (f p) (weight C p)) (weighed C f (suc p) n)
      (scale-lt C.width (f p) (weight C p) (times_power-lt C.width C.lower (C.positions - 1 - p) 1 fits (pow-lt some)))
      (weighed-lt some fits f (suc p) n)

  module _ (some : 0 < C.width) where
    abbrev w : ℕ
    w = C.width

    abbrev g : ℕ
    g = C.lower

    -- one bit with n positions of data after it
    bit-weighed : (p n r b : ℕ) → p + suc n + w ≡ C.positions → times_power w g n (next w g r b) ≡ bit_xor (times_power w g (suc n) r) (scale b (weight C p))
    unfolding weight
    bit-weighed p n r b e =
        let place : w + n ≡ C.positions - 1 - p = omega arith in
        next_power w g some n r b ∙ ap (λ (k : ℕ). bit_xor (times_power w g (suc n) r) (scale b (power w g k))) place

    -- data: n positions with the parity's after them
    from-weighed : (f : ℕ → ℕ) (p n r : ℕ) → p + n + w ≡ C.positions → remainder_from w g r (list_from f p n) ≡ bit_xor (times_power w g n r) (weighed C f p n)
    unfolding weighed
    from-weighed f p zero r e = from-none w g r f p ∙ sym (times_power-none w g r) ∙ sym (xor_zero_r (times_power w g 0 r))
    from-weighed f p (suc n) r e =
        from_first w g r f p n
        ∙ from-weighed f (suc p) n (next w g r (f p)) (omega arith)
        ∙ ap (λ (x : ℕ). bit_xor x (weighed C f (suc p) n)) (bit-weighed p n r (f p) e)
        ∙ xor_assoc (times_power w g (suc n) r) (scale (f p) (weight C p)) (weighed C f (suc p) n)

    pub remainder-weighed : (f : ℕ → ℕ) (n : ℕ) → n + w ≡ C.positions → remainder w g (list_from f 0 n) ≡ weighed C f 0 n
    remainder-weighed f n e =
        sym (from_zero w g (list_from f 0 n))
        ∙ from-weighed f 0 n 0 (ap (λ (x : ℕ). x + w) (zero-add n) ∙ e) ∙ ap (λ (x : ℕ). bit_xor x (weighed C f 0 n)) (times_power-zero w g n)

    -- parity: at most w positions, the last ones, weigh as the digits of a number
    pub weighed-number : (f : ℕ → ℕ) → ((k : ℕ) → f k < 2) → (p n : ℕ) → p + n ≡ C.positions → n ≤ w → weighed C f p n ≡ number f p n
    unfolding weighed weight
    weighed-number f d p zero e h = number-none f p
    weighed-number f d p (suc n) e h =
        let place : C.positions - 1 - p ≡ n = omega arith in
        ap₂ (λ (x y : ℕ). bit_xor (scale (f p) x) y) (ap (power w g) place ∙ power-low w g n h) (weighed-number f d (suc p) n (omega arith) (omega arith))
        ∙ scale-above (f p) n (number f (suc p) n) (number_lt f d (suc p) n)
        ∙ ap (λ (x : ℕ). x * 2 ^ n + number f (suc p) n) (mod-eq_of_lt (d p))
        ∙ sym (number-first f p n)

    module _ (f : ℕ → ℕ) (parity : ℕ) (room : w ≤ C.positions) where
      pub data-part : (p : ℕ) → p < C.positions - w → codeword C f parity p ≡ f p
      unfolding codeword
      data-part p h = rw (lt-ltb p (C.positions - w) h)

      pub parity-part : (p : ℕ) → C.positions - w ≤ p → codeword C f parity p ≡ parity / 2 ^ (C.positions - 1 - p) % 2
      unfolding codeword
      parity-part p h = rw (le-ltb p (C.positions - w) h)

      parity-number : parity < 2 ^ w → number (λ p. parity / 2 ^ (C.positions - 1 - p) % 2) (C.positions - w) w ≡ parity
      parity-number h =
          number-ext (λ p. parity / 2 ^ (C.positions - 1 - p) % 2) (λ j. parity / 2 ^ (w - 1 - j) % 2) (C.positions - w) 0 w
          (λ j l. ap (λ (x : ℕ). parity / 2 ^ x % 2) {x = C.positions - 1 - (C.positions - w + j)} {y = w - 1 - (0 + j)} (omega arith))
          ∙ number-whole w parity
          ∙ mod-eq_of_lt h

      -- the remainder with the received parity is the codeword's
      pub received : parity < 2 ^ w → bit_xor (remainder w g (list_from f 0 (C.positions - w))) parity ≡ remainder_of C (codeword C f parity)
      unfolding remainder_of
      received h =
          let n = C.positions - w in
          let digit : ℕ → ℕ = λ p. parity / 2 ^ (C.positions - 1 - p) % 2 in
          ap₂ bit_xor
          (remainder-weighed f n (omega arith) ∙ weighed-ext f (codeword C f parity) 0 n (λ j l. sym (data-part (0 + j) (omega arith))))
          (sym (parity-number h)
          ∙ sym (weighed-number digit (λ k. odd-lt (parity / 2 ^ (C.positions - 1 - k))) n w (omega arith) (le_refl w))
          ∙ weighed-ext digit (codeword C f parity) n w (λ j l. sym (parity-part (n + j) (omega arith)))
          ∙ ap (λ (x : ℕ). weighed C (codeword C f parity) x w) (sym (zero-add n)))
          ∙ sym (weighed-append (codeword C f parity) 0 n w)
          ∙ ap (weighed C (codeword C f parity) 0) {x = n + w} {y = C.positions} (omega arith)

-- ---- octets 0 in front don't change a parity

-- an octet 0 in front leaves a zero start as it is
leading-zero : (C : Code) (octets : List ℕ) → parity_of C (0 ∷ octets) ≡ parity_of C octets
unfolding parity_of
leading-zero C octets =
    let w = C.width in
    let g = C.lower in
    sym (from_zero w g (bits_of (0 ∷ octets)))
    ∙ first-octet w g 0 0 octets
    ∙ ap (λ (s : ℕ). remainder_from w g s (bits_of octets)) (from-digits w g 8 0 0 0 0 ∙ xor_self (remainder_from w g 0 (digits 8 0)))
    ∙ from_zero w g (bits_of octets)

pub leading_zeros : (C : Code) (n : ℕ) (octets : List ℕ) → parity_of C (replicate n 0 ++ octets) ≡ parity_of C octets
leading_zeros C zero octets = refl
leading_zeros C (suc n) octets = leading-zero C (replicate n 0 ++ octets) ∙ leading_zeros C n octets
