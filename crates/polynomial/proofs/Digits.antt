-- The remainder of a number's digits, once over width and polynomial: cut in two, all zeros, at most as many as the width, and what was there
-- before laid over their top. Assumes nothing.
use mathlib.Core.Path.{◌≡◌, sym, ap, ap₂, ◌∙◌}
use Prim.Native.Nat.{ℕ, zero, suc, ◌+◌, ◌*◌, ◌/◌, ◌%◌, ◌^◌, ◌≤◌, ◌<◌}
use native.Mathlib.Nat.{zero-add, suc-add, add_comm, zero-div, mod-one, mod-lt, mod-mod, mod-eq_of_lt, mul-mod_left, le_refl}
use native.Mathlib.Numerals.{one-add}
use native.Mathlib.Omega.{arith}
use lib.Pow.{pow_pos, shr-shr, shl-shr, mod-pow-add}
use lib.Bits.{bit_xor, xor_comm, xor_zero_l, xor_zero_r}
use Rattle.bits.specs.Order.{digits}
use Rattle.bits.proofs.Lists.{digits_low}
use Rattle.polynomial.specs.Polynomial.{scale, times_x, times_power, power}
use Rattle.polynomial.specs.Remainder.{next, remainder_from}
use Rattle.polynomial.proofs.Polynomial.{scale-zero, scale-above, times_power-none, times_power-xor, times_power-zero, times_power-scale, times_power-add, times_power-in, power-low}
use Rattle.polynomial.proofs.Remainder.{no_digit, first-digit, from-digits, next_power}

module _ (w g : ℕ) where
  -- the first a digits, and then the n others
  from_cut : (a n r v : ℕ) → remainder_from w g r (digits (a + n) v) ≡ remainder_from w g (remainder_from w g r (digits a (v / 2 ^ n))) (digits n v)
  from_cut zero n r v =
      ap₂ (λ (k s : ℕ). remainder_from w g s (digits k v)) (zero-add n) (sym (no_digit w g r (v / 2 ^ n)))
  from_cut (suc a) n r v =
      ap (λ (k : ℕ). remainder_from w g r (digits k v)) (suc-add a n)
      ∙ first-digit w g r (a + n) v
      ∙ ap (λ (x : ℕ). remainder_from w g (next w g r (x % 2)) (digits (a + n) v)) (ap (λ (k : ℕ). v / 2 ^ k) (add_comm a n) ∙ sym (shr-shr v n a))
      ∙ from_cut a n (next w g r (v / 2 ^ n / 2 ^ a % 2)) v
      ∙ ap (λ (s : ℕ). remainder_from w g s (digits n v)) (sym (first-digit w g r a (v / 2 ^ n)))

  -- n zeros
  next-zero : (r n : ℕ) → next w g r (0 / 2 ^ n % 2) ≡ times_x w g r
  unfolding next
  next-zero r n =
      ap (λ (b : ℕ). bit_xor (scale (b % 2) g) (times_x w g r)) (zero-div (2 ^ n))
      ∙ ap (λ (x : ℕ). bit_xor x (times_x w g r)) (scale-zero g)

  pub from-zeros : (n r : ℕ) → remainder_from w g r (digits n 0) ≡ times_power w g n r
  from-zeros zero r = no_digit w g r 0 ∙ sym (times_power-none w g r)
  from-zeros (suc n) r =
      first-digit w g r n 0
      ∙ ap (λ (s : ℕ). remainder_from w g s (digits n 0)) (next-zero r n)
      ∙ from-zeros n (times_x w g r)
      ∙ times_power-in w g n r

  -- what was there before, moved on, and the digits by themselves
  pub from-apart : (n r v : ℕ) → remainder_from w g r (digits n v) ≡ bit_xor (times_power w g n r) (remainder_from w g 0 (digits n v))
  from-apart n r v =
      ap (λ (s : ℕ). remainder_from w g s (digits n v)) (sym (xor_zero_r r))
      ∙ from-digits w g n r 0 0 v
      ∙ ap (λ (x : ℕ). bit_xor x (remainder_from w g 0 (digits n v))) (from-zeros n r)

  -- both at once: the first a digits by themselves, moved on by the n others
  pub from_parts : (a n v : ℕ) → remainder_from w g 0 (digits (a + n) v) ≡ bit_xor (times_power w g n (remainder_from w g 0 (digits a (v / 2 ^ n)))) (remainder_from w g 0 (digits n v))
  from_parts a n v = from_cut a n 0 v ∙ from-apart n (remainder_from w g 0 (digits a (v / 2 ^ n))) v

  -- a digit above n digits
  one_more : (n v : ℕ) → bit_xor (scale (v / 2 ^ n % 2) (2 ^ n)) (v % 2 ^ n) ≡ v % 2 ^ suc n
  one_more n v =
      scale-above (v / 2 ^ n % 2) n (v % 2 ^ n) (mod-lt v (pow_pos n))
      ∙ ap (λ (x : ℕ). x * 2 ^ n + v % 2 ^ n) (mod-mod (v / 2 ^ n) 2)
      ∙ sym (ap (λ (k : ℕ). v % 2 ^ k) (sym (one-add n)) ∙ mod-pow-add v 1 n)

  module _ (some : 0 < w) where
    -- at most w digits are the number itself, times x^w
    few-digits : (n v : ℕ) → n ≤ w → remainder_from w g 0 (digits n v) ≡ times_power w g w (v % 2 ^ n)
    few-digits zero v h = no_digit w g 0 v ∙ sym (times_power-zero w g w) ∙ ap (times_power w g w) (sym (mod-one v))
    few-digits (suc n) v h =
        let b = v / 2 ^ n % 2 in
        let weight : power w g (w + n) ≡ times_power w g w (2 ^ n) =
        ap (power w g) (add_comm w n) ∙ times_power-add w g n w 1 ∙ ap (times_power w g w) (power-low w g n h) in
        let top : times_power w g n (next w g 0 b) ≡ times_power w g w (scale b (2 ^ n)) =
        next_power w g some n 0 b
        ∙ ap₂ bit_xor (times_power-zero w g (suc n)) (ap (scale b) weight ∙ sym (times_power-scale w g w b (2 ^ n)))
        ∙ xor_zero_l (times_power w g w (scale b (2 ^ n))) in
        first-digit w g 0 n v
        ∙ from-apart n (next w g 0 b) v
        ∙ ap₂ bit_xor top (few-digits n v (omega arith))
        ∙ sym (times_power-xor w g w (scale b (2 ^ n)) (v % 2 ^ n))
        ∙ ap (times_power w g w) (one_more n v)

    -- as many digits as the width and n more, of a remainder at their top
    top_digits : (n r : ℕ) → r < 2 ^ w → remainder_from w g 0 (digits (w + n) (r * 2 ^ n)) ≡ times_power w g (w + n) r
    top_digits n r h =
        let own : remainder_from w g 0 (digits w (r * 2 ^ n / 2 ^ n)) ≡ times_power w g w r =
        ap (λ (v : ℕ). remainder_from w g 0 (digits w v)) (shl-shr r n) ∙ few-digits w r (le_refl w) ∙ ap (times_power w g w) (mod-eq_of_lt h) in
        let zeros : digits n (r * 2 ^ n) ≡ digits n 0 =
        sym (digits_low n n (r * 2 ^ n) (le_refl n)) ∙ ap (digits n) (mul-mod_left r (2 ^ n)) in
        from_cut w n 0 (r * 2 ^ n)
        ∙ ap₂ (remainder_from w g) own zeros
        ∙ from-zeros n (times_power w g w r)
        ∙ sym (times_power-add w g w n r)

    -- what was there before may as well be laid over the top
    pub laid-over : (n r v : ℕ) → r < 2 ^ w → remainder_from w g r (digits (w + n) v) ≡ remainder_from w g 0 (digits (w + n) (bit_xor v (r * 2 ^ n)))
    laid-over n r v h =
        from-apart (w + n) r v
        ∙ xor_comm (times_power w g (w + n) r) (remainder_from w g 0 (digits (w + n) v))
        ∙ ap (bit_xor (remainder_from w g 0 (digits (w + n) v))) (sym (top_digits n r h))
        ∙ sym (from-digits w g (w + n) 0 0 v (r * 2 ^ n))
