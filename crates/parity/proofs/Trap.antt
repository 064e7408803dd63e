-- Error trapping under the Fire code: the trap for a place is the remainder times x^(place - 2065). For place 0 it is a sum over the remainder's
-- bits, and for each next place it is x times what it was. A burst that begins at the place stands in it, turned round; past place 2065 the burst
-- stands in the remainder itself. And the sum of a burst's weights, bit by bit. Document 01, "What the receiver releases". Assumes nothing.
use mathlib.Core.Path.{◌≡◌, refl, sym, ap, ap₂, ◌∙◌, subst}
use mathlib.Core.List.{List}
use Prim.Native.Nat.{ℕ, zero, suc, ◌+◌, ◌-◌, ◌*◌, ◌/◌, ◌%◌, ◌^◌, ◌≤◌, ◌<◌}
use native.Mathlib.Nat.{one-mul, zero-add, mod-one, mod-lt, lt_of_lt_of_le, pow-suc}
use native.Mathlib.Numerals.{add-one, one-add}
use native.Mathlib.Omega.{arith}
use lib.ListN.{get_or}
use lib.Arith.{lt-one, digits_div}
use lib.Dec.{lit<, lit≤}
use lib.Pow.{pow_pos, mod-pow-add, shr-shr}
use lib.Bits.{bit_xor, bit_and, and_mask, xor_lt, xor_comm, xor_zero_r}
use Rattle.bits.specs.Order.{list_from}
use Rattle.bits.proofs.Lists.{get_or-list}
use Rattle.bits.proofs.Xor.{bit-cases, odd-lt, xor_assoc}
use Rattle.polynomial.specs.Polynomial.{scale, times_x, times_power}
use Rattle.polynomial.proofs.Polynomial.{half_lt, scale-zero, scale_one, scale-mod, scale-and, scale-above, scale-lt, times_x-lt, times_power-none, times_power-suc, times_power-xor, times_power-zero, times_power-scale, times_power-in, times_power-injective, power-low}
use Rattle.parity.specs.Codeword.{fec, weight}
use Rattle.parity.specs.Answer.{Explains}
use Rattle.parity.proofs.Bursts.{fec-proper, starts, pattern_sum, mirror, early, late-high, late-lt, nine-bits}

-- ---- x^-2065

-- x^n times r, from within, so that the checker computes it
ahead : ℕ → ℕ → ℕ
ahead zero r = r
ahead (suc n) r = ahead n (times_x 26 0x0220211 r)

ahead-is : (n r : ℕ) → ahead n r ≡ times_power 26 0x0220211 n r
unfolding ahead
ahead-is zero r = sym (times_power-none 26 0x0220211 r)
ahead-is (suc n) r = ahead-is n (times_x 26 0x0220211 r) ∙ times_power-in 26 0x0220211 n r

ahead-back : ahead 2065 64619501 ≡ 1
unfolding ahead times_x scale
ahead-back = refl

back : times_power 26 0x0220211 2065 64619501 ≡ 1
back = sym (ahead-is 2065 64619501) ∙ ahead-back

-- ---- the trap for place 0

-- the sum over the k low bits of the remainder s, and x^(k - 2065) for the next
pub record Gathered (s k trap power : ℕ) : Type 0 where
  pub trap-lt : trap < 2 ^ 26
  pub power-lt : power < 2 ^ 26
  pub next : times_power 26 0x0220211 2065 power ≡ times_power 26 0x0220211 k 1
  pub sum : times_power 26 0x0220211 2065 trap ≡ s % 2 ^ k

pub gather_none : (s : ℕ) → Gathered s 0 0 64619501
gather_none s =
    record {
      trap-lt = lit< tt;
      power-lt = lit< tt;
      next = back ∙ sym (times_power-none 26 0x0220211 1);
      sum = times_power-zero 26 0x0220211 2065 ∙ sym (mod-one s);
    }

module _ (s k trap power : ℕ) (l : k < 26) (g : Gathered s k trap power) where
  sum_more : times_power 26 0x0220211 2065 (bit_xor trap (scale (s / 2 ^ k) power)) ≡ s % 2 ^ (1 + k)
  sum_more =
      times_power-xor 26 0x0220211 2065 trap (scale (s / 2 ^ k) power)
      ∙ ap₂ bit_xor g.sum
      (times_power-scale 26 0x0220211 2065 (s / 2 ^ k) power ∙ ap (scale (s / 2 ^ k)) (g.next ∙ power-low 26 0x0220211 k l))
      ∙ xor_comm (s % 2 ^ k) (scale (s / 2 ^ k) (2 ^ k))
      ∙ scale-above (s / 2 ^ k) k (s % 2 ^ k) (mod-lt s (pow_pos k))
      ∙ sym (mod-pow-add s 1 k)

  pub gather-more : Gathered s (k + 1) (bit_xor trap (bit_and (s / 2 ^ k) 1 * power)) (times_x 26 0x0220211 power)
  gather-more =
      record {
        trap-lt = rw (scale-and (s / 2 ^ k) power) (xor_lt 26 trap (scale (s / 2 ^ k) power) g.trap-lt (scale-lt 26 (s / 2 ^ k) power g.power-lt));
        power-lt = times_x-lt 26 0x0220211 power fec-proper.fits;
        next =
            times_power-in 26 0x0220211 2065 power
            ∙ times_power-suc 26 0x0220211 2065 power
            ∙ ap (times_x 26 0x0220211) g.next
            ∙ sym (times_power-suc 26 0x0220211 k 1)
            ∙ ap (λ (n : ℕ). times_power 26 0x0220211 n 1) (sym (add-one k));
        sum =
            ap (λ (x : ℕ). times_power 26 0x0220211 2065 (bit_xor trap x)) (scale-and (s / 2 ^ k) power)
            ∙ sum_more ∙ ap (λ (n : ℕ). s % 2 ^ n) (one-add k ∙ sym (add-one k));
      }

-- ---- the trap for the next place

pub trap-next : (s place trap : ℕ) → (place ≤ 2065 → times_power 26 0x0220211 (2065 - place) trap ≡ s)
    → place + 1 ≤ 2065 → times_power 26 0x0220211 (2065 - (place + 1)) (times_x 26 0x0220211 trap) ≡ s
trap-next s place trap t l =
    times_power-in 26 0x0220211 (2065 - (place + 1)) trap
    ∙ ap (λ (n : ℕ). times_power 26 0x0220211 n trap) {x = suc (2065 - (place + 1))} {y = 2065 - place} (omega arith)
    ∙ t (omega arith)

-- ---- a burst in the trap

-- a number whose highest bit is n
top_one : (n s : ℕ) → 2 ^ n ≤ s → s < 2 ^ suc n → s / 2 ^ n ≡ 1
top_one n s l h =
    let twice : 2 ^ suc n ≡ 2 ^ n * 2 = pow-suc 2 n in
    let once : 1 * 2 ^ n ≡ 2 ^ n = one-mul (2 ^ n) in
    ap (λ (x : ℕ). x / 2 ^ n) {x = s} {y = 1 * 2 ^ n + (s - 2 ^ n)} (omega arith) ∙ digits_div 1 (omega arith)

module _ (s place pattern : ℕ) (e : Explains fec s place pattern) where
  -- the pattern turned round is the trap
  pub trap-shows : (trap : ℕ) → trap < 2 ^ 26 → place ≤ 2065 → times_power 26 0x0220211 (2065 - place) trap ≡ s → trap / 2 ^ 8 ≡ 1
  trap-shows trap h l t =
      let bits = nine-bits pattern e.burst.odd in
      let same : trap ≡ mirror 9 pattern =
      times_power-injective 26 0x0220211 fec-proper.some fec-proper.fits fec-proper.odd (2065 - place) trap (mirror 9 pattern)
      h (lt_of_lt_of_le bits.1 (lit≤ tt))
      (t ∙ sym e.makes ∙ early fec 9 place pattern (lit≤ tt) e.burst (omega arith)) in
      ap (λ (x : ℕ). x / 2 ^ 8) same ∙ top_one 8 (mirror 9 pattern) bits.0 bits.1

  -- past place 2065 the weight of the place is the remainder's highest bit
  pub remainder-shows : 2065 < place → s / 2 ^ (2074 - place - 1) ≡ 1
  remainder-shows l =
      let inside : place < 2074 = starts e.burst in
      top_one (2074 - place - 1) s
      (subst (λ (n : ℕ). 2 ^ n ≤ s) {x = 2073 - place} {y = 2074 - place - 1} (omega arith)
      (subst (λ (x : ℕ). 2 ^ (2073 - place) ≤ x) e.makes (late-high fec 9 place pattern (lit≤ tt) e.burst (omega arith))))
      (subst (λ (n : ℕ). s < 2 ^ n) {x = 2074 - place} {y = suc (2074 - place - 1)} (omega arith)
      (subst (λ (x : ℕ). x < 2 ^ (2074 - place)) e.makes (late-lt fec 9 place pattern (lit≤ tt) e.burst (omega arith))))

-- ---- the sum of a burst's weights, as the code takes it: bit by bit

pub weight-at : (weights : List ℕ) (p : ℕ) → weights ≡ list_from (weight fec) 0 2074 → p < 2074 → get_or weights p 0 ≡ weight fec p
weight-at weights p e l = ap (λ (ws : List ℕ). get_or ws p 0) e ∙ get_or-list (weight fec) 0 2074 p l ∙ ap (weight fec) (zero-add p)

-- what is left of a pattern stays inside
pub next-inside : (k place pattern : ℕ) → pattern / 2 ^ k < 2 ^ (2074 - (place + k)) → pattern / 2 ^ (k + 1) < 2 ^ (2074 - (place + (k + 1)))
next-inside k place pattern h =
    subst (λ (x : ℕ). x < 2 ^ (2074 - (place + (k + 1)))) (shr-shr pattern k 1) (go (2074 - (place + k)) (2074 - (place + (k + 1))) (omega arith) h)
  where
    q : ℕ
    q = pattern / 2 ^ k

    go : (n m : ℕ) → m ≡ n - 1 → q < 2 ^ n → q / 2 < 2 ^ m
    go zero m e l = let none : q ≡ 0 = lt-one l in let some : 0 < 2 ^ m = pow_pos m in omega arith
    go (suc n) m e l = subst (λ (x : ℕ). q / 2 < 2 ^ x) {x = n} {y = m} (omega arith) (half_lt n q l)

-- a bit more, set or not
module _ (k place pattern sum sum' total : ℕ) (l : k < 9) (inv : bit_xor sum (pattern_sum fec (9 - k) (place + k) (pattern / 2 ^ k)) ≡ total) where
  abbrev p : ℕ
  p = place + k

  abbrev q : ℕ
  q = pattern / 2 ^ k

  bit-more : sum' ≡ bit_xor sum (scale q (weight fec p)) → bit_xor sum' (pattern_sum fec (9 - (k + 1)) (place + (k + 1)) (pattern / 2 ^ (k + 1))) ≡ total
  unfolding pattern_sum
  bit-more e =
      ap₂ (λ (x y : ℕ). bit_xor x (pattern_sum fec (9 - (k + 1)) y (pattern / 2 ^ (k + 1)))) e (let at : place + (k + 1) ≡ suc p = omega arith in at)
      ∙ ap (λ (x : ℕ). bit_xor (bit_xor sum (scale q (weight fec p))) (pattern_sum fec (9 - (k + 1)) (suc p) x)) (sym (shr-shr pattern k 1))
      ∙ xor_assoc sum (scale q (weight fec p)) (pattern_sum fec (9 - (k + 1)) (suc p) (q / 2))
      ∙ ap (λ (n : ℕ). bit_xor sum (pattern_sum fec n p q)) {x = suc (9 - (k + 1))} {y = 9 - k} (omega arith)
      ∙ inv

  scaled : {b : ℕ} → q % 2 ≡ b → scale q (weight fec p) ≡ scale b (weight fec p)
  scaled e = sym (scale-mod q (weight fec p)) ∙ ap (λ (x : ℕ). scale x (weight fec p)) e

  pub bit-set : bit_and q 1 ≡ 1 → sum' ≡ bit_xor sum (weight fec p) → bit_xor sum' (pattern_sum fec (9 - (k + 1)) (place + (k + 1)) (pattern / 2 ^ (k + 1))) ≡ total
  bit-set b e = bit-more (e ∙ ap (bit_xor sum) (sym (scaled (sym (and_mask q 1) ∙ b) ∙ scale_one (weight fec p))))

  pub bit_not : (bit_and q 1 ≡ 1 → ⊥) → sum' ≡ sum → bit_xor sum' (pattern_sum fec (9 - (k + 1)) (place + (k + 1)) (pattern / 2 ^ (k + 1))) ≡ total
  bit_not b e =
      let none : q % 2 ≡ 0 = bit-cases (λ (x : ℕ). q % 2 ≡ x → x ≡ 0) (λ z. refl) (λ z. absurd (b (and_mask q 1 ∙ z))) (q % 2) (odd-lt q) refl in
      bit-more (e ∙ sym (xor_zero_r sum) ∙ ap (bit_xor sum) (sym (scaled none ∙ scale-zero (weight fec p))))

pub bits-all : (k p q sum total : ℕ) → 9 ≤ k → bit_xor sum (pattern_sum fec (9 - k) p q) ≡ total → sum ≡ total
unfolding pattern_sum
bits-all k p q sum total l e =
    let none : 9 - k ≡ 0 = omega arith in
    sym (xor_zero_r sum) ∙ (rw none at e)
