-- The remainder of a burst of at most w bits is a power of x times the burst's pattern, turned round: so it is not 0, and under the Fire code
-- no two bursts of at most nine bits share one. Clauses 7.4.2 and 7.5.2; document 01, "Parity". Assumes nothing.
use mathlib.Core.Path.{◌≡◌, refl, sym, ap, ap₂, ◌∙◌, subst}
use mathlib.Core.Logic.{◌≢◌}
use mathlib.Core.Bool.{Bool, true, false, not}
use Prim.Native.Nat.{ℕ, zero, suc, ◌+◌, ◌-◌, ◌*◌, ◌/◌, ◌%◌, ◌^◌, ◌≤◌, ◌<◌}
use native.Mathlib.Nat.{zero-mul, one-mul, zero-add, add-zero, add-suc, suc-add, add-mul, mul_assoc, zero-lt-suc, pow-suc, mul_comm, add-sub_cancel_left, le-add_right, le-add_left, lt_of_lt_of_le, div-one, div-add-mod'}
use native.Mathlib.Numerals.{one-add}
use native.Mathlib.Decide.{dec_le}
use native.Mathlib.Omega.{arith}
use lib.Arith.{lt-one, digits_lt, digits_div, digits_mod, lt→nleb}
use lib.Dec.{T, leb, le→leb, lit<, lit≤}
use lib.Pow.{pow_pos, pow_mono, shr-shr}
use lib.Bits.{bit_xor}
use Rattle.bits.specs.Choice.{pick}
use Rattle.bits.proofs.Xor.{odd-lt}
use Rattle.polynomial.specs.Polynomial.{scale, times_x, times_power}
use Rattle.polynomial.proofs.Polynomial.{half_lt, scale-zero, scale-mod, scale-above, times_x-low, times_power-none, times_power-suc, times_power-xor, times_power-zero, times_power-scale, times_power-add, times_power-lt, times_power-injective, power-low}
use Rattle.polynomial.proofs.Fire.{trapped}
use Rattle.parity.specs.Codeword.{Code, crc12, fec, crc3, data_bits, weight, weighed, remainder_of}
use Rattle.parity.specs.Bursts.{IsBurst, flips}
use Rattle.parity.proofs.Numbers.{parity-numbers}

-- ---- codes

-- what a code's numbers have to meet
pub record Proper (C : Code) : Type 0 where
  pub some : 0 < C.width
  pub fits : C.lower < 2 ^ C.width
  pub odd : C.lower % 2 ≡ 1  -- so that no power of x is a multiple of the polynomial
  pub long : C.positions ≡ data_bits C + C.width
  pub reach : C.limit ≤ C.width

pub crc12-proper : Proper crc12
crc12-proper = record { some = lit< tt; fits = lit< tt; odd = refl; long = parity-numbers.0.bits; reach = lit≤ tt }

pub fec-proper : Proper fec
fec-proper = record { some = lit< tt; fits = lit< tt; odd = refl; long = parity-numbers.1.bits; reach = lit≤ tt }

pub crc3-proper : Proper crc3
crc3-proper = record { some = lit< tt; fits = lit< tt; odd = refl; long = parity-numbers.2.bits; reach = lit≤ tt }

-- ---- the positions of a burst

pub starts : {b n p q : ℕ} → IsBurst b n p q → p < n
starts {b} {n} {p} {q} h = go (dec_le n p)
  where
    go : Dec (n ≤ p) → p < n
    go (no l) = omega arith
    go (yes l) =
        let none : n - p ≡ 0 = omega arith in
        let zero : q ≡ 0 = lt-one (subst (λ (x : ℕ). q < 2 ^ x) none h.inside) in
        let odd : q % 2 ≡ 1 = h.odd in omega arith

picked : (t : Bool) (a : ℕ) → T t → pick t a 0 ≡ a
picked true a h = refl
picked false a h = absurd h

unpicked : (t : Bool) (a : ℕ) → T (not t) → pick t a 0 ≡ 0
unpicked true a h = absurd h
unpicked false a h = refl

pub flips-at : (p q j : ℕ) → flips p q (p + j) ≡ q / 2 ^ j % 2
unfolding flips
flips-at p q j =
    picked (leb p (p + j)) (q / 2 ^ (p + j - p) % 2) (le→leb p (p + j) (le-add_right p j))
    ∙ ap (λ (x : ℕ). q / 2 ^ x % 2) (add-sub_cancel_left p j)

pub flips-before : (p q c : ℕ) → c < p → flips p q c ≡ 0
unfolding flips
flips-before p q c h = unpicked (leb p c) (q / 2 ^ (c - p) % 2) (lt→nleb p c h)

-- ---- the remainder of a burst, from its own positions only

-- the sum of the weights that the n low bits of a pattern set, from position p on
unfoldable pub pattern_sum : Code → ℕ → ℕ → ℕ → ℕ
pattern_sum C zero p q = 0
pattern_sum C (suc n) p q = bit_xor (scale q (weight C p)) (pattern_sum C n (suc p) (q / 2))

module _ (C : Code) where
  -- positions in front that are not set
  weighed-skip : (f : ℕ → ℕ) (a p n : ℕ) → ((c : ℕ) → c < p + a → f c ≡ 0) → weighed C f p (a + n) ≡ weighed C f (p + a) n
  unfolding weighed
  weighed-skip f zero p n z = ap₂ (weighed C f) (sym (add-zero p)) (zero-add n)
  weighed-skip f (suc a) p n z =
      ap (weighed C f p) (suc-add a n)
      ∙ ap₂ bit_xor (ap (λ (x : ℕ). scale x (weight C p)) (z p (omega arith)) ∙ scale-zero (weight C p)) (weighed-skip f a (suc p) n (λ c l. z c (omega arith)))
      ∙ ap (λ (x : ℕ). weighed C f x n) (suc-add p a ∙ sym (add-suc p a))

  weighed-pattern : (f : ℕ → ℕ) (n p q : ℕ) → ((j : ℕ) → f (p + j) ≡ q / 2 ^ j % 2) → weighed C f p n ≡ pattern_sum C n p q
  unfolding weighed pattern_sum
  weighed-pattern f zero p q e = refl
  weighed-pattern f (suc n) p q e =
      ap₂ bit_xor
      (ap (λ (x : ℕ). scale x (weight C p)) (ap f (sym (add-zero p)) ∙ e 0 ∙ ap (λ (x : ℕ). x % 2) (div-one q)) ∙ scale-mod q (weight C p))
      (weighed-pattern f n (suc p) (q / 2) (λ j.
      ap f (suc-add p j ∙ sym (add-suc p j)) ∙ e (suc j)
      ∙ ap (λ (x : ℕ). q / 2 ^ x % 2) (sym (one-add j)) ∙ ap (λ (x : ℕ). x % 2) (sym (shr-shr q 1 j))))

  pattern_sum-zero : (n p : ℕ) → pattern_sum C n p 0 ≡ 0
  unfolding pattern_sum
  pattern_sum-zero zero p = refl
  pattern_sum-zero (suc n) p = ap₂ bit_xor (scale-zero (weight C p)) (pattern_sum-zero n (suc p))

  -- it is the same at every width that the pattern fits
  pattern_sum-fits : (m n p q : ℕ) → q < 2 ^ m → q < 2 ^ n → pattern_sum C m p q ≡ pattern_sum C n p q
  unfolding pattern_sum
  pattern_sum-fits zero n p q hm hn = sym (ap (pattern_sum C n p) (lt-one hm) ∙ pattern_sum-zero n p)
  pattern_sum-fits (suc m) zero p q hm hn = ap (pattern_sum C (suc m) p) (lt-one hn) ∙ pattern_sum-zero (suc m) p
  pattern_sum-fits (suc m) (suc n) p q hm hn =
      ap (bit_xor (scale q (weight C p))) (pattern_sum-fits m n (suc p) (q / 2) (half_lt m q hm) (half_lt n q hn))

  -- what is not set before and after the burst adds nothing
  pub remainder-pattern : (b p q : ℕ) → IsBurst b C.positions p q → remainder_of C (flips p q) ≡ pattern_sum C b p q
  unfolding remainder_of
  remainder-pattern b p q h =
      let l : p < C.positions = starts h in
      ap (weighed C (flips p q) 0) {x = C.positions} {y = p + (C.positions - p)} (omega arith)
      ∙ weighed-skip (flips p q) p 0 (C.positions - p) (λ c m. flips-before p q c (omega arith))
      ∙ ap (λ (x : ℕ). weighed C (flips p q) x (C.positions - p)) (zero-add p)
      ∙ weighed-pattern (flips p q) (C.positions - p) p q (flips-at p q)
      ∙ pattern_sum-fits (C.positions - p) b p q h.inside h.short

-- ---- the pattern turned round

-- the k low bits of q turned round: the lowest becomes the highest
unfoldable pub mirror : ℕ → ℕ → ℕ
mirror zero q = 0
mirror (suc k) q = q % 2 * 2 ^ k + mirror k (q / 2)

pub mirror-lt : (k q : ℕ) → mirror k q < 2 ^ k
unfolding mirror
mirror-lt zero q = zero-lt-suc 0
mirror-lt (suc k) q =
    subst (λ (x : ℕ). q % 2 * 2 ^ k + mirror k (q / 2) < x) (mul_comm 2 (2 ^ k) ∙ sym (pow-suc 2 k)) (digits_lt (odd-lt q) (mirror-lt k (q / 2)))

pub mirror-high : (k q : ℕ) → q % 2 ≡ 1 → 2 ^ k ≤ mirror (suc k) q
unfolding mirror
mirror-high k q odd =
    subst (λ (x : ℕ). 2 ^ k ≤ x * 2 ^ k + mirror k (q / 2)) (sym odd)
    (subst (λ (x : ℕ). 2 ^ k ≤ x + mirror k (q / 2)) (sym (one-mul (2 ^ k))) (le-add_right (2 ^ k) (mirror k (q / 2))))

pub mirror-injective : (k a b : ℕ) → a < 2 ^ k → b < 2 ^ k → mirror k a ≡ mirror k b → a ≡ b
unfolding mirror
mirror-injective zero a b ha hb e = lt-one ha ∙ sym (lt-one hb)
mirror-injective (suc k) a b ha hb e =
    sym (div-add-mod' a 2)
    ∙ ap₂ (λ (x y : ℕ). x * 2 + y)
    (mirror-injective k (a / 2) (b / 2) (half_lt k a ha) (half_lt k b hb)
    (sym (digits_mod (a % 2) (mirror-lt k (a / 2))) ∙ ap (λ (x : ℕ). x % 2 ^ k) e ∙ digits_mod (b % 2) (mirror-lt k (b / 2))))
    (sym (digits_div (a % 2) (mirror-lt k (a / 2))) ∙ ap (λ (x : ℕ). x / 2 ^ k) e ∙ digits_div (b % 2) (mirror-lt k (b / 2)))
    ∙ div-add-mod' b 2

mirror-zero : (k : ℕ) → mirror k 0 ≡ 0
unfolding mirror
mirror-zero zero = refl
mirror-zero (suc k) = ap₂ (λ (x y : ℕ). x + y) (zero-mul (2 ^ k)) (mirror-zero k)

-- a high bit that is 0 comes to stand lowest
mirror-next : (k q : ℕ) → q < 2 ^ k → mirror (suc k) q ≡ mirror k q * 2
unfolding mirror
mirror-next zero q h = ap (mirror 1) (lt-one h)
mirror-next (suc k) q h =
    ap₂ (λ (x y : ℕ). q % 2 * x + y) (pow-suc 2 k) (mirror-next k (q / 2) (half_lt k q h))
    ∙ ap (λ (x : ℕ). x + mirror k (q / 2) * 2) (sym (mul_assoc (q % 2) (2 ^ k) 2))
    ∙ sym (add-mul (q % 2 * 2 ^ k) (mirror k (q / 2)) 2)

mirror-more : (w g d k q : ℕ) → d + k ≤ w → q < 2 ^ k → times_power w g d (mirror k q) ≡ mirror (d + k) q
mirror-more w g zero k q l h = times_power-none w g (mirror k q) ∙ ap (λ (x : ℕ). mirror x q) (sym (zero-add k))
mirror-more w g (suc d) k q l h =
    times_power-suc w g d (mirror k q)
    ∙ ap (times_x w g) (mirror-more w g d k q (omega arith) h)
    ∙ times_x-low w g (mirror (d + k) q) (lt_of_lt_of_le (subst (λ (x : ℕ). x < 2 ^ suc (d + k)) next (mirror-lt (suc (d + k)) q)) (pow_mono (omega arith)))
    ∙ sym next
    ∙ ap (λ (x : ℕ). mirror x q) (sym (suc-add d k))
  where
    next : mirror (suc (d + k)) q ≡ mirror (d + k) q * 2
    next = mirror-next (d + k) q (lt_of_lt_of_le h (pow_mono (le-add_left k d)))

-- ---- the remainder of a burst by its pattern turned round

module _ (C : Code) where
  pattern_sum-mirror : (k p q : ℕ) → k ≤ C.width → p + k ≤ C.positions
      → pattern_sum C k p q ≡ times_power C.width C.lower (C.positions - k - p) (mirror k q)
  unfolding pattern_sum mirror weight
  pattern_sum-mirror zero p q hk hp = sym (times_power-zero C.width C.lower (C.positions - 0 - p))
  pattern_sum-mirror (suc k) p q hk hp =
      ap₂ bit_xor
      (ap (scale q) first ∙ sym (times_power-scale C.width C.lower (C.positions - suc k - p) q (2 ^ k)))
      (pattern_sum-mirror k (suc p) (q / 2) (omega arith) (omega arith)
      ∙ ap (λ (n : ℕ). times_power C.width C.lower n (mirror k (q / 2))) {x = C.positions - k - suc p} {y = C.positions - suc k - p} (omega arith))
      ∙ sym (times_power-xor C.width C.lower (C.positions - suc k - p) (scale q (2 ^ k)) (mirror k (q / 2)))
      ∙ ap (times_power C.width C.lower (C.positions - suc k - p)) (scale-above q k (mirror k (q / 2)) (mirror-lt k (q / 2)))
    where
      first : times_power C.width C.lower (C.positions - 1 - p) 1 ≡ times_power C.width C.lower (C.positions - suc k - p) (2 ^ k)
      first =
          ap (λ (n : ℕ). times_power C.width C.lower n 1) {x = C.positions - 1 - p} {y = k + (C.positions - suc k - p)} (omega arith)
          ∙ times_power-add C.width C.lower k (C.positions - suc k - p) 1
          ∙ ap (times_power C.width C.lower (C.positions - suc k - p)) (power-low C.width C.lower k (omega arith))

  module _ (b p q : ℕ) (narrow : b ≤ C.width) (burst : IsBurst b C.positions p q) where
    -- all b positions are the codeword's
    pub early : p + b ≤ C.positions → remainder_of C (flips p q) ≡ times_power C.width C.lower (C.positions - b - p) (mirror b q)
    early l = remainder-pattern C b p q burst ∙ pattern_sum-mirror b p q narrow l

    -- they reach to the codeword's end
    pub late : C.positions ≤ p + b → remainder_of C (flips p q) ≡ mirror (C.positions - p) q
    late l =
        let inside : p < C.positions = starts burst in
        remainder-pattern C (C.positions - p) p q (record { odd = burst.odd; short = burst.inside; inside = burst.inside })
        ∙ pattern_sum-mirror (C.positions - p) p q (omega arith) (omega arith)
        ∙ ap (λ (n : ℕ). times_power C.width C.lower n (mirror (C.positions - p) q)) {x = C.positions - (C.positions - p) - p} {y = 0} (omega arith)
        ∙ times_power-none C.width C.lower (mirror (C.positions - p) q)

    -- and so the highest bit is the weight of position p
    pub late-high : C.positions ≤ p + b → 2 ^ (C.positions - 1 - p) ≤ remainder_of C (flips p q)
    late-high l =
        let inside : p < C.positions = starts burst in
        subst (λ (x : ℕ). 2 ^ (C.positions - 1 - p) ≤ x)
        (ap (λ (n : ℕ). mirror n q) {x = suc (C.positions - 1 - p)} {y = C.positions - p} (omega arith) ∙ sym (late l))
        (mirror-high (C.positions - 1 - p) q burst.odd)

    pub late-lt : C.positions ≤ p + b → remainder_of C (flips p q) < 2 ^ (C.positions - p)
    late-lt l = subst (λ (x : ℕ). x < 2 ^ (C.positions - p)) (sym (late l)) (mirror-lt (C.positions - p) q)

    -- the same in one form, wherever the burst is
    pub shifted : times_power C.width C.lower b (remainder_of C (flips p q)) ≡ times_power C.width C.lower (C.positions - p) (mirror b q)
    shifted = go (dec_le (p + b) C.positions)
      where
        go : Dec (p + b ≤ C.positions) → times_power C.width C.lower b (remainder_of C (flips p q)) ≡ times_power C.width C.lower (C.positions - p) (mirror b q)
        go (yes l) =
            ap (times_power C.width C.lower b) (early l)
            ∙ sym (times_power-add C.width C.lower (C.positions - b - p) b (mirror b q))
            ∙ ap (λ (n : ℕ). times_power C.width C.lower n (mirror b q)) {x = C.positions - b - p + b} {y = C.positions - p} (omega arith)
        go (no l) =
            let inside : p < C.positions = starts burst in
            let whole : b - (C.positions - p) + (C.positions - p) ≡ b = omega arith in
            ap (times_power C.width C.lower b) (late (omega arith))
            ∙ ap (λ (n : ℕ). times_power C.width C.lower n (mirror (C.positions - p) q)) (sym whole)
            ∙ times_power-add C.width C.lower (b - (C.positions - p)) (C.positions - p) (mirror (C.positions - p) q)
            ∙ ap (times_power C.width C.lower (C.positions - p))
            (mirror-more C.width C.lower (b - (C.positions - p)) (C.positions - p) q (omega arith) burst.inside
            ∙ ap (λ (n : ℕ). mirror n q) whole)

  -- ---- no burst has the remainder 0

  pub no-burst-zero : Proper C → (b p q : ℕ) → b ≤ C.width → IsBurst b C.positions p q → remainder_of C (flips p q) ≢ 0
  no-burst-zero proper b p q narrow burst e =
      let none : q ≡ 0 =
      mirror-injective b q 0 burst.short (pow_pos b)
      (times_power-injective C.width C.lower proper.some proper.fits proper.odd (C.positions - p) (mirror b q) 0
      (lt_of_lt_of_le (mirror-lt b q) (pow_mono narrow)) (pow_pos C.width)
      (sym (shifted b p q narrow burst) ∙ ap (times_power C.width C.lower b) e ∙ times_power-zero C.width C.lower b
      ∙ sym (times_power-zero C.width C.lower (C.positions - p)))
      ∙ sym (mirror-zero b)) in
      let odd : q % 2 ≡ 1 = burst.odd in omega arith

-- ---- and under the Fire code, no two bursts of at most nine bits have the same

pub nine-bits : (q : ℕ) → q % 2 ≡ 1 → (256 ≤ mirror 9 q) × (mirror 9 q < 512)
nine-bits q odd = (mirror-high 8 q odd, mirror-lt 9 q)

-- of two with the same, the later one's pattern is a power of x times the earlier one's
one-burst-from : (p q s t : ℕ) → IsBurst 9 2074 p q → IsBurst 9 2074 s t → s ≤ p
    → remainder_of fec (flips p q) ≡ remainder_of fec (flips s t) → (p ≡ s) × (q ≡ t)
one-burst-from p q s t hq ht l e =
    let inside : p < 2074 = starts hq in
    let apart : 2074 - s ≡ p - s + (2074 - p) = omega arith in
    let z : (mirror 9 q ≡ mirror 9 t) × (p - s ≡ 0) =
    trapped (mirror 9 q) (mirror 9 t) (p - s) (omega arith) (nine-bits q hq.odd).0 (nine-bits q hq.odd).1 (nine-bits t ht.odd).0 (nine-bits t ht.odd).1
    (times_power-injective 26 0x0220211 fec-proper.some fec-proper.fits fec-proper.odd (2074 - p) (mirror 9 q) (times_power 26 0x0220211 (p - s) (mirror 9 t))
    (wide q) (times_power-lt 26 0x0220211 (p - s) (mirror 9 t) fec-proper.fits (wide t))
    (sym (shifted fec 9 p q (lit≤ tt) hq) ∙ ap (times_power 26 0x0220211 9) e ∙ shifted fec 9 s t (lit≤ tt) ht
    ∙ ap (λ (n : ℕ). times_power 26 0x0220211 n (mirror 9 t)) apart
    ∙ times_power-add 26 0x0220211 (p - s) (2074 - p) (mirror 9 t))) in
    let same : p - s ≡ 0 = z.1 in
    (omega arith, mirror-injective 9 q t hq.short ht.short z.0)
  where
    wide : (r : ℕ) → mirror 9 r < 2 ^ 26
    wide r = lt_of_lt_of_le (mirror-lt 9 r) (lit≤ tt)

pub one-burst : (p q s t : ℕ) → IsBurst fec.limit fec.positions p q → IsBurst fec.limit fec.positions s t
    → remainder_of fec (flips p q) ≡ remainder_of fec (flips s t) → (p ≡ s) × (q ≡ t)
one-burst p q s t hq ht e = go (dec_le s p)
  where
    go : Dec (s ≤ p) → (p ≡ s) × (q ≡ t)
    go (yes l) = one-burst-from p q s t hq ht l e
    go (no l) = let z = one-burst-from s t p q ht hq (omega arith) (sym e) in (sym z.0, sym z.1)
