-- The same of any set of positions: a set that is a burst is the one of some place and pattern, and the other way round. So no such set has
-- the remainder 0, and under the Fire code no two have the same. Document 01, "Parity". Assumes nothing.
use mathlib.Core.Path.{◌≡◌, refl, sym, ap, ap₂, ◌∙◌, subst}
use mathlib.Core.Logic.{◌⊎◌, inl, inr, ◌≢◌}
use Prim.Native.Nat.{ℕ, zero, suc, ◌+◌, ◌-◌, ◌*◌, ◌/◌, ◌%◌, ◌^◌, ◌≤◌, ◌<◌}
use native.Mathlib.Nat.{add-zero, add-suc, suc-add, zero-lt-suc, zero-div, div-one, div-eq_of_lt, pow-suc, not-suc-le-zero, le_refl, lt_of_lt_of_le}
use native.Mathlib.Numerals.{one-add}
use native.Mathlib.Decide.{dec_le, dec_lt, ℕ_discrete}
use native.Mathlib.Omega.{arith}
use lib.Arith.{digits_lt}
use lib.Pow.{pow_pos, pow_mono, shr-shr}
use Rattle.bits.proofs.Xor.{odd-lt}
use Rattle.parity.specs.Codeword.{Code, fec, remainder_of}
use Rattle.parity.specs.Bursts.{BurstSet, IsBurst, flips}
use Rattle.parity.proofs.Codeword.{weighed-ext}
use Rattle.parity.proofs.Bursts.{Proper, starts, flips-at, flips-before, no-burst-zero, one-burst}

-- ---- from place and pattern to a set

-- past the pattern nothing is set
flips-after : (p q b c : ℕ) → q < 2 ^ b → p + b ≤ c → flips p q c ≡ 0
flips-after p q b c h l =
    ap (flips p q) {x = c} {y = p + (c - p)} (omega arith)
    ∙ flips-at p q (c - p)
    ∙ ap (λ (x : ℕ). x % 2) (div-eq_of_lt (lt_of_lt_of_le h (pow_mono (omega arith))))

pub flips-bit : (p q c : ℕ) → flips p q c < 2
flips-bit p q c = go (dec_le p c)
  where
    go : Dec (p ≤ c) → flips p q c < 2
    go (yes l) =
        subst (λ (x : ℕ). x < 2) (sym (ap (flips p q) {x = c} {y = p + (c - p)} (omega arith) ∙ flips-at p q (c - p))) (odd-lt (q / 2 ^ (c - p)))
    go (no l) = subst (λ (x : ℕ). x < 2) (sym (flips-before p q c (omega arith))) (zero-lt-suc 1)

pub set-of : (b n p q : ℕ) → IsBurst b n p q → BurstSet b n (flips p q)
set-of b n p q h = record { bits = flips-bit p q; from = p; within = within; some = p; there = there }
  where
    there : flips p q p ≡ 1
    there = ap (flips p q) (sym (add-zero p)) ∙ flips-at p q 0 ∙ ap (λ (x : ℕ). x % 2) (div-one q) ∙ h.odd

    within : (c : ℕ) → flips p q c ≡ 1 → (p ≤ c) × (c < p + b) × (c < n)
    within c e = go (dec_le p c) (dec_lt c (p + b)) (dec_lt c n)
      where
        go : Dec (p ≤ c) → Dec (c < p + b) → Dec (c < n) → (p ≤ c) × (c < p + b) × (c < n)
        go (no l) m k = absurd (let z : flips p q c ≡ 0 = flips-before p q c (omega arith) in omega arith)
        go (yes l) (no m) k = absurd (let z : flips p q c ≡ 0 = flips-after p q b c h.short (omega arith) in omega arith)
        go (yes l) (yes m) (no k) =
            absurd (let i : p < n = starts h in let z : flips p q c ≡ 0 = flips-after p q (n - p) c h.inside (omega arith) in omega arith)
        go (yes l) (yes m) (yes k) = (l, m, k)

-- ---- from a set to place and pattern

-- the first position set
record First (f : ℕ → ℕ) : Type 0 where
  place : ℕ
  set : f place ≡ 1
  before : (c : ℕ) → c < place → f c ≡ 0

-- the pattern of k positions from p on
unfoldable gathered : (ℕ → ℕ) → ℕ → ℕ → ℕ
gathered f p zero = 0
gathered f p (suc k) = gathered f (suc p) k * 2 + f p

module _ (f : ℕ → ℕ) (bits : (p : ℕ) → f p < 2) where
  gathered-odd : (p k : ℕ) → gathered f p (suc k) % 2 ≡ f p
  unfolding gathered
  gathered-odd p k = let l = bits p in omega arith

  gathered-half : (p k : ℕ) → gathered f p (suc k) / 2 ≡ gathered f (suc p) k
  unfolding gathered
  gathered-half p k = let l = bits p in omega arith

  gathered-zero : (p k : ℕ) → ((c : ℕ) → p ≤ c → f c ≡ 0) → gathered f p k ≡ 0
  unfolding gathered
  gathered-zero p zero z = refl
  gathered-zero p (suc k) z = let e = gathered-zero (suc p) k (λ c l. z c (omega arith)) in let y = z p (le_refl p) in omega arith

  -- where none is set from p + m on
  gathered-lt : (p k m : ℕ) → ((c : ℕ) → p + m ≤ c → f c ≡ 0) → gathered f p k < 2 ^ m
  unfolding gathered
  gathered-lt p zero m z = pow_pos m
  gathered-lt p (suc k) zero z =
      subst (λ (x : ℕ). x < 1) (sym (gathered-zero p (suc k) (λ c l. z c (omega arith)))) (zero-lt-suc 0)
  gathered-lt p (suc k) (suc m) z =
      subst (λ (x : ℕ). gathered f (suc p) k * 2 + f p < x) (sym (pow-suc 2 m)) (digits_lt (gathered-lt (suc p) k m (λ c l. z c (omega arith))) (bits p))

  gathered-at : (p k j : ℕ) → ((c : ℕ) → p + k ≤ c → f c ≡ 0) → gathered f p k / 2 ^ j % 2 ≡ f (p + j)
  gathered-at p zero j z = unfold gathered in (ap (λ (x : ℕ). x % 2) (zero-div (2 ^ j)) ∙ sym (z (p + j) (omega arith)))
  gathered-at p (suc k) zero z = ap (λ (x : ℕ). x % 2) (div-one (gathered f p (suc k))) ∙ gathered-odd p k ∙ ap f (sym (add-zero p))
  gathered-at p (suc k) (suc j) z =
      ap (λ (x : ℕ). gathered f p (suc k) / 2 ^ x % 2) (sym (one-add j))
      ∙ ap (λ (x : ℕ). x % 2) (sym (shr-shr (gathered f p (suc k)) 1 j) ∙ ap (λ (x : ℕ). x / 2 ^ j) (gathered-half p k))
      ∙ gathered-at (suc p) k j (λ c l. z c (omega arith))
      ∙ ap f (suc-add p j ∙ sym (add-suc p j))

  -- what is not set is 0
  unset : (c : ℕ) → (f c ≡ 1 → ⊥) → f c ≡ 0
  unset c no_one = let h = bits c in elim (ℕ_discrete (f c) 1) [ yes e ↦ absurd (no_one e) | no e ↦ omega (arith, e) ]

  first_below : (n : ℕ) → ((c : ℕ) → c < n → f c ≡ 0) ⊎ First f
  first_below zero = inl (λ c l. absurd (not-suc-le-zero l))
  first_below (suc n) = go (first_below n) (ℕ_discrete (f n) 1)
    where
      go : ((c : ℕ) → c < n → f c ≡ 0) ⊎ First f → Dec (f n ≡ 1) → ((c : ℕ) → c < suc n → f c ≡ 0) ⊎ First f
      go (inr t) e = inr t
      go (inl z) (yes e) = inr (record { place = n; set = e; before = z })
      go (inl z) (no e) = inl (λ c l. elim (dec_lt c n) [ yes q ↦ z c q | no q ↦ (let s : c ≡ n = omega arith in ap f s ∙ unset n e) ])

  first : (s : ℕ) → f s ≡ 1 → First f
  first s e = elim (first_below (suc s)) [ inl z ↦ absurd (let y : f s ≡ 0 = z s (le_refl (suc s)) in omega arith) | inr t ↦ t ]

pub named : (b n : ℕ) (f : ℕ → ℕ) → BurstSet b n f → (p : ℕ) × (q : ℕ) × IsBurst b n p q × ((c : ℕ) → flips p q c ≡ f c)
named zero n f set = absurd (let l = set.within set.some set.there in let x = l.0 in let y = l.1 in omega arith)
named (suc k) n f set = go (first f set.bits set.some set.there)
  where
    go : First f → (p : ℕ) × (q : ℕ) × IsBurst (suc k) n p q × ((c : ℕ) → flips p q c ≡ f c)
    go t = (p, q, burst, same)
      where
        p : ℕ
        p = t.place

        q : ℕ
        q = gathered f p (suc k)

        here : (set.from ≤ p) × (p < set.from + suc k) × (p < n)
        here = set.within p t.set

        after : (c : ℕ) → p + suc k ≤ c → f c ≡ 0
        after c l = unset f set.bits c (λ e. let i = set.within c e in let x = i.1 in let y = here.0 in omega arith)

        past : (c : ℕ) → p + (n - p) ≤ c → f c ≡ 0
        past c l = unset f set.bits c (λ e. let i = set.within c e in let x = i.2 in let y = here.2 in omega arith)

        burst : IsBurst (suc k) n p q
        burst = record {
          odd = gathered-odd f set.bits p k ∙ t.set;
          short = gathered-lt f set.bits p (suc k) (suc k) after;
          inside = gathered-lt f set.bits p (suc k) (n - p) past;
        }

        same : (c : ℕ) → flips p q c ≡ f c
        same c = elim (dec_le p c) [
          | yes l ↦ (let s : p + (c - p) ≡ c = omega arith in
              ap (flips p q) (sym s) ∙ flips-at p q (c - p) ∙ gathered-at f set.bits p (suc k) (c - p) after ∙ ap f s)
          | no l ↦ flips-before p q c (omega arith) ∙ sym (t.before c (omega arith))
        ]

-- ---- a set of which any two positions are close

pub unnamed : (b n : ℕ) (f : ℕ → ℕ) → 0 < b → ((p : ℕ) → f p < 2) → ((p : ℕ) → f p ≡ 1 → p < n)
    → ((x y : ℕ) → x < y → f x ≡ 1 → f y ≡ 1 → y - x < b) → (s : ℕ) → f s ≡ 1 → BurstSet b n f
unnamed b n f some bits inside close s e = go (first f bits s e)
  where
    go : First f → BurstSet b n f
    go t = record { bits = bits; from = t.place; within = within; some = s; there = e }
      where
        within : (p : ℕ) → f p ≡ 1 → (t.place ≤ p) × (p < t.place + b) × (p < n)
        within p h = at (dec_le t.place p) (dec_le p t.place)
          where
            at : Dec (t.place ≤ p) → Dec (p ≤ t.place) → (t.place ≤ p) × (p < t.place + b) × (p < n)
            at (yes l) (yes m) = (l, omega arith, inside p h)
            at (yes l) (no m) = (l, (let d : p - t.place < b = close t.place p (omega arith) t.set h in omega arith), inside p h)
            at (no l) m = absurd (let z : f p ≡ 0 = t.before p (omega arith) in omega arith)

-- ---- the remainder of a set

pub remainder-same : (C : Code) (f h : ℕ → ℕ) → ((c : ℕ) → f c ≡ h c) → remainder_of C f ≡ remainder_of C h
unfolding remainder_of
remainder-same C f h e = weighed-ext C f h 0 C.positions (λ j _. e (0 + j))

pub no-set-zero : (C : Code) → Proper C → (b : ℕ) (f : ℕ → ℕ) → b ≤ C.width → BurstSet b C.positions f → remainder_of C f ≢ 0
no-set-zero C proper b f narrow set e =
    let t = named b C.positions f set in
    no-burst-zero C proper b t.0 t.1 narrow t.2 (remainder-same C (flips t.0 t.1) f t.3 ∙ e)

pub one_set : (f h : ℕ → ℕ) → BurstSet fec.limit fec.positions f → BurstSet fec.limit fec.positions h → remainder_of fec f ≡ remainder_of fec h
    → (p : ℕ) → f p ≡ h p
one_set f h sf sh e p =
    let s = named fec.limit fec.positions f sf in
    let t = named fec.limit fec.positions h sh in
    let z = one-burst s.0 s.1 t.0 t.1 s.2 t.2
    (remainder-same fec (flips s.0 s.1) f s.3 ∙ e ∙ sym (remainder-same fec (flips t.0 t.1) h t.3)) in
    sym (s.3 p) ∙ ap₂ (λ (x y : ℕ). flips x y p) z.0 z.1 ∙ t.3 p
