-- The Fire code's argument, for the polynomial (x^17 + 1)(x^9 + x^4 + 1) of clause 7.5.2: of nine bits with the highest set, none is a power of x
-- times another, below x^2075. Modulo x^17 + 1, multiplying by x turns 17 bits round, and nine bits come to lie in the same nine places only
-- after whole turns; modulo x^9 + x^4 + 1, the powers of x by whole turns all differ from 1. Assumes nothing.
use mathlib.Core.Path.{◌≡◌, refl, sym, ap, ◌∙◌, subst}
use mathlib.Core.Bool.{Bool, true, false, not, ◌&&◌}
use Prim.Native.Nat.{ℕ, zero, suc, ◌+◌, ◌-◌, ◌*◌, ◌/◌, ◌%◌, ◌^◌, ◌≤◌, ◌<◌}
use native.Mathlib.Nat.{add-sub_of_le, zero-add, mod-lt, zero-lt-suc, div-add-mod', lt_of_lt_of_le, le_refl}
use native.Mathlib.Decide.{dec_le}
use native.Mathlib.Omega.{arith}
use lib.Dec.{T, leb, ltb, eqb, leb→le, ltb→lt, le→leb, lt→ltb, eqb→eq, T_not, lit<, lit≤}
use lib.Pow.{pow_mono}
use Rattle.bits.proofs.Tests.{both, left, right, every, every-at}
use Rattle.polynomial.specs.Polynomial.{scale, times_x, times_power}
use Rattle.polynomial.proofs.Polynomial.{times_power-add, times_power-in}
use Rattle.polynomial.proofs.Factor.{reduced, reduced-narrow, reduced-times_power}
use Rattle.polynomial.proofs.Cycle.{along, along-at, round, below, below-has}

-- ---- modulo x^17 + 1: a turn

-- of nine bits, the highest set
abbrev nine : ℕ → Bool
nine r = leb 256 r && ltb r 512

turned : ℕ → ℕ → ℕ → Bool
turned q zero r = true
turned q (suc d) r = elim (eqb d 16) [ true ↦ eqb r q | false ↦ not (nine r) ]

turns : ℕ → Bool
turns i = along 17 1 (turned (256 + i)) 18 0 (256 + i)

every-turns : T (every turns 256)
unfolding every turns turned along times_x scale
every-turns = tt

turns_at : (q : ℕ) → 256 ≤ q → q < 512 → (i : ℕ) → i < 18 → T (turned q i (times_power 17 1 i q))
unfolding turns
turns_at q h k i hi =
    subst (λ (x : ℕ). T (turned q x (times_power 17 1 i q))) (zero-add i)
    (subst (λ (x : ℕ). T (turned x (0 + i) (times_power 17 1 i x))) (add-sub_of_le h)
    (along-at 17 1 (turned (256 + (q - 256))) 18 0 (256 + (q - 256)) (every-at turns 256 every-turns (q - 256) (omega arith)) i hi))

whole-turn : (q : ℕ) → 256 ≤ q → q < 512 → times_power 17 1 17 q ≡ q
unfolding turned
whole-turn q h k = eqb→eq (times_power 17 1 17 q) q (turns_at q h k 17 (lit< tt))

part-turn : (q : ℕ) → 256 ≤ q → q < 512 → (e : ℕ) → suc e < 17 → T (not (nine (times_power 17 1 (suc e) q)))
unfolding turned
part-turn q h k e he = go (eqb e 16) (λ t. eqb→eq e 16 t) (turns_at q h k (suc e) (omega arith))
  where
    go : (b : Bool) → (T b → e ≡ 16) → T (elim b [ true ↦ eqb (times_power 17 1 (suc e) q) q | false ↦ not (nine (times_power 17 1 (suc e) q)) ])
        → T (not (nine (times_power 17 1 (suc e) q)))
    go true f t = absurd (let z : e ≡ 16 = f tt in omega arith)
    go false f t = t

no-part-turn : (a q : ℕ) → 256 ≤ a → a < 512 → 256 ≤ q → q < 512 → (e : ℕ) → e < 17 → a ≡ times_power 17 1 e q → (a ≡ q) × (e ≡ 0)
unfolding times_power
no-part-turn a q ha ka h k zero he eq = (eq, refl)
no-part-turn a q ha ka h k (suc e) he eq =
    absurd (T_not (nine (times_power 17 1 (suc e) q)) (part-turn q h k e he)
    (subst (λ (x : ℕ). T (nine x)) eq (both (leb 256 a) (ltb a 512) (le→leb 256 a ha) (lt→ltb a 512 ka))))

turn : (a q d : ℕ) → 256 ≤ a → a < 512 → 256 ≤ q → q < 512 → a ≡ times_power 17 1 d q → (a ≡ q) × (d % 17 ≡ 0)
turn a q d ha ka h k eq =
    no-part-turn a q ha ka h k (d % 17) (mod-lt d (zero-lt-suc 16))
    (eq ∙ ap (λ (x : ℕ). times_power 17 1 x q) (sym (div-add-mod' d 17)) ∙ times_power-add 17 1 (d / 17 * 17) (d % 17) q
    ∙ ap (times_power 17 1 (d % 17)) (round 17 1 17 q (whole-turn q h k) (d / 17)))

-- ---- modulo x^9 + x^4 + 1: a power of x that gives back some q gives back 1, since from every q > 1 powers of x lead to less, and so to 1

falls : ℕ → Bool
falls q =
    elim (leb q 1) [
      | true ↦ true
      | false ↦ leb 1 (below 9 17 511 q (times_x 9 17 q)) && ltb (below 9 17 511 q (times_x 9 17 q)) q
    ]

every-falls : T (every falls 512)
unfolding every falls below times_x scale
every-falls = tt

falls_at : (q : ℕ) → 1 < q → q < 512 → T (leb 1 (below 9 17 511 q (times_x 9 17 q)) && ltb (below 9 17 511 q (times_x 9 17 q)) q)
unfolding falls
falls_at q h k = go (leb q 1) (λ t. leb→le q 1 t) (every-at falls 512 every-falls q k)
  where
    go : (b : Bool) → (T b → q ≤ 1)
        → T (elim b [ true ↦ true | false ↦ leb 1 (below 9 17 511 q (times_x 9 17 q)) && ltb (below 9 17 511 q (times_x 9 17 q)) q ])
        → T (leb 1 (below 9 17 511 q (times_x 9 17 q)) && ltb (below 9 17 511 q (times_x 9 17 q)) q)
    go true f t = absurd (let z : q ≤ 1 = f tt in omega arith)
    go false f t = t

-- x^d gives back q
abbrev Fixed : ℕ → ℕ → Type 0
Fixed d q = times_power 9 17 d q ≡ q

fixed-next : (d r : ℕ) → Fixed d r → Fixed d (times_x 9 17 r)
unfolding times_power
fixed-next d r e = times_power-in 9 17 d r ∙ ap (times_x 9 17) e

fixed-one : (d m q : ℕ) → q ≤ m → 0 < q → q < 512 → Fixed d q → Fixed d 1
fixed-one d zero q hm h k e = absurd (omega arith)
fixed-one d (suc m) q hm h k e = go (dec_le q 1) (fixed-one d m)
  where
    next : ℕ
    next = below 9 17 511 q (times_x 9 17 q)

    go : Dec (q ≤ 1) → ((q : ℕ) → q ≤ m → 0 < q → q < 512 → Fixed d q → Fixed d 1) → Fixed d 1
    go (yes l) ih = let z : q ≡ 1 = omega arith in subst (Fixed d) z e
    go (no l) ih =
        let t = falls_at q (omega arith) k in
        let a : 1 ≤ next = leb→le 1 next (left (leb 1 next) (ltb next q) t) in
        let b : next < q = ltb→lt next q (right (leb 1 next) (ltb next q) t) in
        ih next (omega arith) (omega arith) (omega arith)
        (below-has 9 17 (Fixed d) (fixed-next d) 511 q (times_x 9 17 q) (fixed-next d q e))

-- ---- and no power of x by whole turns, below x^2075, is 1

moved : ℕ → ℕ → Bool
moved zero r = true
moved (suc d) r = elim (eqb (suc d % 17) 0) [ true ↦ not (eqb r 1) | false ↦ true ]

every-moved : T (along 9 17 moved 2075 0 1)
unfolding moved along times_x scale
every-moved = tt

moved_at : (d : ℕ) → d < 2075 → d % 17 ≡ 0 → Fixed d 1 → d ≡ 0
unfolding moved
moved_at zero h k e = refl
moved_at (suc d) h k e =
    absurd (go (eqb (suc d % 17) 0) (subst (λ (x : ℕ). T (eqb x 0)) (sym k) tt)
    (subst (λ (x : ℕ). T (moved x (times_power 9 17 (suc d) 1))) (zero-add (suc d)) (along-at 9 17 moved 2075 0 1 every-moved (suc d) h)))
  where
    go : (b : Bool) → T b → T (elim b [ true ↦ not (eqb (times_power 9 17 (suc d) 1) 1) | false ↦ true ]) → ⊥
    go true s t = T_not (eqb (times_power 9 17 (suc d) 1) 1) t (subst (λ (x : ℕ). T (eqb x 1)) (sym e) tt)
    go false s t = s

-- ---- both together

divides17 : reduced 17 1 27 (2 ^ 26 + 0x0220211) ≡ 0
unfolding reduced times_x scale
divides17 = refl

divides9 : reduced 9 17 27 (2 ^ 26 + 0x0220211) ≡ 0
unfolding reduced times_x scale
divides9 = refl

modulo : (u l : ℕ) → reduced u l 27 (2 ^ 26 + 0x0220211) ≡ 0 → 9 ≤ u
    → (a q d : ℕ) → a < 512 → q < 512 → a ≡ times_power 26 0x0220211 d q → a ≡ times_power u l d q
modulo u l factor wide a q d ha hq e =
    sym (same a ha)
    ∙ ap (reduced u l 26) e
    ∙ reduced-times_power u l 26 0x0220211 (lit< tt) factor d q (lt_of_lt_of_le hq (lit≤ tt))
    ∙ ap (times_power u l d) (same q hq)
  where
    same : (r : ℕ) → r < 512 → reduced u l 26 r ≡ r
    same r h = reduced-narrow u l 26 r (lt_of_lt_of_le h (lit≤ tt)) (lt_of_lt_of_le h (pow_mono {i = 9} {j = u} wide))

pub trapped : (a b d : ℕ) → d < 2075 → 256 ≤ a → a < 512 → 256 ≤ b → b < 512 → a ≡ times_power 26 0x0220211 d b → (a ≡ b) × (d ≡ 0)
trapped a b d hd ha ka h k e =
    let t : (a ≡ b) × (d % 17 ≡ 0) = turn a b d ha ka h k (modulo 17 1 divides17 (lit≤ tt) a b d ka k e) in
    let f : Fixed d b = sym (modulo 9 17 divides9 (le_refl 9) a b d ka k e) ∙ t.0 in
    (t.0, moved_at d hd t.1 (fixed-one d b b (le_refl b) (omega arith) k f))
