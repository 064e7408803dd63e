-- A burst flipped bit by bit in 256 octets gives the mended octets: document 01, "What the receiver releases". Assumes nothing.
use mathlib.Core.Path.{◌≡◌, refl, sym, ap, ap₂, ◌∙◌, subst}
use mathlib.Core.List.{List}
use Prim.Native.Nat.{ℕ, ◌+◌, ◌-◌, ◌*◌, ◌/◌, ◌%◌, ◌^◌, ◌≤◌, ◌<◌}
use native.Mathlib.Nat.{div-le_self, zero-div, div-eq_of_lt}
use native.Mathlib.Decide.{ℕ_discrete, dec_lt}
use native.Mathlib.Omega.{arith}
use borrow.Author.Tests.{eq-eqb, ne_eqb}
use lib.Dec.{T, eqb, eqb→eq}
use lib.ListN.{length, get_or, set, length-set}
use lib.Seq.{get_or-set_same, get_or-set_other, take_all}
use lib.Pow.{shr-shr}
use lib.Bits.{bit_xor, xor_zero_r, xor_lt}
use Rattle.bits.specs.Choice.{bit_of}
use Rattle.bits.specs.Order.{bit_at, octets_of}
use Rattle.bits.proofs.Additive.{bit}
use Rattle.bits.proofs.Numbers.{bit-octet}
use Rattle.bits.proofs.Octets.{octets_of-bits, octets_of-ext}
use Rattle.bits.proofs.Tests.{every, every-at}
use Rattle.bits.proofs.Xor.{xor_assoc}
use Rattle.parity.specs.Bursts.{flips}
use Rattle.parity.proofs.Bursts.{flips-at, flips-before}
use Rattle.parity.specs.declared.Burst.{Burst}
use Rattle.judge.specs.declared.Verdict.{Verdict}
use Rattle.judge.specs.declared.Verdict.TheVariants.{Agrees, Repaired, Failed}
use Rattle.judge.specs.Judge.{mended}

-- ---- one bit

-- the octets with position p the other way: octet by octet, the highest bit first
unfoldable pub flip_at : List ℕ → ℕ → List ℕ
flip_at octets p = set octets (p / 8) (bit_xor (get_or octets (p / 8) 0) (128 / 2 ^ (p % 8)))

mask-test : T (every (λ i. every (λ j. eqb (128 / 2 ^ i / 2 ^ (7 - j) % 2) (bit_of (eqb j i))) 8) 8)
unfolding every
mask-test = tt

-- the mask of bit i of an octet, and its bit j
mask-bit : (i j : ℕ) → i < 8 → j < 8 → 128 / 2 ^ i / 2 ^ (7 - j) % 2 ≡ bit_of (eqb j i)
mask-bit i j hi hj =
    eqb→eq (128 / 2 ^ i / 2 ^ (7 - j) % 2) (bit_of (eqb j i))
    (every-at (λ j. eqb (128 / 2 ^ i / 2 ^ (7 - j) % 2) (bit_of (eqb j i))) 8
    (every-at (λ i. every (λ j. eqb (128 / 2 ^ i / 2 ^ (7 - j) % 2) (bit_of (eqb j i))) 8) 8 mask-test i hi) j hj)

module _ (octets : List ℕ) (p : ℕ) where
  own : ℕ
  own = bit_xor (get_or octets (p / 8) 0) (128 / 2 ^ (p % 8))

  pub flip-length : length (flip_at octets p) ≡ length octets
  unfolding flip_at
  flip-length = length-set octets (p / 8) (bit_xor (get_or octets (p / 8) 0) (128 / 2 ^ (p % 8)))

  module _ (h : p / 8 < length octets) where
    flip-there : get_or (flip_at octets p) (p / 8) 0 ≡ own
    unfolding flip_at own
    flip-there = get_or-set_same octets (p / 8) own 0 h

    flip-elsewhere : (j : ℕ) → (j ≡ p / 8 → ⊥) → get_or (flip_at octets p) j 0 ≡ get_or octets j 0
    unfolding flip_at own
    flip-elsewhere j n = get_or-set_other octets (p / 8) j own 0 n

    pub flip-octets : ((j : ℕ) → get_or octets j 0 < 256) → (j : ℕ) → get_or (flip_at octets p) j 0 < 256
    unfolding own
    flip-octets octet-lt j = by (ℕ_discrete j (p / 8))
      where
        by : Dec (j ≡ p / 8) → get_or (flip_at octets p) j 0 < 256
        by (yes e) =
            subst (λ (x : ℕ). x < 256) (sym (ap (λ (x : ℕ). get_or (flip_at octets p) x 0) e ∙ flip-there))
            (xor_lt 8 (get_or octets (p / 8) 0) (128 / 2 ^ (p % 8)) (octet-lt (p / 8)) (omega (arith, div-le_self 128 (2 ^ (p % 8)))))
        by (no n) = subst (λ (x : ℕ). x < 256) (sym (flip-elsewhere j n)) (octet-lt j)

    bit-of : (octets : List ℕ) (q : ℕ) → bit_at octets q ≡ get_or octets (q / 8) 0 / 2 ^ (7 - q % 8) % 2
    bit-of octets q = ap (bit_at octets) {x = q} {y = 8 * (q / 8) + q % 8} (omega arith) ∙ bit-octet octets (q / 8) (q % 8) (omega arith)

    -- bit p is the other way, and no other bit
    pub flip-bit : (q : ℕ) → bit_at (flip_at octets p) q ≡ bit_xor (bit_at octets q) (bit_of (eqb q p))
    unfolding own
    flip-bit q = by (ℕ_discrete (q / 8) (p / 8))
      where
        same-octet : q / 8 ≡ p / 8 → Dec (q % 8 ≡ p % 8) → eqb (q % 8) (p % 8) ≡ eqb q p
        same-octet e (yes d) = eq-eqb (q % 8) (p % 8) d ∙ sym (eq-eqb q p (omega arith))
        same-octet e (no n) = ne_eqb (q % 8) (p % 8) n ∙ sym (ne_eqb q p (λ d. n (ap (λ (x : ℕ). x % 8) d)))

        by : Dec (q / 8 ≡ p / 8) → bit_at (flip_at octets p) q ≡ bit_xor (bit_at octets q) (bit_of (eqb q p))
        by (yes e) =
            bit-of (flip_at octets p) q
            ∙ ap (λ (x : ℕ). x / 2 ^ (7 - q % 8) % 2) (ap (λ (x : ℕ). get_or (flip_at octets p) x 0) e ∙ flip-there)
            ∙ bit (7 - q % 8) (get_or octets (p / 8) 0) (128 / 2 ^ (p % 8))
            ∙ ap₂ bit_xor (ap (λ (x : ℕ). get_or octets x 0 / 2 ^ (7 - q % 8) % 2) (sym e) ∙ sym (bit-of octets q))
            (mask-bit (p % 8) (q % 8) (omega arith) (omega arith) ∙ ap bit_of (same-octet e (ℕ_discrete (q % 8) (p % 8))))
        by (no n) =
            bit-of (flip_at octets p) q
            ∙ ap (λ (x : ℕ). x / 2 ^ (7 - q % 8) % 2) (flip-elsewhere (q / 8) n)
            ∙ sym (bit-of octets q)
            ∙ sym (ap (λ (b : ℕ). bit_xor (bit_at octets q) b) (ap bit_of (ne_eqb q p (λ d. n (ap (λ (x : ℕ). x / 8) d)))) ∙ xor_zero_r (bit_at octets q))

-- ---- a pattern, bit by bit

-- the lowest bit of a pattern is its first position, and the rest is a pattern one position on
flips-past : (p w q : ℕ) → (q ≡ p → ⊥) → flips p w q ≡ flips (p + 1) (w / 2) q
flips-past p w q n = by (dec_lt q p)
  where
    earlier : q < p → flips p w q ≡ flips (p + 1) (w / 2) q
    earlier l = flips-before p w q l ∙ sym (flips-before (p + 1) (w / 2) q (omega arith))

    later : p ≤ q → flips p w q ≡ flips (p + 1) (w / 2) q
    later l =
        let d = q - (p + 1) in
        ap (flips p w) {x = q} {y = p + (1 + d)} (omega arith)
        ∙ flips-at p w (1 + d)
        ∙ ap (λ (x : ℕ). x % 2) (sym (shr-shr w 1 d))
        ∙ sym (ap (flips (p + 1) (w / 2)) {x = q} {y = p + 1 + d} (omega arith) ∙ flips-at (p + 1) (w / 2) d)

    by : Dec (q < p) → flips p w q ≡ flips (p + 1) (w / 2) q
    by (yes l) = earlier l
    by (no l) = later (omega arith)

flips-here : (p w : ℕ) → flips p w p ≡ w % 2
flips-here p w = ap (flips p w) {x = p} {y = p + 0} (omega arith) ∙ flips-at p w 0 ∙ ap (λ (x : ℕ). x % 2) (omega arith)

pub flips-none : (p q : ℕ) → flips p 0 q ≡ 0
flips-none p q = by (dec_lt q p)
  where
    by : Dec (q < p) → flips p 0 q ≡ 0
    by (yes l) = flips-before p 0 q l
    by (no l) = ap (flips p 0) {x = q} {y = p + (q - p)} (omega arith) ∙ flips-at p 0 (q - p) ∙ ap (λ (x : ℕ). x % 2) (zero-div (2 ^ (q - p)))

-- flipping the positions of a pattern from p on
abbrev pub mended_by : ℕ → ℕ → List ℕ → List ℕ
mended_by p w octets = octets_of (λ k. bit_xor (bit_at octets k) (flips p w k)) 256

module _ (octets : List ℕ) (p w : ℕ) where
  -- an odd pattern: its first position is flipped, and the rest is left
  pub mend-odd : length octets ≡ 256 → p < 2048 → w % 2 ≡ 1 → mended_by (p + 1) (w / 2) (flip_at octets p) ≡ mended_by p w octets
  mend-odd long inside odd =
      octets_of-ext (λ k. bit_xor (bit_at (flip_at octets p) k) (flips (p + 1) (w / 2) k)) (λ k. bit_xor (bit_at octets k) (flips p w k)) 256 (λ q h. by q (ℕ_discrete q p))
    where
      same : (q : ℕ) → bit_xor (bit_at (flip_at octets p) q) (flips (p + 1) (w / 2) q) ≡ bit_xor (bit_at octets q) (bit_xor (bit_of (eqb q p)) (flips (p + 1) (w / 2) q))
      same q = ap (λ (x : ℕ). bit_xor x (flips (p + 1) (w / 2) q)) (flip-bit octets p (omega arith) q) ∙ xor_assoc (bit_at octets q) (bit_of (eqb q p)) (flips (p + 1) (w / 2) q)

      by : (q : ℕ) → Dec (q ≡ p) → bit_xor (bit_at (flip_at octets p) q) (flips (p + 1) (w / 2) q) ≡ bit_xor (bit_at octets q) (flips p w q)
      by q (yes e) =
          same q
          ∙ ap (bit_xor (bit_at octets q)) (ap₂ bit_xor (ap bit_of (eq-eqb q p e)) (flips-before (p + 1) (w / 2) q (omega arith)) ∙ sym (ap (flips p w) e ∙ flips-here p w ∙ odd))
      by q (no n) =
          same q
          ∙ ap (bit_xor (bit_at octets q)) (ap (λ (x : ℕ). bit_xor x (flips (p + 1) (w / 2) q)) (ap bit_of (ne_eqb q p n)) ∙ sym (flips-past p w q n))

  rest : ((q : ℕ) → q < 2048 → flips (p + 1) (w / 2) q ≡ flips p w q) → mended_by (p + 1) (w / 2) octets ≡ mended_by p w octets
  rest e = octets_of-ext (λ k. bit_xor (bit_at octets k) (flips (p + 1) (w / 2) k)) (λ k. bit_xor (bit_at octets k) (flips p w k)) 256 (λ q h. ap (bit_xor (bit_at octets q)) (e q (omega arith)))

  -- an even one flips nothing there
  pub mend-even : w % 2 ≡ 0 → mended_by (p + 1) (w / 2) octets ≡ mended_by p w octets
  mend-even even = rest (λ q h. by q (ℕ_discrete q p))
    where
      by : (q : ℕ) → Dec (q ≡ p) → flips (p + 1) (w / 2) q ≡ flips p w q
      by q (yes e) = flips-before (p + 1) (w / 2) q (omega arith) ∙ sym (ap (flips p w) e ∙ flips-here p w ∙ even)
      by q (no n) = sym (flips-past p w q n)

  -- positions from 2,048 on are parity, and no octet holds them
  pub mend-parity : 2048 ≤ p → mended_by (p + 1) (w / 2) octets ≡ mended_by p w octets
  mend-parity h = rest (λ q l. flips-before (p + 1) (w / 2) q (omega arith) ∙ sym (flips-before p w q (omega arith)))

-- no pattern is left
pub mend-none : (octets : List ℕ) (p : ℕ) → length octets ≡ 256 → ((j : ℕ) → get_or octets j 0 < 256) → mended_by p 0 octets ≡ octets
mend-none octets p long octet-lt =
    octets_of-ext (λ k. bit_xor (bit_at octets k) (flips p 0 k)) (bit_at octets) 256 (λ q h. ap (bit_xor (bit_at octets q)) (flips-none p q) ∙ xor_zero_r (bit_at octets q))
    ∙ octets_of-bits octets 256 (λ j h. octet-lt j) (omega arith)
    ∙ take_all 256 octets (omega arith)

-- ---- on the way: what is left to flip

-- the octets out, once the first bits of a pattern w from p on are flipped in octets: the rest is left to be flipped
pub record Mending (octets : List ℕ) (p w : ℕ) (out : List ℕ) (bit : ℕ) : Type 0 where
  pub long : length out ≡ 256
  pub octet-lt : (j : ℕ) → get_or out j 0 < 256
  pub same : mended_by (p + bit) (w / 2 ^ bit) out ≡ mended_by p w octets

module _ {octets out : List ℕ} {p w bit : ℕ} (m : Mending octets p w out bit) where
  one-on : (l : List ℕ) → mended_by (p + (bit + 1)) (w / 2 ^ (bit + 1)) l ≡ mended_by (p + bit + 1) (w / 2 ^ bit / 2) l
  one-on l = ap₂ (λ (x y : ℕ). mended_by x y l) {x = p + (bit + 1)} {y = p + bit + 1} (omega arith) (sym (shr-shr w bit 1))

  pub flip-next : {new : List ℕ} → new ≡ flip_at out (p + bit) → p + bit < 2048 → w / 2 ^ bit % 2 ≡ 1 → Mending octets p w new (bit + 1)
  flip-next {new} e inside odd =
      let h : (p + bit) / 8 < length out = omega (arith, m.long) in
      record {
        long = ap length e ∙ flip-length out (p + bit) ∙ m.long;
        octet-lt = λ j. rw e (flip-octets out (p + bit) h m.octet-lt j);
        same = one-on new ∙ ap (mended_by (p + bit + 1) (w / 2 ^ bit / 2)) e ∙ mend-odd out (p + bit) (w / 2 ^ bit) m.long inside odd ∙ m.same;
      }

  skip : {new : List ℕ} → new ≡ out → mended_by (p + bit + 1) (w / 2 ^ bit / 2) out ≡ mended_by (p + bit) (w / 2 ^ bit) out → Mending octets p w new (bit + 1)
  skip {new} e left = record {
    long = ap length e ∙ m.long;
    octet-lt = λ j. rw e (m.octet-lt j);
    same = one-on new ∙ ap (mended_by (p + bit + 1) (w / 2 ^ bit / 2)) e ∙ left ∙ m.same;
  }

  pub skip-parity : {new : List ℕ} → new ≡ out → 2048 ≤ p + bit → Mending octets p w new (bit + 1)
  skip-parity e h = skip e (mend-parity out (p + bit) (w / 2 ^ bit) h)

  pub skip-even : {new : List ℕ} → new ≡ out → (w / 2 ^ bit % 2 ≡ 1 → ⊥) → Mending octets p w new (bit + 1)
  skip-even e n = skip e (mend-even out (p + bit) (w / 2 ^ bit) (omega arith))

-- all the bits of a pattern
pub all-flipped : (burst : Burst) {octets out : List ℕ} {bit : ℕ} → Mending octets burst.place burst.pattern out bit → burst.pattern < 2 ^ bit → out ≡ mended (Repaired burst) octets
unfolding mended
all-flipped burst {out = out} {bit = bit} m short =
    sym (ap (λ (x : ℕ). mended_by (burst.place + bit) x out) (div-eq_of_lt short) ∙ mend-none out (burst.place + bit) m.long m.octet-lt) ∙ m.same

-- where there is no burst, nothing is flipped
pub as-they-are : (v : Verdict) (octets : List ℕ) → ((burst : Burst) → v ≡ Repaired burst → ⊥) → length octets ≡ 256 → ((j : ℕ) → get_or octets j 0 < 256) → octets ≡ mended v octets
unfolding mended
as-they-are Agrees octets n long octet-lt = sym (mend-none octets 0 long octet-lt)
as-they-are (Repaired burst) octets n long octet-lt = absurd (n burst refl)
as-they-are Failed octets n long octet-lt = sym (mend-none octets 0 long octet-lt)
