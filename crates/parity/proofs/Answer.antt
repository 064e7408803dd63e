-- What the burst search finds makes the remainder, and where it finds nothing, nothing does; with FEC that is the only answer, because no two
-- bursts share a remainder. No burst makes 0, nor a number wider than the parity. Document 01, "What the receiver releases". Assumes nothing.
use mathlib.Core.Path.{◌≡◌, refl, sym, ap₂, ◌∙◌, subst}
use mathlib.Core.Bool.{true, false, true≢false}
use Prim.Native.Nat.{ℕ, zero, suc, ◌+◌, ◌-◌, ◌%◌, ◌^◌, ◌≤◌, ◌<◌}
use native.Mathlib.Nat.{zero-add}
use native.Mathlib.Decide.{dec_le}
use native.Mathlib.Omega.{arith}
use lib.Dec.{eqb, ltb}
use borrow.Author.Tests.{eq-eqb, eqb-true, lt-ltb, ltb-true}
use Rattle.bits.proofs.Choice.{pick-both, parts-true}
use Rattle.std.specs.Prelude.{Option, Some, None}
use Rattle.std.specs.Option.{option_or}
use Rattle.parity.specs.declared.Burst.{Burst}
use Rattle.parity.specs.Codeword.{Code, fec, remainder_of}
use Rattle.parity.specs.Bursts.{flips}
use Rattle.parity.specs.Answer.{Explains, agrees_at, first_pattern, first_place, burst_for}
use Rattle.parity.proofs.Codeword.{weighed-lt}
use Rattle.parity.proofs.Bursts.{Proper, starts, no-burst-zero, one-burst}

-- what is found makes the remainder; where nothing is found, nothing does
abbrev pub Answer : Code → ℕ → Option Burst → Type 0
Answer C s (Some burst) = Explains C s burst.place burst.pattern
Answer C s None = (place pattern : ℕ) → Explains C s place pattern → ⊥

-- ---- what a burst that makes a remainder is

pub found-place : {C : Code} {s place pattern : ℕ} → Explains C s place pattern → (place < C.positions) × (pattern % 2 ≡ 1) × (pattern < 2 ^ C.limit)
found-place e = (starts e.burst, e.burst.odd, e.burst.short)

module _ (C : Code) (proper : Proper C) where
  pub explained-lt : {s place pattern : ℕ} → Explains C s place pattern → s < 2 ^ C.width
  unfolding remainder_of
  explained-lt {s} {place} {pattern} e =
      subst (λ (x : ℕ). x < 2 ^ C.width) e.makes (weighed-lt C proper.some proper.fits (flips place pattern) 0 C.positions)

-- ---- the search answers

module _ (C : Code) (s : ℕ) where
  -- the same, of the places and patterns in R alone
  abbrev Among : (ℕ → ℕ → Type 0) → Option Burst → Type 0
  Among R (Some burst) = Explains C s burst.place burst.pattern
  Among R None = (place pattern : ℕ) → R place pattern → Explains C s place pattern → ⊥

  -- agreeing is explaining, for patterns that are not too long
  explains : (place q : ℕ) → q < 2 ^ C.limit → agrees_at C s place q ≡ true → Explains C s place q
  unfolding agrees_at
  explains place q short e =
      let all = parts-true _ (eqb (remainder_of C (flips place q)) s) e in
      let two = parts-true (eqb (q % 2) 1) (ltb q (2 ^ (C.positions - place))) all.0 in
      record {
        burst = record { odd = eqb-true (q % 2) 1 two.0; short = short; inside = ltb-true q (2 ^ (C.positions - place)) two.1 };
        makes = eqb-true (remainder_of C (flips place q)) s all.1;
      }

  agrees : (place q : ℕ) → Explains C s place q → agrees_at C s place q ≡ true
  unfolding agrees_at
  agrees place q e =
      rw (eq-eqb (q % 2) 1 e.burst.odd, lt-ltb q (2 ^ (C.positions - place)) e.burst.inside, eq-eqb (remainder_of C (flips place q)) s e.makes)

  -- from those in R to those in S, of which no others can make s
  wider : (R S : ℕ → ℕ → Type 0) (b : Option Burst) → ((place pattern : ℕ) → S place pattern → Explains C s place pattern → R place pattern) → Among R b → Among S b
  wider R S (Some burst) f h = h
  wider R S None f h = λ place pattern r e. h place pattern (f place pattern r e) e

  -- the patterns from q on, at a place
  abbrev PatternsFrom : ℕ → ℕ → ℕ → ℕ → Type 0
  PatternsFrom place q p pattern = (p ≡ place) × (q ≤ pattern)

  patterns : (place q n : ℕ) → q + n ≡ 2 ^ C.limit → Among (PatternsFrom place q) (first_pattern C s place q n)
  unfolding first_pattern
  patterns place q zero all = λ p pattern r e. absurd (let short : pattern < 2 ^ C.limit = e.burst.short in let l : q ≤ pattern = r.1 in omega arith)
  patterns place q (suc n) all =
      pick-both (Among (PatternsFrom place q)) (agrees_at C s place q) (Some (record { place = place; pattern = q })) (first_pattern C s place (suc q) n) (explains place q (omega arith))
      (λ no-match. wider (PatternsFrom place (suc q)) (PatternsFrom place q) (first_pattern C s place (suc q) n) (later no-match) (patterns place (suc q) n (omega arith)))
    where
      later : agrees_at C s place q ≡ false → (p pattern : ℕ) → PatternsFrom place q p pattern → Explains C s p pattern → PatternsFrom place (suc q) p pattern
      later no-match p pattern r e = (r.0, after (dec_le pattern q))
        where
          after : Dec (pattern ≤ q) → q < pattern
          after (no l) = omega arith
          after (yes l) =
              let m : q ≤ pattern = r.1 in
              let same : pattern ≡ q = omega arith in
              absurd (true≢false (sym (agrees place q (subst (λ (x : ℕ). Explains C s x q) r.0 (subst (λ (x : ℕ). Explains C s p x) same e))) ∙ no-match))

  -- the places from p on
  abbrev PlacesFrom : ℕ → ℕ → ℕ → Type 0
  PlacesFrom p place pattern = p ≤ place

  places : (p n : ℕ) → p + n ≡ C.positions → Among (PlacesFrom p) (first_place C s p n)
  unfolding first_place
  places p zero all = λ place pattern l e. absurd (let inside : place < C.positions = starts e.burst in omega arith)
  places p (suc n) all = here (first_pattern C s p 0 (2 ^ C.limit)) (patterns p 0 (2 ^ C.limit) (zero-add (2 ^ C.limit))) (places (suc p) n (omega arith))
    where
      here : (b : Option Burst) → Among (PatternsFrom p 0) b → Among (PlacesFrom (suc p)) (first_place C s (suc p) n) → Among (PlacesFrom p) (option_or b (first_place C s (suc p) n))
      here (Some burst) h rest = h
      here None h rest = wider (PlacesFrom (suc p)) (PlacesFrom p) (first_place C s (suc p) n) later rest
        where
          later : (place pattern : ℕ) → p ≤ place → Explains C s place pattern → p < place
          later place pattern l e = after (dec_le place p)
            where
              after : Dec (place ≤ p) → p < place
              after (no m) = omega arith
              after (yes m) = absurd (h place pattern (omega arith, omega arith) e)

  pub answers : Answer C s (burst_for C s)
  unfolding burst_for
  answers = all (first_place C s 0 C.positions) (places 0 C.positions (zero-add C.positions))
    where
      all : (b : Option Burst) → Among (PlacesFrom 0) b → Answer C s b
      all (Some burst) h = h
      all None h = λ place pattern e. h place pattern (omega arith) e

-- ---- and nothing else does

pub one_answer : (s : ℕ) (a b : Option Burst) → Answer fec s a → Answer fec s b → a ≡ b
one_answer s (Some a) (Some b) e d =
    let same = one-burst a.place a.pattern b.place b.pattern e.burst d.burst (e.makes ∙ sym d.makes) in
    ap₂ (λ (x y : ℕ). Some (record { place = x; pattern = y })) same.0 same.1
one_answer s (Some a) None e d = absurd (d a.place a.pattern e)
one_answer s None (Some b) e d = absurd (e b.place b.pattern d)
one_answer s None None e d = refl

pub answer-is : (s : ℕ) (r : Option Burst) → Answer fec s r → r ≡ burst_for fec s
answer-is s r a = one_answer s r (burst_for fec s) a (answers fec s)

-- no burst makes 0
pub zero-nothing : (C : Code) → Proper C → burst_for C 0 ≡ None
zero-nothing C proper = none (burst_for C 0) (answers C 0)
  where
    none : (b : Option Burst) → Answer C 0 b → b ≡ None
    none (Some b) e = absurd (no-burst-zero C proper C.limit b.place b.pattern proper.reach e.burst e.makes)
    none None e = refl
