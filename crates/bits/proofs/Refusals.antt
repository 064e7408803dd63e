-- What a table of refusals gives, and when: document 01, "Numbers of refusal". A number is given exactly when its line applies and none before
-- it does. Assumes nothing.
use mathlib.Core.Path.{◌≡◌, refl, sym, ap, ◌∙◌, subst}
use mathlib.Core.Bool.{Bool, true, false, not, ◌&&◌}
use mathlib.Core.List.{List, [], ◌∷◌}
use Prim.Native.Nat.{ℕ}
use borrow.Author.Tests.{eq-eqb}
use lib.Dec.{T, eqb}
use Rattle.bits.specs.Choice.{pick}
use Rattle.bits.specs.Refusals.{Line, ◌when◌, refusal_by}
use Rattle.bits.proofs.Choice.{pick-both}
use Rattle.bits.proofs.Tests.{left, right}

-- ---- line by line, as code goes through a table

pub given : (number : ℕ) (test : Bool) (lines : List Line) → test ≡ true → number ≡ refusal_by (number when test ∷ lines)
unfolding refusal_by
given number test lines e = rw e refl

pub passed : (number : ℕ) (test : Bool) (lines : List Line) → test ≡ false → refusal_by lines ≡ refusal_by (number when test ∷ lines)
unfolding refusal_by
passed number test lines e = rw e refl

pub none_left : 0 ≡ refusal_by []
unfolding refusal_by
none_left = refl

-- ---- what a table's answer says of its lines

-- no line's number is 0: a test that the checker computes of a table
abbrev pub numbered : List Line → Bool
numbered [] = true
numbered (number when test ∷ lines) = not (eqb number 0) && numbered lines

-- when a number is given, but for the lines before it
abbrev pub test_of : ℕ → List Line → Bool
test_of k [] = false
test_of k (number when test ∷ lines) = pick (eqb k number) test (test_of k lines)

line-passed : (number : ℕ) (test : Bool) (rest : ℕ) → T (not (eqb number 0)) → pick test number rest ≡ 0 → (test ≡ false) × (rest ≡ 0)
line-passed number true rest n e = absurd (subst (λ (b : Bool). T (not b)) (eq-eqb number 0 e) n)
line-passed number false rest n e = (refl, e)

-- where nothing is refused, no line applies; a line is asked for by its number
pub not-given : (k : ℕ) (lines : List Line) → T (numbered lines) → refusal_by lines ≡ 0 → test_of k lines ≡ false
unfolding refusal_by
not-given k [] n e = refl
not-given k (number when test ∷ lines) n e =
    let here = line-passed number test (refusal_by lines) (left (not (eqb number 0)) (numbered lines) n) e in
    pick-both (λ (b : Bool). b ≡ false) (eqb k number) test (test_of k lines) (λ _. here.0)
    (λ _. not-given k lines (right (not (eqb number 0)) (numbered lines) n) here.1)

-- ---- given exactly when

-- a line with this number applies, and none before it does
pub data Given (k : ℕ) : List Line → Type 0 where
  first : (test : Bool) (lines : List Line) → test ≡ true → Given k (k when test ∷ lines)
  later : (number : ℕ) (test : Bool) (lines : List Line) → test ≡ false → Given k lines → Given k (number when test ∷ lines)

pub whenever : (k : ℕ) (lines : List Line) → Given k lines → refusal_by lines ≡ k
whenever k l (first test lines e) = sym (given k test lines e)
whenever k l (later number test lines e g) = sym (passed number test lines e) ∙ whenever k lines g

pub only-when : (k : ℕ) (lines : List Line) → (k ≡ 0 → ⊥) → refusal_by lines ≡ k → Given k lines
unfolding refusal_by
only-when k [] some e = absurd (some (sym e))
only-when k (number when test ∷ lines) some e = by test refl (only-when k lines some)
  where
    by : (b : Bool) → test ≡ b → (refusal_by lines ≡ k → Given k lines) → Given k (number when test ∷ lines)
    by true q rest = subst (λ (x : ℕ). Given k (x when test ∷ lines)) (sym (given number test lines q ∙ e)) (first test lines q)
    by false q rest = later number test lines q (rest (passed number test lines q ∙ e))
