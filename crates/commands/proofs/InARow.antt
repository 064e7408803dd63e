-- Words in a row, counted from a word on.
-- Assumes nothing.
use mathlib.Core.Path.{◌≡◌, refl, ap, ◌∙◌}
use mathlib.Core.Bool.{Bool, true, false}
use Prim.Native.Nat.{ℕ, zero, suc, ◌+◌, ◌≤◌, ◌<◌}
use native.Mathlib.Nat.{add-zero}
use native.Mathlib.Omega.{arith}
use native.Mathlib.Numerals.{add-one, one-add}
use mathlib.Core.Bool.{cond}
use Rattle.std.specs.List.{prefix_len, range_with_len}
use Rattle.bits.specs.Choice.{pick}
use Rattle.commands.specs.declared.words.Word.{Word}
use Rattle.commands.specs.Reading.{in_a_row}

module _ (is : Word → Bool) (words : ℕ → Word) where
  pub row-none : (i : ℕ) → in_a_row is words i 0 ≡ 0
  unfolding in_a_row
  row-none i = refl

  pub row_on : (i most : ℕ) → is (words i) ≡ true → in_a_row is words i (suc most) ≡ suc (in_a_row is words (suc i) most)
  unfolding in_a_row
  row_on i most e = ap (λ (b : Bool). pick b (suc (in_a_row is words (suc i) most)) 0) e

  pub row-off : (i most : ℕ) → is (words i) ≡ false → in_a_row is words i most ≡ 0
  unfolding in_a_row
  row-off i zero e = refl
  row-off i (suc most) e = ap (λ (b : Bool). pick b (suc (in_a_row is words (suc i) most)) 0) e

  -- by the word that is looked at
  by_word : (i most : ℕ) (b : Bool) → is (words i) ≡ b → in_a_row is words (suc i) most ≤ most → in_a_row is words i (suc most) ≤ suc most
  by_word i most true e h = omega (arith, row_on i most e, h)
  by_word i most false e h = omega (arith, row-off i (suc most) e)

  pub row-le : (i most : ℕ) → in_a_row is words i most ≤ most
  row-le i zero = omega (arith, row-none i)
  row-le i (suc most) = by_word i most (is (words i)) refl (row-le (suc i) most)

  -- each of the words that are counted is meant
  by-counted : (i most k : ℕ) (b : Bool) → is (words i) ≡ b → k < in_a_row is words i (suc most)
      → ((j : ℕ) → j < in_a_row is words (suc i) most → is (words (suc i + j)) ≡ true) → is (words (i + k)) ≡ true
  by-counted i most zero true e h next = ap (λ (j : ℕ). is (words j)) (add-zero i) ∙ e
  by-counted i most (suc k) true e h next = ap (λ (j : ℕ). is (words j)) {x = i + suc k} {y = suc i + k} (omega arith) ∙ next k (omega (arith, row_on i most e))
  by-counted i most k false e h next = absurd (omega (arith, row-off i (suc most) e))

  pub row-meant : (i most k : ℕ) → k < in_a_row is words i most → is (words (i + k)) ≡ true
  row-meant i zero k h = absurd (omega (arith, row-none i))
  row-meant i (suc most) k h = by-counted i most k (is (words i)) refl h (λ j l. row-meant (suc i) most j l)

  -- as the words are walked over
  pub row-walked : (i most : ℕ) → prefix_len (λ (i : ℕ). is (words i)) (range_with_len i most) ≡ in_a_row is words i most
  unfolding in_a_row
  row-walked i zero = refl
  row-walked i (suc most) =
      ap (λ (k : ℕ). cond (is (words i)) k 0) (one-add _ ∙ ap suc (ap (λ (j : ℕ). prefix_len (λ (i : ℕ). is (words i)) (range_with_len j most)) (add-one i) ∙ row-walked (suc i) most))
      ∙ picked (is (words i)) (suc (in_a_row is words (suc i) most))
    where
      picked : (b : Bool) (k : ℕ) → cond b k 0 ≡ pick b k 0
      picked true k = refl
      picked false k = refl

  -- so many words in a row, where each of them is meant and the next is not
  pub row-exact : (i count most : ℕ) → ((k : ℕ) → k < count → is (words (i + k)) ≡ true) → count ≤ most
      → (count < most → is (words (i + count)) ≡ false) → in_a_row is words i most ≡ count
  row-exact i zero zero each few stop = row-none i
  row-exact i zero (suc most) each few stop =
      row-off i (suc most) (ap (λ (k : ℕ). is (words k)) {x = i} {y = i + 0} (omega arith) ∙ stop (omega arith))
  row-exact i (suc count) zero each few stop = absurd (omega (arith, few))
  row-exact i (suc count) (suc most) each few stop =
      row_on i most (ap (λ (k : ℕ). is (words k)) {x = i} {y = i + 0} (omega arith) ∙ each 0 (omega arith))
      ∙ ap suc (row-exact (suc i) count most
      (λ k h. ap (λ (j : ℕ). is (words j)) {x = suc i + k} {y = i + suc k} (omega arith) ∙ each (suc k) (omega (arith, h)))
      (omega (arith, few))
      (λ h. ap (λ (j : ℕ). is (words j)) {x = suc i + count} {y = i + suc count} (omega arith) ∙ stop (omega (arith, h))))
