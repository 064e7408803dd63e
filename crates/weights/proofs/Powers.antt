-- A list whose last entry is 1, and whose every other entry is x times the next, holds the powers of x, highest first. One computed test.
-- Assumes nothing.
use mathlib.Core.Path.{◌≡◌, sym, ap, ap₂, ◌∙◌}
use mathlib.Core.Bool.{Bool, false, ◌&&◌}
use mathlib.Core.List.{List, [], ◌∷◌}
use Prim.Native.Nat.{ℕ, suc, ◌+◌, ◌-◌}
use native.Mathlib.Omega.{arith}
use lib.Dec.{T, eqb, eqb→eq}
use lib.ListN.{length}
use Rattle.bits.specs.Order.{list_from}
use Rattle.bits.proofs.Lists.{list-one, list-first}
use Rattle.bits.proofs.Tests.{left, right}
use Rattle.polynomial.specs.Polynomial.{times_x, power}
use Rattle.polynomial.proofs.Polynomial.{times_power-none, times_power-suc}

module _ (w g : ℕ) where
  abbrev pub chain : ℕ → List ℕ → Bool
  chain x [] = eqb x 1
  chain x (y ∷ l) = eqb x (times_x w g y) && chain y l

  abbrev pub chained : List ℕ → Bool
  chained [] = false
  chained (x ∷ l) = chain x l

  first : (x : ℕ) (l : List ℕ) → T (chain x l) → x ≡ power w g (length l)
  first x [] t = eqb→eq x 1 t ∙ sym (times_power-none w g 1)
  first x (y ∷ l) t =
      eqb→eq x (times_x w g y) (left (eqb x (times_x w g y)) (chain y l) t) ∙ ap (times_x w g) (first y l (right (eqb x (times_x w g y)) (chain y l) t))
      ∙ sym (times_power-suc w g (length l) 1)

  -- of n positions, from position p on
  from : (n x : ℕ) (l : List ℕ) (p : ℕ) → T (chain x l) → p + suc (length l) ≡ suc n → x ∷ l ≡ list_from (λ p. power w g (n - p)) p (suc (length l))
  from n x [] p t e =
      ap (λ (y : ℕ). y ∷ []) (first x [] t ∙ ap (power w g) {x = 0} {y = n - p} (omega arith)) ∙ sym (list-one (λ p. power w g (n - p)) p)
  from n x (y ∷ l) p t e =
      ap₂ (λ (a : ℕ) (b : List ℕ). a ∷ b)
      (first x (y ∷ l) t ∙ ap (power w g) {x = suc (length l)} {y = n - p} (omega arith))
      (from n y l (suc p) (right (eqb x (times_x w g y)) (chain y l) t) (omega arith))
      ∙ sym (list-first (λ p. power w g (n - p)) p (suc (length l)))

  pub table : (n : ℕ) (l : List ℕ) → T (chained l) → length l ≡ suc n → l ≡ list_from (λ p. power w g (n - p)) 0 (suc n)
  table n [] t e = absurd t
  table n (x ∷ l) t e = from n x l 0 t (omega arith) ∙ ap (list_from (λ p. power w g (n - p)) 0) e
