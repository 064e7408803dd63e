-- Tests that the checker computes: two at once, one at each number below a bound, and whether two lists are the same. Assumes nothing.
use mathlib.Core.Path.{◌≡◌, refl, sym, ap₂, subst}
use mathlib.Core.Logic.{◌⊎◌, inl, inr}
use mathlib.Core.Bool.{Bool, true, false, ◌&&◌}
use mathlib.Core.List.{List, [], ◌∷◌}
use Prim.Native.Nat.{ℕ, zero, suc, ◌≤◌, ◌<◌}
use native.Mathlib.Nat.{not-suc-le-zero, le-suc_iff, suc_inj}
use lib.Dec.{T, eqb, eqb→eq}

pub both : (a b : Bool) → T a → T b → T (a && b)
both true b s t = t
both false b s t = absurd s

pub left : (a b : Bool) → T (a && b) → T a
left true b t = tt
left false b t = t

pub right : (a b : Bool) → T (a && b) → T b
right true b t = t
right false b t = absurd t

unfoldable pub every : (ℕ → Bool) → ℕ → Bool
every f zero = true
every f (suc n) = f n && every f n

pub every-at : (f : ℕ → Bool) (n : ℕ) → T (every f n) → (i : ℕ) → i < n → T (f i)
unfolding every
every-at f zero t i h = absurd (not-suc-le-zero h)
every-at f (suc n) t i h = go (le-suc_iff.0 h) (every-at f n (right (f n) (every f n) t) i)
  where
    go : (suc i ≤ n) ⊎ (suc i ≡ suc n) → (i < n → T (f i)) → T (f i)
    go (inl l) ih = ih l
    go (inr e) ih = subst (λ (x : ℕ). T (f x)) (sym (suc_inj e)) (left (f n) (every f n) t)

unfoldable pub same : List ℕ → List ℕ → Bool
same [] [] = true
same [] (y ∷ m) = false
same (x ∷ l) [] = false
same (x ∷ l) (y ∷ m) = eqb x y && same l m

pub same-list : (l m : List ℕ) → T (same l m) → l ≡ m
unfolding same
same-list [] [] t = refl
same-list [] (y ∷ m) t = absurd t
same-list (x ∷ l) [] t = absurd t
same-list (x ∷ l) (y ∷ m) t = ap₂ (λ (a : ℕ) (b : List ℕ). a ∷ b) (eqb→eq x y (left (eqb x y) (same l m) t)) (same-list l m (right (eqb x y) (same l m) t))
