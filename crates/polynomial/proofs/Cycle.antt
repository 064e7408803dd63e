-- Tests that the checker computes along the powers of x, and what they show: a test at each of the first
-- powers of x, how a power that gives back r does so again and again, and how to come from r to a smaller number. Assumes nothing.
use mathlib.Core.Path.{◌≡◌, sym, ap, ◌∙◌, subst}
use mathlib.Core.Bool.{Bool, true, false, ◌&&◌}
use Prim.Native.Nat.{ℕ, zero, suc, ◌+◌, ◌*◌, ◌<◌}
use native.Mathlib.Nat.{not-suc-le-zero, le_of_suc-le-suc, add-zero, add-suc, suc-add, zero-mul, suc-mul}
use lib.Dec.{T, leb}
use Rattle.bits.proofs.Tests.{left, right}
use Rattle.polynomial.specs.Polynomial.{times_x, times_power}
use Rattle.polynomial.proofs.Polynomial.{times_power-add, times_power-in}

module _ (w g : ℕ) where
  -- ---- a test at d and r, at d + 1 and x r, and so on, n of them

  unfoldable pub along : (ℕ → ℕ → Bool) → ℕ → ℕ → ℕ → Bool
  along f zero d r = true
  along f (suc n) d r = f d r && along f n (suc d) (times_x w g r)

  pub along-at : (f : ℕ → ℕ → Bool) (n d r : ℕ) → T (along f n d r) → (i : ℕ) → i < n → T (f (d + i) (times_power w g i r))
  unfolding along times_power
  along-at f zero d r t i h = absurd (not-suc-le-zero h)
  along-at f (suc n) d r t zero h = subst (λ (x : ℕ). T (f x r)) (sym (add-zero d)) (left (f d r) (along f n (suc d) (times_x w g r)) t)
  along-at f (suc n) d r t (suc i) h =
      subst (λ (x : ℕ). T (f x (times_power w g (suc i) r))) (suc-add d i ∙ sym (add-suc d i))
      (subst (λ (x : ℕ). T (f (suc d + i) x)) (times_power-in w g i r)
      (along-at f n (suc d) (times_x w g r) (right (f d r) (along f n (suc d) (times_x w g r)) t) i (le_of_suc-le-suc h)))

  -- ---- a power that gives back r

  pub round : (m r : ℕ) → times_power w g m r ≡ r → (k : ℕ) → times_power w g (k * m) r ≡ r
  unfolding times_power
  round m r e zero = ap (λ (x : ℕ). times_power w g x r) (zero-mul m)
  round m r e (suc k) =
      ap (λ (x : ℕ). times_power w g x r) (suc-mul k m) ∙ times_power-add w g (k * m) m r ∙ ap (times_power w g m) (round m r e k) ∙ e

  -- ---- the first power times r that is below q, of at most n powers

  unfoldable pub below : ℕ → ℕ → ℕ → ℕ
  below zero q r = r
  below (suc n) q r = elim (leb q r) [ true ↦ below n q (times_x w g r) | false ↦ r ]

  -- it has whatever x r has where r has it
  pub below-has : (P : ℕ → Type 0) → ((r : ℕ) → P r → P (times_x w g r)) → (n q r : ℕ) → P r → P (below n q r)
  unfolding below
  below-has P h zero q r p = p
  below-has P h (suc n) q r p = go (leb q r) (below-has P h n q (times_x w g r) (h r p))
    where
      go : (b : Bool) → P (below n q (times_x w g r)) → P (elim b [ true ↦ below n q (times_x w g r) | false ↦ r ])
      go true a = a
      go false a = p
