-- All values of a map that adds up, from those at single bits: each bit doubles the list. Assumes nothing.
use mathlib.Core.Path.{◌≡◌, sym, ap, ap₂, ◌∙◌}
use mathlib.Core.List.{List, [], ◌∷◌, ◌++◌, map}
use Prim.Native.Nat.{ℕ, zero, suc, ◌+◌, ◌^◌, ◌≤◌, ◌<◌}
use native.Mathlib.Nat.{zero-add, add-zero, add-suc, one-mul, pow-suc}
use native.Mathlib.Omega.{arith}
use lib.Bits.{bit_xor, xor_shifted}
use Rattle.bits.specs.Order.{list_from}
use Rattle.bits.proofs.Additive.{Additive, additive-zero}
use Rattle.bits.proofs.Lists.{list-none, list-first, list-one, list-append}

module _ (F : ℕ → ℕ) where
  unfoldable pub summed : ℕ → List ℕ
  summed zero = 0 ∷ []
  summed (suc n) = summed n ++ map (bit_xor (F (2 ^ n))) (summed n)

  module _ (additive : Additive F) where
    -- a bit above j, which has n bits
    above : (n j : ℕ) → j < 2 ^ n → F (2 ^ n + j) ≡ bit_xor (F (2 ^ n)) (F j)
    above n j h =
        ap F (ap (λ (x : ℕ). x + j) (sym (one-mul (2 ^ n))) ∙ sym (xor_shifted 1 n j h) ∙ ap (λ (x : ℕ). bit_xor x j) (one-mul (2 ^ n)))
        ∙ additive (2 ^ n) j

    upper : (n j m : ℕ) → j + m ≤ 2 ^ n → list_from F (2 ^ n + j) m ≡ map (bit_xor (F (2 ^ n))) (list_from F j m)
    upper n j zero h = list-none F (2 ^ n + j) ∙ ap (map (bit_xor (F (2 ^ n)))) (sym (list-none F j))
    upper n j (suc m) h =
        list-first F (2 ^ n + j) m
        ∙ ap₂ (λ (x : ℕ) (l : List ℕ). x ∷ l) (above n j (omega arith))
        (ap (λ (k : ℕ). list_from F k m) (sym (add-suc (2 ^ n) j)) ∙ upper n (suc j) m (omega arith))
        ∙ ap (map (bit_xor (F (2 ^ n)))) (sym (list-first F j m))

    pub all-summed : (n : ℕ) → list_from F 0 (2 ^ n) ≡ summed n
    unfolding summed
    all-summed zero = list-one F 0 ∙ ap (λ (x : ℕ). x ∷ []) (additive-zero F additive)
    all-summed (suc n) =
        ap (list_from F 0) {x = 2 ^ suc n} {y = 2 ^ n + 2 ^ n} (omega (arith, pow-suc 2 n))
        ∙ list-append F 0 (2 ^ n) (2 ^ n)
        ∙ ap₂ (λ (l m : List ℕ). l ++ m) (all-summed n)
        (ap (λ (k : ℕ). list_from F k (2 ^ n)) (zero-add (2 ^ n) ∙ sym (add-zero (2 ^ n)))
        ∙ upper n 0 (2 ^ n) (omega arith)
        ∙ ap (map (bit_xor (F (2 ^ n)))) (all-summed n))
