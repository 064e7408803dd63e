-- Numbers of a stream, laid one by one over the start of a list.
-- Assumes nothing.
use mathlib.Core.Path.{◌≡◌, sym, ap, ap₂, ◌∙◌}
use mathlib.Core.List.{List, ◌++◌}
use Prim.Native.Nat.{ℕ, ◌+◌, ◌<◌}
use native.Mathlib.Omega.{arith}
use lib.ListN.{length, drop, set}
use Rattle.bits.specs.Order.{list_from, laid}
use Rattle.bits.proofs.Lists.{length-list, list-none, list-one, list-append}
use Rattle.bits.proofs.Laid.{laid-nothing, laid-all, laid-set}

pub none-laid : (f : ℕ → ℕ) (start : ℕ) (old : List ℕ) → old ≡ laid (list_from f start 0) old
none-laid f start old = sym (ap (λ (l : List ℕ). laid l old) (list-none f start) ∙ laid-nothing old)

pub one-more-laid : (f : ℕ → ℕ) (start k : ℕ) (old now : List ℕ) (x : ℕ) → k < length old → now ≡ laid (list_from f start k) old → x ≡ f (start + k)
    → set now k x ≡ laid (list_from f start (k + 1)) old
one-more-laid f start k old now x h e v =
    let so_far = list_from f start k in
    ap₂ (λ (l : List ℕ) (y : ℕ). set l k y) e v
    ∙ ap (λ (j : ℕ). set (laid so_far old) j (f (start + k))) (sym (length-list f start k))
    ∙ laid-set so_far old (f (start + k)) (omega (arith, length-list f start k))
    ∙ ap (λ (l : List ℕ). laid l old) (ap (λ (l : List ℕ). so_far ++ l) (sym (list-one f (start + k))) ∙ sym (list-append f start k 1))

-- where all of the list is laid over
pub all-laid : (f : ℕ → ℕ) (start k : ℕ) (old now : List ℕ) → k ≡ length old → now ≡ laid (list_from f start k) old → now ≡ list_from f start k
all-laid f start k old now all e = e ∙ laid-all (list_from f start k) old (omega (arith, length-list f start k))

-- and a list whose first numbers are these
pub laid-first : (f : ℕ → ℕ) (start k : ℕ) (old now : List ℕ) → now ≡ list_from f start k → now ++ drop k old ≡ laid (list_from f start k) old
unfolding laid
laid-first f start k old now e = ap (λ (l : List ℕ). l ++ drop k old) e ∙ ap (λ (n : ℕ). list_from f start k ++ drop n old) (sym (length-list f start k))
