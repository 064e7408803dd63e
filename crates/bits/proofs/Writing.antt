-- Lists written one after the other over a buffer: each is laid where the one before ended. Document 01, "Capture and listing".
-- Assumes nothing.
use mathlib.Core.Path.{◌≡◌, sym, ap, ap₂, ◌∙◌}
use mathlib.Core.List.{List, [], ◌++◌, append_assoc, append-nil}
use Prim.Native.Nat.{ℕ, ◌+◌, ◌≤◌}
use native.Mathlib.Nat.{add-zero}
use native.Mathlib.Omega.{arith}
use lib.ListN.{length, take, drop, take-append-drop, length-append, length-drop}
use lib.Seq.{sets, sets-eq, take_at, drop_at, drop-drop, length-take-le}
use Rattle.bits.specs.Order.{laid_at}
use Rattle.bits.proofs.Laid.{fits}

pub length-laid_at : (new : List ℕ) (at : ℕ) (old : List ℕ) → at + length new ≤ length old → length (laid_at new at old) ≡ length old
length-laid_at new at old h =
    ap length (fits new at old h)
    ∙ length-append (take at old ++ new) (drop (at + length new) old)
    ∙ ap₂ ◌+◌ (length-append (take at old) new ∙ ap (λ (x : ℕ). x + length new) (length-take-le at old (omega arith))) (length-drop (at + length new) old)
    ∙ omega arith

-- nothing written
pub laid_at-none : (at : ℕ) (old : List ℕ) → at ≤ length old → laid_at [] at old ≡ old
laid_at-none at old h = fits [] at old (omega arith) ∙ ap₂ ◌++◌ (append-nil (take at old)) (ap (λ (x : ℕ). drop x old) (add-zero at)) ∙ take-append-drop at old

-- one list, and another behind it
pub laid_at-then : (xs ys : List ℕ) (at : ℕ) (old : List ℕ) → at + length xs + length ys ≤ length old
    → laid_at ys (at + length xs) (laid_at xs at old) ≡ laid_at (xs ++ ys) at old
laid_at-then xs ys at old h =
    let next = at + length xs in
    let first = take at old ++ xs in
    let rest = drop next old in
    let room : at + length xs ≤ length old = omega arith in
    let here : length first ≡ next = length-append (take at old) xs ∙ ap (λ (x : ℕ). x + length xs) (length-take-le at old (omega arith)) in
    let end : next + length ys ≡ at + length (xs ++ ys) = omega (arith, length-append xs ys) in
    let past : drop (next + length ys) (first ++ rest) ≡ drop (at + length (xs ++ ys)) old =
    sym (drop-drop (length ys) next (first ++ rest)) ∙ ap (drop (length ys)) (drop_at first rest next here) ∙ drop-drop (length ys) next old ∙ ap (λ (x : ℕ). drop x old) end in
    fits ys next (laid_at xs at old) (omega (arith, length-laid_at xs at old room))
    ∙ ap (λ (x : List ℕ). take next x ++ ys ++ drop (next + length ys) x) (fits xs at old room)
    ∙ ap₂ (λ (x y : List ℕ). x ++ ys ++ y) (take_at first rest next here) past
    ∙ ap (λ (x : List ℕ). x ++ drop (at + length (xs ++ ys)) old) (append_assoc (take at old) xs ys)
    ∙ sym (fits (xs ++ ys) at old (omega arith))
