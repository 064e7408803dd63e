-- The run doesn't look at the counts of a state and carries them along; so releases are counted alike at once, step by step and call by call:
-- request 7. Assumes nothing.
use mathlib.Core.Path.{◌≡◌, refl, sym, ap, ◌∙◌}
use mathlib.Core.Bool.{Bool, true, false}
use mathlib.Core.List.{List, [], ◌∷◌, ◌++◌}
use Prim.Native.Nat.{ℕ, zero, suc}
use Rattle.bits.specs.Choice.{pick}
use Rattle.frame.specs.declared.modes.Row.{Row}
use Rattle.receiver.specs.declared.Receiver.{Receiver}
use Rattle.receiver.specs.Release.{Release, Step, parity_at, verdict_at, mended_at, release_at, waiting_at, step, run}
use Rattle.receiver.specs.Totals.{added, total, with_counts, uncounted, totalled}
use Rattle.receiver.proofs.Cut.{then}

-- ---- not looked at

-- with other counts in the state that a step left
abbrev carrying : ℕ → ℕ → ℕ → Step → Step
carrying a b c t = record { state = with_counts a b c t.state; out = t.out }

-- from a state with other counts the same is released, and the state left has those counts
abbrev Carries : (Receiver → Step) → Type 0
Carries f = (a b c : ℕ) (s : Receiver) → f (with_counts a b c s) ≡ carrying a b c (f s)

either : (a b c : ℕ) (w : Bool) (x y : Step) → pick w (carrying a b c x) (carrying a b c y) ≡ carrying a b c (pick w x y)
either a b c true x y = refl
either a b c false x y = refl

module _ (R : Row) (lane : ℕ → ℕ) where
  pub same-released : (m a b c : ℕ) (s : Receiver) → release_at R lane m (with_counts a b c s) ≡ release_at R lane m s
  unfolding release_at mended_at verdict_at parity_at
  same-released m a b c s = refl

  pub step-carries : (m : ℕ) → Carries (step R lane m)
  unfolding step waiting_at release_at mended_at verdict_at parity_at
  step-carries m a b c s = either a b c s.waiting _ _

  pub run-carries : (n : ℕ) → Carries (λ s. run R lane s n)
  unfolding run
  run-carries zero a b c s = refl
  run-carries (suc n) a b c s =
      ap (λ (x : Step). then x (step R lane n x.state)) (run-carries n a b c s)
      ∙ ap (then (carrying a b c (run R lane s n))) (step-carries n a b c (run R lane s n).state)

  -- the counts of the state given are those of the state left
  pub run-keeps : (s : Receiver) (n : ℕ) → run R lane s n ≡ carrying s.sound s.repaired s.failed (run R lane s n)
  run-keeps s n = run-carries n s.sound s.repaired s.failed s

  -- and two states that differ only in counts release the same, and leave two that differ only in counts
  pub same-but-counts : (s t : Receiver) (n : ℕ) → uncounted s ≡ uncounted t → carrying 0 0 0 (run R lane s n) ≡ carrying 0 0 0 (run R lane t n)
  same-but-counts s t n e = sym (run-carries n 0 0 0 s) ∙ ap (λ (x : Receiver). run R lane x n) e ∙ run-carries n 0 0 0 t

-- ---- counted alike

total-append : (kind count : ℕ) (a b : List Release) → total kind count (a ++ b) ≡ total kind (total kind count a) b
unfolding total
total-append kind count [] b = refl
total-append kind count (r ∷ a) b = total-append kind (added kind count r.status) a b

-- nothing received, nothing counted
pub none-counted : (R : Row) (lane : ℕ → ℕ) (s : Receiver) → (totalled (run R lane s 0)).state ≡ s
unfolding run total
none-counted R lane s = refl

-- what one step released before another, from the state in which that was counted
module _ (f : Receiver → Step) (carries : Carries f) (t : Step) where
  abbrev next : Step
  next = f t.state

  own-counts : next ≡ carrying t.state.sound t.state.repaired t.state.failed next
  own-counts = carries t.state.sound t.state.repaired t.state.failed t.state

  goes_on : (kind : ℕ) (was now : ℕ) → now ≡ was → total kind (total kind was t.out) next.out ≡ total kind now (t.out ++ next.out)
  goes_on kind was now e = sym (ap (λ (x : ℕ). total kind x (t.out ++ next.out)) e ∙ total-append kind was t.out next.out)

  pub counted-on : (totalled (f (totalled t).state)).state ≡ (totalled (then t next)).state
  counted-on =
      ap (λ (x : Step). (totalled x).state) (carries _ _ _ t.state)
      ∙ rw (
        goes_on 0 t.state.sound next.state.sound (ap (λ (x : Step). x.state.sound) own-counts),
        goes_on 1 t.state.repaired next.state.repaired (ap (λ (x : Step). x.state.repaired) own-counts),
        goes_on 2 t.state.failed next.state.failed (ap (λ (x : Step). x.state.failed) own-counts),
      )

  pub same_out : (f (totalled t).state).out ≡ next.out
  same_out = ap (λ (x : Step). x.out) (carries _ _ _ t.state)
