-- How many are released: n received release n - 1 from a state with nothing waiting, and n from one with one waiting: document 01, "What the
-- receiver releases". Assumes nothing.
use mathlib.Core.Path.{◌≡◌, refl, ap, ◌∙◌}
use mathlib.Core.Bool.{Bool, true, false}
use mathlib.Core.List.{List, [], ◌∷◌, ◌++◌}
use Prim.Native.Nat.{ℕ, zero, suc, ◌+◌, ◌-◌, ◌<◌}
use native.Mathlib.Numerals.{add-one}
use native.Mathlib.Omega.{arith}
use lib.ListN.{length, length-append}
use Rattle.bits.specs.Choice.{pick}
use Rattle.frame.specs.declared.modes.Row.{Row}
use Rattle.receiver.specs.declared.Receiver.{Receiver}
use Rattle.receiver.specs.Release.{Release, Step, waiting_at, release_at, step, run}
use Rattle.receiver.specs.Refusal.{releases}

either-waits : (w : Bool) (a b : Step) → a.state.waiting ≡ true → b.state.waiting ≡ true → (pick w a b).state.waiting ≡ true
either-waits true a b h k = h
either-waits false a b h k = k

module _ (R : Row) (lane : ℕ → ℕ) where
  -- whatever came before, the multiblock received waits
  pub then-waits : (m : ℕ) (s : Receiver) → (step R lane m s).state.waiting ≡ true
  unfolding step waiting_at
  then-waits m s = either-waits s.waiting _ _ refl refl

  pub step-released : (m : ℕ) (s : Receiver) → s.waiting ≡ true → (step R lane m s).out ≡ release_at R lane m s ∷ []
  unfolding step
  step-released m s w = simp w

  pub step-first : (m : ℕ) (s : Receiver) → s.waiting ≡ false → step R lane m s ≡ record { state = waiting_at R lane m s 0 false; out = [] }
  unfolding step
  step-first m s w = simp w

  module _ (s : Receiver) where
    waits-on : (n : ℕ) → (run R lane s (suc n)).state.waiting ≡ true
    unfolding run
    waits-on n = then-waits n (run R lane s n).state

    pub run-waits : (n : ℕ) → s.waiting ≡ true → (run R lane s n).state.waiting ≡ true
    unfolding run
    run-waits zero w = w
    run-waits (suc n) w = waits-on n

    one_more : (n : ℕ) → (run R lane s n).state.waiting ≡ true → (run R lane s (suc n)).out ≡ (run R lane s n).out ++ (release_at R lane n (run R lane s n).state ∷ [])
    unfolding run
    one_more n w = ap (λ (l : List Release). (run R lane s n).out ++ l) (step-released n (run R lane s n).state w)

    pub run_more : (n : ℕ) → s.waiting ≡ true
        → run R lane s (n + 1) ≡ record { state = (step R lane n (run R lane s n).state).state; out = (run R lane s n).out ++ (release_at R lane n (run R lane s n).state ∷ []) }
    unfolding run
    run_more n w =
        ap (run R lane s) (add-one n)
        ∙ ap (λ (l : List Release). record { state = (step R lane n (run R lane s n).state).state; out = l }) (one_more n (run-waits n w))

    longer : (n : ℕ) → (run R lane s n).state.waiting ≡ true → length (run R lane s (suc n)).out ≡ suc (length (run R lane s n).out)
    longer n w = ap length (one_more n w) ∙ length-append (run R lane s n).out (release_at R lane n (run R lane s n).state ∷ []) ∙ add-one (length (run R lane s n).out)

    pub all-counted : (n : ℕ) → s.waiting ≡ true → length (run R lane s n).out ≡ n
    unfolding run
    all-counted zero w = refl
    all-counted (suc n) w = longer n (run-waits n w) ∙ ap suc (all-counted n w)

    -- where there are any
    pub counted : (n : ℕ) → (0 < n → s.waiting ≡ true) → length (run R lane s n).out ≡ n
    unfolding run
    counted zero w = refl
    counted (suc n) w = all-counted (suc n) (w (omega arith))

    but-one : (n : ℕ) → s.waiting ≡ false → length (run R lane s (suc n)).out ≡ n
    unfolding run
    but-one zero w = ap (λ (x : Step). length x.out) (step-first 0 s w)
    but-one (suc n) w = longer (suc n) (waits-on n) ∙ ap suc (but-one n w)

    pub counts : (n : ℕ) → length (run R lane s n).out ≡ releases s.waiting n
    unfolding releases
    counts n = by s.waiting n refl
      where
        by : (w : Bool) (n : ℕ) → s.waiting ≡ w → length (run R lane s n).out ≡ pick w n (n - 1)
        by true n e = all-counted n e
        by false zero e = unfold run in refl
        by false (suc n) e = but-one n e ∙ omega arith
