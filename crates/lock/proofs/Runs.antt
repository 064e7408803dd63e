-- Runs: a run over headers that follow each other is a run after a run, and a run of header values from fresh is never refused.
-- Assumes nothing.
use mathlib.Core.Path.{◌≡◌, refl, sym, ap, ◌∙◌, subst}
use mathlib.Core.List.{List, [], ◌∷◌, ◌++◌}
use mathlib.Core.Bool.{true}
use Prim.Native.Nat.{ℕ, zero, suc, ◌+◌, ◌*◌, ◌≤◌, ◌<◌}
use native.Mathlib.Numerals.{add-one}
use native.Mathlib.Nat.{zero-add}
use native.Mathlib.Omega.{arith}
use Rattle.bits.specs.Order.{list_from}
use Rattle.bits.proofs.Lists.{list-none, list-one, list-append, list_ext}
use Rattle.frame.specs.Headers.{header_read}
use Rattle.frame.specs.Modes.{known, row, extent_fits}
use Rattle.frame.proofs.Sizes.{width_some}
use Rattle.lock.specs.Table.{fresh, lock_step}
use Rattle.lock.specs.Refusals.{width_of, stepped, Stepped}
use Rattle.lock.specs.Run.{after, state_after}
use Rattle.lock.specs.declared.Lock.{Lock}
use Rattle.lock.proofs.Accepted.{accepted-fresh, Taken, stepped-taken, taken_next}

pub after-append : (mode E : ℕ) (lock : Lock) (a b : List ℕ) → after mode E lock (a ++ b) ≡ after mode E (after mode E lock a) b
unfolding after
after-append mode E lock [] b = refl
after-append mode E lock (header ∷ a) b = after-append mode E (stepped mode E lock header).lock a b

-- a run goes by the headers that it takes
pub state-same : (mode E : ℕ) (f g : ℕ → ℕ) (n : ℕ) → ((x : ℕ) → x < n → f x ≡ g x) → state_after mode E f n ≡ state_after mode E g n
unfolding state_after
state-same mode E f g n e = ap (after mode E fresh) (list_ext f g 0 0 n (λ j h. e (0 + j) (omega arith)))

module _ (mode E : ℕ) (headers : ℕ → ℕ) where
  -- a run goes on from the state where it stands
  pub state-on : (n m : ℕ) → state_after mode E headers (n + m) ≡ after mode E (state_after mode E headers n) (list_from headers n m)
  unfolding state_after
  state-on n m =
      ap (after mode E fresh) (list-append headers 0 n m) ∙ after-append mode E fresh (list_from headers 0 n) (list_from headers (0 + n) m)
      ∙ ap (λ (k : ℕ). after mode E (state_after mode E headers n) (list_from headers k m)) (zero-add n)

  pub state-none : state_after mode E headers 0 ≡ fresh
  unfolding state_after after
  state-none = ap (after mode E fresh) (list-none headers 0)

  pub state-suc : (n : ℕ) → state_after mode E headers (suc n) ≡ (stepped mode E (state_after mode E headers n) (headers n)).lock
  unfolding after
  state-suc n = ap (state_after mode E headers) (sym (add-one n)) ∙ state-on n 1 ∙ ap (after mode E (state_after mode E headers n)) (list-one headers n)

  -- a step that is taken goes by the tables
  pub state-next : (n : ℕ) → Taken mode E (state_after mode E headers n) (headers n) → state_after mode E headers (suc n) ≡ lock_step (width_of mode) (32 * E) (state_after mode E headers n) (header_read (headers n))
  state-next n t = state-suc n ∙ ap (λ (x : Stepped). x.lock) (stepped-taken t)

-- a block has bits
some-width : (mode : ℕ) → 0 < width_of mode
some-width mode = width_some (row mode).gap

module _ (mode E : ℕ) (headers : ℕ → ℕ) (of-mode : known mode ≡ true) (extent : extent_fits E ≡ true) (values : (n : ℕ) → headers n ≤ 3) where
  -- every step of a run from fresh is taken
  pub state-taken : (n : ℕ) → Taken mode E (state_after mode E headers n) (headers n)
  state-taken zero =
      subst (λ (x : Lock). Taken mode E x (headers 0)) (sym (state-none mode E headers))
      (record { of-mode = of-mode; extent = extent; state = accepted-fresh (width_of mode) (32 * E) (some-width mode); value = values 0 })
  state-taken (suc n) = subst (λ (x : Lock). Taken mode E x (headers (suc n))) (sym (state-suc mode E headers n)) (taken_next (state-taken n) (headers (suc n)) (values (suc n)))

  pub never-refused : (n : ℕ) → (stepped mode E (state_after mode E headers n) (headers n)).refusal ≡ 0
  never-refused n = ap (λ (x : Stepped). x.refusal) (stepped-taken (state-taken n))
