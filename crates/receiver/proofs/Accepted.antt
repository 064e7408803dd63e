-- Every state that an accepted call leaves is accepted again, and so is a fresh one: document 01, "Numbers of refusal". Assumes nothing.
use mathlib.Core.Path.{◌≡◌, refl, sym}
use mathlib.Core.Bool.{Bool, true, false}
use Prim.Native.Nat.{ℕ, zero, suc, ◌^◌, ◌<◌}
use native.Mathlib.Omega.{arith}
use lib.Pow.{pow_pos}
use Rattle.bits.specs.Choice.{pick}
use Rattle.bits.specs.Order.{bit_at}
use Rattle.bits.proofs.Numbers.{bit_at_lt, number_lt}
use Rattle.frame.specs.declared.modes.Sync.{Sync}
use Rattle.frame.specs.declared.modes.Row.{Row}
use Rattle.frame.specs.Modes.{own, parity, layout, parity_width, flagged_bound}
use Rattle.frame.specs.declared.headers.Header.TheVariants.{Zero}
use Rattle.frame.specs.Lane.{header_at, sync_bit}
use Rattle.frame.proofs.Lane.{invalid-at-le, sync_bit-lt}
use Rattle.frame.proofs.SyncWord.{flagged-fits, read-lt}
use Rattle.receiver.specs.declared.Receiver.{Receiver}
use Rattle.receiver.specs.Release.{Step, fresh, waiting_at, step, run}
use Rattle.receiver.specs.Totals.{total, with_counts, totalled}
use Rattle.receiver.specs.Refusal.{all_zero, as_fresh, state_fits}
use Rattle.receiver.proofs.Refusals.{waiting-fits, idle-fits}

-- by the bounds of a kind of sync word
abbrev pub fits : Sync → Receiver → Bool
fits S = state_fits (flagged_bound S) (2 ^ parity_width S own)

module _ (R : Row) (lane : ℕ → ℕ) where
  waiting-accepted : (m a b c : ℕ) (s : Receiver) (history : ℕ) (trusted : Bool) → history < 2 ^ 58 → fits R.sync (with_counts a b c (waiting_at R lane m s history trusted)) ≡ true
  unfolding waiting_at
  waiting-accepted m a b c s history trusted h =
      let S = R.sync in
      sym (waiting-fits (flagged_bound S) (2 ^ parity_width S own) _ h (flagged-fits S (header_at R.gap lane m)) (invalid-at-le R.gap lane m)
      (read-lt (layout S) (parity own) (parity_width S own) (sync_bit R.gap lane m) (sync_bit-lt R.gap lane m)) refl)

  either : (a b c : ℕ) (w : Bool) (x y : Step)
      → fits R.sync (with_counts a b c x.state) ≡ true → fits R.sync (with_counts a b c y.state) ≡ true → fits R.sync (with_counts a b c (pick w x y).state) ≡ true
  either a b c true x y h k = h
  either a b c false x y h k = k

  -- whatever is counted
  pub step-accepted : (m a b c : ℕ) (s : Receiver) → fits R.sync (with_counts a b c (step R lane m s).state) ≡ true
  unfolding step
  step-accepted m a b c s =
      either a b c s.waiting _ _ (waiting-accepted m a b c s _ _ (number_lt (bit_at _) (bit_at_lt _) 1990 58)) (waiting-accepted m a b c s 0 false (pow_pos 58))

  pub accepted-again : (s : Receiver) (n : ℕ) → fits R.sync s ≡ true → fits R.sync (totalled (run R lane s n)).state ≡ true
  unfolding run total
  accepted-again s zero h = h
  accepted-again s (suc n) h = step-accepted n _ _ _ (run R lane s n).state

pub fresh-accepted : (S : Sync) → fits S fresh ≡ true
unfolding as_fresh all_zero
fresh-accepted S =
    let some = flagged-fits S (λ t. Zero) in
    sym (idle-fits (flagged_bound S) (2 ^ parity_width S own) fresh (pow_pos 58) (omega (arith, some)) (omega arith) (pow_pos (parity_width S own)) refl)
