-- A list read: what may be relied on where it is not refused, and the answer. Document 01, "Numbers of refusal". Assumes nothing.
use mathlib.Core.Path.{◌≡◌, refl, sym, ◌∙◌}
use mathlib.Core.List.{List}
use Prim.Native.Nat.{ℕ, ◌≤◌}
use native.Mathlib.Nat.{pos_of_ne-zero}
use borrow.Author.Tests.{eqb-true, eqb-false, eq-eqb}
use lib.Dec.{eqb}
use Rattle.bits.proofs.Choice.{pick-both}
use Rattle.bits.proofs.Refusals.{not-given}
use Rattle.frame.specs.Modes.{row, flagged_bound}
use Rattle.commands.specs.Writing.{channel_words}
use Rattle.commands.specs.Reading.{refusals, refusal_of, event_in, Reading, unrefused, refused_with, reading}
use Rattle.commands.proofs.Channel.{words-few}

-- a list that is not refused has a command channel
pub list-channel : (mode : ℕ) (commands : List ℕ) → refusal_of mode commands ≡ 0 → 1 ≤ channel_words mode
unfolding refusal_of
list-channel mode commands ok =
    pos_of_ne-zero (eqb-false (channel_words mode) 0 (not-given 1 (refusals (channel_words mode) (flagged_bound (row mode).sync) commands) tt ok))

-- a read is refused by its list alone
pub read-refusal : (mode : ℕ) (commands : List ℕ) (from : ℕ) → (reading mode commands from).refusal ≡ refusal_of mode commands
unfolding reading
read-refusal mode commands from =
    let refusal = refusal_of mode commands in
    pick-both (λ (r : Reading). r.refusal ≡ refusal) (eqb refusal 0) (unrefused (event_in (channel_words mode) commands from)) (refused_with refusal from)
    (λ t. sym (eqb-true refusal 0 t)) (λ _. refl)

module _ (mode : ℕ) (commands : List ℕ) (from : ℕ) (r : ℕ) (e : r ≡ refusal_of mode commands) where
  module _ (z : r ≡ 0) (n : ℕ) (words : n ≡ channel_words mode) where
    pub list-ready : (1 ≤ n) × (n ≤ 3)
    list-ready = (rw words (list-channel mode commands (sym e ∙ z)), rw words (words-few mode))

    pub list_read : unrefused (event_in n commands from) ≡ reading mode commands from
    unfolding reading
    list_read = rw (← e, eq-eqb r 0 z, ← words)
