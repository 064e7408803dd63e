-- Numbers of refusals, and when a list of commands is not refused: document 01, "Numbers of refusal". Assumes nothing.
use mathlib.Core.Path.{◌≡◌, ap, ◌∙◌}
use mathlib.Core.Bool.{true}
use mathlib.Core.List.{List}
use Prim.Native.Nat.{ℕ}
use borrow.Author.Tests.{ne_eqb}
use Rattle.bits.specs.Bounds.{all_below}
use Rattle.bits.specs.Refusals.{refusal_by}
use Rattle.frame.specs.declared.modes.Row.{Row}
use Rattle.frame.specs.declared.modes.Numbers.{Numbers}
use Rattle.frame.specs.Modes.{row, flagged_bound, numbers_of}
use Rattle.commands.specs.Writing.{channel_words}
use Rattle.commands.specs.Reading.{refusal_of as list_refusal}

module _ (mode : ℕ) (commands : List ℕ) (n : ℕ) (words : n ≡ channel_words mode) where
  module _ (channel : n ≡ 0 → ⊥) (R : Row) (own : R ≡ row mode) (numbers : Numbers) (follow : numbers ≡ numbers_of R) where
    bound : numbers.flagged ≡ flagged_bound (row mode).sync
    bound = ap (λ (x : Numbers). x.flagged) follow ∙ ap (λ (x : Row). flagged_bound x.sync) own

    pub list-fits : all_below numbers.flagged commands ≡ true → 0 ≡ list_refusal mode commands
    unfolding list_refusal refusal_by
    list-fits e = rw (← words, ne_eqb n 0 channel, ← bound, e)
