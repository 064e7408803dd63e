-- A mode that has commands is known: request 6. Assumes nothing.
use mathlib.Core.Path.{◌≡◌, refl, sym}
use mathlib.Core.Bool.{Bool, true, false, not, true≢false}
use Prim.Native.Nat.{ℕ}
use lib.Dec.{eqb}
use Rattle.bits.specs.Choice.{pick}
use Rattle.frame.specs.Modes.{command_words, known, row}
use Rattle.commands.specs.Writing.{channel_words}
use Rattle.capture.specs.Messages.{has_commands}

pub known_some : (mode : ℕ) → has_commands mode ≡ true → known mode ≡ true
unfolding has_commands channel_words
known_some mode e = by (known mode) refl e
  where
    by : (b : Bool) → known mode ≡ b → not (eqb (pick b (command_words (row mode).sync) 0) 0) ≡ true → known mode ≡ true
    by true q h = q
    by false q h = absurd (true≢false (sym h))
