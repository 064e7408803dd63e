-- How many words the command channel of a mode has: clause 7.3.7.3. Assumes nothing.
use Prim.Native.Nat.{ℕ, ◌≤◌}
use lib.Dec.{lit≤}
use Rattle.bits.proofs.Choice.{pick-both}
use Rattle.frame.specs.declared.modes.Sync.{Sync}
use Rattle.frame.specs.declared.modes.Sync.TheVariants.{Crc12, Fec, Crc3, Command}
use Rattle.frame.specs.Modes.{command_words, known, row}
use Rattle.commands.specs.Writing.{channel_words}

few-by-sync : (S : Sync) → command_words S ≤ 3
few-by-sync Crc12 = lit≤ tt
few-by-sync Fec = lit≤ tt
few-by-sync Crc3 = lit≤ tt
few-by-sync Command = lit≤ tt

pub words-few : (mode : ℕ) → channel_words mode ≤ 3
unfolding channel_words
words-few mode = pick-both (λ (n : ℕ). n ≤ 3) (known mode) (command_words (row mode).sync) 0 (λ _. few-by-sync (row mode).sync) (λ _. lit≤ tt)
