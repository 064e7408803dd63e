-- What a sender sends: document 01, "From octets to lane bits"; requests 2 and 5; clauses 7.1.4, 7.2.5, 7.3.3, 7.4.1 and 7.5.1.
-- A run goes over commands, one for each multiblock, with 256 user octets each. Assumes nothing.
use Rattle.std.specs.Prelude.{Bool, List, [], ◌∷◌, ◌++◌, ℕ, ◌+◌, eqb, take, drop}
use Rattle.bits.specs.Choice.{pick, bit_of}
use Rattle.bits.specs.Order.{bit_at}
use Rattle.scrambler.specs.Scrambling.{scrambled, history_after}
use Rattle.parity.specs.Codeword.{multiblock_parity}
use Rattle.frame.specs.declared.modes.Row.{Row}
use Rattle.frame.specs.declared.sync.Parts.{Parts}
use Rattle.frame.specs.Modes.{code}
use Rattle.frame.specs.Lane.{multiblock, fill_after}
use Rattle.frame.specs.SyncWord.{sync_word, split}
use Rattle.sender.specs.declared.Sender.{Sender}

-- history, parity, multiblock number and fill register 0
abbrev pub fresh : Sender
fresh = record { history = 0; parity = 0; number = 0; fill = 0 }

-- whether a multiblock is the last of its extended multiblock
abbrev pub last : ℕ → Sender → Bool
last E s = eqb (s.number + 1) E

-- the parity of the multiblock sent for 256 user octets, in its two parts
unfoldable pub parts_sent : Row → Sender → List ℕ → Parts
parts_sent R s user = split R.sync (multiblock_parity (code R.sync) (bit_at (scrambled user s.history 256)))

-- the multiblock: its sync word carries of the parity of the one before the part that goes with the next, and of its own the other
unfoldable pub sent_one : Row → ℕ → Sender → List ℕ → ℕ → List ℕ
sent_one R E s user command =
    let parts : Parts = record { before = s.parity; own = (parts_sent R s user).own } in
    multiblock R.gap s.fill (sync_word R.sync parts command (bit_of (last E s))) (scrambled user s.history 256)

-- the state after it
unfoldable pub after_one : Row → ℕ → Sender → List ℕ → Sender
after_one R E s user = record {
  history = history_after (bit_at user) s.history 2048;
  parity = (parts_sent R s user).before;
  number = pick (last E s) 0 (s.number + 1);
  fill = fill_after R.gap s.fill;
}

-- a run: the lane, and the state after it
unfoldable pub lane : Row → ℕ → Sender → List ℕ → List ℕ → List ℕ
lane R E s user [] = []
lane R E s user (c ∷ commands) = sent_one R E s (take 256 user) c ++ lane R E (after_one R E s (take 256 user)) (drop 256 user) commands

unfoldable pub after : Row → ℕ → Sender → List ℕ → List ℕ → Sender
after R E s user [] = s
after R E s user (c ∷ commands) = after R E (after_one R E s (take 256 user)) (drop 256 user) commands
