-- A multiblock waits until the next one has arrived with its parity, and is then released: document 01, "What the receiver releases";
-- requests 1, 5 and 7.
-- A lane is a stream of bits; multiblock m of it is the next to be received. Assumes nothing.
use Rattle.std.specs.Prelude.{Bool, true, false, List, [], ◌∷◌, ◌++◌, ℕ, zero, suc, replicate}
use Rattle.bits.specs.Choice.{pick}
use Rattle.bits.specs.Order.{bit_at, number}
use Rattle.scrambler.specs.Scrambling.{descrambled}
use Rattle.frame.specs.declared.modes.Row.{Row}
use Rattle.frame.specs.Lane.{data_octets, header_at, sync_bit, invalid_headers}
use Rattle.frame.specs.Modes.{before, own}
use Rattle.frame.specs.SyncWord.{read_parity, whole, flagged_command}
use Rattle.judge.specs.declared.Verdict.{Verdict}
use Rattle.receiver.specs.declared.Receiver.{Receiver}
use Rattle.judge.specs.Judge.{place_of, pattern_of, judged, mended, released_status, trusted_after}

-- nothing waiting, history 0 and no trust, and nothing counted
abbrev pub fresh : Receiver
fresh = record { waiting = false; octets = replicate 256 0; history = 0; trusted = false; command = 0; invalid = 0; own = 0; sound = 0; repaired = 0; failed = 0 }

pub record Release : Type 0 where
  pub octets : List ℕ
  pub status : ℕ
  pub command : ℕ
  pub place : ℕ
  pub pattern : ℕ
  pub invalid : ℕ  -- how many of its own 32 headers were invalid

-- a state, and what was released on the way to it
pub record Step : Type 0 where
  pub state : Receiver
  pub out : List Release

module _ (R : Row) (lane : ℕ → ℕ) where
  -- the parity received of the multiblock that waits: its own sync word's part of it, which waits with it, and the part in that of multiblock m
  unfoldable pub parity_at : ℕ → Receiver → ℕ
  parity_at m s = whole R.sync (record { before = read_parity R.sync before (sync_bit R.gap lane m); own = s.own })

  -- what it tells of that multiblock
  unfoldable pub verdict_at : ℕ → Receiver → Verdict
  verdict_at m s = judged R.sync s.octets (parity_at m s)

  unfoldable pub mended_at : ℕ → Receiver → List ℕ
  mended_at m s = mended (verdict_at m s) s.octets

  unfoldable pub release_at : ℕ → Receiver → Release
  release_at m s = record {
    octets = descrambled (mended_at m s) s.history 256;
    status = released_status (verdict_at m s) s.trusted;
    command = s.command;
    place = place_of (verdict_at m s);
    pattern = pattern_of (verdict_at m s);
    invalid = s.invalid;
  }

  -- multiblock m waits from now on, after a history that is trusted or not, with the counts of the state before (request 7)
  unfoldable pub waiting_at : ℕ → Receiver → ℕ → Bool → Receiver
  waiting_at m s history trusted = record {
    waiting = true;
    octets = data_octets R.gap lane m;
    history = history;
    trusted = trusted;
    command = flagged_command R.sync (header_at R.gap lane m);
    invalid = invalid_headers R.gap lane m;
    own = read_parity R.sync own (sync_bit R.gap lane m);
    sound = s.sound;
    repaired = s.repaired;
    failed = s.failed;
  }

  -- multiblock m is received: the one that waits, if there is one, is released; the next history is its last 58 bits, mended
  unfoldable pub step : ℕ → Receiver → Step
  step m s =
      pick s.waiting
      (record { state = waiting_at m s (number (bit_at (mended_at m s)) 1990 58) (trusted_after (verdict_at m s)); out = release_at m s ∷ [] })
      (record { state = waiting_at m s 0 false; out = [] })

  -- the first n multiblocks are received
  unfoldable pub run : Receiver → ℕ → Step
  run s zero = record { state = s; out = [] }
  run s (suc n) = record { state = (step n (run s n).state).state; out = (run s n).out ++ (step n (run s n).state).out }
