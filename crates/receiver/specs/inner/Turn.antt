-- What the functions behind the receiver's entry promise to each other. Assumes nothing.
use Rattle.std.specs.Prelude.{◌≡◌, false, List, ℕ, ◌*◌, ◌≤◌, ltb, length}
use Rattle.bits.specs.Choice.{pick}
use Rattle.bits.specs.Order.{bit_at, laid}
use Rattle.frame.specs.declared.modes.Row.{Row}
use Rattle.frame.specs.Lane.{lane_octets, data_octets, header_at, sync_bit, invalid_headers}
use Rattle.frame.specs.SyncWord.{read_parts, flagged_command}
use Rattle.judge.specs.declared.Verdict.{Verdict}
use Rattle.judge.specs.Judge.{status_of}
use Rattle.receiver.specs.declared.Receiver.{Receiver}
use Rattle.receiver.specs.declared.run.Heard.{Heard}
use Rattle.receiver.specs.declared.run.Begun.{Begun}
use Rattle.receiver.specs.declared.run.Counts.{Counts}
use Rattle.receiver.specs.declared.run.Told.{Told}
use Rattle.receiver.specs.declared.run.Turn.{Turn}
use Rattle.receiver.specs.Release.{Release, waiting_at}
use Rattle.receiver.specs.Totals.{added}

-- all that is heard of multiblock m
unfoldable pub heard_at : Row → (ℕ → ℕ) → ℕ → Heard
heard_at R lane m = record {
  octets = data_octets R.gap lane m;
  parts = read_parts R.sync (sync_bit R.gap lane m);
  command = flagged_command R.sync (header_at R.gap lane m);
  invalid = invalid_headers R.gap lane m;
}

-- the state from which each multiblock received releases one, and how many of the lane's were taken for it
unfoldable pub begun_by : Row → Receiver → List ℕ → Begun
begun_by R s lane =
    pick s.waiting (record { state = s; taken = 0 })
    (pick (ltb (length lane) (lane_octets R.gap)) (record { state = s; taken = 0 })
    (record { state = waiting_at R (bit_at lane) 0 s 0 false; taken = 1 }))

-- buffers of these lengths hold what k releases write
pub record Room (k octets statuses commands places patterns invalid : ℕ) : Type 0 where
  pub octets-fit : 256 * k ≤ octets
  pub statuses-fit : k ≤ statuses
  pub commands-fit : k ≤ commands
  pub places-fit : k ≤ places
  pub patterns-fit : k ≤ patterns
  pub invalid-fit : k ≤ invalid

-- counts with one release more
unfoldable pub counts_after : Counts → Verdict → Counts
counts_after counts v = record {
  sound = added 0 counts.sound (status_of v);
  repaired = added 1 counts.repaired (status_of v);
  failed = added 2 counts.failed (status_of v);
}

-- what is told of a release
abbrev pub told_of : Release → Told
told_of r = record { status = r.status; command = r.command; place = r.place; pattern = r.pattern; invalid = r.invalid }

-- one release: its octets at the start of the part lent
pub record Turned (next : Receiver) (out : Release) (turn : Turn) (o o' : List ℕ) : Type 0 where
  pub state : turn.state ≡ next
  pub told : turn.told ≡ told_of out
  pub octets : o' ≡ laid out.octets o
