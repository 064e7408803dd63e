-- How many multiblocks were released sound, repaired and failed, as the front panel shows them: request 7. The run only carries these counts along;
-- they are a fold over what it released. Assumes nothing.
use Rattle.std.specs.Prelude.{List, [], ◌∷◌, ℕ, suc, ◌+◌, ◌%◌, ltb, eqb}
use Rattle.bits.specs.Choice.{pick, bit_of}
use Rattle.receiver.specs.declared.Receiver.{Receiver}
use Rattle.receiver.specs.Release.{Release, Step}

-- a count stops at the greatest number of 32 bits, and stays there
abbrev pub most_count : ℕ
most_count = 4294967295

unfoldable pub stopped : ℕ → ℕ
stopped n = pick (ltb n most_count) n most_count

-- a count of one kind with one release more: statuses 4, 5 and 6 are counted as 0, 1 and 2
unfoldable pub added : ℕ → ℕ → ℕ → ℕ
added kind count status = pick (eqb (status % 4) kind) (stopped (suc count)) count

-- and with all of these
unfoldable pub total : ℕ → ℕ → List Release → ℕ
total kind count [] = count
total kind count (r ∷ out) = total kind (added kind count r.status) out

-- a state with other counts
abbrev pub with_counts : ℕ → ℕ → ℕ → Receiver → Receiver
with_counts sound repaired failed s = record {
  waiting = s.waiting;
  octets = s.octets;
  history = s.history;
  trusted = s.trusted;
  command = s.command;
  invalid = s.invalid;
  own = s.own;
  sound = sound;
  repaired = repaired;
  failed = failed;
}

-- and with none: what two states that differ only in counts have in common
abbrev pub uncounted : Receiver → Receiver
uncounted = with_counts 0 0 0

-- what was released, counted in the state: sound is kind 0, repaired 1, failed 2. Without a parity (mode 5) nothing was checked, and `sound` is the
-- count's name alone.
abbrev pub totalled : Step → Step
totalled t = record {
  state = with_counts (total 0 t.state.sound t.out) (total 1 t.state.repaired t.out) (total 2 t.state.failed t.out) t.state;
  out = t.out;
}

-- how many of these statuses are of a kind
unfoldable pub how_many : ℕ → List ℕ → ℕ
how_many kind [] = 0
how_many kind (status ∷ l) = bit_of (eqb (status % 4) kind) + how_many kind l
