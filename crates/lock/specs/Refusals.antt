-- What a step refuses, and what it answers: document 01, "Numbers of refusal". Assumes nothing.
use Rattle.std.specs.Prelude.{not, List, [], ◌∷◌, ℕ, ◌*◌, Result, Ok, Err, ltb, eqb}
use Rattle.answers.specs.declared.Refusal.{Refusal}
use Rattle.answers.specs.Numbers.{number}
use Rattle.bits.specs.Choice.{pick}
use Rattle.bits.specs.Refusals.{Line, ◌when◌, refusal_by}
use Rattle.frame.specs.Headers.{header_read}
use Rattle.frame.specs.Lane.{block_width}
use Rattle.frame.specs.Modes.{known, row, extent_fits}
use Rattle.lock.specs.Table.{lock_step}
use Rattle.lock.specs.Ranges.{accepted}
use Rattle.lock.specs.declared.Lock.{Lock}

-- the bits of a block in a mode
abbrev pub width_of : ℕ → ℕ
width_of mode = block_width (row mode).gap

-- the lines of document 01's table that a step is asked
abbrev pub refusals : ℕ → ℕ → Lock → ℕ → List Line
refusals mode E lock header =
    1 when not (known mode)
    ∷ 2 when not (extent_fits E)
    ∷ 3 when not (accepted (width_of mode) (32 * E) lock)
    ∷ 9 when ltb 3 header
    ∷ []

-- a refusal, or 0, and the locks for the next step: a refusal hands back the state given
pub record Stepped : Type 0 where
  pub refusal : ℕ
  pub lock : Lock

abbrev pub step_answer : Lock → Result Lock Refusal → Stepped
step_answer lock (Ok next) = record { refusal = 0; lock = next }
step_answer lock (Err why) = record { refusal = number why; lock = lock }

-- one call of step: a refusal hands back the state given
unfoldable pub stepped : ℕ → ℕ → Lock → ℕ → Stepped
stepped mode E lock header =
    let refusal = refusal_by (refusals mode E lock header) in
    record { refusal = refusal; lock = pick (eqb refusal 0) (lock_step (width_of mode) (32 * E) lock (header_read header)) lock }
