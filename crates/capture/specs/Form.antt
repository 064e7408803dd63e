-- The form of a capture: document 01, "Capture and listing"; request 2. Two sections, each after its count in four octets, highest first: the settings
-- (mode, and E in two octets), and the lane octets. Nothing follows. Assumes nothing.
use Rattle.std.specs.Prelude.{Bool, not, ◌&&◌, List, [], ◌∷◌, ℕ, ◌+◌, ◌-◌, ◌*◌, ◌%◌, leb, eqb, length, get_or, drop, Result, Ok, Err}
use Rattle.answers.specs.declared.Refusal.{Refusal}
use Rattle.answers.specs.Numbers.{number as number_of}
use Rattle.bits.specs.Choice.{pick}
use Rattle.bits.specs.Order.{bit_at, number}
use Rattle.bits.specs.Refusals.{Line, ◌when◌, refusal_by}
use Rattle.frame.specs.Modes.{known, row, extent_fits}
use Rattle.frame.specs.Lane.{lane_octets}
use Rattle.capture.specs.declared.form.Opened.{Opened}

unfoldable pub mode_of : List ℕ → ℕ
mode_of capture = get_or capture 4 0

unfoldable pub extent_of : List ℕ → ℕ
extent_of capture = number (bit_at capture) 40 16

unfoldable pub lane_of : List ℕ → List ℕ
lane_of capture = drop 11 capture

-- the mode whose longest call says how long a capture may be: its own, and mode 0 where its own is unknown
unfoldable pub limited_by : ℕ → ℕ
limited_by mode = pick (known mode) mode 0

unfoldable pub longest_of : ℕ → ℕ
longest_of mode = lane_octets (row (limited_by mode)).gap * (row (limited_by mode)).most

-- the two counts are right, and there are no more lane octets than one call takes: 63,371 octets in all, and 64,011 in modes 2 and 3
unfoldable pub well_formed : List ℕ → Bool
well_formed capture =
    (leb 11 (length capture) && leb (length capture) (11 + longest_of (mode_of capture)))
    && (eqb (number (bit_at capture) 0 32) 3 && eqb (number (bit_at capture) 56 32) (length capture - 11))

-- the table, by the modes that are taken: 8 first, then document 01's order
abbrev pub refusals_by : (ℕ → Bool) → List ℕ → List Line
refusals_by taken capture =
    8 when not (well_formed capture)
    ∷ 1 when not (taken (mode_of capture))
    ∷ 2 when not (extent_fits (extent_of capture))
    ∷ 4 when not (eqb (length (lane_of capture) % lane_octets (row (mode_of capture)).gap) 0)
    ∷ []

abbrev pub refusals : List ℕ → List Line
refusals = refusals_by known

unfoldable pub refusal_of : List ℕ → ℕ
refusal_of capture = refusal_by (refusals capture)

-- a refusal, or 0 with the mode, E, and the lane octets
pub record Sections : Type 0 where
  pub refusal : ℕ
  pub mode : ℕ
  pub e : ℕ
  pub lane : List ℕ

abbrev pub refused_by : ℕ → Sections
refused_by refusal = record { refusal = refusal; mode = 0; e = 0; lane = [] }

-- an answer
abbrev pub opened_as : Result Opened Refusal → Sections
opened_as (Ok o) = record { refusal = 0; mode = o.mode; e = o.e; lane = o.lane.now }
opened_as (Err why) = refused_by (number_of why)

-- by the modes that are taken
unfoldable pub opened_by : (ℕ → Bool) → List ℕ → Sections
opened_by taken capture =
    let refusal = refusal_by (refusals_by taken capture) in
    pick (eqb refusal 0)
    (record { refusal = 0; mode = mode_of capture; e = extent_of capture; lane = lane_of capture })
    (refused_by refusal)
