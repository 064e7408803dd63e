-- The longest run of multiblocks with status 0 or 1, and its octets: document 01, "What the receiver releases". What makes a run the longest
-- is `Longest`; `span_of` finds it, and that it is the only one is proved beside (proofs/Spans.antt). Assumes nothing.
use Rattle.std.specs.Prelude.{List, [], ◌∷◌, ℕ, ◌+◌, ◌-◌, ◌*◌, ◌≤◌, ◌<◌, ltb, leb, eqb, length, get_or, take, drop}
use Rattle.bits.specs.Choice.{pick}
use Rattle.longest.specs.declared.Span.{Span}

-- multiblocks in a row, each of status 0 or 1
pub record Stretch (statuses : List ℕ) (start count : ℕ) : Type 0 where
  pub within : start + count ≤ length statuses
  pub good : (i : ℕ) → start ≤ i → i < start + count → get_or statuses i 0 ≤ 1

-- every run is at most as long, and none as long starts earlier; so an empty one starts at 0
pub record Longest (statuses : List ℕ) (start count : ℕ) : Type 0 where
  pub stretch : Stretch statuses start count
  pub most : (start' count' : ℕ) → Stretch statuses start' count' → count' ≤ count
  pub earliest : (start' : ℕ) → Stretch statuses start' count → start ≤ start'

-- the run that goes on past place i starts where it did if the status there is 0 or 1, else after it
unfoldable pub start_after : ℕ → ℕ → ℕ → ℕ
start_after status i start = pick (leb status 1) start (i + 1)

-- a later run is better only if it is longer
unfoldable pub longer : Span → ℕ → ℕ → Span
longer best start count = pick (ltb best.count count) (record { start = start; count = count }) best

-- statuses from place i on, where a run from start reaches up to i, and the best run before i is known
unfoldable pub scan : List ℕ → ℕ → ℕ → Span → Span
scan [] i start best = best
scan (status ∷ rest) i start best =
    let start' = start_after status i start in scan rest (i + 1) start' (longer best start' (i + 1 - start'))

-- no multiblocks at all
abbrev pub no_span : Span
no_span = record { start = 0; count = 0 }

unfoldable pub span_of : List ℕ → Span
span_of statuses = scan statuses 0 0 no_span

-- 4: octets that aren't 256 for each status
unfoldable pub refusal_for : List ℕ → List ℕ → ℕ
refusal_for octets statuses = pick (eqb (length octets) (256 * length statuses)) 0 4

-- the octets of the longest run; none where the call is refused
unfoldable pub part_of : List ℕ → List ℕ → List ℕ
part_of octets statuses =
    pick (eqb (refusal_for octets statuses) 0)
    (take (256 * (span_of statuses).count) (drop (256 * (span_of statuses).start) octets))
    []
