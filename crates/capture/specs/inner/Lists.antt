-- What the functions that list and tell a lane promise to each other. Assumes nothing.
use Rattle.std.specs.Prelude.{◌≡◌, true, List, ℕ, ◌*◌, ◌%◌, ◌≤◌, length, take}
use Rattle.frame.specs.Modes.{known, row, most_of_all}
use Rattle.frame.specs.Lane.{lane_octets}
use Rattle.receiver.specs.Release.{Release}
use Rattle.receiver.specs.Entry.{column}

-- how many were released, and lists that begin with theirs
pub record Lists (out : List Release) (count : ℕ) (s c p q : List ℕ) : Type 0 where
  pub few : count ≤ most_of_all
  pub number : count ≡ length out
  pub statuses : take count s ≡ column (λ (r : Release). r.status) out
  pub commands : take count c ≡ column (λ (r : Release). r.command) out
  pub places : take count p ≡ column (λ (r : Release). r.place) out
  pub patterns : take count q ≡ column (λ (r : Release). r.pattern) out

-- a lane that one call of a fresh receiver takes
pub record Receivable (mode : ℕ) (lane : List ℕ) : Type 0 where
  pub is_known : known mode ≡ true
  pub whole : length lane % lane_octets (row mode).gap ≡ 0
  pub short : length lane ≤ lane_octets (row mode).gap * (row mode).most
