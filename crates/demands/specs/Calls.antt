-- Calls one after another, each accepted and each given the state that the call before returned: document 01, "From octets to lane bits" and
-- "What the receiver releases". What was sent and released is read off the answers and the lent buffers. Assumes nothing.
use Rattle.std.specs.Prelude.{◌≡◌, List, [], ◌∷◌, ◌++◌, ℕ, ◌+◌, ◌*◌, take}
use Rattle.frame.specs.Modes.{row}
use Rattle.frame.specs.Lane.{lane_octets}
use Rattle.sender.specs.declared.Sender.{Sender}
use Rattle.sender.specs.Entry as sender
use Rattle.receiver.specs.declared.Receiver.{Receiver}
use Rattle.receiver.specs.Entry as receiver

-- ---- the sender's

-- what one call is given: user octets, commands, and the lent lane
pub record Sending : Type 0 where
  pub user : List ℕ
  pub commands : List ℕ
  pub lane : List ℕ

abbrev pub user_octets : List Sending → List ℕ
user_octets [] = []
user_octets (c ∷ calls) = c.user ++ user_octets calls

abbrev pub commands_given : List Sending → List ℕ
commands_given [] = []
commands_given (c ∷ calls) = c.commands ++ commands_given calls

module _ (mode E : ℕ) where
  abbrev pub sending : Sender → Sending → sender.Done
  sending s c = sender.entry mode E s c.user c.commands c.lane

  abbrev pub AllSent : Sender → List Sending → Type 0
  AllSent s [] = Unit {0}
  AllSent s (c ∷ calls) = ((sending s c).answer.refusal ≡ 0) × AllSent (sending s c).answer.state calls

  -- the lane: of each call as many octets as its count says
  abbrev pub lane_sent : Sender → List Sending → List ℕ
  lane_sent s [] = []
  lane_sent s (c ∷ calls) = take (lane_octets (row mode).gap * (sending s c).answer.count) (sending s c).lane ++ lane_sent (sending s c).answer.state calls

-- ---- the receiver's

-- what one call is given: lane octets, and the six lent buffers
pub record Receiving : Type 0 where
  pub lane : List ℕ
  pub octets : List ℕ
  pub statuses : List ℕ
  pub commands : List ℕ
  pub places : List ℕ
  pub patterns : List ℕ
  pub invalid : List ℕ

abbrev pub lane_heard : List Receiving → List ℕ
lane_heard [] = []
lane_heard (c ∷ calls) = c.lane ++ lane_heard calls

module _ (mode : ℕ) where
  abbrev pub receiving : Receiver → Receiving → receiver.Done
  receiving s c = receiver.entry mode s c.lane c.octets c.statuses c.commands c.places c.patterns c.invalid

  abbrev pub AllHeard : Receiver → List Receiving → Type 0
  AllHeard s [] = Unit {0}
  AllHeard s (c ∷ calls) = ((receiving s c).answer.refusal ≡ 0) × AllHeard (receiving s c).answer.state calls

  -- the state that all leave
  abbrev pub state_left : Receiver → List Receiving → Receiver
  state_left s [] = s
  state_left s (c ∷ calls) = state_left (receiving s c).answer.state calls

  -- all octets released: of each call as many as its count says
  abbrev pub octets_released : Receiver → List Receiving → List ℕ
  octets_released s [] = []
  octets_released s (c ∷ calls) = take (256 * (receiving s c).answer.count) (receiving s c).octets ++ octets_released (receiving s c).answer.state calls

  -- and of a list with one entry for each release
  abbrev pub list_released : (receiver.Done → List ℕ) → Receiver → List Receiving → List ℕ
  list_released list s [] = []
  list_released list s (c ∷ calls) = take (receiving s c).answer.count (list (receiving s c)) ++ list_released list (receiving s c).answer.state calls

  -- how many were released: what the counts of the calls say together
  abbrev pub count_released : Receiver → List Receiving → ℕ
  count_released s [] = 0
  count_released s (c ∷ calls) = (receiving s c).answer.count + count_released (receiving s c).answer.state calls

  abbrev pub statuses_released : Receiver → List Receiving → List ℕ
  statuses_released = list_released (λ (d : receiver.Done). d.statuses)

  abbrev pub commands_released : Receiver → List Receiving → List ℕ
  commands_released = list_released (λ (d : receiver.Done). d.commands)

  abbrev pub invalid_released : Receiver → List Receiving → List ℕ
  invalid_released = list_released (λ (d : receiver.Done). d.invalid)
