-- What a sender refuses, and by which number: document 01, "Numbers of refusal"; request 2. Assumes nothing.
use Rattle.std.specs.Prelude.{Bool, not, ◌&&◌, List, [], ◌∷◌, ℕ, ◌*◌, ◌/◌, ◌%◌, ◌^◌, ltb, eqb, length}
use Rattle.bits.specs.Bounds.{all_below}
use Rattle.bits.specs.Refusals.{Line, ◌when◌, refusal_by}
use Rattle.frame.specs.Modes.{known, row, numbers_of, extent_fits}
use Rattle.sender.specs.declared.Sender.{Sender}

-- each field of a state is in its range, where parities and fill registers are below bounds
unfoldable pub state_fits : ℕ → ℕ → ℕ → Sender → Bool
state_fits parities fills E s = ltb s.history (2 ^ 58) && (ltb s.parity parities && (ltb s.number E && ltb s.fill fills))

-- the table, by the mode's numbers and the multiblocks that the user octets make
abbrev pub refusals : ℕ → ℕ → Sender → List ℕ → List ℕ → List ℕ → List Line
refusals mode E s user commands lane =
    let numbers = numbers_of (row mode) in
    let n = length user / 256 in
    1 when not (known mode)
    ∷ 2 when not (extent_fits E)
    ∷ 3 when not (state_fits numbers.parities numbers.fills E s)
    ∷ 4 when not (eqb (length user % 256) 0)
    ∷ 5 when ltb (row mode).most n
    ∷ 6 when not (eqb (length commands) n && all_below numbers.commands commands)
    ∷ 7 when ltb (length lane) (numbers.octets * n)
    ∷ []

unfoldable pub refusal_of : ℕ → ℕ → Sender → List ℕ → List ℕ → List ℕ → ℕ
refusal_of mode E s user commands lane = refusal_by (refusals mode E s user commands lane)
