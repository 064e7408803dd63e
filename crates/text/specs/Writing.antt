-- What a call that writes a listing answers, and what the text holds after it: document 01, "Capture and listing" and "Numbers of refusal".
-- Assumes nothing.
use Rattle.std.specs.Prelude.{not, ◌&&◌, List, [], ◌∷◌, ℕ, ltb, eqb, length}
use Rattle.answers.specs.Numbers.{Counted}
use Rattle.bits.specs.Choice.{pick}
use Rattle.bits.specs.Order.{laid}
use Rattle.bits.specs.Refusals.{Line, ◌when◌, refusal_by}
use Rattle.frame.specs.declared.modes.Row.{Row}
use Rattle.frame.specs.Modes.{most_of_all}
use Rattle.text.specs.Text.{text_of}

-- an answer, and the text at exit
pub record Done : Type 0 where
  pub answer : Counted
  pub text : List ℕ

abbrev pub done : Counted → List ℕ → Done
done answer text = record { answer = answer; text = text }

-- refused, with the text as it was; or laid over its start
unfoldable pub answer_of : ℕ → List ℕ → List ℕ → Done
answer_of refusal new text =
    pick (eqb refusal 0)
    (done (record { refusal = 0; count = length new }) (laid new text))
    (done (record { refusal = refusal; count = 0 }) text)

-- all that is asked where the lists are alike and few: whether there is room
abbrev pub room_over : List ℕ → List ℕ → Done
room_over new text = answer_of (refusal_by (7 when ltb (length text) (length new) ∷ [])) new text

-- the table: 4 where places or patterns are not as many as statuses, 5 where these are more than any call releases, 7 where there is no room
abbrev pub refusals : ℕ → ℕ → ℕ → List ℕ → List ℕ → List Line
refusals statuses places patterns new text =
    4 when not (eqb places statuses && eqb patterns statuses)
    ∷ 5 when ltb most_of_all statuses
    ∷ 7 when ltb (length text) (length new)
    ∷ []

unfoldable pub written : Row → ℕ → ℕ → List ℕ → List ℕ → List ℕ → List ℕ → Done
written R E received s p q text =
    let new = text_of R E received s p q in answer_of (refusal_by (refusals (length s) (length p) (length q) new text)) new text
