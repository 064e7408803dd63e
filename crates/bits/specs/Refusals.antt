-- Tables of refusals: document 01, "Numbers of refusal". Checks run from the first line on, and the first that applies wins. Assumes nothing.
use Rattle.std.specs.Prelude.{Bool, List, [], ◌∷◌, ℕ}
use Rattle.bits.specs.Choice.{pick}

infix 70 ◌when◌
-- a number, and when it is given
pub data Line : Type 0 where
  ◌when◌ : ℕ → Bool → Line

-- the number of the first line that applies; 0 where none does
unfoldable pub refusal_by : List Line → ℕ
refusal_by [] = 0
refusal_by (number when given ∷ lines) = pick given number (refusal_by lines)
