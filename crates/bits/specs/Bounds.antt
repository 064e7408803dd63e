-- Lists of numbers below a bound: document 01, "Numbers of refusal". Assumes nothing.
use Rattle.std.specs.Prelude.{Bool, true, ◌&&◌, List, [], ◌∷◌, ℕ, ltb}

-- each number is below the bound
unfoldable pub all_below : ℕ → List ℕ → Bool
all_below bound [] = true
all_below bound (n ∷ numbers) = ltb n bound && all_below bound numbers
