-- A bool as a number: 0 or 1. Assumes nothing.
use Rattle.std.specs.Prelude.{Bool, ℕ, leb, eqb}

-- whether a number is a bool, and the bool that it stands for
abbrev pub is_bool : ℕ → Bool
is_bool n = leb n 1

abbrev pub bool_of : ℕ → Bool
bool_of n = eqb n 1
