-- One of two, by a test. Assumes nothing.
use Rattle.std.specs.Prelude.{Bool, true, false, ℕ}

abbrev pub pick : {A : Type 0} → Bool → A → A → A
pick true a b = a
pick false a b = b

-- a test as a bit
abbrev pub bit_of : Bool → ℕ
bit_of b = pick b 1 0
