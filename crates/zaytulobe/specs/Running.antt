-- The longest run in numbers, for callers in C: its first multiblock and how many there are, or a refusal with neither (document 01, "What
-- the receiver releases"). Assumes nothing.
use Rattle.std.specs.Prelude.{List, ℕ, eqb}
use Rattle.bits.specs.Choice.{pick}
use Rattle.longest.specs.Longest.{span_of, refusal_for}
use Rattle.zaytulobe.specs.declared.RunNumbers.{RunNumbers}

unfoldable pub longest_numbers : List ℕ → List ℕ → RunNumbers
longest_numbers octets statuses =
    pick (eqb (refusal_for octets statuses) 0)
    (record { refusal = 0; start = (span_of statuses).start; count = (span_of statuses).count })
    (record { refusal = refusal_for octets statuses; start = 0; count = 0 })
