-- The seven pairs of fill bits of a block, of the register that the block takes: clause 7.2.5, Table 38; request 2. Assumes nothing.
use Rattle.std.specs.Prelude.{◌&&◌, List, [], ◌∷◌, ℕ, ◌+◌, ◌-◌, ◌*◌, ◌/◌, ◌%◌, ◌^◌, eqb, get_or}
use Rattle.bits.specs.Choice.{pick}
use Rattle.bits.specs.Order.{digit}

-- PRBS[k]
abbrev pub prbs : ℕ → ℕ → ℕ
prbs register k = register / 2 ^ k % 2

-- when a pair is replaced: never, or where PRBS[1] and PRBS[0] are these two bits
pub data Replaced : Type 0 where
  never : Replaced
  at : ℕ → ℕ → Replaced

-- what a pair is normally filled with, PRBS[high:low], and when it is replaced
pub data Filled : Type 0 where
  filled : ℕ → ℕ → Replaced → Filled

-- F0 to F6
abbrev pub table38 : List Filled
table38 =
    filled 4 3 never
    ∷ filled 6 5 (at 0 0)
    ∷ filled 8 7 (at 0 1)
    ∷ filled 10 9 never
    ∷ filled 12 11 (at 1 0)
    ∷ filled 14 13 (at 1 1)
    ∷ filled 16 15 never
    ∷ []

-- a pair's value: its left bit, which is sent first, times 2, and its right bit
abbrev pub pair_value : ℕ → ℕ → ℕ
pair_value left right = left * 2 + right

-- the pair of a row; its replacement is {not PRBS[2], PRBS[2]}
abbrev pub pair_in : ℕ → Filled → ℕ
pair_in register (filled high low never) = pair_value (prbs register high) (prbs register low)
pair_in register (filled high low (at second first)) =
    pick (eqb (prbs register 1) second && eqb (prbs register 0) first)
    (pair_value (1 - prbs register 2) (prbs register 2))
    (pair_value (prbs register high) (prbs register low))

-- the pairs of some rows, of all rows, and that of row k
abbrev pub pairs_in : ℕ → List Filled → List ℕ
pairs_in register [] = []
pairs_in register (row ∷ rows) = pair_in register row ∷ pairs_in register rows

unfoldable pub pairs_of : ℕ → List ℕ
pairs_of register = pairs_in register table38

unfoldable pub pair_of : ℕ → ℕ → ℕ
pair_of register k = get_or (pairs_of register) k 0

-- bit j, of 14, of the fill of a block, in the order sent
unfoldable pub fill_bit : ℕ → ℕ → ℕ
fill_bit register j = digit 2 (pair_of register (j / 2)) (j % 2)

-- pairs as one number, with the first the lowest, as they stand in the register
unfoldable pub packed : List ℕ → ℕ
packed [] = 0
packed (pair ∷ pairs) = packed pairs * 4 + pair
