-- Eight rows of remainders, one row per octet of the block: request 3; document 01, "Code places and their forms". Assumes nothing.
use Rattle.std.specs.Prelude.{List, [], ◌∷◌, ℕ, zero, suc, ◌-◌, replicate}
use Rattle.bits.specs.Order.{bits_of, list_from}
use Rattle.polynomial.specs.Remainder.{remainder}

module _ (w g : ℕ) where
  -- row k, entry v: the remainder of octet v followed by 7 - k octets of zeros
  unfoldable pub row_entry : ℕ → ℕ → ℕ
  row_entry k v = remainder w g (bits_of (v ∷ replicate (7 - k) 0))

  -- the n rows from row k on
  unfoldable pub rows_from : ℕ → ℕ → List (List ℕ)
  rows_from k zero = []
  rows_from k (suc n) = list_from (row_entry k) 0 256 ∷ rows_from (suc k) n

  abbrev pub eight_rows : List (List ℕ)
  eight_rows = rows_from 0 8
