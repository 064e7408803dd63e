-- What an octet leaves by its row, and the test of a whole table: each entry is the sum of what its bits leave. Assumes nothing.
use mathlib.Core.Path.{◌≡◌, refl, sym, ap, ap₂, ◌∙◌, fun_ext}
use mathlib.Core.Bool.{Bool, true, ◌&&◌}
use mathlib.Core.List.{List, [], ◌∷◌}
use Prim.Native.Nat.{ℕ, suc, ◌-◌, ◌*◌}
use lib.Dec.{T}
use lib.ListN.{length, replicate}
use Rattle.bits.specs.Order.{list_from, bits_of, digits}
use Rattle.bits.proofs.Additive.{Additive}
use Rattle.bits.proofs.Tests.{left, right, same, same-list}
use Rattle.polynomial.specs.Polynomial.{times_power}
use Rattle.polynomial.specs.Remainder.{remainder_from}
use Rattle.polynomial.proofs.Polynomial.{times_power-xor}
use Rattle.polynomial.proofs.Remainder.{from_zero, from-digits}
use Rattle.polynomial.proofs.Register.{first-octet, zero-octets}
use Rattle.rows.specs.Rows.{row_entry, rows_from}
use Rattle.rows.proofs.Summed.{summed, all-summed}

module _ (w g : ℕ) where
  -- an octet's own remainder, moved on by the octets after it
  unfoldable pub moved : ℕ → ℕ → ℕ
  moved k v = times_power w g (8 * (7 - k)) (remainder_from w g 0 (digits 8 v))

  pub entry-moved : (k v : ℕ) → row_entry w g k v ≡ moved k v
  unfolding row_entry moved
  entry-moved k v =
      sym (from_zero w g (bits_of (v ∷ replicate (7 - k) 0)))
      ∙ first-octet w g 0 v (replicate (7 - k) 0)
      ∙ zero-octets w g (7 - k) (remainder_from w g 0 (digits 8 v))

  moved-additive : (k : ℕ) → Additive (moved k)
  unfolding moved
  moved-additive k a b =
      ap (times_power w g (8 * (7 - k))) (from-digits w g 8 0 0 a b)
      ∙ times_power-xor w g (8 * (7 - k)) (remainder_from w g 0 (digits 8 a)) (remainder_from w g 0 (digits 8 b))

  row-summed : (k : ℕ) → list_from (row_entry w g k) 0 256 ≡ summed (moved k) 8
  row-summed k = ap (λ (f : ℕ → ℕ). list_from f 0 256) (fun_ext (entry-moved k)) ∙ all-summed (moved k) (moved-additive k) 8

  -- a table whose rows, from row k on, are sums of what single bits leave
  unfoldable pub by_bits : ℕ → List (List ℕ) → Bool
  by_bits k [] = true
  by_bits k (l ∷ ls) = same l (summed (moved k) 8) && by_bits (suc k) ls

  pub table : (k : ℕ) (ls : List (List ℕ)) → T (by_bits k ls) → ls ≡ rows_from w g k (length ls)
  unfolding by_bits rows_from
  table k [] t = refl
  table k (l ∷ ls) t =
      let first = same l (summed (moved k) 8) in
      ap₂ (λ (r : List ℕ) (rs : List (List ℕ)). r ∷ rs)
      (same-list l (summed (moved k) 8) (left first (by_bits (suc k) ls) t) ∙ sym (row-summed k))
      (table (suc k) ls (right first (by_bits (suc k) ls) t))
