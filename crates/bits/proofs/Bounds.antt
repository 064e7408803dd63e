-- Lists of numbers below a bound.
-- Assumes nothing.
use Prim.Native.Nat.{ℕ, zero, suc, ◌<◌}
use mathlib.Core.Path.{◌≡◌, refl, ap}
use mathlib.Core.List.{List, [], ◌∷◌}
use mathlib.Core.Bool.{Bool, true, ◌&&◌}
use borrow.Author.Tests.{ltb-true}
use lib.Dec.{ltb}
use lib.ListN.{get_or}
use Rattle.std.specs.List.{list_all}
use Rattle.bits.specs.Bounds.{all_below}
use Rattle.bits.proofs.Choice.{parts-true}

-- each number is below it; past the last one 0 is read
pub one_below : (bound : ℕ) (numbers : List ℕ) → 0 < bound → all_below bound numbers ≡ true → (i : ℕ) → get_or numbers i 0 < bound
unfolding all_below
one_below bound [] some e i = some
one_below bound (n ∷ numbers) some e zero = ltb-true n bound (parts-true (ltb n bound) (all_below bound numbers) e).0
one_below bound (n ∷ numbers) some e (suc i) = one_below bound numbers some (parts-true (ltb n bound) (all_below bound numbers) e).1 i

-- as a test of each
pub each_below : (bound : ℕ) (numbers : List ℕ) → list_all (λ n. ltb n bound) numbers ≡ all_below bound numbers
unfolding all_below
each_below bound [] = refl
each_below bound (n ∷ numbers) = ap (λ (b : Bool). ltb n bound && b) (each_below bound numbers)
