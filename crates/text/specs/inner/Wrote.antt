-- What the writers of a listing's parts promise to each other. Assumes nothing.
use Rattle.std.specs.Prelude.{◌≡◌, List, [], ◌∷◌, ◌++◌, ℕ, ◌+◌, ◌-◌, ◌^◌, ◌≤◌, ◌<◌, length, min}
use Rattle.bits.specs.Order.{laid_at}
use Rattle.text.specs.Text.{decimal}

-- a list counted at a place, and the place after it; where it fits it stands there
pub record Wrote (new : List ℕ) (at : ℕ) (old : List ℕ) (next : ℕ) (text : List ℕ) : Type 0 where
  pub place : next ≡ min (at + length new) (2 ^ 64 - 1)
  pub room : length old < 2 ^ 64 - 1
  pub long : length text ≡ length old
  pub holds : at + length new ≤ length old → text ≡ laid_at new at old

-- a number, and the octet that ends it
abbrev pub field : ℕ → ℕ → List ℕ
field n end = decimal n ++ (end ∷ [])
