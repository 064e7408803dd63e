-- Laws of one of two, by a test, and of tests that hold together. Assumes nothing.
use mathlib.Core.Path.{◌≡◌, refl, sym}
use mathlib.Core.Bool.{Bool, true, false, not, ◌&&◌, true≢false}
use lib.Dec.{T}
use Rattle.bits.specs.Choice.{pick}

pub pick_true : {A : Type 0} (t : Bool) (a b : A) → T t → pick t a b ≡ a
pick_true true a b h = refl
pick_true {A = A} false a b h = elim h [ ]

pub pick-false : {A : Type 0} (t : Bool) (a b : A) → T (not t) → pick t a b ≡ b
pick-false false a b h = refl
pick-false {A = A} true a b h = elim h [ ]

-- what holds of each of two holds of the one that is taken
pub pick-both : {A : Type 0} (P : A → Type 0) (t : Bool) (a b : A) → (t ≡ true → P a) → (t ≡ false → P b) → P (pick t a b)
pick-both P true a b f g = f refl
pick-both P false a b f g = g refl

pub both_true : (a b : Bool) → a ≡ true → b ≡ true → (a && b) ≡ true
both_true true b e f = f
both_true false b e f = e

pub parts-true : (a b : Bool) → (a && b) ≡ true → (a ≡ true) × (b ≡ true)
parts-true true b e = (refl, e)
parts-true false b e = absurd (true≢false (sym e))
