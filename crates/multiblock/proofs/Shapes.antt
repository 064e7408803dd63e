-- By which gap a multiblock is written and read: every mode's own. Request 2. Assumes nothing.
use mathlib.Core.Path.{◌≡◌, refl}
use Prim.Native.Nat.{ℕ}
use Rattle.frame.specs.declared.modes.Row.{Row}
use Rattle.frame.specs.Modes.{row}
use Rattle.frame.proofs.Rows.{of-each}
use Rattle.multiblock.specs.Shape.{shape}

-- no mode has another gap
pub own-shape : (mode : ℕ) → shape (row mode).gap ≡ (row mode).gap
unfolding shape
own-shape = of-each (λ (R : Row). shape R.gap ≡ R.gap) (refl, (refl, (refl, (refl, (refl, (refl, tt)))))) refl
