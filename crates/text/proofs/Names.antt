-- The parts of a mode's name: document 01, "Capture and listing"; request 2. Assumes nothing.
use mathlib.Core.Path.{◌≡◌, ap}
use mathlib.Core.List.{[], ◌∷◌, ◌++◌}
use Prim.Native.Nat.{ℕ}
use borrow.Author.Tests.{eq-eqb, ne_eqb}
use Rattle.frame.specs.declared.modes.Row.{Row}
use Rattle.frame.specs.declared.modes.Numbers.{Numbers}
use Rattle.frame.specs.Modes.{numbers_of}
use Rattle.text.specs.Text.{decimal, shape_name}

pub without-gaps : (gap : ℕ) → gap ≡ 0 → [] ≡ shape_name gap
unfolding shape_name
without-gaps gap e = simp (eq-eqb gap 0 e)

pub with-gaps : (R : Row) {n : Numbers} → (R.gap ≡ 0 → ⊥) → n ≡ numbers_of R → (45 ∷ []) ++ decimal n.width ≡ shape_name R.gap
unfolding shape_name
with-gaps R some e = simp (ne_eqb R.gap 0 some) (ap (λ (n : Numbers). 45 ∷ decimal n.width) e)
