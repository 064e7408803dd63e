-- Which octets may be believed: document 01, "What the receiver releases"; request 5. Assumes nothing.
use Rattle.std.specs.Prelude.{Bool, ◌&&◌, ◌||◌, ℕ, leb, eqb}
use Rattle.bits.specs.Choice.{pick}
use Rattle.frame.specs.declared.modes.Sync.{Sync}
use Rattle.frame.specs.Modes.{checks}

-- what an octet is called
pub data Soundness : Type 0 where
  sound : Soundness
  unchecked : Soundness  -- as sound, where there is no parity that could disagree
  unsound : Soundness

-- octet j of a multiblock with a status: document 01's sentence
unfoldable pub intact : ℕ → ℕ → Bool
intact status j = (eqb status 0 || eqb status 1) || ((eqb status 4 || eqb status 5) && leb 8 j)

-- the same with each kind of sync word
unfoldable pub soundness : Sync → ℕ → ℕ → Soundness
soundness S status j = pick (intact status j) (pick (checks S) sound unchecked) unsound
