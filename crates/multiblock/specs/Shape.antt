-- By which gap a multiblock is written and read: request 2. Assumes nothing.
use Rattle.std.specs.Prelude.{ℕ, eqb}
use Rattle.bits.specs.Choice.{pick}

-- blocks have no gaps, or gaps of two bits: one that no mode has is taken for two bits
unfoldable pub shape : ℕ → ℕ
shape gap = pick (eqb gap 0) 0 2
