-- The numbers of the codes are those of document 01, "Parity": the checker computes both sides. Assumes nothing.
use mathlib.Core.Path.{refl}
use Rattle.polynomial.specs.Polynomial.{scale, times_lowest}
use Rattle.parity.specs.Numbers.{ParityNumbers, FecFactors}

pub parity-numbers : ParityNumbers
parity-numbers = (
  record { parity = refl; codeword = refl; bits = refl; burst = refl; number = refl; all = refl; terms = refl },
  record { parity = refl; codeword = refl; bits = refl; burst = refl; number = refl; all = refl; terms = refl },
  record { parity = refl; codeword = refl; bits = refl; burst = refl; number = refl; all = refl; terms = refl },
)

pub fec-factors : FecFactors
unfolding times_lowest scale
fec-factors = refl
