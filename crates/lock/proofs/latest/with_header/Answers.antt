use Prim.Native.Nat.{ℕ, ◌+◌, min}
use mathlib.Core.Path.{◌≡◌}
use native.Mathlib.Omega.{arith}
use borrow.Author.Tests.{ltb-true, ltb-false}
use lib.Dec.{ltb}
use Rattle.bits.specs.Choice.{pick}
use Rattle.bits.proofs.Choice.{pick-both}
use Rattle.lock.specs.ExtendedTable.{with_header}
use Rattle.lock.proofs.latest.with_header.Goals as goal

-- one more header is counted, up to 32
one_more : (n : ℕ) → min n 31 + 1 ≡ pick (ltb n 32) (n + 1) 32
one_more n = pick-both (λ (k : ℕ). min n 31 + 1 ≡ k) (ltb n 32) (n + 1) 32 (λ q. omega (arith, ltb-true n 32 q)) (λ q. omega (arith, ltb-false n 32 q))

pub returns : goal.returns
unfolding with_header
returns c = simp (c.carries-bit.ensures, c.min.ensures, one_more)
