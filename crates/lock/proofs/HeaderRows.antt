-- What a valid header does to header lock while it hunts and while it is locked. Assumes nothing.
use mathlib.Core.Path.{◌≡◌, refl}
use mathlib.Core.Bool.{true}
use Prim.Native.Nat.{ℕ, ◌+◌, ◌<◌}
use native.Mathlib.Omega.{arith}
use borrow.Author.Tests.{ne_eqb}
use lib.Dec.{eqb}
use Rattle.bits.proofs.Choice.{pick-both}
use Rattle.lock.specs.HeaderTable.{header_hunting, header_locked, header_step}
use Rattle.lock.specs.declared.HeaderLock.{HeaderLock}

module _ (width : ℕ) where
  pub counts : (offset run : ℕ) → run < 63 → header_step width (header_hunting offset run) true ≡ header_hunting offset (run + 1)
  unfolding header_step
  counts offset run h = simp (ne_eqb (run + 1) 64 (λ z. omega arith))

  pub gains : (offset : ℕ) → header_step width (header_hunting offset 63) true ≡ header_locked offset 0 0
  unfolding header_step
  gains offset = refl

  pub stays-locked : (x : HeaderLock) → x.locked ≡ true → (header_step width x true).locked ≡ true
  unfolding header_step
  stays-locked x e = rw e (pick-both (λ (y : HeaderLock). y.locked ≡ true) (eqb (x.run + 1) 64) _ _ (λ q. refl) (λ q. refl))
