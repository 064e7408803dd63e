-- When the last 32 headers match, by their bits: bit 0 is the latest. Assumes nothing.
use mathlib.Core.Path.{◌≡◌, sym, ap, ◌∙◌}
use mathlib.Core.Bool.{true, false, ◌&&◌}
use Prim.Native.Nat.{ℕ, ◌/◌, ◌%◌, ◌^◌, ◌≤◌, ◌<◌}
use borrow.Author.Tests.{le-leb, lt-leb, eqb-true}
use lib.Dec.{leb, eqb}
use Rattle.bits.proofs.Choice.{parts-true}
use Rattle.bits.proofs.Numbers.{digit_at}
use Rattle.lock.specs.ExtendedTable.{matches}
use Rattle.lock.specs.declared.ExtendedLock.{ExtendedLock}

module _ (x : ExtendedLock) where
  pub matches-is : matches x ≡ (leb 32 x.seen && eqb (x.headers / 2 ^ 9 % 2) 1 && eqb (x.headers % 2 ^ 5) 1)
  unfolding matches
  matches-is = ap (λ (d : ℕ). leb 32 x.seen && eqb d 1 && eqb (x.headers % 2 ^ 5) 1) (digit_at 32 x.headers 22)

  pub too_few : x.seen < 32 → matches x ≡ false
  too_few h = simp (matches-is, lt-leb 32 x.seen h)

  pub match-from : 32 ≤ x.seen → x.headers / 2 ^ 9 % 2 ≡ 1 → x.headers % 2 ^ 5 ≡ 1 → matches x ≡ true
  match-from h m e = simp (matches-is, le-leb 32 x.seen h, m, e)

  pub match-tells : matches x ≡ true → (x.headers / 2 ^ 9 % 2 ≡ 1) × (x.headers % 2 ^ 5 ≡ 1)
  match-tells r =
      let a = parts-true (leb 32 x.seen && eqb (x.headers / 2 ^ 9 % 2) 1) (eqb (x.headers % 2 ^ 5) 1) (sym matches-is ∙ r) in
      let b = parts-true (leb 32 x.seen) (eqb (x.headers / 2 ^ 9 % 2) 1) a.0 in
      (eqb-true (x.headers / 2 ^ 9 % 2) 1 b.1, eqb-true (x.headers % 2 ^ 5) 1 a.1)
