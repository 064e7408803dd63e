-- Header lock in range steps to header lock in range. Assumes nothing.
use mathlib.Core.Path.{◌≡◌}
use mathlib.Core.Bool.{Bool, true, false}
use Prim.Native.Nat.{ℕ, ◌+◌, ◌%◌, ◌≤◌, ◌<◌}
use native.Mathlib.Nat.{mod-lt}
use native.Mathlib.Omega.{arith}
use borrow.Author.Tests.{lt-ltb, ltb-true, le-leb, leb-true, eqb-false}
use lib.Dec.{eqb}
use Rattle.bits.proofs.Choice.{pick-both, parts-true}
use Rattle.lock.specs.HeaderTable.{header_hunting, header_locked, header_row, header_step}
use Rattle.lock.specs.Ranges.{header_in_range}
use Rattle.lock.specs.declared.HeaderLock.{HeaderLock}

pub record HeaderIn (width : ℕ) (x : HeaderLock) : Type 0 where
  pub run : x.run ≤ 63
  pub bad : x.bad ≤ 15
  pub offset : x.offset < width

pub header-in : (width : ℕ) (x : HeaderLock) → header_in_range width x ≡ true → HeaderIn width x
unfolding header_in_range
header-in width x e =
    let a = parts-true _ _ e in
    let b = parts-true _ _ a.0 in
    let c = parts-true _ _ b.0 in
    record { run = leb-true _ _ c.0; bad = leb-true _ _ c.1; offset = ltb-true _ _ b.1 }

pub hunting-in : (width offset run : ℕ) → run ≤ 63 → offset < width → header_in_range width (header_hunting offset run) ≡ true
unfolding header_in_range
hunting-in width offset run h k = simp (le-leb _ _ h, lt-ltb _ _ k)

locked-in : (width offset run bad : ℕ) → run ≤ 63 → bad ≤ 15 → offset < width → header_in_range width (header_locked offset run bad) ≡ true
unfolding header_in_range
locked-in width offset run bad h k l = simp (le-leb _ _ h, le-leb _ _ k, lt-ltb _ _ l)

module _ (width : ℕ) (x : HeaderLock) (i : HeaderIn width x) where
  abbrev InRange : HeaderLock → Type 0
  InRange y = header_in_range width y ≡ true

  header_row_lem : (isLocked isValid : Bool) → header_in_range width (header_row isLocked isValid width x) ≡ true
  header_row_lem false true =
      pick-both InRange (eqb (x.run + 1) 64) _ _ (λ e. locked-in width x.offset 0 0 (omega arith) (omega arith) i.offset)
      (λ e. hunting-in width x.offset (x.run + 1) (omega (arith, eqb-false (x.run + 1) 64 e)) i.offset)
  header_row_lem false false = hunting-in width ((x.offset + 1) % width) 0 (omega arith) (mod-lt (x.offset + 1) (omega (arith, i.offset)))
  header_row_lem true true =
      pick-both InRange (eqb (x.run + 1) 64) _ _ (λ e. locked-in width x.offset 0 0 (omega arith) (omega arith) i.offset)
      (λ e. locked-in width x.offset (x.run + 1) x.bad (omega (arith, eqb-false (x.run + 1) 64 e)) i.bad i.offset)
  header_row_lem true false =
      pick-both InRange (eqb (x.bad + 1) 16) _ _ (λ e. hunting-in width x.offset 0 (omega arith) i.offset)
      (λ e. locked-in width x.offset 0 (x.bad + 1) (omega arith) (omega (arith, eqb-false (x.bad + 1) 16 e)) i.offset)

pub header-keeps : (width : ℕ) (x : HeaderLock) (isValid : Bool) → header_in_range width x ≡ true → header_in_range width (header_step width x isValid) ≡ true
unfolding header_step
header-keeps width x isValid e = header_row_lem width x (header-in width x e) x.locked isValid
