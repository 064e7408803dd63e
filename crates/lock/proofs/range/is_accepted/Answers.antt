use Prim.Native.Nat.{ℕ}
use mathlib.Core.Path.{◌≡◌, refl, sym}
use mathlib.Core.Bool.{Bool, true, false, ◌&&◌}
use lib.Dec.{eqb}
use denote.Enum.Bare.{sameb}
use Rattle.bits.proofs.Choice.{parts-true}
use Rattle.lock.specs.contracts.Phase.{the_type}
use Rattle.lock.specs.Ranges.{phase_in_range, is_hunting, is_fresh, extended_in_range, accepted}
use Rattle.lock.specs.declared.Phase.{Phase}
use Rattle.lock.specs.declared.Phase.TheVariants.{Hunting, Following, Locked}
use Rattle.lock.specs.declared.ExtendedLock.{ExtendedLock}
use Rattle.lock.proofs.ExtendedRange.{phase-range}
use Rattle.lock.proofs.range.is_accepted.Goals as goal
use Rattle.lock.proofs.range.is_accepted.Goals.{then-header_in_range, else-header_in_range}

-- each field is that of a fresh one
abbrev same : Phase → ExtendedLock → Bool
same phase x = sameb the_type phase Hunting && (eqb x.seen 0 && (eqb x.headers 0 && (eqb x.good 0 && (eqb x.bad 0 && (eqb x.next 0 && eqb x.kept 0)))))

never : (a : Bool) → false ≡ (a && false)
never true = refl
never false = refl

both : (a b : Bool) → (a && (b && true)) ≡ (a && b && true)
both true b = refl
both false b = refl

-- what hunting doesn't use is 0 where the state is in range
same-fresh : (period : ℕ) (phase : Phase) (x : ExtendedLock) → phase_in_range phase period x ≡ true → same phase x ≡ (eqb x.seen 0 && eqb x.headers 0 && is_hunting phase)
same-fresh period Hunting x e =
    let a = parts-true _ (eqb x.kept 0) e in
    let b = parts-true _ (eqb x.next 0) a.0 in
    let d = parts-true (eqb x.good 0) (eqb x.bad 0) b.0 in
    rw (d.0, d.1, b.1, a.1) (both (eqb x.seen 0) (eqb x.headers 0))
same-fresh period Following x e = never (eqb x.seen 0 && eqb x.headers 0)
same-fresh period Locked x e = never (eqb x.seen 0 && eqb x.headers 0)

pub returns-else-header : goal.returns-else-header
unfolding accepted is_fresh
returns-else-header c =
    let a = c.args in
    let x = a.lock.extended in
    elim c.if-header_in_range.branch [
      | then-header_in_range w ↦
          let within : extended_in_range a.period x ≡ true = cc in
          let fresh = same-fresh a.period x.phase x (phase-range a.period x within) in
          simp (c.eq.ensures, c.fresh.ensures, sym c.header_in_range.ensures, w.if-header_in_range.true, within, c.if-header.false) fresh
      | else-header_in_range w ↦ absurd cc
    ]
