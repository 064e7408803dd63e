-- What request 4 asks of any step that is not refused: it returns a state that the next step takes, in which the kept phase and the followed one
-- are apart; and a look without a match leads to the kept phase. Assumes nothing.
use mathlib.Core.Path.{◌≡◌, refl, sym, ap, subst, ◌∙◌}
use mathlib.Core.Bool.{Bool, true, false, ◌&&◌, ◌||◌, true≢false}
use Prim.Native.Nat.{ℕ, ◌-◌, ◌*◌, ◌≤◌}
use borrow.Author.Tests.{eq-eqb, ne_eqb}
use lib.Dec.{eqb}
use Rattle.bits.proofs.Choice.{parts-true}
use Rattle.frame.specs.declared.headers.Header.{Header}
use Rattle.frame.specs.Headers.{header_read}
use Rattle.lock.specs.ExtendedTable.{with_header, matches, following, moved, extended_step}
use Rattle.lock.specs.Table.{lock_step}
use Rattle.lock.specs.Ranges.{phase_in_range, extended_in_range, is_hunting, is_fresh}
use Rattle.lock.specs.Refusals.{width_of, stepped, Stepped}
use Rattle.lock.specs.declared.Phase.{Phase}
use Rattle.lock.specs.declared.Phase.TheVariants.{Following}
use Rattle.lock.specs.declared.ExtendedLock.{ExtendedLock}
use Rattle.lock.specs.declared.Lock.{Lock}
use Rattle.lock.proofs.ExtendedRows.{step_by}
use Rattle.lock.proofs.ExtendedRange.{FollowingIn, following-range, phase-range}
use Rattle.lock.proofs.Accepted.{accepted-parts, Taken, taken, stepped-taken, accepted-after, taken_next}

-- a state that is accepted while following
following-in : (period : ℕ) (x : ExtendedLock) → extended_in_range period x ≡ true → x.phase ≡ Following → FollowingIn period x
following-in period x e f = following-range period x (subst (λ (g : Phase). phase_in_range g period x ≡ true) f (phase-range period x e))

fails : (period : ℕ) (x : ExtendedLock) → x.phase ≡ Following → x.next ≡ 1 → (x.kept ≡ 0 → ⊥) → (x.kept ≡ 1 → ⊥) → moved period x false ≡ following x 1 (x.kept - 1) 0
unfolding moved
fails period x f look some more = simp (f, eq-eqb x.next 1 look, ne_eqb x.kept 0 some, ne_eqb x.kept 1 more)

-- at a look without a match, the kept phase is followed
adopts : (period : ℕ) (x : ExtendedLock) (header : Header) → extended_in_range period x ≡ true → x.phase ≡ Following → x.next ≡ 1 → (x.kept ≡ 0 → ⊥)
    → matches (with_header x header) ≡ false → extended_step period x header ≡ following (with_header x header) 1 (x.kept - 1) 0
unfolding with_header
adopts period x header e f look some miss =
    let i = following-in period x e f in
    step_by period x header false miss ∙ fails period (with_header x header) f look some (λ z. i.apart (z ∙ sym look))

-- header lock is held where extended lock follows
left-of : (a b : Bool) → (b ≡ true → ⊥) → (a || b) ≡ true → a ≡ true
left-of true b n e = refl
left-of false b n e = absurd (n e)

not-fresh : (x : ExtendedLock) → x.phase ≡ Following → is_fresh x ≡ true → ⊥
unfolding is_fresh
not-fresh x f e = true≢false (sym (parts-true (eqb x.seen 0 && eqb x.headers 0) (is_hunting x.phase) e).1 ∙ ap is_hunting f)

-- while it is held, extended lock is stepped
steps : (width period : ℕ) (lock : Lock) (header : Header) → lock.header.locked ≡ true → (lock_step width period lock header).header.locked ≡ true
    → (lock_step width period lock header).extended ≡ extended_step period lock.extended header
unfolding lock_step
steps width period lock header was held = simp (was, held)

module _ (mode E : ℕ) (lock : Lock) (header : ℕ) (z : (stepped mode E lock header).refusal ≡ 0) where
  is-taken : Taken mode E lock header
  unfolding stepped
  is-taken = taken mode E lock header z

  returned : (stepped mode E lock header).lock ≡ lock_step (width_of mode) (32 * E) lock (header_read header)
  returned = ap (λ (x : Stepped). x.lock) (stepped-taken is-taken)

  pub goes_on : (next : ℕ) → next ≤ 3 → (stepped mode E (stepped mode E lock header).lock next).refusal ≡ 0
  goes_on next h = ap (λ (x : Stepped). x.refusal) (stepped-taken (taken_next is-taken next h))

  pub stays-apart : (stepped mode E lock header).lock.extended.phase ≡ Following
      → (stepped mode E lock header).lock.extended.kept ≡ (stepped mode E lock header).lock.extended.next → ⊥
  stays-apart f = (following-in (32 * E) _ (accepted-parts _ _ _ (accepted-after is-taken)).extended f).apart

  pub kept-followed : lock.extended.phase ≡ Following → lock.extended.next ≡ 1 → (lock.extended.kept ≡ 0 → ⊥)
      → matches (with_header lock.extended (header_read header)) ≡ false → (stepped mode E lock header).lock.header.locked ≡ true
      → (stepped mode E lock header).lock.extended ≡ following (with_header lock.extended (header_read header)) 1 (lock.extended.kept - 1) 0
  kept-followed f look some miss held =
      let a = accepted-parts (width_of mode) (32 * E) lock is-taken.state in
      let was = left-of lock.header.locked _ (not-fresh lock.extended f) a.waits in
      ap (λ (x : Lock). x.extended) returned
      ∙ steps (width_of mode) (32 * E) lock (header_read header) was (ap (λ (x : Lock). x.header.locked) (sym returned) ∙ held)
      ∙ adopts (32 * E) lock.extended (header_read header) a.extended f look some miss
