-- An accepted state steps to an accepted state, so that a call which is taken returns a state that the next one takes; a call is taken exactly
-- where all its parts are in range. Assumes nothing.
use mathlib.Core.Path.{◌≡◌, refl, sym, ap, subst, ◌∙◌}
use mathlib.Core.Bool.{Bool, true, false, not, ◌||◌, or-true}
use Prim.Native.Nat.{ℕ, ◌*◌, ◌≤◌, ◌<◌}
use native.Mathlib.Omega.{arith}
use borrow.Author.Tests.{le-ltb, ltb-false, not-false}
use Rattle.bits.specs.Refusals.{refusal_by}
use Rattle.bits.proofs.Choice.{both_true, parts-true}
use Rattle.bits.proofs.Refusals.{passed, none_left, not-given}
use Rattle.frame.specs.declared.headers.Header.{Header}
use Rattle.frame.specs.Headers.{header_read}
use Rattle.frame.specs.Modes.{known, extent_fits}
use Rattle.frame.proofs.Rows.{extent-within}
use Rattle.lock.specs.HeaderTable.{valid, header_step}
use Rattle.lock.specs.Table.{fresh, extended_after, lock_step}
use Rattle.lock.specs.Ranges.{header_in_range, extended_in_range, is_fresh, accepted}
use Rattle.lock.specs.Refusals.{width_of, refusals, stepped, Stepped}
use Rattle.lock.specs.declared.HeaderLock.{HeaderLock}
use Rattle.lock.specs.declared.ExtendedLock.{ExtendedLock}
use Rattle.lock.specs.declared.Lock.{Lock}
use Rattle.lock.proofs.HeaderRange.{hunting-in, header-keeps}
use Rattle.lock.proofs.ExtendedRange.{extended-keeps, fresh-extended, is-fresh}

-- ---- both locks

pub record AcceptedParts (width period : ℕ) (lock : Lock) : Type 0 where
  pub header : header_in_range width lock.header ≡ true
  pub extended : extended_in_range period lock.extended ≡ true
  pub waits : (lock.header.locked || is_fresh lock.extended) ≡ true

pub accepted-parts : (width period : ℕ) (lock : Lock) → accepted width period lock ≡ true → AcceptedParts width period lock
unfolding accepted
accepted-parts width period lock e =
    let a = parts-true _ _ e in
    let b = parts-true _ _ a.0 in
    record { header = b.0; extended = b.1; waits = a.1 }

accepted-of : (width period : ℕ) (lock : Lock) → AcceptedParts width period lock → accepted width period lock ≡ true
unfolding accepted
accepted-of width period lock a = both_true _ _ (both_true _ _ a.header a.extended) a.waits

after-row : (width period : ℕ) (was held : Bool) (h : HeaderLock) (x : ExtendedLock) (header : Header) → h.locked ≡ held → 1 ≤ period
    → header_in_range width h ≡ true → extended_in_range period x ≡ true → (was || is_fresh x) ≡ true
    → AcceptedParts width period (record { header = h; extended = extended_after was held period x header })
after-row width period false held h x header l p eh ex w =
    record { header = eh; extended = ex; waits = subst (λ (t : Bool). (h.locked || t) ≡ true) (sym w) (or-true h.locked) }
after-row width period true true h x header l p eh ex w =
    record { header = eh; extended = extended-keeps period x header p ex; waits = simp l }
after-row width period true false h x header l p eh ex w =
    record { header = eh; extended = fresh-extended period; waits = subst (λ (t : Bool). (h.locked || t) ≡ true) (sym is-fresh) (or-true h.locked) }

-- an accepted state steps to an accepted state
pub accepted-step : (width period : ℕ) (lock : Lock) (header : Header) → 1 ≤ period → accepted width period lock ≡ true → accepted width period (lock_step width period lock header) ≡ true
unfolding lock_step
accepted-step width period lock header p e =
    let a = accepted-parts width period lock e in
    let h = header_step width lock.header (valid header) in
    accepted-of width period _
    (after-row width period lock.header.locked h.locked h lock.extended header refl p (header-keeps width lock.header (valid header) a.header) a.extended a.waits)

pub accepted-fresh : (width period : ℕ) → 0 < width → accepted width period fresh ≡ true
accepted-fresh width period h = accepted-of width period fresh (record { header = hunting-in width 0 0 (omega arith) h; extended = fresh-extended period; waits = is-fresh })

-- ---- a call

-- a call that no line of the table refuses
pub record Taken (mode E : ℕ) (lock : Lock) (header : ℕ) : Type 0 where
  pub of-mode : known mode ≡ true
  pub extent : extent_fits E ≡ true
  pub state : accepted (width_of mode) (32 * E) lock ≡ true
  pub value : header ≤ 3

module _ (mode E : ℕ) (lock : Lock) (header : ℕ) where
  pub taken : refusal_by (refusals mode E lock header) ≡ 0 → Taken mode E lock header
  taken e =
      let lines = refusals mode E lock header in
      record {
        of-mode = not-false (known mode) (not-given 1 lines tt e);
        extent = not-false (extent_fits E) (not-given 2 lines tt e);
        state = not-false (accepted (width_of mode) (32 * E) lock) (not-given 3 lines tt e);
        value = ltb-false 3 header (not-given 9 lines tt e);
      }

  pub not-refused : Taken mode E lock header → refusal_by (refusals mode E lock header) ≡ 0
  not-refused t =
      sym
      (none_left
      ∙ passed 9 _ _ (le-ltb 3 header t.value)
      ∙ passed 3 _ _ (ap not t.state)
      ∙ passed 2 _ _ (ap not t.extent)
      ∙ passed 1 _ _ (ap not t.of-mode))

pub stepped-taken : {mode E : ℕ} {lock : Lock} {header : ℕ} → Taken mode E lock header → stepped mode E lock header ≡ record { refusal = 0; lock = lock_step (width_of mode) (32 * E) lock (header_read header) }
unfolding stepped
stepped-taken t = simp (not-refused _ _ _ _ t)

-- it returns a state that the next call takes
pub accepted-after : {mode E : ℕ} {lock : Lock} {header : ℕ} → Taken mode E lock header → accepted (width_of mode) (32 * E) (stepped mode E lock header).lock ≡ true
accepted-after {mode} {E} {lock} {header} t =
    subst (λ (x : Lock). accepted (width_of mode) (32 * E) x ≡ true) (sym (ap (λ (x : Stepped). x.lock) (stepped-taken t)))
    (accepted-step (width_of mode) (32 * E) lock (header_read header) (omega (arith, (extent-within E t.extent).0)) t.state)

pub taken_next : {mode E : ℕ} {lock : Lock} {header : ℕ} → Taken mode E lock header → (next : ℕ) → next ≤ 3 → Taken mode E (stepped mode E lock header).lock next
taken_next t next h = record { of-mode = t.of-mode; extent = t.extent; state = accepted-after t; value = h }
