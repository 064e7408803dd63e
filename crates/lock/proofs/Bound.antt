-- An undamaged lane with the pilot signal of `Stream`, fed from fresh at its true offset from any block of it, holds both locks after at most
-- 95 + 128E blocks and at every block after: document 01, "Lock tables". No match comes in between (`Ends`), so that nothing is ever kept:
-- request 4. Assumes nothing.
use mathlib.Core.Path.{◌≡◌, refl, sym, ap, ◌∙◌, subst}
use mathlib.Core.Bool.{Bool, true, false, not}
use mathlib.Core.Logic.{⊎_elim}
use Prim.Native.Nat.{ℕ, zero, suc, ◌+◌, ◌-◌, ◌*◌, ◌%◌, ◌≤◌, ◌<◌}
use native.Mathlib.Nat.{add-suc, add-zero}
use native.Mathlib.Numerals.{add-one, one-add}
use native.Mathlib.Omega.{arith}
use lib.Dec.{eqb}
use Rattle.frame.specs.declared.headers.Header.{Header}
use Rattle.frame.specs.Headers.{header_read, carries}
use Rattle.frame.specs.Modes.{known, extent_fits}
use Rattle.frame.proofs.Reading.{valid-le}
use Rattle.frame.proofs.Rows.{extent-within}
use Rattle.lock.specs.HeaderTable.{header_hunting, header_locked, valid, header_step}
use Rattle.lock.specs.ExtendedTable.{with_header, matches, hunting, moved, extended_step, fresh_extended}
use Rattle.lock.specs.Table.{lock_step}
use Rattle.lock.specs.Refusals.{width_of}
use Rattle.lock.specs.Run.{state_after}
use Rattle.lock.specs.Stream.{PilotSync, PilotHeaders, Held}
use Rattle.lock.specs.declared.HeaderLock.{HeaderLock}
use Rattle.lock.specs.declared.ExtendedLock.{ExtendedLock}
use Rattle.lock.specs.declared.Lock.{Lock}
use Rattle.lock.proofs.HeaderRows as rows
use Rattle.lock.proofs.ExtendedRows.{hunts-on, with-hunting, step_by}
use Rattle.lock.proofs.Matches.{too_few}
use Rattle.lock.proofs.Runs.{state-none, state-next, state-taken}
use Rattle.lock.proofs.Follow.{lt-or-ge, keeps-nothing, follows}
use Rattle.lock.proofs.Window.{Seen, seen_none, seen_more, seen_step}
use Rattle.lock.proofs.Ends.{matches-at-ends}

-- ---- a valid header, in each state of header lock

-- a header lock, with a fresh extended lock
abbrev with_fresh : HeaderLock → Lock
with_fresh x = record { header = x; extended = fresh_extended }

module _ (width period : ℕ) (header : Header) (k : valid header ≡ true) where
  counts : (n : ℕ) → n < 63 → lock_step width period (with_fresh (header_hunting 0 n)) header ≡ with_fresh (header_hunting 0 (n + 1))
  unfolding lock_step
  counts n h = simp (k, rows.counts width 0 n h)

  gains : lock_step width period (with_fresh (header_hunting 0 63)) header ≡ with_fresh (header_locked 0 0 0)
  unfolding lock_step
  gains = simp (k, rows.gains width 0)

  keeps : (lock : Lock) → lock.header.locked ≡ true → lock_step width period lock header ≡ record { header = header_step width lock.header true; extended = extended_step period lock.extended header }
  unfolding lock_step
  keeps lock l = simp (k, l, rows.stays-locked width lock.header l)

-- ---- a run over such a lane

later : (E p d : ℕ) (sync : ℕ → ℕ) → PilotSync E p sync → PilotSync E (d + p) (λ n. sync (d + n))
later E p d sync w =
    let z : (n : ℕ) → d + n + p ≡ n + (d + p) = λ n. omega arith in
    record {
      ones = λ n h. w.ones (d + n) (rw z h);
      zeros = λ n h k. w.zeros (d + n) (rw z h) (rw z k);
      last_mark = λ n h. w.last_mark (d + n) (rw z h);
      other_marks = λ n h k. w.other_marks (d + n) (rw z h) (rw z k);
    }

module _ (mode E p : ℕ) (headers : ℕ → ℕ) (of-mode : known mode ≡ true) (extent : extent_fits E ≡ true) (lane : PilotHeaders E p headers) where
  some : 1 ≤ E
  some = (extent-within E extent).0

  r : ℕ → Lock
  r n = state_after mode E headers n

  values : (n : ℕ) → headers n ≤ 3
  values n = valid-le (headers n) (lane.valid n)

  read : ℕ → Header
  read n = header_read (headers n)

  good : (n : ℕ) → valid (read n) ≡ true
  unfolding read
  good n = ap not (lane.valid n)

  next : (n : ℕ) → r (suc n) ≡ lock_step (width_of mode) (32 * E) (r n) (read n)
  unfolding r read
  next n = state-next mode E headers n (state-taken mode E headers of-mode extent values n)

  counting : (n : ℕ) → n ≤ 63 → r n ≡ with_fresh (header_hunting 0 n)
  unfolding r
  counting zero h = state-none mode E headers
  counting (suc n) h =
      next n ∙ ap (λ (x : Lock). lock_step (width_of mode) (32 * E) x (read n)) (counting n (omega arith)) ∙ counts (width_of mode) (32 * E) (read n) (good n) n (omega arith)
      ∙ ap (λ (k : ℕ). with_fresh (header_hunting 0 k)) (add-one n)

  gained : r 64 ≡ with_fresh (header_locked 0 0 0)
  gained = next 63 ∙ ap (λ (x : Lock). lock_step (width_of mode) (32 * E) x (read 63)) (counting 63 (omega arith)) ∙ gains (width_of mode) (32 * E) (read 63) (good 63)

  -- from there on
  x : ℕ → ExtendedLock
  x k = (r (64 + k)).extended

  start : x 0 ≡ fresh_extended
  unfolding x
  start = ap (λ (y : Lock). y.extended) (ap r (add-zero 64) ∙ gained)

  on : (k : ℕ) → (r (64 + k)).header.locked ≡ true
  on zero = ap (λ (y : Lock). y.header.locked) (ap r (add-zero 64) ∙ gained)
  on (suc k) =
      ap (λ (y : Lock). y.header.locked) (ap r (add-suc 64 k) ∙ next (64 + k) ∙ keeps (width_of mode) (32 * E) (read (64 + k)) (good (64 + k)) (r (64 + k)) (on k))
      ∙ rows.stays-locked (width_of mode) (r (64 + k)).header (on k)

  stepping : (k : ℕ) → x (suc k) ≡ extended_step (32 * E) (x k) (read (64 + k))
  unfolding x
  stepping k =
      ap (λ (y : Lock). y.extended) (ap r (add-suc 64 k) ∙ next (64 + k) ∙ keeps (width_of mode) (32 * E) (read (64 + k)) (good (64 + k)) (r (64 + k)) (on k))

  sync : ℕ → ℕ
  sync n = carries (read (64 + n))

  seen : (k : ℕ) → Seen sync k (x k)
  seen zero = rw start (seen_none sync)
  seen (suc k) = rw stepping (seen_step sync k (32 * E) (read (64 + k)) (x k) (unfold sync in refl) (seen k))

  seen-with : (k : ℕ) → Seen sync (suc k) (with_header (x k) (read (64 + k)))
  seen-with k = seen_more sync k (read (64 + k)) (x k) (unfold sync in refl) (seen k)

  stepping-by : (k : ℕ) (m : Bool) → matches (with_header (x k) (read (64 + k))) ≡ m → x (suc k) ≡ moved (32 * E) (with_header (x k) (read (64 + k))) m
  stepping-by k m e = stepping k ∙ step_by (32 * E) (x k) (read (64 + k)) m e

  -- too few to match
  still : (k : ℕ) → k ≤ 31 → (y : ExtendedLock) × (x k ≡ hunting y)
  still zero h = (fresh_extended, start)
  still (suc k) h =
      let s = still k (omega arith) in
      let y = with_header s.0 (read (64 + k)) in (
        y,
        stepping-by k false (too_few (with_header (x k) (read (64 + k))) (omega (arith, (seen-with k).few (omega arith))))
            ∙ ap (λ (z : ExtendedLock). moved (32 * E) (with_header z (read (64 + k))) false) s.1
            ∙ ap (λ (z : ExtendedLock). moved (32 * E) z false) (with-hunting s.0 (read (64 + k)))
            ∙ hunts-on (32 * E) y,
      )

  fed : (k : ℕ) → 31 ≤ k → x (suc k) ≡ moved (32 * E) (with_header (x k) (read (64 + k))) (eqb ((k + (64 + p)) % (32 * E)) (32 * E - 1))
  unfolding sync read
  fed k h =
      stepping-by k _ (matches-at-ends E (64 + p) sync (later E p 64 (λ n. carries (header_read (headers n))) lane.sync) some k (with_header (x k) (read (64 + k))) h
      (subst (λ (n : ℕ). Seen sync n (with_header (x k) (read (64 + k)))) (sym (one-add k)) (seen-with k)))

  -- the last block before one can match
  quiet : (y : ExtendedLock) × (x 31 ≡ hunting y)
  quiet = still 31 (omega arith)

  -- nothing is ever kept
  pub nothing-kept : (n : ℕ) → (state_after mode E headers n).extended.kept ≡ 0
  unfolding r x
  nothing-kept n =
      ⊎_elim (λ (a : n < 64). ap (λ (y : Lock). y.extended.kept) (counting n (omega arith)))
      (λ (a : 64 ≤ n).
      let z : 64 + (n - 64) ≡ n = omega arith in
      ap (λ (k : ℕ). (state_after mode E headers k).extended.kept) (sym z)
      ∙ ⊎_elim (λ (b : n - 64 < 31). ap (λ (y : ExtendedLock). y.kept) (still (n - 64) (omega arith)).1)
      (λ (b : 31 ≤ n - 64). keeps-nothing (32 * E) (64 + p) 31 (omega (arith, some)) (λ k. read (64 + k)) x quiet.0 quiet.1 fed (n - 64) b)
      (lt-or-ge (n - 64) 31))
      (lt-or-ge n 64)

  -- both locks are held after 95 + 128E blocks, and at every block after
  pub locked-in-time : (n : ℕ) → 95 + 128 * E ≤ n → Held (state_after mode E headers n)
  unfolding r x
  locked-in-time n h =
      let z : 64 + (n - 64) ≡ n = omega arith in
      subst (λ (k : ℕ). Held (state_after mode E headers k)) z
      (record { header = on (n - 64); extended = follows (32 * E) (64 + p) 31 (omega (arith, some)) (λ k. read (64 + k)) x quiet.0 quiet.1 fed (n - 64) (omega arith) })
