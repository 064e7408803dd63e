-- Extended lock in range steps to extended lock in range. Assumes nothing.
use mathlib.Core.Path.{◌≡◌, refl, sym, subst, ◌∙◌}
use mathlib.Core.Bool.{Bool, true, false, ◌&&◌}
use Prim.Native.Nat.{ℕ, suc, ◌+◌, ◌-◌, ◌*◌, ◌/◌, ◌%◌, ◌^◌, ◌≤◌, ◌<◌}
use native.Mathlib.Nat.{mod-lt, mod-le, div-eq_of_lt, pow-suc}
use native.Mathlib.Numerals.{add-one}
use native.Mathlib.Omega.{arith}
use borrow.Author.Tests.{ltb-true, le-leb, leb-true, eq-eqb, ne_eqb, eqb-true, eqb-false, not-true}
use lib.Dec.{ltb, leb, eqb}
use lib.Pow.{pow_pos, split}
use Rattle.bits.proofs.Choice.{both_true, parts-true, pick-both}
use Rattle.frame.specs.declared.headers.Header.{Header}
use Rattle.frame.specs.Headers.{carries}
use Rattle.frame.proofs.Reading.{carries-lt}
use Rattle.lock.specs.ExtendedTable.{with_header, matches, hunting, following, locked, ran_on, extended_row, moved, extended_step, fresh_extended}
use Rattle.lock.specs.Ranges.{headers_in_range, phase_in_range, extended_in_range, is_fresh}
use Rattle.lock.specs.declared.Phase.{Phase}
use Rattle.lock.specs.declared.Phase.TheVariants.{Hunting, Following, Locked}
use Rattle.lock.specs.declared.ExtendedLock.{ExtendedLock}

-- ---- the last 32 headers

below : (x k : ℕ) → x / 2 ^ k ≡ 0 → x < 2 ^ k
below x k e =
    let s : 0 * 2 ^ k + x % 2 ^ k ≡ x = subst (λ (y : ℕ). y * 2 ^ k + x % 2 ^ k ≡ x) e (split x k) in
    let l = mod-lt x (pow_pos k) in
    omega arith

headers-keep : (x : ExtendedLock) (header : Header) → headers_in_range x ≡ true → headers_in_range (with_header x header) ≡ true
unfolding headers_in_range with_header
headers-keep x header e =
    let p = parts-true _ _ e in
    let h : x.seen ≤ 32 = leb-true _ _ p.0 in
    let l : x.headers < 2 ^ x.seen = below x.headers x.seen (eqb-true _ _ p.1) in
    let y = x.headers % 2 ^ 31 * 2 + carries header in
    let c = carries-lt header in
    let m : x.headers % 2 ^ 31 ≤ x.headers = mod-le x.headers (2 ^ 31) in
    pick-both (λ (n : ℕ). (leb n 32 && eqb (y / 2 ^ n) 0) ≡ true) (ltb x.seen 32) (x.seen + 1) 32
    (λ q.
    let k : x.seen + 1 ≤ 32 = omega (arith, ltb-true x.seen 32 q) in
    let w : y < 2 ^ suc x.seen = omega (arith, pow-suc 2 x.seen) in
    let z : y / 2 ^ (x.seen + 1) ≡ 0 = div-eq_of_lt (subst (λ (n : ℕ). y < 2 ^ n) (sym (add-one x.seen)) w) in
    both_true (leb (x.seen + 1) 32) _ (le-leb _ _ k) (eq-eqb _ _ z))
    (λ q. let w : y < 2 ^ 32 = omega (arith, mod-lt x.headers (pow_pos 31)) in eq-eqb (y / 2 ^ 32) 0 (div-eq_of_lt w))

-- ---- the count of a kept phase

module _ (period : ℕ) where
  ran-within : (kept : ℕ) → kept ≤ period → ran_on period kept ≤ period
  ran-within kept h = pick-both (λ (k : ℕ). k ≤ period) (eqb kept 1) _ _ (λ q. omega arith) (λ q. omega arith)

  -- between looks the kept count and the followed one's run on and don't meet
  never-meet : (next kept : ℕ) → 1 ≤ next - 1 → next ≤ period → (kept ≡ next → ⊥) → ran_on period kept ≡ next - 1 → ⊥
  never-meet next kept h l n = pick-both (λ (k : ℕ). k ≡ next - 1 → ⊥) (eqb kept 1) _ _ (λ q z. omega (arith, l)) (λ q z. omega (arith, n, h))

  -- at a look the kept count doesn't start again
  one-off : (next kept : ℕ) → next ≡ 1 → (kept ≡ next → ⊥) → ran_on period kept ≡ kept - 1
  one-off next kept e n = simp (ne_eqb kept 1 (λ z. n (z ∙ sym e)))

-- ---- extended lock

pub record FollowingIn (period : ℕ) (x : ExtendedLock) : Type 0 where
  pub least : 1 ≤ x.good
  pub most : x.good ≤ 3
  pub soon : 1 ≤ x.next
  pub late : x.next ≤ period
  pub within : x.kept ≤ period
  pub apart : x.kept ≡ x.next → ⊥

pub following-range : (period : ℕ) (x : ExtendedLock) → phase_in_range Following period x ≡ true → FollowingIn period x
following-range period x e =
    let k = parts-true _ _ e in
    let f = parts-true (leb x.kept period) _ k.1 in
    let a = parts-true _ _ k.0 in
    let b = parts-true _ _ a.0 in
    let c = parts-true _ _ b.0 in
    let d = parts-true _ _ a.1 in
    record {
      least = leb-true _ _ c.0;
      most = leb-true _ _ c.1;
      soon = leb-true _ _ d.0;
      late = leb-true _ _ d.1;
      within = leb-true _ _ f.0;
      apart = eqb-false _ _ (not-true _ f.1);
    }

pub record LockedIn (period : ℕ) (x : ExtendedLock) : Type 0 where
  pub most : x.bad ≤ 7
  pub soon : 1 ≤ x.next
  pub late : x.next ≤ period

pub locked-range : (period : ℕ) (x : ExtendedLock) → phase_in_range Locked period x ≡ true → LockedIn period x
locked-range period x e =
    let a = parts-true (eqb x.good 0 && leb x.bad 7) _ (parts-true _ (eqb x.kept 0) e).0 in
    let b = parts-true (eqb x.good 0) _ a.0 in
    let d = parts-true _ _ a.1 in
    record { most = leb-true _ _ b.1; soon = leb-true _ _ d.0; late = leb-true _ _ d.1 }

module _ (period : ℕ) (x : ExtendedLock) (w : headers_in_range x ≡ true) where
  hunting-ranged : extended_in_range period (hunting x) ≡ true
  unfolding extended_in_range headers_in_range
  hunting-ranged = both_true _ _ w refl

  following-ranged : (good next kept : ℕ) → 1 ≤ good → good ≤ 3 → 1 ≤ next → next ≤ period → kept ≤ period → (kept ≡ next → ⊥)
      → extended_in_range period (following x good next kept) ≡ true
  unfolding extended_in_range headers_in_range
  following-ranged good next kept a b c d e f = both_true _ _ w (simp (le-leb _ _ a, le-leb _ _ b, le-leb _ _ c, le-leb _ _ d, le-leb _ _ e, ne_eqb _ _ f))

  locked-ranged : (bad next : ℕ) → bad ≤ 7 → 1 ≤ next → next ≤ period → extended_in_range period (locked x bad next) ≡ true
  unfolding extended_in_range headers_in_range
  locked-ranged bad next a c d = both_true _ _ w (simp (le-leb _ _ a, le-leb _ _ c, le-leb _ _ d))

  abbrev Ranged : ExtendedLock → Type 0
  Ranged y = extended_in_range period y ≡ true

  extended_row_lem : (phase : Phase) (look match : Bool) → 1 ≤ period → eqb x.next 1 ≡ look → phase_in_range phase period x ≡ true → Ranged (extended_row phase look match period x)
  extended_row_lem Hunting look true h n e = following-ranged 1 period 0 (omega arith) (omega arith) h (omega arith) (omega arith) (λ z. omega arith)
  extended_row_lem Hunting look false h n e = hunting-ranged
  extended_row_lem Following false match h n e =
      let i = following-range period x e in
      let m : 1 ≤ x.next - 1 = omega (arith, i.soon, eqb-false x.next 1 n) in
      let l : x.next - 1 ≤ period = omega (arith, i.late) in
      pick-both (λ (k : ℕ). Ranged (following x x.good (x.next - 1) k)) (match && eqb x.kept 0) _ _
      (λ q. following-ranged x.good (x.next - 1) period i.least i.most m l (omega arith) (λ z. omega (arith, i.late)))
      (λ q. following-ranged x.good (x.next - 1) (ran_on period x.kept) i.least i.most m l (ran-within period x.kept i.within) (never-meet period x.next x.kept m i.late i.apart))
  extended_row_lem Following true true h n e =
      let i = following-range period x e in
      let k = one-off period x.next x.kept (eqb-true x.next 1 n) i.apart in
      pick-both Ranged (eqb (x.good + 1) 4) _ _ (λ q. locked-ranged 0 period (omega arith) h (omega arith))
      (λ q. following-ranged (x.good + 1) period (ran_on period x.kept) (omega arith) (omega (arith, i.most, eqb-false (x.good + 1) 4 q)) h (omega arith)
      (ran-within period x.kept i.within) (λ z. omega (arith, k, i.within)))
  extended_row_lem Following true false h n e =
      let i = following-range period x e in
      let k = one-off period x.next x.kept (eqb-true x.next 1 n) i.apart in
      pick-both Ranged (eqb x.kept 0) _ _ (λ q. hunting-ranged)
      (λ q.
      let s : 1 ≤ ran_on period x.kept = omega (arith, k, i.apart, eqb-true x.next 1 n, eqb-false x.kept 0 q) in
      following-ranged 1 (ran_on period x.kept) 0 (omega arith) (omega arith) s (ran-within period x.kept i.within) (omega arith) (λ z. omega (arith, s)))
  extended_row_lem Locked false match h n e =
      let i = locked-range period x e in
      locked-ranged x.bad (x.next - 1) i.most (omega (arith, i.soon, eqb-false x.next 1 n)) (omega (arith, i.late))
  extended_row_lem Locked true true h n e = locked-ranged 0 period (omega arith) h (omega arith)
  extended_row_lem Locked true false h n e =
      let i = locked-range period x e in
      pick-both Ranged (eqb (x.bad + 1) 8) _ _ (λ q. hunting-ranged)
      (λ q. locked-ranged (x.bad + 1) period (omega (arith, i.most, eqb-false (x.bad + 1) 8 q)) h (omega arith))

pub phase-range : (period : ℕ) (x : ExtendedLock) → extended_in_range period x ≡ true → phase_in_range x.phase period x ≡ true
unfolding extended_in_range
phase-range period x e = (parts-true (headers_in_range x) _ e).1

headers-range : (period : ℕ) (x : ExtendedLock) → extended_in_range period x ≡ true → headers_in_range x ≡ true
unfolding extended_in_range
headers-range period x e = (parts-true (headers_in_range x) _ e).0

-- a header more changes no count
row-with : (period : ℕ) (x : ExtendedLock) (header : Header) (phase : Phase) → phase_in_range phase period x ≡ true → phase_in_range phase period (with_header x header) ≡ true
unfolding with_header
row-with period x header Hunting e = e
row-with period x header Following e = e
row-with period x header Locked e = e

pub phase-with : (period : ℕ) (x : ExtendedLock) (header : Header) → phase_in_range x.phase period x ≡ true
    → let y = with_header x header in phase_in_range y.phase period y ≡ true
unfolding with_header
phase-with period x header e = row-with period x header x.phase e

pub extended-keeps : (period : ℕ) (x : ExtendedLock) (header : Header) → 1 ≤ period → extended_in_range period x ≡ true → extended_in_range period (extended_step period x header) ≡ true
unfolding extended_step moved
extended-keeps period x header h e =
    let y = with_header x header in
    extended_row_lem period y (headers-keep x header (headers-range period x e)) y.phase (eqb y.next 1) (matches y) h
    refl (phase-with period x header (phase-range period x e))

-- ---- fresh

pub fresh-extended : (period : ℕ) → extended_in_range period fresh_extended ≡ true
unfolding extended_in_range headers_in_range
fresh-extended period = refl

pub is-fresh : is_fresh fresh_extended ≡ true
unfolding is_fresh
is-fresh = refl
