-- The extended lock where exactly the blocks match that end an extended multiblock: it is locked after at most four of them, and stays so, and
-- keeps nothing on the way. Assumes nothing.
use mathlib.Core.Path.{◌≡◌, sym, ap, ap₂, ◌∙◌, subst₃}
use mathlib.Core.Bool.{true, false}
use mathlib.Core.Logic.{◌⊎◌, inl, inr, ⊎_elim}
use Prim.Native.Nat.{ℕ, zero, suc, ◌+◌, ◌-◌, ◌*◌, ◌%◌, ◌≤◌, ◌<◌}
use native.Mathlib.Nat.{suc-mod, mod-lt, mod_self, mod-eq_of_lt, eq-zero-or-pos, add-suc}
use native.Mathlib.Omega.{arith}
use borrow.Author.Tests.{eq-eqb, ne_eqb}
use lib.Dec.{eqb}
use Rattle.frame.specs.declared.headers.Header.{Header}
use Rattle.lock.specs.ExtendedTable.{with_header, hunting, following, locked, moved}
use Rattle.lock.specs.declared.Phase.TheVariants.{Locked}
use Rattle.lock.specs.declared.ExtendedLock.{ExtendedLock}
use Rattle.lock.proofs.ExtendedRows.{with-hunting, with-following, with-locked, hunts-on, finds, waits, confirms, locks, holds_on, holds-again}

pub lt-or-ge : (m n : ℕ) → (m < n) ⊎ (n ≤ m)
lt-or-ge m n = ⊎_elim (λ (e : n - m ≡ 0). inr (omega arith)) (λ (h : 0 < n - m). inl (omega arith)) (eq-zero-or-pos (n - m))

-- c and d are the numbers, below period, of two blocks one after the other
data Turn (period c d : ℕ) : Type 0 where
  inside : c + 1 < period → d ≡ c + 1 → Turn period c d
  around : c + 1 ≡ period → d ≡ 0 → Turn period c d

turn : (period m : ℕ) → 0 < period → Turn period (m % period) (suc m % period)
turn period m h =
    let l = mod-lt m h in
    ⊎_elim (λ (q : suc (m % period) < period). inside (omega arith) (suc-mod m period ∙ mod-eq_of_lt q ∙ omega arith))
    (λ (q : period ≤ suc (m % period)).
    let z : suc (m % period) ≡ period = omega arith in
    around (omega arith) (suc-mod m period ∙ ap (λ (y : ℕ). y % period) z ∙ mod_self period))
    (lt-or-ge (suc (m % period)) period)

-- ---- on the way: the next block is number c, and in t blocks the lock is held

data Track (period c t : ℕ) (x : ExtendedLock) : Type 0 where
  hunts : (y : ExtendedLock) → x ≡ hunting y → t + c ≡ 4 * period → Track period c t x
  first : (y : ExtendedLock) (next : ℕ) → x ≡ following y 1 next 0 → c + next ≡ period → t ≡ next + 2 * period → Track period c t x
  second : (y : ExtendedLock) (next : ℕ) → x ≡ following y 2 next 0 → c + next ≡ period → t ≡ next + period → Track period c t x
  third : (y : ExtendedLock) (next : ℕ) → x ≡ following y 3 next 0 → c + next ≡ period → t ≡ next → Track period c t x
  held : (y : ExtendedLock) (next : ℕ) → x ≡ locked y 0 next → c + next ≡ period → t ≡ 0 → Track period c t x

-- what block c does to a lock x, with its header v: it is no end of an extended multiblock, or it is one
module _ (period c : ℕ) (v : Header) {x y z w : ExtendedLock} (q : x ≡ y) (e : with_header y v ≡ z) where
  miss : c + 1 < period → moved period z false ≡ w → moved period (with_header x v) (eqb c (period - 1)) ≡ w
  miss h m = ap₂ (moved period) (ap (λ (u : ExtendedLock). with_header u v) q ∙ e) (ne_eqb c (period - 1) (λ f. omega arith)) ∙ m

  hit : c + 1 ≡ period → moved period z true ≡ w → moved period (with_header x v) (eqb c (period - 1)) ≡ w
  hit h m = ap₂ (moved period) (ap (λ (u : ExtendedLock). with_header u v) q ∙ e) (eq-eqb c (period - 1) (omega arith)) ∙ m

step : {period c d t : ℕ} {x : ExtendedLock} (v : Header) → Turn period c d → Track period c t x → Track period d (t - 1) (moved period (with_header x v) (eqb c (period - 1)))
step {period} {c} v (inside h e) (hunts y q w) = let n = with_header y v in hunts n (miss period c v q (with-hunting y v) h (hunts-on period n)) (omega arith)
step {period} {c} v (around h e) (hunts y q w) = let n = with_header y v in first n period (hit period c v q (with-hunting y v) h (finds period n)) (omega arith) (omega arith)
step {period} {c} v (inside h e) (first y l q w u) = let n = with_header y v in first n (l - 1) (miss period c v q (with-following y v 1 l 0) h (waits period n 1 l (omega arith))) (omega arith) (omega arith)
step {period} {c} v (around h e) (first y l q w u) = let n = with_header y v in second n period (hit period c v q (with-following y v 1 l 0) h (confirms period n 1 l (omega arith) (omega arith))) (omega arith) (omega arith)
step {period} {c} v (inside h e) (second y l q w u) = let n = with_header y v in second n (l - 1) (miss period c v q (with-following y v 2 l 0) h (waits period n 2 l (omega arith))) (omega arith) (omega arith)
step {period} {c} v (around h e) (second y l q w u) = let n = with_header y v in third n period (hit period c v q (with-following y v 2 l 0) h (confirms period n 2 l (omega arith) (omega arith))) (omega arith) (omega arith)
step {period} {c} v (inside h e) (third y l q w u) = let n = with_header y v in third n (l - 1) (miss period c v q (with-following y v 3 l 0) h (waits period n 3 l (omega arith))) (omega arith) (omega arith)
step {period} {c} v (around h e) (third y l q w u) = let n = with_header y v in held n period (hit period c v q (with-following y v 3 l 0) h (locks period n l (omega arith))) (omega arith) (omega arith)
step {period} {c} v (inside h e) (held y l q w u) = let n = with_header y v in held n (l - 1) (miss period c v q (with-locked y v 0 l) h (holds_on period n l (omega arith))) (omega arith) (omega arith)
step {period} {c} v (around h e) (held y l q w u) = let n = with_header y v in held n period (hit period c v q (with-locked y v 0 l) h (holds-again period n l (omega arith))) (omega arith) (omega arith)

done : {period c t : ℕ} {x : ExtendedLock} → c < period → t ≡ 0 → Track period c t x → x.phase ≡ Locked
done h z (hunts y q w) = absurd (omega arith)
done h z (first y l q w u) = absurd (omega arith)
done h z (second y l q w u) = absurd (omega arith)
done h z (third y l q w u) = absurd (omega arith)
done h z (held y l q w u) = ap (λ (y : ExtendedLock). y.phase) q

spare : {period c t : ℕ} {x : ExtendedLock} → Track period c t x → x.kept ≡ 0
spare (hunts y q w) = ap (λ (z : ExtendedLock). z.kept) q
spare (first y l q w u) = ap (λ (z : ExtendedLock). z.kept) q
spare (second y l q w u) = ap (λ (z : ExtendedLock). z.kept) q
spare (third y l q w u) = ap (λ (z : ExtendedLock). z.kept) q
spare (held y l q w u) = ap (λ (z : ExtendedLock). z.kept) q

-- a lock x that hunts, fed from block N on with headers v
module _ (period q N : ℕ) (pos : 0 < period) (v : ℕ → Header) (x : ℕ → ExtendedLock) (y : ExtendedLock) (start : x N ≡ hunting y)
    (fed : (k : ℕ) → N ≤ k → x (suc k) ≡ moved period (with_header (x k) (v k)) (eqb ((k + q) % period) (period - 1))) where
  track : (j : ℕ) → Track period ((N + j + q) % period) (4 * period - (N + q) % period - j) (x (N + j))
  track zero =
      let z : N + 0 ≡ N = omega arith in
      let l = mod-lt (N + q) pos in
      hunts y (ap x z ∙ start)
      (ap (λ (m : ℕ). 4 * period - (N + q) % period - 0 + (m + q) % period) z ∙ omega arith)
  track (suc j) =
      let z : N + suc j ≡ suc (N + j) = add-suc N j in
      let s = step (v (N + j)) (turn period (N + j + q) pos) (track j) in
      let r : Track period (suc (N + j + q) % period) (4 * period - (N + q) % period - j - 1) (x (suc (N + j))) = rw (fed (N + j) (omega arith)) s in
      let a : suc (N + j + q) ≡ N + suc j + q = omega arith in
      let b : 4 * period - (N + q) % period - j - 1 ≡ 4 * period - (N + q) % period - suc j = omega arith in
      subst₃ (λ (m t n : ℕ). Track period (m % period) t (x n)) a b (sym z) r

  pub keeps-nothing : (n : ℕ) → N ≤ n → (x n).kept ≡ 0
  keeps-nothing n h =
      let z : N + (n - N) ≡ n = omega arith in
      ap (λ (m : ℕ). (x m).kept) (sym z) ∙ spare (track (n - N))

  -- it is held after at most four periods, and from there on
  pub follows : (n : ℕ) → N + 4 * period ≤ n → (x n).phase ≡ Locked
  follows n h =
      let z : N + (n - N) ≡ n = omega arith in
      ap (λ (m : ℕ). (x m).phase) (sym z) ∙ done (mod-lt (N + (n - N) + q) pos) (omega arith) (track (n - N))
