-- The lines of a listing one by one: document 01, "Capture and listing". Assumes nothing.
use mathlib.Core.Path.{◌≡◌, refl, sym, ap, ap₂, ◌∙◌}
use mathlib.Core.List.{List, [], ◌++◌}
use Prim.Native.Nat.{ℕ, ◌+◌, ◌-◌, ◌^◌, ◌<◌}
use native.Mathlib.Nat.{zero-add}
use native.Mathlib.Numerals.{add-one}
use native.Mathlib.Omega.{arith}
use lib.ListN.{length, get_or, length-append}
use Rattle.std.specs.List.{zip, enumerate_from}
use Rattle.std.proofs.lemmas.List.{get_or_default}
use Rattle.std.proofs.lemmas.List.FromFn.{length-enumerate_from, get_or-enumerate_from}
use Rattle.std.proofs.lemmas.Slice.Zip.{length-zip, get_or-zip}
use Rattle.text.specs.Text.{release_line, lines_of}
use Rattle.text.specs.inner.Wrote.{Wrote}
use Rattle.text.proofs.Wrote.{wrote_none, wrote_then, wrote-is}

-- ---- one line more

pub no_lines : (s p q : List ℕ) → lines_of 0 s p q ≡ []
unfolding lines_of
no_lines s p q = refl

pub wrote-no-lines : (s p q : List ℕ) (at : ℕ) (old : List ℕ) → at < 2 ^ 64 → length old < 2 ^ 64 - 1 → Wrote (lines_of 0 s p q) at old at old
wrote-no-lines s p q at old h r = wrote-is (sym (no_lines s p q)) (wrote_none at old h r)

pub lines_next : (k : ℕ) (s p q : List ℕ) → lines_of (k + 1) s p q ≡ lines_of k s p q ++ release_line k (get_or s k 0) (get_or p k 0) (get_or q k 0)
unfolding lines_of
lines_next k s p q = rw add-one

-- the line of release k
module _ (k : ℕ) (s p q : List ℕ) where
  pub total-next : length (lines_of k s p q) + length (release_line k (get_or s k 0) (get_or p k 0) (get_or q k 0)) ≡ length (lines_of (k + 1) s p q)
  total-next = sym (length-append (lines_of k s p q) (release_line k (get_or s k 0) (get_or p k 0) (get_or q k 0))) ∙ ap length (sym (lines_next k s p q))

  pub wrote-next : {old mid text : List ℕ} {start at next : ℕ} → Wrote (lines_of k s p q) start old at mid → Wrote (release_line k (get_or s k 0) (get_or p k 0) (get_or q k 0)) at mid next text
      → Wrote (lines_of (k + 1) s p q) start old next text
  wrote-next a b = wrote-is (sym (lines_next k s p q)) (wrote_then a b)

-- what a walk over the three lists gives at release k
pub release-item : (s p q : List ℕ) (k : ℕ) (x : ℕ × ((ℕ × ℕ) × ℕ))
    → (k < length (enumerate_from 0 (zip (zip s p) q))) × (x ≡ get_or (enumerate_from 0 (zip (zip s p) q)) k x)
    → (k < length s) × ◌≡◌ {A = ℕ × ((ℕ × ℕ) × ℕ)} (k, ((get_or s k 0, get_or p k 0), get_or q k 0)) x
release-item s p q k x t =
    let long = length-enumerate_from 0 (zip (zip s p) q) in
    let both = length-zip (zip s p) q in
    let first = length-zip s p in
    let in_all : k < length (zip (zip s p) q) = omega (arith, long, t.0) in
    let in_two : k < length (zip s p) = omega (arith, both) in
    let in_s : k < length s = omega (arith, first) in
    let in_p : k < length p = omega (arith, first) in
    let in_q : k < length q = omega (arith, both) in
    let at_k : get_or (zip (zip s p) q) k x.1 ≡ ((get_or s k 0, get_or p k 0), get_or q k 0)
    = get_or-zip (zip s p) q k x.1 in_two in_q
    ∙ ap₂ (λ (y : ℕ × ℕ) (z : ℕ). (y, z))
    (get_or-zip s p k x.1.0 in_s in_p ∙ ap₂ (λ (y z : ℕ). (y, z)) (get_or_default s k x.1.0.0 0 in_s) (get_or_default p k x.1.0.1 0 in_p))
    (get_or_default q k x.1.1 0 in_q) in
    (in_s, sym (t.1 ∙ get_or-enumerate_from 0 (zip (zip s p) q) k x in_all ∙ ap₂ (λ (y : ℕ) (z : (ℕ × ℕ) × ℕ). (y, z)) (zero-add k) at_k))

pub wrote-release : (k : ℕ) (s p q : List ℕ) (x : ℕ × ((ℕ × ℕ) × ℕ)) {n : ℕ} {old mid text : List ℕ} {start at next : ℕ} → n ≡ k + 1
    → ◌≡◌ {A = ℕ × ((ℕ × ℕ) × ℕ)} (k, ((get_or s k 0, get_or p k 0), get_or q k 0)) x
    → Wrote (lines_of k s p q) start old at mid → Wrote (release_line x.0 x.1.0.0 x.1.0.1 x.1.1) at mid next text → Wrote (lines_of n s p q) start old next text
wrote-release k s p q x more is a b =
    wrote-is (ap (λ (m : ℕ). lines_of m s p q) (sym more))
    (wrote-next k s p q a (wrote-is (ap (λ (y : ℕ × ((ℕ × ℕ) × ℕ)). release_line y.0 y.1.0.0 y.1.0.1 y.1.1) (sym is)) b))
