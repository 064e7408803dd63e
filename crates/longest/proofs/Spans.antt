-- `span_of` is the longest run, the earliest if several tie, and there is only one such: document 01, "What the receiver releases".
-- Before place i the best is known, and so is the run that reaches up to i; both go on to i + 1. Assumes nothing.
use mathlib.Core.Path.{◌≡◌, refl, sym, ap, ◌∙◌, subst}
use mathlib.Core.Logic.{⊎_elim}
use mathlib.Core.Bool.{Bool, true, false}
use mathlib.Core.List.{List, [], ◌∷◌}
use Prim.Native.Nat.{ℕ, suc, ◌+◌, ◌-◌, ◌*◌, ◌≤◌, ◌<◌}
use native.Mathlib.Nat.{eq-or-lt_of_le, eq-zero-or-pos}
use native.Mathlib.Numerals.{add-one}
use native.Mathlib.Omega.{arith}
use borrow.Author.Tests.{ltb-true, ltb-false, leb-true, leb-false, le-leb, lt-leb, eqb-true, eq-eqb, ne_eqb}
use lib.Dec.{ltb, leb, eqb}
use lib.ListN.{length, get_or, take, drop}
use lib.Seq.{drop-cons, drop-length}
use denote.Bor.{Bor}
use Rattle.std.specs.Prelude.{Result, Ok, Err, IfOk}
use Rattle.std.specs.Result.{result_unwrap_or}
use Rattle.answers.specs.declared.Refusal.{Refusal}
use Rattle.answers.specs.Numbers.{refused}
use Rattle.answers.proofs.Numbers.{number-above}
use Rattle.bits.specs.Choice.{pick}
use Rattle.longest.specs.declared.Span.{Span}
use Rattle.longest.specs.Longest.{Stretch, Longest, start_after, longer, scan, span_of, no_span, refusal_for, part_of}

-- no two runs are the longest
pub one-longest : (statuses : List ℕ) {a m b n : ℕ} → Longest statuses a m → Longest statuses b n → (a ≡ b) × (m ≡ n)
one-longest statuses {a} {m} {b} {n} p q =
    let same : m ≡ n = omega (arith, p.most b n q.stretch, q.most a m p.stretch) in
    (omega (arith, p.earliest b (subst (Stretch statuses b) (sym same) q.stretch), q.earliest a (subst (Stretch statuses a) same p.stretch)), same)

module _ (statuses : List ℕ) where
  -- a run from start reaches up to place i, and no run from before start does
  record Reaching (i start : ℕ) : Type 0 where
    before : start ≤ i
    stretch : Stretch statuses start (i - start)
    first : (a n : ℕ) → Stretch statuses a n → a + n ≡ i → start ≤ a

  -- the longest run among those that end at place i or before
  record Best (i : ℕ) (best : Span) : Type 0 where
    before : best.start + best.count ≤ i
    stretch : Stretch statuses best.start best.count
    most : (a n : ℕ) → Stretch statuses a n → a + n ≤ i → n ≤ best.count
    earliest : (a : ℕ) → Stretch statuses a best.count → a + best.count ≤ i → best.start ≤ a

  shorter : {a n : ℕ} → Stretch statuses a n → 0 < n → Stretch statuses a (n - 1)
  shorter s h = record { within = omega (arith, s.within); good = λ i l r. s.good i l (omega arith) }

  goes_on : (i start : ℕ) → i < length statuses → Reaching i start → (t : Bool) → leb (get_or statuses i 0) 1 ≡ t → Reaching (i + 1) (pick t start (i + 1))
  goes_on i start h p true e =
      let ok : get_or statuses i 0 ≤ 1 = leb-true (get_or statuses i 0) 1 e in
      record {
        before = omega (arith, p.before);
        stretch = record {
          within = omega (arith, p.before);
          good = λ k l r. ⊎_elim
              (λ (x : k ≡ i). subst (λ (j : ℕ). get_or statuses j 0 ≤ 1) (sym x) ok)
              (λ (x : k < i). p.stretch.good k l (omega (arith, p.before)))
              (eq-or-lt_of_le (omega (arith, p.before)));
        };
        first = λ a n s x. ⊎_elim
            (λ (z : n ≡ 0). omega (arith, p.before))
            (λ (z : 0 < n). p.first a (n - 1) (shorter s z) (omega arith))
            (eq-zero-or-pos n);
      }
  goes_on i start h p false e =
      let bad : 1 < get_or statuses i 0 = leb-false (get_or statuses i 0) 1 e in
      record {
        before = omega arith;
        stretch = record { within = omega arith; good = λ k l r. absurd (omega arith) };
        first = λ a n s x. ⊎_elim
            (λ (z : n ≡ 0). omega arith)
            (λ (z : 0 < n). absurd (omega (arith, bad, s.good i (omega arith) (omega arith))))
            (eq-zero-or-pos n);
      }

  reaches : (i start : ℕ) → i < length statuses → Reaching i start → Reaching (i + 1) (start_after (get_or statuses i 0) i start)
  unfolding start_after
  reaches i start h p = goes_on i start h p (leb (get_or statuses i 0) 1) refl

  chosen : (i start : ℕ) (best : Span) → Best i best → Reaching (i + 1) start → (t : Bool) → ltb best.count (i + 1 - start) ≡ t
      → Best (i + 1) (pick t (record { start = start; count = i + 1 - start }) best)
  chosen i start best p q true e =
      let more : best.count < i + 1 - start = ltb-true best.count (i + 1 - start) e in
      record {
        before = omega (arith, q.before);
        stretch = q.stretch;
        most = λ a n s x. ⊎_elim
            (λ (z : a + n ≡ i + 1). omega (arith, q.first a n s z))
            (λ (z : a + n < i + 1). omega (arith, more, p.most a n s (omega arith)))
            (eq-or-lt_of_le x);
        earliest = λ a s x. ⊎_elim
            (λ (z : a + (i + 1 - start) ≡ i + 1). q.first a (i + 1 - start) s z)
            (λ (z : a + (i + 1 - start) < i + 1). absurd (omega (arith, more, p.most a (i + 1 - start) s (omega arith))))
            (eq-or-lt_of_le x);
      }
  chosen i start best p q false e =
      let less : i + 1 - start ≤ best.count = ltb-false best.count (i + 1 - start) e in
      record {
        before = omega (arith, p.before);
        stretch = p.stretch;
        most = λ a n s x. ⊎_elim
            (λ (z : a + n ≡ i + 1). omega (arith, less, q.first a n s z))
            (λ (z : a + n < i + 1). p.most a n s (omega arith))
            (eq-or-lt_of_le x);
        earliest = λ a s x. ⊎_elim
            (λ (z : a + best.count ≡ i + 1). omega (arith, p.before))
            (λ (z : a + best.count < i + 1). p.earliest a s (omega arith))
            (eq-or-lt_of_le x);
      }

  better : (i start : ℕ) (best : Span) → Best i best → Reaching (i + 1) start → Best (i + 1) (longer best start (i + 1 - start))
  unfolding longer
  better i start best p q = chosen i start best p q (ltb best.count (i + 1 - start)) refl

  none : Stretch statuses 0 0
  none = record { within = omega arith; good = λ k l r. absurd (omega arith) }

  -- what is left of the statuses is read to its end
  scanned : (rest : List ℕ) (i start : ℕ) (best : Span) → drop i statuses ≡ rest → i + length rest ≡ length statuses → Reaching i start → Best i best
      → Best (length statuses) (scan rest i start best)
  unfolding scan
  scanned [] i start best d l p q = subst (λ (n : ℕ). Best n best) (omega arith) q
  scanned (status ∷ rest) i start best d l p q =
      let h : i < length statuses = omega arith in
      let e : get_or statuses i 0 ∷ drop (suc i) statuses ≡ status ∷ rest = sym (drop-cons statuses i 0 h) ∙ d in
      let here : get_or statuses i 0 ≡ status = cc in
      let rest-is : drop (suc i) statuses ≡ rest = cc in
      let p' = subst (λ (x : ℕ). Reaching (i + 1) (start_after x i start)) here (reaches i start h p) in
      scanned rest (i + 1) (start_after status i start) (longer best (start_after status i start) (i + 1 - start_after status i start))
      (ap (λ (k : ℕ). drop k statuses) (add-one i) ∙ rest-is) (omega arith) p' (better i (start_after status i start) best q p')

  pub longest : Longest statuses (span_of statuses).start (span_of statuses).count
  unfolding span_of
  longest =
      let b = scanned statuses 0 0 no_span refl (omega arith)
      (record { before = omega arith; stretch = none; first = λ a n s x. omega arith })
      (record { before = omega arith; stretch = none; most = λ a n s x. omega arith; earliest = λ a s x. omega arith }) in
      record {
        stretch = b.stretch;
        most = λ a n s. b.most a n s s.within;
        earliest = λ a s. b.earliest a s s.within;
      }

pub keeps_run : (status i start : ℕ) → status ≤ 1 → start ≡ start_after status i start
unfolding start_after
keeps_run status i start h = simp (le-leb status 1 h)

pub ends_run : (status i start : ℕ) → 1 < status → i + 1 ≡ start_after status i start
unfolding start_after
ends_run status i start h = simp (lt-leb status 1 h)

-- one status more is read
pub scan_on : (s : List ℕ) (i start start' : ℕ) (best best' : Span) → i < length s → start' ≡ start_after (get_or s i 0) i start → best' ≡ longer best start' (i + 1 - start')
    → scan (drop i s) i start best ≡ scan (drop (i + 1) s) (i + 1) start' best'
unfolding scan
scan_on s i start start' best best' h e e' =
    ap (λ (l : List ℕ). scan l i start best) (drop-cons s i 0 h)
    ∙ ap (λ (x : ℕ). scan (drop (suc i) s) (i + 1) x (longer best x (i + 1 - x))) (sym e)
    ∙ ap (scan (drop (suc i) s) (i + 1) start') (sym e')
    ∙ ap (λ (k : ℕ). scan (drop k s) (i + 1) start' best') (sym (add-one i))

-- all are read
pub scan_over : (s : List ℕ) (i start : ℕ) (best : Span) → i ≡ length s → scan (drop i s) i start best ≡ best
unfolding scan
scan_over s i start best e = ap (λ (k : ℕ). scan (drop k s) i start best) e ∙ ap (λ (l : List ℕ). scan l i start best) (drop-length s)

-- a call that isn't refused has 256 octets for each status
fitting : (a b : ℕ) (t : Bool) → eqb a b ≡ t → ◌≡◌ {A = ℕ} (pick t 0 4) 0 → a ≡ b
fitting a b true e h = eqb-true a b e
fitting a b false e h = absurd (omega arith)

module _ (octets statuses : List ℕ) (span : Span) (accepted : refusal_for octets statuses ≡ 0) (is : span ≡ span_of statuses) where
  pub in_octets : 256 * span.start + 256 * span.count ≤ length octets
  unfolding refusal_for
  in_octets =
      let whole = fitting (length octets) (256 * length statuses) (eqb (length octets) (256 * length statuses)) refl accepted in
      let inside : span.start + span.count ≤ length statuses = subst (λ (s : Span). s.start + s.count ≤ length statuses) (sym is) (longest statuses).stretch.within in
      omega arith

  pub part_given : take (256 * span.start + 256 * span.count - 256 * span.start) (drop (256 * span.start) octets) ≡ part_of octets statuses
  unfolding part_of
  part_given =
      let h : 256 * span.start + 256 * span.count - 256 * span.start ≡ 256 * span.count = omega arith in
      ap (λ (n : ℕ). take n (drop (256 * span.start) octets)) h
      ∙ ap (λ (s : Span). take (256 * s.count) (drop (256 * s.start) octets)) is ∙ sym (simp (eq-eqb (refusal_for octets statuses) 0 accepted))

part-refused : (octets statuses : List ℕ) → (refusal_for octets statuses ≡ 0 → ⊥) → [] ≡ part_of octets statuses
unfolding part_of
part-refused octets statuses h = sym (simp (ne_eqb (refusal_for octets statuses) 0 h))

-- what the call answers, or nothing where it is refused
pub part_or_none : (octets statuses : List ℕ) (r : Result (Bor (List ℕ)) Refusal) (empty : Bor (List ℕ)) → empty.now ≡ [] → refused r ≡ refusal_for octets statuses
    → IfOk r (λ part. part.now ≡ part_of octets statuses) → (result_unwrap_or r empty).now ≡ part_of octets statuses
part_or_none octets statuses (Ok part) empty e f h = h
part_or_none octets statuses (Err why) empty e f h = e ∙ part-refused octets statuses (λ z. number-above why (f ∙ z))

-- so whichever run is the longest, its octets are handed back
pub part-of-longest : (octets statuses : List ℕ) {start count : ℕ} → length octets ≡ 256 * length statuses → Longest statuses start count
    → part_of octets statuses ≡ take (256 * count) (drop (256 * start) octets)
unfolding part_of refusal_for
part-of-longest octets statuses h l =
    let same = one-longest statuses (longest statuses) l in
    simp (eq-eqb (length octets) (256 * length statuses) h, same.0, same.1)
