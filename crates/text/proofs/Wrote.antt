-- Lists written one after the other: what was written, and what is written next. Assumes nothing.
use mathlib.Core.Path.{◌≡◌, refl, sym, ap, ap₂, ◌∙◌, subst}
use mathlib.Core.List.{List, [], ◌∷◌, ◌++◌, append_assoc}
use Prim.Native.Nat.{ℕ, ◌+◌, ◌-◌, ◌^◌, ◌≤◌, ◌<◌, min}
use native.Mathlib.Omega.{arith}
use borrow.Rule.Slice.PartMut.{put_mid, post_of, Post-is}
use lib.ListN.{length, set, take, drop, length-append}
use lib.Seq.{append_snoc}
use Rattle.std.proofs.lemmas.List.{take-set-le, drop-set, length-set}
use Rattle.bits.specs.Order.{laid, laid_at}
use Rattle.bits.proofs.Laid.{fits, laid-start}
use Rattle.bits.proofs.Writing.{length-laid_at, laid_at-none, laid_at-then}
use Rattle.text.specs.Text.{refused_line}
use Rattle.text.specs.inner.Wrote.{Wrote, field}

-- octets copied to a part
pub wrote-copied : (new old : List ℕ) (at end : ℕ) → end ≡ min (at + length new) (2 ^ 64 - 1) → end ≤ length old → length old < 2 ^ 64 - 1
    → Wrote new at old end (put_mid at (end - at) old new)
wrote-copied new old at end e h r =
    let is : end ≡ at + length new = omega arith in
    let within : at ≤ end = omega arith in
    let here : put_mid at (end - at) old new ≡ laid_at new at old =
    sym (append_assoc (take at old) new (post_of at (end - at) old))
    ∙ ap (λ (l : List ℕ). take at old ++ new ++ l) (Post-is at end old within ∙ ap (λ (x : ℕ). drop x old) is)
    ∙ sym (fits new at old (omega arith)) in
    record { place = e; room = r; long = ap length here ∙ length-laid_at new at old (omega arith); holds = λ _. here }

-- what was laid where there is room for it
pub wrote-fitting : {new old text : List ℕ} {at next : ℕ} → next ≡ min (at + length new) (2 ^ 64 - 1) → next ≤ length old → length old < 2 ^ 64 - 1 → text ≡ laid_at new at old
    → Wrote new at old next text
wrote-fitting {new} {old} {text} {at} e h r is =
    record { place = e; room = r; long = ap length is ∙ length-laid_at new at old (omega arith); holds = λ _. is }

-- an octet stored, and a list laid before it
pub laid-before : (new : List ℕ) (octet at : ℕ) (old : List ℕ) → at + length new < length old
    → laid_at new at (set old (at + length new) octet) ≡ laid_at (new ++ (octet ∷ [])) at old
laid-before new octet at old h =
    let last = at + length new in
    let rest = drop (last + 1) old in
    let both : length (new ++ (octet ∷ [])) ≡ length new + 1 = length-append new (octet ∷ []) in
    fits new at (set old last octet) (omega (arith, length-set old last octet))
    ∙ ap₂ (λ (x y : List ℕ). x ++ new ++ y) (take-set-le at old last octet (omega arith)) (drop-set old last octet h)
    ∙ sym (append_snoc (take at old ++ new) octet rest)
    ∙ ap (λ (x : List ℕ). x ++ rest) (append_assoc (take at old) new (octet ∷ []))
    ∙ ap (λ (x : ℕ). take at old ++ (new ++ (octet ∷ [])) ++ drop x old) {x = last + 1} {y = at + length (new ++ (octet ∷ []))} (omega arith)
    ∙ sym (fits (new ++ (octet ∷ [])) at old (omega arith))

-- one octet alone
pub laid-alone : (octet at : ℕ) (old : List ℕ) → at < length old → set old at octet ≡ laid_at (octet ∷ []) at old
laid-alone octet at old h =
    sym (laid_at-none at (set old at octet) (omega (arith, length-set old at octet)))
    ∙ ap (λ (x : ℕ). laid_at [] at (set old x octet)) {x = at} {y = at + length {A = ℕ} []} (omega arith)
    ∙ laid-before [] octet at old (omega arith)

-- nothing
pub wrote_none : (at : ℕ) (old : List ℕ) → at < 2 ^ 64 → length old < 2 ^ 64 - 1 → Wrote [] at old at old
wrote_none at old h r = record { place = omega arith; room = r; long = refl; holds = λ fit. sym (laid_at-none at old (omega arith)) }

-- one list, and another behind it
pub wrote_then : {xs ys old mid text : List ℕ} {at next end : ℕ} → Wrote xs at old next mid → Wrote ys next mid end text → Wrote (xs ++ ys) at old end text
wrote_then {xs} {ys} {old} {mid} {text} {at} {next} {end} a b =
    let both : length (xs ++ ys) ≡ length xs + length ys = length-append xs ys in
    record {
      place = omega (arith, a.place, b.place);
      room = a.room;
      long = b.long ∙ a.long;
      holds = λ fit.
          let there : next ≡ at + length xs = omega (arith, a.place, a.room) in
          b.holds (omega (arith, a.long))
          ∙ ap₂ (λ (x : ℕ) (y : List ℕ). laid_at ys x y) there (a.holds (omega arith))
          ∙ laid_at-then xs ys at old (omega arith);
    }

pub wrote-is : {xs ys old text : List ℕ} {at next : ℕ} → xs ≡ ys → Wrote xs at old next text → Wrote ys at old next text
wrote-is {old = old} {text = text} {at = at} {next = next} e w = subst (λ (x : List ℕ). Wrote x at old next text) e w

-- what fits from the start is laid over it
pub wrote-laid : {new old text : List ℕ} {next : ℕ} → Wrote new 0 old next text → length new ≤ length old → (next ≡ length new) × (text ≡ laid new old)
wrote-laid {new} {old} w h = (omega (arith, w.place, w.room), w.holds (omega arith) ∙ laid-start new old h)

-- the line of a refusal: its letters, and its number
pub wrote-refusal : {old mid text : List ℕ} {at next end : ℕ} (n : ℕ) → Wrote (114 ∷ 101 ∷ 102 ∷ 117 ∷ 115 ∷ 101 ∷ 100 ∷ 32 ∷ []) at old next mid → Wrote (field n 10) next mid end text
    → Wrote (refused_line n) at old end text
unfolding refused_line
wrote-refusal n a b = wrote_then a b
