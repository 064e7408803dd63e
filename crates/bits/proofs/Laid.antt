-- Octets laid over others: a word as eight octets, and octets that follow those laid before. Document 01, "From octets to lane bits".
-- Assumes nothing.
use mathlib.Core.Path.{◌≡◌, refl, sym, ap, ap₂, ◌∙◌}
use mathlib.Core.List.{List, [], ◌∷◌, ◌++◌, append_assoc, append-nil}
use Prim.Native.Nat.{ℕ, ◌+◌, ◌-◌, ◌*◌, ◌≤◌, ◌<◌}
use native.Mathlib.Nat.{zero-add, div-one}
use native.Mathlib.Numerals.{add-one}
use native.Mathlib.Omega.{arith}
use lib.Dec.{leb, leb→le, le→leb, not_T, lit≤}
use lib.ListN.{length, set, take, drop, length-append, length-drop, drop_of_length-le}
use lib.Seq.{append_snoc, set_split, length-take-le, take_at, drop_at, take_all, drop-length, drop-append-add, drop-drop, take-append_seam}
use borrow.Rule.Slice.PartMut.{put_mid, mid_of, post_of, Post-is}
use Rattle.std.specs.Int.{w64, to_be_bytes}
use Rattle.bits.specs.Order.{list_from, number, digit, octets_of, laid, laid_at}
use Rattle.bits.proofs.Choice.{pick_true, pick-false}
use Rattle.bits.proofs.Numbers.{number-digit, number-ext, digit-number}
use Rattle.bits.proofs.Lists.{length-list, list-append, list_ext}
use Rattle.bits.proofs.Octets.{length-octets_of}

pub length-laid : (new old : List ℕ) → length new ≤ length old → length (laid new old) ≡ length old
unfolding laid
length-laid new old h = length-append new (drop (length new) old) ∙ omega (arith, length-drop (length new) old)

pub length-laid-octets : (f : ℕ → ℕ) (n : ℕ) (old : List ℕ) → n ≤ length old → length (laid (octets_of f n) old) ≡ length old
length-laid-octets f n old h = length-laid (octets_of f n) old (omega (arith, length-octets_of f n))

-- what was laid is there
pub taken_back : (new old : List ℕ) → take (length new) (laid new old) ≡ new
unfolding laid
taken_back new old = take-append_seam new (drop (length new) old)

pub laid-nothing : (old : List ℕ) → laid [] old ≡ old
unfolding laid
laid-nothing old = refl

-- laid over no more than its own length, a list is all that is left
pub laid-all : (new old : List ℕ) → length old ≤ length new → laid new old ≡ new
unfolding laid
laid-all new old h = ap (λ (x : List ℕ). new ++ x) (drop_of_length-le old h) ∙ append-nil new

-- ---- where they fit, and where not

pub fits : (new : List ℕ) (at : ℕ) (old : List ℕ) → at + length new ≤ length old → laid_at new at old ≡ take at old ++ new ++ drop (at + length new) old
unfolding laid_at
fits new at old h = pick_true (leb (at + length new) (length old)) _ _ (le→leb (at + length new) (length old) h)

pub too_short : (new : List ℕ) (at : ℕ) (old : List ℕ) → length old < at + length new → laid_at new at old ≡ old
unfolding laid_at
too_short new at old h =
    pick-false (leb (at + length new) (length old)) _ _ (not_T (leb (at + length new) (length old)) (λ t. let q = leb→le (at + length new) (length old) t in omega arith))

-- ---- octets stored

word-octets : (word : ℕ) → to_be_bytes w64 word ≡ octets_of (digit 64 word) 8
unfolding octets_of list_from
word-octets word =
    rw (number-digit 64 word 0 8 (lit≤ tt), number-digit 64 word 8 8 (lit≤ tt), number-digit 64 word 16 8 (lit≤ tt), number-digit 64 word 24 8 (lit≤ tt), number-digit 64 word 32 8 (lit≤ tt), number-digit 64 word 40 8 (lit≤ tt), number-digit 64 word 48 8 (lit≤ tt), number-digit 64 word 56 8 (lit≤ tt), div-one)

-- the octets of a word, copied over the eight from a place on
pub store : (word at : ℕ) (old part : List ℕ) → at + 8 ≤ length old → part ≡ to_be_bytes w64 word → put_mid at (at + 8 - at) old part ≡ laid_at (octets_of (digit 64 word) 8) at old
store word at old part h e =
    let new = octets_of (digit 64 word) 8 in
    let n : length new ≡ 8 = length-octets_of (digit 64 word) 8 in
    ap₂ (λ (x y : List ℕ). take at old ++ (x ++ y)) (e ∙ word-octets word) (Post-is at (at + 8) old (omega arith))
    ∙ sym (fits new at old (omega arith) ∙ ap (λ (x : ℕ). take at old ++ new ++ drop (at + x) old) n ∙ append_assoc (take at old) new (drop (at + 8) old))

-- one octet stored
laid-octet : (at octet : ℕ) (old : List ℕ) → at < length old → set old at octet ≡ laid_at (octet ∷ []) at old
laid-octet at octet old h =
    set_split old at octet h ∙ sym (fits (octet ∷ []) at old (omega arith) ∙ append_snoc (take at old) octet (drop (at + 1) old) ∙ ap (λ (x : ℕ). take at old ++ octet ∷ drop x old) (add-one at))

-- ---- one list after another

-- a list laid behind another that was laid
laid_at-join : (a b : List ℕ) (at : ℕ) (old : List ℕ) → at + length a + length b ≤ length old → laid_at b (at + length a) (laid_at a at old) ≡ laid_at (a ++ b) at old
laid_at-join a b at old h =
    let front = take at old ++ a in
    let rest = drop (at + length a) old in
    let lf : length front ≡ at + length a = length-append (take at old) a ∙ omega (arith, length-take-le at old (omega arith)) in
    let ll : length (front ++ rest) ≡ length old = length-append front rest ∙ omega (arith, length-drop (at + length a) old) in
    ap (laid_at b (at + length a)) (fits a at old (omega arith))
    ∙ fits b (at + length a) (front ++ rest) (omega arith)
    ∙ ap₂ (λ (x y : List ℕ). x ++ b ++ y) (take_at front rest (at + length a) lf) (ap (λ (x : ℕ). drop (x + length b) (front ++ rest)) (sym lf) ∙ drop-append-add front rest (length b) ∙ drop-drop (length b) (at + length a) old)
    ∙ sym (fits (a ++ b) at old (omega (arith, length-append a b)) ∙ ap (λ (x : ℕ). take at old ++ (a ++ b) ++ drop x old) {x = at + length (a ++ b)} {y = at + length a + length b} (omega (arith, length-append a b)) ∙ simp append_assoc)

-- what is laid from the start
pub laid-start : (new old : List ℕ) → length new ≤ length old → laid_at new 0 old ≡ laid new old
unfolding laid
laid-start new old h = fits new 0 old (omega arith) ∙ ap (λ (x : ℕ). new ++ drop x old) (zero-add (length new))

-- one more stored behind what was laid
pub laid-set : (new old : List ℕ) (x : ℕ) → length new < length old → set (laid new old) (length new) x ≡ laid (new ++ x ∷ []) old
laid-set new old x h =
    laid-octet (length new) x (laid new old) (omega (arith, length-laid new old (omega arith)))
    ∙ ap₂ (laid_at (x ∷ [])) (sym (zero-add (length new))) (sym (laid-start new old (omega arith)))
    ∙ laid_at-join new (x ∷ []) 0 old (omega arith)
    ∙ laid-start (new ++ x ∷ []) old (omega (arith, length-append new (x ∷ [])))

-- what is laid over a list from its place on, as long or longer, is all that is left of it
laid_at-over : (a b : List ℕ) (at : ℕ) (old : List ℕ) → length a ≤ length b → at + length b ≤ length old → laid_at b at (laid_at a at old) ≡ laid_at b at old
laid_at-over a b at old h room =
    let front = take at old in
    let rest = drop (at + length a) old in
    let lf : length front ≡ at = length-take-le at old (omega arith) in
    let la : length (front ++ a) ≡ at + length a = length-append front a ∙ ap (λ (x : ℕ). x + length a) lf in
    let ll : length (front ++ a ++ rest) ≡ length old = length-append (front ++ a) rest ∙ omega (arith, la, length-drop (at + length a) old) in
    let past : drop (at + length b) (front ++ a ++ rest) ≡ drop (at + length b) old =
    ap (λ (x : ℕ). drop x (front ++ a ++ rest)) {x = at + length b} {y = length (front ++ a) + (length b - length a)} (omega (arith, la))
    ∙ drop-append-add (front ++ a) rest (length b - length a)
    ∙ drop-drop (length b - length a) (at + length a) old
    ∙ ap (λ (x : ℕ). drop x old) {x = at + length a + (length b - length a)} {y = at + length b} (omega arith) in
    ap (laid_at b at) (fits a at old (omega arith))
    ∙ fits b at (front ++ a ++ rest) (omega (arith, ll))
    ∙ ap₂ (λ (x y : List ℕ). x ++ b ++ y) (ap (take at) (append_assoc front a rest) ∙ take_at front (a ++ rest) at lf) past
    ∙ sym (fits b at old room)

module _ (f : ℕ → ℕ) where
  -- n octets of a stream, from octet k on
  abbrev octets_from : ℕ → ℕ → List ℕ
  octets_from k n = list_from (λ j. number f (8 * j) 8) k n

  -- the next n octets of a stream, laid behind its first a
  laid_more : (a n : ℕ) (new old : List ℕ) → a + n ≤ length old → new ≡ octets_from a n → laid_at new a (laid (octets_of f a) old) ≡ laid (octets_of f (a + n)) old
  unfolding octets_of
  laid_more a n new old h e =
      let la = length-list (λ j. number f (8 * j) 8) 0 a in
      let ln : length new ≡ n = ap length e ∙ length-list (λ j. number f (8 * j) 8) a n in
      ap₂ (laid_at new) {x = a} {y = 0 + length (octets_from 0 a)} (omega arith) (sym (laid-start (octets_from 0 a) old (omega arith)))
      ∙ laid_at-join (octets_from 0 a) new 0 old (omega arith)
      ∙ ap (λ (x : List ℕ). laid_at x 0 old) (ap (λ (x : List ℕ). octets_from 0 a ++ x) (e ∙ ap (λ (x : ℕ). octets_from x n) (sym (zero-add a))) ∙ sym (list-append (λ j. number f (8 * j) 8) 0 a n))
      ∙ laid-start (octets_from 0 (a + n)) old (omega (arith, length-list (λ j. number f (8 * j) 8) 0 (a + n)))

  module _ (d : (k : ℕ) → f k < 2) where
    -- the octets of a word of its bits
    word-from : (place word : ℕ) → word ≡ number f (8 * place) 64 → octets_of (digit 64 word) 8 ≡ octets_from place 8
    unfolding octets_of
    word-from place word e =
        list_ext (λ j. number (digit 64 word) (8 * j) 8) (λ j. number f (8 * j) 8) 0 place 8
        (λ j q. number-ext (digit 64 word) f (8 * (0 + j)) (8 * (place + j)) 8
        (λ k l. ap (λ (x : ℕ). digit 64 x (8 * (0 + j) + k)) e ∙ digit-number f d (8 * place) 64 (8 * (0 + j) + k) (omega arith) ∙ ap f {x = 8 * place + (8 * (0 + j) + k)} {y = 8 * (place + j) + k} (omega arith)))

    -- a word of its bits, of which those before octet n are laid
    pub laid-over : (place n word : ℕ) (old : List ℕ) → place ≤ n → n ≤ place + 8 → place + 8 ≤ length old → word ≡ number f (8 * place) 64
        → laid_at (octets_of (digit 64 word) 8) place (laid (octets_of f n) old) ≡ laid (octets_of f (place + 8)) old
    laid-over place n word old low high room e =
        let new = octets_of (digit 64 word) 8 in
        let own = octets_from place (n - place) in
        let ln = length-octets_of (digit 64 word) 8 in
        let lo = length-list (λ j. number f (8 * j) 8) place (n - place) in
        let base = laid (octets_of f place) old in
        let lb = length-laid-octets f place old (omega arith) in
        ap (laid_at new place) (ap (λ (x : ℕ). laid (octets_of f x) old) {x = n} {y = place + (n - place)} (omega arith) ∙ sym (laid_more place (n - place) own old (omega arith) refl))
        ∙ laid_at-over own new place base (omega (arith, ln, lo)) (omega (arith, ln, lb))
        ∙ laid_more place 8 new old room (word-from place word e)

    -- its next word
    pub laid_word : (i word : ℕ) (old : List ℕ) → 8 * i + 8 ≤ length old → word ≡ number f (64 * i) 64
        → laid_at (octets_of (digit 64 word) 8) (8 * i) (laid (octets_of f (8 * i)) old) ≡ laid (octets_of f (8 * (i + 1))) old
    laid_word i word old h e =
        laid_more (8 * i) 8 (octets_of (digit 64 word) 8) old h (word-from (8 * i) word (e ∙ ap (λ (x : ℕ). number f x 64) (omega arith)))
        ∙ ap (λ (x : ℕ). laid (octets_of f x) old) {x = 8 * i + 8} {y = 8 * (i + 1)} (omega arith)

-- nothing laid
pub laid_none : (f : ℕ → ℕ) (old : List ℕ) → old ≡ laid (octets_of f 0) old
unfolding laid octets_of list_from
laid_none f old = refl

-- ---- a list that follows, written through the part of a buffer from a place on

module _ (xs ys old all part : List ℕ) (at : ℕ) (here : length xs ≡ at) (so_far : all ≡ laid xs old) (long : length all ≡ length old) (room : at + length ys ≤ length old) where
  pub laid-part : part ≡ laid ys (mid_of at (length all - at) all) → put_mid at (length all - at) all part ≡ laid (xs ++ ys) old
  unfolding laid
  laid-part e =
      let whole : all ≡ xs ++ drop at old = so_far ∙ ap (λ (x : ℕ). xs ++ drop x old) here in
      let before : take at all ≡ xs = ap (take at) whole ∙ take_at xs (drop at old) at here in
      let rest : mid_of at (length all - at) all ≡ drop at old = take_all (length all - at) (drop at all) (simp length-drop (omega arith)) ∙ ap (drop at) whole ∙ drop_at xs (drop at old) at here in
      let past : post_of at (length all - at) all ≡ [] = Post-is at (length all) all (omega arith) ∙ drop-length all in
      let both : length (xs ++ ys) ≡ at + length ys = length-append xs ys ∙ ap (λ (x : ℕ). x + length ys) here in
      rw (before, past, append-nil, e, rest, drop-drop (length ys) at old, both, append_assoc)
