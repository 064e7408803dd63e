-- The line of an event, part by part: request 6. Assumes nothing.
use mathlib.Core.Path.{◌≡◌, refl, sym, ap, ◌∙◌}
use mathlib.Core.List.{List, [], ◌∷◌, ◌++◌, append_assoc, append-nil}
use Prim.Native.Nat.{ℕ, ◌+◌, ◌<◌}
use native.Mathlib.Numerals.{add-one}
use native.Mathlib.Omega.{arith}
use lib.ListN.{length, get_or, take, length-append}
use lib.Seq.{take-suc}
use Rattle.text.specs.Text.{decimal}
use Rattle.text.specs.Messages.{words_text, told_line}
use Rattle.text.specs.inner.Wrote.{Wrote, field}
use Rattle.text.proofs.Wrote.{wrote_then, wrote-is}

-- ---- words one by one

pub no_words : words_text [] ≡ []
unfolding words_text
no_words = refl

words_append : (a b : List ℕ) → words_text (a ++ b) ≡ words_text a ++ words_text b
unfolding words_text
words_append [] b = refl
words_append (w ∷ a) b =
    ap (λ (l : List ℕ). 32 ∷ (decimal w ++ l)) (words_append a b) ∙ ap (λ (l : List ℕ). 32 ∷ l) (sym (append_assoc (decimal w) (words_text a) (words_text b)))

one_word : (w : ℕ) → words_text (w ∷ []) ≡ 32 ∷ decimal w
unfolding words_text
one_word w = ap (λ (l : List ℕ). 32 ∷ l) (append-nil (decimal w))

module _ (words : List ℕ) {i : ℕ} (h : i < length words) where
  words-next : words_text (take (i + 1) words) ≡ words_text (take i words) ++ (32 ∷ decimal (get_or words i 0))
  words-next =
      ap words_text (ap (λ (j : ℕ). take j words) (add-one i) ∙ take-suc words i 0 h)
      ∙ words_append (take i words) (get_or words i 0 ∷ [])
      ∙ ap (λ (l : List ℕ). words_text (take i words) ++ l) (one_word (get_or words i 0))

  pub words-longer : length (words_text (take (i + 1) words)) ≡ length (words_text (take i words)) + (1 + length (decimal (get_or words i 0)))
  words-longer = ap length words-next ∙ omega (arith, length-append (words_text (take i words)) (32 ∷ decimal (get_or words i 0)))

  module _ {old mid : List ℕ} {at next : ℕ} (w : Wrote (words_text (take i words)) at old next mid) where
    pub wrote-word : {mid' text : List ℕ} {number end : ℕ} → Wrote (32 ∷ []) next mid number mid' → Wrote (decimal (get_or words i 0)) number mid' end text
        → Wrote (words_text (take (i + 1) words)) at old end text
    wrote-word a b = wrote-is (sym words-next) (wrote_then w (wrote_then a b))

-- ---- the line

pub told-length : (k : ℕ) (name : List ℕ) (number : ℕ) (words : List ℕ)
    → length (told_line k name number words) ≡ length name + length (decimal k) + length (decimal number) + length (words_text words) + 2
unfolding told_line
told-length k name number words =
    omega (
      arith,
      length-append (field k 32) (name ++ (decimal number ++ (words_text words ++ (10 ∷ [])))),
      length-append (decimal k) (32 ∷ []),
      length-append name (decimal number ++ (words_text words ++ (10 ∷ []))),
      length-append (decimal number) (words_text words ++ (10 ∷ [])),
      length-append (words_text words) (10 ∷ []),
    )

-- its parts one after the other
pub wrote-told : (k : ℕ) (name : List ℕ) (number : ℕ) (words : List ℕ) {old text₁ text₂ text₃ text₄ text : List ℕ} {at at₁ at₂ at₃ at₄ end : ℕ}
    → Wrote (field k 32) at old at₁ text₁ → Wrote name at₁ text₁ at₂ text₂ → Wrote (decimal number) at₂ text₂ at₃ text₃ → Wrote (words_text words) at₃ text₃ at₄ text₄
    → Wrote (10 ∷ []) at₄ text₄ end text
    → Wrote (told_line k name number words) at old end text
unfolding told_line
wrote-told k name number words a b c d e = wrote_then a (wrote_then b (wrote_then c (wrote_then d e)))
