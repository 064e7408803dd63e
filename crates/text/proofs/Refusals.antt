-- What a call that writes a listing answers, line by line of its table: document 01, "Numbers of refusal". Assumes nothing.
use mathlib.Core.Path.{◌≡◌, refl, sym, ap, ◌∙◌}
use mathlib.Core.Bool.{Bool, true, false, not, ◌&&◌}
use mathlib.Core.List.{List, [], ◌∷◌}
use Prim.Native.Nat.{ℕ, ◌≤◌, ◌<◌}
use native.Mathlib.Omega.{arith}
use borrow.Author.Tests.{not-false, le-ltb, lt-ltb, eq-eqb, ne_eqb, eqb-true}
use lib.Dec.{ltb, eqb}
use lib.ListN.{length}
use Rattle.bits.specs.Bounds.{all_below}
use Rattle.bits.specs.Order.{laid}
use Rattle.bits.specs.Refusals.{Line, ◌when◌, refusal_by}
use Rattle.bits.proofs.Choice.{pick-both, both_true, parts-true}
use Rattle.bits.proofs.Laid.{length-laid}
use Rattle.bits.proofs.Refusals.{given, passed, none_left}
use Rattle.frame.specs.declared.modes.Row.{Row}
use Rattle.frame.specs.declared.modes.Numbers.{Numbers}
use Rattle.frame.specs.Modes.{flagged_bound, row, numbers_of, most_of_all}
use Rattle.commands.specs.Writing.{channel_words}
use Rattle.text.specs.Text.{text_of}
use Rattle.text.specs.Writing.{Done, done, answer_of, room_over, refusals, written}
use Rattle.text.specs.Messages.{messages_text, messages_refusals, messages_written}
use Rattle.text.specs.inner.Wrote.{Wrote}
use Rattle.text.proofs.Wrote.{wrote-laid}

-- ---- by the number of refusal

pub refused : (refusal : ℕ) (new text : List ℕ) → (refusal ≡ 0 → ⊥) → done (record { refusal = refusal; count = 0 }) text ≡ answer_of refusal new text
unfolding answer_of
refused refusal new text n = rw (ne_eqb refusal 0 n)

accepted : (new text : List ℕ) → done (record { refusal = 0; count = length new }) (laid new text) ≡ answer_of 0 new text
unfolding answer_of
accepted new text = refl

pub whole : (refusal : ℕ) (new text : List ℕ) → refusal ≡ 0 → answer_of refusal new text ≡ done (record { refusal = 0; count = length new }) (laid new text)
whole refusal new text z = ap (λ (k : ℕ). answer_of k new text) z ∙ sym (accepted new text)

-- a call answers by the number that its table gives
pub answered : {d : Done} (refusal : ℕ) (lines : List Line) (new text : List ℕ) → d ≡ answer_of refusal new text → refusal ≡ refusal_by lines → d ≡ answer_of (refusal_by lines) new text
answered refusal lines new text e f = e ∙ ap (λ (k : ℕ). answer_of k new text) f

-- what an answer says: the number itself, and a count of octets that stand in the text, which keeps its length
pub record Stands (refusal : ℕ) (text : List ℕ) (d : Done) : Type 0 where
  pub number : d.answer.refusal ≡ refusal
  pub within : d.answer.count ≤ length text
  pub long : length d.text ≡ length text

pub stands : (refusal : ℕ) (new text : List ℕ) → (refusal ≡ 0 → length new ≤ length text) → Stands refusal text (answer_of refusal new text)
unfolding answer_of
stands refusal new text room =
    pick-both (Stands refusal text) (eqb refusal 0) _ _
    (λ e. let z = eqb-true refusal 0 e in record { number = sym z; within = room z; long = length-laid new text (room z) })
    (λ _. record { number = refl; within = omega arith; long = refl })

-- ---- by the room

pub no_room : (new text : List ℕ) → length text < length new → done (record { refusal = 7; count = 0 }) text ≡ room_over new text
no_room new text h =
    answered 7 (7 when ltb (length text) (length new) ∷ []) new text (refused 7 new text (λ e. absurd (omega arith)))
    (given 7 (ltb (length text) (length new)) [] (lt-ltb (length text) (length new) h))

pub with-room : (new text : List ℕ) → length new ≤ length text → done (record { refusal = 0; count = length new }) (laid new text) ≡ room_over new text
with-room new text h =
    answered 0 (7 when ltb (length text) (length new) ∷ []) new text (accepted new text)
    (none_left ∙ passed 7 (ltb (length text) (length new)) [] (le-ltb (length text) (length new) h))

-- measured over no text, and then refused or written
module _ {new none : List ℕ} {count : ℕ} (measured : Wrote new 0 [] count none) where
  pub too_long : {text : List ℕ} → length text < count → done (record { refusal = 7; count = 0 }) text ≡ room_over new text
  too_long {text} h = no_room new text (omega (arith, measured.place))

  pub all-written : {old text : List ℕ} {end : ℕ} → count ≤ length old → Wrote new 0 old end text → done (record { refusal = 0; count = end }) text ≡ room_over new old
  all-written {old} h w =
      let enough : length new ≤ length old = omega (arith, measured.place, w.room) in
      let t = wrote-laid w enough in
      rw (t.0, t.1) (with-room new old enough)

-- ---- by the lists

pub lengths-alike : (s p q : ℕ) → not (eqb p s && eqb q s) ≡ false → (p ≡ s) × (q ≡ s)
lengths-alike s p q e =
    let both = parts-true (eqb p s) (eqb q s) (not-false (eqb p s && eqb q s) e) in
    (eqb-true p s both.0, eqb-true q s both.1)

passed-alike : (s p q : ℕ) (lines : List Line) → p ≡ s → q ≡ s → refusal_by lines ≡ refusal_by (4 when not (eqb p s && eqb q s) ∷ lines)
passed-alike s p q lines e f = passed 4 (not (eqb p s && eqb q s)) lines (ap not (both_true (eqb p s) (eqb q s) (eq-eqb p s e) (eq-eqb q s f)))

module _ (R : Row) (E received : ℕ) (s p q text : List ℕ) where
  pub unlike : not (eqb (length p) (length s) && eqb (length q) (length s)) ≡ true → done (record { refusal = 4; count = 0 }) text ≡ written R E received s p q text
  unfolding written
  unlike e =
      let new = text_of R E received s p q in
      answered 4 (refusals (length s) (length p) (length q) new text) new text (refused 4 new text (λ z. absurd (omega arith))) (given 4 _ _ e)

  module _ (e : length p ≡ length s) (f : length q ≡ length s) where
    pub too_many : most_of_all < length s → done (record { refusal = 5; count = 0 }) text ≡ written R E received s p q text
    unfolding written
    too_many h =
        let new = text_of R E received s p q in
        answered 5 (refusals (length s) (length p) (length q) new text) new text (refused 5 new text (λ z. absurd (omega arith)))
        (given 5 _ _ (lt-ltb most_of_all (length s) h) ∙ passed-alike (length s) (length p) (length q) _ e f)

    -- lists that are alike and few: all that is asked is the room
    pub taken : length s ≤ most_of_all → room_over (text_of R E received s p q) text ≡ written R E received s p q text
    unfolding written
    taken h =
        let new = text_of R E received s p q in
        answered _ (refusals (length s) (length p) (length q) new text) new text refl
        (passed 5 _ _ (le-ltb most_of_all (length s) h) ∙ passed-alike (length s) (length p) (length q) _ e f)

-- ---- by the commands

module _ (mode E received : ℕ) (commands text : List ℕ) (n : ℕ) (words : n ≡ channel_words mode) where
  abbrev new : List ℕ
  new = messages_text mode E received commands

  pub no-channel : n ≡ 0 → done (record { refusal = 1; count = 0 }) text ≡ messages_written mode E received commands text
  unfolding messages_written
  no-channel z =
      answered 1 (messages_refusals mode commands new text) new text (refused 1 new text (λ e. absurd (omega arith)))
      (given 1 _ _ (eq-eqb (channel_words mode) 0 (sym words ∙ z)))

  module _ (some : n ≡ 0 → ⊥) where
    past-channel : (lines : List Line) → refusal_by lines ≡ refusal_by (1 when eqb (channel_words mode) 0 ∷ lines)
    past-channel lines = passed 1 (eqb (channel_words mode) 0) lines (ne_eqb (channel_words mode) 0 (λ z. some (words ∙ z)))

    pub too-many-commands : most_of_all < length commands → done (record { refusal = 5; count = 0 }) text ≡ messages_written mode E received commands text
    unfolding messages_written
    too-many-commands h =
        answered 5 (messages_refusals mode commands new text) new text (refused 5 new text (λ e. absurd (omega arith)))
        (given 5 _ _ (lt-ltb most_of_all (length commands) h) ∙ past-channel _)

    module _ (few : length commands ≤ most_of_all) (R : Row) (own : R ≡ row mode) (numbers : Numbers) (follow : numbers ≡ numbers_of R) where
      below : {t : Bool} → all_below numbers.flagged commands ≡ t → not (all_below (flagged_bound (row mode).sync) commands) ≡ not t
      below e = ap not (sym (ap (λ (N : Numbers). all_below N.flagged commands) follow ∙ ap (λ (S : Row). all_below (flagged_bound S.sync) commands) own) ∙ e)

      pub command-wide : all_below numbers.flagged commands ≡ false → done (record { refusal = 6; count = 0 }) text ≡ messages_written mode E received commands text
      unfolding messages_written
      command-wide e =
          answered 6 (messages_refusals mode commands new text) new text (refused 6 new text (λ z. absurd (omega arith)))
          (given 6 _ _ (below e) ∙ passed 5 _ _ (le-ltb most_of_all (length commands) few) ∙ past-channel _)

      -- a list that is read: all that is asked is the room
      pub list-taken : all_below numbers.flagged commands ≡ true → room_over new text ≡ messages_written mode E received commands text
      unfolding messages_written
      list-taken e =
          answered _ (messages_refusals mode commands new text) new text refl
          (passed 6 _ _ (below e) ∙ passed 5 _ _ (le-ltb most_of_all (length commands) few) ∙ past-channel _)
