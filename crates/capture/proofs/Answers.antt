-- Answers by the table of a capture and 7 behind it, where there is no room for a text: whichever modes are taken, and whatever the text is.
-- Document 01, "Numbers of refusal". Assumes nothing.
use mathlib.Core.Path.{◌≡◌, refl, sym, ap, ◌∙◌}
use mathlib.Core.Bool.{Bool}
use mathlib.Core.List.{List, [], ◌∷◌, ◌++◌}
use Prim.Native.Nat.{ℕ, ◌≤◌}
use native.Mathlib.Omega.{arith}
use native.Mathlib.Decide.{ℕ_discrete}
use borrow.Author.Tests.{le-ltb, ltb-false, eq-eqb, ne_eqb}
use lib.Dec.{ltb, eqb}
use lib.ListN.{length, take}
use Rattle.std.specs.Prelude.{Result, Ok, Err, IsOk}
use Rattle.answers.specs.declared.Refusal.{Refusal}
use Rattle.answers.specs.Numbers.{Counted, counted}
use Rattle.bits.specs.Choice.{pick}
use Rattle.bits.specs.Refusals.{Line, ◌when◌, refusal_by}
use Rattle.bits.specs.Order.{laid}
use Rattle.bits.proofs.Laid.{length-laid, taken_back}
use Rattle.bits.proofs.Refusals.{none_left, passed, not-given}
use Rattle.answers.proofs.Numbers.{number-above}
use Rattle.text.specs.Text.{refused_line}
use Rattle.text.specs.Writing.{Done, done, answer_of, room_over}
use Rattle.text.proofs.Refusals.{Stands, stands, refused, answered, whole, with-room}
use Rattle.text.proofs.Short.{refusal-short}
use Rattle.capture.specs.Form.{refusals_by}
use Rattle.capture.proofs.Refusals.{still-refused, not-yet-refused}

-- all that is printed: a text, or the line of the refusal
abbrev pub printed_by : ℕ → List ℕ → List ℕ
printed_by refusal new = pick (eqb refusal 0) new (refused_line refusal)

module _ (taken : ℕ → Bool) (capture new text : List ℕ) where
  abbrev table : List Line
  table = refusals_by taken capture

  abbrev all : List Line
  all = table ++ 7 when ltb (length text) (length new) ∷ []

  -- ---- as code comes to them

  pub is-refused : (r : ℕ) → r ≡ refusal_by table → (r ≡ 0 → ⊥) → done (record { refusal = r; count = 0 }) text ≡ answer_of (refusal_by all) new text
  is-refused r e n = answered r all new text (refused r new text n) (e ∙ still-refused taken capture _ (λ z. n (e ∙ z)))

  pub is-written : refusal_by table ≡ 0 → room_over new text ≡ answer_of (refusal_by all) new text
  is-written z = answered _ all new text refl (not-yet-refused taken capture _ z)

  -- ---- what they say: what is counted stands in the text, which keeps its length

  so-counted : Stands (refusal_by all) text (answer_of (refusal_by all) new text)
  so-counted = stands _ new text (λ z. ltb-false (length text) (length new) (not-given 7 all tt z))

  room-enough : (refusal_by table ≡ 0 → length new ≤ length text) → refusal_by all ≡ refusal_by table
  room-enough fits = by (ℕ_discrete (refusal_by table) 0)
    where
      by : Dec (refusal_by table ≡ 0) → refusal_by all ≡ refusal_by table
      by (no n) = sym (still-refused taken capture _ n)
      by (yes z) = sym (not-yet-refused taken capture _ z) ∙ sym (none_left ∙ passed 7 _ [] (le-ltb (length text) (length new) (fits z))) ∙ sym z

  module _ (text' : List ℕ) (r : Counted) (e : done r text' ≡ answer_of (refusal_by all) new text) where
    kept-length : length text' ≡ length text
    kept-length = ap (λ (x : Done). length x.text) e ∙ so-counted.long

    pub counted-within : r.count ≤ length text'
    counted-within = omega (arith, ap (λ (x : Done). x.answer.count) e, so-counted.within, kept-length)

    -- ---- and what a program prints, whose text always has room: the text, or the line of the refusal

    module _ (fits : refusal_by table ≡ 0 → length new ≤ length text) where
      by-table : r.refusal ≡ refusal_by table
      by-table = ap (λ (x : Done). x.answer.refusal) e ∙ so-counted.number ∙ room-enough fits

      pub text-printed : r.refusal ≡ 0 → (r.count ≤ length text') × (take r.count text' ≡ printed_by (refusal_by table) new)
      text-printed z =
          let none : refusal_by table ≡ 0 = sym by-table ∙ z in
          let is = e ∙ whole _ new text (room-enough fits ∙ none) in
          (counted-within, rw (ap (λ (x : Done). x.answer.count) is, ap (λ (x : Done). x.text) is, eq-eqb (refusal_by table) 0 none) (taken_back new text))

      -- there is room for the line
      module _ (n : r.refusal ≡ 0 → ⊥) (room : 29 ≤ length text) (answer : Result ℕ Refusal) (text'' : List ℕ) (put : done (counted answer) text'' ≡ room_over (refused_line r.refusal) text') where
        abbrev own : List ℕ
        own = refused_line r.refusal

        short : length own ≤ length text'
        short = omega (arith, refusal-short r.refusal, room, kept-length)

        is-put : done (counted answer) text'' ≡ done (record { refusal = 0; count = length own }) (laid own text')
        is-put = put ∙ sym (with-room own text' short)

        pub line-ok : IsOk answer
        line-ok = by answer (ap (λ (x : Done). x.answer.refusal) is-put)
          where
            by : (a : Result ℕ Refusal) → (counted a).refusal ≡ 0 → IsOk a
            by (Ok count) z = refl
            by (Err why) z = absurd (number-above why z)

        pub line-printed : (count : ℕ) → answer ≡ Ok count → (count ≤ length text'') × (take count text'' ≡ printed_by (refusal_by table) new)
        line-printed count is =
            let long : count ≡ length own = ap (λ (a : Result ℕ Refusal). (counted a).count) (sym is) ∙ ap (λ (x : Done). x.answer.count) is-put in
            let holds : text'' ≡ laid own text' = ap (λ (x : Done). x.text) is-put in
            (omega (arith, long, ap length holds, length-laid own text' short, short), rw (holds, long, ← by-table, ne_eqb r.refusal 0 n) (taken_back own text'))
