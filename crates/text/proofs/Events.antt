-- The lines of all events, read by read: request 6. Assumes nothing.
use mathlib.Core.Path.{◌≡◌, refl, sym, ap, ap₂, subst, ◌∙◌}
use mathlib.Core.List.{List, [], ◌++◌, append_assoc, append-nil}
use Prim.Native.Nat.{ℕ, zero, suc, ◌+◌, ◌-◌, ◌*◌, ◌/◌, ◌^◌, ◌≤◌, ◌<◌}
use native.Mathlib.Nat.{mul-le-mul}
use native.Mathlib.Decide.{dec_lt}
use native.Mathlib.Omega.{arith}
use lib.ListN.{length, length-append}
use Rattle.std.specs.Prelude.{Option, Some, None, Result, Ok, Err, IsOk}
use Rattle.answers.specs.declared.Refusal.{Refusal}
use Rattle.frame.specs.Modes.{row, most_of_all}
use Rattle.commands.specs.declared.events.Event.{Event}
use Rattle.commands.specs.declared.events.Event.TheVariants as event
use Rattle.commands.specs.declared.events.Read.{Read}
use Rattle.commands.specs.Writing.{channel_words}
use Rattle.commands.specs.Reading.{refusal_of, event_in, Reading, read_as, reading}
use Rattle.commands.proofs.Found.{from_past}
use Rattle.commands.proofs.Progress.{Told, Relied, relied, goes_on}
use Rattle.answers.proofs.Numbers.{number-above}
use Rattle.commands.proofs.Answers.{read-refusal, list-ready, list_read}
use Rattle.text.specs.Text.{head_line}
use Rattle.text.specs.Messages.{event_line, line_of, event_lines, messages_text}
use Rattle.text.specs.inner.Wrote.{Wrote}
use Rattle.text.proofs.Wrote.{wrote_none, wrote_then, wrote-is}

-- ---- as many reads as there are words left are enough

module _ (n : ℕ) (commands : List ℕ) where
  abbrev all : ℕ
  all = n * length commands

  -- the lines of all events from a word on
  unfoldable pub lines_from : ℕ → List ℕ
  lines_from from = event_lines n commands from (all - from)

  pub from_start : lines_from 0 ≡ event_lines n commands 0 all
  unfolding lines_from
  from_start = ap (event_lines n commands 0) (omega arith)

  module _ (some : 1 ≤ n) where
    past-none : (reads from : ℕ) → all ≤ from → event_lines n commands from reads ≡ []
    unfolding event_lines
    past-none zero from h = refl
    past-none (suc reads) from h =
        ap (λ (r : Read). line_of n commands r ++ event_lines n commands r.next reads) (sym (from_past n commands from some h)) ∙ past-none reads from h

    -- one read more than enough changes nothing
    one_more : (reads from : ℕ) → all - from ≤ reads → event_lines n commands from (suc reads) ≡ event_lines n commands from reads
    unfolding event_lines
    one_more zero from h = past-none 1 from (omega arith)
    one_more (suc reads) from h = by (dec_lt from all) (one_more reads (event_in n commands from).next)
      where
        by : Dec (from < all) → let next = (event_in n commands from).next in (all - next ≤ reads → event_lines n commands next (suc reads) ≡ event_lines n commands next reads)
            → event_lines n commands from (suc (suc reads)) ≡ event_lines n commands from (suc reads)
        by (no over) on = past-none (suc (suc reads)) from (omega arith) ∙ sym (past-none (suc reads) from (omega arith))
        by (yes low) on = ap (λ (l : List ℕ). line_of n commands (event_in n commands from) ++ l) (on (omega (arith, goes_on n commands some from low)))

    enough : (extra from : ℕ) → event_lines n commands from (all - from + extra) ≡ lines_from from
    unfolding lines_from
    enough zero from = ap (event_lines n commands from) (omega arith)
    enough (suc extra) from =
        ap (event_lines n commands from) (omega arith) ∙ one_more (all - from + extra) from (omega arith) ∙ enough extra from

    pub lines_end : (from : ℕ) → all ≤ from → lines_from from ≡ []
    unfolding lines_from
    lines_end from h = past-none (all - from) from h

    pub lines-on : (from : ℕ) → from < all → lines_from from ≡ line_of n commands (event_in n commands from) ++ lines_from (event_in n commands from).next
    unfolding lines_from event_lines
    lines-on from h =
        let r = event_in n commands from in
        let left = all - from - 1 in
        let goes = goes_on n commands some from h in
        let e : left ≡ all - r.next + (left - (all - r.next)) = omega arith in
        ap (event_lines n commands from) {x = all - from} {y = suc left} (omega arith)
        ∙ ap (λ (l : List ℕ). line_of n commands r ++ l) (ap (event_lines n commands r.next) e ∙ enough (left - (all - r.next)) r.next)

    -- at a word or at the list's end, the line of what is read there comes first
    lines_at : (from : ℕ) → from ≤ all → lines_from from ≡ line_of n commands (event_in n commands from) ++ lines_from (event_in n commands from).next
    lines_at from h = by (dec_lt from all)
      where
        by : Dec (from < all) → lines_from from ≡ line_of n commands (event_in n commands from) ++ lines_from (event_in n commands from).next
        by (yes low) = lines-on from low
        by (no over) = ap (λ (r : Read). line_of n commands r ++ lines_from r.next) (from_past n commands from some (omega arith))

-- ---- a list that is read

told-goes : (all b next : ℕ) (e : Event) → Told all b next (Some e) → b < next
told-goes _ b next (event.Message m) t = omega (arith, t.4)
told-goes _ b next (event.Cut taken) t = omega (arith, t.1)
told-goes _ b next (event.Undefined code) t = omega (arith, t.1)

module _ (mode : ℕ) (commands : List ℕ) (accepted : refusal_of mode commands ≡ 0) (n : ℕ) (words : n ≡ channel_words mode) where
  pub words-some : (1 ≤ n) × (n ≤ 3)
  words-some = list-ready mode commands 0 (refusal_of mode commands) refl accepted n words

  pub lines_are : event_lines n commands 0 (n * length commands) ≡ event_lines (channel_words mode) commands 0 (channel_words mode * length commands)
  lines_are = ap (λ (x : ℕ). event_lines x commands 0 (x * length commands)) words

  -- all words of a list that is not too long
  pub words-counted : length commands ≤ most_of_all → n * length commands ≤ 3 * most_of_all
  words-counted h = mul-le-mul words-some.1 h

  -- it is read at every word
  pub read-ok : (from : ℕ) (answer : Result Read Refusal) → read_as from answer ≡ reading mode commands from → IsOk answer
  read-ok from (Ok r) e = refl
  read-ok from (Err why) e = absurd (number-above why (ap (λ (x : Reading). x.refusal) e ∙ read-refusal mode commands from ∙ accepted))

  pub read-is : (from : ℕ) (answer : Result Read Refusal) (r : Read) → read_as from answer ≡ reading mode commands from → answer ≡ Ok r → event_in n commands from ≡ r
  read-is from answer r e is =
      ap (λ (x : Reading). record { event = x.event; begin = x.begin; next = x.next })
      (list_read mode commands from (refusal_of mode commands) refl accepted n words ∙ sym e ∙ ap (read_as from) is)

-- ---- read by read

module _ (n : ℕ) (commands : List ℕ) where
  -- the lines before that of a read are written, and the read may be relied on
  pub record Begun (start : ℕ) (old : List ℕ) (r : Read) (at : ℕ) (text : List ℕ) : Type 0 where
    pub so_far : List ℕ
    pub wrote : Wrote so_far start old at text
    pub rest : so_far ++ (line_of n commands r ++ lines_from n commands r.next) ≡ lines_from n commands 0
    pub trust : Relied (n * length commands) 0 r

  pub begun-first : {start : ℕ} {old : List ℕ} → 1 ≤ n → start < 2 ^ 64 → length old < 2 ^ 64 - 1 → (r : Read) → event_in n commands 0 ≡ r → Begun start old r start old
  begun-first {start} {old} some h room r is = subst (λ (s : Read). Begun start old s start old) is (record {
    so_far = [];
    wrote = wrote_none start old h room;
    rest = sym (lines_at n commands some 0 (omega arith));
    trust = relied n commands some 0 (omega arith);
  })

  module _ {start at : ℕ} {old mid : List ℕ} (r : Read) (b : Begun start old r at mid) where
    pub begun_all : 1 ≤ n → r.event ≡ None → Wrote (event_lines n commands 0 (n * length commands)) start old at mid
    begun_all some none =
        let t = subst (Told (n * length commands) r.begin r.next) none b.trust.told in
        let left : line_of n commands r ++ lines_from n commands r.next ≡ []
        = ap (λ (v : Option Event). event_line (r.begin / n) v ++ lines_from n commands r.next) none ∙ lines_end n commands some r.next (omega (arith, t.0, t.1)) in
        wrote-is (sym (append-nil b.so_far) ∙ ap (λ (l : List ℕ). b.so_far ++ l) (sym left) ∙ b.rest ∙ from_start n commands) b.wrote

    module _ (e : Event) (some-event : r.event ≡ Some e) where
      told : Told (n * length commands) r.begin r.next (Some e)
      told = subst (Told (n * length commands) r.begin r.next) some-event b.trust.told

      pub goes_further : 1 ≤ n → (s : Read) → event_in n commands r.next ≡ s → (r.begin < s.begin) × (s.begin ≤ n * length commands)
      goes_further some s is =
          let trust = subst (Relied (n * length commands) r.next) is (relied n commands some r.next b.trust.stays) in
          (omega (arith, told-goes (n * length commands) r.begin r.next e told, trust.behind), trust.begins)

      pub begun_more : {k end : ℕ} {text : List ℕ} → 1 ≤ n → k ≡ r.begin / n → Wrote (event_line k (Some e)) at mid end text → (s : Read) → event_in n commands r.next ≡ s → Begun start old s end text
      begun_more {end = end} {text = text} some multiblock w s is = subst (λ (x : Read). Begun start old x end text) is (record {
        so_far = b.so_far ++ line_of n commands r;
        wrote = wrote_then b.wrote (wrote-is (ap₂ event_line multiblock (sym some-event)) w);
        rest =
            append_assoc b.so_far (line_of n commands r) _
            ∙ ap (λ (l : List ℕ). b.so_far ++ (line_of n commands r ++ l)) (sym (lines_at n commands some r.next b.trust.stays))
            ∙ b.rest;
        trust = still (relied n commands some r.next b.trust.stays);
      })
        where
          still : {all from : ℕ} {s : Read} → Relied all from s → Relied all 0 s
          still t = record { behind = omega arith; begins = t.begins; stays = t.stays; told = t.told }

-- ---- the whole text

pub messages-length : (mode E received : ℕ) (commands : List ℕ)
    → length (messages_text mode E received commands)
    ≡ length (head_line (row mode) E received (length commands)) + length (event_lines (channel_words mode) commands 0 (channel_words mode * length commands))
unfolding messages_text
messages-length mode E received commands =
    length-append (head_line (row mode) E received (length commands)) (event_lines (channel_words mode) commands 0 (channel_words mode * length commands))
