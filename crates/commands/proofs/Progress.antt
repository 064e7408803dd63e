-- What a read may be relied on for: it stays inside its list, goes on, and gives small numbers.
-- Assumes nothing.
use mathlib.Core.Path.{◌≡◌, refl, sym, ap, subst, ◌∙◌}
use mathlib.Core.Bool.{Bool, true, false, ◌&&◌, true≢false}
use mathlib.Core.List.{List, ◌++◌}
use Prim.Native.Nat.{ℕ, zero, suc, ◌+◌, ◌-◌, ◌*◌, ◌/◌, ◌%◌, ◌≤◌, ◌<◌}
use native.Mathlib.Nat.{mul_comm, mul-le-mul_left, le-div_iff_mul-le, div-lt_iff_lt-mul, mod-lt}
use native.Mathlib.Decide.{dec_lt}
use native.Mathlib.Omega.{arith}
use borrow.Author.Tests.{leb-true, leb-false, lt-ltb}
use lib.Dec.{leb, ltb, eqb, lit<}
use lib.ListN.{length, get_or, drop, replicate, get_or-append, length-replicate}
use lib.Seq.{get_or-append_right, get_or-drop}
use Rattle.std.specs.Prelude.{Option, Some, None}
use Rattle.bits.specs.Choice.{pick}
use Rattle.bits.specs.Order.{list_from, laid}
use Rattle.bits.proofs.Choice.{pick-both}
use Rattle.bits.proofs.Lists.{length-list, get_or-list}
use Rattle.bits.proofs.Laid.{length-laid}
use Rattle.commands.specs.declared.words.Word.{Word}
use Rattle.commands.specs.declared.words.Word.TheVariants.{Header, Payload, Padding, Spoilt, End}
use Rattle.commands.specs.declared.events.Event.{Event}
use Rattle.commands.specs.declared.events.Event.TheVariants as event
use Rattle.commands.specs.declared.events.Read.{Read}
use Rattle.commands.specs.Words.{word_in, spoilt, said, word_at}
use Rattle.commands.specs.Table51.{function_of}
use Rattle.commands.specs.Reading.{meant, is_spoilt, five_bits, in_a_row, found, complete, past_command, past_padding, past_cut, payload_from, message_at, header_at, event_at, begin_from, event_from, event_in}
use Rattle.commands.proofs.Table.{most-few}
use Rattle.commands.proofs.Spoken.{at-end, past-command-above}
use Rattle.commands.proofs.InARow.{row-none, row_on, row-off, row-le}

-- ---- what words say

-- the five bits of a word, whatever it says
abbrev Small : Word → Type 0
Small (Header code) = code < 32
Small (Payload bits) = bits < 32
Small Padding = Unit {0}
Small Spoilt = Unit {0}
Small End = Unit {0}

abbrev is_end : Word → Bool
is_end (Header code) = false
is_end (Payload bits) = false
is_end Padding = false
is_end Spoilt = false
is_end End = true

no_end : (w : Word) → is_end w ≡ false → w ≡ End → ⊥
no_end w e x = true≢false (sym (ap is_end x) ∙ e)

said-speaks : (j word : ℕ) → is_end (said j word) ≡ false
unfolding said
said-speaks j word =
    pick-both (λ (w : Word). is_end w ≡ false) (leb 32 word) (Payload (word - 32)) (pick (eqb word 0 && ltb 0 j) Padding (Header word))
    (λ _. refl) (λ _. pick-both (λ (w : Word). is_end w ≡ false) (eqb word 0 && ltb 0 j) Padding (Header word) (λ _. refl) (λ _. refl))

said-small : (j word : ℕ) → word < 64 → Small (said j word)
unfolding said
said-small j word h =
    pick-both Small (leb 32 word) (Payload (word - 32)) (pick (eqb word 0 && ltb 0 j) Padding (Header word))
    (λ t. omega (arith, leb-true 32 word t))
    (λ f. pick-both Small (eqb word 0 && ltb 0 j) Padding (Header word) (λ _. tt) (λ _. leb-false 32 word f))

module _ (n : ℕ) (commands : List ℕ) where
  abbrev all : ℕ
  all = n * length commands

  pub word_small : (i : ℕ) → Small (word_at n commands i)
  unfolding word_at word_in
  word_small i =
      let command = get_or commands (i / n) 0 in
      pick-both Small (ltb (i / n) (length commands)) (pick (spoilt n command) Spoilt (said (i % n) (word_in n command (i % n)))) End
      (λ _. pick-both Small (spoilt n command) Spoilt (said (i % n) (word_in n command (i % n))) (λ _. tt) (λ _. said-small (i % n) (word_in n command (i % n)) (mod-lt _ (lit< tt)))) (λ _. tt)

  bits_small : (w : Word) → Small w → five_bits w < 32
  bits_small (Header code) h = lit< tt
  bits_small (Payload bits) h = h
  bits_small Padding h = lit< tt
  bits_small Spoilt h = lit< tt
  bits_small End h = lit< tt

  inside-speaks : (i : ℕ) → i / n < length commands → is_end (word_at n commands i) ≡ false
  unfolding word_at
  inside-speaks i h =
      let command = get_or commands (i / n) 0 in
      let word = said (i % n) (word_in n command (i % n)) in
      ap (λ (t : Bool). is_end (pick t (pick (spoilt n command) Spoilt word) End)) (lt-ltb (i / n) (length commands) h)
      ∙ pick-both (λ (w : Word). is_end w ≡ false) (spoilt n command) Spoilt word (λ _. refl) (λ _. said-speaks (i % n) (word_in n command (i % n)))

  module _ (some : 1 ≤ n) where
    -- where a word says anything the list has not ended
    pub speaks : (i : ℕ) → (word_at n commands i ≡ End → ⊥) → i < all
    speaks i h = by (dec_lt (i / n) (length commands))
      where
        by : Dec (i / n < length commands) → i < all
        by (yes inside) = omega (arith, (div-lt_iff_lt-mul {k = n} {x = i} {y = length commands} some).0 inside, mul_comm n (length commands))
        by (no over) = absurd (h (at-end n commands i (omega arith)))

    -- and where it has not ended a word says something
    pub ended : (i : ℕ) → word_at n commands i ≡ End → all ≤ i
    unfolding word_at
    ended i e = by (dec_lt (i / n) (length commands))
      where
        by : Dec (i / n < length commands) → all ≤ i
        by (yes inside) = absurd (no_end (word_at n commands i) (inside-speaks i inside) e)
        by (no over) = omega (arith, (le-div_iff_mul-le {k = n} {x = length commands} {y = i} some).0 (omega arith), mul_comm n (length commands))

    -- words in a row that the end is none of stay inside the list
    module _ (is : Word → Bool) (not_end : is End ≡ false) where
      counted-speaks : (i : ℕ) → is (word_at n commands i) ≡ true → i < all
      counted-speaks i e = speaks i (λ x. true≢false (sym e ∙ ap is x ∙ not_end))

      by_word : (i most : ℕ) (b : Bool) → is (word_at n commands i) ≡ b → i ≤ all
          → (suc i ≤ all → suc i + in_a_row is (word_at n commands) (suc i) most ≤ all) → i + in_a_row is (word_at n commands) i (suc most) ≤ all
      by_word i most true e h next = omega (arith, row_on is (word_at n commands) i most e, next (counted-speaks i e))
      by_word i most false e h next = omega (arith, row-off is (word_at n commands) i (suc most) e)

      pub row_inside : (i most : ℕ) → i ≤ all → i + in_a_row is (word_at n commands) i most ≤ all
      row_inside i zero h = omega (arith, row-none is (word_at n commands) i)
      row_inside i (suc most) h = by_word i most (is (word_at n commands i)) refl h (λ k. row_inside (suc i) most k)

    -- where fewer are counted than could be, the next is not meant
    module _ (is : Word → Bool) (words : ℕ → Word) where
      by_next : (i most : ℕ) (b : Bool) → is (words i) ≡ b → in_a_row is words i (suc most) < suc most
          → (in_a_row is words (suc i) most < most → is (words (suc i + in_a_row is words (suc i) most)) ≡ false)
          → is (words (i + in_a_row is words i (suc most))) ≡ false
      by_next i most true e h next =
          let one = row_on is words i most e in
          let here : i + in_a_row is words i (suc most) ≡ suc i + in_a_row is words (suc i) most = omega (arith, one) in
          ap (λ (k : ℕ). is (words k)) here ∙ next (omega (arith, one))
      by_next i most false e h next =
          let none = row-off is words i (suc most) e in
          let here : i + in_a_row is words i (suc most) ≡ i = omega (arith, none) in
          ap (λ (k : ℕ). is (words k)) here ∙ e

      pub row-stops : (i most : ℕ) → in_a_row is words i most < most → is (words (i + in_a_row is words i most)) ≡ false
      row-stops i zero h = absurd (omega (arith, h))
      row-stops i (suc most) h = by_next i most (is (words i)) refl h (λ k. row-stops (suc i) most k)

    -- ---- where a read goes on

    pub past-padding-inside : (i : ℕ) → i ≤ all → (i ≤ past_padding n (word_at n commands) i) × (past_padding n (word_at n commands) i ≤ all)
    unfolding past_padding
    past-padding-inside i h = (omega arith, row_inside (meant false true) refl i n h)

    pub past-command-inside : (i : ℕ) → i < all → (i < past_command n i) × (past_command n i ≤ all)
    unfolding past_command
    past-command-inside i h =
        let inside : i / n < length commands = (div-lt_iff_lt-mul {k = n} {x = i} {y = length commands} some).1 (omega (arith, h, mul_comm n (length commands))) in
        (past-command-above n i some, mul-le-mul_left n (omega (arith, inside)))

    by-spoilt : (i : ℕ) (w : Word) → word_at n commands i ≡ w → i ≤ all → (b : Bool) → is_spoilt w ≡ b
        → (i ≤ past_cut n (word_at n commands) i b) × (past_cut n (word_at n commands) i b ≤ all)
    unfolding past_cut
    by-spoilt i (Header code) e h true s = absurd (true≢false (sym s))
    by-spoilt i (Payload bits) e h true s = absurd (true≢false (sym s))
    by-spoilt i Padding e h true s = absurd (true≢false (sym s))
    by-spoilt i Spoilt e h true s = let p = past-command-inside i (speaks i (λ x. no_end Spoilt refl (sym e ∙ x))) in (omega (arith, p.0), p.1)
    by-spoilt i End e h true s = absurd (true≢false (sym s))
    by-spoilt i w e h false s = past-padding-inside i h

    pub past-cut-inside : (i : ℕ) → i ≤ all
        → (i ≤ past_cut n (word_at n commands) i (is_spoilt (word_at n commands i))) × (past_cut n (word_at n commands) i (is_spoilt (word_at n commands i)) ≤ all)
    past-cut-inside i h = by-spoilt i (word_at n commands i) refl h (is_spoilt (word_at n commands i)) refl

-- ---- the numbers of a message

zeros-small : (many i : ℕ) → get_or (replicate many 0) i 0 < 32
zeros-small zero i = lit< tt
zeros-small (suc many) zero = lit< tt
zeros-small (suc many) (suc i) = zeros-small many i

-- a list laid over zeros: its own numbers, and then 0
laid-small : (new : List ℕ) → ((i : ℕ) → i < length new → get_or new i 0 < 32) → (zeros i : ℕ) → get_or (laid new (replicate zeros 0)) i 0 < 32
unfolding laid
laid-small new h zeros i = by (dec_lt i (length new))
  where
    by : Dec (i < length new) → get_or (new ++ drop (length new) (replicate zeros 0)) i 0 < 32
    by (yes low) = rw (get_or-append new (drop (length new) (replicate zeros 0)) 0 i low) (h i low)
    by (no over) =
        let past : length new ≤ i = omega arith in
        rw (get_or-append_right new (drop (length new) (replicate zeros 0)) i 0 past, get_or-drop {A = ℕ} (length new) (replicate zeros 0) (i - length new) 0)
        (zeros-small zeros (length new + (i - length new)))

-- what is told of an event from word b, after which reading goes on at word `next`: small numbers, and as many words as were taken
abbrev pub Told : ℕ → ℕ → ℕ → Option Event → Type 0
Told last b next None = (b ≡ last) × (next ≡ b)
Told last b next (Some (event.Message m)) = (m.count ≤ 7) × (length m.words ≡ 7) × (m.code < 32) × ((i : ℕ) → get_or m.words i 0 < 32) × (b + 1 + m.count ≤ next)
Told last b next (Some (event.Cut words)) = (words ≤ 8) × (b + 1 ≤ next)
Told last b next (Some (event.Undefined code)) = (code < 32) × (b + 1 ≤ next)

pub record Relied (all from : ℕ) (r : Read) : Type 0 where
  pub behind : from ≤ r.begin
  pub begins : r.begin ≤ all
  pub stays : r.next ≤ all
  pub told : Told all r.begin r.next r.event

module _ (n : ℕ) (commands : List ℕ) (some : 1 ≤ n) where
  abbrev words : ℕ → Word
  words = word_at n commands

  payload-told : (i count : ℕ) → count ≤ 7 → (length (payload_from n words i count) ≡ 7) × ((k : ℕ) → get_or (payload_from n words i count) k 0 < 32)
  unfolding payload_from
  payload-told i count h =
      let taken = list_from (λ (k : ℕ). five_bits (words k)) i count in
      let long = length-list (λ (k : ℕ). five_bits (words k)) i count in
      let each : (k : ℕ) → k < length taken → get_or taken k 0 < 32 = λ k l. rw (get_or-list (λ (k : ℕ). five_bits (words k)) i count k (omega (arith, long, l))) (bits_small n commands (words (i + k)) (word_small n commands (i + k))) in
      (length-laid taken (replicate 7 0) (omega (arith, long)) ∙ length-replicate {A = ℕ} 7 0, laid-small taken each 7)

  -- with a header at word b
  message-relied : (from b code count : ℕ) → from ≤ b → b + 1 + count ≤ all n commands → code < 32 → count ≤ 7 → Relied (all n commands) from (message_at n words b code count)
  unfolding message_at
  message-relied from b code count f h small few =
      let behind = b + 1 + count in
      let padding = past-padding-inside n commands some behind h in
      let cut = past-cut-inside n commands some behind h in
      let payload = payload-told (b + 1) count few in
      pick-both (Relied (all n commands) from) (complete (function_of code) count (is_spoilt (words behind)))
      (found (Some (event.Message (record { code = code; count = count; words = payload_from n words (b + 1) count }))) b (past_padding n words behind))
      (found (Some (event.Cut (1 + count))) b (past_cut n words behind (is_spoilt (words behind))))
      (λ _. record { behind = f; begins = omega (arith, h); stays = padding.1; told = (few, payload.0, small, payload.1, padding.0) })
      (λ _. record { behind = f; begins = omega (arith, h); stays = cut.1; told = (omega (arith, few), omega (arith, cut.0)) })

  header-relied : (from b code : ℕ) → from ≤ b → b < all n commands → code < 32 → Relied (all n commands) from (header_at n words b code)
  unfolding header_at
  header-relied from b code f h small =
      let count = in_a_row (meant true false) words (b + 1) (function_of code).most in
      let padding = past-padding-inside n commands some (b + 1) (omega (arith, h)) in
      let few : count ≤ 7 = omega (arith, row-le (meant true false) words (b + 1) (function_of code).most, most-few code) in
      pick-both (Relied (all n commands) from) (function_of code).defined (message_at n words b code count) (found (Some (event.Undefined code)) b (past_padding n words (b + 1)))
      (λ _. message-relied from b code count f (row_inside n commands some (meant true false) refl (b + 1) (function_of code).most (omega (arith, h))) small few)
      (λ _. record { behind = f; begins = omega (arith, h); stays = padding.1; told = (small, padding.0) })

  -- where the words that are skipped stop
  at-relied : (from b : ℕ) (w : Word) → words b ≡ w → from ≤ b → b ≤ all n commands → (meant true true w ≡ true → b ≡ all n commands) → Relied (all n commands) from (event_at n words b w)
  at-relied from b (Header code) e f h stops =
      header-relied from b code f (speaks n commands some b (λ x. no_end (Header code) refl (sym e ∙ x))) (subst Small e (word_small n commands b))
  at-relied from b (Payload bits) e f h stops = record { behind = f; begins = h; stays = h; told = (stops refl, refl) }
  at-relied from b Padding e f h stops = record { behind = f; begins = h; stays = h; told = (stops refl, refl) }
  at-relied from b Spoilt e f h stops =
      let past = past-command-inside n commands some b (speaks n commands some b (λ x. no_end Spoilt refl (sym e ∙ x))) in
      record { behind = f; begins = h; stays = past.1; told = (omega arith, omega (arith, past.0)) }
  at-relied from b End e f h stops = record { behind = f; begins = h; stays = h; told = (omega (arith, h, ended n commands some b e), refl) }

  pub relied : (from : ℕ) → from ≤ all n commands → Relied (all n commands) from (event_in n commands from)
  unfolding event_in event_from begin_from
  relied from h =
      let is = meant true true in
      let left = all n commands - from in
      let skipped = in_a_row is words from left in
      let b = from + skipped in
      at-relied from b (words b) refl (omega arith) (row_inside n commands some is refl from left h) (λ e. stop (dec_lt skipped left) e)
    where
      stop : Dec (in_a_row (meant true true) words from (all n commands - from) < all n commands - from)
          → meant true true (words (from + in_a_row (meant true true) words from (all n commands - from))) ≡ true
          → from + in_a_row (meant true true) words from (all n commands - from) ≡ all n commands
      stop (yes fewer) e = absurd (true≢false (sym e ∙ row-stops n commands some (meant true true) words from (all n commands - from) fewer))
      stop (no over) e = omega (arith, h, row-le (meant true true) words from (all n commands - from))

  -- each read goes on, but at the list's end
  goes : (from : ℕ) (r : Read) (e : Option Event) → r.event ≡ e → from < all n commands → Relied (all n commands) from r → from < r.next
  goes from r None e h x = let t = subst (Told (all n commands) r.begin r.next) e x.told in omega (arith, h, t.0, t.1)
  goes from r (Some (event.Message m)) e h x = let t = subst (Told (all n commands) r.begin r.next) e x.told in omega (arith, x.behind, t.4)
  goes from r (Some (event.Cut w)) e h x = let t = subst (Told (all n commands) r.begin r.next) e x.told in omega (arith, x.behind, t.1)
  goes from r (Some (event.Undefined code)) e h x = let t = subst (Told (all n commands) r.begin r.next) e x.told in omega (arith, x.behind, t.1)

  pub goes_on : (from : ℕ) → from < all n commands → from < (event_in n commands from).next
  goes_on from h = goes from (event_in n commands from) (event_in n commands from).event refl h (relied from (omega (arith, h)))

  pub stays-inside : (from : ℕ) → from ≤ all n commands → (event_in n commands from).next ≤ all n commands
  stays-inside from h = (relied from h).stays
