-- The words of a message that is written, and that they are read back. Assumes nothing.
use mathlib.Core.Path.{◌≡◌, refl, sym, ap, ap₂, ◌∙◌}
use mathlib.Core.Bool.{Bool, true, false, not, ◌&&◌, ◌||◌, true≢false}
use mathlib.Core.List.{List, ◌++◌}
use Prim.Native.Nat.{ℕ, zero, suc, ◌+◌, ◌-◌, ◌*◌, ◌/◌, ◌%◌, ◌^◌, ◌≤◌, ◌<◌}
use native.Mathlib.Nat.{mul_comm, mul-add, mul-add-div, mul-add-mod_self_left, div-add-mod, mod-lt, mul-one, mul-le-mul_left, mod-eq_of_lt, div-lt_iff_lt-mul}
use native.Mathlib.Decide.{dec_lt}
use native.Mathlib.Omega.{arith}
use borrow.Author.Tests.{lt-ltb, le-ltb, le-leb}
use lib.Dec.{ltb, eqb}
use lib.ListN.{length, get_or, replicate, length-append, get_or-append}
use lib.Seq.{get_or-append-add, ext_get_or}
use Rattle.std.specs.Prelude.{Some}
use Rattle.std.proofs.Math.Bool.{or-true}
use Rattle.bits.specs.Bounds.{all_below}
use Rattle.bits.specs.Choice.{pick}
use Rattle.bits.specs.Order.{list_from, laid}
use Rattle.bits.proofs.Lists.{length-list, get_or-list}
use Rattle.commands.specs.declared.words.Word.{Word}
use Rattle.commands.specs.declared.words.Word.TheVariants.{Header, Payload, Padding, Spoilt, End}
use Rattle.commands.specs.declared.events.Event.TheVariants as event
use Rattle.commands.specs.Words.{together, with_parity, word_in, spoilt, said, word_at}
use Rattle.commands.specs.Table51.{function_of}
use Rattle.commands.specs.Writing.{message_word, commands_for, command_of, written}
use Rattle.commands.specs.Promises.{opens, as_read}
use Rattle.commands.specs.Reading.{meant, is_spoilt, five_bits, in_a_row, found, complete, past_padding, past_cut, payload_from, message_at, header_at, event_at, begin_from, event_from}
use Rattle.commands.proofs.Commands.{is-payload, is-idle, word_small, together-less}
use Rattle.commands.proofs.Spoken.{at-word}
use Rattle.commands.proofs.InARow.{row-off, row-exact}
use Rattle.commands.proofs.Digits.{word_back, word-is, above, not-spoilt, said-header, said-payload, said-padding}

-- ---- words behind other commands

same_test : (a x y : ℕ) → ltb (a + x) (a + y) ≡ ltb x y
same_test a x y = by (dec_lt x y)
  where
    by : Dec (x < y) → ltb (a + x) (a + y) ≡ ltb x y
    by (yes less) = lt-ltb (a + x) (a + y) (omega (arith, less)) ∙ sym (lt-ltb x y less)
    by (no more) = le-ltb (a + x) (a + y) (omega (arith, more)) ∙ sym (le-ltb x y (omega (arith, more)))

pub word-behind : (n : ℕ) → 1 ≤ n → (before after : List ℕ) (i : ℕ) → word_at n (before ++ after) (n * length before + i) ≡ word_at n after i
unfolding word_at
word-behind n some before after i =
    let place : (n * length before + i) / n ≡ length before + i / n = mul-add-div {m = n} some (length before) i in
    let rest : (n * length before + i) % n ≡ i % n = mul-add-mod_self_left n (length before) i in
    let command : get_or (before ++ after) ((n * length before + i) / n) 0 ≡ get_or after (i / n) 0
    = ap (λ (k : ℕ). get_or (before ++ after) k 0) place ∙ get_or-append-add before after (i / n) 0 in
    let inside : ltb ((n * length before + i) / n) (length (before ++ after)) ≡ ltb (i / n) (length after)
    = ap₂ ltb place (length-append before after) ∙ same_test (length before) (i / n) (length after) in
    ap₂ (λ (t : Bool) (w : Word). pick t w End) inside
    (ap₂ (λ (c j : ℕ). pick (spoilt n c) Spoilt (said j (word_in n c j))) command rest)

-- ---- the words of a message that is written

module _ (n : ℕ) (some : 1 ≤ n) (code : ℕ) (small : code < 32) (payload : List ℕ) (below : all_below 32 payload ≡ true) (after : List ℕ) where
  abbrev count : ℕ
  count = commands_for n (length payload)

  abbrev list : List ℕ
  list = written n code payload ++ after

  -- the last command has a word of the message, and idle headers behind it at most
  pub reaches : length payload < n * count
  unfolding commands_for
  reaches = omega (arith, div-add-mod (length payload + n) n, mod-lt (length payload + n) some)

  pub fills : n * count ≤ length payload + n
  unfolding commands_for
  fills = omega (arith, div-add-mod (length payload + n) n)

  pub long : length (written n code payload) ≡ count
  unfolding written
  long = length-list (command_of n code payload) 0 count

  one : (k : ℕ) → k < count → get_or list k 0 ≡ command_of n code payload k
  unfolding written
  one k h =
      get_or-append (written n code payload) after 0 k (omega (arith, long, h))
      ∙ get_or-list (command_of n code payload) 0 count k h ∙ ap (command_of n code payload) {x = 0 + k} {y = k} (omega arith)

  -- command k is not spoilt, and has the message's words
  whole : (k : ℕ) → spoilt n (command_of n code payload k) ≡ false
  unfolding command_of
  whole k = not-spoilt n (together (message_word code payload) (n * k) n) (together-less code payload small below (n * k) n)

  has : (k j : ℕ) → j < n → word_in n (command_of n code payload k) j ≡ message_word code payload (n * k + j)
  unfolding command_of
  has k j h =
      word-is n (with_parity (together (message_word code payload) (n * k) n)) j
      ∙ ap (λ (v : ℕ). v / 2 ^ (6 * (n - 1 - j)) % 64) (above (together (message_word code payload) (n * k) n))
      ∙ word_back (λ (i : ℕ). message_word code payload (n * k + i)) (λ i. word_small code payload small below (n * k + i)) n j h

  pub says : (i : ℕ) → i < n * count → word_at n list i ≡ said (i % n) (message_word code payload i)
  says i h =
      let k = i / n in
      let inside : k < count = (div-lt_iff_lt-mul {k = n} {x = i} {y = count} some).1 (omega (arith, h, mul_comm n count)) in
      let within : k < length list = omega (arith, length-append (written n code payload) after, long, inside) in
      at-word n list i within (ap (spoilt n) (one k inside) ∙ whole k)
      ∙ ap (said (i % n)) (ap (λ (c : ℕ). word_in n c (i % n)) (one k inside) ∙ has k (i % n) (mod-lt i some) ∙ ap (message_word code payload) (div-add-mod i n))

  pub says-header : word_at n list 0 ≡ Header code
  unfolding message_word
  says-header = says 0 (omega (arith, reaches)) ∙ said-header (0 % n) code small (mod-eq_of_lt some)

  pub says-payload : (k : ℕ) → k < length payload → word_at n list (1 + k) ≡ Payload (get_or payload k 0)
  says-payload k h =
      says (1 + k) (omega (arith, reaches, h)) ∙ ap (said ((1 + k) % n)) (sym (is-payload code payload (1 + k) (omega arith) (omega (arith, h))))
      ∙ said-payload ((1 + k) % n) (get_or payload (1 + k - 1) 0) ∙ ap (λ (i : ℕ). Payload (get_or payload i 0)) {x = 1 + k - 1} {y = k} (omega arith)

  -- an idle header behind the message is never the first word of a command
  inner : (i : ℕ) → length payload < i → i < n * count → 0 < i % n
  inner i over h = by (dec_lt 0 (i % n))
    where
      by : Dec (0 < i % n) → 0 < i % n
      by (yes some-way) = some-way
      by (no first) =
          let inside : i / n < count = (div-lt_iff_lt-mul {k = n} {x = i} {y = count} some).1 (omega (arith, h, mul_comm n count)) in
          let up : n * (i / n + 1) ≤ n * count = mul-le-mul_left n (omega (arith, inside)) in
          absurd (omega (arith, div-add-mod i n, fills, mul-add n (i / n) 1, mul-one n, up, first, over))

  pub says-padding : (i : ℕ) → length payload < i → i < n * count → word_at n list i ≡ Padding
  says-padding i over h = says i h ∙ ap (said (i % n)) (sym (is-idle code payload i over)) ∙ said-padding (i % n) (inner i over h)

-- ---- a message in a stream of words: its header at word b, its payload, padding, and then a header or the end

module _ (n : ℕ) (words : ℕ → Word) (b code : ℕ) (payload : List ℕ) (padding : ℕ) (few-left : padding < n)
    (line : (function_of code).defined ≡ true) (enough : (function_of code).fewest ≤ length payload) (most : length payload ≤ (function_of code).most)
    (header : words b ≡ Header code) (taken : (k : ℕ) → k < length payload → words (b + 1 + k) ≡ Payload (get_or payload k 0))
    (filled : (k : ℕ) → k < padding → words (b + 1 + length payload + k) ≡ Padding)
    (next : Word) (follows : words (b + 1 + length payload + padding) ≡ next) (opening : opens next ≡ true) where
  abbrev behind : ℕ
  behind = b + 1 + length payload

  -- an opening word is neither payload nor padding, nor spoilt
  plain : (w : Word) → opens w ≡ true → (meant true true w ≡ false) × (meant true false w ≡ false) × (meant false true w ≡ false) × (is_spoilt w ≡ false)
  plain (Header code) e = (refl, refl, refl, refl)
  plain (Payload bits) e = absurd (true≢false (sym e))
  plain Padding e = absurd (true≢false (sym e))
  plain Spoilt e = absurd (true≢false (sym e))
  plain End e = (refl, refl, refl, refl)

  -- so is not payload, nor spoilt, what stands directly behind it
  by-padding : (p : ℕ) → p ≡ padding → (meant true false (words behind) ≡ false) × (is_spoilt (words behind) ≡ false)
  by-padding zero e =
      let here : words behind ≡ next = ap words {x = behind} {y = behind + padding} (omega (arith, e)) ∙ follows in
      (ap (meant true false) here ∙ (plain next opening).1, ap is_spoilt here ∙ (plain next opening).3)
  by-padding (suc p) e =
      let here : words behind ≡ Padding = ap words {x = behind} {y = behind + 0} (omega arith) ∙ filled 0 (omega (arith, e)) in
      (ap (meant true false) here, ap is_spoilt here)

  counted : in_a_row (meant true false) words (b + 1) (function_of code).most ≡ length payload
  counted = row-exact (meant true false) words (b + 1) (length payload) (function_of code).most (λ k h. ap (meant true false) (taken k h)) most (λ _. (by-padding padding refl).0)

  passed : past_padding n words behind ≡ behind + padding
  unfolding past_padding
  passed =
      ap (λ (k : ℕ). behind + k)
      (row-exact (meant false true) words behind padding n (λ k h. ap (meant false true) (filled k h)) (omega (arith, few-left)) (λ _. ap (meant false true) follows ∙ (plain next opening).2))

  done-with : complete (function_of code) (length payload) (is_spoilt (words behind)) ≡ true
  unfolding complete
  done-with =
      ap₂ (λ (f s : Bool). eqb (length payload) (function_of code).most || (f && not s)) (le-leb (function_of code).fewest (length payload) enough) (by-padding padding refl).1
      ∙ or-true (eqb (length payload) (function_of code).most)

  same-payload : list_from (λ (k : ℕ). five_bits (words k)) (b + 1) (length payload) ≡ payload
  same-payload =
      let long = length-list (λ (k : ℕ). five_bits (words k)) (b + 1) (length payload) in
      ext_get_or 0 (list_from (λ (k : ℕ). five_bits (words k)) (b + 1) (length payload)) payload long
      (λ k h.
      let inside : k < length payload = omega (arith, h, long) in
      get_or-list (λ (k : ℕ). five_bits (words k)) (b + 1) (length payload) k inside ∙ ap five_bits (taken k inside))

  pub message-back : header_at n words b code ≡ found (Some (event.Message (as_read (record { code = code; payload = payload })))) b (behind + padding)
  unfolding header_at message_at payload_from
  message-back =
      ap (λ (t : Bool). pick t (message_at n words b code (in_a_row (meant true false) words (b + 1) (function_of code).most)) (found (Some (event.Undefined code)) b (past_padding n words (b + 1)))) line
      ∙ ap (message_at n words b code) counted
      ∙ ap (λ (t : Bool). pick t (found (Some (event.Message (record { code = code; count = length payload; words = payload_from n words (b + 1) (length payload) }))) b (past_padding n words behind)) (found (Some (event.Cut (1 + length payload))) b (past_cut n words behind (is_spoilt (words behind))))) done-with
      ∙ ap₂ (λ (l : List ℕ) (x : ℕ). found (Some (event.Message (record { code = code; count = length payload; words = laid l (replicate 7 0) }))) b x) same-payload passed

  -- and it is what a read from its header on gives
  pub read_back : (all : ℕ) → event_from n words all b ≡ found (Some (event.Message (as_read (record { code = code; payload = payload })))) b (behind + padding)
  unfolding event_from begin_from
  read_back all =
      let none = row-off (meant true true) words b (all - b) (ap (meant true true) header) in
      let here : b + in_a_row (meant true true) words b (all - b) ≡ b = omega (arith, none) in
      ap (λ (i : ℕ). event_at n words i (words i)) here ∙ ap (event_at n words b) header ∙ message-back
