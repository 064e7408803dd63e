-- One message has one encoding: a list that is read whole as a message is what the writer makes of that message. Assumes nothing.
use mathlib.Core.Path.{◌≡◌, refl, sym, ap, subst, ◌∙◌}
use mathlib.Core.Bool.{Bool, true, false, ◌&&◌, true≢false}
use mathlib.Core.List.{List}
use Prim.Native.Nat.{ℕ, zero, suc, ◌+◌, ◌-◌, ◌*◌, ◌/◌, ◌%◌, ◌≤◌, ◌<◌}
use native.Mathlib.Nat.{zero-lt-suc, mul-zero, mul-suc, mul_comm, mul-le-mul_left, mul-mod_right, mul-add-div, mul-add-mod_self_left, mod-eq_of_lt, div-eq_of_lt, div-eq_of_lt-le}
use native.Mathlib.Decide.{dec_lt}
use native.Mathlib.Omega.{arith}
use borrow.Author.Tests.{ltb-true, lt-ltb}
use lib.Dec.{leb, ltb, eqb}
use lib.ListN.{length, get_or, take, replicate}
use lib.Seq.{ext_get_or}
use Rattle.std.specs.Prelude.{Option, Some, None}
use Rattle.bits.specs.Choice.{pick}
use Rattle.bits.specs.Order.{list_from, laid}
use Rattle.bits.proofs.Choice.{pick-both, parts-true}
use Rattle.bits.proofs.Lists.{length-list, get_or-list}
use Rattle.bits.proofs.Laid.{taken_back}
use Rattle.parity.proofs.Groups.{joined-ext}
use Rattle.commands.specs.declared.words.Word.{Word}
use Rattle.commands.specs.declared.words.Word.TheVariants.{Header, Payload, Padding, Spoilt, End}
use Rattle.commands.specs.declared.events.Event.{Event}
use Rattle.commands.specs.declared.events.Event.TheVariants as event
use Rattle.commands.specs.declared.events.Message.{Message}
use Rattle.commands.specs.declared.events.Read.{Read}
use Rattle.commands.specs.Words.{together, with_parity, word_in, spoilt, said, word_at}
use Rattle.commands.specs.Table51.{most_words, function_of}
use Rattle.commands.specs.Writing.{channel_words, message_word, commands_for, command_of, written}
use Rattle.commands.specs.Reading.{meant, is_spoilt, five_bits, in_a_row, found, complete, past_padding, past_cut, payload_from, message_at, header_at, event_at, begin_from, event_from, refusal_of, event_in, Reading}
use Rattle.commands.specs.Promises.{OneEncoding}
use Rattle.commands.proofs.Commands.{is-header, is-payload, is-idle}
use Rattle.commands.proofs.InARow.{row-meant}
use Rattle.commands.proofs.Answers.{list-channel, read-refusal, list_read}
use Rattle.commands.proofs.Digits.{whole-command, saying, saying-said}

-- ---- a read that gives a message

-- it began with its header, took its payload from the words behind that, and passed the padding behind these
record Whole (n : ℕ) (words : ℕ → Word) (message : Message) (begin next : ℕ) : Type 0 where
  header : words begin ≡ Header message.code
  most : ℕ
  counted : message.count ≡ in_a_row (meant true false) words (begin + 1) most
  taken : message.words ≡ payload_from n words (begin + 1) message.count
  padded : next ≡ past_padding n words (begin + 1 + message.count)

module _ (n : ℕ) (words : ℕ → Word) where
  abbrev Told : Option Event → ℕ → ℕ → Type 0
  Told None begin next = Unit {0}
  Told (Some (event.Message message)) begin next = Whole n words message begin next
  Told (Some (event.Cut taken)) begin next = Unit {0}
  Told (Some (event.Undefined code)) begin next = Unit {0}

  abbrev ReadTold : Read → Type 0
  ReadTold r = Told r.event r.begin r.next

  header-told : (b code : ℕ) → words b ≡ Header code → ReadTold (header_at n words b code)
  unfolding header_at message_at
  header-told b code e =
      let most = (function_of code).most in
      let count = in_a_row (meant true false) words (b + 1) most in
      let behind = b + 1 + count in
      pick-both ReadTold (function_of code).defined (message_at n words b code count) (found (Some (event.Undefined code)) b (past_padding n words (b + 1)))
      (λ _. pick-both ReadTold (complete (function_of code) count (is_spoilt (words behind)))
      (found (Some (event.Message (record { code = code; count = count; words = payload_from n words (b + 1) count }))) b (past_padding n words behind))
      (found (Some (event.Cut (1 + count))) b (past_cut n words behind (is_spoilt (words behind))))
      (λ _. record { header = e; most = most; counted = refl; taken = refl; padded = refl }) (λ _. tt))
      (λ _. tt)

  at_told : (b : ℕ) (w : Word) → words b ≡ w → ReadTold (event_at n words b w)
  at_told b (Header code) e = header-told b code e
  at_told b (Payload bits) e = tt
  at_told b Padding e = tt
  at_told b Spoilt e = tt
  at_told b End e = tt

  from_told : (all from : ℕ) → ReadTold (event_from n words all from)
  unfolding event_from
  from_told all from = at_told (begin_from n words all from) (words (begin_from n words all from)) refl

-- ---- what each of its words says

-- a word of a command that is not spoilt says a number
abbrev Says : Word → ℕ → Type 0
Says w v = (is_spoilt w ≡ false) × (saying w ≡ v)

payload-says : (w : Word) → meant true false w ≡ true → Says w (32 + five_bits w)
payload-says (Header code) e = absurd (true≢false (sym e))
payload-says (Payload bits) e = (refl, refl)
payload-says Padding e = absurd (true≢false (sym e))
payload-says Spoilt e = absurd (true≢false (sym e))
payload-says End e = absurd (true≢false (sym e))

padding-says : (w : Word) → meant false true w ≡ true → Says w 0
padding-says (Header code) e = absurd (true≢false (sym e))
padding-says (Payload bits) e = absurd (true≢false (sym e))
padding-says Padding e = (refl, refl)
padding-says Spoilt e = absurd (true≢false (sym e))
padding-says End e = absurd (true≢false (sym e))

abbrev payload_of : Message → List ℕ
payload_of message = take message.count message.words

-- a message that is read from word 0 on, and whose words are `all`
module _ (n : ℕ) (words : ℕ → Word) (message : Message) (all : ℕ) (whole : Whole n words message 0 all) where
  abbrev count : ℕ
  count = message.count

  payload-is : payload_of message ≡ list_from (λ (k : ℕ). five_bits (words k)) 1 count
  unfolding payload_from
  payload-is =
      let bits = list_from (λ (k : ℕ). five_bits (words k)) 1 count in
      let zeros = replicate {A = ℕ} most_words 0 in
      ap (take count) whole.taken
      ∙ ap (λ (c : ℕ). take c (laid bits zeros)) (sym (length-list (λ (k : ℕ). five_bits (words k)) 1 count))
      ∙ taken_back bits zeros

  payload-length : length (payload_of message) ≡ count
  payload-length = ap length payload-is ∙ length-list (λ (k : ℕ). five_bits (words k)) 1 count

  payload-at : (i : ℕ) → 0 < i → i ≤ count → get_or (payload_of message) (i - 1) 0 ≡ five_bits (words i)
  payload-at i h l =
      ap (λ (l : List ℕ). get_or l (i - 1) 0) payload-is
      ∙ get_or-list (λ (k : ℕ). five_bits (words k)) 1 count (i - 1) (omega arith)
      ∙ ap (λ (j : ℕ). five_bits (words j)) {x = 1 + (i - 1)} {y = i} (omega arith)

  payload-meant : (i : ℕ) → 0 < i → i ≤ count → meant true false (words i) ≡ true
  payload-meant i h l =
      ap (λ (j : ℕ). meant true false (words j)) {x = i} {y = 1 + (i - 1)} (omega arith)
      ∙ row-meant (meant true false) words 1 whole.most (i - 1) (omega (arith, whole.counted))

  fills : 1 + count ≤ all
  unfolding past_padding
  fills = omega (arith, whole.padded)

  padding-meant : (i : ℕ) → 1 + count ≤ i → i < all → meant false true (words i) ≡ true
  unfolding past_padding
  padding-meant i h l =
      ap (λ (j : ℕ). meant false true (words j)) {x = i} {y = 1 + count + (i - (1 + count))} (omega arith)
      ∙ row-meant (meant false true) words (1 + count) n (i - (1 + count)) (omega (arith, whole.padded))

  abbrev word : ℕ → ℕ
  word = message_word message.code (payload_of message)

  behind-says : (i : ℕ) → 0 < i → i < all → Dec (count < i) → Says (words i) (word i)
  behind-says i some h (no within) =
      let says = payload-says (words i) (payload-meant i some (omega arith)) in
      let own = is-payload message.code (payload_of message) i (λ z. omega arith) (omega (arith, payload-length)) in
      (says.0, says.1 ∙ ap (λ (bits : ℕ). 32 + bits) (sym (payload-at i some (omega arith))) ∙ own)
  behind-says i some h (yes behind) =
      let says = padding-says (words i) (padding-meant i (omega arith) h) in
      (says.0, says.1 ∙ is-idle message.code (payload_of message) i (omega (arith, payload-length)))

  each-says : (i : ℕ) → i < all → Says (words i) (word i)
  each-says zero h = (ap is_spoilt whole.header, ap saying whole.header ∙ is-header message.code (payload_of message) 0 refl)
  each-says (suc k) h = behind-says (suc k) (zero-lt-suc k) h (dec_lt count (suc k))

-- ---- the commands of these words

module _ (n : ℕ) (commands : List ℕ) where
  -- word j of command k
  word_of : (k j : ℕ) → k < length commands → j < n
      → word_at n commands (n * k + j) ≡ pick (spoilt n (get_or commands k 0)) Spoilt (said j (word_in n (get_or commands k 0) j))
  unfolding word_at
  word_of k j h l =
      let some : 0 < n = omega arith in
      let command : (n * k + j) / n ≡ k = mul-add-div some k j ∙ omega (arith, div-eq_of_lt l) in
      let place : (n * k + j) % n ≡ j = mul-add-mod_self_left n k j ∙ mod-eq_of_lt l in
      rw (command, place, lt-ltb k (length commands) h)

  not-spoilt : (s : Bool) (j w v : ℕ) → Says (pick s Spoilt (said j w)) v → (s ≡ false) × (w ≡ v)
  not-spoilt true j w v says = absurd (true≢false says.0)
  not-spoilt false j w v says = (refl, sym (saying-said j w) ∙ says.1)

  -- a command whose words say those of a stream is made of these
  command-is : (word : ℕ → ℕ) (k : ℕ) → 1 ≤ n → k < length commands → ((j : ℕ) → j < n → Says (word_at n commands (n * k + j)) (word (n * k + j)))
      → get_or commands k 0 ≡ with_parity (together word (n * k) n)
  command-is word k some h says =
      let command = get_or commands k 0 in
      let own : (j : ℕ) → j < n → (spoilt n command ≡ false) × (word_in n command j ≡ word (n * k + j))
      = λ j l. not-spoilt (spoilt n command) j (word_in n command j) (word (n * k + j)) (subst (λ (w : Word). Says w (word (n * k + j))) (word_of k j h l) (says j l)) in
      whole-command n command (own 0 some).0
      ∙ ap with_parity (joined-ext 6 (word_in n command) (λ (j : ℕ). word (n * k + j)) n (λ j l. (own j l).1))

  -- padding is never the first word of its command
  padding-behind : (i : ℕ) → meant false true (word_at n commands i) ≡ true → 0 < i % n
  unfolding word_at said
  padding-behind i =
      let command = get_or commands (i / n) 0 in
      let word = word_in n command (i % n) in
      let Behind : Word → Type 0 = λ w. meant false true w ≡ true → 0 < i % n in
      pick-both Behind (ltb (i / n) (length commands)) (pick (spoilt n command) Spoilt (said (i % n) word)) End
      (λ _. pick-both Behind (spoilt n command) Spoilt (said (i % n) word) (λ _ m. absurd (true≢false (sym m)))
      (λ _. pick-both Behind (leb 32 word) (Payload (word - 32)) (pick (eqb word 0 && ltb 0 (i % n)) Padding (Header word)) (λ _ m. absurd (true≢false (sym m)))
      (λ _. pick-both Behind (eqb word 0 && ltb 0 (i % n)) Padding (Header word) (λ t _. ltb-true 0 (i % n) (parts-true (eqb word 0) (ltb 0 (i % n)) t).1) (λ _ m. absurd (true≢false (sym m))))))
      (λ _ m. absurd (true≢false (sym m)))

-- there are as many commands as hold a header and its payload, where no command begins behind these
how-many : (n count many : ℕ) → 1 ≤ n → 1 + count ≤ n * many → ((i : ℕ) → 1 + count ≤ i → i < n * many → 0 < i % n) → commands_for n count ≡ many
unfolding commands_for
how-many n count zero some h none = absurd (omega (arith, mul-zero n))
how-many n count (suc k) some h none = by (dec_lt (n * k) (1 + count))
  where
    by : Dec (n * k < 1 + count) → (count + n) / n ≡ suc k
    by (yes below) =
        div-eq_of_lt-le {k = suc k} n {m = count + n}
        (omega (arith, mul_comm (suc k) n, mul-suc n k)) (omega (arith, mul_comm (suc k + 1) n, mul-suc n (suc k), h))
    by (no above) = absurd (omega (arith, none (n * k) (omega arith) (omega (arith, mul-suc n k)), mul-mod_right n k))

-- ---- so that the list is what is written

module _ (n : ℕ) (commands : List ℕ) (message : Message) (some : 1 ≤ n) (whole : Whole n (word_at n commands) message 0 (n * length commands)) where
  abbrev words : ℕ → Word
  words = word_at n commands

  abbrev all : ℕ
  all = n * length commands

  as_many : length commands ≡ commands_for n (length (payload_of message))
  as_many =
      sym (ap (commands_for n) (payload-length n words message all whole)
      ∙ how-many n message.count (length commands) some (fills n words message all whole) (λ i h l. padding-behind n commands i (padding-meant n words message all whole i h l)))

  each-command : (k : ℕ) → k < length commands → get_or commands k 0 ≡ command_of n message.code (payload_of message) k
  unfolding command_of
  each-command k h =
      command-is n commands (message_word message.code (payload_of message)) k some h
      (λ j l. each-says n words message all whole (n * k + j) (omega (arith, mul-suc n k, mul-le-mul_left {m = suc k} n h)))

  whole-written : commands ≡ written n message.code (payload_of message)
  unfolding written
  whole-written =
      let command = command_of n message.code (payload_of message) in
      let many = commands_for n (length (payload_of message)) in
      ext_get_or 0 commands (list_from command 0 many) (as_many ∙ sym (length-list command 0 many))
      (λ k h. each-command k h ∙ ap command {x = k} {y = 0 + k} (omega arith) ∙ sym (get_or-list command 0 many k (omega (arith, as_many))))

pub only_that : OneEncoding
unfolding event_in
only_that mode commands message e =
    let n = channel_words mode in
    let ok : refusal_of mode commands ≡ 0 = sym (read-refusal mode commands 0) ∙ ap (λ (r : Reading). r.refusal) e in
    let same = list_read mode commands 0 (refusal_of mode commands) refl ok n refl ∙ e in
    whole-written n commands message (list-channel mode commands ok)
    (subst (λ (r : Reading). Told n (word_at n commands) r.event r.begin r.next) same (from_told n (word_at n commands) (n * length commands) 0))
