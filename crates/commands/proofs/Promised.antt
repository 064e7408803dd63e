-- Why what is promised of messages holds, in the order of specs/Promises.antt. Assumes nothing.
use mathlib.Core.Path.{◌≡◌, refl, sym, ap, ap₂, subst, ◌∙◌}
use mathlib.Core.Bool.{true}
use mathlib.Core.List.{List, [], ◌∷◌, ◌++◌, append_assoc}
use Prim.Native.Nat.{ℕ, zero, suc, ◌+◌, ◌-◌, ◌*◌, ◌≤◌, ◌<◌}
use native.Mathlib.Nat.{mul-add}
use native.Mathlib.Decide.{dec_lt}
use native.Mathlib.Omega.{arith}
use lib.ListN.{length, length-append}
use Rattle.std.specs.Prelude.{Some}
use Rattle.bits.specs.Bounds.{all_below}
use Rattle.bits.specs.Order.{list_from}
use Rattle.frame.specs.Modes.{row}
use Rattle.commands.specs.declared.events.Event.TheVariants as event
use Rattle.commands.specs.Words.{word_at}
use Rattle.commands.specs.Writing.{channel_words, commands_for}
use Rattle.commands.specs.Reading.{found, event_in, Reading, unrefused, reading, refusal_of}
use Rattle.commands.specs.Promises.{Channels, Given, as_read, encoded, Accepted, opens, ReadsBack, OneEncoding, GoesOn, reads, place_after, Finishes, all_encoded, AllAccepted, all_read, AllReadBack}
use Rattle.commands.proofs.Entry.{channel, line_defined, code-small, fits, enough, not-long}
use Rattle.commands.proofs.Answers.{list-channel, read-refusal, list_read}
use Rattle.commands.proofs.Spoken.{at-end}
use Rattle.commands.proofs.Found.{from_past}
use Rattle.commands.proofs.Progress.{goes_on, stays-inside}
use Rattle.commands.proofs.OneEncoding.{only_that}
use Rattle.commands.proofs.Within.{messages-taken}
use Rattle.commands.proofs.Back.{word-behind, reaches, fills, long, says-header, says-payload, says-padding, read_back}

pub channels : Channels
unfolding list_from channel_words row
channels = refl

-- ---- a message written, and read back

module _ (mode : ℕ) (m : Given) (ok : Accepted mode m) (before after : List ℕ) (opening : opens (word_at (channel_words mode) after 0) ≡ true) where
  abbrev n : ℕ
  n = channel_words mode

  abbrev b : ℕ
  b = n * length before

  abbrev list : List ℕ
  list = encoded mode m ++ after

  abbrev size : ℕ
  size = length m.payload

  some : 1 ≤ n
  some = channel n m.code m.payload (length (encoded mode m)) ok

  abbrev count : ℕ
  count = commands_for n size

  -- word i of the message stands so far behind what comes before
  stands : (i j : ℕ) → j ≡ b + i → word_at n (before ++ list) j ≡ word_at n list i
  stands i j e = ap (word_at n (before ++ list)) e ∙ word-behind n some before list i

  small : m.code < 32
  small = code-small n m.code m.payload (length (encoded mode m)) ok

  below : all_below 32 m.payload ≡ true
  below = fits n m.code m.payload (length (encoded mode m)) ok

  inside : size < n * count
  inside = reaches n some m.code small m.payload below after

  -- so many idle headers fill the last command
  abbrev padding : ℕ
  padding = n * count - (1 + size)

  few : padding < n
  few = omega (arith, fills n some m.code small m.payload below after, some)

  size_is : length (encoded mode m) ≡ count
  size_is = long n some m.code small m.payload below after

  follows : word_at n (before ++ list) (b + 1 + size + padding) ≡ word_at n after 0
  follows =
      stands (n * count) (b + 1 + size + padding) (omega (arith, inside))
      ∙ ap (word_at n list) {x = n * count} {y = n * length (encoded mode m) + 0} (omega (arith, ap (λ (k : ℕ). n * k) size_is))
      ∙ word-behind n some (encoded mode m) after 0

  message-stands : event_in n (before ++ list) b ≡ found (Some (event.Message (as_read m))) b (n * (length before + length (encoded mode m)))
  unfolding event_in
  message-stands =
      read_back n (word_at n (before ++ list)) b m.code m.payload padding few
      (line_defined n m.code m.payload (length (encoded mode m)) ok) (enough n m.code m.payload (length (encoded mode m)) ok) (not-long n m.code m.payload (length (encoded mode m)) ok)
      (stands 0 b (omega arith) ∙ says-header n some m.code small m.payload below after)
      (λ k h. stands (1 + k) (b + 1 + k) (omega arith) ∙ says-payload n some m.code small m.payload below after k h)
      (λ k h. stands (1 + size + k) (b + 1 + size + k) (omega arith) ∙ says-padding n some m.code small m.payload below after (1 + size + k) (omega arith) (omega (arith, h)))
      (word_at n after 0) follows opening (n * length (before ++ list))
      ∙ ap (found (Some (event.Message (as_read m))) b) {x = b + 1 + size + padding} {y = n * (length before + length (encoded mode m))}
      (omega (arith, inside, mul-add n (length before) (length (encoded mode m)), ap (λ (k : ℕ). n * k) size_is))

-- a read that is not refused is its list's event
as-event : (mode : ℕ) (commands : List ℕ) (from : ℕ) → refusal_of mode commands ≡ 0 → reading mode commands from ≡ unrefused (event_in (channel_words mode) commands from)
as-event mode commands from ok = sym (list_read mode commands from (refusal_of mode commands) refl ok (channel_words mode) refl)

pub reads-back : ReadsBack
reads-back mode m ok before after opening taken =
    let commands = before ++ (encoded mode m ++ after) in
    as-event mode commands (channel_words mode * length before) (sym (read-refusal mode commands 0) ∙ taken) ∙ ap unrefused (message-stands mode m ok before after opening)

-- ---- one message has one encoding

pub one-encoding : OneEncoding
one-encoding = only_that

-- ---- every list is read to its end

pub goes-on-reading : GoesOn
goes-on-reading mode commands from taken =
    let ok : refusal_of mode commands ≡ 0 = sym (read-refusal mode commands from) ∙ taken in
    let some = list-channel mode commands ok in
    let same = as-event mode commands from ok in (
      (λ h. subst (λ (r : Reading). from < r.next) (sym same) (goes_on (channel_words mode) commands some from h)),
      (λ h. same ∙ ap unrefused (sym (from_past (channel_words mode) commands from some h))),
    )

module _ (mode : ℕ) (commands : List ℕ) (ok : refusal_of mode commands ≡ 0) where
  abbrev all : ℕ
  all = channel_words mode * length commands

  some_words : 1 ≤ channel_words mode
  some_words = list-channel mode commands ok

  after-reads : (n from : ℕ) → from ≤ all → all ≤ from + n → place_after mode commands from n ≡ all
  unfolding place_after
  after-reads zero from h enough = omega (arith, h, enough)
  after-reads (suc n) from h enough =
      let next = (reading mode commands from).next in
      let same = ap (λ (r : Reading). r.next) (as-event mode commands from ok) in
      after-reads n next (omega (arith, same, stays-inside (channel_words mode) commands some_words from h)) (omega (arith, by_place (dec_lt from all)))
    where
      by_place : Dec (from < all) → all ≤ (reading mode commands from).next + n
      by_place (yes inside) = omega (arith, enough, ap (λ (r : Reading). r.next) (as-event mode commands from ok), goes_on (channel_words mode) commands some_words from inside)
      by_place (no past) =
          omega (arith, past, ap (λ (r : Reading). r.next) (as-event mode commands from ok ∙ ap unrefused (sym (from_past (channel_words mode) commands from some_words (omega (arith, past))))))

pub finishes : Finishes
finishes mode commands taken = after-reads mode commands (sym (read-refusal mode commands 0) ∙ taken) (channel_words mode * length commands) 0 (omega arith) (omega arith)

-- ---- messages one after another

-- messages begin with a header, if there are any
list-opens : (mode : ℕ) (messages : List Given) → AllAccepted mode messages → opens (word_at (channel_words mode) (all_encoded mode messages) 0) ≡ true
list-opens mode [] ok = ap opens (at-end (channel_words mode) [] 0 (omega arith))
list-opens mode (m ∷ messages) (ok, rest) =
    let n = channel_words mode in
    let size = length (encoded mode m) in
    ap opens (says-header n (channel n m.code m.payload size ok) m.code (code-small n m.code m.payload size ok) m.payload (fits n m.code m.payload size ok) (all_encoded mode messages))

module _ (mode : ℕ) (commands : List ℕ) (taken : refusal_of mode commands ≡ 0) where
  -- those behind some commands
  all_back : (before : List ℕ) (messages : List Given) → AllAccepted mode messages → commands ≡ before ++ all_encoded mode messages
      → reads mode commands (channel_words mode * length before) (suc (length messages)) ≡ all_read mode (channel_words mode * length before) messages
  unfolding reads
  all_back before [] ok e =
      let from = channel_words mode * length before in
      let size : length commands ≡ length before = ap length e ∙ length-append before [] ∙ omega arith in
      let past : channel_words mode * length commands ≤ from = omega (arith, ap (λ (k : ℕ). channel_words mode * k) size) in
      ap (λ (r : Reading). r ∷ []) (as-event mode commands from taken ∙ ap unrefused (sym (from_past (channel_words mode) commands from (list-channel mode commands taken) past)))
  all_back before (m ∷ messages) (ok, rest) e =
      let n = channel_words mode in
      let from = n * length before in
      let next = from + n * length (encoded mode m) in
      let split : n * (length before + length (encoded mode m)) ≡ next = mul-add n (length before) (length (encoded mode m)) in
      let first : reading mode commands from ≡ unrefused (found (Some (event.Message (as_read m))) from next)
      = as-event mode commands from taken ∙ ap (λ (l : List ℕ). unrefused (event_in n l from)) e
      ∙ ap unrefused (message-stands mode m ok before (all_encoded mode messages) (list-opens mode messages rest))
      ∙ ap (λ (next : ℕ). unrefused (found (Some (event.Message (as_read m))) from next)) split in
      let place : n * length (before ++ encoded mode m) ≡ next = ap (λ (k : ℕ). n * k) (length-append before (encoded mode m)) ∙ split in
      ap₂ (λ (r : Reading) (l : List Reading). r ∷ l) first
      (ap (λ (x : ℕ). reads mode commands x (suc (length messages))) (ap (λ (r : Reading). r.next) first ∙ sym place)
      ∙ all_back (before ++ encoded mode m) messages rest (e ∙ sym (append_assoc before (encoded mode m) (all_encoded mode messages)))
      ∙ ap (λ (x : ℕ). all_read mode x messages) place)

pub all-read-back : AllReadBack
all-read-back mode messages channel-there ok =
    let commands = all_encoded mode messages in
    let start : channel_words mode * length {A = ℕ} [] ≡ 0 = omega arith in
    subst (λ (from : ℕ). reads mode commands from (suc (length messages)) ≡ all_read mode from messages) start
    (all_back mode commands (messages-taken mode messages channel-there ok) [] messages ok refl)
