-- How long the text of a listing can be: document 01, "Capture and listing"; and that of messages: request 6. Assumes nothing.
use mathlib.Core.Path.{ap}
use mathlib.Core.List.{List, []}
use Prim.Native.Nat.{ℕ, zero, suc, ◌+◌, ◌-◌, ◌*◌, ◌/◌, ◌≤◌, ◌<◌}
use native.Mathlib.Nat.{mul_comm, mul-le-mul, div-le_of_le-mul}
use native.Mathlib.Omega.{arith}
use lib.Dec.{lit≤}
use lib.ListN.{length, get_or, take, length-append}
use Rattle.std.specs.Prelude.{Option, Some, None}
use Rattle.frame.specs.declared.modes.Row.{Row}
use Rattle.frame.specs.Modes.{row, most_of_all}
use Rattle.frame.proofs.Sizes.{width-80}
use Rattle.frame.proofs.Rows.{of-each, few, most-is}
use Rattle.commands.specs.declared.events.Event.{Event}
use Rattle.commands.specs.declared.events.Event.TheVariants as event
use Rattle.commands.specs.Writing.{channel_words}
use Rattle.commands.specs.Reading.{event_in}
use Rattle.commands.proofs.Channel.{words-few}
use Rattle.commands.proofs.Progress.{Told, relied}
use Rattle.text.specs.Text.{digits_of, decimal, refused_line, shape_name, name_of, head_line, release_line, lines_of, text_of}
use Rattle.text.specs.Messages.{message_name, cut_name, undefined_name, words_text, event_line, line_of, event_lines, messages_text}
use Rattle.text.proofs.Decimal.{decimal-length, decimal-below, refusal-length, line-length, head-length}
use Rattle.text.proofs.Releases.{no_lines, total-next}
use Rattle.text.proofs.Told.{no_words, words-longer, told-length}
use Rattle.text.proofs.Events.{messages-length}

-- a status of one digit, a place of at most four, and a pattern of at most three
pub record Few (status place pattern : ℕ) : Type 0 where
  pub status-one : status < 10
  pub place-four : place < 10000
  pub pattern-three : pattern < 1000

line-short : (k status place pattern : ℕ) → k < 1000 → Few status place pattern → length (release_line k status place pattern) ≤ 15
line-short k status place pattern h f =
    omega (
      arith,
      line-length k status place pattern,
      decimal-below 2 k h,
      decimal-below 0 status f.status-one,
      decimal-below 3 place f.place-four,
      decimal-below 2 pattern f.pattern-three,
    )

module _ (s p q : List ℕ) where
  lines-short : (n : ℕ) → n ≤ 1000 → ((i : ℕ) → i < n → Few (get_or s i 0) (get_or p i 0) (get_or q i 0)) → length (lines_of n s p q) ≤ 15 * n
  lines-short zero h few = omega (arith, ap length (no_lines s p q))
  lines-short (suc n) h few =
      omega (
        arith,
        ap (λ (k : ℕ). length (lines_of k s p q)) {x = n + 1} {y = suc n} (omega arith),
        total-next n s p q,
        line-short n (get_or s n 0) (get_or p n 0) (get_or q n 0) (omega arith) (few n (omega arith)),
        lines-short n (omega arith) (λ i l. few i (omega arith)),
      )

  -- a header line of at most 12 octets after the name, and lines of at most 15, where all counts have at most three digits
  pub text-short : (R : Row) (E received : ℕ) → E < 1000 → received < 1000 → length s < 1000 → ((i : ℕ) → i < length s → Few (get_or s i 0) (get_or p i 0) (get_or q i 0))
      → length (text_of R E received s p q) ≤ length (name_of R) + 12 + 15 * length s
  unfolding text_of
  text-short R E received e r n few =
      omega (
        arith,
        length-append (head_line R E received (length s)) (lines_of (length s) s p q),
        head-length R E received (length s),
        decimal-below 2 E e,
        decimal-below 2 received r,
        decimal-below 2 (length s) n,
        lines-short (length s) (omega arith) few,
      )

-- in every mode the listing of one call is no longer than a header line of 18 octets and the most lines of all
pub listing-short : (mode : ℕ) → length (name_of (row mode)) + 12 + 15 * ((row mode).most - 1) ≤ 18 + 15 * (most_of_all - 1)
unfolding name_of shape_name decimal digits_of
listing-short =
    rw most-is
    (of-each (λ (R : Row). length (name_of R) + 12 + 15 * (R.most - 1) ≤ 18 + 15 * (240 - 1)) (lit≤ tt, (lit≤ tt, (rw width-80 (lit≤ tt), (rw width-80 (lit≤ tt), (lit≤ tt, (lit≤ tt, tt)))))) (lit≤ tt))

-- the line of any refusal
pub refusal-short : (n : ℕ) → length (refused_line n) ≤ 29
refusal-short n = omega (arith, refusal-length n, decimal-length n)

-- ---- messages

-- words of at most two digits, each after a space
module _ (words : List ℕ) (small : (i : ℕ) → get_or words i 0 < 32) where
  words-short : (n : ℕ) → n ≤ length words → length (words_text (take n words)) ≤ 3 * n
  words-short zero h = omega (arith, ap length no_words)
  words-short (suc n) h =
      omega (
        arith,
        ap (λ (k : ℕ). length (words_text (take k words))) {x = n + 1} {y = suc n} (omega arith),
        words-longer words {i = n} (omega arith),
        decimal-below 1 (get_or words n 0) (omega (arith, small n)),
        words-short n (omega arith),
      )

-- the line of an event has at most 17 octets for each word that the event takes
event-short : (all b next k : ℕ) (e : Option Event) → k < 1000 → Told all b next e → (b ≤ next) × (length (event_line k e) ≤ 17 * (next - b))
event-short all b next k None h t = (omega (arith, t.1), omega arith)
event-short all b next k (Some (event.Message m)) h t =
    let within : m.count ≤ length m.words = omega (arith, t.0, t.1) in (
      omega (arith, t.4),
      omega (
        arith,
        told-length k message_name m.code (take m.count m.words),
        decimal-below 2 k h,
        decimal-below 1 m.code (omega (arith, t.2)),
        words-short m.words t.3 m.count within,
        t.4,
      ),
    )
event-short all b next k (Some (event.Cut taken)) h t = (
  omega (arith, t.1),
  omega (arith, told-length k cut_name taken [], decimal-below 2 k h, decimal-below 0 taken (omega (arith, t.0)), ap length no_words, t.1),
)
event-short all b next k (Some (event.Undefined code)) h t = (
  omega (arith, t.1),
  omega (arith, told-length k undefined_name code [], decimal-below 2 k h, decimal-below 1 code (omega (arith, t.0)), ap length no_words, t.1),
)

multiblock-few : (n : ℕ) (commands : List ℕ) (b : ℕ) → b ≤ n * length commands → b / n ≤ length commands
multiblock-few n commands b h = div-le_of_le-mul n (omega (arith, h, mul_comm n (length commands)))

module _ (n : ℕ) (commands : List ℕ) (number : length commands < 1000) where
  events-short : 1 ≤ n → (reads from : ℕ) → from ≤ n * length commands → length (event_lines n commands from reads) ≤ 17 * (n * length commands - from)
  unfolding event_lines
  events-short some zero from h = omega arith
  events-short some (suc reads) from h =
      let r = event_in n commands from in
      let trust = relied n commands some from h in
      let own = event-short (n * length commands) r.begin r.next (r.begin / n) r.event (omega (arith, multiblock-few n commands r.begin trust.begins)) trust.told in
      omega (
        arith,
        length-append (line_of n commands r) (event_lines n commands r.next reads),
        own.0,
        own.1,
        trust.behind,
        trust.stays,
        events-short some reads r.next trust.stays,
      )

-- without a command channel there are no words, and no lines
all_short : (n : ℕ) (commands : List ℕ) → length commands < 1000 → length (event_lines n commands 0 (n * length commands)) ≤ 17 * (n * length commands)
unfolding event_lines
all_short zero commands number = omega (arith, ap (λ (reads : ℕ). length (event_lines 0 commands 0 reads)) {x = 0 * length commands} {y = 0} (omega arith))
all_short (suc n) commands number = omega (arith, events-short (suc n) commands number (omega arith) (suc n * length commands) 0 (omega arith))

name-short : (mode : ℕ) → length (name_of (row mode)) ≤ 9
unfolding name_of shape_name decimal digits_of
name-short =
    of-each (λ (R : Row). length (name_of R) ≤ 9) (lit≤ tt, (lit≤ tt, (rw width-80 (lit≤ tt), (rw width-80 (lit≤ tt), (lit≤ tt, (lit≤ tt, tt)))))) (lit≤ tt)

-- in every mode the messages of one call are no longer than a header line of 21 octets and 17 for each word of the most commands of all
pub messages-short : (mode E received : ℕ) (commands : List ℕ) → E < 1000 → received < 1000 → length commands ≤ (row mode).most - 1
    → length (messages_text mode E received commands) ≤ 21 + 17 * (3 * (most_of_all - 1))
messages-short mode E received commands e r h =
    let within : length commands ≤ most_of_all - 1 = omega (arith, h, few mode) in
    let number : length commands < 1000 = omega (arith, within, most-is) in
    omega (
      arith,
      messages-length mode E received commands,
      head-length (row mode) E received (length commands),
      name-short mode,
      decimal-below 2 E e,
      decimal-below 2 received r,
      decimal-below 2 (length commands) number,
      all_short (channel_words mode) commands number,
      mul-le-mul (words-few mode) within,
    )
