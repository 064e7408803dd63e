-- The messages of a lane and of a capture, from what a fresh receiver releases; a buffer of as many octets as the longest text has room for those of
-- every capture that is not refused. Request 6. Assumes nothing.
use mathlib.Core.Path.{◌≡◌, refl, sym, ap, ◌∙◌}
use mathlib.Core.Bool.{true, not}
use mathlib.Core.List.{List, [], ◌∷◌}
use Prim.Native.Nat.{ℕ, zero, suc, ◌+◌, ◌-◌, ◌*◌, ◌≤◌, ◌<◌}
use native.Mathlib.Nat.{not-suc-le-zero}
use native.Mathlib.Omega.{arith}
use borrow.Author.Tests.{not-true, le-ltb, lt-ltb}
use lib.Dec.{ltb}
use lib.ListN.{length, take}
use Rattle.bits.specs.Bounds.{all_below}
use Rattle.std.specs.Prelude.{Result, Ok, Err, IsOk}
use Rattle.std.specs.Result.{IsErrAnd}
use Rattle.std.proofs.lemmas.Result.{err_from_is_err_and}
use Rattle.answers.specs.declared.Refusal.{Refusal}
use Rattle.answers.specs.Numbers.{number, counted}
use Rattle.answers.proofs.Numbers.{number-above}
use Rattle.bits.specs.Order.{bit_at}
use Rattle.bits.proofs.Choice.{both_true}
use Rattle.bits.proofs.Refusals.{passed}
use Rattle.frame.specs.declared.modes.Row.{Row}
use Rattle.frame.specs.Modes.{flagged_bound, row, most_of_all}
use Rattle.frame.specs.Lane.{header_at}
use Rattle.frame.proofs.SyncWord.{flagged-fits}
use Rattle.frame.proofs.Rows.{few as most-of, most-is, extent-within}
use Rattle.receiver.specs.Release.{Release, fresh, run}
use Rattle.receiver.specs.Entry.{column}
use Rattle.receiver.proofs.Afresh.{all_but_one}
use Rattle.receiver.proofs.Buffers.{column-length}
use Rattle.receiver.proofs.Numbered.{nth, numbered, command-is}
use Rattle.text.specs.Text.{refused_line}
use Rattle.text.specs.Writing.{done, room_over}
use Rattle.text.specs.Messages.{messages_written}
use Rattle.text.proofs.Refusals.{answered}
use Rattle.text.proofs.Short.{messages-short}
use Rattle.capture.specs.Form.{mode_of, extent_of, lane_of}
use Rattle.capture.specs.Listing.{received_in, releases_of}
use Rattle.capture.specs.Messages.{has_commands, lane_messages, messages_of, longest_messages, messages_refusal, told}
use Rattle.capture.specs.inner.Lists.{Lists}
use Rattle.capture.proofs.Refusals.{accepted, receivable}
use Rattle.capture.proofs.Channel.{known_some}
use Rattle.capture.proofs.Answers.{printed_by, is-refused, is-written, text-printed, line-ok, line-printed}
use Rattle.capture.proofs.Received.{received-few, released-are}

-- ---- the commands that are released

all-within : (bound : ℕ) (f : Release → ℕ) (out : List Release) → ((i : ℕ) → i < length out → f (nth out i) < bound) → all_below bound (column f out) ≡ true
unfolding all_below column
all-within bound f [] h = refl
all-within bound f (r ∷ out) h =
    both_true (ltb (f r) bound) _ (lt-ltb (f r) bound (h 0 (omega arith))) (all-within bound f out (λ i l. h (suc i) (omega arith)))

command-at : (R : Row) (lane : ℕ → ℕ) (n i : ℕ) → i < n - 1 → (nth (run R lane fresh n).out i).command < flagged_bound R.sync
command-at R lane zero i h = absurd (not-suc-le-zero h)
command-at R lane (suc n) i h =
    rw (numbered R lane n i (omega arith), command-is R lane i) (flagged-fits R.sync (header_at R.gap lane i))

-- each is in its range
pub commands-fit : (R : Row) (lane : List ℕ) → all_below (flagged_bound R.sync) (column (λ (r : Release). r.command) (releases_of R lane)) ≡ true
unfolding releases_of
commands-fit R lane =
    let n = received_in R lane in
    all-within (flagged_bound R.sync) (λ (r : Release). r.command) (run R (bit_at lane) fresh n).out
    (λ i l. command-at R (bit_at lane) n i (omega (arith, all_but_one R (bit_at lane) n)))

-- ---- the text of a lane, written from what was received

pub lane-told : (mode E received count : ℕ) (lane s c p q text : List ℕ) → received ≡ received_in (row mode) lane → has_commands mode ≡ true → Lists (releases_of (row mode) lane) count s c p q
    → messages_written mode E received (take count c) text ≡ room_over (lane_messages mode E lane) text
unfolding lane_messages messages_written has_commands
lane-told mode E received count lane s c p q text en has l =
    let commands = column (λ (r : Release). r.command) (releases_of (row mode) lane) in
    let few : length commands ≤ most_of_all = omega (arith, column-length (λ (r : Release). r.command) (releases_of (row mode) lane), l.few, l.number) in
    rw (en, l.commands)
    (sym (answered _ _ (lane_messages mode E lane) text refl
    (passed 6 _ _ (ap not (commands-fit (row mode) lane)) ∙ passed 5 _ _ (le-ltb most_of_all (length commands) few) ∙ passed 1 _ _ (not-true _ has))))

-- ---- a whole capture

module _ (capture text : List ℕ) where
  pub refused-messages : (why : Refusal) → number why ≡ messages_refusal capture → (answer : Result ℕ Refusal) → IsErrAnd answer (λ x. x ≡ why) → done (counted answer) text ≡ told capture text
  unfolding messages_refusal told
  refused-messages why e answer n =
      let passed = err_from_is_err_and answer n in
      rw (passed.1, passed.2) (is-refused has_commands capture (messages_of capture) text (number why) e (number-above why))

  pub whole-messages : (mode E : ℕ) (lane : List ℕ) → messages_refusal capture ≡ 0 → mode_of capture ≡ mode → extent_of capture ≡ E → lane_of capture ≡ lane
      → room_over (lane_messages mode E lane) text ≡ told capture text
  unfolding messages_refusal told messages_of
  whole-messages mode E lane z em ee el = rw (← em, ← ee, ← el) (is-written has_commands capture (messages_of capture) text z)

-- ---- how long it can be

pub longest-messages : longest_messages ≡ 21 + 17 * (3 * (240 - 1))
unfolding longest_messages
longest-messages = ap (λ (n : ℕ). 21 + 17 * (3 * (n - 1))) most-is

short : (capture : List ℕ) → messages_refusal capture ≡ 0 → length (messages_of capture) ≤ longest_messages
unfolding messages_refusal messages_of lane_messages longest_messages
short capture z =
    let a = accepted has_commands capture z in
    let ok = receivable capture a (known_some (mode_of capture) a.mode) in
    let mode = mode_of capture in
    let R = row mode in
    let lane = lane_of capture in
    let out = releases_of R lane in
    let n = received_in R lane in
    let few = received-few mode lane ok.short in
    messages-short mode (extent_of capture) n (column (λ (r : Release). r.command) out)
    (omega (arith, (extent-within (extent_of capture) a.extent).1))
    (omega (arith, few, most-of mode, most-is))
    (omega (arith, column-length (λ (r : Release). r.command) out, released-are R lane, few))

module _ (capture text text' : List ℕ) (room : longest_messages ≤ length text) where
  fits : messages_refusal capture ≡ 0 → length (messages_of capture) ≤ length text
  fits z = omega (arith, short capture z, room)

  pub messages-printed : (count : ℕ) → done (counted (Ok count)) text' ≡ told capture text
      → (count ≤ length text') × (take count text' ≡ printed_by (messages_refusal capture) (messages_of capture))
  unfolding messages_refusal told
  messages-printed count e = text-printed has_commands capture (messages_of capture) text text' (counted (Ok count)) e fits refl

  module _ (why : Refusal) (e : done (counted (Err why)) text' ≡ told capture text)
      (answer : Result ℕ Refusal) (text'' : List ℕ) (put : done (counted answer) text'' ≡ room_over (refused_line (number why)) text') where
    abbrev enough : 29 ≤ length text
    enough = omega (arith, room, longest-messages)

    pub refusal-fits : IsOk answer
    unfolding messages_refusal told
    refusal-fits = line-ok has_commands capture (messages_of capture) text text' (counted (Err why)) e fits (number-above why) enough answer text'' put

    pub refusal-printed : (count : ℕ) → answer ≡ Ok count → (count ≤ length text'') × (take count text'' ≡ printed_by (messages_refusal capture) (messages_of capture))
    unfolding messages_refusal told
    refusal-printed = line-printed has_commands capture (messages_of capture) text text' (counted (Err why)) e fits (number-above why) enough answer text'' put
