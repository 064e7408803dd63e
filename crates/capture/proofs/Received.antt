-- What a fresh receiver's lists say of a lane: the text made of them is the lane's, and so is the listing of a capture. Document 01, "Capture and
-- listing". Assumes nothing.
use mathlib.Core.Path.{◌≡◌, refl, sym, ap, ◌∙◌}
use mathlib.Core.List.{List}
use Prim.Native.Nat.{ℕ, ◌-◌, ◌*◌, ◌≤◌}
use native.Mathlib.Nat.{div-le_of_le-mul}
use native.Mathlib.Omega.{arith}
use lib.ListN.{length, take}
use Rattle.std.specs.Prelude.{Result, Ok, Err, IsOk}
use Rattle.std.specs.Result.{IsErrAnd}
use Rattle.std.proofs.lemmas.Result.{err_from_is_err_and}
use Rattle.answers.specs.declared.Refusal.{Refusal}
use Rattle.answers.specs.declared.Ran.{Ran}
use Rattle.answers.specs.Numbers.{number as number_of, counted, answered}
use Rattle.bits.specs.Order.{bit_at, laid}
use Rattle.bits.proofs.Laid.{taken_back}
use Rattle.frame.specs.declared.modes.Row.{Row}
use Rattle.frame.specs.Modes.{known, row, most_of_all}
use Rattle.frame.specs.Lane.{lane_octets}
use Rattle.frame.proofs.Rows.{few}
use Rattle.answers.proofs.Numbers.{number-above}
use Rattle.receiver.specs.declared.Receiver.{Receiver}
use Rattle.receiver.specs.Release.{Release, fresh, run}
use Rattle.receiver.specs.Totals.{totalled}
use Rattle.receiver.specs.Entry.{column, laid_out, entry}
use Rattle.receiver.specs.Entry.{Done as Kept}
use Rattle.receiver.specs.Entry.{done as kept}
use Rattle.receiver.proofs.Buffers.{column-length}
use Rattle.receiver.proofs.Afresh.{all-received, all_but_one}
use Rattle.text.specs.Writing.{done, room_over, written}
use Rattle.text.proofs.Refusals.{taken}
use Rattle.capture.specs.Form.{mode_of, extent_of, lane_of, refusal_of}
use Rattle.capture.specs.Listing.{received_in, releases_of, lane_text, listing_of, listed}
use Rattle.capture.specs.inner.Lists.{Lists, Receivable}
use Rattle.capture.proofs.Answers.{is-refused, is-written}

-- ---- what is received of a lane

pub received-few : (mode : ℕ) (lane : List ℕ) → length lane ≤ lane_octets (row mode).gap * (row mode).most → received_in (row mode) lane ≤ (row mode).most
received-few mode lane h = div-le_of_le-mul (lane_octets (row mode).gap) h

pub released-are : (R : Row) (lane : List ℕ) → length (releases_of R lane) ≡ received_in R lane - 1
unfolding releases_of
released-are R lane = all_but_one R (bit_at lane) (received_in R lane)

module _ (mode : ℕ) (lane : List ℕ) (take_in : Receivable mode lane) (o s c p q i o' s' c' p' q' i' : List ℕ) (state : Receiver) (answer : Result (Ran Receiver) Refusal)
    (e : kept (answered state answer) o' s' c' p' q' i' ≡ entry mode state lane o s c p q i) (es : state ≡ fresh)
    (lo : length o ≡ 256 * most_of_all) (ls : length s ≡ most_of_all) (lc : length c ≡ most_of_all) (lp : length p ≡ most_of_all) (lq : length q ≡ most_of_all) (li : length i ≡ most_of_all) where
  within : received_in (row mode) lane ≤ most_of_all
  within = omega (arith, received-few mode lane take_in.short, few mode)

  is-run : kept (answered state answer) o' s' c' p' q' i' ≡ laid_out (totalled (run (row mode) (bit_at lane) fresh (received_in (row mode) lane))) o s c p q i
  is-run =
      e
      ∙ ap (λ (x : Receiver). entry mode x lane o s c p q i) es
      ∙ all-received mode lane o s c p q i take_in.is_known take_in.whole (received-few mode lane take_in.short)
      (record { octets-fit = omega (arith, within); statuses-fit = omega (arith, within); commands-fit = omega (arith, within); places-fit = omega (arith, within); patterns-fit = omega (arith, within); invalid-fit = omega (arith, within) })

  -- it is not refused
  pub received-ok : IsOk answer
  received-ok = by answer (ap (λ (x : Kept). x.answer.refusal) is-run)
    where
      by : (a : Result (Ran Receiver) Refusal) → (answered state a).refusal ≡ 0 → IsOk a
      by (Ok ran) z = refl
      by (Err why) z = absurd (number-above why z)

  module _ (ran : Ran Receiver) (is : answer ≡ Ok ran) where
    number : ran.count ≡ length (releases_of (row mode) lane)
    unfolding releases_of
    number = ap (λ (a : Result (Ran Receiver) Refusal). (answered state a).count) (sym is) ∙ ap (λ (x : Kept). x.answer.count) is-run

    begins : (f : Release → ℕ) (old new : List ℕ) → new ≡ laid (column f (releases_of (row mode) lane)) old → take ran.count new ≡ column f (releases_of (row mode) lane)
    begins f old new h =
        rw (h, number, ← column-length f (releases_of (row mode) lane)) (taken_back (column f (releases_of (row mode) lane)) old)

    pub lists : Lists (releases_of (row mode) lane) ran.count s' c' p' q'
    lists = record {
      few = omega (arith, number, released-are (row mode) lane, within);
      number = number;
      statuses = begins (λ (x : Release). x.status) s s' (unfold releases_of in ap (λ (x : Kept). x.statuses) is-run);
      commands = begins (λ (x : Release). x.command) c c' (unfold releases_of in ap (λ (x : Kept). x.commands) is-run);
      places = begins (λ (x : Release). x.place) p p' (unfold releases_of in ap (λ (x : Kept). x.places) is-run);
      patterns = begins (λ (x : Release). x.pattern) q q' (unfold releases_of in ap (λ (x : Kept). x.patterns) is-run);
    }

-- ---- the text of a lane, written from such lists

as_many : (f g : Release → ℕ) (out : List Release) → length (column f out) ≡ length (column g out)
as_many f g out = column-length f out ∙ sym (column-length g out)

pub lane-listed : (mode E received count : ℕ) (lane s c p q text : List ℕ) (R : Row) → R ≡ row mode → received ≡ received_in (row mode) lane → Lists (releases_of (row mode) lane) count s c p q
    → written R E received (take count s) (take count p) (take count q) text ≡ room_over (lane_text (row mode) E lane) text
unfolding lane_text
lane-listed mode E received count lane s c p q text R er en l =
    let out = releases_of (row mode) lane in
    rw (en, er, l.statuses, l.places, l.patterns) (sym (taken (row mode) E (received_in (row mode) lane) (column (λ (r : Release). r.status) out) (column (λ (r : Release). r.place) out) (column (λ (r : Release). r.pattern) out) text
    (as_many _ _ out) (as_many _ _ out) (omega (arith, column-length (λ (r : Release). r.status) out, l.few, l.number))))

-- ---- a whole capture

module _ (capture text : List ℕ) where
  pub refused-listing : (why : Refusal) → number_of why ≡ refusal_of capture → (answer : Result ℕ Refusal) → IsErrAnd answer (λ x. x ≡ why) → done (counted answer) text ≡ listed capture text
  unfolding refusal_of listed
  refused-listing why e answer n =
      let passed = err_from_is_err_and answer n in
      rw (passed.1, passed.2) (is-refused known capture (listing_of capture) text (number_of why) e (number-above why))

  pub whole-listing : (mode E : ℕ) (lane : List ℕ) → refusal_of capture ≡ 0 → mode_of capture ≡ mode → extent_of capture ≡ E → lane_of capture ≡ lane
      → room_over (lane_text (row mode) E lane) text ≡ listed capture text
  unfolding refusal_of listed listing_of
  whole-listing mode E lane z em ee el = rw (← em, ← ee, ← el) (is-written known capture (listing_of capture) text z)
