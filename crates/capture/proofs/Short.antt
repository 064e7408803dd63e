-- A buffer of as many octets as the longest text has room for the listing of every accepted capture. Document 01, "Capture and listing". Assumes
-- nothing.
use mathlib.Core.Path.{◌≡◌, refl, sym, ap, ◌∙◌}
use mathlib.Core.Logic.{◌⊎◌, inl, inr}
use mathlib.Core.Bool.{true, true≢false}
use mathlib.Core.List.{List}
use Prim.Native.Nat.{ℕ, zero, suc, ◌+◌, ◌-◌, ◌*◌, ◌%◌, ◌^◌, ◌≤◌, ◌<◌}
use native.Mathlib.Nat.{not-suc-le-zero}
use native.Mathlib.Omega.{arith}
use native.Mathlib.Decide.{ℕ_discrete}
use lib.ListN.{length, get_or, take}
use Rattle.std.specs.Prelude.{Result, Ok, Err, IsOk}
use Rattle.answers.specs.declared.Refusal.{Refusal}
use Rattle.answers.specs.Numbers.{number, counted}
use Rattle.bits.specs.Order.{bit_at}
use Rattle.frame.specs.declared.modes.Sync.{Sync}
use Rattle.frame.specs.declared.modes.Sync.TheVariants.{Crc12, Fec, Crc3, Command}
use Rattle.frame.specs.declared.modes.Row.{Row}
use Rattle.frame.specs.Modes.{code, repairs, known, row, most_of_all}
use Rattle.frame.proofs.Rows.{few, most-is, extent-within}
use Rattle.answers.proofs.Numbers.{number-above}
use Rattle.receiver.specs.Release.{Release, fresh, release_at, run}
use Rattle.receiver.specs.Entry.{column}
use Rattle.receiver.proofs.Afresh.{all_but_one}
use Rattle.receiver.proofs.Buffers.{column-length}
use Rattle.receiver.proofs.Numbered.{nth, waiting, numbered, column-at}
use Rattle.receiver.proofs.Verdicts.{Released, release-cases}
use Rattle.text.specs.Text.{refused_line}
use Rattle.text.specs.Writing.{done, room_over}
use Rattle.text.proofs.Short.{Few, text-short, listing-short as lines-short}
use Rattle.capture.specs.Form.{mode_of, extent_of, lane_of, refusal_of}
use Rattle.capture.specs.Listing.{received_in, releases_of, lane_text, listing_of, longest_text, listed}
use Rattle.capture.proofs.Refusals.{accepted, receivable}
use Rattle.capture.proofs.Answers.{printed_by, counted-within, text-printed, line-ok, line-printed}
use Rattle.capture.proofs.Received.{received-few, released-are}

pub longest-text : longest_text ≡ 18 + 15 * (240 - 1)
unfolding longest_text
longest-text = ap (λ (n : ℕ). 18 + 15 * (n - 1)) most-is

-- ---- the digits of a release's numbers

status-below : (n : ℕ) → (n ≤ 2) ⊎ ((4 ≤ n) × (n ≤ 6)) → n < 10
status-below n (inl h) = omega arith
status-below n (inr h) = omega (arith, h.1)

burst-below : (S : Sync) (place pattern : ℕ) → repairs S ≡ true → place < (code S).positions → pattern < 2 ^ (code S).limit → (place < 10000) × (pattern < 1000)
burst-below Crc12 place pattern y h l = absurd (true≢false (sym y))
burst-below Fec place pattern y h l = (omega arith, omega arith)
burst-below Crc3 place pattern y h l = absurd (true≢false (sym y))
burst-below Command place pattern y h l = absurd (true≢false (sym y))

few-digits : (S : Sync) (r : Release) → Released S r → Few r.status r.place r.pattern
few-digits S r k = by (ℕ_discrete (r.status % 4) 1)
  where
    by : Dec (r.status % 4 ≡ 1) → Few r.status r.place r.pattern
    by (yes e) =
        let b = k.cases.burst e in
        let small = burst-below S r.place r.pattern b.0 b.1 b.3 in
        record { status-one = status-below r.status k.status; place-four = small.0; pattern-three = small.1 }
    by (no n) =
        let b = k.cases.none n in
        record { status-one = status-below r.status k.status; place-four = omega (arith, b.0); pattern-three = omega (arith, b.1) }

-- release i of a lane, of which there are one fewer than multiblocks
few-at : (R : Row) (lane : ℕ → ℕ) (n i : ℕ) → i < n - 1 → let r = nth (run R lane fresh n).out i in Few r.status r.place r.pattern
few-at R lane zero i h = absurd (not-suc-le-zero h)
few-at R lane (suc n) i h =
    let s = waiting R lane i in rw (numbered R lane n i (omega arith)) (few-digits R.sync (release_at R lane (suc i) s) (release-cases R lane (suc i) s))

few-released : (R : Row) (lane : List ℕ) (i : ℕ) → i < length (releases_of R lane) → let r = nth (releases_of R lane) i in Few r.status r.place r.pattern
unfolding releases_of
few-released R lane i h = few-at R (bit_at lane) (received_in R lane) i (omega (arith, h, all_but_one R (bit_at lane) (received_in R lane)))

-- ---- all of it

module _ (R : Row) (lane : List ℕ) where
  abbrev out : List Release
  out = releases_of R lane

  abbrev statuses : List ℕ
  statuses = column (λ (r : Release). r.status) out

  abbrev places : List ℕ
  places = column (λ (r : Release). r.place) out

  abbrev patterns : List ℕ
  patterns = column (λ (r : Release). r.pattern) out

  few-listed : (i : ℕ) → i < length statuses → Few (get_or statuses i 0) (get_or places i 0) (get_or patterns i 0)
  few-listed i h =
      let l : i < length out = omega (arith, column-length (λ (r : Release). r.status) out) in
      rw (column-at (λ (r : Release). r.status) out i l, column-at (λ (r : Release). r.place) out i l, column-at (λ (r : Release). r.pattern) out i l)
      (few-released R lane i l)

pub listing-short : (capture : List ℕ) → refusal_of capture ≡ 0 → length (listing_of capture) ≤ longest_text
unfolding refusal_of listing_of lane_text longest_text
listing-short capture z =
    let a = accepted known capture z in
    let ok = receivable capture a a.mode in
    let R = row (mode_of capture) in
    let lane = lane_of capture in
    let n = received_in R lane in
    let within : n ≤ most_of_all = omega (arith, received-few (mode_of capture) lane ok.short, few (mode_of capture)) in
    let number : length (statuses R lane) ≡ n - 1 = column-length (λ (r : Release). r.status) (releases_of R lane) ∙ released-are R lane in
    omega (
      arith,
      text-short (statuses R lane) (places R lane) (patterns R lane) R (extent_of capture) n (omega (arith, (extent-within (extent_of capture) a.extent).1))
          (omega (arith, within, most-is)) (omega (arith, within, most-is, number)) (few-listed R lane),
      number,
      within,
      lines-short (mode_of capture),
      received-few (mode_of capture) lane ok.short,
    )

-- ---- so that no capture is refused for want of room

pub count-within : (capture text text' : List ℕ) (count : ℕ) → done (counted (Ok count)) text' ≡ listed capture text → count ≤ length text'
unfolding listed
count-within capture text text' count e = counted-within known capture (listing_of capture) text text' (counted (Ok count)) e

module _ (capture text text' : List ℕ) (room : longest_text ≤ length text) where
  fits : refusal_of capture ≡ 0 → length (listing_of capture) ≤ length text
  fits z = omega (arith, listing-short capture z, room)

  pub listing-printed : (count : ℕ) → done (counted (Ok count)) text' ≡ listed capture text
      → (count ≤ length text') × (take count text' ≡ printed_by (refusal_of capture) (listing_of capture))
  unfolding refusal_of listed
  listing-printed count e = text-printed known capture (listing_of capture) text text' (counted (Ok count)) e fits refl

  module _ (why : Refusal) (e : done (counted (Err why)) text' ≡ listed capture text)
      (answer : Result ℕ Refusal) (text'' : List ℕ) (put : done (counted answer) text'' ≡ room_over (refused_line (number why)) text') where
    abbrev enough : 29 ≤ length text
    enough = omega (arith, room, longest-text)

    pub refusal-fits : IsOk answer
    unfolding refusal_of listed
    refusal-fits = line-ok known capture (listing_of capture) text text' (counted (Err why)) e fits (number-above why) enough answer text'' put

    pub refusal-printed : (count : ℕ) → answer ≡ Ok count → (count ≤ length text'') × (take count text'' ≡ printed_by (refusal_of capture) (listing_of capture))
    unfolding refusal_of listed
    refusal-printed = line-printed known capture (listing_of capture) text text' (counted (Err why)) e fits (number-above why) enough answer text'' put
