-- A step goes by what is heard of its multiblock and by nothing else; so a run may be cut at any multiblock, and lanes that read alike release
-- alike: document 01, "What the receiver releases". Assumes nothing.
use mathlib.Core.Path.{◌≡◌, refl, sym, ap, ◌∙◌, fun_ext}
use mathlib.Core.Bool.{Bool, true, false}
use mathlib.Core.List.{List, [], ◌∷◌, ◌++◌, append_assoc, append-nil}
use Prim.Native.Nat.{ℕ, zero, suc, ◌+◌, ◌*◌, ◌<◌}
use native.Mathlib.Nat.{add-zero, add-suc, mul-add, mul_assoc}
use native.Mathlib.Omega.{arith}
use lib.ListN.{drop}
use Rattle.bits.specs.Choice.{pick}
use Rattle.bits.specs.Order.{bit_at, number}
use Rattle.bits.proofs.Octets.{bit-drop}
use Rattle.scrambler.specs.Scrambling.{descrambled}
use Rattle.frame.specs.declared.modes.Row.{Row}
use Rattle.frame.specs.Lane.{lane_octets, data_bit, header_at, sync_bit, invalid_headers}
use Rattle.frame.specs.SyncWord.{read_parts, whole, flagged_command}
use Rattle.frame.proofs.Lane.{lane_from, octets-moved, header-at-moved, sync-moved, invalid-moved, same-octets}
use Rattle.receiver.specs.declared.Receiver.{Receiver}
use Rattle.receiver.specs.declared.run.Heard.{Heard}
use Rattle.judge.specs.Judge.{place_of, pattern_of, judged, mended, released_status, trusted_after}
use Rattle.receiver.specs.Release.{Release, Step, parity_at, verdict_at, mended_at, release_at, waiting_at, step, run}
use Rattle.receiver.specs.inner.Turn.{heard_at}

-- ---- by what is heard

module _ (R : Row) (s : Receiver) where
  unfoldable pub parity_on : Heard → ℕ
  parity_on h = whole R.sync (record { before = h.parts.before; own = s.own })

  unfoldable pub mended_on : Heard → List ℕ
  mended_on h = mended (judged R.sync s.octets (parity_on h)) s.octets

  unfoldable pub release_on : Heard → Release
  release_on h = record {
    octets = descrambled (mended_on h) s.history 256;
    status = released_status (judged R.sync s.octets (parity_on h)) s.trusted;
    command = s.command;
    place = place_of (judged R.sync s.octets (parity_on h));
    pattern = pattern_of (judged R.sync s.octets (parity_on h));
    invalid = s.invalid;
  }

  unfoldable pub waiting_on : ℕ → Bool → Heard → Receiver
  waiting_on history trusted h = record { waiting = true; octets = h.octets; history = history; trusted = trusted; command = h.command; invalid = h.invalid; own = h.parts.own; sound = s.sound; repaired = s.repaired; failed = s.failed }

  unfoldable pub step_on : Heard → Step
  step_on h =
      pick s.waiting
      (record { state = waiting_on (number (bit_at (mended_on h)) 1990 58) (trusted_after (judged R.sync s.octets (parity_on h))) h; out = release_on h ∷ [] })
      (record { state = waiting_on 0 false h; out = [] })

  release-heard : (lane : ℕ → ℕ) (m : ℕ) → release_at R lane m s ≡ release_on (heard_at R lane m)
  unfolding release_at mended_at verdict_at parity_at heard_at release_on mended_on parity_on
  release-heard lane m = refl

  pub step-heard : (lane : ℕ → ℕ) (m : ℕ) → step R lane m s ≡ step_on (heard_at R lane m)
  unfolding step waiting_at release_at mended_at verdict_at parity_at heard_at step_on release_on waiting_on mended_on parity_on
  step-heard lane m = refl

  module _ (f : ℕ → ℕ) (m : ℕ) (g : ℕ → ℕ) (n : ℕ) (e : heard_at R f m ≡ heard_at R g n) where
    pub same-release : release_at R f m s ≡ release_at R g n s
    same-release = release-heard f m ∙ ap release_on e ∙ sym (release-heard g n)

    pub same_step : step R f m s ≡ step R g n s
    same_step = step-heard f m ∙ ap step_on e ∙ sym (step-heard g n)

-- what one run released before the next
abbrev pub then : Step → Step → Step
then a b = record { state = b.state; out = a.out ++ b.out }

-- ---- lanes that read alike

pub same-run : (R : Row) (f g : ℕ → ℕ) (s : Receiver) (n : ℕ) → ((m : ℕ) → m < n → heard_at R f m ≡ heard_at R g m) → run R f s n ≡ run R g s n
unfolding run
same-run R f g s zero e = refl
same-run R f g s (suc n) e =
    ap (λ (x : Step). then x (step R f n x.state)) (same-run R f g s n (λ m h. e m (omega arith)))
    ∙ ap (then (run R g s n)) (same_step R (run R g s n).state f n g n (e n (omega arith)))

-- only data bits, what the parities' and the command's headers read, and how many headers are invalid
pub same-reading : (R : Row) (f g : ℕ → ℕ) (s : Receiver) (n : ℕ)
    → ((m q : ℕ) → m < n → q < 2048 → data_bit R.gap f m q ≡ data_bit R.gap g m q)
    → ((m : ℕ) → m < n → read_parts R.sync (sync_bit R.gap f m) ≡ read_parts R.sync (sync_bit R.gap g m))
    → ((m : ℕ) → m < n → flagged_command R.sync (header_at R.gap f m) ≡ flagged_command R.sync (header_at R.gap g m))
    → ((m : ℕ) → m < n → invalid_headers R.gap f m ≡ invalid_headers R.gap g m)
    → run R f s n ≡ run R g s n
same-reading R f g s n same-data same-parity same-command same_number = same-run R f g s n alike
  where
    alike : (m : ℕ) → m < n → heard_at R f m ≡ heard_at R g m
    alike m h = unfold heard_at in rw (same-octets R.gap f g m (λ q l. same-data m q h l), same-parity m h, same-command m h, same_number m h)

-- ---- a run cut in two

heard-moved : (R : Row) (lane : ℕ → ℕ) (m : ℕ) → heard_at R lane m ≡ heard_at R (lane_from R.gap lane m) 0
unfolding heard_at
heard-moved R lane m =
    let g = R.gap in
    let headers : header_at g lane m ≡ header_at g (lane_from g lane m) 0 = fun_ext (header-at-moved g lane m) in
    let sync : sync_bit g lane m ≡ sync_bit g (lane_from g lane m) 0 = fun_ext (sync-moved g lane m) in
    rw (octets-moved g lane m, sync, headers, invalid-moved g lane m)

module _ (R : Row) (lane : ℕ → ℕ) where
  pub heard-from : (a b : ℕ) → heard_at R lane (a + b) ≡ heard_at R (lane_from R.gap lane a) b
  heard-from a b =
      let g = R.gap in
      heard-moved R lane (a + b)
      ∙ ap (λ (f : ℕ → ℕ). heard_at R f 0) (fun_ext (λ x. ap lane (omega (arith, mul-add (8 * lane_octets g) a b))))
      ∙ sym (heard-moved R (lane_from g lane a) b)

  -- the first a multiblocks, and then b more from the state they left
  pub run-cut : (s : Receiver) (a b : ℕ) → run R lane s (a + b) ≡ then (run R lane s a) (run R (lane_from R.gap lane a) (run R lane s a).state b)
  unfolding run
  run-cut s a zero = ap (run R lane s) (add-zero a) ∙ ap (λ (l : List Release). record { state = (run R lane s a).state; out = l }) (sym (append-nil (run R lane s a).out))
  run-cut s a (suc b) =
      let was = run R lane s a in
      let rest = lane_from R.gap lane a in
      let more = run R rest was.state b in
      ap (run R lane s) (add-suc a b)
      ∙ ap (λ (x : Step). then x (step R lane (a + b) x.state)) (run-cut s a b)
      ∙ ap (then (then was more)) (same_step R more.state lane (a + b) rest b (heard-from a b))
      ∙ ap (λ (l : List Release). record { state = (step R rest b more.state).state; out = l }) (append_assoc was.out more.out (step R rest b more.state).out)

-- ---- a lane of octets, from a multiblock on

pub bits-from : (gap : ℕ) (lane : List ℕ) (k : ℕ) → bit_at (drop (lane_octets gap * k) lane) ≡ lane_from gap (bit_at lane) k
bits-from gap lane k = fun_ext (λ x. bit-drop (lane_octets gap * k) lane x ∙ ap (bit_at lane) (omega (arith, mul_assoc 8 (lane_octets gap) k)))
