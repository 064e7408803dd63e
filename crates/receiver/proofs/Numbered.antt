-- Releases by number: release i of a fresh receiver is multiblock i, judged by the parity in its own sync word and in that of multiblock i + 1,
-- after the history that multiblock i - 1 left. Document 01, "What the receiver releases". Assumes nothing.
use mathlib.Core.Path.{◌≡◌, refl, sym, ap, ap₂, ◌∙◌}
use mathlib.Core.Bool.{Bool, true, false}
use mathlib.Core.List.{List, [], ◌∷◌, ◌++◌, append_assoc}
use Prim.Native.Nat.{ℕ, zero, suc, ◌+◌, ◌*◌, ◌<◌}
use native.Mathlib.Nat.{not-suc-le-zero}
use native.Mathlib.Decide.{dec_lt}
use native.Mathlib.Omega.{arith}
use lib.ListN.{length, get_or, length-append, get_or-append}
use lib.Seq.{get_or_at, get_or-append-add}
use Rattle.bits.specs.Choice.{pick}
use Rattle.bits.specs.Order.{bit_at, number}
use Rattle.frame.specs.declared.modes.Row.{Row}
use Rattle.frame.specs.Lane.{data_octets, header_at, sync_bit, invalid_headers}
use Rattle.frame.specs.Modes.{before, own}
use Rattle.frame.specs.SyncWord.{read_parity, whole, flagged_command}
use Rattle.scrambler.specs.Scrambling.{descrambled}
use Rattle.judge.specs.declared.Verdict.{Verdict}
use Rattle.receiver.specs.declared.Receiver.{Receiver}
use Rattle.judge.specs.Judge.{judged, mended, released_status, trusted_after}
use Rattle.receiver.specs.Release.{fresh, Release, Step, parity_at, verdict_at, mended_at, release_at, waiting_at, step, run}
use Rattle.receiver.specs.Refusal.{releases}
use Rattle.receiver.specs.Entry.{octets_out, column}
use Rattle.receiver.proofs.Counts.{then-waits, step-released, step-first, counts}
use Rattle.receiver.proofs.Buffers.{release_length}

-- the release at a number, in a list of them
abbrev pub nth : List Release → ℕ → Release
nth out i = get_or out i (record { octets = []; status = 0; command = 0; place = 0; pattern = 0; invalid = 0 })

either : (P : Receiver → Type 0) (w : Bool) (a b : Step) → P a.state → P b.state → P (pick w a b).state
either P true a b h k = h
either P false a b h k = k

module _ (R : Row) (lane : ℕ → ℕ) where
  -- the state once multiblocks 0 to i have come: multiblock i waits
  abbrev pub waiting : ℕ → Receiver
  waiting i = (run R lane fresh (suc i)).state

  abbrev pub verdict : ℕ → Verdict
  verdict i = verdict_at R lane (suc i) (waiting i)

  abbrev pub repaired : ℕ → List ℕ
  repaired i = mended_at R lane (suc i) (waiting i)

  pub waits : (i : ℕ) → (waiting i).waiting ≡ true
  unfolding run
  waits i = then-waits R lane i (run R lane fresh i).state

  pub waiting-octets : (i : ℕ) → (waiting i).octets ≡ data_octets R.gap lane i
  unfolding run step waiting_at
  waiting-octets i = either (λ s. s.octets ≡ data_octets R.gap lane i) (run R lane fresh i).state.waiting _ _ refl refl

  waiting-own : (i : ℕ) → (waiting i).own ≡ read_parity R.sync own (sync_bit R.gap lane i)
  unfolding run step waiting_at
  waiting-own i = either (λ s. s.own ≡ read_parity R.sync own (sync_bit R.gap lane i)) (run R lane fresh i).state.waiting _ _ refl refl

  -- the parity received of multiblock i: a part in its own sync word, and a part in the next
  abbrev pub parity_on : ℕ → ℕ
  parity_on i =
      whole R.sync (record { before = read_parity R.sync before (sync_bit R.gap lane (suc i)); own = read_parity R.sync own (sync_bit R.gap lane i) })

  pub verdict-is : (i : ℕ) → verdict i ≡ judged R.sync (data_octets R.gap lane i) (parity_on i)
  unfolding verdict_at parity_at
  verdict-is i =
      ap₂ (λ (l : List ℕ) (x : ℕ). judged R.sync l (whole R.sync (record { before = read_parity R.sync before (sync_bit R.gap lane (suc i)); own = x })))
      (waiting-octets i) (waiting-own i)

  pub repaired-is : (i : ℕ) → repaired i ≡ mended (verdict i) (data_octets R.gap lane i)
  unfolding mended_at
  repaired-is i = ap (mended (verdict i)) (waiting-octets i)

  pub octets-are : (i : ℕ) → (release_at R lane (suc i) (waiting i)).octets ≡ descrambled (repaired i) (waiting i).history 256
  unfolding release_at
  octets-are i = refl

  pub status-is : (i : ℕ) → (release_at R lane (suc i) (waiting i)).status ≡ released_status (verdict i) (waiting i).trusted
  unfolding release_at
  status-is i = refl

  -- a release tells its own command
  waiting-command : (i : ℕ) → (waiting i).command ≡ flagged_command R.sync (header_at R.gap lane i)
  unfolding run step waiting_at
  waiting-command i = either (λ s. s.command ≡ flagged_command R.sync (header_at R.gap lane i)) (run R lane fresh i).state.waiting _ _ refl refl

  pub command-is : (i : ℕ) → (release_at R lane (suc i) (waiting i)).command ≡ flagged_command R.sync (header_at R.gap lane i)
  unfolding release_at
  command-is i = waiting-command i

  -- and its own invalid headers
  waiting-invalid : (i : ℕ) → (waiting i).invalid ≡ invalid_headers R.gap lane i
  unfolding run step waiting_at
  waiting-invalid i = either (λ s. s.invalid ≡ invalid_headers R.gap lane i) (run R lane fresh i).state.waiting _ _ refl refl

  pub invalid-is : (i : ℕ) → (release_at R lane (suc i) (waiting i)).invalid ≡ invalid_headers R.gap lane i
  unfolding release_at
  invalid-is i = waiting-invalid i

  -- nothing came before the first
  pub first-trusted : (waiting 0).trusted ≡ false
  unfolding run step waiting_at
  first-trusted = refl

  step-next : (m : ℕ) (s : Receiver) → s.waiting ≡ true
      → (step R lane m s).state ≡ waiting_at R lane m s (number (bit_at (mended_at R lane m s)) 1990 58) (trusted_after (verdict_at R lane m s))
  unfolding step
  step-next m s w = simp w

  next-state : (i : ℕ) → waiting (suc i) ≡ waiting_at R lane (suc i) (waiting i) (number (bit_at (repaired i)) 1990 58) (trusted_after (verdict i))
  next-state i = unfold run in (step-next (suc i) (waiting i) (waits i))

  pub next-history : (i : ℕ) → (waiting (suc i)).history ≡ number (bit_at (repaired i)) 1990 58
  unfolding waiting_at
  next-history i = ap (λ (s : Receiver). s.history) (next-state i)

  pub next-trusted : (i : ℕ) → (waiting (suc i)).trusted ≡ trusted_after (verdict i)
  unfolding waiting_at
  next-trusted i = ap (λ (s : Receiver). s.trusted) (next-state i)

  one_more : (n : ℕ) → (run R lane fresh (suc (suc n))).out ≡ (run R lane fresh (suc n)).out ++ (release_at R lane (suc n) (waiting n) ∷ [])
  one_more n = unfold run in ap (λ (l : List Release). (run R lane fresh (suc n)).out ++ l) (step-released R lane (suc n) (waiting n) (waits n))

  pub so-many : (n : ℕ) → length (run R lane fresh (suc n)).out ≡ n
  unfolding releases
  so-many n = counts R lane fresh (suc n) ∙ omega arith

  -- the last of n + 1, or one of those before
  last_or : (n i : ℕ) → i < suc n → (i < n → nth (run R lane fresh (suc n)).out i ≡ release_at R lane (suc i) (waiting i)) → Dec (i < n)
      → nth ((run R lane fresh (suc n)).out ++ (release_at R lane (suc n) (waiting n) ∷ [])) i ≡ release_at R lane (suc i) (waiting i)
  last_or n i h earlier (yes l) = get_or-append (run R lane fresh (suc n)).out _ _ i (omega (arith, so-many n)) ∙ earlier l
  last_or n i h earlier (no l) =
      let e : i ≡ n = omega arith in
      get_or_at (run R lane fresh (suc n)).out (release_at R lane (suc n) (waiting n)) [] _ i (so-many n ∙ sym e) ∙ ap (λ (k : ℕ). release_at R lane (suc k) (waiting k)) (sym e)

  pub numbered : (n i : ℕ) → i < n → nth (run R lane fresh (suc n)).out i ≡ release_at R lane (suc i) (waiting i)
  numbered zero i h = absurd (not-suc-le-zero h)
  numbered (suc n) i h = ap (λ (l : List Release). nth l i) (one_more n) ∙ last_or n i h (numbered n i) (dec_lt i n)

-- ---- all that is released

pub octets-append : (a b : List Release) → octets_out (a ++ b) ≡ octets_out a ++ octets_out b
unfolding octets_out
octets-append [] b = refl
octets-append (r ∷ a) b = ap (λ (l : List ℕ). r.octets ++ l) (octets-append a b) ∙ sym (append_assoc r.octets (octets_out a) (octets_out b))

pub column-append : (f : Release → ℕ) (a b : List Release) → column f (a ++ b) ≡ column f a ++ column f b
unfolding column
column-append f [] b = refl
column-append f (r ∷ a) b = ap (λ (l : List ℕ). f r ∷ l) (column-append f a b)

-- nothing received releases nothing
pub none-many : (R : Row) (lane : ℕ → ℕ) (s : Receiver) → length (run R lane s 0).out ≡ 0
unfolding run
none-many R lane s = refl

pub none_out : (R : Row) (lane : ℕ → ℕ) (s : Receiver) → octets_out (run R lane s 0).out ≡ []
unfolding run octets_out
none_out R lane s = refl

pub none-column : (f : Release → ℕ) (R : Row) (lane : ℕ → ℕ) (s : Receiver) → column f (run R lane s 0).out ≡ []
unfolding run column
none-column f R lane s = refl

-- each release has 256 octets
module _ (R : Row) (lane : ℕ → ℕ) where
  one-full : (m : ℕ) (s : Receiver) → length (octets_out (step R lane m s).out) ≡ 256 * length (step R lane m s).out
  one-full m s = by s.waiting refl
    where
      by : (w : Bool) → s.waiting ≡ w → length (octets_out (step R lane m s).out) ≡ 256 * length (step R lane m s).out
      by true e =
          ap (λ (l : List Release). length (octets_out l)) (step-released R lane m s e)
          ∙ unfold octets_out in (length-append (release_at R lane m s).octets [] ∙ omega (arith, release_length R lane m s))
          ∙ ap (λ (l : List Release). 256 * length l) (sym (step-released R lane m s e))
      by false e =
          ap (λ (x : Step). length (octets_out x.out)) (step-first R lane m s e)
          ∙ unfold octets_out in refl
          ∙ ap (λ (x : Step). 256 * length x.out) (sym (step-first R lane m s e))

  pub all-full : (s : Receiver) (n : ℕ) → length (octets_out (run R lane s n).out) ≡ 256 * length (run R lane s n).out
  unfolding run octets_out
  all-full s zero = refl
  all-full s (suc n) =
      let a = (run R lane s n).out in
      let b = (step R lane n (run R lane s n).state).out in
      ap length (octets-append a b)
      ∙ length-append (octets_out a) (octets_out b)
      ∙ omega (arith, all-full s n, one-full n (run R lane s n).state, length-append a b)

-- octet j of release i, where each release has 256
pub octet-at : (out : List Release) (i j : ℕ) → ((k : ℕ) → k < length out → length (nth out k).octets ≡ 256) → i < length out → j < 256
    → get_or (octets_out out) (256 * i + j) 0 ≡ get_or (nth out i).octets j 0
unfolding octets_out
octet-at [] i j full h l = absurd (not-suc-le-zero h)
octet-at (r ∷ out) zero j full h l =
    ap (λ (x : ℕ). get_or (r.octets ++ octets_out out) x 0) {x = 256 * 0 + j} {y = j} (omega arith)
    ∙ get_or-append r.octets (octets_out out) 0 j (omega (arith, full 0 (omega arith)))
octet-at (r ∷ out) (suc i) j full h l =
    ap (λ (x : ℕ). get_or (r.octets ++ octets_out out) x 0) {x = 256 * suc i + j} {y = length r.octets + (256 * i + j)} (omega (arith, full 0 (omega arith)))
    ∙ get_or-append-add r.octets (octets_out out) (256 * i + j) 0
    ∙ octet-at out i j (λ k q. full (suc k) (omega arith)) (omega arith) l

pub column-at : (f : Release → ℕ) (out : List Release) (i : ℕ) → i < length out → get_or (column f out) i 0 ≡ f (nth out i)
unfolding column
column-at f [] i h = absurd (not-suc-le-zero h)
column-at f (r ∷ out) zero h = refl
column-at f (r ∷ out) (suc i) h = column-at f out i (omega arith)
