-- Headers that neither parity nor command reads change nothing but how many are invalid: a wrong end mark or a wrong fixed bit changes no octet,
-- status, command, place or pattern. Document 01, "What the receiver releases"; request 1. Assumes nothing.
use mathlib.Core.Path.{◌≡◌, refl, sym, ap, ap₂, ◌∙◌}
use mathlib.Core.Bool.{Bool, true, false}
use mathlib.Core.List.{List, [], ◌∷◌, ◌++◌}
use Prim.Native.Nat.{ℕ, zero, suc, ◌<◌}
use native.Mathlib.Omega.{arith}
use Rattle.bits.specs.Choice.{pick}
use Rattle.frame.specs.declared.modes.Row.{Row}
use Rattle.frame.specs.Lane.{data_bit, header_at, sync_bit}
use Rattle.frame.specs.SyncWord.{read_parts, flagged_command}
use Rattle.frame.proofs.Lane.{same-octets}
use Rattle.receiver.specs.declared.Receiver.{Receiver}
use Rattle.receiver.specs.declared.run.Heard.{Heard}
use Rattle.receiver.specs.Release.{Release, Step, step, run}
use Rattle.receiver.specs.inner.Turn.{heard_at}
use Rattle.receiver.proofs.Cut.{parity_on, mended_on, release_on, waiting_on, step_on, step-heard, then}

-- without the number of invalid headers: what is heard, a state, a release, all releases, and a step
abbrev bare_heard : Heard → Heard
bare_heard h = record { octets = h.octets; parts = h.parts; command = h.command; invalid = 0 }

abbrev pub bare_state : Receiver → Receiver
bare_state s = record { waiting = s.waiting; octets = s.octets; history = s.history; trusted = s.trusted; command = s.command; invalid = 0; own = s.own; sound = s.sound; repaired = s.repaired; failed = s.failed }

abbrev pub bare_release : Release → Release
bare_release r = record { octets = r.octets; status = r.status; command = r.command; place = r.place; pattern = r.pattern; invalid = 0 }

abbrev pub bare_all : List Release → List Release
bare_all [] = []
bare_all (r ∷ out) = bare_release r ∷ bare_all out

abbrev pub bare : Step → Step
bare t = record { state = bare_state t.state; out = bare_all t.out }

bare-append : (a b : List Release) → bare_all (a ++ b) ≡ bare_all a ++ bare_all b
bare-append [] b = refl
bare-append (r ∷ a) b = ap (λ (l : List Release). bare_release r ∷ l) (bare-append a b)

either : (w : Bool) (a b c d : Step) → bare a ≡ bare c → bare b ≡ bare d → bare (pick w a b) ≡ bare (pick w c d)
either true a b c d e f = e
either false a b c d e f = f

-- a step looks at none of it
bare_step : (R : Row) (s : Receiver) (h : Heard) → bare (step_on R s h) ≡ bare (step_on R (bare_state s) (bare_heard h))
unfolding step_on release_on waiting_on mended_on parity_on
bare_step R s h = either s.waiting _ _ _ _ refl refl

module _ (R : Row) where
  bare-more : (lane : ℕ → ℕ) (s : Receiver) (n : ℕ)
      → bare (run R lane s (suc n)) ≡ then (bare (run R lane s n)) (bare (step_on R (bare (run R lane s n)).state (bare_heard (heard_at R lane n))))
  unfolding run
  bare-more lane s n =
      let was = run R lane s n in
      ap (λ (l : List Release). record { state = bare_state (step R lane n was.state).state; out = l }) (bare-append was.out (step R lane n was.state).out)
      ∙ ap (λ (x : Step). then (bare was) (bare x)) (step-heard R was.state lane n)
      ∙ ap (then (bare was)) (bare_step R was.state (heard_at R lane n))

  bare-run : (f g : ℕ → ℕ) (s : Receiver) (n : ℕ) → ((m : ℕ) → m < n → bare_heard (heard_at R f m) ≡ bare_heard (heard_at R g m)) → bare (run R f s n) ≡ bare (run R g s n)
  bare-run f g s zero e = unfold run in refl
  bare-run f g s (suc n) e =
      bare-more f s n
      ∙ ap₂ (λ (x : Step) (h : Heard). then x (bare (step_on R x.state h))) (bare-run f g s n (λ m h. e m (omega arith))) (e n (omega arith))
      ∙ sym (bare-more g s n)

  pub same-but-invalid : (f g : ℕ → ℕ) (s : Receiver) (n : ℕ)
      → ((m q : ℕ) → m < n → q < 2048 → data_bit R.gap f m q ≡ data_bit R.gap g m q)
      → ((m : ℕ) → m < n → read_parts R.sync (sync_bit R.gap f m) ≡ read_parts R.sync (sync_bit R.gap g m))
      → ((m : ℕ) → m < n → flagged_command R.sync (header_at R.gap f m) ≡ flagged_command R.sync (header_at R.gap g m))
      → bare (run R f s n) ≡ bare (run R g s n)
  same-but-invalid f g s n same-data same-parity same-command = bare-run f g s n alike
    where
      alike : (m : ℕ) → m < n → bare_heard (heard_at R f m) ≡ bare_heard (heard_at R g m)
      alike m h = unfold heard_at in rw (same-octets R.gap f g m (λ q l. same-data m q h l), same-parity m h, same-command m h)
