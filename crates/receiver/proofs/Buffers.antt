-- What one release more adds to the octets and to each list of a run, and how long they are. Document 01, "What the receiver releases".
-- Assumes nothing.
use mathlib.Core.Path.{◌≡◌, refl, sym, ap, ap₂, ◌∙◌}
use mathlib.Core.Bool.{true}
use mathlib.Core.List.{List, [], ◌∷◌, ◌++◌, append_assoc, append-nil}
use Prim.Native.Nat.{ℕ, zero, suc, ◌+◌, ◌*◌}
use native.Mathlib.Numerals.{add-one}
use native.Mathlib.Omega.{arith}
use lib.ListN.{length, length-append}
use Rattle.scrambler.proofs.Scrambling.{length-descrambled}
use Rattle.frame.specs.declared.modes.Row.{Row}
use Rattle.receiver.specs.declared.Receiver.{Receiver}
use Rattle.receiver.specs.Release.{Release, Step, mended_at, release_at, run}
use Rattle.receiver.specs.Entry.{octets_out, column}
use Rattle.receiver.proofs.Counts.{run_more}

pub column-more : (f : Release → ℕ) (out : List Release) (r : Release) → column f (out ++ (r ∷ [])) ≡ column f out ++ (f r ∷ [])
unfolding column
column-more f [] r = refl
column-more f (x ∷ out) r = ap (λ (l : List ℕ). f x ∷ l) (column-more f out r)

pub octets-more : (out : List Release) (r : Release) → octets_out (out ++ (r ∷ [])) ≡ octets_out out ++ r.octets
unfolding octets_out
octets-more [] r = append-nil r.octets
octets-more (x ∷ out) r = ap (λ (l : List ℕ). x.octets ++ l) (octets-more out r) ∙ sym (append_assoc x.octets (octets_out out) r.octets)

pub column-length : (f : Release → ℕ) (out : List Release) → length (column f out) ≡ length out
unfolding column
column-length f [] = refl
column-length f (x ∷ out) = ap suc (column-length f out)

module _ (R : Row) (lane : ℕ → ℕ) where
  pub release_length : (m : ℕ) (s : Receiver) → length (release_at R lane m s).octets ≡ 256
  unfolding release_at
  release_length m s = length-descrambled (mended_at R lane m s) s.history 256

  pub octets-length : (s : Receiver) (k : ℕ) → s.waiting ≡ true → length (octets_out (run R lane s k).out) ≡ 256 * k
  unfolding run octets_out
  octets-length s zero w = refl
  octets-length s (suc k) w =
      let was = run R lane s k in
      let r = release_at R lane k was.state in
      let e : (run R lane s (suc k)).out ≡ was.out ++ (r ∷ []) = ap (λ (n : ℕ). (run R lane s n).out) (sym (add-one k)) ∙ ap (λ (x : Step). x.out) (run_more R lane s k w) in
      ap (λ (x : List Release). length (octets_out x)) e
      ∙ ap length (octets-more was.out r)
      ∙ length-append (octets_out was.out) r.octets
      ∙ ap₂ (λ (a b : ℕ). a + b) (octets-length s k w) (release_length k was.state)
      ∙ omega arith
