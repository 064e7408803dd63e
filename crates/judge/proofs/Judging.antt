-- What a verdict is by the difference of the two parities, what it mends, and what status is released: document 01, "What the receiver releases".
-- Assumes nothing.
use mathlib.Core.Path.{◌≡◌, refl, sym, ap, ◌∙◌}
use mathlib.Core.Logic.{◌⊎◌, inl, inr, ◌≢◌}
use mathlib.Core.Bool.{Bool, true, false, true≢false}
use mathlib.Core.List.{List}
use Prim.Native.Nat.{ℕ, ◌+◌, ◌≤◌, ◌<◌}
use native.Mathlib.Nat.{add-zero}
use native.Mathlib.Omega.{arith}
use Rattle.std.specs.Prelude.{Some}
use lib.Bits.{bit_xor, xor_lt, xor_zero_r}
use borrow.Author.Tests.{leb-true, eq-eqb, ne_eqb}
use Rattle.bits.specs.Choice.{pick}
use Rattle.bits.specs.Order.{bit_at}
use Rattle.bits.proofs.Numbers.{bit_at_lt}
use Rattle.bits.proofs.Octets.{bit-octets_of}
use Rattle.parity.specs.Codeword.{multiblock_parity}
use Rattle.parity.specs.Bursts.{flips}
use Rattle.parity.specs.Answer.{Explains}
use Rattle.parity.proofs.Sets.{flips-bit}
use Rattle.parity.proofs.Answer.{answer-is}
use Rattle.frame.specs.declared.modes.Sync.{Sync}
use Rattle.frame.specs.declared.modes.Sync.TheVariants.{Crc12, Fec, Crc3, Command}
use Rattle.frame.specs.Modes.{code, repairs, checks}
use Rattle.judge.specs.declared.Verdict.{Verdict}
use Rattle.judge.specs.declared.Verdict.TheVariants.{Agrees, Repaired, Failed}
use Rattle.judge.specs.Judge.{status_of, place_of, pattern_of, agrees, failed, verdict_of, judged, mended, released_status, trusted_after}
use Rattle.judge.specs.Sound.{Soundness, sound, unchecked, unsound, intact, soundness}
use Rattle.judge.proofs.Mending.{flips-none}

-- the difference that a verdict goes by
abbrev pub difference : Sync → List ℕ → ℕ → ℕ
difference S octets parity = bit_xor (multiblock_parity (code S) (bit_at octets)) parity

pub judged-sound : (S : Sync) (octets : List ℕ) (parity : ℕ) → difference S octets parity ≡ 0 → judged S octets parity ≡ agrees
unfolding judged verdict_of
judged-sound S octets parity e = rw (eq-eqb (difference S octets parity) 0 e)

pub judged-failed : (S : Sync) (octets : List ℕ) (parity : ℕ) → repairs S ≡ false → difference S octets parity ≢ 0 → judged S octets parity ≡ failed
unfolding judged verdict_of
judged-failed S octets parity r n = rw (ne_eqb (difference S octets parity) 0 n, r)

pub judged-burst : (S : Sync) (octets : List ℕ) (parity place pattern : ℕ) → repairs S ≡ true → difference S octets parity ≢ 0
    → Explains (code S) (difference S octets parity) place pattern → judged S octets parity ≡ Repaired (record { place = place; pattern = pattern })
unfolding judged verdict_of
judged-burst Crc12 octets parity place pattern r n e = absurd (true≢false (sym r))
judged-burst Fec octets parity place pattern r n e =
    rw (ne_eqb (difference Fec octets parity) 0 n, ← answer-is (difference Fec octets parity) (Some (record { place = place; pattern = pattern })) e)
judged-burst Crc3 octets parity place pattern r n e = absurd (true≢false (sym r))
judged-burst Command octets parity place pattern r n e = absurd (true≢false (sym r))

pub mended-bit : (v : Verdict) (octets : List ℕ) (k : ℕ) → k < 2048 → bit_at (mended v octets) k ≡ bit_xor (bit_at octets k) (flips (place_of v) (pattern_of v) k)
unfolding mended
mended-bit v octets k h =
    bit-octets_of (λ k. bit_xor (bit_at octets k) (flips (place_of v) (pattern_of v) k)) (λ k. xor_lt 1 _ _ (bit_at_lt octets k) (flips-bit (place_of v) (pattern_of v) k)) 256 k (omega arith)

-- where parity agrees or nothing explains it, the data stay as they are
pub mended-none : (v : Verdict) (octets : List ℕ) (k : ℕ) → pattern_of v ≡ 0 → k < 2048 → bit_at (mended v octets) k ≡ bit_at octets k
mended-none v octets k z h =
    mended-bit v octets k h
    ∙ ap (bit_xor (bit_at octets k)) (ap (λ (x : ℕ). flips (place_of v) x k) z ∙ flips-none (place_of v) k)
    ∙ xor_zero_r (bit_at octets k)

pub status-trusted : (v : Verdict) → released_status v true ≡ status_of v
unfolding released_status
status-trusted v = add-zero (status_of v)

pub status-untrusted : (v : Verdict) → released_status v false ≡ status_of v + 4
unfolding released_status
status-untrusted v = refl

pub trusted-after : (v : Verdict) → status_of v ≢ 2 → trusted_after v ≡ true
unfolding trusted_after
trusted-after v n = rw (ne_eqb (status_of v) 2 n)

pub untrusted-after : (v : Verdict) → status_of v ≡ 2 → trusted_after v ≡ false
unfolding trusted_after
untrusted-after v e = rw (eq-eqb (status_of v) 2 e)

-- ---- sound octets

-- an octet is called sound only where there is a parity that could disagree
is-sound : Soundness → Bool
is-sound sound = true
is-sound unchecked = false
is-sound unsound = false

pub called-sound : (S : Sync) (status j : ℕ) → soundness S status j ≡ sound → (intact status j ≡ true) × (checks S ≡ true)
unfolding soundness is-sound
called-sound S status j e = by (intact status j) (checks S) (ap is-sound e)
  where
    by : (a b : Bool) → is-sound (pick a (pick b sound unchecked) unsound) ≡ true → (a ≡ true) × (b ≡ true)
    by true true e = (refl, refl)
    by true false e = absurd (true≢false (sym e))
    by false b e = absurd (true≢false (sym e))

-- it is of a multiblock that has not failed, and after a trusted history or past the first eight
pub record Believed (v : Verdict) (trusted : Bool) (j : ℕ) : Type 0 where
  pub not-failed : status_of v ≢ 2
  pub known : (trusted ≡ true) ⊎ (8 ≤ j)

pub believed : (v : Verdict) (trusted : Bool) (j : ℕ) → intact (released_status v trusted) j ≡ true → Believed v trusted j
unfolding intact released_status
believed Agrees true j e = record { not-failed = λ z. absurd (omega arith); known = inl refl }
believed Agrees false j e = record { not-failed = λ z. absurd (omega arith); known = inr (let l = leb-true _ j e in omega arith) }
believed (Repaired burst) true j e = record { not-failed = λ z. absurd (omega arith); known = inl refl }
believed (Repaired burst) false j e = record { not-failed = λ z. absurd (omega arith); known = inr (let l = leb-true _ j e in omega arith) }
believed Failed true j e = absurd (true≢false (sym e))
believed Failed false j e = absurd (true≢false (sym e))
