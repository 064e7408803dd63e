-- What the 32 headers of a multiblock give by their first and second bits is what the lane gives: parity, command, and how many are invalid.
-- Clauses 7.3.2 and 7.3.3; request 1. Assumes nothing.
use mathlib.Core.Path.{◌≡◌, ap, ap₂, ◌∙◌}
use Prim.Native.Nat.{ℕ, ◌<◌}
use native.Mathlib.Omega.{arith}
use Rattle.bits.specs.Order.{number, digit}
use Rattle.bits.proofs.Numbers.{number-ext}
use Rattle.frame.specs.declared.modes.Sync.{Sync}
use Rattle.frame.specs.declared.headers.Header.{Header}
use Rattle.frame.specs.Modes.{Whose, before, own, parity, layout, parity_width}
use Rattle.frame.specs.Headers.{carries, header_in, invalid_among}
use Rattle.frame.specs.Lane.{first_bit, second_bit, header_at, sync_bit, invalid_headers}
use Rattle.frame.specs.SyncWord.{read_parity, read_parts, flagged_command}
use Rattle.frame.proofs.Reading.{among_same, headers-read}
use Rattle.frame.proofs.Lane.{sync_bit-lt}
use Rattle.frame.proofs.SyncWord.{all-stand, read_number, only-flagged}

module _ (gap : ℕ) (lane : ℕ → ℕ) (bits : (k : ℕ) → lane k < 2) (m : ℕ) where
  abbrev seen : ℕ → Header
  seen = header_in (number (first_bit gap lane m) 0 32) (number (second_bit gap lane m) 0 32)

  parity-seen : (S : Sync) (whose : Whose) → read_parity S whose (digit 32 (number (λ t. carries (seen t)) 0 32)) ≡ read_parity S whose (sync_bit gap lane m)
  unfolding sync_bit
  parity-seen S whose =
      ap (λ (x : ℕ). read_parity S whose (digit 32 x)) (number-ext (λ t. carries (seen t)) (sync_bit gap lane m) 0 0 32 (λ j h. ap carries (headers-read gap lane bits m _ (omega arith))))
      ∙ read_number (layout S) (parity whose) (parity_width S whose) (sync_bit gap lane m) (sync_bit-lt gap lane m) ((all-stand S).parities whose)

  pub parts_seen : (S : Sync) → read_parts S (digit 32 (number (λ t. carries (seen t)) 0 32)) ≡ read_parts S (sync_bit gap lane m)
  parts_seen S = ap₂ (λ (x y : ℕ). record { before = x; own = y }) (parity-seen S before) (parity-seen S own)

  pub command-seen : (S : Sync) → flagged_command S seen ≡ flagged_command S (header_at gap lane m)
  command-seen S = only-flagged S seen (header_at gap lane m) (λ k h. headers-read gap lane bits m _ ((all-stand S).commands k h))

  pub invalid-seen : invalid_among seen ≡ invalid_headers gap lane m
  unfolding invalid_headers
  invalid-seen = among_same seen (header_at gap lane m) (headers-read gap lane bits m)
