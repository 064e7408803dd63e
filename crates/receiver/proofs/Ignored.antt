-- What stands in the gaps between the data octets of a block is ignored: request 2. Assumes nothing.
use mathlib.Core.Path.{◌≡◌, sym, ap, ap₂, ◌∙◌, fun_ext}
use mathlib.Core.Bool.{false}
use mathlib.Core.List.{List}
use Prim.Native.Nat.{ℕ, ◌/◌}
use lib.Dec.{eqb}
use lib.ListN.{length}
use Rattle.bits.specs.Choice.{pick}
use Rattle.bits.specs.Order.{bit_at}
use Rattle.frame.specs.declared.modes.Row.{Row}
use Rattle.frame.specs.Modes.{row}
use Rattle.frame.specs.Lane.{lane_octets, header_place, data_place, in_gap, data_bit, header_at}
use Rattle.frame.specs.SyncWord.{read_parts, flagged_command}
use Rattle.frame.proofs.Lane.{same-sync, same-invalid}
use Rattle.frame.proofs.Places.{data_is, header-same, header-in-none, second-in-none, data-in-none}
use Rattle.receiver.specs.declared.Receiver.{Receiver}
use Rattle.receiver.specs.Release.{Step, run}
use Rattle.receiver.specs.Totals.{totalled}
use Rattle.receiver.specs.Refusal.{refusal_of}
use Rattle.receiver.specs.Entry.{done, laid_out, entry}
use Rattle.receiver.proofs.Cut.{same-reading}

-- two lanes that agree in every bit but those in gaps: no header and no data bit is in one
module _ (R : Row) (f g : ℕ → ℕ) (same : (x : ℕ) → in_gap R.gap x ≡ false → f x ≡ g x) where
  abbrev gap : ℕ
  gap = R.gap

  header-alike : (m t : ℕ) → header_at gap f m t ≡ header_at gap g m t
  header-alike m t = header-same gap f g m t (same (header_place gap m t) (header-in-none gap m t)) (same _ (second-in-none gap m t))

  data-alike : (m q : ℕ) → data_bit gap f m q ≡ data_bit gap g m q
  data-alike m q = data_is gap f m q ∙ same (data_place gap m q) (data-in-none gap m q) ∙ sym (data_is gap g m q)

  pub run-ignores : (s : Receiver) (n : ℕ) → run R f s n ≡ run R g s n
  run-ignores s n =
      same-reading R f g s n
      (λ m q h l. data-alike m q)
      (λ m h. ap (read_parts R.sync) (fun_ext (λ t. same-sync gap f g m t (header-alike m t))))
      (λ m h. ap (flagged_command R.sync) (fun_ext (header-alike m)))
      (λ m h. same-invalid gap f g m (λ t l. header-alike m t))

-- a call answers the same to both, and leaves the same in every buffer; refusals look at the lane's length alone
pub gaps-ignored : (mode : ℕ) (s : Receiver) (lane other o st c p q i : List ℕ) → length lane ≡ length other
    → ((x : ℕ) → in_gap (row mode).gap x ≡ false → bit_at lane x ≡ bit_at other x)
    → entry mode s lane o st c p q i ≡ entry mode s other o st c p q i
unfolding entry
gaps-ignored mode s lane other o st c p q i long same =
    let R = row mode in
    let L = lane_octets R.gap in
    ap₂ (λ (n : ℕ) (t : Step).
    let refusal = refusal_of mode s n (length o) (length st) (length c) (length p) (length q) (length i) in
    pick (eqb refusal 0) (laid_out (totalled t) o st c p q i) (done (record { refusal = refusal; count = 0; state = s }) o st c p q i))
    long
    (run-ignores R (bit_at lane) (bit_at other) same s (length lane / L) ∙ ap (λ (n : ℕ). run R (bit_at other) s (n / L)) long)
