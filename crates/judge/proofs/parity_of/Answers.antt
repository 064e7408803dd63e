-- `judge::parity_of` meets its contract: by the kind of sync word.
use mathlib.Core.Path.{refl, sym, ap, ◌∙◌}
use native.Mathlib.Omega.{arith}
use Rattle.bits.specs.Order.{bit_at}
use Rattle.parity.specs.Codeword.{crc12, fec, no_code, multiblock_parity}
use Rattle.parity.proofs.Groups.{one-group, no-group}
use Rattle.frame.specs.declared.modes.Sync.{Sync}
use Rattle.frame.specs.Modes.{code}
use Rattle.judge.proofs.parity_of.Goals as goal

pub returns-in-Crc12-clause-value : goal.returns-in-Crc12-clause-value
returns-in-Crc12-clause-value c = let a = c.args in
    c.of.ensures ∙ sym (one-group crc12 refl a.octets.now (omega arith)) ∙ ap (λ (S : Sync). multiblock_parity (code S) (bit_at a.octets.now)) (sym c.in-Crc12.is)

pub returns-in-Fec-clause-value : goal.returns-in-Fec-clause-value
returns-in-Fec-clause-value c = let a = c.args in
    c.of-in-Fec.ensures ∙ sym (one-group fec refl a.octets.now (omega arith)) ∙ ap (λ (S : Sync). multiblock_parity (code S) (bit_at a.octets.now)) (sym c.in-Fec.is)

pub returns-in-Command-clause-value : goal.returns-in-Command-clause-value
returns-in-Command-clause-value c = let a = c.args in sym (ap (λ (S : Sync). multiblock_parity (code S) (bit_at a.octets.now)) c.in-Command.is ∙ no-group no_code refl (bit_at a.octets.now))
