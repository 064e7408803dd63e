-- `sender::run::parity_of` meets its contract: by the kind of sync word. Request 5.
use mathlib.Core.Path.{◌≡◌, refl, sym, ◌∙◌}
use mathlib.Core.List.{List}
use Prim.Native.Nat.{ℕ, ◌*◌}
use native.Mathlib.Omega.{arith}
use lib.ListN.{length}
use Rattle.bits.specs.Order.{bit_at, word_bit, octets_in}
use Rattle.bits.proofs.WordLists.{length-octets_in, bit-octets_in}
use Rattle.parity.specs.Codeword.{Code, crc12, fec, crc3, no_code, data_bits, parity_of, multiblock_parity}
use Rattle.parity.proofs.Groups.{parity-ext, one-group, no-group}
use Rattle.sender.proofs.run.parity_of.Goals as goal

-- of 32 blocks, by the words and by their octets
module _ (C : Code) (blocks : List ℕ) (long : length blocks ≡ 32) where
  in_one : C.groups ≡ 1 → data_bits C ≡ 2048 → parity_of C (octets_in blocks) ≡ multiblock_parity C (bit_at (octets_in blocks))
  in_one one all = sym (one-group C one (octets_in blocks) (omega (arith, length-octets_in blocks)))

  in_some : data_bits C * C.groups ≡ 2048 → multiblock_parity C (word_bit blocks) ≡ multiblock_parity C (bit_at (octets_in blocks))
  in_some all = parity-ext C (word_bit blocks) (bit_at (octets_in blocks)) (λ q h. sym (bit-octets_in blocks q (omega (arith, all))))

pub returns-in-Crc12 : goal.returns-in-Crc12
returns-in-Crc12 c = rw c.in-Crc12.is (c.of_words.ensures ∙ in_one crc12 c.args.blocks.now c.requires refl refl)

pub returns-in-Fec : goal.returns-in-Fec
returns-in-Fec c = rw c.in-Fec.is (c.of_words-in-Fec.ensures ∙ in_one fec c.args.blocks.now c.requires refl refl)

pub returns-in-Crc3 : goal.returns-in-Crc3
returns-in-Crc3 c = rw c.in-Crc3.is (c.of_words-in-Crc3.ensures ∙ in_some crc3 c.args.blocks.now c.requires refl)

pub returns-in-Command : goal.returns-in-Command
returns-in-Command c = rw c.in-Command.is (sym (no-group no_code refl (bit_at (octets_in c.args.blocks.now))))
