use mathlib.Core.Path.{◌∙◌, sym}
use native.Mathlib.Omega.{arith}
use Rattle.bits.specs.Order.{digit, octets_of}
use Rattle.bits.proofs.Octets.{length-octets_of}
use Rattle.bits.proofs.Laid.{store, too_short}
use Rattle.bits.proofs.put_word.Goals as goal
use Rattle.bits.proofs.put_word.Goals.{else-out-ge8-via-then-out-ge8+else-at-out, else-out-ge8-via-else-out-ge8}

pub returns-then-at-out : goal.returns-then-at-out
returns-then-at-out c =
    let a = c.args in
    store a.word a.at a.out.now c.copy_from_slice.new.self (omega arith) (c.copy_from_slice.ensures.after ∙ c.to_be_bytes.ensures)

pub returns-else-out-ge8 : goal.returns-else-out-ge8
returns-else-out-ge8 c =
    let a = c.args in
    let n = length-octets_of (digit 64 a.word) 8 in
    elim c.else-out-ge8.branch [
      | else-out-ge8-via-then-out-ge8+else-at-out w ↦ sym (too_short (octets_of (digit 64 a.word) 8) a.at a.out.now (omega (arith, n, w.if-at-out.false)))
      | else-out-ge8-via-else-out-ge8 w ↦ sym (too_short (octets_of (digit 64 a.word) 8) a.at a.out.now (omega (arith, n, w.if-out-ge8.false)))
    ]
