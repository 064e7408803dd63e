use native.Mathlib.Omega.{arith}
use Rattle.text.proofs.Wrote.{wrote-copied}
use Rattle.text.proofs.fields.put.Goals as goal

pub returns-then-next-text : goal.returns-then-next-text
returns-then-next-text c =
    let a = c.args in
    rw c.copy_from_slice.ensures.after (wrote-copied a.octets.now a.text.now a.at _ c.saturating_add-next.ensures (omega arith) (omega arith))
