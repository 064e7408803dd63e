use mathlib.Core.Path.{ap, ◌∙◌}
use mathlib.Core.List.{List}
use Prim.Native.Nat.{ℕ}
use lib.ListN.{get_or}
use Rattle.bits.proofs.Blocks.{eight-octets}
use Rattle.bits.proofs.ArrayU88Block.octet.Goals as goal

pub returns : goal.returns
returns c =
    let a = c.args in
    c.octet_at.ensures ∙ ap (λ (octets : List ℕ). get_or octets a.k 0) (eight-octets a.self.now c.fits-self c.told-self)
