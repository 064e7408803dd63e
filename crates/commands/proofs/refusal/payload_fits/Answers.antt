use mathlib.Core.Path.{◌∙◌}
use Prim.Native.Nat.{ℕ}
use lib.Dec.{ltb}
use Rattle.std.proofs.Common.{rules, tests}
use Rattle.std.proofs.lemmas.Iterator.{YieldsList-from_slice}
use Rattle.std.proofs.lemmas.Iterator.Search.{all_from_yields_List}
use Rattle.bits.proofs.Bounds.{each_below}
use Rattle.commands.proofs.refusal.payload_fits.Goals as goal

pub returns : goal.returns
returns c =
    let xs = c.args.payload.now in
    all_from_yields_List (λ (n : ℕ). ltb n 32) _ _ _ c.all.ensures.ran (YieldsList-from_slice xs cc) (λ x b q h. search (rules, tests)) ∙ each_below 32 xs
