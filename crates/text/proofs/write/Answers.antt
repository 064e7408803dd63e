use mathlib.Core.Path.{sym, ap, ◌∙◌}
use mathlib.Core.Bool.{not}
use native.Mathlib.Omega.{arith}
use lib.ListN.{length}
use Rattle.frame.proofs.Rows.{most-is}
use Rattle.text.proofs.Refusals.{lengths-alike, unlike, too_many, taken}
use Rattle.text.proofs.write.Goals as goal

pub returns-then-not-alike : goal.returns-then-not-alike
returns-then-not-alike c = let a = c.args in unlike a.row a.e a.received a.statuses.now a.places.now a.patterns.now a.text.now (ap not (sym c.alike.ensures) ∙ (ap not c.if-not-alike.true))

pub returns-then-statuses-gt-MOST : goal.returns-then-statuses-gt-MOST
returns-then-statuses-gt-MOST c =
    let a = c.args in
    let same = lengths-alike (length a.statuses.now) (length a.places.now) (length a.patterns.now) (ap not (sym c.alike.ensures) ∙ (ap not c.if-not-alike.false)) in
    too_many a.row a.e a.received a.statuses.now a.places.now a.patterns.now a.text.now same.0 same.1 (omega (arith, most-is))

pub invariant_of-releases : goal.invariant_of-releases
invariant_of-releases c =
    let a = c.args in
    let same = lengths-alike (length a.statuses.now) (length a.places.now) (length a.patterns.now) (ap not (sym c.alike.ensures) ∙ (ap not c.if-not-alike.false)) in
    record { few = omega (arith, most-is); placed = same.0; patterned = same.1 }

pub returns : goal.returns
returns c =
    let a = c.args in
    let same = lengths-alike (length a.statuses.now) (length a.places.now) (length a.patterns.now) (ap not (sym c.alike.ensures) ∙ (ap not c.if-not-alike.false)) in
    c.put.ensures ∙ taken a.row a.e a.received a.statuses.now a.places.now a.patterns.now a.text.now same.0 same.1 (omega (arith, most-is))
