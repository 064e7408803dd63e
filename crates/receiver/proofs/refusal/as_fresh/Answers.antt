-- `receiver::refusal::as_fresh` meets its contract: a state that equals a fresh one has the fields of one.
use mathlib.Core.Bool.{Bool, true, false, not, ◌&&◌, beq}
use mathlib.Core.List.{List, [], ◌∷◌}
use mathlib.Core.Path.{◌≡◌, refl, sym, ap, ◌∙◌}
use Prim.Native.Nat.{ℕ}
use native.Mathlib.Omega.{arith}
use lib.Dec.{eqb}
use lib.ListN.{length, replicate}
use lib.Pointwise.{pointwise}
use Rattle.receiver.specs.declared.Receiver.{Receiver}
use Rattle.receiver.specs.Release.{fresh}
use Rattle.receiver.specs.Refusal.{all_zero, as_fresh}
use Rattle.receiver.proofs.refusal.as_fresh.Goals as goal

rearranged : (o h t c i n s r f : Bool) → o && (h && (t && (c && (i && (n && (s && (r && f))))))) ≡ (h && (c && (i && n))) && ((s && (r && f)) && (t && o))
rearranged o h t c i n s r f = grind arith

zeros : (l : List ℕ) → pointwise eqb l (replicate (length l) 0) ≡ all_zero l
unfolding all_zero
zeros [] = refl
zeros (x ∷ l) = ap (λ (b : Bool). eqb x 0 && b) (zeros l)

itself : (w b : Bool) → beq w w && b ≡ b
itself true b = refl
itself false b = refl

untrusted : (t : Bool) → beq t false ≡ not t
untrusted true = refl
untrusted false = refl

by_fields : (s f : Receiver) → f ≡ fresh → length s.octets ≡ 256
    → beq s.waiting s.waiting
    && (pointwise eqb s.octets f.octets
    && (eqb s.history f.history && (beq s.trusted f.trusted && (eqb s.command f.command && (eqb s.invalid f.invalid && (eqb s.own f.own && (eqb s.sound f.sound && (eqb s.repaired f.repaired && eqb s.failed f.failed))))))))
    ≡ as_fresh s
unfolding as_fresh
by_fields s f e long =
    rw e
    (itself s.waiting _
    ∙ rw (untrusted s.trusted, ap (λ (n : ℕ). pointwise eqb s.octets (replicate n 0)) (sym long) ∙ zeros s.octets)
    (rearranged (all_zero s.octets) (eqb s.history 0) (not s.trusted) (eqb s.command 0) (eqb s.invalid 0) (eqb s.own 0) (eqb s.sound 0) (eqb s.repaired 0) (eqb s.failed 0)))

pub returns : goal.returns
returns c = c.eq.ensures ∙ by_fields c.args.state c.fresh.result c.fresh.ensures (omega arith)
