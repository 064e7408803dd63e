use Prim.Native.Nat.{ℕ, ◌+◌, ◌*◌, ◌<◌}
use mathlib.Core.Path.{◌≡◌, ◌∙◌}
use mathlib.Core.List.{List}
use native.Mathlib.Omega.{arith}
use lib.ListN.{get_or}
use Rattle.bits.proofs.Numbers.{number-octet, number-next}
use Rattle.capture.specs.Form.{extent_of}
use Rattle.capture.proofs.form.extent_of.Goals as goal

two-octets : (capture : List ℕ) (a b : ℕ) → a ≡ get_or capture 5 0 → b ≡ get_or capture 6 0 → get_or capture 5 0 < 256 → get_or capture 6 0 < 256 → a * 256 + b ≡ extent_of capture
unfolding extent_of
two-octets capture a b first second h l = omega (arith, first, second, number-next capture 5 1 l, number-octet capture 5 h)

pub returns : goal.returns
returns c =
    let capture = c.args.capture.now in
    let octet = c.type_inv.capture in
    c.from.ensures
    ∙ omega (arith, c.from_be_bytes.ensures, two-octets capture _ _ c.octet_at.ensures c.octet_at-2.ensures (omega (arith, octet 5)) (omega (arith, octet 6)))
