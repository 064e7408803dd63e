-- The dozen cases of document 01 hold: one table, one theorem over all its rows, by computing. Of data that begin with zeros only the rest
-- counts. Assumes nothing.
use mathlib.Core.Path.{◌≡◌, refl, sym, subst}
use mathlib.Core.List.{List, [], ◌∷◌, Memᴰ}
use Prim.Native.Nat.{ℕ}
use Rattle.bits.specs.Order.{bit_at, list_from, bits_of, number, octets_of}
use Rattle.scrambler.specs.Scrambling.{sent_bit, all_sent, sent, scrambled}
use Rattle.polynomial.specs.Polynomial.{scale, times_x}
use Rattle.polynomial.specs.Remainder.{next, remainder_from, remainder}
use Rattle.parity.specs.Codeword.{Code, crc12, fec, parity_of}
use Rattle.parity.proofs.Codeword.{leading_zeros}
use Rattle.frame.specs.SyncWord.{held, word_by}
use Rattle.demands.specs.Dozen.{Case, Right, last_octet, dozen}

abbrev All : List Case → Type 0
All [] = Unit {0}
All (c ∷ l) = Right c × All l

-- the parity of data of which the last octet alone isn't 0
last-alone : (C : Code) (octet : ℕ) → parity_of C (last_octet octet) ≡ parity_of C (octet ∷ [])
last-alone C octet = leading_zeros C 255 (octet ∷ [])

computed : All dozen
unfolding scrambled octets_of number sent all_sent sent_bit bit_at list_from bits_of parity_of remainder remainder_from next scale times_x word_by held
computed = (
  refl,
  (
    refl,
    (
      last-alone crc12 0x01,
      (
        last-alone crc12 0x02,
        (last-alone crc12 0x08, (last-alone fec 0x01, (last-alone fec 0x10, (last-alone fec 0x20, (refl, (refl, (refl, (refl, tt)))))))),
      ),
    ),
  ),
)

each : (c : Case) (l : List Case) → All l → Memᴰ c l → Right c
each c l all (Memᴰ.head {x} {xs} e) = subst Right (sym e) all.0
each c l all (Memᴰ.tail {x} {xs} m) = each c xs all.1 m

pub all_right : (c : Case) → Memᴰ c dozen → Right c
all_right c m = each c dozen computed m
