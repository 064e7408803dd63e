-- What is wrong in the codeword of a group: the flips of its lane bits make a set of positions whose remainder is what the receiver computes, and
-- which is a burst, or empty, where the flips lie in bursts. Over any row and any of its groups. Assumes nothing.
use mathlib.Core.Path.{◌≡◌, refl, sym, ap, ap₂, ◌∙◌, subst}
use mathlib.Core.Logic.{◌⊎◌, inl, inr, ◌≢◌, ⊎_elim}
use Prim.Native.Nat.{ℕ, zero, suc, ◌+◌, ◌-◌, ◌*◌, ◌^◌, ◌<◌, ◌≤◌}
use native.Mathlib.Nat.{zero-lt-suc, le_refl, mul-suc, mul-le-mul_left}
use native.Mathlib.Decide.{dec_lt, ℕ_discrete}
use native.Mathlib.Omega.{arith}
use lib.Dec.{ltb}
use lib.Bits.{bit_xor, xor_lt, xor_self, xor_zero_l}
use borrow.Author.Tests.{lt-ltb, le-ltb}
use Rattle.bits.specs.Choice.{pick}
use Rattle.bits.specs.Order.{bit_at}
use Rattle.parity.specs.Codeword.{Code, data_bits, group_parity, joined, multiblock_parity, codeword, remainder_of}
use Rattle.parity.specs.Bursts.{BurstSet}
use Rattle.parity.proofs.Bursts.{Proper}
use Rattle.parity.proofs.Received.{word-data, word-parity, received-group, remainder-xor, remainder-within}
use Rattle.parity.proofs.Groups.{group_parity-lt, joined-xor}
use Rattle.parity.proofs.Sets.{unnamed}
use Rattle.frame.specs.declared.modes.Row.{Row}
use Rattle.frame.specs.Modes.{before, own, parity, layout, code}
use Rattle.frame.specs.Lane.{lane_octets, header_place, data_place, sync_bit, data_octets}
use Rattle.frame.specs.SyncWord.{read_parity, whole}
use Rattle.frame.proofs.Rows.{proper, all-grouped, lower-fits}
use Rattle.frame.proofs.SyncWord.{only-there}
use Rattle.frame.proofs.Groups.{group_place, group_read, group_read-lt, group-bit, received-groups, sync-next}
use Rattle.frame.proofs.Lane.{sync_bit-lt, same-sync}
use Rattle.frame.proofs.Places.{data_is, data-octets-bit, header-same}
use Rattle.receiver.proofs.Numbered.{parity_on}
use Rattle.demands.specs.Damage.{Pairwise}
use Rattle.demands.proofs.Places.{At, in-data, in_head, expanding, spans, on-lane, from_start}

-- two bits that are not the same differ
differ : (x y : ℕ) → x < 2 → y < 2 → x ≢ y → bit_xor x y ≡ 1
differ zero zero hx hy n = absurd (n refl)
differ zero (suc zero) hx hy n = refl
differ zero (suc (suc y)) hx hy n = absurd (omega arith)
differ (suc zero) zero hx hy n = refl
differ (suc zero) (suc zero) hx hy n = absurd (n refl)
differ (suc zero) (suc (suc y)) hx hy n = absurd (omega arith)
differ (suc (suc x)) y hx hy n = absurd (omega arith)

abbrev pub Bits : (ℕ → ℕ) → Type 0
Bits f = (k : ℕ) → f k < 2

module _ (R : Row) where
  abbrev C : Code
  C = code R.sync

  -- the sync bits of multiblock i and of the next
  abbrev sync_from : (ℕ → ℕ) → ℕ → ℕ → ℕ
  sync_from lane i = sync_bit R.gap lane i

  -- the codeword of group g of multiblock i: its data, and the parity that its own headers or the next multiblock's carry
  abbrev parity_read : (ℕ → ℕ) → ℕ → ℕ → ℕ
  parity_read lane i g = group_read R.sync (sync_from lane i) g

  abbrev octet_bit : (ℕ → ℕ) → ℕ → ℕ → ℕ
  octet_bit lane i = bit_at (data_octets R.gap lane i)

  abbrev word : (ℕ → ℕ) → ℕ → ℕ → ℕ → ℕ
  word lane i g = codeword C (λ p. octet_bit lane i (data_bits C * g + p)) (parity_read lane i g)

  -- what the receiver goes by: of a group, and of all
  abbrev pub difference : (ℕ → ℕ) → ℕ → ℕ → ℕ
  difference lane i g = bit_xor (group_parity C (octet_bit lane i) g) (parity_read lane i g)

  abbrev pub differences : (ℕ → ℕ) → ℕ → ℕ
  differences lane i = bit_xor (multiblock_parity C (octet_bit lane i)) (parity_on R lane i)

  pub group-lt : (lane : ℕ → ℕ) (i g : ℕ) → difference lane i g < 2 ^ C.width
  group-lt lane i g =
      xor_lt C.width _ _ (group_parity-lt C (lower-fits R.sync) (octet_bit lane i) g) (group_read-lt R.sync (sync_from lane i) (sync_bit-lt R.gap lane i) g)

  pub by-groups : (lane : ℕ → ℕ) (i : ℕ) → differences lane i ≡ joined C.width (difference lane i) C.groups
  unfolding multiblock_parity
  by-groups lane i =
      ap (bit_xor (multiblock_parity C (octet_bit lane i)))
      (ap (λ (x : ℕ). whole R.sync (record { before = x; own = read_parity R.sync own (sync_from lane i) }))
      (only-there (layout R.sync) (parity before) C.width (sync_bit R.gap lane (suc i)) (λ t. sync_from lane i (32 + t)) (λ k h. sync-next R.gap lane i _))
      ∙ received-groups R.sync (sync_from lane i) (sync_bit-lt R.gap lane i))
      ∙ joined-xor C.width (group_parity C (octet_bit lane i)) (parity_read lane i) (group_parity-lt C (lower-fits R.sync) (octet_bit lane i))
      (group_read-lt R.sync (sync_from lane i) (sync_bit-lt R.gap lane i)) C.groups

  -- the positions of the group's codeword that differ between the lanes a and b
  unfoldable pub wrong : (ℕ → ℕ) → (ℕ → ℕ) → ℕ → ℕ → ℕ → ℕ
  wrong a b i g c = pick (ltb c C.positions) (bit_xor (word a i g c) (word b i g c)) 0

  module _ (g : ℕ) (l : g < C.groups) where
    well : Proper C
    well = proper R.sync (omega arith)

    -- the group's data bits are the multiblock's
    pub inside : (c : ℕ) → c < data_bits C → data_bits C * g + c < 2048
    inside c h =
        let z : data_bits C * suc g ≤ data_bits C * C.groups = mul-le-mul_left (data_bits C) l in
        omega (arith, all-grouped R.sync (omega arith), mul-suc (data_bits C) g)

    word-remainder : (lane : ℕ → ℕ) (i : ℕ) → difference lane i g ≡ remainder_of C (word lane i g)
    word-remainder lane i = received-group C well (octet_bit lane i) g (parity_read lane i g) (group_read-lt R.sync (sync_from lane i) (sync_bit-lt R.gap lane i) g)

    word-in-data : (lane : ℕ → ℕ) → Bits lane → (i c : ℕ) → c < data_bits C → word lane i g c ≡ lane (data_place R.gap i (data_bits C * g + c))
    word-in-data lane bits i c h =
        word-data C well (λ p. octet_bit lane i (data_bits C * g + p)) (parity_read lane i g) c h
        ∙ data-octets-bit R.gap lane bits i (data_bits C * g + c) (inside c h)
        ∙ data_is R.gap lane i (data_bits C * g + c)

    word-in-parity : (lane : ℕ → ℕ) (i r : ℕ) → r < C.width → word lane i g (data_bits C + r) ≡ sync_from lane i (group_place R.sync g r)
    word-in-parity lane i r h =
        word-parity C well (λ p. octet_bit lane i (data_bits C * g + p)) (parity_read lane i g) r
        ∙ group-bit R.sync (sync_from lane i) (sync_bit-lt R.gap lane i) g r h

    module _ (a b : ℕ → ℕ) (bits-a : Bits a) (bits-b : Bits b) (i : ℕ) where
      abbrev pub flips : ℕ → ℕ
      flips x = bit_xor (a x) (b x)

      abbrev hits : ℕ → ℕ
      hits = wrong a b i g

      wrong-in : (c : ℕ) → c < C.positions → hits c ≡ bit_xor (word a i g c) (word b i g c)
      unfolding wrong
      wrong-in c h = rw (lt-ltb c C.positions h)

      wrong-out : (c : ℕ) → C.positions ≤ c → hits c ≡ 0
      unfolding wrong
      wrong-out c h = rw (le-ltb c C.positions h)

      pub wrong-data : (c : ℕ) → c < data_bits C → hits c ≡ flips (data_place R.gap i (data_bits C * g + c))
      wrong-data c h = wrong-in c (omega (arith, well.long)) ∙ ap₂ bit_xor (word-in-data a bits-a i c h) (word-in-data b bits-b i c h)

      wrong-parity : (r : ℕ) → r < C.width → hits (data_bits C + r) ≡ bit_xor (sync_from a i (group_place R.sync g r)) (sync_from b i (group_place R.sync g r))
      wrong-parity r h = wrong-in (data_bits C + r) (omega (arith, well.long)) ∙ ap₂ bit_xor (word-in-parity a i r h) (word-in-parity b i r h)

      pub wrong-lt : (c : ℕ) → hits c < 2
      wrong-lt c = go (dec_lt c (data_bits C)) (dec_lt c C.positions)
        where
          go : Dec (c < data_bits C) → Dec (c < C.positions) → hits c < 2
          go (yes h) k = subst (λ (x : ℕ). x < 2) (sym (wrong-data c h)) (xor_lt 1 _ _ (bits-a (data_place R.gap i (data_bits C * g + c))) (bits-b (data_place R.gap i (data_bits C * g + c))))
          go (no h) (yes k) =
              let e : data_bits C + (c - data_bits C) ≡ c = omega arith in
              let t = group_place R.sync g (c - data_bits C) in
              subst (λ (x : ℕ). x < 2) (sym (wrong-parity (c - data_bits C) (omega (arith, well.long))) ∙ ap hits e)
              (xor_lt 1 _ _ (sync_bit-lt R.gap a i t) (sync_bit-lt R.gap b i t))
          go (no h) (no k) = subst (λ (x : ℕ). x < 2) (sym (wrong-out c (omega arith))) (zero-lt-suc 1)

      -- a position is wrong by a flip of one of its lane bits
      pub hit : (c : ℕ) → hits c ≡ 1 → (x : ℕ) × At R i g c x × (flips x ≡ 1)
      hit c e = go (dec_lt c (data_bits C)) (dec_lt c C.positions)
        where
          r : ℕ
          r = c - data_bits C

          x : ℕ
          x = header_place R.gap i (group_place R.sync g (c - data_bits C))

          go : Dec (c < data_bits C) → Dec (c < C.positions) → (x : ℕ) × At R i g c x × (flips x ≡ 1)
          go (yes h) k = (data_place R.gap i (data_bits C * g + c), in-data h refl, sym (wrong-data c h) ∙ e)
          go (no h) (no k) = absurd (let z = wrong-out c (omega arith) in omega arith)
          go (no h) (yes k) = pair (ℕ_discrete (a x) (b x)) (ℕ_discrete (a (x + 1)) (b (x + 1)))
            where
              pair : Dec (a x ≡ b x) → Dec (a (x + 1) ≡ b (x + 1)) → (x : ℕ) × At R i g c x × (flips x ≡ 1)
              pair (no n) m = (x, in_head r (omega arith) (omega (arith, well.long)) (le_refl x) (omega arith), differ (a x) (b x) (bits-a x) (bits-b x) n)
              pair (yes n) (no m) =
                  (x + 1, in_head r (omega arith) (omega (arith, well.long)) (omega arith) (le_refl (x + 1)), differ (a (x + 1)) (b (x + 1)) (bits-a (x + 1)) (bits-b (x + 1)) m)
              pair (yes n) (yes m) =
                  absurd (let q : data_bits C + r ≡ c = omega arith in
                  let t = group_place R.sync g r in
                  let z : hits c ≡ 0 = ap hits (sym q) ∙ wrong-parity r (omega (arith, well.long))
                  ∙ ap (λ (y : ℕ). bit_xor y (sync_from b i t)) (same-sync R.gap a b i t (header-same R.gap a b i t n m))
                  ∙ xor_self (sync_from b i t) in omega arith)

      -- no bit flipped from its multiblock's start to the next one's end: nothing is wrong
      pub none-wrong : ((x : ℕ) → 8 * lane_octets R.gap * i ≤ x → x < 8 * lane_octets R.gap * (i + 2) → flips x ≡ 0) → (c : ℕ) → hits c ≡ 0
      none-wrong z c = elim (ℕ_discrete (hits c) 0) [
        | yes e ↦ e
        | no e ↦ absurd (let p = hit c (let h = wrong-lt c in omega (arith, e)) in
            let y = z p.0 (from_start R i g l c p.0 p.1) (on-lane R i g l (i + 2) c p.0 (omega arith) p.1) in
            let f = p.2 in omega arith)
      ]

      -- the remainder of what was received is that of what is wrong in it, where what was sent has none
      pub wrong-remainder : difference a i g ≡ 0 → difference b i g ≡ remainder_of C hits
      wrong-remainder z =
          word-remainder b i
          ∙ sym (xor_zero_l (remainder_of C (word b i g)))
          ∙ ap (λ (x : ℕ). bit_xor x (remainder_of C (word b i g))) (sym z ∙ word-remainder a i)
          ∙ sym (remainder-xor C (word a i g) (word b i g))
          ∙ sym (remainder-within C hits (λ c. bit_xor (word a i g c) (word b i g c)) wrong-in)

      -- ---- flips in bursts

      module _ (limit clear n : ℕ) (some : 0 < limit) (wide : 16 * lane_octets R.gap ≤ clear) (close : Pairwise limit clear (8 * lane_octets R.gap * n) flips) (next : suc i < n) where
        near : (c d : ℕ) → c < d → hits c ≡ 1 → hits d ≡ 1 → d - c < limit
        near c d h e f =
            let p = hit c e in
            let q = hit d f in
            let x = p.0 in
            let y = q.0 in
            let far : x + (d - c) ≤ y = expanding R i g l c d x y h p.1 q.1 in
            let within : y ≤ x + 16 * lane_octets R.gap = spans R i g l c d x y p.1 q.1 in
            ⊎_elim (λ (m : y - x < limit). omega arith) (λ (m : clear < y - x). absurd (omega arith))
            (close x y (omega arith) (on-lane R i g l n d y next q.1) p.2 q.2)

        pub one-burst : (c : ℕ) → hits c ≡ 1 → BurstSet limit C.positions hits
        one-burst c e = unnamed limit C.positions hits some wrong-lt within near c e
          where
            within : (p : ℕ) → hits p ≡ 1 → p < C.positions
            within p f = elim (dec_lt p C.positions) [ yes h ↦ h | no h ↦ absurd (let z = wrong-out p (omega arith) in omega arith) ]

        -- nothing is wrong, or something is
        pub wrong-or : ((c : ℕ) → hits c ≡ 0) ⊎ BurstSet limit C.positions hits
        wrong-or = go C.positions (le_refl C.positions) (λ c h. wrong-out c h)
          where
            go : (k : ℕ) → k ≤ C.positions → ((c : ℕ) → k ≤ c → hits c ≡ 0) → ((c : ℕ) → hits c ≡ 0) ⊎ BurstSet limit C.positions hits
            go zero h z = inl (λ c. z c (omega arith))
            go (suc k) h z = elim (ℕ_discrete (hits k) 0) [
              | no m ↦ inr (one-burst k (let y = wrong-lt k in omega (arith, m)))
              | yes m ↦ go k (omega arith) (λ c l. elim (ℕ_discrete c k) [ yes q ↦ ap hits q ∙ m | no q ↦ z c (omega arith) ])
            ]
