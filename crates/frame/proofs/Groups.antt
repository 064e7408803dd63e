-- A multiblock's parity in its two parts, and where the parity of each of its groups stands: behind the group's blocks, in order, in its own
-- headers or in the next multiblock's. Tables 41, 43 and 45; request 5. Assumes nothing.
use mathlib.Core.Path.{◌≡◌, refl, sym, ap, ap₂, ◌∙◌, subst}
use mathlib.Core.Bool.{Bool, ◌&&◌}
use Prim.Native.Nat.{ℕ, zero, suc, ◌+◌, ◌-◌, ◌*◌, ◌/◌, ◌%◌, ◌^◌, ◌≤◌, ◌<◌}
use native.Mathlib.Nat.{add-zero, add-suc, zero-add, mod-mod, mod-one, mod-eq_of_lt, mod-lt, le_refl}
use native.Mathlib.Omega.{arith}
use borrow.Author.Tests.{eq-eqb, ne_eqb}
use lib.Dec.{T, ltb, leb, eqb, ltb→lt, leb→le}
use lib.Pow.{pow_pos, mod-pow-add}
use Rattle.bits.specs.Choice.{pick}
use Rattle.bits.specs.Order.{number}
use Rattle.bits.proofs.Numbers.{digit_at, digit-number, number-ext, number_lt}
use Rattle.bits.proofs.Tests.{left, right, every, every-at}
use Rattle.parity.specs.Codeword.{joined}
use Rattle.parity.proofs.Groups.{joined-ext, joined_number, joined-none}
use Rattle.frame.specs.declared.modes.Sync.{Sync}
use Rattle.frame.specs.declared.modes.Sync.TheVariants.{Crc12, Fec, Crc3, Command}
use Rattle.frame.specs.Modes.{before, own, parity, layout, code, parity_width}
use Rattle.frame.specs.Headers.{value, header_read, carries}
use Rattle.frame.specs.Lane.{block_width, header_place, first_bit, second_bit, value_at, header_at, sync_bit}
use Rattle.frame.specs.SyncWord.{whole, split, position, key, read_by, read_parity}
use Rattle.frame.proofs.SyncWord.{place, read-lt}

-- ---- a parity and its two parts

-- split and put together again it is what it was, where it has no more bits than both parts
pub whole_split : (S : Sync) (P : ℕ) → whole S (split S P) ≡ P % 2 ^ (parity_width S own + parity_width S before)
unfolding whole split
whole_split S P =
    ap₂ (λ (x y : ℕ). x * 2 ^ parity_width S before + y) (mod-mod (P / 2 ^ parity_width S before) (2 ^ parity_width S own)) (mod-mod P (2 ^ parity_width S before))
    ∙ sym (mod-pow-add P (parity_width S own) (parity_width S before))

-- the bits of both parts are those of all groups
pub all-bits : (S : Sync) → parity_width S own + parity_width S before ≡ (code S).width * (code S).groups
all-bits Crc12 = refl
all-bits Fec = refl
all-bits Crc3 = refl
all-bits Command = refl

pub split-lt : (S : Sync) (P : ℕ) → ((split S P).before < 2 ^ parity_width S before) × ((split S P).own < 2 ^ parity_width S own)
unfolding split
split-lt S P = (mod-lt P (pow_pos (parity_width S before)), mod-lt (P / 2 ^ parity_width S before) (pow_pos (parity_width S own)))

-- ---- where the parity of a group stands

-- the block whose header carries the parity's bit of rank r, the highest bit being the first, of group g; counted from the multiblock's first
-- block on, through the next multiblock
abbrev pub group_place : Sync → ℕ → ℕ → ℕ
group_place S g r =
    pick (eqb (suc g) (code S).groups) (32 + place S (parity before ((code S).width - 1 - r))) (place S (parity own (parity_width S own - 1 - ((code S).width * g + r))))

-- what is read there, of a stream of sync bits that begins with the multiblock's
abbrev pub group_read : Sync → (ℕ → ℕ) → ℕ → ℕ
group_read S bits g = number (λ r. bits (group_place S g r)) 0 (code S).width

module _ (S : Sync) (bits : ℕ → ℕ) (d : (t : ℕ) → bits t < 2) where
  pub group_read-lt : (g : ℕ) → group_read S bits g < 2 ^ (code S).width
  group_read-lt g = number_lt (λ r. bits (group_place S g r)) (λ r. d (group_place S g r)) 0 (code S).width

  -- a bit of the parity read is what is read there
  pub group-bit : (g r : ℕ) → r < (code S).width → group_read S bits g / 2 ^ ((code S).width - 1 - r) % 2 ≡ bits (group_place S g r)
  group-bit g r h =
      sym (digit_at (code S).width (group_read S bits g) r)
      ∙ digit-number (λ r. bits (group_place S g r)) (λ r. d (group_place S g r)) 0 (code S).width r h
      ∙ ap (λ (x : ℕ). bits (group_place S g x)) (zero-add r)

  abbrev own_bits : ℕ → ℕ
  own_bits j = bits (place S (parity own (parity_width S own - 1 - j)))

  module _ (n : ℕ) (e : (code S).groups ≡ suc n) where
    last-group : group_read S bits n ≡ read_parity S before (λ t. bits (32 + t))
    unfolding read_by
    last-group =
        number-ext (λ r. bits (group_place S n r)) (λ r. bits (32 + place S (parity before ((code S).width - 1 - r)))) 0 0 (code S).width
        (λ r h. ap (λ (b : Bool). bits (pick b (32 + place S (parity before ((code S).width - 1 - (0 + r)))) (place S (parity own (parity_width S own - 1 - ((code S).width * n + (0 + r))))))) (eq-eqb (suc n) (code S).groups (sym e)))

    other-group : (g : ℕ) → g < n → group_read S bits g ≡ number own_bits ((code S).width * g) (code S).width
    other-group g l =
        number-ext (λ r. bits (group_place S g r)) own_bits 0 ((code S).width * g) (code S).width
        (λ r h. ap (λ (b : Bool). bits (pick b (32 + place S (parity before ((code S).width - 1 - (0 + r)))) (place S (parity own (parity_width S own - 1 - ((code S).width * g + (0 + r))))))) (ne_eqb (suc g) (code S).groups (λ z. absurd (omega arith)))
        ∙ ap (λ (x : ℕ). own_bits ((code S).width * g + x)) (zero-add r))

    -- a parity received, from its two parts and from its groups
    whole-groups : whole S (record { before = read_parity S before (λ t. bits (32 + t)); own = read_parity S own bits }) ≡ joined (code S).width (group_read S bits) (code S).groups
    unfolding whole read_by joined
    whole-groups =
        let w = (code S).width in
        ap₂ (λ (x y : ℕ). x * 2 ^ w + y)
        (mod-eq_of_lt (read-lt (layout S) (parity own) (parity_width S own) bits d)
        ∙ ap (number own_bits 0) (ap (λ (m : ℕ). w * m) {x = (code S).groups - 1} {y = n} (omega arith))
        ∙ sym (joined_number w own_bits n)
        ∙ sym (joined-ext w (group_read S bits) (λ g. number own_bits (w * g) w) n other-group))
        (mod-eq_of_lt (read-lt (layout S) (parity before) w (λ t. bits (32 + t)) (λ t. d (32 + t))) ∙ sym last-group)
        ∙ ap (joined w (group_read S bits)) (sym e)

pub received-groups : (S : Sync) (bits : ℕ → ℕ) → ((t : ℕ) → bits t < 2)
    → whole S (record { before = read_parity S before (λ t. bits (32 + t)); own = read_parity S own bits }) ≡ joined (code S).width (group_read S bits) (code S).groups
unfolding whole
received-groups Crc12 bits d = whole-groups Crc12 bits d 0 refl
received-groups Fec bits d = whole-groups Fec bits d 0 refl
received-groups Crc3 bits d = whole-groups Crc3 bits d 3 refl
received-groups Command bits d =
    ap₂ (λ (x y : ℕ). x * 2 ^ 0 + y) (mod-one (read_parity Command own bits)) (mod-one (read_parity Command before (λ t. bits (32 + t))))
    ∙ sym (joined-none 0 (group_read Command bits))

-- a multiblock's sync bits are gone on with by the next one's
pub sync-next : (gap : ℕ) (lane : ℕ → ℕ) (m t : ℕ) → sync_bit gap lane (suc m) t ≡ sync_bit gap lane m (32 + t)
unfolding sync_bit header_at value_at first_bit second_bit header_place
sync-next gap lane m t =
    ap (λ (b : ℕ). carries (header_read (value (lane (block_width gap * b)) (lane (block_width gap * b + 1))))) {x = 32 * suc m + t} {y = 32 * m + (32 + t)} (omega arith)

-- ---- in which order

-- of the groups of a code: behind the group's blocks, within two multiblocks, and the highest first
pub record Ordered (S : Sync) : Type 0 where
  pub behind : (g r : ℕ) → g < (code S).groups → r < (code S).width → (code S).blocks * suc g + r ≤ group_place S g r
  pub inside : (g r : ℕ) → g < (code S).groups → r < (code S).width → group_place S g r < 64
  pub rising : (g r : ℕ) → g < (code S).groups → suc r < (code S).width → group_place S g r < group_place S g (suc r)

abbrev fits : Sync → ℕ → ℕ → Bool
fits S g r = leb ((code S).blocks * suc g + r) (group_place S g r) && ltb (group_place S g r) 64

abbrev rises : Sync → ℕ → ℕ → Bool
rises S g r = ltb (group_place S g r) (group_place S g (suc r))

abbrev ordered : Sync → ℕ → Bool
ordered S g = every (fits S g) (code S).width && every (rises S g) ((code S).width - 1)

in_order : (S : Sync) → T (every (ordered S) (code S).groups) → Ordered S
in_order S t = record {
  behind = λ g r l h. leb→le ((code S).blocks * suc g + r) (group_place S g r) (left (leb ((code S).blocks * suc g + r) (group_place S g r)) (ltb (group_place S g r) 64) (fit g r l h));
  inside = λ g r l h. ltb→lt (group_place S g r) 64 (right (leb ((code S).blocks * suc g + r) (group_place S g r)) (ltb (group_place S g r) 64) (fit g r l h));
  rising = λ g r l h. ltb→lt (group_place S g r) (group_place S g (suc r)) (every-at (rises S g) ((code S).width - 1) (right (every (fits S g) (code S).width) (every (rises S g) ((code S).width - 1)) (each g l)) r (omega arith));
}
  where
    each : (g : ℕ) → g < (code S).groups → T (ordered S g)
    each g l = every-at (ordered S) (code S).groups t g l

    fit : (g r : ℕ) → g < (code S).groups → r < (code S).width → T (fits S g r)
    fit g r l h = every-at (fits S g) (code S).width (left (every (fits S g) (code S).width) (every (rises S g) ((code S).width - 1)) (every-at (ordered S) (code S).groups t g l)) r h

pub all-ordered : (S : Sync) → Ordered S
unfolding every position key
all-ordered Crc12 = in_order Crc12 tt
all-ordered Fec = in_order Fec tt
all-ordered Crc3 = in_order Crc3 tt
all-ordered Command = in_order Command tt

module _ (S : Sync) (g : ℕ) (l : g < (code S).groups) where
  -- d ranks on is d blocks on at least
  places-apart : (r d : ℕ) → r + d < (code S).width → group_place S g r + d ≤ group_place S g (r + d)
  places-apart r zero h = rw (add-zero (group_place S g r), add-zero r) (le_refl (group_place S g r))
  places-apart r (suc d) h =
      let e : r + suc d ≡ suc (r + d) = add-suc r d in
      subst (λ (x : ℕ). group_place S g r + suc d ≤ group_place S g x) (sym e) (omega (arith, places-apart r d (omega arith), (all-ordered S).rising g (r + d) l (omega arith)))

  pub places-between : (a b : ℕ) → a < b → b < (code S).width → group_place S g a + (b - a) ≤ group_place S g b
  places-between a b h m = subst (λ (x : ℕ). group_place S g a + (b - a) ≤ group_place S g x) {x = a + (b - a)} {y = b} (omega arith) (places-apart a (b - a) (omega arith))
