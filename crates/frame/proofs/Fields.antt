-- Sync words by shifts and masks: a sync word is the exclusive or of what its parities, its command and the rest add to it, and all but the rest
-- are additive, as shifts and masks are, so that one test at each single bit shows that the two agree. Tables 41, 43, 45 and 47. Assumes nothing.
use mathlib.Core.Path.{◌≡◌, refl, sym, ap, ap₂, ◌∙◌}
use mathlib.Core.Bool.{Bool, true, false, not}
use mathlib.Core.List.{List, [], ◌∷◌}
use Prim.Native.Nat.{ℕ, ◌+◌, ◌-◌, ◌*◌, ◌/◌, ◌%◌, ◌^◌, ◌<◌}
use native.Mathlib.Nat.{mod-lt, zero-lt-suc, zero-div}
use native.Mathlib.Omega.{arith}
use mir.Val.{bool_byte}
use lib.Bits.{bit_and, bit_xor, xor_zero_l, xor_zero_r, xor_comm, xor_lt}
use lib.Dec.{T, eqb}
use Rattle.bits.specs.Choice.{pick, bit_of}
use Rattle.bits.specs.Order.{number, digit}
use Rattle.bits.proofs.Additive.{Additive, agree-test, shift-left, shift-right, masked, bit, both, after, digit-xor, numbered}
use Rattle.bits.proofs.Numbers.{digit_lt, number-ext, number-xor, number-zeros}
use Rattle.bits.proofs.Tests.{every, every-at}
use Rattle.frame.specs.declared.modes.Sync.{Sync}
use Rattle.frame.specs.declared.modes.Sync.TheVariants.{Crc12, Fec, Crc3, Command}
use Rattle.frame.specs.declared.sync.Parts.{Parts}
use Rattle.frame.specs.Modes.{before, own, Field, parity, command, mark, fixed, layout}
use Rattle.frame.specs.SyncWord.{held, word_by, sync_word, key, position, read_by}
use Rattle.frame.proofs.SyncWord.{field_at, place, held-lt}

-- ---- what a sync word is made of

-- what is written of one number: the parity of the one before, its own, or the command
pub data Share : Type 0 where
  of_before : Share
  of_own : Share
  of_command : Share

-- whether a field holds a bit of that number, and which
abbrev is_of : Share → Field → Bool
is_of of_before (parity before k) = true
is_of of_before (parity own k) = false
is_of of_before (command k) = false
is_of of_own (parity before k) = false
is_of of_own (parity own k) = true
is_of of_own (command k) = false
is_of of_command (parity whose k) = false
is_of of_command (command k) = true
is_of x mark = false
is_of x (fixed b) = false

abbrev bit_of_field : Field → ℕ
bit_of_field (parity whose k) = k
bit_of_field (command k) = k
bit_of_field mark = 0
bit_of_field (fixed b) = 0

abbrev pub share_of : Share → ℕ → Field → ℕ
share_of x v f = pick (is_of x f) (v / 2 ^ bit_of_field f % 2) 0

unfoldable pub share : Sync → Share → ℕ → ℕ
share S x v = number (λ t. share_of x v (field_at S t)) 0 32

share-lt : (x : Share) (v : ℕ) (f : Field) → share_of x v f < 2
share-lt x v f = by (is_of x f)
  where
    by : (b : Bool) → pick b (v / 2 ^ bit_of_field f % 2) 0 < 2
    by true = mod-lt (v / 2 ^ bit_of_field f) (zero-lt-suc 1)
    by false = zero-lt-suc 1

share_of-xor : (x : Share) (f : Field) → Additive (λ (v : ℕ). share_of x v f)
share_of-xor x f = by (is_of x f)
  where
    by : (c : Bool) → Additive (λ (v : ℕ). pick c (v / 2 ^ bit_of_field f % 2) 0)
    by true a b = bit (bit_of_field f) a b
    by false a b = refl

share-xor : (S : Sync) (x : Share) → Additive (share S x)
unfolding share
share-xor S x = numbered (λ v t. share_of x v (field_at S t)) (λ v t. share-lt x v (field_at S t)) (λ t. share_of-xor x (field_at S t)) 0 32

-- nothing but the end mark and the fixed bits
abbrev none : Parts
none = record { before = 0; own = 0 }

first_alone : (v k : ℕ) → v / 2 ^ k % 2 ≡ bit_xor (bit_xor (bit_xor (v / 2 ^ k % 2) 0) 0) (0 / 2 ^ k % 2)
first_alone v k =
    let b = v / 2 ^ k % 2 in
    sym (ap₂ (λ (x y : ℕ). bit_xor x (y % 2)) (ap (λ (x : ℕ). bit_xor x 0) (xor_zero_r b) ∙ xor_zero_r b) (zero-div (2 ^ k)) ∙ xor_zero_r b)

second-alone : (v k : ℕ) → v / 2 ^ k % 2 ≡ bit_xor (bit_xor (bit_xor 0 (v / 2 ^ k % 2)) 0) (0 / 2 ^ k % 2)
second-alone v k = first_alone v k ∙ ap (λ (x : ℕ). bit_xor (bit_xor x 0) (0 / 2 ^ k % 2)) (xor_comm (v / 2 ^ k % 2) 0)

third-alone : (v k : ℕ) → v / 2 ^ k % 2 ≡ bit_xor (bit_xor (bit_xor 0 0) (v / 2 ^ k % 2)) (0 / 2 ^ k % 2)
third-alone v k = first_alone v k ∙ ap (λ (x : ℕ). bit_xor x (0 / 2 ^ k % 2)) (ap (λ (x : ℕ). bit_xor x 0) (xor_zero_r (v / 2 ^ k % 2)) ∙ xor_comm (v / 2 ^ k % 2) 0)

held-parts : (p : Parts) (c e : ℕ) (x : Field) → held p c e x ≡ bit_xor (bit_xor (bit_xor (share_of of_before p.before x) (share_of of_own p.own x)) (share_of of_command c x)) (held none 0 e x)
unfolding held
held-parts p c e (parity before k) = first_alone p.before k
held-parts p c e (parity own k) = second-alone p.own k
held-parts p c e (command k) = third-alone c k
held-parts p c e mark = refl
held-parts p c e (fixed b) = refl

module _ (S : Sync) (p : Parts) (c e : ℕ) where
  abbrev parities : ℕ → ℕ
  parities t = bit_xor (share_of of_before p.before (field_at S t)) (share_of of_own p.own (field_at S t))

  parities-lt : (t : ℕ) → parities t < 2
  parities-lt t = xor_lt 1 _ _ (share-lt of_before p.before (field_at S t)) (share-lt of_own p.own (field_at S t))

  abbrev shares : ℕ → ℕ
  shares t = bit_xor (parities t) (share_of of_command c (field_at S t))

  pub word-parts : sync_word S p c e ≡ bit_xor (bit_xor (bit_xor (share S of_before p.before) (share S of_own p.own)) (share S of_command c)) (sync_word S none 0 e)
  unfolding word_by share
  word-parts =
      number-ext (λ t. held p c e (field_at S t)) (λ t. bit_xor (shares t) (held none 0 e (field_at S t))) 0 0 32 (λ t h. held-parts p c e (field_at S (0 + t)))
      ∙ number-xor shares (λ t. held none 0 e (field_at S t)) (λ t. xor_lt 1 _ _ (parities-lt t) (share-lt of_command c (field_at S t))) (λ t. held-lt none 0 e (field_at S t)) 0 32
      ∙ ap (λ (x : ℕ). bit_xor x (sync_word S none 0 e))
      (number-xor parities (λ t. share_of of_command c (field_at S t)) parities-lt (λ t. share-lt of_command c (field_at S t)) 0 32
      ∙ ap (λ (x : ℕ). bit_xor x (share S of_command c))
      (number-xor (λ t. share_of of_before p.before (field_at S t)) (λ t. share_of of_own p.own (field_at S t)) (λ t. share-lt of_before p.before (field_at S t)) (λ t. share-lt of_own p.own (field_at S t)) 0 32))

-- ---- what is read is additive too

pub read-xor : (S : Sync) (f : ℕ → Field) (w : ℕ) → Additive (λ (v : ℕ). read_by (layout S) f w (digit 32 v))
unfolding read_by
read-xor S f w =
    let at : ℕ → ℕ = λ j. place S (f (w - 1 - j)) in
    numbered (λ v j. digit 32 v (at j)) (λ v j. digit_lt 32 v (at j)) (λ j. digit-xor 32 (at j)) 0 w

-- ---- the code's shifts and masks

-- some bits of a parity or command, and how far up they stand in the sync word
pub data Move : Type 0 where
  move : ℕ → ℕ → Move

abbrev pub crc12_moves : List Move
crc12_moves = move 0xE00 20 ∷ move 0x1C0 19 ∷ move 0x38 18 ∷ move 0x7 17 ∷ []

abbrev pub command_moves : List Move
command_moves = move 0x70 9 ∷ move 0x8 8 ∷ move 0x7 5 ∷ []

abbrev pub fec_moves : List Move
fec_moves = move 0x3FFFFF0 6 ∷ move 0xF 5 ∷ []

abbrev pub last_moves : List Move
last_moves = move 0x7 29 ∷ []

abbrev pub own_moves : List Move
own_moves = move 0x1C0 15 ∷ move 0x38 10 ∷ move 0x7 5 ∷ []

abbrev pub crc3_command_moves : List Move
crc3_command_moves = move 0x70 21 ∷ move 0xE 16 ∷ move 0x1 11 ∷ []

abbrev pub alone_moves : List Move
alone_moves =
    move 0x70000 13 ∷ move 0xE000 12 ∷ move 0x1C00 11 ∷ move 0x380 10 ∷ move 0x70 9 ∷ move 0x8 8 ∷ move 0x7 5 ∷ []

-- up into the word, and down from it
abbrev pub up : Move → ℕ → ℕ
up (move mask k) v = bit_and v mask * 2 ^ k % 2 ^ 32

abbrev pub down : Move → ℕ → ℕ
down (move mask k) v = bit_and (v / 2 ^ k) mask

up-xor : (m : Move) → Additive (up m)
up-xor (move mask k) = after (λ (a : ℕ). a * 2 ^ k % 2 ^ 32) (λ (a : ℕ). bit_and a mask) (shift-left k 32) (masked mask)

down-xor : (m : Move) → Additive (down m)
down-xor (move mask k) = after (λ (a : ℕ). bit_and a mask) (λ (a : ℕ). a / 2 ^ k) (masked mask) (shift-right k)

-- all of them, joined from the left as the code does
abbrev pub joined_to : (Move → ℕ → ℕ) → (ℕ → ℕ) → List Move → ℕ → ℕ
joined_to way F [] = F
joined_to way F (m ∷ l) = joined_to way (λ (v : ℕ). bit_xor (F v) (way m v)) l

abbrev pub joined : (Move → ℕ → ℕ) → List Move → ℕ → ℕ
joined way [] = λ (v : ℕ). 0
joined way (m ∷ l) = joined_to way (way m) l

module _ (way : Move → ℕ → ℕ) (way-xor : (m : Move) → Additive (way m)) where
  joined_to-xor : (F : ℕ → ℕ) → Additive F → (l : List Move) → Additive (joined_to way F l)
  joined_to-xor F f [] = f
  joined_to-xor F f (m ∷ l) = joined_to-xor (λ (v : ℕ). bit_xor (F v) (way m v)) (both F (way m) f (way-xor m)) l

  joined-xor : (l : List Move) → Additive (joined way l)
  joined-xor [] = λ a b. refl
  joined-xor (m ∷ l) = joined_to-xor (way m) (way-xor m) l

-- each share is what some moves make, by a test at each single bit
abbrev Up : Sync → Share → List Move → Type 0
Up S x moves = (v : ℕ) → v < 2 ^ 32 → joined up moves v ≡ share S x v

by-up : (S : Sync) (x : Share) (moves : List Move) → T (every (λ i. eqb (joined up moves (2 ^ i)) (share S x (2 ^ i))) 32) → Up S x moves
by-up S x moves = agree-test (joined up moves) (share S x) (joined-xor up up-xor moves) (share-xor S x) 32

-- and nothing, where no field holds a bit of the number
none-up : (S : Sync) (x : Share) → T (every (λ t. not (is_of x (field_at S t))) 32) → Up S x []
unfolding share
none-up S x test v h =
    sym (number-ext (λ t. share_of x v (field_at S t)) (λ t. 0) 0 0 32 (λ t l.
    by (is_of x (field_at S (0 + t))) (v / 2 ^ bit_of_field (field_at S (0 + t)) % 2) (every-at (λ t. not (is_of x (field_at S t))) 32 test (0 + t) (omega arith)))
    ∙ number-zeros (λ t. 0) (λ t. refl) 0 32)
  where
    by : (b : Bool) (bit : ℕ) → T (not b) → pick b bit 0 ≡ 0
    by true bit absent = absurd absent
    by false bit absent = refl

crc12-up : Up Crc12 of_before crc12_moves
unfolding every share number
crc12-up = by-up Crc12 of_before crc12_moves tt

crc12-own-up : Up Crc12 of_own []
unfolding every
crc12-own-up = none-up Crc12 of_own tt

command-up : Up Crc12 of_command command_moves
unfolding every share number
command-up = by-up Crc12 of_command command_moves tt

fec-up : Up Fec of_before fec_moves
unfolding every share number
fec-up = by-up Fec of_before fec_moves tt

fec-own-up : Up Fec of_own []
unfolding every
fec-own-up = none-up Fec of_own tt

fec-command-up : Up Fec of_command []
unfolding every
fec-command-up = none-up Fec of_command tt

last_up : Up Crc3 of_before last_moves
unfolding every share number
last_up = by-up Crc3 of_before last_moves tt

own-up : Up Crc3 of_own own_moves
unfolding every share number
own-up = by-up Crc3 of_own own_moves tt

crc3-command-up : Up Crc3 of_command crc3_command_moves
unfolding every share number
crc3-command-up = by-up Crc3 of_command crc3_command_moves tt

alone-before-up : Up Command of_before []
unfolding every
alone-before-up = none-up Command of_before tt

alone-own-up : Up Command of_own []
unfolding every
alone-own-up = none-up Command of_own tt

alone-up : Up Command of_command alone_moves
unfolding every share number
alone-up = by-up Command of_command alone_moves tt

-- and so is each field that is read
abbrev Down : Sync → (ℕ → Field) → ℕ → List Move → Type 0
Down S f w moves = (v : ℕ) → v < 2 ^ 32 → joined down moves v ≡ read_by (layout S) f w (digit 32 v)

by_down : (S : Sync) (f : ℕ → Field) (w : ℕ) (moves : List Move) → T (every (λ i. eqb (joined down moves (2 ^ i)) (read_by (layout S) f w (digit 32 (2 ^ i)))) 32) → Down S f w moves
by_down S f w moves =
    agree-test (joined down moves) (λ (v : ℕ). read_by (layout S) f w (digit 32 v)) (joined-xor down down-xor moves) (read-xor S f w) 32

pub crc12-down : Down Crc12 (parity before) 12 crc12_moves
unfolding every read_by number digit position key
crc12-down = by_down Crc12 (parity before) 12 crc12_moves tt

pub command-down : Down Crc12 command 7 command_moves
unfolding every read_by number digit position key
command-down = by_down Crc12 command 7 command_moves tt

pub fec-down : Down Fec (parity before) 26 fec_moves
unfolding every read_by number digit position key
fec-down = by_down Fec (parity before) 26 fec_moves tt

pub last-down : Down Crc3 (parity before) 3 last_moves
unfolding every read_by number digit position key
last-down = by_down Crc3 (parity before) 3 last_moves tt

pub own-down : Down Crc3 (parity own) 9 own_moves
unfolding every read_by number digit position key
own-down = by_down Crc3 (parity own) 9 own_moves tt

pub crc3-command-down : Down Crc3 command 7 crc3_command_moves
unfolding every read_by number digit position key
crc3-command-down = by_down Crc3 command 7 crc3_command_moves tt

pub alone-down : Down Command command 19 alone_moves
unfolding every read_by number digit position key
alone-down = by_down Command command 19 alone_moves tt

-- ---- whole words

-- the end mark, moved up to position 22, and the fixed bits
abbrev pub rest : ℕ → Bool → ℕ
rest ones b = bit_xor (bool_byte b * 2 ^ 9 % 2 ^ 32) ones

piloted-rest : (b : Bool) → (rest 0x11111501 b ≡ sync_word Crc12 none 0 (bit_of b)) × (rest 0x11111501 b ≡ sync_word Crc3 none 0 (bit_of b)) × (rest 0x11111501 b ≡ sync_word Command none 0 (bit_of b))
unfolding word_by number held
piloted-rest true = (refl, refl, refl)
piloted-rest false = (refl, refl, refl)

fec-rest : (b : Bool) → rest 1 b ≡ sync_word Fec none 0 (bit_of b)
unfolding word_by number held
fec-rest true = refl
fec-rest false = refl

module _ (p : Parts) (c : ℕ) (hp : p.before < 2 ^ 32) (ho : p.own < 2 ^ 32) (hc : c < 2 ^ 32) (b : Bool) where
  -- from the moves of each number
  of-moves : (S : Sync) (last others order : List Move) (ones : ℕ) → Up S of_before last → Up S of_own others → Up S of_command order → rest ones b ≡ sync_word S none 0 (bit_of b)
      → bit_xor (bit_xor (bit_xor (joined up last p.before) (joined up others p.own)) (joined up order c)) (rest ones b) ≡ sync_word S p c (bit_of b)
  of-moves S last others order ones ub uo uc e =
      ap₂ bit_xor (ap₂ bit_xor (ap₂ bit_xor (ub p.before hp) (uo p.own ho)) (uc c hc)) e ∙ sym (word-parts S p c (bit_of b))

  pub crc12-word : bit_xor (bit_xor (joined up crc12_moves p.before) (joined up command_moves c)) (rest 0x11111501 b) ≡ sync_word Crc12 p c (bit_of b)
  crc12-word =
      ap (λ (x : ℕ). bit_xor (bit_xor x (joined up command_moves c)) (rest 0x11111501 b)) (sym (xor_zero_r (joined up crc12_moves p.before)))
      ∙ of-moves Crc12 crc12_moves [] command_moves 0x11111501 crc12-up crc12-own-up command-up (piloted-rest b).0

  pub fec-word : bit_xor (joined up fec_moves p.before) (rest 1 b) ≡ sync_word Fec p c (bit_of b)
  fec-word =
      let x = joined up fec_moves p.before in
      ap (λ (y : ℕ). bit_xor y (rest 1 b)) (sym (ap (λ (y : ℕ). bit_xor y 0) (xor_zero_r x) ∙ xor_zero_r x))
      ∙ of-moves Fec fec_moves [] [] 1 fec-up fec-own-up fec-command-up (fec-rest b)

  pub crc3-word : bit_xor (bit_xor (bit_xor (joined up last_moves p.before) (joined up own_moves p.own)) (joined up crc3_command_moves c)) (rest 0x11111501 b) ≡ sync_word Crc3 p c (bit_of b)
  crc3-word = of-moves Crc3 last_moves own_moves crc3_command_moves 0x11111501 last_up own-up crc3-command-up (piloted-rest b).1

  pub command-word : bit_xor (joined up alone_moves c) (rest 0x11111501 b) ≡ sync_word Command p c (bit_of b)
  command-word =
      ap (λ (x : ℕ). bit_xor x (rest 0x11111501 b)) (sym (xor_zero_l (joined up alone_moves c)))
      ∙ of-moves Command [] [] alone_moves 0x11111501 alone-before-up alone-own-up alone-up (piloted-rest b).2
