-- Laws of scrambling, over streams: each sent bit is the user's and the bits sent 39 and 58 before, descrambling undoes it, and only the 58
-- latest bits count. Clause 7.2.4; document 01, "From octets to lane bits". Assumes nothing.
use mathlib.Core.Path.{◌≡◌, refl, sym, ap, ap₂, ◌∙◌, subst}
use mathlib.Core.List.{List}
use mathlib.Core.Logic.{◌⊎◌, inl, inr}
use Prim.Native.Nat.{ℕ, zero, suc, ◌+◌, ◌-◌, ◌*◌, ◌/◌, ◌%◌, ◌^◌, ◌≤◌, ◌<◌}
use native.Mathlib.Nat.{zero-lt-suc, div-one, mod-lt, mod-one, mod-eq_of_lt, zero-add, add-zero, add-suc, suc-add}
use native.Mathlib.Numerals.{one-add, add-one}
use native.Mathlib.Decide.{dec_le}
use native.Mathlib.Omega.{arith}
use lib.Dec.{leb, le→leb, leb→le, not_T}
use lib.ListN.{length, get_or}
use lib.Pow.{pow_pos, shr-shr, high, low, mod-mod-pow, mod-pow-add}
use lib.Bits.{bit_xor, xor_lt, xor_self, xor_zero_r}
use Rattle.bits.specs.Order.{bit_at, number, octets_of, word_bit, words_of, octets_in, laid}
use Rattle.bits.proofs.Xor.{xor_assoc}
use Rattle.bits.proofs.Numbers.{low_digit, bit_at_lt, number-none, number_more, number_lt, number-ext, number-octet}
use Rattle.bits.proofs.Octets.{length-octets_of, get_or-octets_of, bit-octets_of, octets_of-ext}
use Rattle.bits.proofs.Laid.{laid-all}
use Rattle.bits.proofs.WordLists.{length-words_of, bit-words_of, octets_in-words_of}
use Rattle.bits.proofs.Choice.{pick_true, pick-false}
use Rattle.scrambler.specs.Scrambling.{sent_bit, all_sent, sent, history_after, earlier, plain, scrambled, descrambled}

-- ---- the bit d places before

pub earlier-in : (history : ℕ) (stream : ℕ → ℕ) (k d : ℕ) → d ≤ k → earlier history stream k d ≡ stream (k - d)
unfolding earlier
earlier-in history stream k d l = pick_true (leb d k) _ _ (le→leb d k l)

pub earlier-out : (history : ℕ) (stream : ℕ → ℕ) (k d : ℕ) → k < d → earlier history stream k d ≡ history / 2 ^ (d - k - 1) % 2
unfolding earlier
earlier-out history stream k d l = pick-false (leb d k) _ _ (not_T (leb d k) (λ t. let q = leb→le d k t in omega arith))

-- where the latest bits agree, so does each of them
same_bit : (x y w j : ℕ) → j < w → x % 2 ^ w ≡ y % 2 ^ w → x / 2 ^ j % 2 ≡ y / 2 ^ j % 2
same_bit x y w j h e = sym (low_digit x w j h) ∙ ap (λ (z : ℕ). z / 2 ^ j % 2) e ∙ low_digit y w j h

-- only the 58 latest bits of a history count
module _ (history other : ℕ) (stream : ℕ → ℕ) (k : ℕ) where
  earlier-recent : (d : ℕ) → d ≤ 58 → history % 2 ^ 58 ≡ other % 2 ^ 58 → earlier history stream k d ≡ earlier other stream k d
  earlier-recent d l e = go (dec_le d k)
    where
      go : Dec (d ≤ k) → earlier history stream k d ≡ earlier other stream k d
      go (yes q) = earlier-in history stream k d q ∙ sym (earlier-in other stream k d q)
      go (no q) = earlier-out history stream k d (omega arith) ∙ same_bit history other 58 (d - k - 1) (omega arith) e ∙ sym (earlier-out other stream k d (omega arith))

  same-recent : history % 2 ^ 58 ≡ other % 2 ^ 58 → plain history stream k ≡ plain other stream k
  unfolding plain
  same-recent e = ap (bit_xor (stream k)) (ap₂ bit_xor (earlier-recent 39 (omega arith) e) (earlier-recent 58 (omega arith) e))

  -- from the 59th bit on the history does not count
  pub late : 58 ≤ k → plain history stream k ≡ plain other stream k
  unfolding plain
  late l = ap (bit_xor (stream k)) (ap₂ bit_xor (same 39 (omega arith)) (same 58 (omega arith)))
    where
      same : (d : ℕ) → d ≤ 58 → earlier history stream k d ≡ earlier other stream k d
      same d q = earlier-in history stream k d (omega arith) ∙ sym (earlier-in other stream k d (omega arith))

pub recent-plain : (history : ℕ) (stream : ℕ → ℕ) (k : ℕ) → plain (history % 2 ^ 58) stream k ≡ plain history stream k
recent-plain history stream k = same-recent (history % 2 ^ 58) history stream k (mod-mod-pow history 0 58)

-- no bit later than k counts for bit k
pub plain-ext : (history : ℕ) (f g : ℕ → ℕ) (k : ℕ) → ((j : ℕ) → j ≤ k → f j ≡ g j) → plain history f k ≡ plain history g k
unfolding plain
plain-ext history f g k e = ap₂ bit_xor (e k (omega arith)) (ap₂ bit_xor (same 39) (same 58))
  where
    same : (d : ℕ) → earlier history f k d ≡ earlier history g k d
    same d = go (dec_le d k)
      where
        go : Dec (d ≤ k) → earlier history f k d ≡ earlier history g k d
        go (yes q) = earlier-in history f k d q ∙ e (k - d) (omega arith) ∙ sym (earlier-in history g k d q)
        go (no q) = earlier-out history f k d (omega arith) ∙ sym (earlier-out history g k d (omega arith))

-- ---- one bit

bit-lt : (user history : ℕ) → user < 2 → sent_bit user history < 2
unfolding sent_bit
bit-lt user history h = xor_lt 1 user _ h (xor_lt 1 _ _ (mod-lt (history / 2 ^ 38) (zero-lt-suc 1)) (mod-lt (history / 2 ^ 57) (zero-lt-suc 1)))

recent-bit : (user history other : ℕ) → history % 2 ^ 58 ≡ other % 2 ^ 58 → sent_bit user history ≡ sent_bit user other
unfolding sent_bit
recent-bit user history other e = ap (bit_xor user) (ap₂ bit_xor (same_bit history other 58 38 (omega arith) e) (same_bit history other 58 57 (omega arith) e))

-- ---- all bits that came, as a number

-- a history, and then the first n bits of a stream
unfoldable pub all_come : ℕ → (ℕ → ℕ) → ℕ → ℕ
all_come history stream zero = history
all_come history stream (suc n) = all_come history stream n * 2 + stream n

module _ (history : ℕ) (stream : ℕ → ℕ) where
  pub come-add : (a b : ℕ) → all_come history stream (a + b) ≡ all_come (all_come history stream a) (λ k. stream (a + k)) b
  unfolding all_come
  come-add a zero = ap (all_come history stream) (add-zero a)
  come-add a (suc b) = ap (all_come history stream) (add-suc a b) ∙ ap (λ (x : ℕ). x * 2 + stream (a + b)) (come-add a b)

  module _ (bits : (k : ℕ) → stream k < 2) where
    half : (k : ℕ) → all_come history stream (suc k) / 2 ≡ all_come history stream k
    unfolding all_come
    half k = high (all_come history stream k) 1 (bits k)

    latest : (k : ℕ) → all_come history stream (suc k) % 2 ≡ stream k
    unfolding all_come
    latest k = low (all_come history stream k) 1 (bits k)

    -- the bits that came later shift those before
    shift : (a q j : ℕ) → all_come history stream (a + q) / 2 ^ (q + j) ≡ all_come history stream a / 2 ^ j
    shift a zero j = ap₂ (λ (x y : ℕ). all_come history stream x / 2 ^ y) (add-zero a) (zero-add j)
    shift a (suc q) j =
        ap₂ (λ (x y : ℕ). all_come history stream x / 2 ^ y) (add-suc a q) (suc-add q j ∙ sym (one-add (q + j)))
        ∙ sym (shr-shr (all_come history stream (suc (a + q))) 1 (q + j))
        ∙ ap (λ (x : ℕ). x / 2 ^ (q + j)) (half (a + q))
        ∙ shift a q j

    -- bit e of the number is the bit e + 1 places before
    come-bit : (k e : ℕ) → all_come history stream k / 2 ^ e % 2 ≡ earlier history stream k (suc e)
    come-bit k e = go (dec_le (suc e) k)
      where
        go : Dec (suc e ≤ k) → all_come history stream k / 2 ^ e % 2 ≡ earlier history stream k (suc e)
        go (yes l) =
            ap₂ (λ (x y : ℕ). all_come history stream x / 2 ^ y % 2) (omega arith) (sym (add-zero e))
            ∙ ap (λ (x : ℕ). x % 2) (shift (suc (k - suc e)) e 0 ∙ div-one (all_come history stream (suc (k - suc e))))
            ∙ latest (k - suc e)
            ∙ sym (earlier-in history stream k (suc e) l)
        go (no l) =
            ap (λ (x : ℕ). all_come history stream x / 2 ^ e % 2) (sym (zero-add k))
            ∙ ap (λ (x : ℕ). all_come history stream (0 + k) / 2 ^ x % 2) {x = e} {y = k + (e - k)} (omega arith)
            ∙ ap (λ (x : ℕ). x % 2) (shift 0 k (e - k))
            ∙ unfold all_come in (ap (λ (x : ℕ). history / 2 ^ x % 2) {x = e - k} {y = suc e - k - 1} (omega arith))
            ∙ sym (earlier-out history stream k (suc e) (omega arith))

    -- its n low bits are the n latest
    pub come-number : (k n : ℕ) → all_come history stream (k + n) % 2 ^ n ≡ number stream k n
    come-number k zero = mod-one (all_come history stream (k + 0)) ∙ number-none stream k
    come-number k (suc n) =
        ap₂ (λ (x y : ℕ). all_come history stream x % 2 ^ y) (add-suc k n) (sym (add-one n))
        ∙ mod-pow-add (all_come history stream (suc (k + n))) n 1
        ∙ ap₂ (λ (x y : ℕ). x % 2 ^ n * 2 + y) (half (k + n)) (latest (k + n))
        ∙ ap (λ (x : ℕ). x * 2 + stream (k + n)) (come-number k n)
        ∙ sym (number_more stream k n)
        ∙ ap (number stream k) (add-one n)

    -- descrambling adds what the sender added
    plain-come : (k : ℕ) → plain history stream k ≡ sent_bit (stream k) (all_come history stream k)
    unfolding plain sent_bit
    plain-come k = ap (bit_xor (stream k)) (sym (ap₂ bit_xor (come-bit k 38) (come-bit k 57)))

    pub plain-lt : (k : ℕ) → plain history stream k < 2
    plain-lt k = rw plain-come (bit-lt (stream k) (all_come history stream k) (bits k))

module _ (history : ℕ) (stream : ℕ → ℕ) (bits : (k : ℕ) → stream k < 2) where
  -- a stream descrambled from place a on, after all that came before
  pub plain-add : (a k : ℕ) → plain history stream (a + k) ≡ plain (all_come history stream a) (λ j. stream (a + j)) k
  plain-add a k =
      plain-come history stream bits (a + k)
      ∙ ap (sent_bit (stream (a + k))) (come-add history stream a k)
      ∙ sym (plain-come (all_come history stream a) (λ j. stream (a + j)) (λ j. bits (a + j)) k)

-- ---- runs of any user's stream

module _ (user : ℕ → ℕ) where
  pub all-sent-add : (history a b : ℕ) → all_sent user history (a + b) ≡ all_sent (λ k. user (a + k)) (all_sent user history a) b
  unfolding all_sent
  all-sent-add history a zero = ap (all_sent user history) (add-zero a)
  all-sent-add history a (suc b) = ap (all_sent user history) (add-suc a b) ∙ ap (λ (x : ℕ). x * 2 + sent_bit (user (a + b)) x) (all-sent-add history a b)

  -- all that was sent is what came
  sent-come : (history n : ℕ) → all_sent user history n ≡ all_come history (sent user history) n
  unfolding all_sent all_come sent
  sent-come history zero = refl
  sent-come history (suc n) = ap (λ (x : ℕ). x * 2 + sent_bit (user n) (all_sent user history n)) (sent-come history n)

  same-history : (history other n : ℕ) → history % 2 ^ 58 ≡ other % 2 ^ 58 → all_sent user history n % 2 ^ 58 ≡ all_sent user other n % 2 ^ 58
  unfolding all_sent
  same-history history other zero e = e
  same-history history other (suc n) e =
      let i = same-history history other n e in
      let s = recent-bit (user n) (all_sent user history n) (all_sent user other n) i in
      omega arith

  same_sent : (history other k : ℕ) → history % 2 ^ 58 ≡ other % 2 ^ 58 → sent user history k ≡ sent user other k
  unfolding sent
  same_sent history other k e = recent-bit (user k) (all_sent user history k) (all_sent user other k) (same-history history other k e)

  pub recent-sent : (history k : ℕ) → sent user (history % 2 ^ 58) k ≡ sent user history k
  recent-sent history k = same_sent (history % 2 ^ 58) history k (mod-mod-pow history 0 58)

  pub history-lt : (history n : ℕ) → history_after user history n < 2 ^ 58
  unfolding history_after
  history-lt history n = mod-lt (all_sent user history n) (pow_pos 58)

-- bits sent after others, and the history that they leave
module _ (user : ℕ → ℕ) (history a : ℕ) where
  pub history-add : (b : ℕ) → history_after (λ k. user (a + k)) (history_after user history a) b ≡ history_after user history (a + b)
  unfolding history_after
  history-add b =
      same-history (λ k. user (a + k)) (all_sent user history a % 2 ^ 58) (all_sent user history a) b (mod-mod-pow (all_sent user history a) 0 58)
      ∙ sym (ap (λ (x : ℕ). x % 2 ^ 58) (all-sent-add user history a b))

  pub sent-add : (k : ℕ) → sent user history (a + k) ≡ sent (λ j. user (a + j)) (history_after user history a) k
  unfolding history_after sent
  sent-add k =
      ap (sent_bit (user (a + k))) (all-sent-add user history a k)
      ∙ sym (recent-sent (λ j. user (a + j)) (all_sent user history a) k)

-- no later bit of the user's counts for bit k
all-sent-ext : (f g : ℕ → ℕ) (history n : ℕ) → ((j : ℕ) → j < n → f j ≡ g j) → all_sent f history n ≡ all_sent g history n
unfolding all_sent
all-sent-ext f g history zero e = refl
all-sent-ext f g history (suc n) e = ap₂ (λ (x y : ℕ). x * 2 + sent_bit y x) (all-sent-ext f g history n (λ j q. e j (omega arith))) (e n (omega arith))

pub history-ext : (f g : ℕ → ℕ) (history n : ℕ) → ((j : ℕ) → j < n → f j ≡ g j) → history_after f history n ≡ history_after g history n
unfolding history_after
history-ext f g history n e = ap (λ (x : ℕ). x % 2 ^ 58) (all-sent-ext f g history n e)

pub history-none : (user : ℕ → ℕ) (history : ℕ) → history < 2 ^ 58 → history_after user history 0 ≡ history
unfolding history_after all_sent
history-none user history h = mod-eq_of_lt h

pub sent-ext : (f g : ℕ → ℕ) (history k : ℕ) → ((j : ℕ) → j ≤ k → f j ≡ g j) → sent f history k ≡ sent g history k
unfolding sent
sent-ext f g history k e = ap₂ sent_bit (e k (omega arith)) (all-sent-ext f g history k (λ j q. e j (omega arith)))

-- ---- the rule

module _ (user : ℕ → ℕ) (bits : (k : ℕ) → user k < 2) (history : ℕ) where
  pub sent-lt : (k : ℕ) → sent user history k < 2
  unfolding sent
  sent-lt k = bit-lt (user k) (all_sent user history k) (bits k)

  -- each bit sent is the user's, plus the bit sent 39 before, plus the bit sent 58 before
  pub bit-rule : (k : ℕ) → sent user history k ≡ bit_xor (user k) (bit_xor (earlier history (sent user history) k 39) (earlier history (sent user history) k 58))
  bit-rule k =
      unfold sent sent_bit in refl
      ∙ ap (bit_xor (user k)) (ap₂ bit_xor (before 38) (before 57))
    where
      before : (e : ℕ) → all_sent user history k / 2 ^ e % 2 ≡ earlier history (sent user history) k (suc e)
      before e = ap (λ (x : ℕ). x / 2 ^ e % 2) (sent-come user history k) ∙ come-bit history (sent user history) sent-lt k e

  pub undone : (k : ℕ) → plain history (sent user history) k ≡ user k
  undone k =
      let taps = bit_xor (earlier history (sent user history) k 39) (earlier history (sent user history) k 58) in
      unfold plain in refl
      ∙ ap (λ (x : ℕ). bit_xor x taps) (bit-rule k)
      ∙ xor_assoc (user k) taps taps ∙ ap (bit_xor (user k)) (xor_self taps) ∙ xor_zero_r (user k)

  -- the latest n bits of all that were sent
  pub sent-number : (k n : ℕ) → all_sent user history (k + n) % 2 ^ n ≡ number (sent user history) k n
  sent-number k n = ap (λ (x : ℕ). x % 2 ^ n) (sent-come user history (k + n)) ∙ come-number history (sent user history) sent-lt k n

  pub history-sent : (n : ℕ) → 58 ≤ n → history_after user history n ≡ number (sent user history) (n - 58) 58
  unfolding history_after
  history-sent n h = ap (λ (x : ℕ). all_sent user history x % 2 ^ 58) {x = n} {y = n - 58 + 58} (omega arith) ∙ sent-number (n - 58) 58

-- a run of n sent bits from place a on, after a history that is right in its 58 latest bits, or that is not asked
module _ (user : ℕ → ℕ) (bits : (k : ℕ) → user k < 2) (history a n : ℕ) (stream : ℕ → ℕ) (same : (q : ℕ) → q < n → stream q ≡ sent user history (a + q)) where
  right : (q : ℕ) → q < n → plain (history_after user history a) stream q ≡ user (a + q)
  right q l =
      plain-ext (history_after user history a) stream (sent (λ j. user (a + j)) (history_after user history a)) q (λ j m. same j (omega arith) ∙ sent-add user history a j)
      ∙ undone (λ j. user (a + j)) (λ j. bits (a + j)) (history_after user history a) q

  pub undone-from : (given q : ℕ) → q < n → (58 ≤ q) ⊎ (given % 2 ^ 58 ≡ history_after user history a) → plain given stream q ≡ user (a + q)
  undone-from given q l (inl m) = late given (history_after user history a) stream q m ∙ right q l
  undone-from given q l (inr e) = sym (recent-plain given stream q) ∙ ap (λ (x : ℕ). plain x stream q) e ∙ right q l

-- ---- octets

pub length-scrambled : (octets : List ℕ) (history n : ℕ) → length (scrambled octets history n) ≡ n
unfolding scrambled
length-scrambled octets history n = length-octets_of (sent (bit_at octets) history) n

pub length-descrambled : (octets : List ℕ) (history n : ℕ) → length (descrambled octets history n) ≡ n
unfolding descrambled
length-descrambled octets history n = length-octets_of (plain history (bit_at octets)) n

-- the bits of scrambled octets are those sent
pub scrambled-bit : (octets : List ℕ) (history n k : ℕ) → k < 8 * n → bit_at (scrambled octets history n) k ≡ sent (bit_at octets) history k
unfolding scrambled
scrambled-bit octets history n k h = bit-octets_of (sent (bit_at octets) history) (sent-lt (bit_at octets) (bit_at_lt octets) history) n k h

pub scrambled-lt : (octets : List ℕ) (history n j : ℕ) → j < n → get_or (scrambled octets history n) j 0 < 256
unfolding scrambled
scrambled-lt octets history n j h =
    subst (λ (x : ℕ). x < 256) (sym (get_or-octets_of (sent (bit_at octets) history) n j h))
    (number_lt (sent (bit_at octets) history) (sent-lt (bit_at octets) (bit_at_lt octets) history) (8 * j) 8)

-- the words sent hold the scrambled octets
pub scrambled-words : (octets : List ℕ) (history n : ℕ) → octets_in (words_of (sent (bit_at octets) history) n) ≡ scrambled octets history (8 * n)
unfolding scrambled
scrambled-words octets history n = octets_in-words_of (sent (bit_at octets) history) (sent-lt (bit_at octets) (bit_at_lt octets) history) n

pub scrambled-blocks : (octets : List ℕ) (history n : ℕ) → octets_of (word_bit (words_of (sent (bit_at octets) history) n)) (8 * n) ≡ scrambled octets history (8 * n)
unfolding scrambled
scrambled-blocks octets history n =
    let stream = sent (bit_at octets) history in
    octets_of-ext (word_bit (words_of stream n)) stream (8 * n) (λ k h. bit-words_of stream (sent-lt (bit_at octets) (bit_at_lt octets) history) n k (omega arith))

-- n words laid over as many are all that is left
pub words-all : (f : ℕ → ℕ) (n i : ℕ) (old : List ℕ) {words : List ℕ} → i ≡ n → length old ≡ n → words ≡ laid (words_of f i) old → words ≡ words_of f n
words-all f n i old e long so_far = so_far ∙ ap (λ (x : ℕ). laid (words_of f x) old) e ∙ laid-all (words_of f n) old (omega (arith, length-words_of f n))

-- octets that carry what was sent of a user's octets from octet a on are descrambled to these: all of them after the right history, and
-- all but the first eight after any
module _ (user : List ℕ) (history a n : ℕ) (octets : List ℕ) (same : (q : ℕ) → q < 8 * n → bit_at octets q ≡ sent (bit_at user) history (8 * a + q)) where
  pub octet-undone : (given j : ℕ) → j < n → (8 ≤ j) ⊎ (given % 2 ^ 58 ≡ history_after (bit_at user) history (8 * a)) → get_or user (a + j) 0 < 256
      → get_or (descrambled octets given n) j 0 ≡ get_or user (a + j) 0
  unfolding descrambled
  octet-undone given j h known octet-lt =
      get_or-octets_of (plain given (bit_at octets)) n j h
      ∙ number-ext (plain given (bit_at octets)) (bit_at user) (8 * j) (8 * (a + j)) 8 bit
      ∙ number-octet user (a + j) octet-lt
    where
      late-or : (k : ℕ) → (8 ≤ j) ⊎ (given % 2 ^ 58 ≡ history_after (bit_at user) history (8 * a)) → (58 ≤ 8 * j + k) ⊎ (given % 2 ^ 58 ≡ history_after (bit_at user) history (8 * a))
      late-or k (inl l) = inl (omega arith)
      late-or k (inr e) = inr e

      bit : (k : ℕ) → k < 8 → plain given (bit_at octets) (8 * j + k) ≡ bit_at user (8 * (a + j) + k)
      bit k l =
          undone-from (bit_at user) (bit_at_lt user) history (8 * a) (8 * n) (bit_at octets) same given (8 * j + k) (omega arith) (late-or k known)
          ∙ ap (bit_at user) {x = 8 * a + (8 * j + k)} {y = 8 * (a + j) + k} (omega arith)
