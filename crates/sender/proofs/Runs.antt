-- Laws of a run over multiblocks: it may be cut anywhere, and each multiblock fills its own octets.
-- Document 01, "From octets to lane bits". Assumes nothing.
use mathlib.Core.Path.{◌≡◌, refl, sym, ap, ap₂, ◌∙◌}
use mathlib.Core.List.{List, [], ◌∷◌, ◌++◌, append_assoc, append-nil}
use Prim.Native.Nat.{ℕ, suc, ◌+◌, ◌*◌, ◌≤◌}
use native.Mathlib.Nat.{mul-suc, add_comm}
use native.Mathlib.Omega.{arith}
use lib.ListN.{length, take, drop, length-append, length-drop}
use lib.Seq.{drop-drop, drop_at, take-append-le, drop-append-le}
use Rattle.bits.specs.Choice.{bit_of}
use Rattle.scrambler.specs.Scrambling.{scrambled}
use Rattle.frame.specs.declared.modes.Row.{Row}
use Rattle.frame.specs.declared.sync.Parts.{Parts}
use Rattle.frame.specs.Lane.{lane_octets}
use Rattle.frame.specs.SyncWord.{sync_word}
use Rattle.frame.proofs.Sizes.{length-multiblock}
use Rattle.sender.specs.declared.Sender.{Sender}
use Rattle.sender.specs.Lane.{last, parts_sent, sent_one, after_one, lane, after}

module _ (R : Row) (E : ℕ) where
  -- ---- more commands, and the user octets that are left for them

  further : (user : List ℕ) (n : ℕ) → drop (256 * n) (drop 256 user) ≡ drop (256 * suc n) user
  further user n = drop-drop (256 * n) 256 user ∙ ap (λ (x : ℕ). drop x user) {x = 256 + 256 * n} {y = 256 * suc n} (omega arith)

  pub after_more : (s : Sender) (user c d : List ℕ) → after R E s user (c ++ d) ≡ after R E (after R E s user c) (drop (256 * length c) user) d
  unfolding after
  after_more s user [] d = refl
  after_more s user (x ∷ c) d =
      after_more (after_one R E s (take 256 user)) (drop 256 user) c d
      ∙ ap (λ (l : List ℕ). after R E (after R E (after_one R E s (take 256 user)) (drop 256 user) c) l d) (further user (length c))

  pub lane-more : (s : Sender) (user c d : List ℕ) → lane R E s user (c ++ d) ≡ lane R E s user c ++ lane R E (after R E s user c) (drop (256 * length c) user) d
  unfolding lane after
  lane-more s user [] d = refl
  lane-more s user (x ∷ c) d =
      let first = sent_one R E s (take 256 user) x in
      let next = after_one R E s (take 256 user) in
      let rest = drop 256 user in
      ap (λ (l : List ℕ). first ++ l)
      (lane-more next rest c d ∙ ap (λ (l : List ℕ). lane R E next rest c ++ lane R E (after R E next rest c) l d) (further user (length c)))
      ∙ sym (append_assoc first (lane R E next rest c) (lane R E (after R E next rest c) (drop (256 * suc (length c)) user) d))

  -- one command more
  pub after_one_lem : (s : Sender) (user c : List ℕ) (x : ℕ) → after R E s user (c ++ (x ∷ [])) ≡ after_one R E (after R E s user c) (take 256 (drop (256 * length c) user))
  after_one_lem s user c x = after_more s user c (x ∷ []) ∙ unfold after in refl

  pub lane-one : (s : Sender) (user c : List ℕ) (x : ℕ)
      → lane R E s user (c ++ (x ∷ [])) ≡ lane R E s user c ++ sent_one R E (after R E s user c) (take 256 (drop (256 * length c) user)) x
  lane-one s user c x =
      lane-more s user c (x ∷ [])
      ∙ ap (λ (l : List ℕ). lane R E s user c ++ l) (unfold lane in append-nil (sent_one R E (after R E s user c) (take 256 (drop (256 * length c) user)) x))

  -- ---- user octets past those of the commands are not read

  left : (u : List ℕ) (n : ℕ) → 256 * suc n ≤ length u → 256 * n ≤ length (drop 256 u)
  left u n h = omega (arith, length-drop 256 u)

  after-reads : (s : Sender) (u v c : List ℕ) → 256 * length c ≤ length u → after R E s (u ++ v) c ≡ after R E s u c
  unfolding after
  after-reads s u v [] h = refl
  after-reads s u v (x ∷ c) h =
      ap₂ (λ (a b : List ℕ). after R E (after_one R E s a) b c) (take-append-le 256 u v (omega arith)) (drop-append-le 256 u v (omega arith))
      ∙ after-reads (after_one R E s (take 256 u)) (drop 256 u) v c (left u (length c) h)

  lane-reads : (s : Sender) (u v c : List ℕ) → 256 * length c ≤ length u → lane R E s (u ++ v) c ≡ lane R E s u c
  unfolding lane
  lane-reads s u v [] h = refl
  lane-reads s u v (x ∷ c) h =
      ap₂ (λ (a b : List ℕ). sent_one R E s a x ++ lane R E (after_one R E s a) b c) (take-append-le 256 u v (omega arith)) (drop-append-le 256 u v (omega arith))
      ∙ ap (λ (l : List ℕ). sent_one R E s (take 256 u) x ++ l) (lane-reads (after_one R E s (take 256 u)) (drop 256 u) v c (left u (length c) h))

  -- ---- a run over two inputs is a run over the first, and then one over the second from the state that it left

  module _ (s : Sender) (u v c d : List ℕ) (whole : length u ≡ 256 * length c) where
    pub after-join : after R E s (u ++ v) (c ++ d) ≡ after R E (after R E s u c) v d
    after-join =
        after_more s (u ++ v) c d
        ∙ ap₂ (λ (x : Sender) (l : List ℕ). after R E x l d) (after-reads s u v c (omega arith)) (drop_at u v (256 * length c) whole)

    pub lane-join : lane R E s (u ++ v) (c ++ d) ≡ lane R E s u c ++ lane R E (after R E s u c) v d
    lane-join =
        lane-more s (u ++ v) c d
        ∙ ap₂ ◌++◌ (lane-reads s u v c (omega arith)) (ap₂ (λ (x : Sender) (l : List ℕ). lane R E x l d) (after-reads s u v c (omega arith)) (drop_at u v (256 * length c) whole))

  -- ---- how long a lane is

  pub one-length : (s : Sender) (user : List ℕ) (c : ℕ) → length (sent_one R E s user c) ≡ lane_octets R.gap
  unfolding sent_one
  one-length s user c =
      let parts : Parts = record { before = s.parity; own = (parts_sent R s user).own } in
      length-multiblock R.gap s.fill (sync_word R.sync parts c (bit_of (last E s))) (scrambled user s.history 256)

  pub lane-length : (s : Sender) (user commands : List ℕ) → length (lane R E s user commands) ≡ lane_octets R.gap * length commands
  unfolding lane
  lane-length s user [] = omega arith
  lane-length s user (c ∷ commands) =
      let first = sent_one R E s (take 256 user) c in
      let next = after_one R E s (take 256 user) in
      length-append first (lane R E next (drop 256 user) commands)
      ∙ ap₂ ◌+◌ (one-length s (take 256 user) c) (lane-length next (drop 256 user) commands)
      ∙ add_comm (lane_octets R.gap) (lane_octets R.gap * length commands)
      ∙ sym (mul-suc (lane_octets R.gap) (length commands))
