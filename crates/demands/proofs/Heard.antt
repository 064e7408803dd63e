-- Calls of the receiver, one after another, release together what one run over all their lane octets releases: document 01, "What the receiver
-- releases". Assumes nothing.
use mathlib.Core.Path.{◌≡◌, sym, ap, ap₂, ◌∙◌, fun_ext}
use mathlib.Core.List.{List, [], ◌∷◌, ◌++◌}
use Prim.Native.Nat.{ℕ, suc, ◌+◌, ◌*◌, ◌/◌, ◌<◌, ◌≤◌}
use native.Mathlib.Nat.{mul-zero, zero-div, mul-add, mul_assoc, mul-le-mul_left, mul-div_cancel_left}
use native.Mathlib.Omega.{arith}
use lib.ListN.{length, take, drop, length-append}
use lib.Seq.{drop_at}
use Rattle.bits.specs.Order.{bit_at, laid}
use Rattle.bits.proofs.Octets.{bit-drop, bit-append}
use Rattle.bits.proofs.Laid.{taken_back}
use Rattle.frame.specs.declared.modes.Row.{Row}
use Rattle.frame.specs.Modes.{Whose, before, own, parity, command, layout, row, parity_width}
use Rattle.frame.specs.Lane.{lane_octets, header_place, data_place, data_bit, header_at, sync_bit, invalid_headers}
use Rattle.frame.specs.SyncWord.{read_parity, read_parts, flagged_command}
use Rattle.frame.proofs.SyncWord.{Stands, place, all-stand, only-there, only-flagged}
use Rattle.frame.proofs.Lane.{lane_from, same-sync, same-invalid}
use Rattle.frame.proofs.Places.{data_is, header-same}
use Rattle.frame.proofs.Sizes.{octets-some}
use Rattle.receiver.specs.declared.Receiver.{Receiver}
use Rattle.receiver.specs.Release.{Release, Step, run}
use Rattle.receiver.specs.Totals.{totalled}
use Rattle.receiver.specs.Entry.{Done, octets_out, column, laid_out}
use Rattle.receiver.proofs.Cut.{then, same-reading, run-cut}
use Rattle.receiver.proofs.Carried.{run-carries, none-counted, counted-on, same_out}
use Rattle.receiver.proofs.Answers.{all-run, all_whole}
use Rattle.receiver.proofs.Buffers.{column-length}
use Rattle.receiver.proofs.Numbered.{octets-append, column-append, none-many, none_out, none-column, all-full}
use Rattle.demands.specs.Calls.{Receiving, receiving, lane_heard, AllHeard, state_left, count_released, octets_released, list_released}
use Rattle.demands.proofs.Places.{data-inside, header-inside}

-- a list of the answer that begins with a number of each release
abbrev pub Lays : (Done → List ℕ) → (Release → ℕ) → Type 0
Lays list f = (t : Step) (o s c p q i : List ℕ) → (old : List ℕ) × (list (laid_out t o s c p q i) ≡ laid (column f t.out) old)

-- a lane from a multiblock on
bits-from : (gap : ℕ) (lane : List ℕ) (k : ℕ) → bit_at (drop (lane_octets gap * k) lane) ≡ lane_from gap (bit_at lane) k
bits-from gap lane k = fun_ext (λ x. bit-drop (lane_octets gap * k) lane x ∙ ap (bit_at lane) (omega (arith, mul_assoc 8 (lane_octets gap) k)))

module _ (mode : ℕ) where
  abbrev R : Row
  R = row mode

  -- octets of a multiblock
  abbrev L : ℕ
  L = lane_octets R.gap

  -- ---- lane octets behind others change nothing of the multiblocks before

  module _ (a b : List ℕ) (k : ℕ) (long : length a ≡ L * k) where
    same : (x m : ℕ) → m < k → x < 8 * L * suc m → bit_at (a ++ b) x ≡ bit_at a x
    same x m h l =
        let within : 8 * L * suc m ≤ 8 * L * k = mul-le-mul_left (8 * L) h in
        bit-append a b x (omega (arith, long, mul_assoc 8 L k))

    same-header : (m t : ℕ) → m < k → t < 32 → header_at R.gap (bit_at (a ++ b)) m t ≡ header_at R.gap (bit_at a) m t
    same-header m t h l =
        let inside = header-inside R.gap m t l in
        header-same R.gap (bit_at (a ++ b)) (bit_at a) m t (same (header_place R.gap m t) m h (omega arith)) (same (header_place R.gap m t + 1) m h inside)

    prefix : (s : Receiver) → run R (bit_at (a ++ b)) s k ≡ run R (bit_at a) s k
    prefix s = same-reading R (bit_at (a ++ b)) (bit_at a) s k same-data same_parts same-command same_number
      where
        stands : Stands R.sync
        stands = all-stand (row mode).sync

        same-data : (m q : ℕ) → m < k → q < 2048 → data_bit R.gap (bit_at (a ++ b)) m q ≡ data_bit R.gap (bit_at a) m q
        same-data m q h l =
            data_is R.gap (bit_at (a ++ b)) m q ∙ same (data_place R.gap m q) m h (data-inside R.gap m q l) ∙ sym (data_is R.gap (bit_at a) m q)

        same-part : (whose : Whose) (m : ℕ) → m < k → read_parity R.sync whose (sync_bit R.gap (bit_at (a ++ b)) m) ≡ read_parity R.sync whose (sync_bit R.gap (bit_at a) m)
        same-part whose m h =
            only-there (layout R.sync) (parity whose) (parity_width R.sync whose) _ _
            (λ j l. same-sync R.gap (bit_at (a ++ b)) (bit_at a) m (place R.sync (parity whose j)) (same-header m (place R.sync (parity whose j)) h (stands.parities whose j l)))

        same_parts : (m : ℕ) → m < k → read_parts R.sync (sync_bit R.gap (bit_at (a ++ b)) m) ≡ read_parts R.sync (sync_bit R.gap (bit_at a) m)
        same_parts m h = ap₂ (λ (x y : ℕ). record { before = x; own = y }) (same-part before m h) (same-part own m h)

        same-command : (m : ℕ) → m < k → flagged_command R.sync (header_at R.gap (bit_at (a ++ b)) m) ≡ flagged_command R.sync (header_at R.gap (bit_at a) m)
        same-command m h =
            only-flagged R.sync (header_at R.gap (bit_at (a ++ b)) m) (header_at R.gap (bit_at a) m)
            (λ j l. same-header m (place R.sync (command j)) h (stands.commands j l))

        same_number : (m : ℕ) → m < k → invalid_headers R.gap (bit_at (a ++ b)) m ≡ invalid_headers R.gap (bit_at a) m
        same_number m h = same-invalid R.gap (bit_at (a ++ b)) (bit_at a) m (λ t l. same-header m t h l)

    -- a run over both
    both : (s : Receiver) (n : ℕ) → run R (bit_at (a ++ b)) s (k + n) ≡ then (run R (bit_at a) s k) (run R (bit_at b) (run R (bit_at a) s k).state n)
    both s n =
        run-cut R (bit_at (a ++ b)) s k n
        ∙ ap₂ (λ (f : ℕ → ℕ) (x : Step). then x (run R f x.state n))
        (sym (bits-from R.gap (a ++ b) k) ∙ ap bit_at (drop_at a b (L * k) long)) (prefix s)

  -- ---- all calls

  pub record AllRun (s : Receiver) (calls : List Receiving) : Type 0 where
    pub whole : length (lane_heard calls) ≡ L * (length (lane_heard calls) / L)
    pub state : state_left mode s calls ≡ (totalled (run R (bit_at (lane_heard calls)) s (length (lane_heard calls) / L))).state
    pub count : count_released mode s calls ≡ length (run R (bit_at (lane_heard calls)) s (length (lane_heard calls) / L)).out
    pub octets : octets_released mode s calls ≡ octets_out (run R (bit_at (lane_heard calls)) s (length (lane_heard calls) / L)).out
    pub lists : (list : Done → List ℕ) (f : Release → ℕ) → Lays list f
        → list_released mode list s calls ≡ column f (run R (bit_at (lane_heard calls)) s (length (lane_heard calls) / L)).out

  module _ (s : Receiver) (c : Receiving) (z : (receiving mode s c).answer.refusal ≡ 0) where
    k : ℕ
    k = length c.lane / L

    abbrev ran : Step
    ran = run R (bit_at c.lane) s k

    is : receiving mode s c ≡ laid_out (totalled ran) c.octets c.statuses c.commands c.places c.patterns c.invalid
    unfolding k
    is = all-run mode s c.lane c.octets c.statuses c.commands c.places c.patterns c.invalid z

    long : length c.lane ≡ L * k
    unfolding k
    long = all_whole mode s c.lane c.octets c.statuses c.commands c.places c.patterns c.invalid z

    octets-taken : take (256 * (receiving mode s c).answer.count) (receiving mode s c).octets ≡ octets_out ran.out
    octets-taken =
        ap (λ (d : Done). take (256 * d.answer.count) d.octets) is
        ∙ ap (λ (n : ℕ). take n (laid (octets_out ran.out) c.octets)) (sym (all-full R (bit_at c.lane) s k))
        ∙ taken_back (octets_out ran.out) c.octets

    list-taken : (list : Done → List ℕ) (f : Release → ℕ) → Lays list f → take (receiving mode s c).answer.count (list (receiving mode s c)) ≡ column f ran.out
    list-taken list f lays =
        let l = lays (totalled ran) c.octets c.statuses c.commands c.places c.patterns c.invalid in
        ap (λ (d : Done). take d.answer.count (list d)) is
        ∙ ap₂ take (sym (column-length f ran.out)) l.1
        ∙ taken_back (column f ran.out) l.0

    module _ (calls : List Receiving) (rest : AllRun (receiving mode s c).answer.state calls) where
      n : ℕ
      n = length (lane_heard calls) / L

      more : Step
      more = run R (bit_at (lane_heard calls)) ran.state n

      both-whole : length (c.lane ++ lane_heard calls) ≡ L * (k + n)
      unfolding n
      both-whole = length-append c.lane (lane_heard calls) ∙ ap₂ ◌+◌ long rest.whole ∙ sym (mul-add L k n)

      so-many : length (c.lane ++ lane_heard calls) / L ≡ k + n
      so-many = ap (λ (x : ℕ). x / L) both-whole ∙ mul-div_cancel_left (k + n) (octets-some R.gap)

      all-is : run R (bit_at (c.lane ++ lane_heard calls)) s (length (c.lane ++ lane_heard calls) / L) ≡ then ran more
      unfolding more
      all-is = ap (run R (bit_at (c.lane ++ lane_heard calls)) s) so-many ∙ both c.lane (lane_heard calls) k long s n

      out-is : (run R (bit_at (lane_heard calls)) (receiving mode s c).answer.state n).out ≡ more.out
      unfolding more
      out-is = ap (λ (d : Done). (run R (bit_at (lane_heard calls)) d.answer.state n).out) is ∙ same_out (λ x. run R (bit_at (lane_heard calls)) x n) (run-carries R (bit_at (lane_heard calls)) n) ran

      state-is : (totalled (run R (bit_at (lane_heard calls)) (receiving mode s c).answer.state n)).state ≡ (totalled (then ran more)).state
      unfolding more
      state-is =
          ap (λ (d : Done). (totalled (run R (bit_at (lane_heard calls)) d.answer.state n)).state) is
          ∙ counted-on (λ x. run R (bit_at (lane_heard calls)) x n) (run-carries R (bit_at (lane_heard calls)) n) ran

      with_call : AllRun s (c ∷ calls)
      unfolding n
      with_call = record {
        whole = both-whole ∙ ap (λ (x : ℕ). L * x) (sym so-many);
        state = rest.state ∙ state-is ∙ ap (λ (x : Step). (totalled x).state) (sym all-is);
        count =
            ap₂ ◌+◌ (ap (λ (d : Done). d.answer.count) is) (rest.count ∙ ap length out-is)
            ∙ sym (length-append ran.out more.out)
            ∙ ap (λ (x : Step). length x.out) (sym all-is);
        octets =
            ap₂ ◌++◌ octets-taken (rest.octets ∙ ap octets_out out-is)
            ∙ sym (octets-append ran.out more.out)
            ∙ ap (λ (x : Step). octets_out x.out) (sym all-is);
        lists = λ list f lays.
            ap₂ ◌++◌ (list-taken list f lays) (rest.lists list f lays ∙ ap (column f) out-is)
            ∙ sym (column-append f ran.out more.out)
            ∙ ap (λ (x : Step). column f x.out) (sym all-is);
      }

  pub all-calls : (s : Receiver) (calls : List Receiving) → AllHeard mode s calls → AllRun s calls
  all-calls s [] h = record { whole = sym (ap (λ (x : ℕ). L * x) none ∙ mul-zero L); state = state; count = count; octets = octets; lists = λ list f lays. entries f }
    where
      none : 0 / L ≡ 0
      none = zero-div L

      state : s ≡ (totalled (run R (bit_at []) s (0 / L))).state
      state = sym (ap (λ (n : ℕ). (totalled (run R (bit_at []) s n)).state) none ∙ none-counted R (bit_at []) s)

      count : 0 ≡ length (run R (bit_at []) s (0 / L)).out
      count = sym (ap (λ (n : ℕ). length (run R (bit_at []) s n).out) none ∙ none-many R (bit_at []) s)

      octets : [] ≡ octets_out (run R (bit_at []) s (0 / L)).out
      octets = sym (ap (λ (n : ℕ). octets_out (run R (bit_at []) s n).out) none ∙ none_out R (bit_at []) s)

      entries : (f : Release → ℕ) → [] ≡ column f (run R (bit_at []) s (0 / L)).out
      entries f = sym (ap (λ (n : ℕ). column f (run R (bit_at []) s n).out) none ∙ none-column f R (bit_at []) s)
  all-calls s (c ∷ calls) h = with_call s c h.0 calls (all-calls (receiving mode s c).answer.state calls h.1)
