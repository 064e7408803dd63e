-- The answers of the receiver's entry: refused, or a run from the state with one waiting. Document 01, "What the receiver
-- releases" and "Numbers of refusal". Assumes nothing.
use mathlib.Core.Path.{◌≡◌, refl, sym, ap, ap₂, ◌∙◌, subst}
use mathlib.Core.Bool.{Bool, true, false}
use mathlib.Core.List.{List, []}
use Prim.Native.Nat.{ℕ, ◌+◌, ◌-◌, ◌*◌, ◌/◌, ◌≤◌, ◌<◌}
use native.Mathlib.Nat.{mul-zero, mul_comm, mul-add, div-add-mod, div-eq_of_lt, le-div_iff_mul-le}
use native.Mathlib.Omega.{arith}
use borrow.Author.Tests.{ltb-true, ltb-false, eqb-true, eq-eqb, ne_eqb}
use lib.Dec.{ltb, eqb}
use lib.ListN.{length, take, drop, length-drop}
use Rattle.std.specs.Prelude.{Result, Ok, Err, IsErrAnd, ⊤}
use Rattle.answers.specs.declared.Ran.{Ran}
use Rattle.answers.specs.declared.Refusal.{Refusal}
use Rattle.answers.specs.Numbers.{number, refused, Answer, answered}
use Rattle.answers.proofs.Numbers.{number-above}
use Rattle.bits.specs.Choice.{pick}
use Rattle.bits.specs.Order.{bit_at}
use Rattle.frame.specs.declared.modes.Row.{Row}
use Rattle.frame.specs.Modes.{row, most_of_all}
use Rattle.frame.specs.Lane.{lane_octets}
use Rattle.frame.proofs.Lane.{lane_from}
use Rattle.frame.proofs.Rows.{few}
use Rattle.frame.proofs.Sizes.{octets-some}
use Rattle.receiver.specs.declared.Receiver.{Receiver}
use Rattle.receiver.specs.declared.run.Begun.{Begun}
use Rattle.receiver.specs.Release.{Step, waiting_at, run}
use Rattle.receiver.specs.Totals.{totalled}
use Rattle.receiver.specs.Refusal.{releases, refusal_of}
use Rattle.receiver.specs.Entry.{done, laid_out, entry}
use Rattle.receiver.specs.inner.Turn.{begun_by}
use Rattle.receiver.specs.inner.Turn as turn
use Rattle.receiver.proofs.Counts.{step-first}
use Rattle.receiver.proofs.Cut.{then, run-cut, bits-from}
use Rattle.receiver.proofs.Refusals.{Accepted, accepted}
use Rattle.receiver.proofs.Turns.{rest_of}

-- ---- how a call begins

module _ (R : Row) (s : Receiver) (lane : List ℕ) where
  -- octets of a multiblock, and how many multiblocks there are
  abbrev L : ℕ
  L = lane_octets R.gap

  abbrev n : ℕ
  n = length lane / L

  -- from a state with nothing waiting, the first multiblock releases nothing
  begun : (k : ℕ) → s.waiting ≡ false → run R (bit_at lane) s (1 + k) ≡ run R (bit_at (drop (L * 1) lane)) (waiting_at R (bit_at lane) 0 s 0 false) k
  unfolding run
  begun k w =
      let first : run R (bit_at lane) s 1 ≡ record { state = waiting_at R (bit_at lane) 0 s 0 false; out = [] } = step-first R (bit_at lane) 0 s w in
      run-cut R (bit_at lane) s 1 k
      ∙ ap (λ (x : Step). then x (run R (lane_from R.gap (bit_at lane) 1) x.state k)) first
      ∙ ap (λ (f : ℕ → ℕ). run R f (waiting_at R (bit_at lane) 0 s 0 false) k) (sym (bits-from R.gap lane 1))

  -- with one waiting, or by taking the first multiblock, or there is none
  record Begins (b : Begun) : Type 0 where
    within : b.taken ≤ n
    waits : 0 < n - b.taken → b.state.waiting ≡ true
    left : n - b.taken ≡ releases s.waiting n
    same : run R (bit_at lane) s n ≡ run R (bit_at (drop (L * b.taken) lane)) b.state (n - b.taken)

  as_is : (0 < n → s.waiting ≡ true) → n ≡ releases s.waiting n → Begins (record { state = s; taken = 0 })
  as_is w l = record {
    within = omega arith;
    waits = λ some. w (omega arith);
    left = omega (arith, l);
    same = ap₂ (λ (x : ℕ) (y : List ℕ). run R (bit_at y) s x) {x = n} {y = n - 0} (omega arith) (ap (λ (k : ℕ). drop k lane) (sym (mul-zero L)));
  }

  begins : (b : Begun) → b ≡ begun_by R s lane → Begins b
  unfolding begun_by releases waiting_at
  begins b e = subst Begins (sym e) (by s.waiting (ltb (length lane) L) refl refl)
    where
      by : (w t : Bool) → s.waiting ≡ w → ltb (length lane) L ≡ t
          → Begins (pick w (record { state = s; taken = 0 }) (pick t (record { state = s; taken = 0 }) (record { state = waiting_at R (bit_at lane) 0 s 0 false; taken = 1 })))
      by true t ew et = as_is (λ _. ew) (sym (ap (λ (w : Bool). releases w n) ew))
      by false true ew et =
          let none : n ≡ 0 = div-eq_of_lt (ltb-true (length lane) L et) in
          as_is (λ l. absurd (omega arith)) (omega (arith, none, ap (λ (w : Bool). releases w n) ew))
      by false false ew et =
          let some : 1 ≤ n = (le-div_iff_mul-le (octets-some R.gap)).1 (let h = ltb-false (length lane) L et in omega arith) in
          record {
            within = some;
            waits = λ _. refl;
            left = sym (ap (λ (w : Bool). releases w n) ew);
            same = ap (run R (bit_at lane) s) {x = n} {y = 1 + (n - 1)} (omega (arith, some)) ∙ begun (n - 1) ew;
          }

-- what is taken of a lane is there
pub taken-within : (size taken long : ℕ) → 0 < size → size * taken ≤ long → taken ≤ long / size
taken-within size taken long some h = (le-div_iff_mul-le some).1 (omega (arith, mul_comm size taken))

-- ---- refused, or all of the lane

module _ (mode : ℕ) (s : Receiver) (lane o st c p q i : List ℕ) where
  abbrev refusal : ℕ
  refusal = refusal_of mode s (length lane) (length o) (length st) (length c) (length p) (length q) (length i)

  -- a refusal is passed on as it is
  pub is-refused : (r : Result ⊤ Refusal) → refused r ≡ refusal → (why : Refusal) → r ≡ Err why → (answer : Result (Ran Receiver) Refusal) → IsErrAnd answer (λ x. x ≡ why)
      → done (answered s answer) o st c p q i ≡ entry mode s lane o st c p q i
  unfolding entry
  is-refused r e why f (Ok ran) n = absurd n
  is-refused r e why f (Err own) n =
      let is : number own ≡ refusal = ap number n ∙ sym (ap refused f) ∙ e in
      rw (← is, ne_eqb (number own) 0 (number-above own))

  module _ (z : refusal ≡ 0) where
    abbrev R : Row
    R = row mode

    ok : Accepted mode s (length lane) (length o) (length st) (length c) (length p) (length q) (length i)
    ok = accepted mode s (length lane) (length o) (length st) (length c) (length p) (length q) (length i) z

    is-run : entry mode s lane o st c p q i ≡ laid_out (totalled (run R (bit_at lane) s (n R s lane))) o st c p q i
    unfolding entry
    is-run = rw (eq-eqb refusal 0 z)

    whole : length lane ≡ L R s lane * n R s lane
    whole = omega (arith, div-add-mod (length lane) (L R s lane), ok.whole)

    module _ (b : Begun) (eb : b ≡ begun_by R s lane) where
      from : Begins R s lane b
      from = begins R s lane b eb

      -- what the run is given, by the octets of a multiblock
      abbrev pub Ready : ℕ → Type 0
      Ready size =
          ((0 < length lane / size - b.taken → b.state.waiting ≡ true)
          × (size * (length lane / size - b.taken) ≤ length (take (length lane - size * b.taken) (drop (size * b.taken) lane)))
          × (length lane / size - b.taken ≤ most_of_all))
          × turn.Room (length lane / size - b.taken) (length o) (length st) (length c) (length p) (length q) (length i)

      pub ready : (size : ℕ) → size ≡ lane_octets R.gap → Ready size
      ready size es = subst Ready (sym es) (
        (
          from.waits,
          omega (
            arith,
            whole,
            from.within,
            mul-add (L R s lane) (n R s lane - b.taken) b.taken,
            ap (λ (x : ℕ). L R s lane * x) {x = n R s lane - b.taken + b.taken} {y = n R s lane} (omega (arith, from.within)),
            ap length (rest_of lane (L R s lane * b.taken)),
            length-drop (L R s lane * b.taken) lane,
          ),
          omega (arith, ok.few, few mode),
        ),
        subst (λ (k : ℕ). turn.Room k (length o) (length st) (length c) (length p) (length q) (length i)) (sym from.left) ok.room,
      )

      pub is_all : (own : Row) → own ≡ R → (size : ℕ) → size ≡ lane_octets R.gap → (r : Answer Receiver) (o' st' c' p' q' i' : List ℕ)
          → done r o' st' c' p' q' i' ≡ laid_out (totalled (run own (bit_at (take (length lane - size * b.taken) (drop (size * b.taken) lane))) b.state (length lane / size - b.taken))) o st c p q i
          → done r o' st' c' p' q' i' ≡ entry mode s lane o st c p q i
      is_all own eo size es r o' st' c' p' q' i' h =
          h
          ∙ ap (λ (x : Row). laid_out (totalled (run x (bit_at (take (length lane - size * b.taken) (drop (size * b.taken) lane))) b.state (length lane / size - b.taken))) o st c p q i) eo
          ∙ ap (λ (x : ℕ). laid_out (totalled (run R (bit_at (take (length lane - x * b.taken) (drop (x * b.taken) lane))) b.state (length lane / x - b.taken))) o st c p q i) es
          ∙ ap (λ (x : List ℕ). laid_out (totalled (run R (bit_at x) b.state (n R s lane - b.taken))) o st c p q i) (rest_of lane (L R s lane * b.taken))
          ∙ ap (λ (x : Step). laid_out (totalled x) o st c p q i) (sym from.same)
          ∙ sym is-run

-- ---- an accepted call, by its answer

module _ (mode : ℕ) (s : Receiver) (lane o st c p q i : List ℕ) where
  told : (entry mode s lane o st c p q i).answer.refusal ≡ refusal mode s lane o st c p q i
  unfolding entry
  told = by (eqb (refusal mode s lane o st c p q i) 0) refl
    where
      by : (b : Bool) → eqb (refusal mode s lane o st c p q i) 0 ≡ b
          → (pick b (laid_out (totalled (run (row mode) (bit_at lane) s (length lane / lane_octets (row mode).gap))) o st c p q i) (done (record { refusal = refusal mode s lane o st c p q i; count = 0; state = s }) o st c p q i)).answer.refusal ≡ refusal mode s lane o st c p q i
      by true e = sym (eqb-true (refusal mode s lane o st c p q i) 0 e)
      by false e = refl

  module _ (z : (entry mode s lane o st c p q i).answer.refusal ≡ 0) where
    pub all-run : entry mode s lane o st c p q i ≡ laid_out (totalled (run (row mode) (bit_at lane) s (length lane / lane_octets (row mode).gap))) o st c p q i
    all-run = is-run mode s lane o st c p q i (sym told ∙ z)

    pub all_whole : length lane ≡ lane_octets (row mode).gap * (length lane / lane_octets (row mode).gap)
    all_whole = whole mode s lane o st c p q i (sym told ∙ z)
