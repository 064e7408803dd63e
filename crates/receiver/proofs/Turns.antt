-- One turn of a run after another: the state, and every buffer as the releases so far lie in it. Document 01, "What the receiver releases".
-- Assumes nothing.
use mathlib.Core.Path.{◌≡◌, refl, sym, ap, ap₂, ◌∙◌}
use mathlib.Core.Bool.{true}
use mathlib.Core.List.{List, [], ◌∷◌, ◌++◌}
use Prim.Native.Nat.{ℕ, ◌+◌, ◌-◌, ◌*◌, ◌≤◌, ◌<◌}
use native.Mathlib.Omega.{arith}
use lib.ListN.{length, take, drop, set, length-set, length-drop}
use lib.Seq.{take_all}
use borrow.Rule.Slice.PartMut.{put_mid, mid_of, same_len_mid}
use Rattle.bits.specs.Order.{bit_at, number, laid, laid_at}
use Rattle.bits.proofs.Laid.{laid-nothing, laid-set, laid-part, laid-start}
use Rattle.scrambler.specs.Scrambling.{descrambled}
use Rattle.scrambler.proofs.Scrambling.{length-descrambled}
use Rattle.frame.specs.declared.modes.Row.{Row}
use Rattle.frame.specs.Lane.{lane_octets}
use Rattle.frame.specs.SyncWord.{whole}
use Rattle.judge.specs.declared.Released.{Released}
use Rattle.receiver.specs.declared.Receiver.{Receiver}
use Rattle.receiver.specs.declared.run.Heard.{Heard}
use Rattle.receiver.specs.declared.run.Counts.{Counts}
use Rattle.receiver.specs.declared.run.Told.{Told}
use Rattle.receiver.specs.declared.run.Turn.{Turn}
use Rattle.judge.specs.Judge.{place_of, pattern_of, judged, mended, released_status, trusted_after}
use Rattle.receiver.specs.Release.{Release, Step, parity_at, verdict_at, mended_at, release_at, waiting_at, step, run}
use Rattle.receiver.specs.Totals.{total, totalled}
use Rattle.receiver.specs.Entry.{octets_out, column, done, laid_out}
use Rattle.receiver.specs.inner.Turn.{heard_at, counts_after, Room, Turned}
use Rattle.receiver.proofs.Buffers.{column-more, column-length, octets-more, release_length, octets-length}
use Rattle.receiver.proofs.Counts.{step-released, run_more, run-waits, all-counted, counted}
use Rattle.receiver.proofs.Cut.{same_step, same-release, heard-from, bits-from}
use Rattle.receiver.proofs.Totalled.{same-kind}
use Rattle.receiver.proofs.Carried.{same-released, step-carries, counted-on}

-- ---- one turn

-- what the code of a turn computes, put together
pub turned : (R : Row) (s : Receiver) (lane : List ℕ) (o o' : List ℕ) (heard : Heard) (parity : ℕ) (r : Released) (counts : Counts) (place pattern : ℕ)
    → s.waiting ≡ true
    → 256 ≤ length o
    → heard ≡ heard_at R (bit_at lane) 0
    → parity ≡ whole R.sync (record { before = heard.parts.before; own = s.own })
    → r.verdict ≡ judged R.sync s.octets parity
    → r.status ≡ released_status r.verdict s.trusted
    → r.history ≡ number (bit_at (mended r.verdict s.octets)) 1990 58
    → r.trusted ≡ trusted_after r.verdict
    → o' ≡ laid_at (descrambled (mended r.verdict s.octets) s.history 256) 0 o
    → counts ≡ counts_after (record { sound = s.sound; repaired = s.repaired; failed = s.failed }) r.verdict
    → place ≡ place_of r.verdict
    → pattern ≡ pattern_of r.verdict
    → Turned (totalled (step R (bit_at lane) 0 s)).state (release_at R (bit_at lane) 0 s)
    (record {
      state = record { waiting = true; octets = heard.octets; history = r.history; trusted = r.trusted; command = heard.command; invalid = heard.invalid; own = heard.parts.own; sound = counts.sound; repaired = counts.repaired; failed = counts.failed };
      told = record { status = r.status; command = s.command; place = place; pattern = pattern; invalid = s.invalid };
    })
    o o'
unfolding step waiting_at release_at mended_at verdict_at parity_at heard_at total counts_after
turned R s lane o o' heard parity r counts place pattern w room eh ep ev em ey et eo ec el ea =
    let own : r.verdict ≡ verdict_at R (bit_at lane) 0 s =
    ev ∙ ap (judged R.sync s.octets) (ep ∙ ap (λ (h : Heard). whole R.sync (record { before = h.parts.before; own = s.own })) eh) in
    record {
      state = rw (w, eh, ey, et, ec, same-kind 0 s.sound r.verdict s.trusted, same-kind 1 s.repaired r.verdict s.trusted, same-kind 2 s.failed r.verdict s.trusted, own);
      told = rw (em, el, ea, own);
      octets = eo ∙ laid-start _ o (omega (arith, length-descrambled (mended r.verdict s.octets) s.history 256)) ∙ rw own;
    }

-- a part to the end is what is left
pub rest_of : (lane : List ℕ) (a : ℕ) → take (length lane - a) (drop a lane) ≡ drop a lane
rest_of lane a = take_all (length lane - a) (drop a lane) (simp length-drop (omega arith))

-- ---- after k turns

pub record Held (R : Row) (lane : ℕ → ℕ) (start : Receiver) (k : ℕ) (s : Receiver) (o₀ st₀ c₀ p₀ q₀ i₀ o st c p q i : List ℕ) : Type 0 where
  pub state : s ≡ (totalled (run R lane start k)).state
  pub octets : o ≡ laid (octets_out (run R lane start k).out) o₀
  pub statuses : st ≡ laid (column (λ (r : Release). r.status) (run R lane start k).out) st₀
  pub commands : c ≡ laid (column (λ (r : Release). r.command) (run R lane start k).out) c₀
  pub places : p ≡ laid (column (λ (r : Release). r.place) (run R lane start k).out) p₀
  pub patterns : q ≡ laid (column (λ (r : Release). r.pattern) (run R lane start k).out) q₀
  pub invalid : i ≡ laid (column (λ (r : Release). r.invalid) (run R lane start k).out) i₀
  pub octets-long : length o ≡ length o₀
  pub statuses-long : length st ≡ length st₀
  pub commands-long : length c ≡ length c₀
  pub places-long : length p ≡ length p₀
  pub patterns-long : length q ≡ length q₀
  pub invalid-long : length i ≡ length i₀

pub held_none : (R : Row) (lane : ℕ → ℕ) (start : Receiver) (o st c p q i : List ℕ) → Held R lane start 0 start o st c p q i o st c p q i
unfolding run total octets_out column
held_none R lane start o st c p q i = record {
  state = refl;
  octets = sym (laid-nothing o);
  statuses = sym (laid-nothing st);
  commands = sym (laid-nothing c);
  places = sym (laid-nothing p);
  patterns = sym (laid-nothing q);
  invalid = sym (laid-nothing i);
  octets-long = refl;
  statuses-long = refl;
  commands-long = refl;
  places-long = refl;
  patterns-long = refl;
  invalid-long = refl;
}

-- one list
list-more : (f : Release → ℕ) (out : List Release) (r : Release) (k : ℕ) (old was now : List ℕ) → length out ≡ k → k < length old → was ≡ laid (column f out) old → now ≡ set was k (f r)
    → now ≡ laid (column f (out ++ (r ∷ []))) old
list-more f out r k old was now l h e e' =
    let here : length (column f out) ≡ k = column-length f out ∙ l in
    e' ∙ ap₂ (λ (x : List ℕ) (j : ℕ). set x j (f r)) e (sym here)
    ∙ laid-set (column f out) old (f r) (omega arith)
    ∙ ap (λ (x : List ℕ). laid x old) (sym (column-more f out r))

module _ (R : Row) (lane : List ℕ) (start : Receiver) (k n : ℕ) (s : Receiver) (o₀ st₀ c₀ p₀ q₀ i₀ o st c p q i : List ℕ) (w : start.waiting ≡ true) (less : k < n)
    (room : Room n (length o₀) (length st₀) (length c₀) (length p₀) (length q₀) (length i₀)) (h : Held R (bit_at lane) start k s o₀ st₀ c₀ p₀ q₀ i₀ o st c p q i) where
  pub still-waits : s.waiting ≡ true
  still-waits = ap (λ (x : Receiver). x.waiting) h.state ∙ run-waits R (bit_at lane) start k w

  pub held_more : (rest : List ℕ) (t : Turn) (part : List ℕ) → rest ≡ drop (lane_octets R.gap * k) lane → length part ≡ length (mid_of (256 * k) (length o - 256 * k) o)
      → Turned (totalled (step R (bit_at rest) 0 s)).state (release_at R (bit_at rest) 0 s) t (mid_of (256 * k) (length o - 256 * k) o) part
      → Held R (bit_at lane) start (k + 1) t.state o₀ st₀ c₀ p₀ q₀ i₀ (put_mid (256 * k) (length o - 256 * k) o part)
      (set st k t.told.status) (set c k t.told.command) (set p k t.told.place) (set q k t.told.pattern) (set i k t.told.invalid)
  held_more rest turn part er lp t =
      let f = bit_at lane in
      let was = run R f start k in
      let out = release_at R f k was.state in
      let heard : heard_at R (bit_at rest) 0 ≡ heard_at R f k =
      ap (λ (x : List ℕ). heard_at R (bit_at x) 0) er ∙ ap (λ (g : ℕ → ℕ). heard_at R g 0) (bits-from R.gap lane k) ∙ sym (heard-from R f k 0) ∙ ap (heard_at R f) (omega arith) in
      let is : release_at R (bit_at rest) 0 s ≡ out =
      same-release R s (bit_at rest) 0 f k heard ∙ ap (release_at R f k) h.state ∙ same-released R f k _ _ _ was.state in
      let next : step R (bit_at rest) 0 s ≡ step R f k (totalled was).state = same_step R s (bit_at rest) 0 f k heard ∙ ap (step R f k) h.state in
      let more = run_more R f start k w in
      let outs : was.out ++ (out ∷ []) ≡ (run R f start (k + 1)).out = sym (ap (λ (x : Step). x.out) more) in
      let l : length was.out ≡ k = all-counted R f start k w in
      record {
        state =
            t.state
            ∙ ap (λ (x : Step). (totalled x).state) next
            ∙ counted-on (step R f k) (step-carries R f k) was
            ∙ ap (λ (x : List Release). (totalled (record { state = (step R f k was.state).state; out = was.out ++ x })).state) (step-released R f k was.state (run-waits R f start k w))
            ∙ sym (ap (λ (x : Step). (totalled x).state) more);
        octets =
            laid-part (octets_out was.out) out.octets o₀ o part (256 * k) (octets-length R f start k w) h.octets h.octets-long
            (omega (arith, room.octets-fit, release_length R f k was.state))
            (t.octets ∙ ap (λ (x : Release). laid x.octets (mid_of (256 * k) (length o - 256 * k) o)) is)
            ∙ ap (λ (x : List ℕ). laid x o₀) (sym (octets-more was.out out))
            ∙ ap (λ (x : List Release). laid (octets_out x) o₀) outs;
        statuses =
            list-more (λ (x : Release). x.status) was.out out k st₀ st _ l (omega (arith, room.statuses-fit)) h.statuses (ap (λ (x : Told). set st k x.status) t.told ∙ ap (λ (x : Release). set st k x.status) is)
            ∙ ap (λ (x : List Release). laid (column (λ (y : Release). y.status) x) st₀) outs;
        commands =
            list-more (λ (x : Release). x.command) was.out out k c₀ c _ l (omega (arith, room.commands-fit)) h.commands (ap (λ (x : Told). set c k x.command) t.told ∙ ap (λ (x : Release). set c k x.command) is)
            ∙ ap (λ (x : List Release). laid (column (λ (y : Release). y.command) x) c₀) outs;
        places =
            list-more (λ (x : Release). x.place) was.out out k p₀ p _ l (omega (arith, room.places-fit)) h.places (ap (λ (x : Told). set p k x.place) t.told ∙ ap (λ (x : Release). set p k x.place) is)
            ∙ ap (λ (x : List Release). laid (column (λ (y : Release). y.place) x) p₀) outs;
        patterns =
            list-more (λ (x : Release). x.pattern) was.out out k q₀ q _ l (omega (arith, room.patterns-fit)) h.patterns (ap (λ (x : Told). set q k x.pattern) t.told ∙ ap (λ (x : Release). set q k x.pattern) is)
            ∙ ap (λ (x : List Release). laid (column (λ (y : Release). y.pattern) x) q₀) outs;
        invalid =
            list-more (λ (x : Release). x.invalid) was.out out k i₀ i _ l (omega (arith, room.invalid-fit)) h.invalid (ap (λ (x : Told). set i k x.invalid) t.told ∙ ap (λ (x : Release). set i k x.invalid) is)
            ∙ ap (λ (x : List Release). laid (column (λ (y : Release). y.invalid) x) i₀) outs;
        octets-long = same_len_mid (256 * k) (length o - 256 * k) o part lp ∙ h.octets-long;
        statuses-long = length-set st k _ ∙ h.statuses-long;
        commands-long = length-set c k _ ∙ h.commands-long;
        places-long = length-set p k _ ∙ h.places-long;
        patterns-long = length-set q k _ ∙ h.patterns-long;
        invalid-long = length-set i k _ ∙ h.invalid-long;
      }

-- all turns
pub held_all : (R : Row) (lane : ℕ → ℕ) (start : Receiver) (k n : ℕ) (s : Receiver) (o₀ st₀ c₀ p₀ q₀ i₀ o st c p q i : List ℕ) → (0 < n → start.waiting ≡ true) → k ≡ n
    → Held R lane start k s o₀ st₀ c₀ p₀ q₀ i₀ o st c p q i → done (record { refusal = 0; count = n; state = s }) o st c p q i ≡ laid_out (totalled (run R lane start n)) o₀ st₀ c₀ p₀ q₀ i₀
held_all R lane start k n s o₀ st₀ c₀ p₀ q₀ i₀ o st c p q i w e h =
    rw (h.state, h.octets, h.statuses, h.commands, h.places, h.patterns, h.invalid, ← e)
    (ap (λ (j : ℕ). done (record { refusal = 0; count = j; state = (totalled (run R lane start k)).state })
    (laid (octets_out (run R lane start k).out) o₀)
    (laid (column (λ (r : Release). r.status) (run R lane start k).out) st₀)
    (laid (column (λ (r : Release). r.command) (run R lane start k).out) c₀)
    (laid (column (λ (r : Release). r.place) (run R lane start k).out) p₀)
    (laid (column (λ (r : Release). r.pattern) (run R lane start k).out) q₀)
    (laid (column (λ (r : Release). r.invalid) (run R lane start k).out) i₀)) (sym (counted R lane start k (λ l. w (omega arith)))))
