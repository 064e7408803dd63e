-- What each refusal of a capture comes from, and what an accepted capture is: document 01, "Capture and listing". Assumes nothing.
use mathlib.Core.Path.{◌≡◌, refl, sym, ap, ◌∙◌}
use mathlib.Core.Bool.{Bool, true, false, not, ◌&&◌}
use mathlib.Core.List.{List, [], ◌∷◌, ◌++◌}
use Prim.Native.Nat.{ℕ, ◌+◌, ◌-◌, ◌*◌, ◌%◌, ◌≤◌}
use native.Mathlib.Omega.{arith}
use borrow.Author.Tests.{not-false, eq-eqb, ne_eqb, leb-true, eqb-true, eqb-false}
use lib.Dec.{leb, eqb}
use lib.ListN.{length, length-drop}
use Rattle.std.specs.Prelude.{Result, Ok, Err}
use Rattle.std.specs.Result.{IsErrAnd}
use Rattle.answers.specs.declared.Refusal.{Refusal}
use Rattle.answers.specs.Numbers.{number as number_of}
use Rattle.bits.specs.Choice.{pick}
use Rattle.bits.specs.Order.{number}
use Rattle.bits.specs.Refusals.{Line, ◌when◌, refusal_by}
use Rattle.bits.proofs.Choice.{parts-true}
use Rattle.bits.proofs.Refusals.{Given, first, later, given, passed, none_left, not-given, whenever, only-when}
use Rattle.answers.proofs.Numbers.{number-above}
use Rattle.frame.specs.declared.modes.Row.{Row}
use Rattle.frame.specs.declared.modes.Numbers.{Numbers}
use Rattle.frame.specs.Modes.{known, row, numbers_of, extent_fits}
use Rattle.frame.specs.Lane.{lane_octets}
use Rattle.capture.specs.declared.form.Opened.{Opened}
use Rattle.capture.specs.Form.{mode_of, extent_of, lane_of, limited_by, longest_of, well_formed, refusals_by, Sections, refused_by, opened_as, opened_by}
use Rattle.capture.specs.inner.Lists.{Receivable}

pub lane-length : (capture : List ℕ) → length (lane_of capture) ≡ length capture - 11
unfolding lane_of
lane-length capture = length-drop 11 capture

-- ---- the most lane octets

longest-known : (mode : ℕ) → known mode ≡ true → longest_of mode ≡ lane_octets (row mode).gap * (row mode).most
unfolding longest_of limited_by
longest-known mode e = rw e

-- as code multiplies it
pub longest-product : (mode : ℕ) (R : Row) (N : Numbers) → R ≡ row mode → N ≡ numbers_of R → N.octets * R.most ≡ lane_octets (row mode).gap * (row mode).most
longest-product mode R N er en = rw (en, er)

pub formed-length : (capture : List ℕ) → well_formed capture ≡ true → (11 ≤ length capture) × (length capture ≤ 11 + longest_of (mode_of capture))
unfolding well_formed
formed-length capture e =
    let all = parts-true (leb 11 (length capture) && leb (length capture) (11 + longest_of (mode_of capture))) _ e in
    let ends = parts-true (leb 11 (length capture)) (leb (length capture) (11 + longest_of (mode_of capture))) all.0 in
    (leb-true 11 (length capture) ends.0, leb-true (length capture) (11 + longest_of (mode_of capture)) ends.1)

-- ---- the table, line by line

-- whether the lane is no whole multiblocks, as the table asks it
abbrev uneven : List ℕ → Bool
uneven capture = not (eqb (length (lane_of capture) % lane_octets (row (mode_of capture)).gap) 0)

-- and as code does: by the mode's numbers
lane-rest : (capture : List ℕ) (N : Numbers) → N ≡ numbers_of (row (mode_of capture))
    → length (lane_of capture) % lane_octets (row (mode_of capture)).gap ≡ (length capture - 11) % N.octets
lane-rest capture N en = rw (en, lane-length capture)

-- whether or not its mode is taken
module _ (taken : Bool) (capture : List ℕ) where
  pub refused-8 : well_formed capture ≡ false → 8 ≡ refusal_by (refusals_by (λ _. taken) capture)
  refused-8 e = given 8 _ _ (ap not e)

  module _ (fine : well_formed capture ≡ true) where
    pub refused-1 : taken ≡ false → 1 ≡ refusal_by (refusals_by (λ _. taken) capture)
    refused-1 e = given 1 _ _ (ap not e) ∙ passed 8 _ _ (ap not fine)

    module _ (is-taken : taken ≡ true) where
      past-mode : (lines : List Line) → refusal_by lines ≡ refusal_by (8 when not (well_formed capture) ∷ 1 when not (taken) ∷ lines)
      past-mode lines = passed 1 _ lines (ap not is-taken) ∙ passed 8 _ _ (ap not fine)

      pub refused-2 : extent_fits (extent_of capture) ≡ false → 2 ≡ refusal_by (refusals_by (λ _. taken) capture)
      refused-2 e = given 2 _ _ (ap not e) ∙ past-mode _

      module _ (fits : extent_fits (extent_of capture) ≡ true) (N : Numbers) (en : N ≡ numbers_of (row (mode_of capture))) where
        pub refused-4 : ((length capture - 11) % N.octets ≡ 0 → ⊥) → 4 ≡ refusal_by (refusals_by (λ _. taken) capture)
        refused-4 n =
            given 4 (uneven capture) [] (rw (lane-rest capture N en, ne_eqb ((length capture - 11) % N.octets) 0 n) refl) ∙ passed 2 _ _ (ap not fits) ∙ past-mode _

        pub not-refused : (length capture - 11) % N.octets ≡ 0 → 0 ≡ refusal_by (refusals_by (λ _. taken) capture)
        not-refused e =
            none_left
            ∙ passed 4 (uneven capture) [] (rw (lane-rest capture N en, eq-eqb ((length capture - 11) % N.octets) 0 e) refl)
            ∙ passed 2 _ _ (ap not fits)
            ∙ past-mode _

-- ---- an accepted capture

pub record Accepted (taken : ℕ → Bool) (capture : List ℕ) : Type 0 where
  pub long : 11 ≤ length capture
  pub mode : taken (mode_of capture) ≡ true
  pub extent : extent_fits (extent_of capture) ≡ true
  pub whole : length (lane_of capture) % lane_octets (row (mode_of capture)).gap ≡ 0
  pub short : length (lane_of capture) ≤ longest_of (mode_of capture)

pub accepted : (taken : ℕ → Bool) (capture : List ℕ) → refusal_by (refusals_by taken capture) ≡ 0 → Accepted taken capture
accepted taken capture z =
    let formed = formed-length capture (not-false _ (not-given 8 (refusals_by taken capture) tt z)) in
    record {
      long = formed.0;
      mode = not-false _ (not-given 1 (refusals_by taken capture) tt z);
      extent = not-false _ (not-given 2 (refusals_by taken capture) tt z);
      whole = eqb-true _ 0 (not-false _ (not-given 4 (refusals_by taken capture) tt z));
      short = omega (arith, lane-length capture, formed.1);
    }

-- its lane can be received
pub receivable : {taken : ℕ → Bool} (capture : List ℕ) → Accepted taken capture → known (mode_of capture) ≡ true → Receivable (mode_of capture) (lane_of capture)
receivable capture a is_known = record { is_known = is_known; whole = a.whole; short = omega (arith, a.short, longest-known (mode_of capture) is_known) }

-- ---- more lines behind the table

behind : (k : ℕ) (a b : List Line) → Given k a → Given k (a ++ b)
behind k a b (first test lines e) = first test (lines ++ b) e
behind k a b (later number test lines e g) = later number test (lines ++ b) e (behind k lines b g)

module _ (taken : ℕ → Bool) (capture : List ℕ) (more : List Line) where
  abbrev table : List Line
  table = refusals_by taken capture

  pub still-refused : (refusal_by table ≡ 0 → ⊥) → refusal_by table ≡ refusal_by (table ++ more)
  still-refused n = sym (whenever (refusal_by table) (table ++ more) (behind (refusal_by table) table more (only-when (refusal_by table) table n refl)))

  pub not-yet-refused : refusal_by table ≡ 0 → refusal_by more ≡ refusal_by (table ++ more)
  not-yet-refused z =
      passed 4 (uneven capture) more (not-given 4 table tt z)
      ∙ passed 2 _ _ (not-given 2 table tt z)
      ∙ passed 1 _ _ (not-given 1 table tt z)
      ∙ passed 8 _ _ (not-given 8 table tt z)

-- ---- the answer of open

module _ (taken : ℕ → Bool) (capture : List ℕ) where
  -- a refusal is passed on as it is
  pub not-opened : (why : Refusal) (answer : Result Opened Refusal) → IsErrAnd answer (λ x. x ≡ why) → number_of why ≡ refusal_by (refusals_by taken capture)
      → opened_as answer ≡ opened_by taken capture
  unfolding opened_by
  not-opened why (Ok o) n h = absurd n
  not-opened why (Err own) n h =
      let is = ap number_of n ∙ h in
      rw (← is, ne_eqb (number_of own) 0 (number-above own))

  pub read_off : (mode e : ℕ) (lane : List ℕ) → 0 ≡ refusal_by (refusals_by taken capture) → mode ≡ mode_of capture → e ≡ extent_of capture → lane ≡ lane_of capture
      → record { refusal = 0; mode = mode; e = e; lane = lane } ≡ opened_by taken capture
  unfolding opened_by
  read_off mode e lane z m x l = rw (← z, m, x, l)

  -- and what may be read from it, where the caller's test of the mode gave this
  module _ (test : Bool) (own : test ≡ taken (mode_of capture)) where
    abbrev refusal : ℕ
    refusal = refusal_by (refusals_by taken capture)

    by-own : {s : Sections} → s ≡ opened_by (λ _. test) capture → s ≡ opened_by taken capture
    unfolding opened_by
    by-own e = e ∙ ap (λ (t : Bool). opened_by (λ _. t) capture) own

    as_refused : {b : Bool} {s : Sections} → eqb refusal 0 ≡ b → s ≡ opened_by taken capture → s ≡ pick b (record { refusal = 0; mode = mode_of capture; e = extent_of capture; lane = lane_of capture }) (refused_by refusal)
    unfolding opened_by
    as_refused q e = e ∙ ap (λ (t : Bool). pick t (record { refusal = 0; mode = mode_of capture; e = extent_of capture; lane = lane_of capture }) (refused_by refusal)) q

    pub refused-read : (why : Refusal) → refused_by (number_of why) ≡ opened_by (λ _. test) capture → number_of why ≡ refusal
    refused-read why e = by (eqb refusal 0) refl
      where
        by : (b : Bool) → eqb refusal 0 ≡ b → number_of why ≡ refusal
        by true q = absurd (number-above why (ap (λ (s : Sections). s.refusal) (as_refused q (by-own e))))
        by false q = ap (λ (s : Sections). s.refusal) (as_refused q (by-own e))

    pub opened-read : (o : Opened) → opened_as (Ok o) ≡ opened_by (λ _. test) capture
        → (refusal ≡ 0) × (mode_of capture ≡ o.mode) × (extent_of capture ≡ o.e) × (lane_of capture ≡ o.lane.now)
    opened-read o e = by (eqb refusal 0) refl
      where
        by : (b : Bool) → eqb refusal 0 ≡ b → (refusal ≡ 0) × (mode_of capture ≡ o.mode) × (extent_of capture ≡ o.e) × (lane_of capture ≡ o.lane.now)
        by true q =
            let is = sym (as_refused q (by-own e)) in
            (eqb-true refusal 0 q, ap (λ (s : Sections). s.mode) is, ap (λ (s : Sections). s.e) is, ap (λ (s : Sections). s.lane) is)
        by false q = absurd (eqb-false refusal 0 q (sym (ap (λ (s : Sections). s.refusal) (as_refused q (by-own e)))))
