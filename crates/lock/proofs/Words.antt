-- Sync bits that follow the layout of any kind of sync word but FEC's, whatever parities and command they carry, have the pilot signal of `Stream`:
-- clauses 7.3.3 to 7.3.7. Only `has-pilot` looks at the kinds one by one. Assumes nothing.
use mathlib.Core.Path.{◌≡◌, refl, sym, ap, ◌∙◌}
use mathlib.Core.Bool.{Bool, true, false, ◌||◌, true≢false}
use mathlib.Core.List.{List, ◌∷◌}
use mathlib.Core.Logic.{⊎_elim}
use Prim.Native.Nat.{ℕ, ◌+◌, ◌-◌, ◌*◌, ◌/◌, ◌%◌, ◌≤◌, ◌<◌}
use native.Mathlib.Nat.{mod-lt, mod-eq_of_lt, mul-add-mod_self_left, div-add-mod, mod-mod_of_dvd, dvd-mul_right, mul_assoc}
use native.Mathlib.Omega.{arith}
use borrow.Author.Tests.{eqb-true}
use lib.Dec.{eqb}
use lib.ListN.{get_or}
use Rattle.frame.specs.declared.modes.Sync.{Sync}
use Rattle.frame.specs.declared.modes.Sync.TheVariants.{Crc12, Fec, Crc3, Command}
use Rattle.frame.specs.declared.sync.Parts.{Parts}
use Rattle.frame.specs.Modes.{Field, mark, fixed, ending, layout, repairs}
use Rattle.frame.specs.SyncWord.{held}
use Rattle.frame.proofs.SyncWord.{field_at, held-mark, held-fixed}
use Rattle.lock.specs.Stream.{always_one, PilotSync}
use Rattle.lock.proofs.Follow.{lt-or-ge}

-- the pilot signal, and fields of any kind in between: what Tables 41, 43 and 47 have in common
abbrev piloted : (ℕ → Field) → List Field
piloted f =
    f 0 ∷ f 1 ∷ f 2 ∷ fixed 1 ∷ f 4 ∷ f 5 ∷ f 6 ∷ fixed 1 ∷ f 8 ∷ f 9 ∷ f 10 ∷ fixed 1 ∷ f 12 ∷ f 13 ∷ f 14 ∷ fixed 1
    ∷ f 16 ∷ f 17 ∷ f 18 ∷ fixed 1 ∷ f 20 ∷ fixed 1 ∷ mark ∷ fixed 1 ∷ f 24 ∷ f 25 ∷ f 26 ∷ ending

-- every kind of sync word has it but FEC's, the only one that flips bursts back
has-pilot : (S : Sync) → repairs S ≡ false → layout S ≡ piloted (field_at S)
has-pilot Crc12 e = refl
has-pilot Fec e = absurd (true≢false e)
has-pilot Crc3 e = refl
has-pilot Command e = refl

-- which multiblock of its extended multiblock block x is in
slot : (E x : ℕ) → 1 ≤ E → x / 32 % E ≡ x % (32 * E) / 32
slot E x h =
    let q = x / (32 * E) in
    let l : x % (32 * E) < 32 * E = mod-lt x (omega arith) in
    let e : x / 32 ≡ E * q + x % (32 * E) / 32 = omega (arith, div-add-mod x (32 * E), mul_assoc 32 E q) in
    ap (λ (y : ℕ). y % E) e ∙ mul-add-mod_self_left E q (x % (32 * E) / 32) ∙ mod-eq_of_lt (omega arith)

one_of : {G : Type 0} (a : Bool) (k j : ℕ) → (a ≡ true → G) → (k ≡ j → G) → (a || eqb k j) ≡ true → G
one_of true k j f g h = f refl
one_of false k j f g h = g (eqb-true k j h)

module _ (S : Sync) (pilot : repairs S ≡ false) (E p : ℕ) (some : 1 ≤ E) (parts : ℕ → Parts) (command marks sync : ℕ → ℕ)
    (ends : (m : ℕ) → m % E ≡ E - 1 → marks m ≡ 1) (others : (m : ℕ) → (m % E ≡ E - 1 → ⊥) → marks m ≡ 0)
    (words : (n : ℕ) → sync n ≡ held (parts ((n + p) / 32)) (command ((n + p) / 32)) (marks ((n + p) / 32)) (field_at S ((n + p) % 32))) where
  at : (n k : ℕ) (x : Field) → get_or (piloted (field_at S)) k (fixed 0) ≡ x → (n + p) % 32 ≡ k → sync n ≡ held (parts ((n + p) / 32)) (command ((n + p) / 32)) (marks ((n + p) / 32)) x
  at n k x f e =
      words n
      ∙ ap (held (parts ((n + p) / 32)) (command ((n + p) / 32)) (marks ((n + p) / 32))) (ap (field_at S) e ∙ ap (λ (l : List Field). get_or l k (fixed 0)) (has-pilot S pilot) ∙ f)

  always : (n k b : ℕ) → get_or (piloted (field_at S)) k (fixed 0) ≡ fixed b → (n + p) % 32 ≡ k → sync n ≡ b % 2
  always n k b f e = at n k (fixed b) f e ∙ held-fixed (parts ((n + p) / 32)) (command ((n + p) / 32)) (marks ((n + p) / 32)) b

  marked : (n : ℕ) → (n + p) % 32 ≡ 22 → sync n ≡ marks ((n + p) / 32) % 2
  marked n e = at n 22 mark refl e ∙ held-mark (parts ((n + p) / 32)) (command ((n + p) / 32)) (marks ((n + p) / 32))

  ones : (n : ℕ) → always_one ((n + p) % 32) ≡ true → sync n ≡ 1
  ones n =
      let k = (n + p) % 32 in
      one_of (eqb k 3 || eqb k 7 || eqb k 11 || eqb k 15 || eqb k 19 || eqb k 21 || eqb k 23) k 31
      (one_of (eqb k 3 || eqb k 7 || eqb k 11 || eqb k 15 || eqb k 19 || eqb k 21) k 23
      (one_of (eqb k 3 || eqb k 7 || eqb k 11 || eqb k 15 || eqb k 19) k 21
      (one_of (eqb k 3 || eqb k 7 || eqb k 11 || eqb k 15) k 19
      (one_of (eqb k 3 || eqb k 7 || eqb k 11) k 15
      (one_of (eqb k 3 || eqb k 7) k 11
      (one_of (eqb k 3) k 7
      (λ e. always n 3 1 refl (eqb-true k 3 e)) (always n 7 1 refl)) (always n 11 1 refl)) (always n 15 1 refl)) (always n 19 1 refl)) (always n 21 1 refl)) (always n 23 1 refl)) (always n 31 1 refl)

  zeros : (n : ℕ) → 27 ≤ (n + p) % 32 → (n + p) % 32 ≤ 30 → sync n ≡ 0
  zeros n h l =
      let k = (n + p) % 32 in
      ⊎_elim (λ (a : k < 28). always n 27 0 refl (omega arith))
      (λ (a : 28 ≤ k). ⊎_elim (λ (b : k < 29). always n 28 0 refl (omega arith))
      (λ (b : 29 ≤ k). ⊎_elim (λ (c : k < 30). always n 29 0 refl (omega arith)) (λ (c : 30 ≤ k). always n 30 0 refl (omega arith)) (lt-or-ge k 30)) (lt-or-ge k 29)) (lt-or-ge k 28)

  last_mark : (n : ℕ) → (n + p) % (32 * E) ≡ 32 * E - 10 → sync n ≡ 1
  last_mark n h =
      let z = slot E (n + p) some in
      let t : (n + p) % 32 ≡ 22 = sym (mod-mod_of_dvd 32 (n + p) (dvd-mul_right 32 E)) ∙ ap (λ (y : ℕ). y % 32) h ∙ omega arith in
      marked n t ∙ ap (λ (y : ℕ). y % 2) (ends ((n + p) / 32) (z ∙ ap (λ (y : ℕ). y / 32) h ∙ omega arith))

  other_marks : (n : ℕ) → (n + p) % 32 ≡ 22 → ((n + p) % (32 * E) ≡ 32 * E - 10 → ⊥) → sync n ≡ 0
  other_marks n t k =
      let z = slot E (n + p) some in
      let m : (n + p) % (32 * E) % 32 ≡ (n + p) % 32 = mod-mod_of_dvd 32 (n + p) (dvd-mul_right 32 E) in
      marked n t ∙ ap (λ (y : ℕ). y % 2) (others ((n + p) / 32) (λ e. k (omega arith)))

  pub words-fit : PilotSync E p sync
  words-fit = record { ones = ones; zeros = zeros; last_mark = last_mark; other_marks = other_marks }
