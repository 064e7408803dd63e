-- Bits in bursts, by pairs: any two flipped bits are close together or far apart. This says the same as a list of bursts with clear gaps.
-- Assumes nothing.
use mathlib.Core.Path.{◌≡◌, sym, ap, ◌∙◌, subst}
use mathlib.Core.Logic.{◌⊎◌, inl, inr}
use mathlib.Core.List.{List, [], ◌∷◌}
use Prim.Native.Nat.{ℕ, zero, suc, ◌+◌, ◌-◌, ◌*◌, ◌≤◌, ◌<◌}
use native.Mathlib.Decide.{ℕ_discrete}
use native.Mathlib.Omega.{arith}
use Rattle.demands.specs.Damage.{Burst, Covers, Spaced, InBursts, Pairwise}

-- ---- from bursts to pairs

module _ (limit clear : ℕ) where
  none_before : (bursts : List Burst) (from x : ℕ) → Spaced limit clear from bursts → Covers bursts x → from ≤ x
  none_before [] from x s c = absurd c
  none_before (b ∷ bursts) from x s (inl c) = let h = s.0 in let l = c.0 in omega arith
  none_before (b ∷ bursts) from x s (inr c) = let h = s.0 in let l = none_before bursts (b.first + b.bits + clear) x s.2 c in omega arith

  two : (bursts : List Burst) (from x y : ℕ) → Spaced limit clear from bursts → x < y → Covers bursts x → Covers bursts y → (y - x < limit) ⊎ (clear < y - x)
  two [] from x y s h c d = absurd c
  two (b ∷ bursts) from x y s h (inl c) (inl d) = let l = s.1 in let m = c.0 in let k = d.1 in inl (omega arith)
  two (b ∷ bursts) from x y s h (inl c) (inr d) = let l = none_before bursts (b.first + b.bits + clear) y s.2 d in let m = c.1 in inr (omega arith)
  two (b ∷ bursts) from x y s h (inr c) (inl d) = absurd (let l = none_before bursts (b.first + b.bits + clear) x s.2 c in let m = d.1 in omega arith)
  two (b ∷ bursts) from x y s h (inr c) (inr d) = two bursts (b.first + b.bits + clear) x y s.2 h c d

  pub pairs : (n : ℕ) (flips : ℕ → ℕ) → InBursts limit clear n flips → Pairwise limit clear n flips
  pairs n flips w x y h l e f = two w.bursts 0 x y w.spaced h (w.covered x (omega arith) e) (w.covered y l f)

-- ---- from pairs to bursts, where two bursts are shorter than the bits between them

burst : ℕ → ℕ → Burst
burst first last = record { first = first; bits = suc last - first }

module _ (limit clear n : ℕ) (flips : ℕ → ℕ) (bits : (x : ℕ) → flips x < 2) (some : 1 ≤ limit) (short : 2 * limit ≤ clear) (close : Pairwise limit clear n flips) where
  -- the bursts from bit a on: none, or the first of them from a flipped bit to a flipped bit, and the rest
  data Gathered (a : ℕ) : Type 0 where
    nothing : ((x : ℕ) → a ≤ x → x < n → flips x ≡ 0) → Gathered a
    bursts : (first last : ℕ) (rest : List Burst) → a ≤ first → first ≤ last → last < n → flips first ≡ 1 → flips last ≡ 1 → last - first < limit
        → Spaced limit clear (suc last + clear) rest → ((x : ℕ) → a ≤ x → x < n → flips x ≡ 1 → Covers (burst first last ∷ rest) x) → Gathered a

  -- bit a is not flipped
  skip : (a : ℕ) → flips a ≡ 0 → Gathered (suc a) → Gathered a
  skip a e (nothing z) = nothing (λ x h l. go x h l (ℕ_discrete x a))
    where
      go : (x : ℕ) → a ≤ x → x < n → Dec (x ≡ a) → flips x ≡ 0
      go x h l (yes q) = ap flips q ∙ e
      go x h l (no q) = z x (omega arith) l
  skip a e (bursts first last rest h l m ef el near s c) = bursts first last rest (omega arith) l m ef el near s (λ x k j f. go x k j f (ℕ_discrete x a))
    where
      go : (x : ℕ) → a ≤ x → x < n → flips x ≡ 1 → Dec (x ≡ a) → Covers (burst first last ∷ rest) x
      go x k j f (yes q) = absurd (let z : flips x ≡ 0 = ap flips q ∙ e in omega arith)
      go x k j f (no q) = c x (omega arith) j f

  -- bit a is flipped: it is a burst of its own, or the next one's first bit
  alone : (a : ℕ) → a < n → flips a ≡ 1 → (rest : List Burst) → Spaced limit clear (suc a + clear) rest → ((x : ℕ) → suc a ≤ x → x < n → flips x ≡ 1 → Covers rest x) → Gathered a
  unfolding burst
  alone a h e rest s c = bursts a a rest (omega arith) (omega arith) h e e (omega arith) s (λ x k j f. go x k j f (ℕ_discrete x a))
    where
      go : (x : ℕ) → a ≤ x → x < n → flips x ≡ 1 → Dec (x ≡ a) → Covers (burst a a ∷ rest) x
      go x k j f (yes q) = inl (omega arith, omega arith)
      go x k j f (no q) = inr (c x (omega arith) j f)

  join : (a : ℕ) → a < n → flips a ≡ 1 → Gathered (suc a) → Gathered a
  unfolding burst
  join a h e (nothing z) = alone a h e [] tt (λ x l m f. absurd (let q = z x l m in omega arith))
  join a h e (bursts first last rest l m k ef el near s c) = by (close a first (omega arith) (omega arith) e ef) (close a last (omega arith) k e el)
    where
      ends : first + (suc last - first) ≡ suc last
      ends = omega arith

      by : (first - a < limit) ⊎ (clear < first - a) → (last - a < limit) ⊎ (clear < last - a) → Gathered a
      by (inr far) q =
          alone a h e (burst first last ∷ rest) (omega arith, omega arith, subst (λ (x : ℕ). Spaced limit clear (x + clear) rest) (sym ends) s) c
      by (inl next) (inr far) = absurd (omega arith)
      by (inl next) (inl whole) = bursts a last rest (omega arith) (omega arith) k e el whole s (λ x u v f. go x u v f (ℕ_discrete x a))
        where
          wider : (x : ℕ) → Covers (burst first last ∷ rest) x → Covers (burst a last ∷ rest) x
          wider x (inl p) = let p0 = p.0 in let p1 = p.1 in inl (omega arith, omega arith)
          wider x (inr p) = inr p

          go : (x : ℕ) → a ≤ x → x < n → flips x ≡ 1 → Dec (x ≡ a) → Covers (burst a last ∷ rest) x
          go x u v f (yes q) = inl (omega arith, omega arith)
          go x u v f (no q) = wider x (c x (omega arith) v f)

  gather : (m a : ℕ) → a + m ≡ n → Gathered a
  gather zero a e = nothing (λ x h l. absurd (omega arith))
  gather (suc m) a e = by (ℕ_discrete (flips a) 0) (gather m (suc a) (omega arith))
    where
      by : Dec (flips a ≡ 0) → Gathered (suc a) → Gathered a
      by (yes z) rest = skip a z rest
      by (no z) rest = join a (omega arith) (let b = bits a in omega (arith, z)) rest

  pub in-bursts : InBursts limit clear n flips
  unfolding burst
  in-bursts = go (gather n 0 (omega arith))
    where
      go : Gathered 0 → InBursts limit clear n flips
      go (nothing z) = record { bursts = []; spaced = tt; covered = λ x l f. absurd (let q = z x (omega arith) l in omega arith) }
      go (bursts first last rest h l m ef el near s c) = record {
        bursts = burst first last ∷ rest;
        spaced = (omega arith, omega arith, subst (λ (x : ℕ). Spaced limit clear (x + clear) rest) {x = suc last} {y = first + (suc last - first)} (omega arith) s);
        covered = λ x j f. c x (omega arith) j f;
      }
