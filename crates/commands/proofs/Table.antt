-- What is true of every line of Table 51: clause 7.3.7.6. Assumes nothing.
use mathlib.Core.Path.{◌≡◌, refl, sym, ap, ◌∙◌}
use mathlib.Core.Bool.{true, true≢false}
use mathlib.Core.List.{◌++◌}
use Prim.Native.Nat.{ℕ, zero, suc, ◌+◌, ◌-◌, ◌≤◌, ◌<◌}
use native.Mathlib.Decide.{dec_lt}
use native.Mathlib.Omega.{arith}
use lib.Dec.{lit≤}
use lib.ListN.{get_or, take, replicate, get_or-replicate, get_or-append, get_or-eq_default}
use lib.Seq.{get_or-append-add}
use Rattle.commands.specs.declared.table51.Function.{Function}
use Rattle.commands.specs.Table51.{undefined, user_defined, table51, function_of}

-- a code that is not defined, below those of users and above them, and a user's
pub reserved : (code : ℕ) → 7 ≤ code → code < 16 → undefined ≡ function_of code
unfolding function_of
reserved code low high =
    sym
    (ap (λ (i : ℕ). get_or table51 i undefined) {x = code} {y = 7 + (code - 7)} (omega arith)
    ∙ get_or-append-add (take 7 table51) (replicate 9 undefined ++ replicate 16 user_defined) (code - 7) undefined
    ∙ get_or-append (replicate 9 undefined) (replicate 16 user_defined) undefined (code - 7) (omega arith)
    ∙ get_or-replicate 9 (code - 7) undefined undefined (omega arith))

pub past : (code : ℕ) → 32 ≤ code → undefined ≡ function_of code
unfolding function_of
past code high = sym (get_or-eq_default table51 undefined {n = code} high)

pub users : (code : ℕ) → 16 ≤ code → code < 32 → user_defined ≡ function_of code
unfolding function_of
users code low high =
    sym
    (ap (λ (i : ℕ). get_or table51 i undefined) {x = code} {y = 16 + (code - 16)} (omega arith)
    ∙ get_or-append-add (take 16 table51) (replicate 16 user_defined) (code - 16) undefined
    ∙ get_or-replicate 16 (code - 16) user_defined undefined (omega arith))

seven-most : (code : ℕ) → 7 ≤ code → (function_of code).most ≤ 7
seven-most code low = by (dec_lt code 16) (dec_lt code 32)
  where
    line : (f : Function) → f.most ≡ 7 → f ≡ function_of code → (function_of code).most ≤ 7
    line f most e = omega (arith, most, ap (λ (g : Function). g.most) e)

    by : Dec (code < 16) → Dec (code < 32) → (function_of code).most ≤ 7
    by (yes below) _ = line undefined refl (reserved code low below)
    by (no over) (yes below) = line user_defined refl (users code (omega arith) below)
    by (no _) (no over) = line undefined refl (past code (omega arith))

-- no message has more words than the clause lets any have
pub most-few : (code : ℕ) → (function_of code).most ≤ 7
unfolding function_of
most-few zero = lit≤ tt
most-few (suc zero) = lit≤ tt
most-few (suc (suc zero)) = lit≤ tt
most-few (suc (suc (suc zero))) = lit≤ tt
most-few (suc (suc (suc (suc zero)))) = lit≤ tt
most-few (suc (suc (suc (suc (suc zero))))) = lit≤ tt
most-few (suc (suc (suc (suc (suc (suc zero)))))) = lit≤ tt
most-few (suc (suc (suc (suc (suc (suc (suc k))))))) = seven-most (suc (suc (suc (suc (suc (suc (suc k))))))) (omega arith)

-- a code that is defined has five bits
pub defined-small : (code : ℕ) → (function_of code).defined ≡ true → code < 32
unfolding function_of
defined-small code e = by (dec_lt code 32)
  where
    by : Dec (code < 32) → code < 32
    by (yes small) = small
    by (no past) = absurd (true≢false (sym e ∙ ap (λ (f : Function). f.defined) (get_or-eq_default table51 undefined {n = code} (omega arith))))
