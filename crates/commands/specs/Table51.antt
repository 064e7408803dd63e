-- Function codes and their payload: clause 7.3.7.6, Table 51; request 6. Assumes nothing.
use Rattle.std.specs.Prelude.{true, false, List, ◌∷◌, ◌++◌, ℕ, get_or, replicate}
use Rattle.commands.specs.declared.table51.Function.{Function}

-- the most payload words of any message (clause 7.3.7.4)
abbrev pub most_words : ℕ
most_words = 7

-- so many words, any number of words, and a code that is not defined: payload behind it is as long as the clause lets any be
abbrev pub exactly : ℕ → Function
exactly n = record { defined = true; fewest = n; most = n }

abbrev pub user_defined : Function
user_defined = record { defined = true; fewest = 0; most = most_words }

abbrev pub undefined : Function
undefined = record { defined = false; fewest = 0; most = most_words }

-- a code's number is its place here
abbrev pub table51 : List Function
table51 =
    exactly 0 ∷ exactly 5 ∷ exactly 2 ∷ exactly 4 ∷ exactly 5 ∷ exactly 0 ∷ exactly 0 ∷ replicate 9 undefined
    ++ replicate 16 user_defined

unfoldable pub function_of : ℕ → Function
function_of code = get_or table51 code undefined
