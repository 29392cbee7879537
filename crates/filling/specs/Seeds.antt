-- What of given rows is read, and what filling in begins with. Assumes nothing.
use Rattle.std.specs.Prelude.{◌≡◌, ℕ, ◌+◌, ◌%◌, ◌<◌, ◌≤◌, Bool, cond, ◌||◌, List, [], ◌∷◌, length, nat_lt}
use Rattle.verdicts.specs.Verdict.{Verdict, and_then}
use Rattle.words.specs.Legal.{legal_of}
use Rattle.levels.specs.Order.{Meaning}
use Rattle.secrecy.specs.Rows.{cell, is_among, given_columns, columns, region_column}
use Rattle.secrecy.specs.Rules.{length_rule, row_rules}

-- whether the number at an index of a list of rows is read: all of the first row, and the given columns of every other
abbrev pub is_read : ℕ → Bool
is_read i = nat_lt i columns || is_among given_columns (i % columns)

-- numbers from an index on, with 0 for each that is not read
unfoldable pub seeded : ℕ → List ℕ → List ℕ
seeded i [] = []
seeded i (x ∷ xs) = cond (is_read i) x 0 ∷ seeded (i + 1) xs

-- the rows that filling in begins with: what is read of the given ones, and level 0 elsewhere
abbrev pub seed_of : List ℕ → List ℕ
seed_of given = seeded 0 given

-- no row but the first has a level above 0
pub record FirstAlone (n : ℕ) (rows : List ℕ) : Type 0 where
  pub others : (row column : ℕ) → 0 < row → column ≤ region_column → cell n rows row column ≡ 0

-- What is refused before any level is filled in: words that are no listing, given rows and then receiving rows of the wrong length,
-- and then, row by row, a code that is not held and a wrong shape, where only what is read counts.
abbrev pub given_verdict : Meaning → List ℕ → List ℕ → List ℕ → Verdict
given_verdict m ws given receiving =
    and_then (legal_of ws)
    (and_then (length_rule (length ws) given) (and_then (length_rule (length ws) receiving) (row_rules m (length ws) (seed_of given))))
