-- What reading comes to, in words that do not follow its steps. Assumes nothing.
use Rattle.std.specs.Prelude.{◌≡◌, ℕ, ◌+◌, List, ◌∷◌, ◌++◌, map, length, take, Ok, Err, Result, nat_lt}
use Rattle.routine.specs.declared.faults.Malformed.{Malformed}
use Rattle.routine.specs.Quotes.{quote_length, quote_of, quoted, is_cut}
use Rattle.routine.specs.Gathered.{gathered}
use Rattle.routine.specs.Operands.{word_of, byte_of}
use Rattle.routine.specs.Routines.{Draft}
use Rattle.routine.specs.Files.{after_line, lines_from}

-- parts that are all well formed give their values in their order, and else the first that is not decides
pub record Gathers {X Y E : Type 0} (reads : X → Result Y E) : Type 0 where
  pub all : (parts : List X) (values : List Y) → map reads parts ≡ map Ok values → gathered reads parts ≡ Ok values
  pub first : (parts : List X) (values : List Y) (bad : X) (wrong : E) (after : List X) → map reads parts ≡ map Ok values → reads bad ≡ Err wrong →
      gathered reads (parts ++ bad ∷ after) ≡ Err wrong

-- lines are read one after the other: where the first of them make d of a routine, the others go on from d, and where the
-- next one is wrong, it is told with its number, whatever follows
pub record LinesInTurn : Type 0 where
  pub onward : (n : ℕ) (lines more : List (List ℕ)) (d e : Draft) → lines_from n lines d ≡ Ok e → lines_from n (lines ++ more) d ≡ lines_from (n + length lines) more e
  pub first : (n : ℕ) (lines : List (List ℕ)) (bad : List ℕ) (more : List (List ℕ)) (d e : Draft) (wrong : Malformed) → lines_from n lines d ≡ Ok e →
      after_line (n + length lines) e bad ≡ Err wrong → lines_from n (lines ++ bad ∷ more) d ≡ Err (n + length lines, wrong)

-- a quote shows the first bytes of a token, and tells whether the token has more
pub record Quotes : Type 0 where
  pub shown : (token : List ℕ) → quoted (quote_of token) ≡ take quote_length token
  pub cut : (token : List ℕ) → is_cut (quote_of token) ≡ nat_lt quote_length (length token)

-- words, bytes and lines are read in this way, and tokens quoted
pub record ReadingStands : Type 0 where
  pub words : Gathers word_of
  pub bytes : Gathers byte_of
  pub lines : LinesInTurn
  pub quotes : Quotes
