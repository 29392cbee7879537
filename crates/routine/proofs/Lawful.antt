-- The laws of reading. Assumes nothing.
use Rattle.std.proofs.Common.{◌≡◌, ℕ, ◌+◌, List, [], ◌∷◌, ◌++◌, map, length, take, Ok, Err, Result, nat_lt, refl, ◌∙◌, arith}
use Rattle.routine.specs.Quotes.{quote_length, quote_of, quoted, is_cut}
use Rattle.routine.specs.Gathered.{gathered}
use Rattle.routine.specs.Operands.{word_of, byte_of}
use Rattle.routine.specs.Routines.{Draft}
use Rattle.routine.specs.Files.{lines_from}
use Rattle.routine.specs.Laws.{ReadingStands}
use Rattle.routine.proofs.Quoting.{shown}
use Rattle.routine.proofs.Turns.{lines_wrong}

module _ {X Y E : Type 0} (reads : X → Result Y E) where
  all : (parts : List X) (values : List Y) → map reads parts ≡ map Ok values → gathered reads parts ≡ Ok values
  all [] [] h = refl
  all [] (y ∷ ys) h = grind arith
  all (x ∷ xs) [] h = grind arith
  all (x ∷ xs) (y ∷ ys) h = grind (arith, all xs ys)

  first : (parts : List X) (values : List Y) (bad : X) (wrong : E) (after : List X) → map reads parts ≡ map Ok values → reads bad ≡ Err wrong →
      gathered reads (parts ++ bad ∷ after) ≡ Err wrong
  first [] values bad wrong after h e = grind arith
  first (x ∷ xs) [] bad wrong after h e = grind arith
  first (x ∷ xs) (y ∷ ys) bad wrong after h e = grind (arith, first xs ys bad wrong after)

onward : (n : ℕ) (lines more : List (List ℕ)) (d e : Draft) → lines_from n lines d ≡ Ok e → lines_from n (lines ++ more) d ≡ lines_from (n + length lines) more e
unfolding lines_from
onward n [] more d e h = grind arith
onward n (line ∷ lines) more d e h = grind (arith, λ (c : Draft). onward (n + 1) lines more c e)

front_shown : (token : List ℕ) → quoted (quote_of token) ≡ take quote_length token
unfolding quote_of
front_shown token = shown quote_length token

rest_told : (token : List ℕ) → is_cut (quote_of token) ≡ nat_lt quote_length (length token)
unfolding quote_of
rest_told token = refl

pub reading_law : ReadingStands
reading_law = record {
  words = record { all = all word_of; first = first word_of };
  bytes = record { all = all byte_of; first = first byte_of };
  lines = record {
    onward = onward;
    first = λ n lines bad more d e wrong read bad-read. onward n lines (bad ∷ more) d e read ∙ lines_wrong (n + length lines) (bad ∷ more) e bad more refl wrong bad-read;
  };
  quotes = record { shown = front_shown; cut = rest_told };
}
