-- The tokens of a line. Assumes nothing.
use Rattle.std.specs.Prelude.{◌≡◌, ℕ, ◌<◌, true, cond, List, [], ◌∷◌, length, is_some, Option, slice_index_or}
use Rattle.std.specs.Borrow.{Bor}
use Rattle.std.specs.Iterator.{YieldsFirstRef}
use Rattle.text.specs.declared.cursors.Line.{Line}
use Rattle.text.specs.Bytes.{blank, solid}
use Rattle.text.specs.Cuts.{behind, onto}
use Rattle.text.specs.Lines.{line_left}

-- blanks stand between tokens; a token is a longest run of solid bytes; at any other byte, as the `;` of a comment, the tokens
-- end. A solid byte belongs to the token of a solid byte right behind it, and past the last byte a newline is assumed
unfoldable pub tokens_of : List ℕ → List (List ℕ)
tokens_of [] = []
tokens_of (b ∷ bs) =
    cond (blank b) (tokens_of bs) (cond (solid b) (cond (solid (slice_index_or bs 0 10)) (onto b (tokens_of bs)) ((b ∷ []) ∷ tokens_of bs)) [])

-- the tokens that a cursor has not yet given
abbrev pub tokens_left : Line → List (List ℕ)
tokens_left line = tokens_of (line_left line)

-- what follows the first token and the blanks before it
abbrev pub after_token : List ℕ → List ℕ
after_token bs = behind solid (behind blank bs)

-- a cursor gives its next token, or none where no token is left; what follows the token is left, and it is shorter
pub record GivesToken (line : Line) (given : Option (Bor (List ℕ))) (others : Line) : Type 0 where
  pub first : YieldsFirstRef tokens_left line given others
  pub rest : line_left others ≡ after_token (line_left line)
  pub shorter : is_some given ≡ true → length (line_left others) < length (line_left line)
