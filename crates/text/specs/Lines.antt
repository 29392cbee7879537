-- The lines of a file. Assumes nothing.
use Rattle.std.specs.Prelude.{◌≡◌, ℕ, ◌<◌, true, cond, List, [], ◌∷◌, length, drop, is_some, Option}
use Rattle.std.specs.Iterator.{YieldsFirstBy}
use Rattle.text.specs.declared.cursors.Line.{Line}
use Rattle.text.specs.declared.cursors.Lines.{Lines}
use Rattle.text.specs.Bytes.{newline, in_line}
use Rattle.text.specs.Cuts.{behind, onto}

-- what a cursor over a file, and one over a line, has not yet given
abbrev pub file_left : Lines → List ℕ
file_left lines = lines.rest.now

-- the bytes of a line that were not yet given
abbrev pub line_left : Line → List ℕ
line_left line = line.rest.now

-- byte 10 ends a line, and so does the end of the file
unfoldable pub lines_of : List ℕ → List (List ℕ)
lines_of [] = []
lines_of (b ∷ bs) = cond (newline b) ([] ∷ lines_of bs) (onto b (lines_of bs))

-- the lines that a cursor has not yet given
abbrev pub lines_left : Lines → List (List ℕ)
lines_left lines = lines_of (file_left lines)

-- what follows the first line and the byte that ends it
abbrev pub after_line : List ℕ → List ℕ
after_line bs = drop 1 (behind in_line bs)

-- a cursor gives its next line, or none where no line is left; what follows the line is left, and it is shorter
pub record GivesLine (lines : Lines) (given : Option Line) (others : Lines) : Type 0 where
  pub first : YieldsFirstBy line_left lines_left lines given others
  pub rest : file_left others ≡ after_line (file_left lines)
  pub shorter : is_some given ≡ true → length (file_left others) < length (file_left lines)
