-- What a whole routine file gives. Assumes nothing.
use Rattle.std.specs.Prelude.{ℕ, ◌+◌, List, [], ◌∷◌, length, Ok, Err, Result}
use Rattle.text.specs.declared.checking.BadByte as checking
use Rattle.text.specs.Lines.{lines_of}
use Rattle.text.specs.Tokens.{tokens_of}
use Rattle.text.specs.Refusals.{checked}
use Rattle.routine.specs.declared.faults.Expected.TheVariants.{Text, Words}
use Rattle.routine.specs.declared.faults.Found.TheVariants.{Byte, EndOfFile}
use Rattle.routine.specs.declared.faults.Malformed.{Malformed}
use Rattle.routine.specs.Statements.{line_of}
use Rattle.routine.specs.Routines.{Draft, nothing, stepped}

-- the routine of a file, or the number of a line and what is wrong there
abbrev pub Given : Type 0
Given = Result Draft (ℕ × Malformed)

-- what line number n makes of a routine
abbrev pub after_line : ℕ → Draft → List ℕ → Result Draft Malformed
after_line n d line = stepped n d (line_of (tokens_of line))

-- reading goes on only where nothing was wrong; else the number of the line is told
abbrev pub goes_on : ℕ → Result Draft Malformed → (Draft → Given) → Given
goes_on n (Ok d) next = next d
goes_on n (Err m) next = Err (n, m)

-- what lines make of a routine, the first of them having number n
unfoldable pub lines_from : ℕ → List (List ℕ) → Draft → Given
lines_from n [] d = Ok d
lines_from n (line ∷ lines) d = goes_on n (after_line n d line) (lines_from (n + 1) lines)

-- a file whose lines give no word lacks them at its end
abbrev pub words_in : ℕ → Draft → List ℕ → Given
words_in end d [] = Err (end, record { expected = Words; found = EndOfFile })
words_in end d (w ∷ ws) = Ok d

-- and so for what the lines gave
abbrev pub some_words : ℕ → Given → Given
some_words end (Ok d) = words_in end d d.words
some_words end (Err wrong) = Err wrong

-- bytes that are not text come before all else
abbrev pub text_only : Result (Unit {0}) checking.BadByte → Given → Given
text_only (Ok fine) given = given
text_only (Err bad) given = Err (bad.line, record { expected = Text; found = Byte bad.byte })

-- what a file gives
abbrev pub routine_of : List ℕ → Given
routine_of file = text_only (checked file) (some_words (length (lines_of file) + 1) (lines_from 1 (lines_of file) nothing))
