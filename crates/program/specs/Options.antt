-- What the words of a command line say. Assumes nothing.
use Rattle.std.specs.Prelude.{ℕ, Bool, true, false, cond, List, [], ◌∷◌, Some, None, codes, Option, ◌==◌, slice_index}
use Rattle.std.specs.List.{list_any}
use Rattle.routine.specs.Keywords.{named}
use Rattle.program.specs.declared.options.Word.{Word}
use Rattle.program.specs.declared.options.Word.TheVariants.{Help, Version, Check, End, Unknown, Name}

-- the options that there are
unfoldable pub option_of : List ℕ → Option Word
option_of =
    named (
    (codes "--help", Help)
    ∷ (codes "-h", Help)
    ∷ (codes "--version", Version)
    ∷ (codes "--check", Check)
    ∷ (codes "--", End)
    ∷ []
    )

-- what begins with `-` (byte 45) and is no option is a mistake, and anything else is the name of a file
abbrev pub word_by : Option Word → List ℕ → Word
word_by (Some said) text = said
word_by None text = cond (slice_index text 0 == 45) Unknown Name

-- what one word says
abbrev pub word_of : List ℕ → Word
word_of text = word_by (option_of text) text

-- `--` ends the options
abbrev pub ends : Word → Bool
ends End = true
ends said = false

-- what words say one after the other: once options have ended, each is a name
abbrev pub words_from : Bool → List (List ℕ) → List Word
words_from ended [] = []
words_from true (text ∷ texts) = Name ∷ words_from true texts
words_from false (text ∷ texts) = word_of text ∷ words_from (ends (word_of text)) texts

-- a word asks that files be checked
abbrev pub checks : Word → Bool
checks Check = true
checks said = false

-- a word is no option that there is
abbrev pub unknown : Word → Bool
unknown Unknown = true
unknown said = false

-- what is asked for: whether files are to be checked, if every option is one
abbrev pub asked : List Word → Option Bool
asked words = cond (list_any unknown words) None (Some (list_any checks words))
