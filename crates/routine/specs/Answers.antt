-- How the answers of the code go with what a file says. Assumes nothing.
use Rattle.std.specs.Prelude.{◌≡◌, ℕ, List, Ok, Err, Result}
use Rattle.text.specs.declared.cursors.Line.{Line}
use Rattle.text.specs.Lines.{lines_of}
use Rattle.text.specs.Tokens.{tokens_left}
use Rattle.routine.specs.declared.faults.Expected.{Expected}
use Rattle.routine.specs.declared.faults.Fault.{Fault}
use Rattle.routine.specs.declared.faults.Fault.TheVariants as fault
use Rattle.routine.specs.declared.faults.FileFault.{FileFault}
use Rattle.routine.specs.declared.faults.Malformed.{Malformed}
use Rattle.routine.specs.Operands.{Tokens, Read}
use Rattle.routine.specs.declared.routines.Routine.{Routine}
use Rattle.routine.specs.Routines.{draft_of}
use Rattle.routine.specs.Files.{lines_from}

-- a fault says what is wrong in the file, and `place` where; or that memory was wanting, which no file decides
abbrev pub Blames : {X E : Type 0} → (Malformed → E) → Fault → Result X E → Type 0
Blames place (fault.Malformed m) given = given ≡ Err (place m)
Blames place fault.NoMemory given = Unit {0}

-- an answer is what the tokens of a line say, where `view` is what is to be known of it
abbrev pub Answers : {A X : Type 0} → (A → X) → Result A Fault → (Tokens → Result X Malformed) → Line → Type 0
Answers view (Ok a) says line = says (tokens_left line) ≡ Ok (view a)
Answers view (Err f) says line = Blames (λ m. m) f (says (tokens_left line))

-- an answer is what a line says first, and what it goes on with is left
abbrev pub Reads : {A X : Type 0} → (A → X) → Result A Fault → (Tokens → Read X) → Line → Line → Type 0
Reads view (Ok a) says line rest = says (tokens_left line) ≡ Ok (view a, tokens_left rest)
Reads view (Err f) says line rest = Blames (λ m. m) f (says (tokens_left line))

-- the same of what needs no memory
abbrev pub Finds : {A X : Type 0} → (A → X) → Result A Malformed → (Tokens → Read X) → Line → Line → Type 0
Finds view (Ok a) says line rest = says (tokens_left line) ≡ Ok (view a, tokens_left rest)
Finds view (Err m) says line rest = says (tokens_left line) ≡ Err m

-- what calls answer for a token is what it says
abbrev pub Says : {A : Type 0} → (List ℕ → Result A Expected → Type 0) → (List ℕ → Result A Expected) → Type 0
Says {A} answers says = (token : List ℕ) (r : Result A Expected) → answers token r → r ≡ says token

-- what a routine, or a set of its rows, becomes is what is made of it
abbrev pub Makes : {A X : Type 0} → (A → X) → Result (Unit {0}) Fault → A → A → (X → Result X Malformed) → Type 0
Makes view (Ok done) before after given = given (view before) ≡ Ok (view after)
Makes view (Err f) before after given = Blames (λ m. m) f (given (view before))

-- all lines of a file are read
abbrev pub ReadsLines : Result (Unit {0}) FileFault → Routine → Routine → List ℕ → Type 0
ReadsLines (Ok done) before after file = lines_from 1 (lines_of file) (draft_of before) ≡ Ok (draft_of after)
ReadsLines (Err f) before after file = Blames (λ m. (f.line, m)) f.fault (lines_from 1 (lines_of file) (draft_of before))
