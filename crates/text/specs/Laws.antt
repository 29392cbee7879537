-- What lines, tokens, numbers, assignments and the check of bytes come to, in words that do not follow the code. Assumes nothing.
use Rattle.std.specs.Prelude.{◌≡◌, ℕ, ◌+◌, ◌^◌, ◌<◌, Bool, true, false, cond, List, [], ◌∷◌, ◌++◌, length, Some, None, Ok, Err, decimal, count_by}
use Rattle.std.specs.Fmt.{digits}
use Rattle.std.specs.List.{AllByRecursion}
use Rattle.text.specs.Bytes.{newline, blank, semicolon, equals, allowed}
use Rattle.text.specs.Lines.{lines_of}
use Rattle.text.specs.Tokens.{tokens_of}
use Rattle.text.specs.Numbers.{number_of}
use Rattle.text.specs.Refusals.{checked, assigned}

-- each byte fails a test
abbrev pub Without : (ℕ → Bool) → List ℕ → Type 0
Without test bs = AllByRecursion (λ b. test b ≡ false) bs

-- lines written one below the other, each ended by byte 10
abbrev pub written : List (List ℕ) → List ℕ
written [] = []
written (line ∷ lines) = line ++ 10 ∷ written lines

-- the newline that the last line of a file lacks
abbrev pub missing : List ℕ → List ℕ
missing [] = []
missing (b ∷ []) = cond (newline b) [] (10 ∷ [])
missing (b ∷ c ∷ bs) = missing (c ∷ bs)

-- a file is its lines: none holds a newline; written again they are the file, its last line ended; and any lines come back
pub record LinesStand : Type 0 where
  pub each : (file : List ℕ) → AllByRecursion (Without newline) (lines_of file)
  pub again : (file : List ℕ) → written (lines_of file) ≡ file ++ missing file
  pub back : (lines : List (List ℕ)) → AllByRecursion (Without newline) lines → lines_of (written lines) ≡ lines

-- what a token is
pub record Token (token : List ℕ) : Type 0 where
  pub some : 0 < length token
  pub blanks : Without blank token
  pub comments : Without semicolon token
  pub newlines : Without newline token

-- tokens in a row, a space before each
abbrev pub spaced : List (List ℕ) → List ℕ
spaced [] = []
spaced (token ∷ tokens) = 32 ∷ (token ++ spaced tokens)

-- a line gives tokens only, any row of tokens comes back, and what follows a `;` adds none
pub record TokensStand : Type 0 where
  pub each : (line : List ℕ) → AllByRecursion Token (tokens_of line)
  pub back : (tokens : List (List ℕ)) → AllByRecursion Token tokens → tokens_of (spaced tokens) ≡ tokens
  pub comments : (line comment : List ℕ) → tokens_of (line ++ 59 ∷ comment) ≡ tokens_of line

-- what is written of a number reads as that number: in decimal, and in hexadecimal with letters of either case after `0x` or `0X`
pub record NumbersStand : Type 0 where
  pub decimals : (n : ℕ) → n < 2 ^ 64 → number_of (decimal n) ≡ Some n
  pub hexadecimals : (n : ℕ) (upper : Bool) → n < 2 ^ 64 → (number_of (48 ∷ 120 ∷ digits 16 upper n) ≡ Some n) × (number_of (48 ∷ 88 ∷ digits 16 upper n) ≡ Some n)

-- a token with an `=` is split at the first one, and one without is no assignment
pub record AssignmentsStand : Type 0 where
  pub some : (name value : List ℕ) → Without equals name → assigned (name ++ 61 ∷ value) ≡ Some (name, value)
  pub none : (token : List ℕ) → Without equals token → assigned token ≡ None

-- bytes that are all allowed pass, and of others the first that is not is refused, with one more than the newlines before it
pub record ChecksStand : Type 0 where
  pub fine : (bs : List ℕ) → AllByRecursion (λ b. allowed b ≡ true) bs → checked bs ≡ Ok tt
  pub bad : (bs : List ℕ) (b : ℕ) (after : List ℕ) → AllByRecursion (λ c. allowed c ≡ true) bs → allowed b ≡ false →
      checked (bs ++ b ∷ after) ≡ Err (record { line = 1 + count_by newline bs; byte = b })
