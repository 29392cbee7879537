-- What the tokens of a statement say, read from the first on. Assumes nothing.
use Rattle.std.specs.Prelude.{ℕ, List, [], ◌∷◌, drop, Some, None, Ok, Err, Option, Result, ◌==◌, slice_index}
use Rattle.std.specs.Bool.{then_some}
use Rattle.std.specs.Result.{result_map_both}
use Rattle.text.specs.declared.numbers.NumberFault.{NumberFault}
use Rattle.text.specs.declared.numbers.NumberFault.TheVariants as number
use Rattle.text.specs.Numbers.{number_of, limited}
use Rattle.avr.specs.declared.location.Location.{Location}
use Rattle.avr.specs.declared.location.Location.TheVariants as location
use Rattle.routine.specs.declared.faults.Expected.{Expected}
use Rattle.routine.specs.declared.faults.Expected.TheVariants as expected
use Rattle.routine.specs.declared.faults.Malformed.{Malformed}
use Rattle.routine.specs.Faults.{missing, wrong, quoting}
use Rattle.routine.specs.Gathered.{gathered}

-- the tokens of a line that are still to be read
abbrev pub Tokens : Type 0
Tokens = List (List ℕ)

-- what is read from the front of some tokens, with those that are left, or what is wrong
abbrev pub Read : Type 0 → Type 0
Read X = Result (X × Tokens) Malformed

-- more is read from the tokens that are left
abbrev pub and_next : {X Y : Type 0} → Read X → (X → Tokens → Read Y) → Read Y
and_next (Ok p) next = next p.0 p.1
and_next (Err m) next = Err m

-- no token is left
abbrev pub no_more : {X : Type 0} → X → Tokens → Result X Malformed
no_more x [] = Ok x
no_more x (token ∷ tokens) = Err (wrong expected.EndOfLine token)

-- a reading after which no token may be left
abbrev pub whole : {X : Type 0} → Read X → Result X Malformed
whole (Ok p) = no_more p.0 p.1
whole (Err m) = Err m

-- what has no operands reads none
abbrev pub alone : {X : Type 0} → X → Tokens → Read X
alone x tokens = Ok (x, tokens)

-- what one token says, where something is expected
abbrev pub one_token : {X : Type 0} → Expected → (List ℕ → Result X Expected) → Tokens → Read X
one_token something says [] = Err (missing something)
one_token something says (token ∷ tokens) = result_map_both (λ x. (x, tokens)) (λ m. m) (quoting says token)

-- what is expected where a token writes no number from 0 to `most`
abbrev pub number_expected : ℕ → NumberFault → Expected
number_expected most number.NoNumber = expected.Number most
number_expected most number.TooLarge = expected.AtMost most

-- a number from 0 to `most`
unfoldable pub number_as : ℕ → List ℕ → Result ℕ Expected
number_as most token = result_map_both (λ n. n) (number_expected most) (limited most (number_of token))

-- such a number as the next token
abbrev pub number_in : ℕ → Tokens → Read ℕ
number_in most tokens = one_token (expected.Number most) (number_as most) tokens

-- a word has 16 bits, a byte 8
abbrev pub word_of : List ℕ → Result ℕ Malformed
word_of token = quoting (number_as 0xFFFF) token

-- the byte that a token writes
abbrev pub byte_of : List ℕ → Result ℕ Malformed
byte_of token = quoting (number_as 0xFF) token

-- what stands behind the keyword `words`: one number or more
abbrev pub words_of : Tokens → Result (List ℕ) Malformed
words_of [] = Err (missing expected.Operand)
words_of (token ∷ tokens) = gathered word_of (token ∷ tokens)

-- what follows the letter `r` (byte 114), if a token begins with it
abbrev pub digits_of_register : List ℕ → Option (List ℕ)
digits_of_register token = then_some (slice_index token 0 == 114) (drop 1 token)

-- a place is `r` and the number of a register, or else an address of the memory
abbrev pub place_by : Option (List ℕ) → List ℕ → Result Location Expected
place_by (Some digits) token = result_map_both location.Register (λ f. expected.Place) (limited 0xFF (number_of digits))
place_by None token = result_map_both location.Memory (λ f. expected.Place) (limited 0xFFFF (number_of token))

-- the place that a token names
unfoldable pub place_of : List ℕ → Result Location Expected
place_of token = place_by (digits_of_register token) token

-- a place as the next token
abbrev pub place_in : Tokens → Read Location
place_in tokens = one_token expected.Place place_of tokens
