-- How an order of levels is written. Assumes nothing.
use Rattle.std.specs.Prelude.{ℕ, cond, List, [], ◌∷◌, is_some, Ok, Err, Result}
use Rattle.std.specs.Option.{ok_or}
use Rattle.std.specs.Result.{result_map_both}
use Rattle.orders.specs.Written.{Form, Written, chain, compartments, table, one, pair}
use Rattle.routine.specs.declared.faults.Expected.{Expected}
use Rattle.routine.specs.declared.faults.Expected.TheVariants as expected
use Rattle.routine.specs.declared.faults.Malformed.{Malformed}
use Rattle.routine.specs.declared.keywords.Kind.{Kind}
use Rattle.routine.specs.declared.keywords.Kind.TheVariants as kind
use Rattle.routine.specs.Faults.{missing}
use Rattle.routine.specs.Keywords.{kind_of, names_pair}
use Rattle.routine.specs.Gathered.{gathered}
use Rattle.routine.specs.Operands.{Tokens, Read, and_next, whole, one_token, number_in, byte_of}

-- the bytes of a table are the tokens up to the next kind of order
abbrev pub before_kind : Tokens → Tokens
before_kind [] = []
before_kind (token ∷ tokens) = cond (is_some (kind_of token)) [] (token ∷ before_kind tokens)

-- the tokens from the next kind of order on
abbrev pub from_kind : Tokens → Tokens
from_kind [] = []
from_kind (token ∷ tokens) = cond (is_some (kind_of token)) (token ∷ tokens) (from_kind tokens)

-- those bytes, read
abbrev pub bytes_in : Tokens → Read (List ℕ)
bytes_in tokens = result_map_both (λ bytes. (bytes, from_kind tokens)) (λ m. m) (gathered byte_of (before_kind tokens))

-- what stands behind a kind
abbrev pub form_in : Kind → Tokens → Read Form
form_in kind.Chain tokens = and_next (number_in 0xFFFF tokens) (λ n rest. Ok (chain n, rest))
form_in kind.Compartments tokens = and_next (number_in 0xFFFF tokens) (λ n rest. Ok (compartments n, rest))
form_in kind.Table tokens = and_next (number_in 0xFFFF tokens) (λ n rest. and_next (bytes_in rest) (λ bytes last. Ok (table n bytes, last)))

-- an order of one kind, where something is expected
abbrev pub simple_in : Expected → Tokens → Read Form
simple_in something tokens = and_next (one_token something (λ token. ok_or (kind_of token) something) tokens) form_in

-- two orders of one kind each
abbrev pub pair_in : Tokens → Read Written
pair_in tokens =
    and_next (simple_in expected.PartOrder tokens) (λ first rest. and_next (simple_in expected.PartOrder rest) (λ second last. Ok (pair first second, last)))

-- one of them alone
abbrev pub one_in : Tokens → Read Written
one_in tokens = and_next (simple_in expected.Order tokens) (λ form rest. Ok (one form, rest))

-- what stands behind the keyword `order`
abbrev pub order_of : Tokens → Result Written Malformed
order_of [] = Err (missing expected.Order)
order_of (token ∷ tokens) = whole (cond (names_pair token) (pair_in tokens) (one_in (token ∷ tokens)))
