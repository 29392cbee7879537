-- How the bytes of a table are read one by one. Assumes nothing.
use Rattle.std.proofs.Common.{ℕ, List, Result}
use Rattle.std.specs.Result.{result_map_both}
use Rattle.routine.specs.declared.faults.Malformed.{Malformed}
use Rattle.routine.specs.Gathered.{gathered}
use Rattle.routine.specs.Operands.{Tokens, Read, byte_of}
use Rattle.routine.specs.Orders.{before_kind, from_kind}
use Rattle.routine.proofs.Gathering.{appended}

-- bytes that are left behind a table: what is gathered, and the tokens that are left
abbrev pub leaving : Tokens → Result (List ℕ) Malformed → Read (List ℕ)
leaving last r = result_map_both (λ bytes. (bytes, last)) (λ m. m) r

-- bytes, and behind them those that are still to be read
abbrev pub read_on : List ℕ → Tokens → Read (List ℕ)
read_on before tokens = leaving (from_kind tokens) (appended before (gathered byte_of (before_kind tokens)))
