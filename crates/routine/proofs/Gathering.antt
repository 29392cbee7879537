-- How parts are gathered one by one. Assumes nothing.
use Rattle.std.proofs.Common.{◌≡◌, List, [], ◌∷◌, ◌++◌, Ok, Err, Result, append_assoc, arith}
use Rattle.std.specs.Result.{result_map_both}
use Rattle.routine.specs.Gathered.{gathered}

pub unchanged : {Y E : Type 0} (r : Result Y E) → result_map_both (λ y. y) (λ e. e) r ≡ r
unchanged r = grind arith

-- values, and behind them those that are still to be read
abbrev pub appended : {Y E : Type 0} → List Y → Result (List Y) E → Result (List Y) E
appended xs (Ok ys) = Ok (xs ++ ys)
appended xs (Err e) = Err e

module _ {X Y E : Type 0} (reads : X → Result Y E) (parts : List X) (before : List Y) where
  -- one part more
  pub gather_more : (x : X) (rest : List X) (y : Y) → parts ≡ x ∷ rest → Ok y ≡ reads x → appended before (gathered reads parts) ≡ appended (before ++ y ∷ []) (gathered reads rest)
  gather_more x rest y split read = grind (arith, append_assoc)

  -- a part that is wrong
  pub gather_wrong : (x : X) (rest : List X) (e : E) → parts ≡ x ∷ rest → Err e ≡ reads x → appended before (gathered reads parts) ≡ Err e
  gather_wrong x rest e split read = grind arith
