-- What is read from parts one after the other. Assumes nothing.
use Rattle.std.specs.Prelude.{List, [], ◌∷◌, Ok, Err, Result}

-- one value more in front of those that are read: the first error decides
abbrev pub consed : {Y E : Type 0} → Result Y E → Result (List Y) E → Result (List Y) E
consed (Ok y) (Ok ys) = Ok (y ∷ ys)
consed (Ok y) (Err e) = Err e
consed (Err e) s = Err e

-- what all parts give, where `reads` is what one of them does
abbrev pub gathered : {X Y E : Type 0} → (X → Result Y E) → List X → Result (List Y) E
gathered reads [] = Ok []
gathered reads (x ∷ xs) = consed (reads x) (gathered reads xs)
