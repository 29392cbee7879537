-- Rows of the table, as lists of them.
use Rattle.std.proofs.Common.{◌≡◌, ℕ, List, [], ◌∷◌, Some, arith}
use Rattle.std.proofs.lemmas.Bool.Decides.{nat_tests}
use Rattle.avr.specs.Table.{Row, lookup}

-- P of each row
abbrev pub EachRow : (ℕ → List ℕ → Type 0) → List Row → Type 0
EachRow P [] = Unit {0}
EachRow P (r ∷ rs) = P r.place r.sources × EachRow P rs

-- what is found has what each row has
pub found : (P : ℕ → List ℕ → Type 0) (rs : List Row) (p : ℕ) (qs : List ℕ) → EachRow P rs → lookup p rs ≡ Some qs → P p qs
found P [] p qs h e = absurd (cc)
found P (r ∷ rs) p qs h e = grind (arith, nat_tests, found P rs p qs h.1)
