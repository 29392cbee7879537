-- Many values combined. Assumes nothing.
use Rattle.std.specs.Prelude.{◌≡◌, true, List}
use Rattle.std.specs.List.{All, Contains, fold}
use Rattle.joins.specs.Joins.{Joins, IsBelow}

-- the join of the values of a list, one after another, beginning with the least one
abbrev pub fold_of : {T : Type 0} → Joins T → List T → T
fold_of j xs = fold j.join j.least xs

-- all values of a list are members
abbrev pub AllMembers : {T : Type 0} → Joins T → List T → Type 0
AllMembers j xs = All (λ x. j.member x ≡ true) xs

-- all values of a list lie at or below one
abbrev pub AllBelow : {T : Type 0} → Joins T → List T → T → Type 0
AllBelow j xs c = All (λ x. IsBelow j x c) xs

-- the least member that all values of a list lie at or below
pub record LeastAbove {T : Type 0} (j : Joins T) (xs : List T) (r : T) : Type 0 where
  pub member : j.member r ≡ true
  pub above : AllBelow j xs r
  pub least : (c : T) → j.member c ≡ true → AllBelow j xs c → IsBelow j r c

-- two lists have the same values, in whatever sequence and however often
pub record SameValues {T : Type 0} (xs ys : List T) : Type 0 where
  pub there : (x : T) → Contains xs x → Contains ys x
  pub back : (x : T) → Contains ys x → Contains xs x

-- and whatever list has the values of this one is folded to the same
abbrev pub FoldsAlike : {T : Type 0} → Joins T → List T → T → Type 0
FoldsAlike {T} j xs r = (ys : List T) → SameValues xs ys → fold_of j ys ≡ r
