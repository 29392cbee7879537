-- What the laws give of folds.
use Rattle.std.proofs.Common.{◌≡◌, ℕ, ◌≤◌, true, List, [], ◌∷◌, ◌++◌, length, drop, sym, ◌∙◌, drop_of_length-le}
use Rattle.std.specs.List.{Contains, fold}
use Rattle.std.proofs.lemmas.List.Sums.{fold-append}
use Rattle.std.proofs.lemmas.List.Elements.{All-nil, All-cons, All-head, All-tail, All-contains, All-contains_itself, All-weaker}
use Rattle.joins.specs.Joins.{Joins, JoinLaws, IsBelow}
use Rattle.joins.specs.Folds.{fold_of, AllMembers, AllBelow, LeastAbove, SameValues, FoldsAlike}

module _ {T : Type 0} (j : Joins T) (laws : JoinLaws j) where
  -- the order of members
  pub below_self : (a : T) → j.member a ≡ true → IsBelow j a a
  below_self a x = laws.idempotent a x

  pub below_along : (a b c : T) → j.member a ≡ true → j.member b ≡ true → j.member c ≡ true → IsBelow j a b → IsBelow j b c → IsBelow j a c
  below_along a b c x y z f g = let e = laws.associative a b c x y z in cc

  pub below_one : (a b : T) → j.member a ≡ true → j.member b ≡ true → IsBelow j a b → IsBelow j b a → a ≡ b
  below_one a b x y f g = let e = laws.commutative a b x y in cc

  pub left_below : (a b : T) → j.member a ≡ true → j.member b ≡ true → IsBelow j a (j.join a b)
  left_below a b x y = let e = laws.associative a a b x x y in let i = laws.idempotent a x in cc

  pub right_below : (a b : T) → j.member a ≡ true → j.member b ≡ true → IsBelow j b (j.join a b)
  right_below a b x y = let e = laws.commutative a b x y in let l = left_below b a y x in cc

  pub both_below : (a b c : T) → j.member a ≡ true → j.member b ≡ true → j.member c ≡ true → IsBelow j a c → IsBelow j b c → IsBelow j (j.join a b) c
  both_below a b c x y z f g = let e = laws.associative a b c x y z in cc

  -- a fold from some member on: the least member above that one and all values
  pub record From (start : T) (xs : List T) (r : T) : Type 0 where
    pub member : j.member r ≡ true
    pub begun : IsBelow j start r
    pub above : AllBelow j xs r
    pub least : (c : T) → j.member c ≡ true → IsBelow j start c → AllBelow j xs c → IsBelow j r c

  fold_from : (start : T) (xs : List T) → j.member start ≡ true → AllMembers j xs → From start xs (fold j.join start xs)
  fold_from start [] s all = record {
    member = s;
    begun = below_self start s;
    above = All-nil (λ x. IsBelow j x start);
    least = λ c m b a. b;
  }
  fold_from start (x ∷ xs) s all =
      let P : T → Type 0 = λ v. j.member v ≡ true in
      let here = All-head P x xs all in
      let next = laws.join_member start x s here in
      let rest = fold_from (j.join start x) xs next (All-tail P x xs all) in
      record {
        member = rest.member;
        begun = below_along start _ _ s next rest.member (left_below start x s here) rest.begun;
        above = All-cons (λ v. IsBelow j v (fold j.join start (x ∷ xs))) x xs (below_along x _ _ here next rest.member (right_below start x s here) rest.begun) rest.above;
        least = λ c m b a.
            let Q : T → Type 0 = λ v. IsBelow j v c in
            rest.least c m (both_below start x c s here m b (All-head Q x xs a)) (All-tail Q x xs a);
      }

  pub fold_least : (xs : List T) → AllMembers j xs → LeastAbove j xs (fold_of j xs)
  fold_least xs all =
      let f = fold_from j.least xs laws.least_member all in
      record { member = f.member; above = f.above; least = λ c m a. f.least c m (laws.neutral c m) a }

  -- a fold from a member on is its join with the fold from the least one on
  pub fold_of_members : (xs : List T) → AllMembers j xs → j.member (fold_of j xs) ≡ true
  fold_of_members xs all = (fold_from j.least xs laws.least_member all).member

  pub fold_start : (a : T) (xs : List T) → j.member a ≡ true → AllMembers j xs → fold j.join a xs ≡ j.join a (fold_of j xs)
  fold_start a [] m all = let e = laws.neutral a m in let f = laws.commutative a j.least m laws.least_member in cc
  fold_start a (x ∷ xs) m all =
      let P : T → Type 0 = λ v. j.member v ≡ true in
      let here = All-head P x xs all in
      let rest = All-tail P x xs all in
      let e = fold_start (j.join a x) xs (laws.join_member a x m here) rest in
      let f = fold_start (j.join j.least x) xs (laws.join_member j.least x laws.least_member here) rest in
      let g = laws.neutral x here in
      let h = laws.associative a x (fold_of j xs) m here (fold_of_members xs rest) in
      cc

  -- the fold of two lists, one after the other
  pub fold_both : (xs ys : List T) → AllMembers j xs → AllMembers j ys → fold_of j (xs ++ ys) ≡ j.join (fold_of j xs) (fold_of j ys)
  fold_both xs ys all others = fold-append j.join j.least xs ys ∙ fold_start (fold_of j xs) ys (fold_of_members xs all) others

  -- of lists with the same values
  members_too : (xs ys : List T) → SameValues xs ys → AllMembers j xs → AllMembers j ys
  members_too xs ys same all =
      let P : T → Type 0 = λ v. j.member v ≡ true in
      All-weaker (Contains ys) P (λ v c. All-contains P xs v all (same.back v c)) ys (All-contains_itself ys)

  pub fold_alike : (xs : List T) → AllMembers j xs → FoldsAlike j xs (fold_of j xs)
  fold_alike xs all ys same =
      let f = fold_least xs all in
      let g = fold_least ys (members_too xs ys same all) in
      below_one _ _ g.member f.member
      (g.least _ f.member (let P : T → Type 0 = λ v. IsBelow j v (fold_of j xs) in All-weaker (Contains ys) P (λ v c. All-contains P xs v f.above (same.back v c)) ys (All-contains_itself ys)))
      (f.least _ g.member (let P : T → Type 0 = λ v. IsBelow j v (fold_of j ys) in All-weaker (Contains xs) P (λ v c. All-contains P ys v g.above (same.there v c)) xs (All-contains_itself xs)))

  -- the same of what is equal to a fold
  pub least_at : (xs : List T) (r : T) → r ≡ fold_of j xs → AllMembers j xs → LeastAbove j xs r
  least_at xs r e all = rw e (fold_least xs all)

  pub alike_at : (xs : List T) (r : T) → r ≡ fold_of j xs → AllMembers j xs → FoldsAlike j xs r
  alike_at xs r e all ys same = fold_alike xs all ys same ∙ sym e

  -- past the last value
  pub folded_all : (xs : List T) (i : ℕ) (r : T) → length xs ≤ i → fold j.join r (drop i xs) ≡ fold_of j xs → r ≡ fold_of j xs
  folded_all xs i r l e = rw (drop_of_length-le xs l) at e
