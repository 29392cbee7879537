-- Several sets of rows pooled, two at a time, in some sequence and bracketing. Assumes nothing.
use Rattle.std.specs.Prelude.{◌≡◌, ℕ, true, ◌⊎◌, List, [], ◌∷◌, ◌++◌, map}
use Rattle.verdicts.specs.Verdict.{fine}
use Rattle.levels.specs.Order.{Meaning}
use Rattle.joins.specs.Folds.{fold_of}
use Rattle.joins.specs.Ends.{levels_of}
use Rattle.secrecy.specs.Rows.{cell, is_among, level_columns}
use Rattle.pooled.specs.Pools.{pool_of, set_verdict, Fit}

-- a tree of poolings: one set of rows, or what two trees come to, pooled
pub data Pooling : Type 0 where
  set : List ℕ → Pooling
  both : Pooling → Pooling → Pooling

-- the rows that come out of it
abbrev pub rows_by : Meaning → Pooling → List ℕ
rows_by m (set xs) = xs
rows_by m (both p q) = pool_of m (rows_by m p) (rows_by m q)

-- a set of rows is one of those that are pooled
abbrev pub IsPooled : Pooling → List ℕ → Type 0
IsPooled (set xs) ys = ys ≡ xs
IsPooled (both p q) ys = IsPooled p ys ⊎ IsPooled q ys

-- two trees are over the same sets, in whatever sequence and bracketing, and however often one of them is there
pub record SameSets (p q : Pooling) : Type 0 where
  pub there : (xs : List ℕ) → IsPooled p xs → IsPooled q xs
  pub back : (xs : List ℕ) → IsPooled q xs → IsPooled p xs

-- every pooling of a tree is carried out: each set is right on its own, and whatever is pooled can be
abbrev pub CarriedOut : Meaning → ℕ → Pooling → Type 0
CarriedOut m n (set xs) = set_verdict m n xs ≡ fine
CarriedOut m n (both p q) = Fit m n (rows_by m p) (rows_by m q) × CarriedOut m n p × CarriedOut m n q

-- any two of its sets can be pooled
abbrev pub AllFit : Meaning → ℕ → Pooling → Type 0
AllFit m n p = (xs ys : List ℕ) → IsPooled p xs → IsPooled p ys → Fit m n xs ys

-- The sets of a tree, from left to right, and the numbers that they have in one column of a row.
abbrev pub sets_of : Pooling → List (List ℕ)
sets_of (set xs) = xs ∷ []
sets_of (both p q) = sets_of p ++ sets_of q

abbrev pub cells_of : ℕ → Pooling → ℕ → ℕ → List ℕ
cells_of n p row column = map (λ xs. cell n xs row column) (sets_of p)

-- What holds of trees of poolings.
module _ (m : Meaning) (n : ℕ) where
  pub record AnySequence : Type 0 where
    -- the poolings of a tree are carried out if any two of its sets can be pooled, and only then
    pub carried : (p : Pooling) → AllFit m n p → CarriedOut m n p
    pub fit : (p : Pooling) → CarriedOut m n p → AllFit m n p
    -- then those of every other tree over the same sets are carried out, and the same rows come out
    pub same : (p q : Pooling) → CarriedOut m n p → SameSets p q → CarriedOut m n q × (rows_by m p ≡ rows_by m q)
    -- each of their levels is the fold of those of all sets
    pub folds : (p : Pooling) → CarriedOut m n p → (row column : ℕ) → is_among level_columns column ≡ true → cell n (rows_by m p) row column ≡ fold_of (levels_of m) (cells_of n p row column)
