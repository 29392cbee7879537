-- Poolings of several sets, in every sequence and bracketing.
use Rattle.std.proofs.Common.{◌≡◌, ℕ, ◌+◌, ◌*◌, ◌/◌, ◌%◌, ◌<◌, ◌≤◌, true, inl, inr, List, [], get_or, ap, refl, sym, ◌∙◌, arith}
use Rattle.std.proofs.lemmas.Bool.Decides.{nat_tests}
use Rattle.std.proofs.lemmas.List.{ext_get_or, map-append}
use Rattle.std.proofs.lemmas.List.Elements.{All-nil, All-cons, All-append}
use Rattle.joins.specs.Folds.{fold_of, AllMembers}
use Rattle.joins.specs.Ends.{levels_of, levels_laws}
use Rattle.joins.proofs.Folds.{fold_both}
use Rattle.verdicts.specs.Verdict.{fine}
use Rattle.levels.specs.Order.{Meaning, Laws}
use Rattle.secrecy.specs.Rows.{Rows, rows_of, cell, is_among, level_columns, columns}
use Rattle.secrecy.specs.Filling.{SameGiven}
use Rattle.pooled.specs.Pools.{set_verdict, Fit, LiesAbove}
use Rattle.pooled.specs.Sequences.{Pooling, set, both, rows_by, IsPooled, SameSets, CarriedOut, AllFit, sets_of, cells_of, AnySequence}
use Rattle.pooled.proofs.Sets.{SetRight, set_says, cell_held, level_held, place_small, level_small, same_from, same_back}
use Rattle.pooled.proofs.Least.{pool_cells, pool_first, pool_second, pool_least, pool_right}

same_along : (R S T : Rows) → SameGiven R S → SameGiven S T → SameGiven R T
same_along R S T f g = record {
  join_address = λ a. f.join_address a ∙ g.join_address a;
  remaining = λ a. f.remaining a ∙ g.remaining a;
  function = λ a. f.function a ∙ g.function a;
}

same_turned : (R S : Rows) → SameGiven R S → SameGiven S R
same_turned R S f = record { join_address = λ a. sym (f.join_address a); remaining = λ a. sym (f.remaining a); function = λ a. sym (f.function a) }

module _ (m : Meaning) (laws : Laws m) (n : ℕ) where
  above_itself : (xs : List ℕ) → set_verdict m n xs ≡ fine → LiesAbove m n xs xs
  above_itself xs e =
      let x = (set_says m n xs).0 e in
      record {
        same = record { join_address = λ a. refl; remaining = λ a. refl; function = λ a. refl };
        below = λ a. record { levels = λ p. laws.reflexive _ (level_held m n xs laws x a p); region = laws.reflexive _ (cell_held m n xs laws x a 35 (omega arith)) };
      }

  above_along : (xs ys zs : List ℕ) → LiesAbove m n xs ys → LiesAbove m n ys zs → LiesAbove m n xs zs
  above_along xs ys zs f g = record {
    same = same_along _ _ _ f.same g.same;
    below = λ a. record { levels = λ p. laws.transitive _ _ _ ((f.below a).levels p) ((g.below a).levels p); region = laws.transitive _ _ _ (f.below a).region (g.below a).region };
  }

  -- two sets that lie above each other are one
  module _ (xs ys : List ℕ) (x : SetRight m n xs) (y : SetRight m n ys) (f : LiesAbove m n xs ys) (g : LiesAbove m n ys xs) where
    level_one : (a c : ℕ) → c ≤ 35 → cell n xs a c ≡ cell n ys a c
    level_one a c l =
        let u = f.below a in
        let v = g.below a in
        grind (arith, nat_tests, place_small c, u.levels c, v.levels c, u.region, v.region, laws.antisymmetric)

    given_one : (a c : ℕ) → 36 ≤ c → c ≤ 38 → cell n xs a c ≡ cell n ys a c
    given_one a c l h =
        let j = f.same.join_address a in
        let r = f.same.remaining a in
        let k = f.same.function a in
        grind (arith, nat_tests)

    cell_one : (a c : ℕ) → c ≤ 38 → cell n xs a c ≡ cell n ys a c
    cell_one a c l = grind (arith, nat_tests, level_one a c, given_one a c)

    number_one : (i : ℕ) → i < (n + 1) * columns → get_or xs i 0 ≡ get_or ys i 0
    number_one i l =
        let e : i / columns * columns + i % columns ≡ i = omega arith in
        let h = cell_one (i / columns) (i % columns) (omega arith) in
        let k : i / columns ≤ n = omega arith in
        grind (arith, nat_tests)

    pub set_one : xs ≡ ys
    set_one = ext_get_or 0 xs ys (x.whole ∙ sym y.whole) (λ i l. number_one i (let e = x.whole in omega arith))

  -- what comes out of a tree is right on its own
  tree_right : (p : Pooling) → CarriedOut m n p → set_verdict m n (rows_by m p) ≡ fine
  tree_right (set xs) e = e
  tree_right (both p q) e = pool_right m laws n (rows_by m p) (rows_by m q) e.0

  -- it lies above each of its sets
  tree_above : (p : Pooling) → CarriedOut m n p → (xs : List ℕ) → IsPooled p xs → LiesAbove m n xs (rows_by m p)
  tree_above (set ys) e xs i = rw i (above_itself ys e)
  tree_above (both p q) e xs (inl i) = above_along xs _ _ (tree_above p e.1 xs i) (pool_first m laws n (rows_by m p) (rows_by m q) e.0)
  tree_above (both p q) e xs (inr i) = above_along xs _ _ (tree_above q e.2 xs i) (pool_second m laws n (rows_by m p) (rows_by m q) e.0)

  -- and below whatever lies above all of them
  tree_least : (p : Pooling) → CarriedOut m n p → (other : List ℕ) → ((xs : List ℕ) → IsPooled p xs → LiesAbove m n xs other) → LiesAbove m n (rows_by m p) other
  tree_least (set ys) e other all = all ys refl
  tree_least (both p q) e other all =
      pool_least m laws n (rows_by m p) (rows_by m q) e.0 other (tree_least p e.1 other (λ xs i. all xs (inl i))) (tree_least q e.2 other (λ xs i. all xs (inr i)))

  -- each of its sets is right on its own
  tree_sets : (p : Pooling) → CarriedOut m n p → (xs : List ℕ) → IsPooled p xs → set_verdict m n xs ≡ fine
  tree_sets (set ys) e xs i = rw i e
  tree_sets (both p q) e xs (inl i) = tree_sets p e.1 xs i
  tree_sets (both p q) e xs (inr i) = tree_sets q e.2 xs i

  -- where all sets of a tree are right and have the same given columns, it is carried out, and has them too
  module _ (R : Rows) where
    tree_carried : (p : Pooling) → ((xs : List ℕ) → IsPooled p xs → (set_verdict m n xs ≡ fine) × SameGiven (rows_of n xs) R) → CarriedOut m n p × SameGiven (rows_of n (rows_by m p)) R
    tree_carried (set ys) all = all ys refl
    tree_carried (both p q) all =
        let f = tree_carried p (λ xs i. all xs (inl i)) in
        let g = tree_carried q (λ xs i. all xs (inr i)) in
        let fit : Fit m n (rows_by m p) (rows_by m q) = record {
          first = tree_right p f.0;
          second = tree_right q g.0;
          same = same_back n (rows_by m p) (rows_by m q) (same_along _ _ _ f.1 (same_turned _ _ g.1));
        } in
        ((fit, f.0, g.0), same_along _ _ _ (same_turned _ _ (pool_first m laws n (rows_by m p) (rows_by m q) fit).same) f.1)

  -- any two sets of a tree that is carried out fit
  tree_fit : (p : Pooling) → CarriedOut m n p → AllFit m n p
  tree_fit p e xs ys x y = record {
    first = tree_sets p e xs x;
    second = tree_sets p e ys y;
    same = same_back n xs ys (same_along _ _ _ (tree_above p e xs x).same (same_turned _ _ (tree_above p e ys y).same));
  }

  -- a tree has a set
  some_set : (p : Pooling) → (xs : List ℕ) × IsPooled p xs
  some_set (set xs) = (xs, refl)
  some_set (both p q) = let s = some_set p in (s.0, inl s.1)

  fit_carried : (p : Pooling) → AllFit m n p → CarriedOut m n p
  fit_carried p fit =
      let s = some_set p in (tree_carried (rows_of n s.0) p (λ xs i. let f = fit xs s.0 i s.1 in (f.first, same_from n xs s.0 f.same))).0

  any_same : (p q : Pooling) → CarriedOut m n p → SameSets p q → CarriedOut m n q × (rows_by m p ≡ rows_by m q)
  any_same p q e same =
      let R = rows_of n (rows_by m p) in
      let c = tree_carried R q (λ xs i. let h = same.back xs i in (tree_sets p e xs h, (tree_above p e xs h).same)) in (
        c.0,
        set_one (rows_by m p) (rows_by m q) ((set_says m n (rows_by m p)).0 (tree_right p e)) ((set_says m n (rows_by m q)).0 (tree_right q c.0))
            (tree_least p e _ (λ xs i. tree_above q c.0 xs (same.there xs i)))
            (tree_least q c.0 _ (λ xs i. tree_above p e xs (same.back xs i))),
      )

  module _ (row column : ℕ) (level : is_among level_columns column ≡ true) where
    small : column < 36
    small = grind (arith, nat_tests, level_small column)

    cells_held : (p : Pooling) → CarriedOut m n p → AllMembers (levels_of m) (cells_of n p row column)
    cells_held (set xs) e = All-cons (λ x. m.held x ≡ true) _ [] (cell_held m n xs laws ((set_says m n xs).0 e) row column small) (All-nil (λ x. m.held x ≡ true))
    cells_held (both p q) e =
        rw (map-append (λ xs. cell n xs row column) (sets_of p) (sets_of q)) (All-append (λ x. m.held x ≡ true) _ _ (cells_held p e.1) (cells_held q e.2))

    tree_folds : (p : Pooling) → CarriedOut m n p → cell n (rows_by m p) row column ≡ fold_of (levels_of m) (cells_of n p row column)
    tree_folds (set xs) e = sym ((levels_laws m laws).neutral _ (cell_held m n xs laws ((set_says m n xs).0 e) row column small))
    tree_folds (both p q) e =
        (pool_cells m laws n (rows_by m p) (rows_by m q) e.0).levels row column level
        ∙ (rw (← tree_folds p e.1, ← tree_folds q e.2) at (sym (fold_both (levels_of m) (levels_laws m laws) _ _ (cells_held p e.1) (cells_held q e.2))))
        ∙ ap (fold_of (levels_of m)) (sym (map-append (λ xs. cell n xs row column) (sets_of p) (sets_of q)))

  pub any_sequence : AnySequence m n
  any_sequence = record { carried = fit_carried; fit = tree_fit; same = any_same; folds = λ p e row column level. tree_folds row column level p e }
