-- The pool of two sets is the least that lies at or above both.
use Rattle.std.proofs.Common.{◌≡◌, ℕ, ◌<◌, true, List, ◌∙◌, sym, arith}
use Rattle.std.proofs.lemmas.Bool.Decides.{nat_tests}
use Rattle.verdicts.specs.Verdict.{fine}
use Rattle.levels.specs.Order.{Meaning, Laws}
use Rattle.secrecy.specs.Rows.{Rows, rows_of, cell, is_among, given_columns}
use Rattle.pooled.specs.Pools.{pool_of, set_verdict, Fit, LiesAbove, LeastOfBoth, CellsPooled}
use Rattle.pooled.proofs.Joined.{Joined, shape}
use Rattle.pooled.proofs.Sets.{SetRight, set_says, cell_held, level_held, level_small, given_at, same_from}
use Rattle.pooled.proofs.Cells.{pool_length, pool_level, pool_joined}

module _ (m : Meaning) (laws : Laws m) (n : ℕ) (xs ys : List ℕ) (fit : Fit m n xs ys) where
  abbrev R : Rows
  R = rows_of n xs

  abbrev S : Rows
  S = rows_of n ys

  abbrev T : Rows
  T = rows_of n (pool_of m xs ys)

  x : SetRight m n xs
  x = (set_says m n xs).0 fit.first

  y : SetRight m n ys
  y = (set_says m n ys).0 fit.second

  joined : Joined m R S T
  joined = pool_joined m xs ys laws n x.whole (same_from n xs ys fit.same)

  given_cells : (a c : ℕ) → is_among given_columns c ≡ true → (cell n (pool_of m xs ys) a c ≡ cell n xs a c) × (cell n (pool_of m xs ys) a c ≡ cell n ys a c)
  given_cells a c e =
      let j = joined.first.join_address a in
      let r = joined.first.remaining a in
      let f = joined.first.function a in
      let j' = joined.second.join_address a in
      let r' = joined.second.remaining a in
      let f' = joined.second.function a in
      (grind (arith, nat_tests, given_at c), grind (arith, nat_tests, given_at c))

  pub pool_cells : CellsPooled m n xs ys (pool_of m xs ys)
  pool_cells = record {
    levels = λ a c e. pool_level m xs ys laws n x.whole a c (grind (arith, nat_tests, level_small c));
    first = λ a c e. (given_cells a c e).0;
    second = λ a c e. (given_cells a c e).1;
  }

  pub pool_first : LiesAbove m n xs (pool_of m xs ys)
  pool_first = record {
    same = record { join_address = λ a. sym (joined.first.join_address a); remaining = λ a. sym (joined.first.remaining a); function = λ a. sym (joined.first.function a) };
    below = λ a. record {
      levels = λ p. rw (joined.levels a p) (laws.join_left _ _ (level_held m n xs laws x a p) (level_held m n ys laws y a p));
      region = rw (joined.regions a) (laws.join_left _ _ (cell_held m n xs laws x a 35 (omega arith)) (cell_held m n ys laws y a 35 (omega arith)));
    };
  }

  pub pool_second : LiesAbove m n ys (pool_of m xs ys)
  pool_second = record {
    same = record { join_address = λ a. sym (joined.second.join_address a); remaining = λ a. sym (joined.second.remaining a); function = λ a. sym (joined.second.function a) };
    below = λ a. record {
      levels = λ p. rw (joined.levels a p) (laws.join_right _ _ (level_held m n xs laws x a p) (level_held m n ys laws y a p));
      region = rw (joined.regions a) (laws.join_right _ _ (cell_held m n xs laws x a 35 (omega arith)) (cell_held m n ys laws y a 35 (omega arith)));
    };
  }

  pub pool_least : (other : List ℕ) → LiesAbove m n xs other → LiesAbove m n ys other → LiesAbove m n (pool_of m xs ys) other
  pool_least other f g = record {
    same = record {
      join_address = λ a. joined.first.join_address a ∙ f.same.join_address a;
      remaining = λ a. joined.first.remaining a ∙ f.same.remaining a;
      function = λ a. joined.first.function a ∙ f.same.function a;
    };
    below = λ a. record {
      levels = λ p. rw (joined.levels a p) (laws.join_least _ _ _ ((f.below a).levels p) ((g.below a).levels p));
      region = rw (joined.regions a) (laws.join_least _ _ _ (f.below a).region (g.below a).region);
    };
  }

  held : (a c : ℕ) → c < 36 → m.held (cell n (pool_of m xs ys) a c) ≡ true
  held a c l = rw (pool_level m xs ys laws n x.whole a c l) (laws.join_held _ _ (cell_held m n xs laws x a c l) (cell_held m n ys laws y a c l))

  -- the pool is right on its own
  pub pool_right : set_verdict m n (pool_of m xs ys) ≡ fine
  pool_right =
      (set_says m n (pool_of m xs ys)).1 (record {
        whole = pool_length m xs ys ∙ x.whole;
        each = λ row l. record { held = λ c e. held row c (grind (arith, nat_tests, level_small c)); shape = shape m laws R S T joined n row (x.each row l).shape (y.each row l).shape };
      })

  pub pool_least_of_both : LeastOfBoth m n xs ys (pool_of m xs ys)
  pool_least_of_both = record { set = pool_right; first = pool_first; second = pool_second; least = pool_least }
