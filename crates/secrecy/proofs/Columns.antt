-- Numbers that are among those of a list, and rules over such lists.
use Rattle.std.proofs.Common.{◌≡◌, ℕ, zero, suc, ◌+◌, true, false, ◌==◌, ◌||◌, ◌&&◌, nat_le, nat_lt, List, [], ◌∷◌, ◌++◌, refl, sym, ◌∙◌, arith}
use Rattle.std.specs.List.{range_with_len}
use Rattle.std.proofs.lemmas.Bool.Decides.{nat_tests}
use Rattle.verdicts.specs.Verdict.{Verdict, fine, first_of}
use Rattle.verdicts.proofs.Firsts.{first_of-nil, first_of-cons, and_fine}
use Rattle.secrecy.specs.Rows.{is_among, is_place, place_columns, level_columns, region_column}

pub among-nil : (n : ℕ) → is_among [] n ≡ false
unfolding is_among
among-nil n = refl

pub among-cons : (k : ℕ) (ks : List ℕ) (n : ℕ) → is_among (k ∷ ks) n ≡ (k == n || is_among ks n)
unfolding is_among
among-cons k ks n = refl

pub among-append : (ks js : List ℕ) (n : ℕ) → is_among (ks ++ js) n ≡ (is_among ks n || is_among js n)
among-append [] js n = grind (arith, among-nil n)
among-append (k ∷ ks) js n = grind (arith, nat_tests, among-cons k ks n, among-cons k (ks ++ js) n, among-append ks js n)

-- numbers that follow one another
pub among-range : (a n p : ℕ) → is_among (range_with_len a n) p ≡ (nat_le a p && nat_lt p (a + n))
among-range a zero p = grind (arith, nat_tests, among-nil p)
among-range a (suc n) p = grind (arith, nat_tests, among-cons a (range_with_len (a + 1) n) p, among-range (a + 1) n p)

-- a column that holds the code of a level is that of a place, or of the region level
pub level_column : (column : ℕ) → is_among level_columns column ≡ (is_place column || region_column == column)
level_column column = grind (arith, nat_tests, among-append place_columns (region_column ∷ []) column, among-cons region_column [] column, among-nil column)

module _ (f : ℕ → Verdict) where
  -- where a list's rules come to nothing, each holds
  pub first_of_each : (ks : List ℕ) → first_of f ks ≡ fine → (n : ℕ) → is_among ks n ≡ true → f n ≡ fine
  first_of_each [] e n h = grind (arith, among-nil n)
  first_of_each (k ∷ ks) e n h =
      let both = and_fine (f k) (first_of f ks) (sym (first_of-cons f k ks) ∙ e) in
      grind (arith, nat_tests, among-cons k ks n, both.0, first_of_each ks both.1 n)

  pub each_first_of : (ks : List ℕ) → ((n : ℕ) → is_among ks n ≡ true → f n ≡ fine) → first_of f ks ≡ fine
  each_first_of [] h = first_of-nil f
  each_first_of (k ∷ ks) h =
      let here : f k ≡ fine = grind (arith, nat_tests, h k, among-cons k ks k) in
      let others = each_first_of ks (λ n l. grind (arith, nat_tests, h n, among-cons k ks n)) in
      grind (arith, first_of-cons f k ks)
