-- The longest front whose bytes pass a test. Assumes nothing.
use Rattle.std.proofs.Common.{◌≡◌, ℕ, ◌+◌, ◌<◌, Bool, true, false, not, ltb, List, [], ◌∷◌, ◌++◌, length, Some, None, Option, unwrap_or, ⊎_elim, refl, ap, ◌∙◌, arith}
use Rattle.std.specs.List.{prefix_len, position, AllByRecursion}
use Rattle.std.proofs.lemmas.List.Sums.{prefix_len-le-length, prefix_len-drop_no, prefix_len-drop_all, prefix_len_stops}
use Rattle.std.proofs.Math.Bool.{not-not}
use Rattle.std.proofs.lemmas.Grind.{common_steps}
use Rattle.std.proofs.lemmas.Bool.{ltb-false, cond_both, cases_lt}
use Rattle.text.specs.Cuts.{whole, front, behind}

-- nothing more passes behind the longest front
pub leading_behind : (test : ℕ → Bool) (bs : List ℕ) → prefix_len test (behind test bs) ≡ 0
leading_behind test bs =
    let n = prefix_len test bs in
    ⊎_elim (λ (l : n < length bs). prefix_len-drop_no test bs n 0 l (prefix_len_stops test bs 0 l)) (prefix_len-drop_all test bs n) (cases_lt n (length bs))

-- how far a test reaches, where the first byte that fails it is sought
pub reached : (test : ℕ → Bool) (bs : List ℕ) (first : Option ℕ) → first ≡ position (λ b. not (test b)) bs → unwrap_or first (length bs) ≡ prefix_len test bs
reached test bs first found =
    let n = prefix_len (λ b. not (not (test b))) bs in
    ap (λ f. unwrap_or f (length bs)) found
    ∙ cond_both (ltb n (length bs)) (Some n) None (λ f. unwrap_or f (length bs) ≡ n) (λ e. refl) (λ e. omega (arith, ltb-false n (length bs) e, prefix_len-le-length (λ b. not (not (test b))) bs))
    ∙ ap (λ t. prefix_len t bs) (λ i b. not-not (test b) i)

-- a list whose bytes all pass, and what follows it
module _ (test : ℕ → Bool) where
  pub leading_append : (xs ys : List ℕ) → AllByRecursion (λ b. test b ≡ true) xs → prefix_len test (xs ++ ys) ≡ length xs + prefix_len test ys
  leading_append [] ys h = grind arith
  leading_append (x ∷ xs) ys h = grind (arith, leading_append xs ys h.1)

  leading_all : (xs : List ℕ) → AllByRecursion (λ b. test b ≡ true) xs → prefix_len test xs ≡ length xs
  leading_all [] h = refl
  leading_all (x ∷ xs) h = grind (arith, leading_all xs h.1)

  pub whole_all : (xs : List ℕ) → AllByRecursion (λ b. test b ≡ true) xs → whole test xs ≡ true
  whole_all xs h = grind (arith, common_steps, leading_all xs h)

  -- up to a byte that fails
  module _ (xs : List ℕ) (y : ℕ) (ys : List ℕ) (all : AllByRecursion (λ b. test b ≡ true) xs) (fails : test y ≡ false) where
    leading_upto : prefix_len test (xs ++ y ∷ ys) ≡ length xs
    leading_upto = grind (arith, leading_append xs (y ∷ ys) all)

    pub front_upto : front test (xs ++ y ∷ ys) ≡ xs
    front_upto = rw leading_upto (grind (arith, common_steps))

    pub behind_upto : behind test (xs ++ y ∷ ys) ≡ y ∷ ys
    behind_upto = rw leading_upto (grind (arith, common_steps))

    pub whole_upto : whole test (xs ++ y ∷ ys) ≡ false
    whole_upto = grind (arith, behind_upto)
