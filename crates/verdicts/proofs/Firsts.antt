-- Lemmas on checks that follow one another, for the loops and the `?` of the code that makes them.
use Rattle.std.proofs.Common.{rules, ◌≡◌, ℕ, zero, suc, ◌+◌, ◌<◌, ◌≤◌, Bool, true, false, ◌⊎◌, inl, inr, List, [], ◌∷◌, ◌++◌, IsErrAnd, Result, refl, sym, ap, ◌∙◌, arith}
use Rattle.std.proofs.lemmas.List.Elements.{All-nil, All-cons, All-head, All-tail}
use Rattle.verdicts.specs.Verdict.{Verdict, Refusal, fine, refused, refusal, and_then, rule, first, first_of, says}
use Rattle.verdicts.specs.Laws.{Keeps, BreaksFirst, KeepsAll, BreaksFirstOf, FirstBrokenStands}

pub and_fine : (v w : Verdict) → and_then v w ≡ fine → (v ≡ fine) × (w ≡ fine)
and_fine v w e = search rules

-- the exit of a `?`
pub says_err : {T E : Type 0} (f : E → Refusal) (r : Result T E) (w : E) → IsErrAnd r (λ y. y ≡ w) → says f r ≡ refused (f w)
says_err f r w h = search rules

-- of two checks the one that is broken: the first, or the second where the first finds nothing
pub then_broken : (v w : Verdict) (r : Refusal) → and_then v w ≡ refused r → (v ≡ refused r) ⊎ ((v ≡ fine) × (w ≡ refused r))
then_broken fine w r e = inr (refl, e)
then_broken (refused s) w r e = inl e

-- the first of two checks that is broken
pub then_stop : (v w : Verdict) (r : Refusal) → v ≡ refused r → and_then v w ≡ refused r
then_stop v w r e = rw e

-- a rule that is broken
pub rule_broken : (t : Bool) (n : ℕ) (vs : List ℕ) (r : Refusal) → rule t n vs ≡ refused r → (t ≡ false) × (refusal n vs ≡ r)
rule_broken true n vs r e = cc
rule_broken false n vs r e = (refl, cc)

-- one check after another
pub then-on : (v w x : Verdict) → v ≡ fine → w ≡ x → and_then v w ≡ x
then-on v w x e h = search rules

pub rule_met : (t : Bool) (n : ℕ) (vs : List ℕ) → t ≡ true → rule t n vs ≡ fine
rule_met t n vs e = search rules

module _ (f : ℕ → Verdict) where
  -- a loop over all n, at its end
  pub first_all : (i n : ℕ) → first f i ≡ fine → n ≤ i → i ≤ n → first f n ≡ fine
  first_all i n e h k = grind arith

  pub first_none : first f 0 ≡ fine
  unfolding first
  first_none = refl

  pub first_more : (i : ℕ) → first f i ≡ fine → f i ≡ fine → first f (i + 1) ≡ fine
  unfolding first
  first_more i before here = grind arith

  pub first_stop : (i n : ℕ) (r : Refusal) → first f i ≡ fine → f i ≡ refused r → i < n → first f n ≡ refused r
  unfolding first
  first_stop i zero r before here lt = absurd (omega arith)
  first_stop i (suc n) r before here lt = grind (arith, first_stop i n r before here)

  pub first_each : (n : ℕ) → first f n ≡ fine → Keeps f n
  unfolding first
  first_each zero e k lt = absurd (omega arith)
  first_each (suc n) e k lt = grind (arith, first_each n)

  pub each_first : (n : ℕ) → Keeps f n → first f n ≡ fine
  unfolding first
  each_first zero h = refl
  each_first (suc n) h = grind (arith, each_first n, h n)

  -- the first n rules come to nothing, or one of them is the first that is broken
  pub first_named : (n : ℕ) (r : Refusal) → first f n ≡ refused r → BreaksFirst f n r
  unfolding first
  first_named zero r e = cc
  first_named (suc n) r e = search (rules, arith, first_each n, first_named n)

-- The rules of the elements of a list.
module _ {X : Type 0} (f : X → Verdict) where
  pub first_of-nil : first_of f [] ≡ fine
  unfolding first_of
  first_of-nil = refl

  -- the first element's rule, and then the others
  pub first_of-cons : (x : X) (xs : List X) → first_of f (x ∷ xs) ≡ and_then (f x) (first_of f xs)
  unfolding first_of
  first_of-cons x xs = refl

  pub first_of-append : (xs ys : List X) → first_of f (xs ++ ys) ≡ and_then (first_of f xs) (first_of f ys)
  unfolding first_of
  first_of-append [] ys = refl
  first_of-append (x ∷ xs) ys = grind (arith, first_of-append xs ys)

  -- where the elements before one are right, and it is not
  pub first_of_split : (before after xs : List X) (x : X) (r : Refusal) → xs ≡ before ++ x ∷ after → first_of f before ≡ fine → f x ≡ refused r → first_of f xs ≡ refused r
  first_of_split before after xs x r e right here = grind (arith, first_of-append before (x ∷ after), first_of-cons x after)

  -- the steps of a loop over the list, where ys are the elements that are left: past one, at one that is broken, at the end
  pub first_of_on : (v : Verdict) (x : X) (xs ys : List X) → v ≡ first_of f ys → ys ≡ x ∷ xs → f x ≡ fine → v ≡ first_of f xs
  first_of_on v x xs ys e step here = grind (arith, first_of-cons x xs)

  pub first_of_stop : (v : Verdict) (r : Refusal) (x : X) (xs ys : List X) → v ≡ first_of f ys → ys ≡ x ∷ xs → f x ≡ refused r → v ≡ refused r
  first_of_stop v r x xs ys e step here = grind (arith, first_of-cons x xs)

  pub first_of_end : (v : Verdict) (ys : List X) → v ≡ first_of f ys → ys ≡ [] → v ≡ fine
  first_of_end v ys e none = grind (arith, first_of-nil)

  -- the rule of an element holds
  abbrev Holds : X → Type 0
  Holds x = f x ≡ fine

  pub first_of_each : (xs : List X) → first_of f xs ≡ fine → KeepsAll f xs
  first_of_each [] e = All-nil Holds
  first_of_each (x ∷ xs) e = let both = and_fine (f x) (first_of f xs) (sym (first_of-cons x xs) ∙ e) in All-cons Holds x xs both.0 (first_of_each xs both.1)

  pub each_first_of : (xs : List X) → KeepsAll f xs → first_of f xs ≡ fine
  each_first_of [] h = first_of-nil
  each_first_of (x ∷ xs) h = first_of-cons x xs ∙ then-on _ _ _ (All-head Holds x xs h) (each_first_of xs (All-tail Holds x xs h))

  -- the first that is broken is the head, or the first of the others
  named_by : (x : X) (xs : List X) (r : Refusal) → (f x ≡ refused r) ⊎ ((f x ≡ fine) × (first_of f xs ≡ refused r)) → (first_of f xs ≡ refused r → BreaksFirstOf f xs r) → BreaksFirstOf f (x ∷ xs) r
  named_by x xs r (inl e) later = record { x = x; before = []; after = xs; split = refl; kept = All-nil Holds; broken = e }
  named_by x xs r (inr h) later =
      let b = later h.1 in
      record { x = b.x; before = x ∷ b.before; after = b.after; split = ap (λ ys. x ∷ ys) b.split; kept = All-cons Holds x b.before h.0 b.kept; broken = b.broken }

  pub first_of_named : (xs : List X) (r : Refusal) → first_of f xs ≡ refused r → BreaksFirstOf f xs r
  first_of_named [] r e = let e' : fine ≡ refused r = sym first_of-nil ∙ e in cc
  first_of_named (x ∷ xs) r e = named_by x xs r (then_broken (f x) (first_of f xs) r (sym (first_of-cons x xs) ∙ e)) (first_of_named xs r)

pub first_broken_law : FirstBrokenStands
first_broken_law f = (
  λ n. record { kept = first_each f n; found = each_first f n; named = first_named f n },
  λ xs. record { kept = first_of_each f xs; found = each_first_of f xs; named = first_of_named f xs },
)
