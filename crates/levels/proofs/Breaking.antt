-- The first law that joins break, found by loops over the codes.
use Rattle.std.specs.Prelude.{◌≡◌, ℕ, zero, suc, ◌+◌, ◌<◌, ◌≤◌, Bool, true, false, ◌&&◌, Option, None, Some, is_none, ◌==◌, nat_lt}
use Rattle.std.specs.Option.{option_or}
use Rattle.std.proofs.Common.{refl, sym, ap, ap₂, ◌∙◌, ⊎_elim, add-one, arith}
use Rattle.std.proofs.lemmas.Bool.{cases_lt, and_parts, and_from}
use Rattle.levels.specs.declared.table.square.BrokenLaw.{BrokenLaw}
use Rattle.levels.specs.Tables.{every, regroups, exchanges, repeats, semilattice}
use Rattle.levels.specs.Both.{and_parts₃, and_from₃}
use Rattle.levels.specs.Everys.{every_each, every_from}
use Rattle.levels.specs.Breaks.{least_answer, unless, unclosed_by_two, unclosed_by, broken_by_three, broken_by_two, broken_by, broken_law}

module _ {A : Type 0} (f : ℕ → Option A) where
  -- a loop that asks each: before the first turn, after a turn, where there is an answer, and at the end
  pub none_yet : least_answer f 0 ≡ None
  unfolding least_answer
  none_yet = refl

  pub none_more : (i : ℕ) → least_answer f i ≡ None → f i ≡ None → least_answer f (i + 1) ≡ None
  unfolding least_answer
  none_more i before here = rw (add-one, before, here)

  pub answered : (i n : ℕ) (x : A) → least_answer f i ≡ None → f i ≡ Some x → i < n → least_answer f n ≡ Some x
  unfolding least_answer
  answered i zero x before here lt = absurd (omega arith)
  answered i (suc n) x before here lt =
      ⊎_elim (λ l. rw (answered i n x before here l)) (λ l. let e : n ≡ i = omega arith in rw (e, before, here)) (cases_lt i n)

  pub none_all : (i n : ℕ) → least_answer f i ≡ None → n ≤ i → i ≤ n → least_answer f n ≡ None
  none_all i n e h k = let q : n ≡ i = omega arith in rw q e

none_or : {A : Type 0} (x y : Option A) → is_none (option_or x y) ≡ (is_none x && is_none y)
none_or None y = refl
none_or (Some x) y = refl

-- there is no answer below n where each has none
least_none : {A : Type 0} (f : ℕ → Option A) (test : ℕ → Bool) → ((k : ℕ) → is_none (f k) ≡ test k) → (n : ℕ) → is_none (least_answer f n) ≡ every test n
unfolding least_answer every
least_none f test e zero = refl
least_none f test e (suc n) = none_or (least_answer f n) (f n) ∙ ap₂ (λ a b. a && b) (least_none f test e n) (e n)

none_unless : (t : Bool) (law : BrokenLaw) (others : Option BrokenLaw) → is_none (unless t law others) ≡ (t && is_none others)
none_unless true law others = refl
none_unless false law others = refl

none_last : (t : Bool) (law : BrokenLaw) → is_none (unless t law None) ≡ t
none_last true law = refl
none_last false law = refl

-- two tests of which each holds where the other does
bools_alike : (x y : Bool) → (x ≡ true → y ≡ true) → (y ≡ true → x ≡ true) → x ≡ y
bools_alike true y f g = sym (f refl)
bools_alike false true f g = g refl
bools_alike false false f g = refl

module _ (n : ℕ) (j : ℕ → ℕ → ℕ) where
  abbrev closed : ℕ → ℕ → Bool
  closed a b = nat_lt (j a b) n

  abbrev turns : ℕ → ℕ → Bool
  turns a b = (j a b == j b a) && every (regroups j a b) n

  abbrev keeps : ℕ → Bool
  keeps a = (j 0 a == a) && ((j a a == a) && every (turns a) n)

  none_unclosed : (a : ℕ) → is_none (unclosed_by n j a) ≡ every (closed a) n
  none_unclosed a = least_none (unclosed_by_two n j a) (closed a) (λ b. none_last _ _) n

  none_by_two : (a b : ℕ) → is_none (broken_by_two n j a b) ≡ turns a b
  none_by_two a b =
      none_unless (j a b == j b a) _ _ ∙ ap (λ x. (j a b == j b a) && x) (least_none (broken_by_three j a b) (regroups j a b) (λ c. none_last _ _) n)

  none_by : (a : ℕ) → is_none (broken_by n j a) ≡ keeps a
  none_by a =
      none_unless (j 0 a == a) _ _ ∙ ap (λ x. (j 0 a == a) && x) (none_unless (j a a == a) _ _ ∙ ap (λ x. (j a a == a) && x) (least_none (broken_by_two n j a) (turns a) (none_by_two a) n))

  -- that all joins are codes may be asked before all else
  all_closed : semilattice n j ≡ true → every (λ a. every (closed a) n) n ≡ true
  all_closed s = every_from _ n (λ a x. every_from (closed a) n (λ b y.
      let one = and_parts₃ (j 0 a == a) (j a a == a) (every (exchanges n j a) n) (every_each (repeats n j) n s a x) in
      (and_parts₃ (closed a b) (j a b == j b a) (every (regroups j a b) n) (every_each (exchanges n j a) n one.2 b y)).0))

  all_kept : semilattice n j ≡ true → every keeps n ≡ true
  all_kept s = every_from keeps n (λ a x.
      let one = and_parts₃ (j 0 a == a) (j a a == a) (every (exchanges n j a) n) (every_each (repeats n j) n s a x) in
      and_from₃ _ _ _ one.0 one.1 (every_from (turns a) n (λ b y.
      let two = and_parts₃ (closed a b) (j a b == j b a) (every (regroups j a b) n) (every_each (exchanges n j a) n one.2 b y) in
      and_from _ _ two.1 two.2)))

  together : every (λ a. every (closed a) n) n ≡ true → every keeps n ≡ true → semilattice n j ≡ true
  together c k = every_from (repeats n j) n (λ a x.
      let one = and_parts₃ (j 0 a == a) (j a a == a) (every (turns a) n) (every_each keeps n k a x) in
      and_from₃ _ _ _ one.0 one.1 (every_from (exchanges n j a) n (λ b y.
      let two = and_parts (j a b == j b a) (every (regroups j a b) n) (every_each (turns a) n one.2 b y) in
      and_from₃ _ _ _ (every_each (closed a) n (every_each (λ a. every (closed a) n) n c a x) b y) two.0 two.1)))

  -- nothing is broken if and only if the joins pass the test
  pub nothing_broken : is_none (broken_law n j) ≡ semilattice n j
  nothing_broken =
      let e : is_none (broken_law n j) ≡ (every (λ a. every (closed a) n) n && every keeps n) =
      none_or _ _ ∙ ap₂ (λ a b. a && b) (least_none (unclosed_by n j) (λ a. every (closed a) n) none_unclosed n) (least_none (broken_by n j) keeps none_by n) in
      e ∙ bools_alike _ _ (λ h. let p = and_parts _ _ h in together p.0 p.1) (λ s. and_from _ _ (all_closed s) (all_kept s))
