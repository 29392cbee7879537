-- Steps before the first that makes rows, and from it on; and what making them says of a routine.
use Rattle.std.proofs.Common.{◌≡◌, ℕ, zero, suc, Bool, true, false, ◌||◌, List, [], ◌∷◌, drop, length, is_some, Some, None, Option, Ok, Err, vec_items, cond, refl, sym, ◌∙◌, arith, get_or, ◌<◌, not}
use Rattle.std.specs.List.{list_any}
use Rattle.std.proofs.lemmas.Bool.Decides.{nat_tests}
use Rattle.levels.specs.Order.{Meaning}
use Rattle.filling.specs.Answers.{zeros_of, Answered}
use Rattle.filling.specs.declared.fault.FillingFault.{FillingFault}
use Rattle.filling.specs.declared.fault.FillingFault.TheVariants as fault
use Rattle.routine.specs.declared.steps.Step.{Step}
use Rattle.std.proofs.lemmas.Bool.{and_parts, and_from}
use Rattle.std.specs.Bool.{Decides}
use Rattle.routine.specs.Routines.{Draft}
use Rattle.program.specs.declared.judging.Judged.{Judged}
use Rattle.program.specs.declared.judging.Judged.TheVariants as judged
use Rattle.program.specs.declared.makings.Making.{Making}
use Rattle.program.specs.declared.makings.Making.TheVariants.{Unasked, Orderless, Unfilled, Unpooled, Rows}
use Rattle.program.specs.Standings.{judges, JudgedOf, AcceptedBy, comes_out}
use Rattle.program.specs.declared.makings.RowStep.{RowStep}
use Rattle.program.specs.declared.makings.RowStep.TheVariants.{Fill, Pool}
use Rattle.program.specs.Makings.{row_step_of, first_making, before_making, from_making, first_row_step, numbers_of, Fillable, Poolable, MadeBy, MadeUnder, FillsTo, PoolsTo, ComesTo, MakingOf, is_made}

or_true : (x y : Bool) → y ≡ true → (x || y) ≡ true
or_true true y e = refl
or_true false y e = e

true_or : (x y : Bool) → x ≡ true → (x || y) ≡ true
true_or true y e = refl
true_or false y e = absurd (cc)

or_rest : (x y : Bool) → x ≡ false → (x || y) ≡ true → y ≡ true
or_rest true y h e = absurd (cc)
or_rest false y h e = e

implied : (x y : Bool) → (not x || y) ≡ true → x ≡ true → y ≡ true
implied true y h e = h
implied false y h e = absurd (cc)

implies : (x y : Bool) → (x ≡ true → y ≡ true) → (not x || y) ≡ true
implies true y h = h refl
implies false y h = refl

-- the first step that makes rows, seen from one that does and from one that does not
pub first_at : (steps : List Step) (i : ℕ) (none : Step) → i < length steps → is_some (row_step_of (get_or steps i none)) ≡ true → first_making (drop i steps) ≡ 0
first_at [] i none l e = absurd (omega arith)
first_at (s ∷ steps) zero none l e = rw e refl
first_at (s ∷ steps) (suc i) none l e = first_at steps i none (omega arith) e

pub first_past : (steps : List Step) (i : ℕ) (none : Step) → i < length steps → is_some (row_step_of (get_or steps i none)) ≡ false → first_making (drop i steps) ≡ suc (first_making (drop (suc i) steps))
first_past [] i none l e = absurd (omega arith)
first_past (s ∷ steps) zero none l e = rw e refl
first_past (s ∷ steps) (suc i) none l e = first_past steps i none (omega arith) e

-- and how it makes them
pub row_step_at : (steps : List Step) (i : ℕ) (none : Step) → i < length steps → is_some (row_step_of (get_or steps i none)) ≡ true → first_row_step (drop i steps) ≡ row_step_of (get_or steps i none)
row_step_at [] i none l e = absurd (omega arith)
row_step_at (s ∷ steps) zero none l e = rw e refl
row_step_at (s ∷ steps) (suc i) none l e = row_step_at steps i none (omega arith) e

pub row_step_past : (steps : List Step) (i : ℕ) (none : Step) → i < length steps → is_some (row_step_of (get_or steps i none)) ≡ false → first_row_step (drop i steps) ≡ first_row_step (drop (suc i) steps)
row_step_past [] i none l e = absurd (omega arith)
row_step_past (s ∷ steps) zero none l e = rw e refl
row_step_past (s ∷ steps) (suc i) none l e = row_step_past steps i none (omega arith) e

-- an answer that refuses says that there is nothing to fill in with
pub unfillable : (m : Meaning) (ws given new : List ℕ) (f : FillingFault) → Answered m ws given (zeros_of given) new (Err f) → Fillable m ws given → ⊥
unfillable m ws given new (fault.Words f) a h = let e = sym a.refuses ∙ h.0 in absurd (cc)
unfillable m ws given new (fault.Rows f) a h = let e = sym a.refuses ∙ h.0 in absurd (cc)
unfillable m ws given new fault.Unfillable a h = a.none h.1.0 h.1.1

-- steps are those before the first that makes rows, and those from it on
split : (p : Step → Bool) (steps : List Step) → (list_any p (before_making steps) || list_any p (from_making steps)) ≡ list_any p steps
split p [] = refl
split p (s ∷ steps) = grind (arith, nat_tests, split p steps)

-- where rows were made and are accepted there are such, and where there are such they were made
module _ (m : Meaning) (ws : List ℕ) where
  filled_fillable : (given : List ℕ) (f : Making) → FillsTo m ws given f → is_made f ≡ true → Fillable m ws given
  filled_fillable given Unasked h e = absurd h
  filled_fillable given Orderless h e = absurd h
  filled_fillable given (Unfilled f) h e = absurd (cc)
  filled_fillable given (Unpooled f) h e = absurd h
  filled_fillable given (Rows rows (Ok done)) h e = (h.0, (vec_items rows, h.1.fills))
  filled_fillable given (Rows rows (Err f)) h e = absurd h

  fillable_filled : (given : List ℕ) (f : Making) → FillsTo m ws given f → Fillable m ws given → is_made f ≡ true
  fillable_filled given Unasked h u = absurd h
  fillable_filled given Orderless h u = absurd h
  fillable_filled given (Unfilled f) h u = absurd (unfillable m ws given h.0 f h.1 u)
  fillable_filled given (Unpooled f) h u = absurd h
  fillable_filled given (Rows rows (Ok done)) h u = refl
  fillable_filled given (Rows rows (Err f)) h u = absurd h

  pooled_poolable : (xs ys : List ℕ) (f : Making) → PoolsTo m ws xs ys f → is_made f ≡ true → Poolable m ws xs ys
  pooled_poolable xs ys Unasked h e = absurd h
  pooled_poolable xs ys Orderless h e = absurd h
  pooled_poolable xs ys (Unfilled f) h e = absurd h
  pooled_poolable xs ys (Unpooled f) h e = absurd (cc)
  pooled_poolable xs ys (Rows rows (Ok done)) h e = h.0
  pooled_poolable xs ys (Rows rows (Err f)) h e = absurd (cc)

  poolable_pooled : (xs ys : List ℕ) (f : Making) → PoolsTo m ws xs ys f → Poolable m ws xs ys → is_made f ≡ true
  poolable_pooled xs ys Unasked h u = absurd h
  poolable_pooled xs ys Orderless h u = absurd h
  poolable_pooled xs ys (Unfilled f) h u = absurd h
  poolable_pooled xs ys (Unpooled f) h u = absurd (let e = sym h ∙ u.0 in cc)
  poolable_pooled xs ys (Rows rows (Ok done)) h u = refl
  poolable_pooled xs ys (Rows rows (Err f)) h u = absurd (let e = sym h.0 ∙ u.1 in cc)

module _ (d : Draft) where
  made_of : (m : Meaning) (r : Option RowStep) (f : Making) → ComesTo m d r f → is_made f ≡ true → MadeBy m d r
  made_of m None f h e = absurd (let k = rw h at e in cc)
  made_of m (Some Fill) f h e = filled_fillable m d.words d.rows.numbers f h e
  made_of m (Some Pool) f h e = pooled_poolable m d.words d.rows.numbers (numbers_of d.second) f h e

  of_made : (m : Meaning) (r : Option RowStep) (f : Making) → ComesTo m d r f → MadeBy m d r → is_made f ≡ true
  of_made m None f h u = absurd u
  of_made m (Some Fill) f h u = fillable_filled m d.words d.rows.numbers f h u
  of_made m (Some Pool) f h u = poolable_pooled m d.words d.rows.numbers (numbers_of d.second) f h u

  orderless : (b : Bool) (f : Making) → cond b Orderless Unasked ≡ f → is_made f ≡ false
  orderless true f h = rw (← h) refl
  orderless false f h = rw (← h) refl

module _ (d : Draft) where
  abbrev asks : Bool
  asks = list_any judges (from_making d.steps)

  makes_made : (o : Option Meaning) (f : Making) → MakingOf o d f → is_made f ≡ true → MadeUnder o d
  makes_made None f h e = absurd (let k = orderless d (is_some (first_row_step d.steps)) f h in let c = sym k ∙ e in cc)
  makes_made (Some m) f h e = made_of d m (first_row_step d.steps) f h e

  made_if : (o : Option Meaning) (f : Making) → MakingOf o d f → MadeUnder o d → is_made f ≡ true
  made_if None f h u = absurd u
  made_if (Some m) f h u = of_made d m (first_row_step d.steps) f h u

  -- a judgement that is asked for is asked for before rows are made or behind that
  both : (list_any judges (before_making d.steps) || asks) ≡ list_any judges d.steps
  both = split judges d.steps

  -- how a routine comes out tells whether it is accepted
  pub decided : (o : Option Meaning) (j : Judged) (f : Making) → JudgedOf o d j → MakingOf o d f → Decides (comes_out j asks (is_made f)) (AcceptedBy o d)
  decided o judged.Unasked f h k = (
    (λ e. let p = and_parts asks (is_made f) e in record {
      asks = sym both ∙ or_true _ asks p.0;
      given = λ t. absurd (let e = sym h ∙ t in cc);
      made = λ t. makes_made o f k p.1;
    }),
    (λ a. let t = or_rest _ asks h (both ∙ a.asks) in and_from asks (is_made f) t (made_if o f k (a.made t))),
  )
  decided o judged.Orderless f h k = ((λ e. absurd (cc)), (λ a. let g = sym h.1 ∙ a.given h.0 in absurd (cc)))
  decided o (judged.Refused r) f h k = ((λ e. absurd (cc)), (λ a. let g = sym h.1 ∙ a.given h.0 in absurd (cc)))
  decided o judged.Accepted f h k = (
    (λ e. record {
      asks = sym both ∙ true_or _ asks h.0;
      given = λ t. h.1;
      made = λ t. makes_made o f k (implied asks (is_made f) e t);
    }),
    (λ a. implies asks (is_made f) (λ t. made_if o f k (a.made t))),
  )
