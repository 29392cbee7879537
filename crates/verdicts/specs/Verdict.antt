-- What a check may find: nothing wrong, or the first broken rule. Every contract of a call that may refuse speaks through
-- these definitions, so that a refusal is always a number and what it carries. Assumes nothing.
use Rattle.std.specs.Prelude.{ℕ, zero, suc, Bool, true, false, List, [], ◌∷◌, Ok, Err, Result}

-- a refusal: its number in the table of refusals, and the numbers that it carries (an address, a row, a column, ..)
pub data Refusal : Type 0 where
  refusal : ℕ → List ℕ → Refusal

-- its number
abbrev pub number_of : Refusal → ℕ
number_of (refusal n vs) = n

-- what a check says: nothing is wrong, or a refusal
pub data Verdict : Type 0 where
  fine : Verdict
  refused : Refusal → Verdict

-- one check after another: the second counts only where the first finds nothing
abbrev pub and_then : Verdict → Verdict → Verdict
and_then fine v = v
and_then (refused r) v = refused r

-- one rule: where its test fails, it is refused by a number and what it carries
abbrev pub rule : Bool → ℕ → List ℕ → Verdict
rule true n vs = fine
rule false n vs = refused (refusal n vs)

-- the first of rules 0, rules 1, .. rules (n - 1) that is broken
unfoldable pub first : (ℕ → Verdict) → ℕ → Verdict
first rules zero = fine
first rules (suc n) = and_then (first rules n) (rules n)

-- the first of the rules of a list's elements that is broken
unfoldable pub first_of : {X : Type 0} → (X → Verdict) → List X → Verdict
first_of rules [] = fine
first_of rules (x ∷ xs) = and_then (rules x) (first_of rules xs)

-- what a call's answer says, where `meaning` gives the refusal that each fault stands for
abbrev pub says : {T E : Type 0} → (E → Refusal) → Result T E → Verdict
says meaning (Ok x) = fine
says meaning (Err e) = refused (meaning e)

-- what a call that makes something comes to: what was made, or the refusal
pub data Outcome (V : Type 0) : Type 0 where
  made : V → Outcome V
  unmade : Refusal → Outcome V

-- what such a call's answer says, where `view` is what is to be known of what was made
abbrev pub outcome : {T E V : Type 0} → (T → V) → (E → Refusal) → Result T E → Outcome V
outcome view meaning (Ok x) = made (view x)
outcome view meaning (Err e) = unmade (meaning e)

-- what a check says, and if it finds nothing, what is made then
abbrev pub making : {V : Type 0} → Verdict → V → Outcome V
making fine x = made x
making (refused r) x = unmade r
