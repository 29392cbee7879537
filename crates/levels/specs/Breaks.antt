-- Which law the joins of a table break first, and at which codes. Assumes nothing.
use Rattle.std.specs.Prelude.{ℕ, zero, suc, Bool, true, false, Option, None, Some, ◌==◌, nat_lt}
use Rattle.std.specs.Option.{option_or}
use Rattle.levels.specs.declared.table.square.BrokenLaw.{BrokenLaw}
use Rattle.levels.specs.declared.table.square.BrokenLaw.TheVariants.{Neutrality, Idempotence, Closure, Commutativity, Associativity}

-- what f answers at the least number below n at which it answers, if there is one
unfoldable pub least_answer : {A : Type 0} → (ℕ → Option A) → ℕ → Option A
least_answer f zero = None
least_answer f (suc n) = option_or (least_answer f n) (f n)

-- a law that a test is for is broken where the test fails; where it holds, what comes next decides
abbrev pub unless : Bool → BrokenLaw → Option BrokenLaw → Option BrokenLaw
unless true law others = others
unless false law others = Some law

-- whether a and b join to one of the codes below n
abbrev pub unclosed_by_two : ℕ → (ℕ → ℕ → ℕ) → ℕ → ℕ → Option BrokenLaw
unclosed_by_two n j a b = unless (nat_lt (j a b) n) (Closure a b) None

-- and a with each of them
abbrev pub unclosed_by : ℕ → (ℕ → ℕ → ℕ) → ℕ → Option BrokenLaw
unclosed_by n j a = least_answer (unclosed_by_two n j a) n

-- what a and b break with c, for the join j
abbrev pub broken_by_three : (ℕ → ℕ → ℕ) → ℕ → ℕ → ℕ → Option BrokenLaw
broken_by_three j a b c = unless (j (j a b) c == j a (j b c)) (Associativity a b c) None

-- what a breaks with b, or the two with a third
abbrev pub broken_by_two : ℕ → (ℕ → ℕ → ℕ) → ℕ → ℕ → Option BrokenLaw
broken_by_two n j a b = unless (j a b == j b a) (Commutativity a b) (least_answer (broken_by_three j a b) n)

-- what a breaks alone or with others
abbrev pub broken_by : ℕ → (ℕ → ℕ → ℕ) → ℕ → Option BrokenLaw
broken_by n j a =
    unless (j 0 a == a) (Neutrality a) (unless (j a a == a) (Idempotence a) (least_answer (broken_by_two n j a) n))

-- What the join j breaks first: that all joins are codes, and then, of the codes below n in ascending order, what each breaks alone, with
-- a second and with a third.
abbrev pub broken_law : ℕ → (ℕ → ℕ → ℕ) → Option BrokenLaw
broken_law n j = option_or (least_answer (unclosed_by n j) n) (least_answer (broken_by n j) n)
