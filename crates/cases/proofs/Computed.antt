-- The rows of the table, computed.
use Rattle.std.proofs.Common.{◌≡◌, ℕ, Bool, true, false, eqb, List, [], ◌∷◌, ◌++◌, refl, arith}
use Rattle.std.proofs.lemmas.Bool.{agree_below, agree_below_at}
use Rattle.verdicts.specs.Verdict.{first, first_of}
use Rattle.words.specs.Decode.{decode_of}
use Rattle.machine.specs.declared.phase.Ending.TheVariants as ending
use Rattle.machine.specs.Run.{run_for}
use Rattle.machine.specs.Calls.{run, put, ends, does, fresh, Answer}
use Rattle.avr.specs.declared.location.Location.TheVariants.{Register}
use Rattle.avr.specs.Chip.{avr}
use Rattle.secrecy.specs.Rows.{place_columns, is_among}
use Rattle.cases.specs.Cases.{Case, AllHold, word_cases, value_cases, run_cases, judge_cases, clearing_cases, balanced, CasesStand}

words_hold : AllHold word_cases
unfolding decode_of first
words_hold = (refl, (refl, (refl, (refl, (refl, (refl, tt))))))

values_hold : AllHold value_cases
values_hold = (((refl, tt), (refl, refl)), (((refl, tt), (refl, refl)), (((refl, (refl, tt)), (refl, refl)), (((refl, tt), (refl, refl)), (((refl, (refl, tt)), (refl, refl)), tt)))))

runs_hold : AllHold run_cases
unfolding decode_of run_for
runs_hold = (refl, (refl, tt))

-- whether an answer is that a routine ended at a count
ended : ℕ → Answer → Bool
ended n (ends (ending.Ended m)) = eqb m n
ended n answer = false

ended_so : (n : ℕ) (a : Answer) → ended n a ≡ true → a ≡ ends (ending.Ended n)
unfolding ended
ended_so n a e = grind arith

-- the answer of the balanced routine to a byte in r16
abbrev answer_to : ℕ → Answer
answer_to v = (does (avr balanced) (run 1000) (does (avr balanced) (put (Register 16) v) (fresh (avr balanced))).board).answer

always_seven : agree_below (λ v. ended 7 (answer_to v)) (λ v. true) 256 ≡ true
unfolding ended decode_of run_for
always_seven = refl

judges_hold : AllHold judge_cases
unfolding decode_of first first_of place_columns is_among
judges_hold = (refl, ((λ v l. ended_so 7 (answer_to v) (agree_below_at (λ n. ended 7 (answer_to n)) (λ n. true) 256 v always_seven l)), (refl, (refl, (refl, tt)))))

clearing_hold : AllHold clearing_cases
unfolding decode_of first first_of place_columns is_among
clearing_hold = (refl, (refl, (refl, (refl, (refl, tt)))))

append : (cs ds : List Case) → AllHold cs → AllHold ds → AllHold (cs ++ ds)
append [] ds h k = k
append (c ∷ cs) ds h k = (h.0, append cs ds h.1 k)

pub cases_law : CasesStand
cases_law =
    append word_cases (value_cases ++ (run_cases ++ (judge_cases ++ clearing_cases))) words_hold
    (append value_cases (run_cases ++ (judge_cases ++ clearing_cases)) values_hold
    (append run_cases (judge_cases ++ clearing_cases) runs_hold (append judge_cases clearing_cases judges_hold clearing_hold)))
