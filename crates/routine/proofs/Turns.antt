-- How lines are read one by one. Assumes nothing.
use Rattle.std.proofs.Common.{◌≡◌, ℕ, ◌+◌, List, [], ◌∷◌, Ok, Err, Result, MatchResult, arith}
use Rattle.std.specs.Result.{IsErrAnd}
use Rattle.routine.specs.declared.faults.FileFault.{FileFault}
use Rattle.routine.specs.declared.faults.Fault.{Fault}
use Rattle.routine.specs.declared.faults.Malformed.{Malformed}
use Rattle.routine.specs.declared.routines.Routine.{Routine}
use Rattle.routine.specs.Routines.{Draft, draft_of}
use Rattle.routine.specs.Files.{after_line, lines_from}
use Rattle.routine.specs.Answers.{Blames, Makes}

module _ (n : ℕ) (lines : List (List ℕ)) (d : Draft) where
  pub lines_none : lines ≡ [] → lines_from n lines d ≡ Ok d
  unfolding lines_from
  lines_none none = grind arith

  module _ (line : List ℕ) (rest : List (List ℕ)) (split : lines ≡ line ∷ rest) where
    pub lines_more : (e : Draft) → after_line n d line ≡ Ok e → lines_from n lines d ≡ lines_from (n + 1) rest e
    unfolding lines_from
    lines_more e read = grind arith

    pub lines_wrong : (wrong : Malformed) → after_line n d line ≡ Err wrong → lines_from n lines d ≡ Err (n, wrong)
    unfolding lines_from
    lines_wrong wrong read = grind arith

    -- what is blamed at a line is blamed in the file, with the number of the line
    pub lines_blamed : (f : FileFault) → f.line ≡ n → Blames (λ m. m) f.fault (after_line n d line) → Blames (λ m. (f.line, m)) f.fault (lines_from n lines d)
    lines_blamed f here read = grind (arith, lines_wrong)

-- the answer of a line, with the number of the line where it is a fault
pub numbered : (n : ℕ) (r : Result (Unit {0}) Fault) (s : Result (Unit {0}) FileFault) (marks : Fault → FileFault → Type 0) (before after : Routine) (given : Draft → Result Draft Malformed) →
    MatchResult r (λ x. s ≡ Ok x) (λ f. IsErrAnd s (marks f)) → ((f : Fault) (g : FileFault) → marks f g → g ≡ record { line = n; fault = f }) → Makes draft_of r before after given →
    MatchResult s (λ x. given (draft_of before) ≡ Ok (draft_of after)) (λ g. (g.line ≡ n) × Blames (λ m. m) g.fault (given (draft_of before)))
numbered n r s marks before after given same is made = grind arith
