-- Rules whose test fails, alone and in a row.
use Rattle.std.proofs.Common.{◌≡◌, ℕ, ◌<◌, Bool, false, List, IsErrAnd, Result, sym, ◌∙◌}
use Rattle.verdicts.specs.Verdict.{Verdict, Refusal, fine, refused, refusal, rule, first, says}
use Rattle.verdicts.proofs.Firsts.{first_stop, says_err}

pub broken : (t : Bool) (n : ℕ) (vs : List ℕ) → t ≡ false → rule t n vs ≡ refused (refusal n vs)
broken t n vs e = rw e

-- the exit of a `?` in a loop over rules, at the first that is broken
pub stopped : {T E : Type 0} (meaning : E → Refusal) (rules : ℕ → Verdict) (answer : Result T E) (fault : E) (i n : ℕ) → IsErrAnd answer (λ f. f ≡ fault) → first rules i ≡ fine → refused (meaning fault) ≡ rules i → i < n → says meaning answer ≡ first rules n
stopped meaning rules answer fault i n e before here l = says_err meaning answer fault e ∙ sym (first_stop rules i n (meaning fault) before (sym here) l)
