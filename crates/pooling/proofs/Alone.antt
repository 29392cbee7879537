-- What the judge's check of rows on their own says of a set of rows.
use Rattle.std.proofs.Common.{◌≡◌, ℕ, List, length, Ok, Err, Result, sym, ◌∙◌, arith}
use Rattle.verdicts.specs.Verdict.{Verdict, fine, says}
use Rattle.words.specs.Legal.{legal_of, word_refusal}
use Rattle.words.specs.declared.fault.WordFault.{WordFault}
use Rattle.levels.specs.Order.{Meaning}
use Rattle.judge.specs.Faults.{flow_refusal, judge_refusal}
use Rattle.judge.specs.Judgement.{alone_of}
use Rattle.judge.specs.declared.faults.FlowFault.{FlowFault}
use Rattle.judge.specs.declared.faults.JudgeFault.{JudgeFault}
use Rattle.judge.specs.declared.faults.JudgeFault.TheVariants as judge
use Rattle.pooled.specs.Pools.{set_verdict}
use Rattle.pooled.proofs.Sets.{OfSet, set_number}

module _ (m : Meaning) (ws rows : List ℕ) (legal : legal_of ws ≡ fine) where
  abbrev V : Verdict
  V = set_verdict m (length ws) rows

  alone : alone_of m ws rows ≡ V
  alone = rw legal

  no_word : (f : WordFault) → OfSet m (length ws) rows (word_refusal f) → ⊥
  no_word f h = grind arith

  no_flow : (f : FlowFault) → OfSet m (length ws) rows (flow_refusal f) → ⊥
  no_flow f h = grind arith

  -- where no fault of rows is found, none is there
  pub none : (r : Result (Unit {0}) JudgeFault) → says judge_refusal r ≡ alone_of m ws rows → r ≡ Ok tt → fine ≡ V
  none r e h = rw h at e ∙ alone

  pub no_fault : (r : Result (Unit {0}) JudgeFault) (f : WordFault) → says judge_refusal r ≡ alone_of m ws rows → r ≡ Err (judge.Words f) → fine ≡ V
  no_fault r f e h = absurd (no_word f (set_number m (length ws) rows _ (sym (rw h at e ∙ alone))))

  pub no_flow_fault : (r : Result (Unit {0}) JudgeFault) (f : FlowFault) → says judge_refusal r ≡ alone_of m ws rows → r ≡ Err (judge.Flow f) → fine ≡ V
  no_flow_fault r f e h = absurd (no_flow f (set_number m (length ws) rows _ (sym (rw h at e ∙ alone))))
