use Rattle.std.proofs.Common.{◌≡◌, ℕ, List, length, Ok, Err, Result, sym, refl, ap, ◌∙◌}
use Rattle.verdicts.specs.Verdict.{says, fine}
use Rattle.verdicts.proofs.Firsts.{and_fine, then-on}
use Rattle.avr.specs.Chip.{avr}
use Rattle.avr.proofs.Sounds.{sound}
use Rattle.levels.specs.Order.{Meaning, Laws}
use Rattle.secrecy.specs.Rows.{rows_of}
use Rattle.secrecy.specs.Hiding.{Hides}
use Rattle.secrecy.proofs.Hidings.{hiding}
use Rattle.secrecy.proofs.Meanings.{rules}
use Rattle.judge.specs.declared.faults.JudgeFault.{JudgeFault}
use Rattle.judge.specs.Faults.{judge_refusal}
use Rattle.judge.specs.Judgement.{judgement_of, Exactly}
use Rattle.judge.specs.Refused.{RefusesExactly}
use Rattle.judge.proofs.Placed.{placed}
use Rattle.judge.proofs.Refused.{refused_by, refuses_by}
use Rattle.judge.proofs.judging.judge.Goals as goal

-- an answer that says nothing is acceptance
says_fine : (r : Result (Unit {0}) JudgeFault) → says judge_refusal r ≡ fine → r ≡ Ok tt
says_fine (Ok x) e = refl
says_fine (Err f) e = cc

module _ (m : Meaning) (ws rows : List ℕ) where
  accepts : (r : Result (Unit {0}) JudgeFault) → says judge_refusal r ≡ judgement_of m ws rows → Exactly m ws rows r
  accepts r e = record {
    if = λ h. says_fine r (e ∙ then-on _ _ _ h.0 ((rules m (avr ws) rows).1 h.1));
    only_if = λ a. let p = and_fine _ _ (sym e ∙ ap (says judge_refusal) a) in (p.0, (rules m (avr ws) rows).0 p.1);
  }

  refuses : (r : Result (Unit {0}) JudgeFault) → says judge_refusal r ≡ judgement_of m ws rows → RefusesExactly m ws rows r
  refuses r e = record { if = λ by h. e ∙ refuses_by m ws rows by h; only_if = λ by h. refused_by m ws rows by (sym e ∙ h) }

  hides : Laws m → (r : Result (Unit {0}) JudgeFault) → says judge_refusal r ≡ judgement_of m ws rows → r ≡ Ok tt → Hides m (avr ws) (rows_of (length ws) rows)
  hides laws r e a = hiding m laws (avr ws) (sound ws) (placed ws) rows (and_fine _ _ (sym e ∙ ap (says judge_refusal) a)).1

pub returns : goal.returns
returns g c =
    let m = g.O.Order.meaning c.args.order.now in
    let e = c.find_fault.ensures in
    record {
      answer = e;
      refuses = refuses m c.args.words.now c.args.rows.now c.find_fault.result e;
      accepts = accepts m c.args.words.now c.args.rows.now c.find_fault.result e;
      hides = hides m c.args.words.now c.args.rows.now (g.met.O.Order.lawful c.args.order.now) c.find_fault.result e;
    }
