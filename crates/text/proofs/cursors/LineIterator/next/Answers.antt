use Rattle.std.proofs.Common.{◌<◌, length, ap, arith, rules, true-eqb, false-eqb}
use Rattle.std.proofs.lemmas.Bool.{false≢true}
use Rattle.text.specs.Bytes.{blank, solid}
use Rattle.text.proofs.Cutting.{token_rest, token_none, token_taken}
use Rattle.text.proofs.cursors.LineIterator.next.Goals as goal

pub returns-then-is_empty : goal.returns-then-is_empty
returns-then-is_empty c =
    let bs = c.args.self.now.rest.now in
    let past = c.cut.ensures.behind blank (λ b t k. search rules) in
    let token = c.cut-2.ensures.front solid (λ b t k. search rules) in
    let rest = c.cut-2.ensures.behind solid (λ b t k. search rules) in
    let none = token_none bs _ _ _ past token rest (true-eqb _ 0 c.if-is_empty.ensures) in
    record {
      steps = record { first = none; rest = token_rest bs _ _ _ past token rest; shorter = λ e. absurd (false≢true e) };
      goes = record { on = λ h. tt; keeps = tt; rests = λ h. tt };
    }

pub returns-else-is_empty : goal.returns-else-is_empty
returns-else-is_empty c =
    let bs = c.args.self.now.rest.now in
    let past = c.cut.ensures.behind blank (λ b t k. search rules) in
    let token = c.cut-2.ensures.front solid (λ b t k. search rules) in
    let rest = c.cut-2.ensures.behind solid (λ b t k. search rules) in
    let some : 0 < length c.cut-2.result.0.now = omega (arith, false-eqb _ 0 c.if-is_empty.ensures) in
    let taken = token_taken bs _ _ _ past token rest some in
    record {
      steps = record { first = taken.0; rest = token_rest bs _ _ _ past token rest; shorter = λ e. taken.1 };
      goes = record { on = λ h. (tt, tt, omega (arith, ap length taken.0)); keeps = tt; rests = λ h. tt };
    }
