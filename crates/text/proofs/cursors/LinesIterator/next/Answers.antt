use Rattle.std.proofs.Common.{◌≡◌, ◌<◌, length, drop, sym, ap, ◌∙◌, arith, rules, true-eqb, false-eqb}
use Rattle.std.proofs.lemmas.Bool.{false≢true}
use Rattle.std.proofs.lemmas.List.{nil_from_length}
use Rattle.text.specs.Bytes.{in_line}
use Rattle.text.specs.Lines.{lines_of, after_line}
use Rattle.text.proofs.Cutting.{line_taken}
use Rattle.text.proofs.cursors.LinesIterator.next.Goals as goal

pub returns-then-is_empty : goal.returns-then-is_empty
unfolding lines_of
returns-then-is_empty c =
    let bs = c.args.self.now.rest.now in
    let none : length bs ≡ 0 = true-eqb _ 0 c.if-is_empty.ensures in
    let empty = nil_from_length bs none in
    record {
      steps = record { first = (ap lines_of empty, ap lines_of empty); rest = empty ∙ sym (ap after_line empty); shorter = λ e. absurd (false≢true e) };
      goes = record { on = λ h. tt; keeps = tt; rests = λ h. tt };
    }

pub returns : goal.returns
returns c =
    let bs = c.args.self.now.rest.now in
    let some : 0 < length bs = omega (arith, false-eqb _ 0 c.if-is_empty.ensures) in
    let rest = c.past_first-self.ensures ∙ ap (drop 1) (c.cut.ensures.behind in_line (λ b t k. search rules)) in
    let taken = line_taken bs _ _ some (c.cut.ensures.front in_line (λ b t k. search rules)) rest in
    record {
      steps = record { first = taken.0; rest = rest; shorter = λ e. taken.1 };
      goes = record { on = λ h. (tt, tt, omega (arith, ap length taken.0)); keeps = tt; rests = λ h. tt };
    }
