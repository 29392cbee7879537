use Rattle.std.proofs.Common.{◌≡◌, ◌+◌, ◌<◌, ◌^◌, Ok, inl, length, sym, ap, ◌∙◌, subst, arith, rules}
use Rattle.std.specs.Iterator.Adapters.{enumerate_source, enumerate_count}
use Rattle.text.specs.Lines.{lines_left, lines_of, line_left}
use Rattle.routine.specs.Routines.{draft_of}
use Rattle.routine.specs.Files.{after_line, lines_from}
use Rattle.routine.specs.Answers.{Blames}
use Rattle.routine.proofs.Counting.{lines_few}
use Rattle.routine.proofs.Turns.{lines_none, lines_more, lines_blamed, numbered}
use Rattle.routine.proofs.files.read_lines.Goals as goal

pub loop-before-init : goal.loop-before-init
loop-before-init c =
    let it = c.into_iter-before-iterator.result in
    let same = c.into_iter-before-iterator.ensures.into_iter_gives in
    let none = ap enumerate_count same ∙ c.enumerate-before-items.ensures.count in
    let source = ap enumerate_source same ∙ c.enumerate-before-items.ensures.source in
    let all = ap lines_left source ∙ ap lines_of c.new.ensures in
    let fits : enumerate_count it + length (lines_left (enumerate_source it)) < 2 ^ 64 =
    omega (arith, none, ap length all, lines_few c.args.file.now)
    in ((tt, tt, inl fits), tt, (λ i. lines_from (none i + 1) (all i) (draft_of c.args.routine.now)), fits)

pub loop-before-preserved : goal.loop-before-preserved
loop-before-preserved c =
    let it = c.loop-before.before-iterator in
    let then = c.next.new.self in
    let n = enumerate_count it + 1 in
    let steps = c.in-Some.ensures.steps in
    let here = steps.1 in
    let told = numbered n c.read_line.result c.map_err.result _ _ _ _ c.map_err.ensures.cases (λ f g k. search rules) c.read_line.ensures in
    let read : after_line n (draft_of c.loop-before.routine) (line_left c.in-Some.line) ≡ Ok (draft_of c.read_line.new.routine) = rw (c.in_ok-map_err.was, here) at told in
    let step = lines_more n (lines_left (enumerate_source it)) (draft_of c.loop-before.routine) _ _ steps.0.first _ read in
    let fits : enumerate_count then + length (lines_left (enumerate_source then)) < 2 ^ 64 = omega (arith, ap length steps.0.first, steps.2, c.loop-before.invariant.3) in (
      (tt, tt, inl fits),
      tt,
      ap (λ k. lines_from (k + 1) (lines_left (enumerate_source then)) (draft_of c.read_line.new.routine)) steps.2 ∙ sym step ∙ c.loop-before.invariant.2,
      fits,
    )

pub returns-in_err-map_err : goal.returns-in_err-map_err
returns-in_err-map_err c =
    let it = c.loop-before.before-iterator in
    let n = enumerate_count it + 1 in
    let steps = c.in-Some.ensures.steps in
    let here = steps.1 in
    let told = numbered n c.read_line.result c.map_err.result _ _ _ _ c.map_err.ensures.cases (λ f g k. search rules) c.read_line.ensures in
    let read = rw (c.in_err-map_err.was, here) at told in
    let f = c.in_err-map_err.field-0.0 in
    let wrong =
    subst (Blames (λ m. (f.line, m)) f.fault) c.loop-before.invariant.2
    (lines_blamed n (lines_left (enumerate_source it)) (draft_of c.loop-before.routine) _ _ steps.0.first f read.0 read.1)
    in search rules

pub returns : goal.returns
returns c =
    let it = c.loop-before.before-iterator in
    let none = lines_none (enumerate_count it + 1) (lines_left (enumerate_source it)) (draft_of c.loop-before.routine) c.in-None.ensures.steps.0.first.0 in
    sym c.loop-before.invariant.2 ∙ none
