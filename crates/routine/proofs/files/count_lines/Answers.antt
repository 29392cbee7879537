use Rattle.std.proofs.Common.{length, inl, ap, ◌∙◌, arith}
use Rattle.std.proofs.lemmas.Iterator.Consumers.{count_from_yields_List}
use Rattle.text.specs.Lines.{lines_of}
use Rattle.routine.proofs.Counting.{lines_few, lines_given}
use Rattle.routine.proofs.files.count_lines.Goals as goal

pub count-requires-clause-fits : goal.count-requires-clause-fits
count-requires-clause-fits c =
    let all = ap (λ bs. length (lines_of bs)) c.new.ensures in
    inl (omega (arith, all, lines_few c.args.file.now))

pub returns : goal.returns
returns c =
    let all = count_from_yields_List c.new.result _ c.count.ensures.ran (lines_given c.new.result) ∙ ap (λ bs. length (lines_of bs)) c.new.ensures in
    record { value = all; within = omega (arith, all, lines_few c.args.file.now) }
