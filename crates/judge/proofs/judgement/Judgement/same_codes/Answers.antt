use Rattle.std.proofs.Common.{sym, ◌∙◌, arith}
use Rattle.std.proofs.lemmas.Bool.Decides.{Decides-eqb}
use Rattle.std.proofs.lemmas.Slice.Eq.{slice_eq-Decides}
use Rattle.judge.proofs.Kept.{same_by}
use Rattle.judge.proofs.judgement.Judgement.same_codes.Goals as goal

pub returns : goal.returns
returns g c h =
    let same = (slice_eq-Decides Decides-eqb c.codes.result.now c.codes-2.result.now c.eq.result c.eq.ensures).0 h in
    let rows = c.args.self.now.routine.rows in
    let values = c.len.ensures in
    let last = c.from-last.ensures in
    same_by rows.words rows.rows.now c.args.a c.args.b (omega (arith, c.if-a-last.false, c.len.ensures.rows)) (omega (arith, c.if-b-last.false, c.len.ensures.rows)) (sym c.codes.ensures.codes ∙ (same ∙ c.codes-2.ensures.codes))
