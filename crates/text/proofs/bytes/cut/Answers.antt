use Rattle.std.proofs.Common.{take, drop, not, ap, ◌∙◌, rules, tests}
use Rattle.std.proofs.lemmas.Iterator.{YieldsList-from_slice}
use Rattle.std.proofs.lemmas.Iterator.Search.{position_from_yields_List}
use Rattle.text.proofs.Fronts.{reached}
use Rattle.text.proofs.bytes.cut.Goals as goal

pub returns-clause-front : goal.returns-clause-front
returns-clause-front g c = λ test decides.
    let bs = c.args.bytes.now in
    let first = position_from_yields_List (λ b. not (test b)) _ _ c.position.result c.position.ensures.ran (YieldsList-from_slice bs cc) (λ x b q k. search (rules, tests, decides)) in
    c.split_at.ensures.front ∙ ap (λ n. take n bs) (c.unwrap_or-count.ensures ∙ reached test bs _ first)

pub returns-clause-behind : goal.returns-clause-behind
returns-clause-behind g c = λ test decides.
    let bs = c.args.bytes.now in
    let first = position_from_yields_List (λ b. not (test b)) _ _ c.position.result c.position.ensures.ran (YieldsList-from_slice bs cc) (λ x b q k. search (rules, tests, decides)) in
    c.split_at.ensures.back ∙ ap (λ n. drop n bs) (c.unwrap_or-count.ensures ∙ reached test bs _ first)
