use Rattle.std.proofs.Common.{◌≡◌, Ok, Err, vec_items, sym, ap, ◌∙◌, rules}
use Rattle.text.specs.Tokens.{tokens_left}
use Rattle.routine.specs.Gathered.{gathered}
use Rattle.routine.specs.Faults.{quoting}
use Rattle.routine.proofs.Gathering.{appended, gather_more, gather_wrong}
use Rattle.routine.proofs.Quoting.{told}
use Rattle.routine.proofs.operands.gather.Goals as goal

pub returns-in_err-value : goal.returns-in_err-value
returns-in_err-value g c = λ says decides.
    let left = tokens_left c.loop-token.token-iterator in
    let items = vec_items c.loop-token.values in
    let token = c.in-Some.token.now in
    let told = told says token c.read.result c.map_err.result _ (decides token _ (search rules)) c.map_err.ensures.cases (λ e m k. search rules) in
    let given : Err c.in_err-value.field-0.0 ≡ quoting says token = cc (told, c.in_err-value.was) in
    let wrong : gathered (quoting says) (tokens_left c.args.line) ≡ Err c.in_err-value.field-0.0 =
    sym (c.loop-token.invariant.2 says decides) ∙ gather_wrong (quoting says) left items _ _ _ c.in-Some.ensures.steps.first given
    in
    search rules

pub loop-token-preserved : goal.loop-token-preserved
loop-token-preserved g c = (
  tt,
  tt,
  λ says decides.
      let items = vec_items c.loop-token.values in
      let left = tokens_left c.loop-token.token-iterator in
      let rest = tokens_left c.next.new.self in
      let token = c.in-Some.token.now in
      let told = told says token c.read.result c.map_err.result _ (decides token _ (search rules)) c.map_err.ensures.cases (λ e m k. search rules) in
      let given : Ok c.in_ok-value.value ≡ quoting says token = cc (told, c.in_ok-value.was) in
      let step = gather_more (quoting says) left items _ rest _ c.in-Some.ensures.steps.first given in
      ap (λ l. appended l (gathered (quoting says) rest)) c.in_ok-push.ensures.items ∙ sym step ∙ c.loop-token.invariant.2 says decides,
)
