use Rattle.std.proofs.Common.{◌≡◌, length, sym, ◌∙◌, rules}
use Rattle.verdicts.specs.Verdict.{fine, refused, says}
use Rattle.verdicts.proofs.Firsts.{then-on, first_none, first_more, first_stop}
use Rattle.words.specs.declared.fault.WordFault.TheVariants.{Undecodable}
use Rattle.words.specs.Legal.{decodes_at, word_refusal}
use Rattle.words.proofs.listing.Listing.check.Goals as goal

pub loop-at-init : goal.loop-at-init
loop-at-init c = first_none (decodes_at c.args.words.now)

pub returns-in_err-ok_or : goal.returns-in_err-ok_or
returns-in_err-ok_or c =
    let ws = c.args.words.now in
    let at = c.loop-at.at in
    let here : decodes_at ws at ≡ refused (word_refusal (Undecodable at)) = search rules in
    let said : says word_refusal c.from_residual-in_err-ok_or.result ≡ refused (word_refusal (Undecodable at)) = search rules in
    said ∙ sym (then-on _ _ _ (sym c.in_ok-check_length.ensures) (first_stop (decodes_at ws) at (length ws) _ c.loop-at.invariant here c.loop-at-test.true))

pub loop-at-preserved : goal.loop-at-preserved
loop-at-preserved c =
    let ws = c.args.words.now in
    let here : decodes_at ws c.loop-at.at ≡ fine = search rules in
    first_more (decodes_at ws) c.loop-at.at c.loop-at.invariant here
