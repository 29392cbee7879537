use Rattle.std.proofs.Common.{◌≡◌, ◌∙◌, ap, is_none, Some, rules}
use Rattle.levels.specs.Tables.{joins_of}
use Rattle.levels.specs.Breaks.{broken_law}
use Rattle.levels.proofs.Breaking.{nothing_broken}
use Rattle.levels.proofs.table.square.Square.broken_law.Goals as goal

pub returns-in-Some-clause-none : goal.returns-in-Some-clause-none
returns-in-Some-clause-none c =
    let s = c.args.self.now in
    let first : Some c.in-Some.law ≡ broken_law s.levels (joins_of s) = search rules in
    ap is_none first ∙ nothing_broken s.levels (joins_of s)

pub returns-clause-none : goal.returns-clause-none
returns-clause-none c =
    let s = c.args.self.now in
    let first : c.broken.result ≡ broken_law s.levels (joins_of s) = search rules in
    ap is_none first ∙ nothing_broken s.levels (joins_of s)
