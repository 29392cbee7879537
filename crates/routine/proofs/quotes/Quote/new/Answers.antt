use Rattle.std.proofs.Common.{length, ap, rules}
use Rattle.routine.specs.Quotes.{quote_length, quote_of}
use Rattle.routine.proofs.Quoting.{filled}
use Rattle.routine.proofs.quotes.Quote.new.Goals as goal

pub returns : goal.returns
unfolding quote_of
returns c =
    let token = c.args.token.now in
    let bytes = filled quote_length c.min-count.result token c.copy_from_slice.new.self (search rules) (search rules) in
    ap (λ bs. record { bytes = bs; length = length token }) bytes
