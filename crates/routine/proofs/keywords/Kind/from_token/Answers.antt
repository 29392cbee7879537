use Rattle.std.proofs.Common.{codes, ap, sym, arith, rules}
use Rattle.std.proofs.lemmas.Slice.Eq.{text_from_reads}
use Rattle.routine.specs.Keywords.{kind_of}
use Rattle.routine.proofs.keywords.Kind.from_token.Goals as goal

pub returns-in-chain : goal.returns-in-chain
unfolding kind_of
returns-in-chain c = sym (ap kind_of (text_from_reads c.args.token.now (codes "chain") (omega arith) (search rules)))

pub returns-in-compartments : goal.returns-in-compartments
unfolding kind_of
returns-in-compartments c = sym (ap kind_of (text_from_reads c.args.token.now (codes "compartments") (omega arith) (search rules)))

pub returns-in-table : goal.returns-in-table
unfolding kind_of
returns-in-table c = sym (ap kind_of (text_from_reads c.args.token.now (codes "table") (omega arith) (search rules)))
