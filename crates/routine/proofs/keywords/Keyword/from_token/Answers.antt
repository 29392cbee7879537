use Rattle.std.proofs.Common.{codes, ap, sym, arith, rules}
use Rattle.std.proofs.lemmas.Slice.Eq.{text_from_reads}
use Rattle.routine.specs.Keywords.{keyword_of}
use Rattle.routine.proofs.keywords.Keyword.from_token.Goals as goal

pub returns-in-words : goal.returns-in-words
unfolding keyword_of
returns-in-words c = sym (ap keyword_of (text_from_reads c.args.token.now (codes "words") (omega arith) (search rules)))

pub returns-in-order : goal.returns-in-order
unfolding keyword_of
returns-in-order c = sym (ap keyword_of (text_from_reads c.args.token.now (codes "order") (omega arith) (search rules)))

pub returns-in-rows : goal.returns-in-rows
unfolding keyword_of
returns-in-rows c = sym (ap keyword_of (text_from_reads c.args.token.now (codes "rows") (omega arith) (search rules)))

pub returns-in-judge : goal.returns-in-judge
unfolding keyword_of
returns-in-judge c = sym (ap keyword_of (text_from_reads c.args.token.now (codes "judge") (omega arith) (search rules)))

pub returns-in-clear : goal.returns-in-clear
unfolding keyword_of
returns-in-clear c = sym (ap keyword_of (text_from_reads c.args.token.now (codes "clear") (omega arith) (search rules)))

pub returns-in-read : goal.returns-in-read
unfolding keyword_of
returns-in-read c = sym (ap keyword_of (text_from_reads c.args.token.now (codes "read") (omega arith) (search rules)))

pub returns-in-fill : goal.returns-in-fill
unfolding keyword_of
returns-in-fill c = sym (ap keyword_of (text_from_reads c.args.token.now (codes "fill") (omega arith) (search rules)))

pub returns-in-second : goal.returns-in-second
unfolding keyword_of
returns-in-second c = sym (ap keyword_of (text_from_reads c.args.token.now (codes "second") (omega arith) (search rules)))

pub returns-in-remaining : goal.returns-in-remaining
unfolding keyword_of
returns-in-remaining c = sym (ap keyword_of (text_from_reads c.args.token.now (codes "remaining") (omega arith) (search rules)))
