use Rattle.std.proofs.Common.{codes, ap, sym, arith, rules}
use Rattle.std.proofs.lemmas.Slice.Eq.{text_from_reads}
use Rattle.routine.specs.Rows.{column_by_own_name}
use Rattle.routine.proofs.rows.named_column.Goals as goal

pub returns-in-memory : goal.returns-in-memory
unfolding column_by_own_name
returns-in-memory c = sym (ap column_by_own_name (text_from_reads c.args.name.now (codes "memory") (omega arith) (search rules)))

pub returns-in-region : goal.returns-in-region
unfolding column_by_own_name
returns-in-region c = sym (ap column_by_own_name (text_from_reads c.args.name.now (codes "region") (omega arith) (search rules)))

pub returns-in-remaining : goal.returns-in-remaining
unfolding column_by_own_name
returns-in-remaining c = sym (ap column_by_own_name (text_from_reads c.args.name.now (codes "remaining") (omega arith) (search rules)))

pub returns-in-function : goal.returns-in-function
unfolding column_by_own_name
returns-in-function c = sym (ap column_by_own_name (text_from_reads c.args.name.now (codes "function") (omega arith) (search rules)))
