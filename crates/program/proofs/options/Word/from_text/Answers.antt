use Rattle.std.proofs.Common.{codes, ap, sym, arith, rules}
use Rattle.std.proofs.lemmas.Slice.Eq.{text_from_reads}
use Rattle.program.specs.Options.{option_of, word_of}
use Rattle.program.proofs.options.Word.from_text.Goals as goal

pub returns-in-45-3 : goal.returns-in-45-3
unfolding option_of
returns-in-45-3 c = sym (ap word_of (text_from_reads c.args.text.now (codes "--check") (omega arith) (search rules)))

pub returns-in-45-2 : goal.returns-in-45-2
unfolding option_of
returns-in-45-2 c = sym (ap word_of (text_from_reads c.args.text.now (codes "--version") (omega arith) (search rules)))

pub returns-in-45-6 : goal.returns-in-45-6
unfolding option_of
returns-in-45-6 c = sym (ap word_of (text_from_reads c.args.text.now (codes "--help") (omega arith) (search rules)))
