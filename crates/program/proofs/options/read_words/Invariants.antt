use Rattle.std.proofs.Common.{◌≡◌, ◌++◌, false, drop, map, string_bytes, vec_items}
use Rattle.program.specs.Options.{words_from}
use Rattle.program.proofs.options.read_words.Given as goal

abbrev pub invariant-loop-text : goal.invariant-loop-text
invariant-loop-text l = vec_items l.words ++ words_from l.ended (map string_bytes (drop l.text-index l.texts)) ≡ words_from false (map string_bytes l.texts)
