use Rattle.std.proofs.Common.{◌≡◌, drop, map, string_bytes}
use Rattle.std.specs.List.{list_all}
use Rattle.script_text.specs.CommandLine.{is_word}
use Rattle.script_text.proofs.command_line.are_words.Given as goal

abbrev pub invariant-loop-word : goal.invariant-loop-word
invariant-loop-word l = list_all is_word (map string_bytes (drop l.word-index l.words)) ≡ list_all is_word (map string_bytes l.words)
