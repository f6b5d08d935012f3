use Rattle.std.proofs.Common.{◌≡◌, drop}
use Rattle.std.specs.List.{list_any}
use Rattle.bib_syntax.specs.Grammar.{is_word}
use Rattle.edit_strings.specs.Views.{lent_texts}
use Rattle.edit_convert.proofs.names.is_one_of.Given as goal

abbrev pub invariant-names : goal.invariant-names
invariant-names l = list_any (is_word l.name) (lent_texts l.names) ≡ list_any (is_word l.name) (lent_texts (drop l.word-index l.names))
