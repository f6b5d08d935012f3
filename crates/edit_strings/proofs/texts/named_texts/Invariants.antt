use Rattle.std.proofs.Common.{◌≡◌, map, take}
use Rattle.bib_syntax.specs.Views.{entry_reading_of}
use Rattle.edit_strings.specs.Collected.{named_texts}
use Rattle.edit_strings.specs.Views.{lent_texts}
use Rattle.edit_strings.proofs.texts.named_texts.Given as goal

abbrev pub invariant-entries : goal.invariant-entries
invariant-entries l = lent_texts l.texts.items ≡ named_texts (lent_texts l.names) (map entry_reading_of (take l.entry-index l.entries))
