use Rattle.std.proofs.Common.{◌≡◌, ℕ, List, length, take}
use Rattle.bib_syntax.specs.Reading.{FileReading}
use Rattle.edit_strings.specs.Collected.{is_one_in_any_case, known_name, names_of_file}
use Rattle.edit_strings.specs.Collecting.{AreBelowUsed, is_taken, known_in, string_texts}
use Rattle.edit_strings.specs.Views.{lent_texts}
use Rattle.edit_strings.proofs.NamesFacts.{AreNamed}
use Rattle.edit_strings.proofs.naming.names.Given as goal

abbrev pub invariant-texts : goal.invariant-texts
invariant-texts l = record {
  closed : AreBelowUsed l.taken l.numbers;
  count : length l.names.items ≡ l.text-index;
  named : (says : FileReading)
      → ((other : List ℕ) → is_taken l.initial.taken other ≡ is_one_in_any_case (names_of_file says) other)
      → ((text : List ℕ) → known_in l.known text ≡ known_name says text)
      → AreNamed says (lent_texts (take l.text-index l.texts)) (string_texts l.names.items) l.taken;
}
