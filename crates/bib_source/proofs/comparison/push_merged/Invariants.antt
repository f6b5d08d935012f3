use Rattle.std.proofs.Common.{◌≤◌, take, length}
use Rattle.bib_source.specs.Comparison.{line_texts}
use Rattle.bib_source.specs.Merging.{Extends, IsOpen}
use Rattle.bib_source.proofs.comparison.push_merged.Given as goal

abbrev pub invariant-lines : goal.invariant-lines
invariant-lines l = record {
  merged : Extends l.initial.compared.items l.compared.items (line_texts (take l.at l.old)) (line_texts (take l.next l.new));
  runs : IsOpen l.initial.compared.items → IsOpen l.compared.items;
  before : l.at ≤ l.index;
  within : l.next ≤ length l.new;
}
