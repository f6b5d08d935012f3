use Rattle.std.proofs.Common.{refl}
use Rattle.edit_entry_merge.specs.ConflictTexts.{conflict_parts, optional_lines}
use Rattle.edit_entry_merge.proofs.PartFacts.{cut_parts_are}
use Rattle.edit_entry_merge.proofs.laws.conflict_texts_have_markers_where_they_differ.Goals as goal

pub returns : goal.returns
returns c m ours theirs = record {
  parts = conflict_parts (optional_lines ours) (optional_lines theirs);
  are = cut_parts_are (optional_lines ours) (optional_lines theirs);
  is = refl;
}
