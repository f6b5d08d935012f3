use Rattle.std.proofs.Common.{◌≡◌, ◌++◌, drop, map}
use Rattle.bib_syntax.specs.Views.{field_of}
use Rattle.edit_entries.specs.EditList.{edit_of}
use Rattle.edit_convert.specs.Tables.{AreFieldsInText, change_edits, lent_text}
use Rattle.edit_convert.proofs.converting.push_field_edits.Given as goal

abbrev pub invariant-fields : goal.invariant-fields
invariant-fields l = record {
  added : map edit_of l.edits.items
      ++ change_edits l.changes l.text (map field_of l.fields) (lent_text l.pending) (map field_of (drop l.index l.fields))
      ≡ map edit_of l.initial.edits.items
      ++ change_edits l.changes l.text (map field_of l.fields) (lent_text l.missing) (map field_of l.fields);
  placed : AreFieldsInText l.text (map field_of (drop l.index l.fields));
}
