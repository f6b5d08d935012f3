use Rattle.std.proofs.Common.{map, refl}
use Rattle.bib_syntax.specs.Views.{entry_reading_of}
use Rattle.edit_entries.proofs.NameFacts.{name_known}
use Rattle.edit_entries.proofs.new_keys.Names.new.Goals as goal

pub returns-clause-names : goal.returns-clause-names
returns-clause-names c = λ field name.
    name_known
    (record {
      keys = c.args.keys;
      exact = c.in_ok-key_indices.field-0;
      in_lowercase = c.in_ok-lowercase_indices.field-0;
      aliases = c.in_ok-alias_indices.field-0;
      texts = c.in_ok-key_texts.field-0;
    }) (map entry_reading_of c.args.entries.now) c.args.keys field name refl
    (c.in_ok-key_indices.ensures name) (c.in_ok-lowercase_indices.ensures name) (c.in_ok-alias_indices.ensures name)
    c.in_ok-key_texts.ensures
