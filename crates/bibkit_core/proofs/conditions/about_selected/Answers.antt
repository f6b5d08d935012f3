use Rattle.std.proofs.Common.{◌∙◌, ap, map}
use Rattle.std.specs.Prelude.{filter}
use Rattle.bib_syntax.specs.Reading.{FileReading}
use Rattle.bib_syntax.specs.Views.{entry_reading_of, file_of}
use Rattle.bibkit_core.specs.Conditions.{entries_with, is_about, selected_keys}
use Rattle.bibkit_core.proofs.conditions.about_selected.Goals as goal

pub returns : goal.returns
returns c =
    let says : FileReading = file_of c.args.recovery.raw in
    let skipped = c.args.recovery.skipped.items in
    let keys = map (λ key. key.now) c.in_ok-keys.keys.items in
    record {
      keys = keys;
      selected = record {
        entries = c.in_ok-entries.entries.items;
        of_content = c.in_ok-entries.ensures;
        are = c.in_ok-keys.ensures ∙ ap (selected_keys c.args.conditions.now) c.deref.ensures.value;
      };
      are = c.in_ok-kept.ensures
          ∙ ap (λ bs. filter (is_about bs (map entry_reading_of c.deref-4.result.now)) c.args.found.items) c.deref-3.ensures.value
          ∙ ap (λ es. filter (is_about skipped es) c.args.found.items)
          (ap (map entry_reading_of) c.deref-4.ensures.value ∙ c.in_ok-selected.ensures
          ∙ ap (λ ks. entries_with (map (λ key. key.now) ks) says.entries) c.deref-2.ensures.value);
    }
