use Rattle.std.proofs.Common.{◌∙◌, ◌||◌, ap, ap₂, sym}
use Rattle.std.specs.Prelude.{is_some}
use Rattle.bib_text.proofs.OptionFacts.{some_mapped}
use Rattle.bib_syntax.specs.Views.{entry_reading_of}
use Rattle.edit_entries.specs.NewKeys.{key_for}
use Rattle.edit_entries.specs.NewNames.{has_word, kept_names}
use Rattle.edit_entries.proofs.TakenFacts.{staying_more}
use Rattle.edit_entries.proofs.taken.staying_set.Goals as goal

pub entries-preserved : goal.entries-preserved
entries-preserved c = λ name.
    let e = entry_reading_of c.index-entries-index.result in
    let gets = c.is_some.ensures ∙ sym (some_mapped (λ k. k.now) c.at.result) ∙ ap is_some c.at.ensures in
    c.in_ok-insert_staying.ensures name
    ∙ ap₂ (λ b o. has_word (kept_names b e) name || o) gets (c.entries.invariant name)
    ∙ sym
    (staying_more entry_reading_of (key_for c.args.keys.now) c.args.entries.now c.entries.index c.index-entries-index.result
    c.entries-test.true c.index-entries-index.is name)
