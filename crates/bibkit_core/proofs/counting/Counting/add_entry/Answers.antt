use Rattle.std.proofs.Common.{◌∷◌, [], map, refl, subst}
use Rattle.bib_syntax.specs.Views.{entry_reading_of, field_of}
use Rattle.bibkit_core.specs.Stats.{lowercase_names, years_in}
use Rattle.bibkit_core.specs.Totals.{AddsNames}
use Rattle.bibkit_core.proofs.CountFacts.{adds_entry}
use Rattle.bibkit_core.proofs.counting.Counting.add_entry.Goals as goal

pub returns : goal.returns
returns c =
    adds_entry (entry_reading_of c.args.entry.now) c.args.self.now _ c.saturating_add-self.ensures
    (subst (λ n. AddsNames (n ∷ []) c.args.self.now.types c.add.new.self) c.in_ok-lowercase.ensures c.in_ok-add.ensures)
    (subst (λ l. AddsNames (lowercase_names (map field_of l)) c.args.self.now.fields c.count_fields.new.counts)
    c.deref.ensures.value c.in_ok-count_fields.ensures)
    (subst (λ l. AddsNames (years_in (map field_of l)) c.args.self.now.years c.count_year.new.counts)
    c.deref-2.ensures.value c.in_ok-count_year.ensures)
    refl
