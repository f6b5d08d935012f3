use Rattle.std.proofs.Common.{◌≡◌, ◌<◌, List, ap, sym, ◌∙◌, map, length, subst}
use Rattle.std.proofs.lemmas.List.{length-map}
use Rattle.std.specs.List.{All, flat_map}
use Rattle.bib_syntax.specs.Reading.{EntryReading}
use Rattle.bib_syntax.specs.Views.{entry_reading_of}
use Rattle.bib_findings.specs.Duplicates.{entries_at}
use Rattle.bib_findings.specs.Marks.{AreMetMarks, chosen, listed, listed_all, marks_of}
use Rattle.bib_findings.proofs.NotedFacts.{as_many_entries, chosen_entries, chosen_within, in_range, listed_marks, on_result}
use Rattle.bib_findings.proofs.marks.candidates.Goals as goal

pub chosen-requires : goal.chosen-requires
chosen-requires c =
    let entries : List EntryReading = entries_at (map entry_reading_of c.args.said.now) c.args.origins.now in
    ap length (c.deref-2.ensures.value ∙ c.in_ok-all.ensures) ∙ length-map entries marks_of
    ∙ as_many_entries (map entry_reading_of c.args.said.now) c.args.origins.now (in_range c.args.said.now c.args.origins.now c.requires)

pub returns-clause-there : goal.returns-clause-there
returns-clause-there c =
    let entries : List EntryReading = entries_at (map entry_reading_of c.args.said.now) c.args.origins.now in
    let all : c.deref-2.result.now ≡ map marks_of entries = c.deref-2.ensures.value ∙ c.in_ok-all.ensures in
    let met : AreMetMarks c.in_ok-met.met (listed_all entries) =
    subst (AreMetMarks c.in_ok-met.met)
    (ap (flat_map listed) (c.deref.ensures.value ∙ c.in_ok-all.ensures) ∙ listed_marks entries)
    c.in_ok-met.ensures in
    on_result c.chosen.result
    (λ found is.
    subst (All (λ index. index < length c.args.said.now)) (sym (is (listed_all entries) met))
    (chosen_within (listed_all entries) c.deref-2.result.now (length c.args.said.now) c.args.origins.now
    c.requires))
    c.chosen.ensures

pub returns-clause-found : goal.returns-clause-found
returns-clause-found c =
    let said : List EntryReading = map entry_reading_of c.args.said.now in
    let entries : List EntryReading = entries_at said c.args.origins.now in
    let all : c.deref-2.result.now ≡ map marks_of entries = c.deref-2.ensures.value ∙ c.in_ok-all.ensures in
    let met : AreMetMarks c.in_ok-met.met (listed_all entries) =
    subst (AreMetMarks c.in_ok-met.met)
    (ap (flat_map listed) (c.deref.ensures.value ∙ c.in_ok-all.ensures) ∙ listed_marks entries)
    c.in_ok-met.ensures in
    on_result c.chosen.result
    (λ found is. ap (entries_at said) (is (listed_all entries) met ∙ ap (λ marks. chosen (listed_all entries) marks c.args.origins.now) all)
    ∙ chosen_entries (listed_all entries) said c.args.origins.now (in_range c.args.said.now c.args.origins.now c.requires))
    c.chosen.ensures
