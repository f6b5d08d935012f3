use Rattle.std.proofs.Common.{◌∷◌, [], map, take, ap, sym, subst, ◌∙◌}
use Rattle.std.specs.Str.{str_to_ascii_lowercase}
use Rattle.std.proofs.lemmas.List.{map-append}
use Rattle.bib_text.proofs.ListFacts.{mapped_more}
use Rattle.bib_syntax.specs.Reading.{FieldReading}
use Rattle.bib_syntax.specs.Views.{field_of}
use Rattle.bibkit_core.specs.Stats.{lowercase_names}
use Rattle.bibkit_core.specs.Totals.{AddsNames}
use Rattle.bibkit_core.proofs.CountFacts.{adds_more_names, adds_no_names}
use Rattle.bibkit_core.proofs.counting.count_fields.Goals as goal

pub fields-init : goal.fields-init
fields-init c = adds_no_names c.args.counts.now

pub fields-preserved : goal.fields-preserved
fields-preserved c =
    let fields = c.args.fields.now in
    let i = c.fields.field-index in
    let f = c.field-item.result in
    let one = subst (λ n. AddsNames (n ∷ []) c.fields.counts c.add.new.self) c.in_ok-lowercase.ensures c.in_ok-add.ensures in
    subst (λ names. AddsNames names c.args.counts.now c.add.new.self)
    (sym
    (ap lowercase_names (mapped_more field_of fields i f c.fields-test.true c.field-item.is)
    ∙ map-append (λ (g : FieldReading). str_to_ascii_lowercase g.name.text) (map field_of (take i fields))
    (field_of f ∷ [])))
    (adds_more_names c.fields.invariant one)
