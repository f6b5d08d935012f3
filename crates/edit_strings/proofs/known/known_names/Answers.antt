use Rattle.std.proofs.Common.{◌≡◌, ◌+◌, ℕ, List, [], ◌∷◌, ◌++◌, map, take, sym, ap, ◌∙◌, subst}
use Rattle.std.specs.List.{find}
use Rattle.std.specs.Option.{option_map}
use Rattle.std.proofs.lemmas.List.{take_all}
use Rattle.bib_syntax.specs.Reading.{FieldReading, FileReading}
use Rattle.bib_syntax.specs.Views.{entry_reading_of, field_of, file_of}
use Rattle.bib_syntax.specs.declared.raw.Pair.{Pair}
use Rattle.edit_strings.specs.Collected.{first_entry_start, is_reusable}
use Rattle.edit_strings.specs.Collecting.{AreNameCounts, learned}
use Rattle.edit_strings.proofs.KnownFacts.{learned_more}
use Rattle.edit_strings.proofs.TextFacts.{one_more}
use Rattle.edit_strings.proofs.known.known_names.Goals as goal

pub definitions-preserved : goal.definitions-preserved
definitions-preserved c = λ text.
    let says : FileReading = file_of c.args.raw.now in
    let i : ℕ = c.definitions.definition-index in
    let items : List Pair = c.args.raw.now.abbreviations.items in
    let lent : List Pair = c.deref-definition-items.result.now in
    let listed : lent ≡ items = c.deref-definition-items.ensures.value in
    let f : FieldReading = field_of c.definition-item.result in
    let so_far : List FieldReading = map field_of (take i items) in
    let more : map field_of (take (i + 1) items) ≡ so_far ++ f ∷ [] =
    ap (λ l. map field_of (take (i + 1) l)) (sym listed)
    ∙ one_more field_of lent i c.definition-item.result c.definitions-test.true c.definition-item.is
    ∙ ap (λ l. map field_of (take i l) ++ f ∷ []) listed in
    let counted : AreNameCounts c.in_ok-counts.counts says.abbreviations =
    subst (λ l. AreNameCounts c.in_ok-counts.counts (map field_of l)) c.deref.ensures.value c.in_ok-counts.ensures in
    let start = c.first_entry_start-start.ensures ∙ ap (λ l. first_entry_start (map entry_reading_of l)) c.deref-2.ensures.value in
    c.in_ok-learn.ensures text
    ∙ ap (λ o. learned o (option_map (λ t. t.now) c.in_ok-text.text) f text) (c.definitions.invariant text)
    ∙ learned_more says text so_far f (option_map (λ t. t.now) c.in_ok-text.text) (c.in_ok-text.ensures says counted start)
    ∙ ap (λ fs. option_map (λ g. g.name.text) (find (is_reusable says text) fs)) (sym more)

pub returns : goal.returns
returns c = λ text.
    let says : FileReading = file_of c.args.raw.now in
    let items : List Pair = c.args.raw.now.abbreviations.items in
    let whole : take c.definitions.definition-index items ≡ items =
    subst (λ l. take c.definitions.definition-index l ≡ l) c.deref-definition-items.ensures.value
    (take_all c.definitions.definition-index c.deref-definition-items.result.now c.definitions-test.false) in
    c.definitions.invariant text
    ∙ ap (λ l. option_map (λ g. g.name.text) (find (is_reusable says text) (map field_of l))) whole
