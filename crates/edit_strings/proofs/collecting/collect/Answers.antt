use Rattle.std.proofs.Common.{◌≡◌, ℕ, List, length, map, sym, ap, ◌∙◌, subst}
use Rattle.std.specs.Prelude.{max}
use Rattle.std.specs.Str.{IsUtf8}
use Rattle.std.specs.String.{string_bytes}
use Rattle.std.proofs.lemmas.List.{length-map}
use Rattle.bib_syntax.specs.Grammar.{IsRawReading}
use Rattle.bib_syntax.specs.Views.{entry_reading_of, file_of}
use Rattle.edit_entries.specs.Changes.{text_changed}
use Rattle.edit_entries.specs.Documents.{Document}
use Rattle.edit_entries.specs.LineEnds.{line_end_of}
use Rattle.edit_strings.specs.Collected.{AreCollectedTexts, AreNames, AreThoseThat, CanBeCollected, collection, definition_lines, distinct, known_name, named_texts, with_lines}
use Rattle.edit_strings.specs.Collecting.{known_in, string_texts}
use Rattle.edit_strings.specs.Views.{lent_texts}
use Rattle.edit_strings.specs.Exchanged.{exchanges}
use Rattle.edit_strings.proofs.CollectFacts.{collected_alike, collected_answer, made_known}
use Rattle.edit_strings.proofs.NamesFacts.{length-names}
use Rattle.edit_strings.proofs.collecting.collect.Goals as goal

pub with_collection-requires-clause-read : goal.with_collection-requires-clause-read
with_collection-requires-clause-read c =
    let d : Document = c.args.document.now in
    subst (λ t. IsRawReading t (file_of c.raw-raw.result.now)) (sym c.text.ensures)
    (subst (λ s. IsRawReading d.text s) (sym c.raw-raw.ensures.says) c.raw-raw.ensures.read)

pub with_collection-requires-clause-count : goal.with_collection-requires-clause-count
with_collection-requires-clause-count c =
    sym (length-map c.in_ok-collection.collection.names.items string_bytes)
    ∙ length-names (file_of c.raw-raw.result.now) c.in_ok-collection.ensures.named
    ∙ length-map c.deref-4.result.now (λ t. t.now)
    ∙ ap length (c.deref-4.ensures.value ∙ sym c.deref-5.ensures.value)

pub returns : goal.returns
returns c =
    let d : Document = c.args.document.now in
    let fields = lent_texts c.args.fields.now in
    let texts = lent_texts c.in_ok-texts.texts.items in
    let names = string_texts c.in_ok-collection.collection.names.items in
    let says = c.raw-raw.ensures.says in
    let all : lent_texts c.deref-3.result.now ≡ named_texts fields d.says.entries =
    ap lent_texts c.deref-3.ensures.value ∙ c.in_ok-all.ensures
    ∙ ap (named_texts fields)
    (ap (map entry_reading_of) c.deref.ensures.value ∙ ap (λ f. f.entries) says) in
    let known : (text : List ℕ) → known_in c.in_ok-known.known text ≡ known_name d.says text =
    λ text. c.in_ok-known.ensures text ∙ ap (λ s. known_name s text) says in
    let chosen : AreCollectedTexts fields (max c.args.at_least 2) d.says texts =
    collected_alike (known_in c.in_ok-known.known) (known_name d.says) (max c.args.at_least 2) (named_texts fields d.says.entries)
    texts known
    (subst (λ ts. AreThoseThat (CanBeCollected (known_in c.in_ok-known.known) (max c.args.at_least 2) ts) (distinct ts) texts) all
    (subst
    (λ n.
    AreThoseThat (CanBeCollected (known_in c.in_ok-known.known) n (lent_texts c.deref-3.result.now))
    (distinct (lent_texts c.deref-3.result.now)) texts)
    c.max.ensures c.in_ok-texts.ensures)) in
    let named : AreNames d.says texts names =
    subst (λ s. AreNames s texts names) says
    (subst (λ l. AreNames (file_of c.raw-raw.result.now) (lent_texts l) names) c.deref-4.ensures.value c.in_ok-collection.ensures.named) in
    let made : Document → List (List ℕ) → List ℕ =
    λ (x : Document) (ts : List (List ℕ)).
    with_lines x (definition_lines x.says (line_end_of x.text) names ts) (text_changed (exchanges (collection fields ts names)) x) in
    let own : Document = record { text = c.text.result.now; says = file_of c.raw-raw.result.now } in
    let same : own ≡ d =
    ap (λ t. let x : Document = record { text = t; says = file_of c.raw-raw.result.now } in x) c.text.ensures
    ∙ ap (λ s. let x : Document = record { text = d.text; says = s } in x) says in
    collected_answer string_bytes c.with_collection.result d fields texts names c.args.at_least c.raw-raw.ensures.read
    (subst IsUtf8 c.text.ensures c.text.utf8) named chosen
    (made_known string_bytes c.with_collection.result (made own (lent_texts c.deref-5.result.now)) (made d texts)
    (ap (λ x. made x (lent_texts c.deref-5.result.now)) same ∙ ap (λ l. made d (lent_texts l)) c.deref-5.ensures.value)
    c.with_collection.ensures)
