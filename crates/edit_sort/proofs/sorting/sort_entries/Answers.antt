use Rattle.std.proofs.Common.{◌≡◌, ℕ, List, Result, Ok, Err, drop, length, map, sym, ap, ◌∙◌, subst}
use Rattle.std.specs.Prelude.{IfOk}
use Rattle.std.specs.List.{AllByRecursion}
use Rattle.std.specs.Str.{IsCharBoundary}
use Rattle.std.specs.String.{string_bytes}
use Rattle.std.proofs.lemmas.List.{length-map}
use Rattle.bib_syntax.specs.Reading.{EntryReading}
use Rattle.bib_syntax.specs.Views.{entry_reading_of}
use Rattle.edit_entries.specs.Documents.{Document, IsDocument}
use Rattle.edit_sort.specs.Cuts.{AreItemsCut, IsEntryOfItemCut}
use Rattle.edit_sort.specs.Ranks.{AreKeyIndices, item_reading_of, owner}
use Rattle.edit_sort.specs.Sorted.{AreEntriesInOrder, IsReadSorted, IsSortedText, Item, items, rank, text_in_order}
use Rattle.edit_sort.specs.Steps.{items_from, items_laid_out, place_after, spaces_from}
use Rattle.edit_sort.proofs.FileFacts.{as_many, document_parts, end_cut, order_cut, text_read}
use Rattle.edit_sort.proofs.FirstFacts.{owners_are_first}
use Rattle.edit_sort.proofs.StepFacts.{items_are, text_is}
use Rattle.edit_sort.proofs.sorting.sort_entries.Goals as goal
use Rattle.edit_sort.proofs.sorting.sort_entries.Goals.{After-deref-5, After-deref-9}

-- ---- the variables of the code, given the document

order_is : (d : Document) (places text : List ℕ) (entries : List EntryReading)
    (all order order' : List Item) → text ≡ d.text → entries ≡ d.says.entries
    → all ≡ items_from entries text places 0 0 0 entries → order' ≡ order
    → AreEntriesInOrder all order → AreEntriesInOrder (items d places) order'
order_is d places text entries all order order' same listed is is' in_order =
    subst (λ l. AreEntriesInOrder l order')
    (is ∙ ap (λ t. items_from entries t places 0 0 0 entries) same
    ∙ ap (λ es. items_from es d.text places 0 0 0 es) listed ∙ sym (items_are d places))
    (subst (λ l. AreEntriesInOrder all l) (sym is') in_order)

spaces_are : (d : Document) (text : List ℕ) (entries : List EntryReading) → text ≡ d.text → entries ≡ d.says.entries
    → spaces_from text 0 0 entries ≡ spaces_from d.text 0 0 d.says.entries
spaces_are d text entries same listed = ap (λ t. spaces_from t 0 0 entries) same ∙ ap (spaces_from d.text 0 0) listed

as_many_are : {A B : Type 0} (f : A → List ℕ) (g : B → Item) (xs : List A) (ys : List B) (d : Document)
    (places : List ℕ) → map f xs ≡ spaces_from d.text 0 0 d.says.entries
    → AreEntriesInOrder (items d places) (map g ys) → length xs ≡ length ys
as_many_are f g xs ys d places is in_order = sym (length-map xs f) ∙ ap length is ∙ as_many d places (map g ys) in_order ∙ length-map ys g

written_is : (d : Document) (text : List ℕ) (spaces : List (List ℕ)) (order : List Item) (end : ℕ) → text ≡ d.text
    → spaces ≡ spaces_from d.text 0 0 d.says.entries → end ≡ place_after 0 d.says.entries
    → items_laid_out text spaces order (drop end text) ≡ text_in_order d order
written_is d text spaces order end same is ends =
    ap (λ t. items_laid_out t spaces order (drop end t)) same ∙ ap (λ ss. items_laid_out d.text ss order (drop end d.text)) is
    ∙ ap (λ n. items_laid_out d.text (spaces_from d.text 0 0 d.says.entries) order (drop n d.text)) ends
    ∙ sym (text_is d order)

sorted_is : {S E : Type 0} (bytes : S → List ℕ) (r : Result S E) (d : Document) (places : List ℕ)
    (order : List Item) (new : List ℕ) → AreEntriesInOrder (items d places) order → new ≡ text_in_order d order
    → IfOk r (λ s. bytes s ≡ new) → IfOk r (λ s. IsSortedText d places (bytes s))
sorted_is bytes (Err error) d places order new in_order is all = _
sorted_is bytes (Ok s) d places order new in_order is all = record { order = order; in_order = in_order; is = all ∙ is }

read_is : {S E : Type 0} (bytes : S → List ℕ) (r : Result S E) (d : Document) (places : List ℕ)
    (order : List Item) (new : List ℕ) → IsDocument d → AreEntriesInOrder (items d places) order
    → new ≡ text_in_order d order
    → IfOk r (λ s. bytes s ≡ new) → IfOk r (λ s. IsReadSorted d places (bytes s))
read_is bytes (Err error) d places order new read in_order is all = _
read_is bytes (Ok s) d places order new read in_order is all =
    subst (IsReadSorted d places) (sym (all ∙ is)) (text_read d places order read in_order)

-- ---- the entries, their order and the new text

listed : (c : After-deref-5) → map entry_reading_of c.deref-5.result.now ≡ c.args.document.now.says.entries
listed c = ap (map entry_reading_of) c.deref-5.ensures.value ∙ ap (λ f. f.entries) c.raw.ensures.says

in_order : (c : After-deref-9)
    → AreEntriesInOrder (items c.args.document.now c.args.places.now) (map item_reading_of c.deref-9.result.now)
in_order c =
    order_is c.args.document.now c.args.places.now c.text-text.result.now (map entry_reading_of c.deref-5.result.now)
    (map item_reading_of c.in_ok-gathered.gathered.items.items) (map item_reading_of c.in_ok-order.order.items)
    (map item_reading_of c.deref-9.result.now) c.text-text.ensures
    (ap (map entry_reading_of) c.deref-5.ensures.value ∙ ap (λ f. f.entries) c.raw.ensures.says)
    c.in_ok-gathered.ensures.items (ap (map item_reading_of) c.deref-9.ensures.value) c.in_ok-order.ensures

spaces : (c : After-deref-9)
    → map (λ s. s.now) c.deref-8.result.now ≡ spaces_from c.args.document.now.text 0 0 c.args.document.now.says.entries
spaces c =
    ap (map (λ s. s.now)) c.deref-8.ensures.value ∙ c.in_ok-gathered.ensures.spaces
    ∙ spaces_are c.args.document.now c.text-text.result.now (map entry_reading_of c.deref-5.result.now) c.text-text.ensures
    (ap (map entry_reading_of) c.deref-5.ensures.value ∙ ap (λ f. f.entries) c.raw.ensures.says)

written : (c : After-deref-9) → items_laid_out c.text-text.result.now (map (λ s. s.now) c.deref-8.result.now)
    (map item_reading_of c.deref-9.result.now) (drop c.in_ok-gathered.gathered.end c.text-text.result.now)
    ≡ text_in_order c.args.document.now (map item_reading_of c.deref-9.result.now)
written c =
    written_is c.args.document.now c.text-text.result.now (map (λ s. s.now) c.deref-8.result.now)
    (map item_reading_of c.deref-9.result.now) c.in_ok-gathered.gathered.end c.text-text.ensures (spaces c)
    (c.in_ok-gathered.ensures.end
    ∙ ap (place_after 0) (ap (map entry_reading_of) c.deref-5.ensures.value ∙ ap (λ f. f.entries) c.raw.ensures.says))

-- ---- the goals

pub gather-requires-clause-cut : goal.gather-requires-clause-cut
gather-requires-clause-cut c =
    let d = c.args.document.now in
    subst (λ t. AreItemsCut t 0 0 (map entry_reading_of c.deref-5.result.now)) (sym c.text-text.ensures)
    (subst (λ es. AreItemsCut d.text 0 0 es) (sym (listed ((goal.at.gather-requires-clause-cut c).After-deref-5)))
    (document_parts d c.raw.ensures.read).cut)

pub gather-requires-clause-ranks : goal.gather-requires-clause-ranks
gather-requires-clause-ranks c =
    let same = c.deref-4.ensures.value ∙ sym c.deref-5.ensures.value in
    c.deref-7.ensures.value
    ∙ subst (λ es. c.in_ok-ranks.ranks.items ≡ map (rank (map entry_reading_of es)) (map entry_reading_of es)) same c.in_ok-ranks.ensures

pub gather-requires-clause-owners : goal.gather-requires-clause-owners
gather-requires-clause-owners c =
    let names = c.in_ok-names.names in
    let all = map entry_reading_of c.deref-5.result.now in
    let keys : AreKeyIndices all names =
    subst (λ es. AreKeyIndices (map entry_reading_of es) names) (c.deref.ensures.value ∙ sym c.deref-5.ensures.value)
    c.in_ok-names.ensures in
    c.deref-6.ensures.value ∙ c.in_ok-owners.ensures
    ∙ ap (λ es. map (owner names) (map entry_reading_of es)) (c.deref-2.ensures.value ∙ sym c.deref-5.ensures.value)
    ∙ owners_are_first all names keys

pub laid_out-requires-clause-as_many : goal.laid_out-requires-clause-as_many
laid_out-requires-clause-as_many c =
    let k = (goal.at.laid_out-requires-clause-as_many c).After-deref-9 in
    as_many_are (λ s. s.now) item_reading_of c.deref-8.result.now c.deref-9.result.now c.args.document.now c.args.places.now
    (spaces k) (in_order k)

pub laid_out-requires-clause-cut : goal.laid_out-requires-clause-cut
laid_out-requires-clause-cut c =
    subst (λ t. AllByRecursion (IsEntryOfItemCut t) (map item_reading_of c.deref-9.result.now))
    (sym c.text-text.ensures)
    (order_cut c.args.document.now c.args.places.now (map item_reading_of c.deref-9.result.now) c.raw.ensures.read
    (in_order ((goal.at.laid_out-requires-clause-cut c).After-deref-9)))

pub laid_out-requires-clause-end : goal.laid_out-requires-clause-end
laid_out-requires-clause-end c =
    let d = c.args.document.now in
    let all = listed ((goal.at.laid_out-requires-clause-end c).After-deref-5) in
    subst (λ t. IsCharBoundary t c.in_ok-gathered.gathered.end) (sym c.text-text.ensures)
    (subst (λ n. IsCharBoundary d.text n) (sym (c.in_ok-gathered.ensures.end ∙ ap (place_after 0) all)) (end_cut d c.raw.ensures.read))

pub returns-clause-text : goal.returns-clause-text
returns-clause-text c =
    let k = (goal.at.returns-clause-text c).After-deref-9 in
    let order = map item_reading_of c.deref-9.result.now in
    sorted_is string_bytes c.laid_out.result c.args.document.now c.args.places.now order
    (items_laid_out c.text-text.result.now (map (λ s. s.now) c.deref-8.result.now) order
    (drop c.in_ok-gathered.gathered.end c.text-text.result.now)) (in_order k) (written k) c.laid_out.ensures

pub returns-clause-read : goal.returns-clause-read
returns-clause-read c =
    let k = (goal.at.returns-clause-read c).After-deref-9 in
    let order = map item_reading_of c.deref-9.result.now in
    read_is string_bytes c.laid_out.result c.args.document.now c.args.places.now order
    (items_laid_out c.text-text.result.now (map (λ s. s.now) c.deref-8.result.now) order
    (drop c.in_ok-gathered.gathered.end c.text-text.result.now)) c.raw.ensures.read (in_order k) (written k) c.laid_out.ensures
