-- A sorted text is in order after formatting.
use Rattle.std.proofs.Common.{◌≡◌, ℕ, suc, ◌+◌, ◌-◌, Bool, true, false, cond, List, [], ◌∷◌, Option, None, Some, length, map, refl, sym, ap, ◌∙◌, subst, arith}
use Rattle.std.specs.Prelude.{◌==◌, ◌||◌}
use Rattle.std.specs.Char.{is_ascii_whitespace}
use Rattle.std.specs.List.{list_any}
use Rattle.std.specs.List.Sorted.{IsSorted}
use Rattle.std.proofs.lemmas.Bool.{and_parts}
use Rattle.std.proofs.lemmas.Bool.Decides.{nat_tests}
use Rattle.std.proofs.lemmas.List.{length-map}
use Rattle.bib_text.specs.Places.{place}
use Rattle.bib_syntax.specs.Reading.{EntryReading, FileReading}
use Rattle.bib_syntax.specs.Recovery.{has_byte}
use Rattle.bib_syntax.specs.Grammar.{IsRawReading}
use Rattle.bib_syntax.proofs.FileFacts.{file_same}
use Rattle.edit_entries.specs.Documents.{Document, IsDocument}
use Rattle.edit_format.specs.Formatted.{entry_content, entry_in_order, gap_in_style, line_end_of, line_ends, text_in_style}
use Rattle.edit_format.specs.declared.style.Style.{Style}
use Rattle.edit_format.proofs.FileFacts.{AreGapsInStyle, file_read, line_end_is}
use Rattle.edit_format.proofs.GapFacts.{are_blank, blank_ends}
use Rattle.edit_entries.proofs.ByEntriesFacts.{by_entries}
use Rattle.edit_sort.specs.Sorted.{AreEntriesInOrder, IsSortedText, Item, entry_place, gap_before, item_cmp, items, place_at, rank, text_in_order}
use Rattle.edit_sort.specs.Steps.{gaps_from, items_from, run_after}
use Rattle.edit_sort.proofs.AlikeFacts.{PassAlike, content_keeps, head_same, order_keeps, rank_alike, rank_kept, rest_same}
use Rattle.edit_sort.proofs.FirstFacts.{first_by_keys, keys_of, keys_through}
use Rattle.edit_sort.proofs.OneOrderFacts.{starts_in_order}
use Rattle.edit_sort.proofs.SetFacts.{any_through}
use Rattle.edit_sort.proofs.StaysFacts.{in_order_stays}
use Rattle.edit_sort.proofs.StepFacts.{items_are}
use Rattle.edit_sort.proofs.TwiceFacts.{sorted_as, sorted_in_order}

-- ---- at signs in gaps

white_no_sign : (b : ℕ) → is_ascii_whitespace b ≡ true → (b == 64) ≡ false
white_no_sign b is = grind (arith, nat_tests)

blank_no_sign : (bytes : List ℕ) → are_blank bytes ≡ true → has_byte 64 bytes ≡ false
blank_no_sign [] all = refl
blank_no_sign (b ∷ bs) all =
    let is = and_parts (is_ascii_whitespace b) (are_blank bs) all in
    ap (λ c. c || has_byte 64 bs) (white_no_sign b is.0) ∙ blank_no_sign bs is.1

sign_in_style : (line_end : List ℕ) (blank_lines : Option ℕ) (gap : List ℕ) → are_blank line_end ≡ true
    → has_byte 64 (gap_in_style line_end blank_lines gap) ≡ has_byte 64 gap
sign_in_style line_end None gap ends = refl
sign_in_style line_end (Some count) gap ends = by_blank (are_blank gap) refl
  where
    by_blank : (b : Bool) → are_blank gap ≡ b → has_byte 64 (cond b (line_ends line_end (suc count)) gap) ≡ has_byte 64 gap
    by_blank true is =
        blank_no_sign (line_ends line_end (suc count)) (blank_ends line_end (suc count) ends) ∙ sym (blank_no_sign gap is)
    by_blank false is = refl

-- each gap before an entry contains an at sign exactly if the other gap at its index does
abbrev SameSigns : List ℕ → ℕ → List EntryReading → List (List ℕ) → Type 0
SameSigns text at [] [] = Unit {0}
SameSigns text at [] (gap ∷ gaps) = ⊥
SameSigns text at (e ∷ es) [] = ⊥
SameSigns text at (e ∷ es) (gap ∷ gaps) = (has_byte 64 (gap_before text at e) ≡ has_byte 64 gap) × SameSigns text (e.end + 1) es gaps

gaps_signed : (line_end : List ℕ) (style : Style) (blank_lines : Option ℕ) (new old : List ℕ) (m n : ℕ)
    (es' es : List EntryReading) → are_blank line_end ≡ true → AreGapsInStyle line_end style blank_lines new old m n es' es
    → SameSigns new m es' (gaps_from old n es)
gaps_signed line_end style blank_lines new old m n [] [] ends styled = tt
gaps_signed line_end style blank_lines new old m n [] (e ∷ es) ends styled = absurd styled
gaps_signed line_end style blank_lines new old m n (e' ∷ es') [] ends styled = absurd styled
gaps_signed line_end style blank_lines new old m n (e' ∷ es') (e ∷ es) ends styled = (
  ap (has_byte 64) styled.0 ∙ sign_in_style line_end blank_lines (gap_before old n e) ends,
  gaps_signed line_end style style.blank_lines new old (e'.end + 1) (e.end + 1) es' es ends styled.1,
)

-- ---- runs, ranks and places in two lists of items

runs_listed : (all all' : List EntryReading) (text text' places places' : List ℕ) (index index' at at' run : ℕ)
    (es es' : List EntryReading) → SameSigns text' at' es' (gaps_from text at es)
    → map (λ i. i.run) (items_from all' text' places' index' at' run es') ≡ map (λ i. i.run) (items_from all text places index at run es)
runs_listed all all' text text' places places' index index' at at' run [] [] signs = refl
runs_listed all all' text text' places places' index index' at at' run [] (e' ∷ es') signs = absurd signs
runs_listed all all' text text' places places' index index' at at' run (e ∷ es) [] signs = absurd signs
runs_listed all all' text text' places places' index index' at at' run (e ∷ es) (e' ∷ es') signs =
    let same : run_after run (gap_before text' at' e') ≡ run_after run (gap_before text at e) =
    ap (λ b. cond b (run + 1) run) signs.0 in
    let rest = items_from all' text' places' (index' + 1) (e'.end + 1) (run_after run (gap_before text' at' e')) es' in
    ap (λ n. n ∷ map (λ i. i.run) rest) same
    ∙ ap (λ l. run_after run (gap_before text at e) ∷ l)
    (ap (λ n. map (λ (i : Item). i.run) (items_from all' text' places' (index' + 1) (e'.end + 1) n es')) same
    ∙ runs_listed all all' text text' places places' (index + 1) (index' + 1) (e.end + 1) (e'.end + 1)
    (run_after run (gap_before text at e)) es es' signs.1)

places_listed : (all all' : List EntryReading) (text text' places : List ℕ) (index at at' run run' : ℕ)
    (es es' : List EntryReading) → keys_of all' ≡ keys_of all → keys_of es' ≡ keys_of es
    → map (λ i. i.place) (items_from all' text' places index at' run' es') ≡ map (λ i. i.place) (items_from all text places index at run es)
places_listed all all' text text' places index at at' run run' [] [] keys same = refl
places_listed all all' text text' places index at at' run run' [] (e' ∷ es') keys same = absurd (cc)
places_listed all all' text text' places index at at' run run' (e ∷ es) [] keys same = absurd (cc)
places_listed all all' text text' places index at at' run run' (e ∷ es) (e' ∷ es') keys same =
    let here : e'.key.text ≡ e.key.text = head_same e'.key.text e.key.text (keys_of es') (keys_of es) same in
    let rest = items_from all' text' places (index + 1) (e'.end + 1) (run_after run' (gap_before text' at' e')) es' in
    ap (λ n. n ∷ map (λ i. i.place) rest) (ap (place_at places) (first_by_keys all all' e e' keys here))
    ∙ ap (λ l. entry_place all places e ∷ l)
    (places_listed all all' text text' places (index + 1) (e.end + 1) (e'.end + 1)
    (run_after run (gap_before text at e)) (run_after run' (gap_before text' at' e')) es es' keys
    (rest_same e'.key.text e.key.text (keys_of es') (keys_of es) same))

module _ (all all' : List EntryReading) (style : Style) (old : List ℕ) (ranked : (e : EntryReading) → rank all' e ≡ rank all e) where
  abbrev ordered : EntryReading → EntryReading
  ordered = entry_in_order style old

  rank_at : (e e' : EntryReading) → entry_content e' ≡ entry_content (ordered e) → rank all' e' ≡ rank all e
  rank_at e e' same =
      sym (rank_kept all' entry_content content_keeps e') ∙ ap (rank all') same
      ∙ rank_kept all' entry_content content_keeps (ordered e) ∙ rank_kept all' ordered (order_keeps style old) e ∙ ranked e

  ranks_listed : (text text' places places' : List ℕ) (index index' at at' run run' : ℕ) (es es' : List EntryReading)
      → map entry_content es' ≡ map entry_content (map ordered es)
      → map (λ i. i.rank) (items_from all' text' places' index' at' run' es')
      ≡ map (λ i. i.rank) (items_from all text places index at run es)
  ranks_listed text text' places places' index index' at at' run run' [] [] same = refl
  ranks_listed text text' places places' index index' at at' run run' [] (e' ∷ es') same = absurd (cc)
  ranks_listed text text' places places' index index' at at' run run' (e ∷ es) [] same = absurd (cc)
  ranks_listed text text' places places' index index' at at' run run' (e ∷ es) (e' ∷ es') same =
      let ms = map entry_content es' in
      let ns = map entry_content (map ordered es) in
      let here = rank_at e e' (head_same (entry_content e') (entry_content (ordered e)) ms ns same) in
      let rest = items_from all' text' places' (index' + 1) (e'.end + 1) (run_after run' (gap_before text' at' e')) es' in
      ap (λ n. n ∷ map (λ i. i.rank) rest) here
      ∙ ap (λ l. rank all e ∷ l)
      (ranks_listed text text' places places' (index + 1) (index' + 1) (e.end + 1) (e'.end + 1)
      (run_after run (gap_before text at e)) (run_after run' (gap_before text' at' e')) es es'
      (rest_same (entry_content e') (entry_content (ordered e)) ms ns same))

-- ---- documents

-- the entries of a document are still in order after formatting
pub in_style_in_order : (style : Style) (d after : Document) (places : List ℕ) → IsDocument d → IsDocument after
    → after.text ≡ text_in_style style d.text d.says → IsSorted item_cmp (items d places) → IsSorted item_cmp (items after places)
in_style_in_order style d after places read read' is sorted =
    let all = d.says.entries in
    let all' = after.says.entries in
    let line_end = line_end_of d.text in
    let u = place after.text 0 in
    let ends = line_end_is d.text in
    let there =
    file_read line_end style None {a = place d.text 0} {u = u} {says = d.says} ends (by_entries read) (omega arith) (omega arith) is in
    let said : after.says ≡ there.reading = file_same read' there.file in
    let signs : SameSigns after.text 0 all' (gaps_from d.text 0 all) =
    subst (λ r. SameSigns after.text 0 r.entries (gaps_from d.text 0 all)) (sym said)
    (gaps_signed line_end style None after.text d.text 0 0 there.reading.entries all ends.blank there.gaps) in
    let alike : map entry_content all' ≡ map entry_content (map (entry_in_order style d.text) all) =
    ap (λ r. map entry_content r.entries) said ∙ ap (λ r. r.entries) there.alike in
    let size : length all' ≡ length all =
    sym (length-map all' entry_content) ∙ ap length alike ∙ length-map (map (entry_in_order style d.text) all) entry_content
    ∙ length-map all (entry_in_order style d.text) in
    let keys : keys_of all' ≡ keys_of all =
    sym (keys_through entry_content all' (λ e. content_keeps.keyed e)) ∙ ap keys_of alike
    ∙ keys_through entry_content (map (entry_in_order style d.text) all) (λ e. content_keeps.keyed e)
    ∙ keys_through (entry_in_order style d.text) all (λ e. (order_keeps style d.text).keyed e) in
    let pass : PassAlike all all' =
    λ p kept.
    sym (any_through p entry_content all' (kept entry_content content_keeps)) ∙ ap (list_any p) alike
    ∙ any_through p entry_content (map (entry_in_order style d.text) all) (kept entry_content content_keeps)
    ∙ any_through p (entry_in_order style d.text) all (kept (entry_in_order style d.text) (order_keeps style d.text)) in
    let runs =
    ap (map (λ (i : Item). i.run)) (items_are after places)
    ∙ runs_listed all all' d.text after.text places places 0 0 0 0 0 all all' signs
    ∙ ap (map (λ (i : Item). i.run)) (sym (items_are d places)) in
    let ranks =
    ap (map (λ (i : Item). i.rank)) (items_are after places)
    ∙ ranks_listed all all' style d.text (rank_alike all all' pass size) d.text after.text places places 0 0 0 0 0 0 all all' alike
    ∙ ap (map (λ (i : Item). i.rank)) (sym (items_are d places)) in
    let numbers =
    ap (map (λ (i : Item). i.place)) (items_are after places)
    ∙ places_listed all all' d.text after.text places 0 0 0 0 0 all all' keys keys
    ∙ ap (map (λ (i : Item). i.place)) (sym (items_are d places)) in
    sorted_as (items after places) (items d places) runs ranks numbers (starts_in_order after places read') sorted

-- if each entry keeps its place, sorting a text that was sorted and then formatted doesn't change it
pub sorted_in_style_stays : (style : Style) (d : Document) (places : List ℕ) (order : List Item) (again : FileReading) (after : Document)
    (new : List ℕ) → IsDocument d → AreEntriesInOrder (items d places) order → IsRawReading (text_in_order d order) again
    → IsDocument after → after.text ≡ text_in_style style (text_in_order d order) again
    → IsSortedText after (map (λ i. i.place) order) new → new ≡ after.text
sorted_in_style_stays style d places order again after new read in_order read' read'' is text =
    let places' = map (λ (i : Item). i.place) order in
    let sorted_doc : Document = record { text = text_in_order d order; says = again } in
    in_order_stays after places' new read''
    (in_style_in_order style sorted_doc after places' read' read'' is (sorted_in_order d places order again read in_order read')) text
