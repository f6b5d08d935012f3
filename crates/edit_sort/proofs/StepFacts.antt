-- The gaps, spaces and items of a document, as a loop collects them, and the text that a loop writes.
use Rattle.std.proofs.Common.{◌≡◌, ℕ, ◌+◌, Bool, true, false, cond, count_by, List, [], ◌∷◌, ◌++◌, drop, flat_map, length, map, take, zip, refl, sym, ap, ◌∙◌, subst, arith, append_assoc, length-append}
use Rattle.std.specs.Prelude.{◌==◌, slice_index}
use Rattle.std.specs.List.{enumerate_from}
use Rattle.std.proofs.lemmas.List.{take_at}
use Rattle.std.proofs.lemmas.List.Sums.{sum_by_push}
use Rattle.bib_text.specs.Characters as char
use Rattle.bib_syntax.specs.Reading.{EntryReading}
use Rattle.bib_syntax.specs.Recovery.{has_byte}
use Rattle.edit_entries.specs.Documents.{Document}
use Rattle.edit_sort.specs.Sorted.{AreEntriesInOrder, Item, comment_in, entry_bytes, entry_place, gap_before, gaps, item_at, items, rank, rest_of, run_at, space_in, spaces_of, text_in_order}
use Rattle.edit_sort.specs.Steps.{gaps_from, items_from, items_laid_out, place_after, run_after, spaces_from}

-- ---- gaps and spaces

gaps_are_from : (text : List ℕ) (at : ℕ) (es : List EntryReading)
    → map (λ (x : ℕ × EntryReading). gap_before text x.0 x.1) (zip (at ∷ map (λ e. e.end + 1) es) es) ≡ gaps_from text at es
gaps_are_from text at [] = refl
gaps_are_from text at (e ∷ es) = ap (λ l. gap_before text at e ∷ l) (gaps_are_from text (e.end + 1) es)

pub gaps_are : (d : Document) → gaps d ≡ gaps_from d.text 0 d.says.entries
gaps_are d = gaps_are_from d.text 0 d.says.entries

spaces_are_from : (text : List ℕ) (index at : ℕ) (es : List EntryReading)
    → map (λ (x : ℕ × List ℕ). space_in (x.0 == 0) x.1) (enumerate_from index (gaps_from text at es)) ≡ spaces_from text index at es
spaces_are_from text index at [] = refl
spaces_are_from text index at (e ∷ es) =
    ap (λ l. space_in (index == 0) (gap_before text at e) ∷ l) (spaces_are_from text (index + 1) (e.end + 1) es)

pub spaces_are : (d : Document) → spaces_of d ≡ spaces_from d.text 0 0 d.says.entries
spaces_are d =
    ap (λ l. map (λ (x : ℕ × List ℕ). space_in (x.0 == 0) x.1) (enumerate_from 0 l)) (gaps_are d)
    ∙ spaces_are_from d.text 0 0 d.says.entries

last_start : (at : ℕ) (es : List EntryReading) → slice_index (at ∷ map (λ e. e.end + 1) es) (length es) ≡ place_after at es
last_start at [] = refl
last_start at (e ∷ es) = last_start (e.end + 1) es

pub rest_is : (d : Document) → rest_of d ≡ drop (place_after 0 d.says.entries) d.text
rest_is d = ap (λ n. drop n d.text) (last_start 0 d.says.entries)

-- ---- items

one_more : (b : Bool) (n : ℕ) → n + cond b 1 0 ≡ cond b (n + 1) n
one_more true n = refl
one_more false n = omega arith

-- the run of an entry is that of the entry before it, or the next one if its gap contains an at sign
run_here : (before : List (List ℕ)) (gap : List ℕ) (rest : List (List ℕ)) (index run : ℕ) → length before ≡ index
    → count_by (has_byte char.at) before ≡ run
    → run_at (before ++ gap ∷ rest) index ≡ run_after run gap
run_here before gap rest index run size counted =
    let same : before ++ gap ∷ rest ≡ (before ++ gap ∷ []) ++ rest = sym (append_assoc before (gap ∷ []) rest) in
    let long : length (before ++ gap ∷ []) ≡ index + 1 = omega (arith, length-append before (gap ∷ [])) in
    ap (λ l. count_by (has_byte char.at) (take (index + 1) l)) same
    ∙ ap (count_by (has_byte char.at)) (take_at (before ++ gap ∷ []) rest (index + 1) long)
    ∙ sum_by_push (λ g. cond (has_byte char.at g) 1 0) before gap
    ∙ ap (λ n. n + cond (has_byte char.at gap) 1 0) counted ∙ one_more (has_byte char.at gap) run

items_are_from : (all : List EntryReading) (text places : List ℕ) (before : List (List ℕ)) (index at run : ℕ) (es : List EntryReading)
    → length before ≡ index → count_by (has_byte char.at) before ≡ run
    → map (λ (x : ℕ × (List ℕ × EntryReading)). item_at all (before ++ gaps_from text at es) places x.0 x.1.0 x.1.1)
    (enumerate_from index (zip (gaps_from text at es) es)) ≡ items_from all text places index at run es
items_are_from all text places before index at run [] size counted = refl
items_are_from all text places before index at run (e ∷ es) size counted =
    let gap = gap_before text at e in
    let rest = gaps_from text (e.end + 1) es in
    let pairs = enumerate_from (index + 1) (zip rest es) in
    let here = run_here before gap rest index run size counted in
    let first : Item = record {
      run = run_after run gap;
      rank = rank all e;
      place = entry_place all places e;
      comment = comment_in (index == 0) gap;
      entry = e;
    } in
    let own =
    λ (n : ℕ).
    let i : Item = record {
      run = n;
      rank = rank all e;
      place = entry_place all places e;
      comment = comment_in (index == 0) gap;
      entry = e;
    } in i in
    ap
    (λ n.
    own n
    ∷ map (λ (x : ℕ × (List ℕ × EntryReading)). item_at all (before ++ gap ∷ rest) places x.0 x.1.0 x.1.1) pairs)
    here
    ∙ ap (λ l. first ∷ l)
    (ap
    (λ g. map (λ (x : ℕ × (List ℕ × EntryReading)). item_at all g places x.0 x.1.0 x.1.1) pairs)
    (sym (append_assoc before (gap ∷ []) rest))
    ∙ items_are_from all text places (before ++ gap ∷ []) (index + 1) (e.end + 1) (run_after run gap) es
    (omega (arith, length-append before (gap ∷ []), size))
    (sum_by_push (λ g. cond (has_byte char.at g) 1 0) before gap
    ∙ ap (λ n. n + cond (has_byte char.at gap) 1 0) counted ∙ one_more (has_byte char.at gap) run))

-- the items of a document, as a loop collects them
abbrev pub listed : Document → List ℕ → List Item
listed d places = items_from d.says.entries d.text places 0 0 0 d.says.entries

pub items_are : (d : Document) (places : List ℕ) → items d places ≡ listed d places
items_are d places =
    ap
    (λ g.
    map (λ (x : ℕ × (List ℕ × EntryReading)). item_at d.says.entries g places x.0 x.1.0 x.1.1)
    (enumerate_from 0 (zip g d.says.entries)))
    (gaps_are d)
    ∙ items_are_from d.says.entries d.text places [] 0 0 0 d.says.entries refl refl

pub listed_order : (d : Document) (places : List ℕ) (order : List Item) → AreEntriesInOrder (items d places) order
    → AreEntriesInOrder (listed d places) order
listed_order d places order in_order = subst (λ l. AreEntriesInOrder l order) (items_are d places) in_order

-- ---- the text

-- the text with its entries in an order, as a loop writes it
abbrev pub written : Document → List Item → List ℕ
written d order =
    items_laid_out d.text (spaces_from d.text 0 0 d.says.entries) order (drop (place_after 0 d.says.entries) d.text)

laid_from : (text : List ℕ) (ss : List (List ℕ)) (order : List Item) (rest : List ℕ)
    → flat_map (λ (x : List ℕ × Item). x.0 ++ (x.1.comment ++ entry_bytes text x.1.entry)) (zip ss order) ++ rest
    ≡ items_laid_out text ss order rest
laid_from text [] order rest = refl
laid_from text (s ∷ ss) [] rest = refl
laid_from text (s ∷ ss) (i ∷ order) rest =
    let bytes = entry_bytes text i.entry in
    let more = flat_map (λ (x : List ℕ × Item). x.0 ++ (x.1.comment ++ entry_bytes text x.1.entry)) (zip ss order) in
    append_assoc (s ++ (i.comment ++ bytes)) more rest ∙ append_assoc s (i.comment ++ bytes) (more ++ rest)
    ∙ ap (λ t. s ++ t) (append_assoc i.comment bytes (more ++ rest))
    ∙ ap (λ t. s ++ (i.comment ++ (bytes ++ t))) (laid_from text ss order rest)

pub text_is : (d : Document) (order : List Item) → text_in_order d order ≡ written d order
text_is d order =
    let bytes =
    λ (ss : List (List ℕ)).
    flat_map (λ (x : List ℕ × Item). x.0 ++ (x.1.comment ++ entry_bytes d.text x.1.entry)) (zip ss order) in
    ap (λ ss. bytes ss ++ rest_of d) (spaces_are d) ∙ ap (λ r. bytes (spaces_from d.text 0 0 d.says.entries) ++ r) (rest_is d)
    ∙ laid_from d.text (spaces_from d.text 0 0 d.says.entries) order (drop (place_after 0 d.says.entries) d.text)
