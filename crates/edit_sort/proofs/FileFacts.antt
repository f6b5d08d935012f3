-- A file with its entries in another order parses to the reading with the entries in this order.
use Rattle.std.proofs.Common.{◌≡◌, ℕ, suc, ◌+◌, ◌-◌, ◌≤◌, List, [], ◌∷◌, ◌++◌, length, drop, take, map, refl, sym, ap, ◌∙◌, subst, arith, append_assoc, length-append, length-drop}
use Rattle.std.specs.Prelude.{◌==◌}
use Rattle.std.specs.List.{AllByRecursion}
use Rattle.std.specs.Str.{IsCharBoundary}
use Rattle.std.proofs.lemmas.List.{length-map, length-take-le, take_at}
use Rattle.std.proofs.lemmas.List.Elements.{All-from_recursion, recursion_from_All}
use Rattle.std.proofs.lemmas.List.Sorted.{All-permutation, length_permutation}
use Rattle.edit_format.proofs.FileFacts.{stands_here}
use Rattle.bib_text.specs.Places.{Place, place, between}
use Rattle.bib_text.proofs.PlaceFacts.{ahead_then, ahead_char, char_within}
use Rattle.bib_syntax.specs.Reading.{EntryReading, FileReading, then}
use Rattle.bib_syntax.specs.Kept.{entry_alone}
use Rattle.bib_syntax.specs.Grammar.{File, IsRawReading, longest}
use Rattle.bib_syntax.specs.Grammar.{File as file}
use Rattle.bib_syntax.proofs.FieldFacts.{ahead_fields}
use Rattle.edit_entries.specs.Documents.{Document, IsDocument}
use Rattle.edit_entries.specs.Edits.{moved_entry, moved_file, placeless}
use Rattle.edit_entries.proofs.EditFacts.{text_stands}
use Rattle.edit_entries.proofs.GrammarFacts.{moved-then}
use Rattle.edit_entries.proofs.EntryCopyFacts.{rest_copied}
use Rattle.edit_entries.proofs.EntryFacts.{ahead_to_fields}
use Rattle.edit_entries.proofs.MovedFacts.{body_within}
use Rattle.edit_entries.proofs.SplitFacts.{ahead_file_before, joined_file}
use Rattle.edit_entries.proofs.ZoneFacts.{there}
use Rattle.edit_entries.proofs.CutFacts.{cut_file, cut_stood, stood}
use Rattle.edit_entries.proofs.ByEntriesFacts.{ByEntries, by_entries}
use Rattle.edit_entries.proofs.StandsFacts.{past}
use Rattle.edit_sort.specs.Cuts.{AreItemsCut, IsEntryOfItemCut, IsItemCut}
use Rattle.edit_sort.specs.Sorted.{AreEntriesInOrder, IsReadSorted, Item, comment_in, entry_bytes, gap_before, items, says_sorted, space_in, text_in_order}
use Rattle.edit_sort.specs.Steps.{items_from, items_laid_out, place_after, run_after, spaces_from}
use Rattle.edit_entries.proofs.PlacelessFacts.{file_placeless}
use Rattle.edit_sort.proofs.PlainFacts.{ahead_plain, stood_plain}
use Rattle.edit_sort.proofs.ReadFacts.{ItemReads, SpaceReads, gap_cut, item_reads}
use Rattle.edit_sort.proofs.StepFacts.{listed, listed_order, text_is}

-- ---- the rest of a text, without entries

-- a file parses to the same reading, except for byte offsets, from a place of another text on
pub record FileThere (says : FileReading) (u : Place) : Type 0 where
  pub reading : FileReading
  pub file : File longest u reading
  pub alike : placeless reading ≡ placeless says

abbrev RestReads : List ℕ → FileReading → Type 0
RestReads bytes says = (u : Place) → drop u.at u.text ≡ bytes → u.at ≤ length u.text → FileThere says u

rest_reads : {a : Place} {says : FileReading} → File longest a says → a.at ≤ length a.text → RestReads (drop a.at a.text) says
rest_reads {a} {says} x within u same within' =
    record {
      reading = moved_file (λ n. n - a.at + u.at) says;
      file = rest_copied x within within' same;
      alike = file_placeless (λ n. n - a.at + u.at) says;
    }

-- ---- a file as spaces and entries

abbrev AllSpaces : List (List ℕ) → List FileReading → Type 0
AllSpaces [] [] = Unit {0}
AllSpaces [] (b ∷ bs) = ⊥
AllSpaces (s ∷ ss) [] = ⊥
AllSpaces (s ∷ ss) (b ∷ bs) = SpaceReads s b × (b.entries ≡ []) × AllSpaces ss bs

abbrev rejoined : List FileReading → List EntryReading → FileReading → FileReading
rejoined [] es rest = rest
rejoined (b ∷ bs) [] rest = rest
rejoined (b ∷ bs) (e ∷ es) rest = then b (then (entry_alone e) (rejoined bs es rest))

abbrev ReadsItem : List ℕ → Item → Type 0
ReadsItem text i = ItemReads i.comment (entry_bytes text i.entry) i.entry

pub record FileParts (text : List ℕ) (index at : ℕ) (es : List EntryReading) (says : FileReading) : Type 0 where
  pub befores : List FileReading
  pub rest : FileReading
  pub spaces : AllSpaces (spaces_from text index at es) befores
  pub items : (all : List EntryReading) (places : List ℕ) (run : ℕ)
      → AllByRecursion (ReadsItem text) (items_from all text places index at run es)
  pub last : RestReads (drop (place_after at es) text) rest
  pub none : rest.entries ≡ []
  pub whole : says ≡ rejoined befores es rest
  pub cut : AreItemsCut text index at es

pub file_parts : (text : List ℕ) (index : ℕ) {u : Place} {says : FileReading} → u.text ≡ text → u.at ≤ length text
    → IsCharBoundary text u.at → ByEntries u says → FileParts text index u.at says.entries says
file_parts text index {u} {says} same within cut (ByEntries.last x none) =
    subst (λ es. FileParts text index u.at es says) (sym none) (record {
      befores = [];
      rest = says;
      spaces = tt;
      items = λ all places run. tt;
      last = subst (λ t. RestReads (drop u.at t) says) same (rest_reads x (omega (arith, within, ap length same)));
      none = none;
      whole = refl;
      cut = cut;
    })
file_parts text index {u} {says} same within cut
    (ByEntries.more {s = s} {v = v} {before = before} {rest = rest} {e = e} first none x file' others) =
    let to_start = ahead_file_before first in
    let to_brace = ahead_then (ahead_to_fields x) (ahead_fields x.fields) in
    let to_end = ahead_then to_brace (ahead_char x.closes) in
    let start_text : s.text ≡ text = to_start.text ∙ same in
    let end_text : v.text ≡ text = to_end.text ∙ start_text in
    let end_within : v.at ≤ length text = omega (arith, char_within x.closes, ap length end_text) in
    let start_within : s.at ≤ length u.text = omega (arith, to_end.at, end_within, ap length same) in
    let next : v.at ≡ x.brace.at + 1 = x.closes.next in
    let end_is : v.at ≡ e.end + 1 = omega (arith, x.ends) in
    let after_cut = cut_file text end_text file' in
    let r =
    subst (λ n. FileParts text (index + 1) n rest.entries rest) end_is
    (file_parts text (index + 1) end_text end_within after_cut others) in
    let gap = gap_cut (index == 0) first x.head.sign start_within in
    let gap_is : gap_before text u.at e ≡ between u s =
    ap (λ n. take (n - u.at) (drop u.at text)) x.starts ∙ ap (λ t. take (s.at - u.at) (drop u.at t)) (sym same) in
    let comment_is : comment_in (index == 0) (gap_before text u.at e) ≡ between gap.mid s =
    ap (comment_in (index == 0)) gap_is ∙ gap.comment in
    let space_is : space_in (index == 0) (gap_before text u.at e) ≡ between u gap.mid = ap (space_in (index == 0)) gap_is ∙ gap.space in
    let bytes_is : entry_bytes text e ≡ between s v =
    ap (λ n. take (e.end + 1 - n) (drop n text)) x.starts ∙ ap (λ n. take (n - s.at) (drop s.at text)) (sym end_is)
    ∙ ap (λ t. take (v.at - s.at) (drop s.at t)) (sym start_text) in
    let rest_ahead = ahead_plain gap.rest in
    let mid_text : gap.mid.text ≡ text = gap.first.text ∙ same in
    let size : length (comment_in (index == 0) (gap_before text u.at e)) ≡ s.at - gap.mid.at =
    ap length comment_is
    ∙ length-take-le (s.at - gap.mid.at) (drop gap.mid.at gap.mid.text)
    (omega (arith, length-drop gap.mid.at gap.mid.text, ap length mid_text, ap length same, start_within)) in
    let mid_is : gap.mid.at ≡ e.start - length (comment_in (index == 0) (gap_before text u.at e)) =
    omega (arith, x.starts, rest_ahead.at) in
    let at_start : IsCharBoundary text e.start =
    subst (λ n. IsCharBoundary text n) (sym x.starts) (cut_stood text start_text (stood x.head.sign)) in
    let at_mid = subst (λ n. IsCharBoundary text n) mid_is (cut_stood text mid_text (stood_plain gap.rest (stood x.head.sign))) in
    let item : IsItemCut text index u.at e = record {
      gap = record { ordered = omega (arith, to_start.at, x.starts); start_cut = cut; end_cut = at_start };
      some = omega (arith, x.starts, x.ends, to_brace.at);
      small = omega (arith, x.starts);
      space = record { ordered = omega (arith, gap.first.at, mid_is); start_cut = cut; end_cut = at_mid };
      whole = record {
        ordered = omega (arith, x.starts, end_is, to_end.at);
        start_cut = at_start;
        end_cut = subst (λ n. IsCharBoundary text n) end_is after_cut;
      };
    } in
    let mid_within : s.at ≤ length gap.mid.text = omega (arith, start_within, ap length gap.first.text) in
    let reads : ItemReads (comment_in (index == 0) (gap_before text u.at e)) (entry_bytes text e) e =
    subst (λ t. ItemReads t (entry_bytes text e) e) (sym comment_is)
    (subst (λ t. ItemReads (between gap.mid s) t e) (sym bytes_is) (item_reads gap.rest mid_within x)) in
    subst (λ es. FileParts text index u.at (es ++ e ∷ rest.entries) says) (sym none) (record {
      befores = before ∷ r.befores;
      rest = r.rest;
      spaces = (subst (λ t. SpaceReads t before) (sym space_is) gap.reads, none, r.spaces);
      items = λ all places run. (reads, r.items all places (run_after run (gap_before text u.at e)));
      last = r.last;
      none = r.none;
      whole = ap (λ r'. then before (then (entry_alone e) r')) r.whole;
      cut = (item, r.cut);
    })

-- ---- parsing in another order

alike_then : (gap before rest reading : FileReading) (e e' : EntryReading) → placeless gap ≡ placeless before
    → moved_entry (λ n. 0) e' ≡ moved_entry (λ n. 0) e → placeless reading ≡ placeless rest
    → placeless (then gap (then (entry_alone e') reading)) ≡ placeless (then before (then (entry_alone e) rest))
alike_then gap before rest reading e e' between_entries entry others =
    moved-then (λ n. 0) gap (then (entry_alone e') reading)
    ∙ ap (λ r. then r (placeless (then (entry_alone e') reading))) between_entries
    ∙ ap (then (placeless before))
    (moved-then (λ n. 0) (entry_alone e') reading ∙ ap (λ y. then (entry_alone y) (placeless reading)) entry
    ∙ ap (then (entry_alone (moved_entry (λ n. 0) e))) others ∙ sym (moved-then (λ n. 0) (entry_alone e) rest))
    ∙ sym (moved-then (λ n. 0) before (then (entry_alone e) rest))

-- the text has these spaces between its entries, each with the comment of the entry after it
abbrev pub AreLaid : List ℕ → ℕ → List EntryReading → List (List ℕ) → List Item → Type 0
AreLaid text at [] [] [] = Unit {0}
AreLaid text at [] [] (i ∷ order) = ⊥
AreLaid text at [] (s ∷ ss) order = ⊥
AreLaid text at (e ∷ es) [] order = ⊥
AreLaid text at (e ∷ es) (s ∷ ss) [] = ⊥
AreLaid text at (e ∷ es) (s ∷ ss) (i ∷ order) = (gap_before text at e ≡ s ++ i.comment) × AreLaid text (e.end + 1) es ss order

-- entries in another order parse from a place on
pub record OrderThere (says : FileReading) (spaces : List (List ℕ)) (order : List Item) (u : Place) : Type 0 where
  pub reading : FileReading
  pub file : File longest u reading
  pub alike : placeless reading ≡ placeless says
  pub laid : AreLaid u.text u.at reading.entries spaces order

empty_map : {A B : Type 0} (f : A → B) (xs : List A) → map f xs ≡ [] → xs ≡ []
empty_map f [] none = refl
empty_map f (x ∷ xs) none = absurd (cc)

no_entries : (reading says : FileReading) → placeless reading ≡ placeless says → says.entries ≡ [] → reading.entries ≡ []
no_entries reading says alike none =
    empty_map (moved_entry (λ n. 0)) reading.entries (ap (λ r. r.entries) alike ∙ ap (map (moved_entry (λ n. 0))) none)

order_read : (text : List ℕ) (spaces : List (List ℕ)) (befores : List FileReading) (order : List Item) (last : List ℕ)
    (rest : FileReading) → AllSpaces spaces befores → AllByRecursion (ReadsItem text) order
    → length spaces ≡ length order → RestReads last rest → rest.entries ≡ []
    → (u : Place) → drop u.at u.text ≡ items_laid_out text spaces order last → u.at ≤ length u.text
    → OrderThere (rejoined befores (map (λ i. i.entry) order) rest) spaces order u
order_read text [] [] [] last rest spaces items as_many ends none u here within =
    let there = ends u here within in
    record {
      reading = there.reading;
      file = there.file;
      alike = there.alike;
      laid = subst (λ es. AreLaid u.text u.at es [] []) (sym (no_entries there.reading rest there.alike none)) tt;
    }
order_read text [] [] (i ∷ order) last rest spaces items as_many ends none u here within = absurd (omega (arith, as_many))
order_read text [] (b ∷ bs) order last rest spaces items as_many ends none u here within = absurd spaces
order_read text (s ∷ ss) [] order last rest spaces items as_many ends none u here within = absurd spaces
order_read text (s ∷ ss) (b ∷ bs) [] last rest spaces items as_many ends none u here within = absurd (omega (arith, as_many))
order_read text (s ∷ ss) (b ∷ bs) (i ∷ order) last rest spaces items as_many ends none u here within =
    let bytes = entry_bytes text i.entry in
    let tail = items_laid_out text ss order last in
    let p = past u s in
    let here' : drop p.at p.text ≡ (i.comment ++ bytes) ++ tail =
    text_stands u.text s (i.comment ++ (bytes ++ tail)) u.at here ∙ sym (append_assoc i.comment bytes tail) in
    let q = past p (i.comment ++ bytes) in
    let item = items.0 p q (stands_here p (i.comment ++ bytes) tail here') in
    let e' = item.entry.reading in
    let space = spaces.0 u p (stands_here u s (i.comment ++ (bytes ++ tail)) here) item.stood in
    let others =
    order_read text ss bs order last rest spaces.2 items.1 (omega (arith, as_many)) ends none q
    (text_stands p.text (i.comment ++ bytes) tail p.at here') (body_within item.entry.block.body) in
    let size : length (s ++ i.comment) ≡ e'.start - u.at = omega (arith, length-append s i.comment, item.entry.starts, item.at_start) in
    let gap : gap_before u.text u.at e' ≡ s ++ i.comment =
    ap (take (e'.start - u.at)) (here ∙ sym (append_assoc s i.comment (bytes ++ tail)))
    ∙ take_at (s ++ i.comment) (bytes ++ tail) (e'.start - u.at) size in
    record {
      reading = then space.reading (then (entry_alone e') others.reading);
      file = joined_file space.file (joined_file item.comment (file.block item.entry.block others.file));
      alike =
          alike_then space.reading b (rejoined bs (map (λ i. i.entry) order) rest) others.reading i.entry e' space.alike
          item.entry.alike others.alike;
      laid =
          subst (λ es. AreLaid u.text u.at (es ++ e' ∷ others.reading.entries) (s ∷ ss) (i ∷ order))
          (sym (no_entries space.reading b space.alike spaces.1))
          (gap, subst (λ n. AreLaid u.text n others.reading.entries ss order) (sym item.entry.ends) others.laid);
    }

-- ---- the reading in another order

said_with : (befores : List FileReading) (spaces : List (List ℕ)) (es es' : List EntryReading) (rest : FileReading)
    → AllSpaces spaces befores → rest.entries ≡ [] → length spaces ≡ length es → length spaces ≡ length es'
    → rejoined befores es' rest ≡ record (rejoined befores es rest) { entries = es' }
said_with [] [] [] [] rest spaces none as_many as_many' = ap (λ es. let r : FileReading = record rest { entries = es } in r) none
said_with [] [] (e ∷ es) es' rest spaces none as_many as_many' = absurd (omega (arith, as_many))
said_with [] [] [] (e ∷ es') rest spaces none as_many as_many' = absurd (omega (arith, as_many'))
said_with [] (s ∷ ss) es es' rest spaces none as_many as_many' = absurd spaces
said_with (b ∷ bs) [] es es' rest spaces none as_many as_many' = absurd spaces
said_with (b ∷ bs) (s ∷ ss) [] es' rest spaces none as_many as_many' = absurd (omega (arith, as_many))
said_with (b ∷ bs) (s ∷ ss) (e ∷ es) [] rest spaces none as_many as_many' = absurd (omega (arith, as_many'))
said_with (b ∷ bs) (s ∷ ss) (e ∷ es) (e' ∷ es') rest spaces none as_many as_many' =
    ap (λ r. then b (then (entry_alone e') r))
    (said_with bs ss es es' rest spaces.2 none (omega (arith, as_many)) (omega (arith, as_many')))
    ∙ ap (λ l. let r : FileReading = record (then b (then (entry_alone e) (rejoined bs es rest))) { entries = l ++ e' ∷ es' } in r) spaces.1

length-spaces : (text : List ℕ) (index at : ℕ) (es : List EntryReading) → length (spaces_from text index at es) ≡ length es
length-spaces text index at [] = refl
length-spaces text index at (e ∷ es) = ap suc (length-spaces text (index + 1) (e.end + 1) es)

pub length-items : (all : List EntryReading) (text places : List ℕ) (index at run : ℕ) (es : List EntryReading)
    → length (items_from all text places index at run es) ≡ length es
length-items all text places index at run [] = refl
length-items all text places index at run (e ∷ es) =
    ap suc (length-items all text places (index + 1) (e.end + 1) (run_after run (gap_before text at e)) es)

-- ---- the whole text

pub document_parts : (d : Document) → IsDocument d → FileParts d.text 0 0 d.says.entries d.says
document_parts d read = file_parts d.text 0 {u = place d.text 0} refl (omega arith) (cut_file d.text refl read) (by_entries read)

pub as_many : (d : Document) (places : List ℕ) (order : List Item) → AreEntriesInOrder (items d places) order
    → length (spaces_from d.text 0 0 d.says.entries) ≡ length order
as_many d places order in_order =
    length-spaces d.text 0 0 d.says.entries ∙ sym (length-items d.says.entries d.text places 0 0 0 d.says.entries)
    ∙ sym (length_permutation (listed d places) order (listed_order d places order in_order).permutation)

-- the text in another order parses
pub record OrderRead (d : Document) (order : List Item) : Type 0 where
  pub reading : FileReading
  pub read : IsRawReading (text_in_order d order) reading
  pub alike : placeless reading ≡ placeless (says_sorted d order)
  pub laid : AreLaid (text_in_order d order) 0 reading.entries (spaces_from d.text 0 0 d.says.entries) order

pub read_in_order : (d : Document) (places : List ℕ) (order : List Item) → IsDocument d
    → AreEntriesInOrder (items d places) order → OrderRead d order
read_in_order d places order read in_order =
    let parts = document_parts d read in
    let spaces = spaces_from d.text 0 0 d.says.entries in
    let es = map (λ i. i.entry) order in
    let all = recursion_from_All (ReadsItem d.text) order
    (All-permutation (ReadsItem d.text) (listed d places) order (listed_order d places order in_order).permutation
    (All-from_recursion (ReadsItem d.text) (listed d places) (parts.items d.says.entries places 0))) in
    let size = as_many d places order in_order in
    let said =
    order_read d.text spaces parts.befores order (drop (place_after 0 d.says.entries) d.text) parts.rest
    parts.spaces all size parts.last parts.none (place (text_in_order d order) 0) (text_is d order) (omega arith) in
    record {
      reading = said.reading;
      read = said.file;
      alike =
          said.alike
          ∙ ap placeless
          (said_with parts.befores spaces d.says.entries es parts.rest parts.spaces parts.none
          (length-spaces d.text 0 0 d.says.entries) (size ∙ sym (length-map order (λ i. i.entry))))
          ∙ ap (λ says. placeless (record says { entries = es })) (sym parts.whole);
      laid = said.laid;
    }

pub text_read : (d : Document) (places : List ℕ) (order : List Item) → IsDocument d
    → AreEntriesInOrder (items d places) order → IsReadSorted d places (text_in_order d order)
text_read d places order read in_order =
    let said = read_in_order d places order read in_order in
    record { order = order; in_order = in_order; tells = said.reading; read = said.read; alike = said.alike }

-- ---- character boundaries

entries_cut : (all : List EntryReading) (text places : List ℕ) (index at run : ℕ)
    (es : List EntryReading) → AreItemsCut text index at es
    → AllByRecursion (IsEntryOfItemCut text) (items_from all text places index at run es)
entries_cut all text places index at run [] cut = tt
entries_cut all text places index at run (e ∷ es) cut =
    (cut.0.whole, entries_cut all text places (index + 1) (e.end + 1) (run_after run (gap_before text at e)) es cut.1)

pub order_cut : (d : Document) (places : List ℕ) (order : List Item) → IsDocument d
    → AreEntriesInOrder (items d places) order → AllByRecursion (IsEntryOfItemCut d.text) order
order_cut d places order read in_order =
    recursion_from_All (IsEntryOfItemCut d.text) order
    (All-permutation (IsEntryOfItemCut d.text) (listed d places) order (listed_order d places order in_order).permutation
    (All-from_recursion (IsEntryOfItemCut d.text) (listed d places)
    (entries_cut d.says.entries d.text places 0 0 0 d.says.entries (document_parts d read).cut)))

last_cut : (text : List ℕ) (index at : ℕ) (es : List EntryReading) → AreItemsCut text index at es → IsCharBoundary text (place_after at es)
last_cut text index at [] cut = cut
last_cut text index at (e ∷ es) cut = last_cut text (index + 1) (e.end + 1) es cut.1

pub end_cut : (d : Document) → IsDocument d → IsCharBoundary d.text (place_after 0 d.says.entries)
end_cut d read = last_cut d.text 0 0 d.says.entries (document_parts d read).cut
