-- Abbreviations as new values, and documents whose repeated texts are replaced by abbreviations.
use Rattle.std.proofs.Common.{◌≡◌, inr, ℕ, zero, suc, ◌+◌, ◌-◌, ◌<◌, ◌≤◌, Bool, true, false, cond, not, List, [], ◌∷◌, ◌++◌, length, take, drop, map, get_or, refl, sym, ap, ◌∙◌, subst, arith, append-nil, Option, Some, None, Result, Ok, Err}
use Rattle.std.specs.Prelude.{◌&&◌, ◌==◌, ◌||◌, IfOk, IfSome, bytes_eq, count_by, filter, is_some, max, slice_get}
use Rattle.std.specs.List.{AllByRecursion}
use Rattle.std.specs.Option.{option_map, option_map_or}
use Rattle.std.specs.Str.{IsUtf8}
use Rattle.std.proofs.lemmas.Bool.{false≢true}
use Rattle.std.proofs.lemmas.List.{append_cancel_left, map-append, take_all, nil_from_length}
use Rattle.std.proofs.lemmas.Str.{encode_ascii}
use Rattle.bib_text.specs.Braces.{IsParts}
use Rattle.bib_text.specs.Places.{Place, place, CharAt, between}
use Rattle.bib_text.proofs.PlaceFacts.{char_left, same_place}
use Rattle.bib_syntax.specs.Reading.{Part, Piece, FieldReading, FileReading, EntryReading, then}
use Rattle.bib_syntax.specs.Reading.Piece.{abbreviation}
use Rattle.bib_syntax.specs.Kept.{entry_alone}
use Rattle.bib_syntax.specs.Grammar.{Element, Identifier, IsRawReading, NoDigit, longest}
use Rattle.edit_entries.specs.Changes.{edits_of_entries, file_changed, text_changed, IsReadPlaceless, NewValue}
use Rattle.edit_entries.specs.Cuts.{AreEntriesCut, IsPieceCut}
use Rattle.edit_entries.specs.Documents.{CanBeName, Document, IsDocument, has_name, text_at}
use Rattle.edit_entries.specs.EditList.{AreEditsInOrder}
use Rattle.edit_entries.specs.Edits.{Edit, edited, moved_field, moved_file, placeless}
use Rattle.edit_entries.specs.Placed.{IsPlaced}
use Rattle.edit_entries.proofs.AgreementFacts.{same_bytes}
use Rattle.edit_entries.proofs.AllFacts.{OfFields, all_placed, fields_weaker}
use Rattle.edit_entries.proofs.ChangesFacts.{values_placed}
use Rattle.edit_entries.proofs.CutFacts.{cut_file, document_cut}
use Rattle.edit_entries.proofs.EditFacts.{ascii_stands, front, new_bytes}
use Rattle.edit_entries.proofs.GrammarFacts.{moved-then}
use Rattle.edit_entries.proofs.NewValueFacts.{CanBeRead}
use Rattle.edit_entries.proofs.PartFacts.{AreEntriesIn, edits_in_order, file_in}
use Rattle.edit_entries.proofs.PlacelessFacts.{file_placeless}
use Rattle.edit_entries.proofs.TrimmedFacts.{IsFieldPlaced, edits_earlier}
use Rattle.edit_entries.proofs.SplitFacts.{FileBefore, ahead_file_before, block_of, joined_file, split_file}
use Rattle.edit_entries.specs.LineEnds.{line_end_of}
use Rattle.edit_strings.specs.Collected.{AreCollectedTexts, AreMadeAbbreviations, AreNames, AreThoseThat, CanBeCollected, collection, definition_lines, distinct, first_entry_start, has_digit_first, is_before, is_longer_than_name, is_month, is_reusable, known_name, line_readings, name_value, named_text, named_texts, single_text, text_index, text_value, with_definitions, with_lines}
use Rattle.edit_strings.specs.Collecting.{collection_by}
use Rattle.edit_strings.specs.Exchanged.{Exchange, exchanges}
use Rattle.edit_strings.specs.Expanded.{Index, elements}
use Rattle.edit_strings.specs.Tables.{entry_edits, AreAllFieldsCut, IsBelow, IsFieldCut}
use Rattle.edit_strings.proofs.CutFacts.{definitions_can, edits_front, less_same, no_digit}
use Rattle.edit_strings.proofs.DistinctFacts.{those_alike, those_meet}
use Rattle.edit_strings.proofs.ElementFacts.{IsElement, can_be_read, IsValue, file_stands, is_cut}
use Rattle.edit_strings.proofs.ExchangedFacts.{CanBeExchanged, edits_are_changes, exchanged_read}
use Rattle.edit_strings.proofs.InsertFacts.{AreBefore, AreFrom, all_before, all_from, all_kept, back_read, from_earlier, front_there, rest_after, split_before, split_from, tail_read}
use Rattle.edit_strings.proofs.LineFacts.{after_definitions, line_end_by, lines_begin, lines_read}
use Rattle.edit_strings.proofs.NamesFacts.{find_passes, known_definition, length-names}
use Rattle.edit_strings.proofs.IndexFacts.{last_below}
use Rattle.bib_syntax.proofs.FileFacts.{ahead_block}
use Rattle.bib_text.proofs.ListFacts.{all_push, all_weaker, found_has}

-- ---- names that can be read

-- a name parses as the name of an abbreviation: it is an identifier without a leading digit
pub record IsReadAsName (name : List ℕ) : Type 0 where
  pub can : CanBeName name
  pub no_digit : NoDigit (place name 0)

-- a definition that can be reused has no leading digit in its name
reusable_no_digit : (says : FileReading) (text : List ℕ) (f : FieldReading) → is_reusable says text f ≡ true
    → has_digit_first f.name.text ≡ false
reusable_no_digit says text f is =
    by_case (is_before (first_entry_start says.entries) f) (is_month f.name.text) (has_digit_first f.name.text)
    (count_by (has_name f.name.text) says.abbreviations == 1) (single_text (elements f)) is
  where
    by_case : (before month digit once : Bool) (own : Option (List ℕ))
        → option_map_or (λ own. bytes_eq own text) (cond (before && (not month && not digit && once)) own None) false ≡ true
        → digit ≡ false
    by_case false month digit once own is = absurd (false≢true is)
    by_case true true digit once own is = absurd (false≢true is)
    by_case true false true once own is = absurd (false≢true is)
    by_case true false false once own is = refl

known_read : (d : Document) → IsDocument d → (text name : List ℕ) → known_name d.says text ≡ Some name → IsReadAsName name
known_read d read text name known =
    let k = known_definition d.says text name known in
    let passes = find_passes (is_reusable d.says text) d.says.abbreviations k.definition k.found in
    record {
      can =
          subst CanBeName k.named
          (found_has (λ f. CanBeName f.name.text) (is_reusable d.says text) d.says.abbreviations k.definition
          (definitions_can read) k.found);
      no_digit = no_digit name (ap has_digit_first (sym k.named) ∙ reusable_no_digit d.says text k.definition passes);
    }

names_read : (d : Document) → IsDocument d → {texts names : List (List ℕ)} → AreNames d.says texts names
    → AllByRecursion IsReadAsName names
names_read d read AreNames.none = tt
names_read d read (AreNames.known {names = names} text name others known) =
    all_push IsReadAsName names name (names_read d read others) (known_read d read text name known)
names_read d read (AreNames.new {names = names} text name others unknown new) =
    all_push IsReadAsName names name (names_read d read others) (record { can = new.can; no_digit = new.no_digit })

-- ---- indices

all_at : {A : Type 0} (P : A → Type 0) (xs : List A) (i : ℕ) (d : A) → AllByRecursion P xs → i < length xs → P (get_or xs i d)
all_at P [] i d all within = absurd (omega arith)
all_at P (x ∷ xs) zero d all within = all.0
all_at P (x ∷ xs) (suc i) d all within = all_at P xs i d all.1 (omega arith)

pub text_below : (texts : List (List ℕ)) (text : List ℕ) → IfSome (text_index texts text) (λ i. i < length texts)
text_below texts text = last_below (λ t. bytes_eq t text) texts

-- ---- a name as a new value

name_part : (name : List ℕ) (can : CanBeName name) → can.0 ≡ text_at 0 name
name_part name can =
    let size : length name - 0 ≡ length name = omega arith in
    let bytes : between (place name 0) (place name (length name)) ≡ name =
    ap (λ n. take n name) size ∙ take_all (length name) name (omega arith) in
    let end : length name ≡ 0 + length name = omega arith in
    can.1.reading ∙ ap (λ t. let p : Part = record { text = t; start = 0; end = length name } in p) bytes
    ∙ ap (λ n. let p : Part = record { text = name; start = 0; end = n } in p) end

name_read : (name : List ℕ) → IsReadAsName name → CanBeRead (name_value name)
name_read name new =
    let e : Piece = abbreviation (text_at 0 name) in
    let i : Identifier longest (place name 0) (text_at 0 name) (place name (length name)) =
    subst (λ p. Identifier longest (place name 0) p (place name (length name))) (name_part name new.can) new.can.1 in
    let is : IsElement name e =
    record {
      start = place name 0;
      end = place name (length name);
      same = refl;
      within = omega arith;
      stands = Element.named new.no_digit i;
      opened = record { no_brace = refl; no_quote = refl };
    } in
    let read = can_be_read name (e ∷ []) tt (is, tt) in
    subst (λ bytes. CanBeRead (record { bytes = bytes; pieces = e ∷ [] })) (append-nil name) read

-- ---- the variables of the code

-- the values of the fields of a document's entries, and their literals, begin at character boundaries of its text
pub all_cut : (d : Document) → IsDocument d → AreAllFieldsCut d.text d.says.entries
all_cut d read = fields_weaker (IsPlaced d.text) (IsValue d.text) (IsFieldCut d.text)
    (λ f placed value.
    record {
      placed = placed;
      pieces = all_weaker (IsElement d.text) (IsPieceCut d.text) (is_cut d.text) (elements f) value.all;
    }) d.says.entries (all_placed d read) (file_stands d.text refl read).entries

-- each index of a text is less than the count of the texts
pub index_known : (index : Index) (texts : List (List ℕ)) (count : ℕ) → index ≡ text_index texts → count ≡ length texts
    → IsBelow count index
index_known index texts count is size =
    subst (IsBelow count) (sym is) (subst (λ n. IsBelow n (text_index texts)) (sym size) (text_below texts))

-- the edits of the code are those of `collection`
pub edits_known : (d : Document) (edits : List Edit) (fields texts names : List (List ℕ)) (index : Index)
    (text : List ℕ) (es : List EntryReading) → text ≡ d.text → es ≡ d.says.entries → index ≡ text_index texts
    → edits ≡ entry_edits (collection_by fields index names) text es
    → edits ≡ entry_edits (collection fields texts names) d.text d.says.entries
edits_known d edits fields texts names index text es same listed is are =
    are ∙ ap (λ ix. entry_edits (collection_by fields ix names) text es) is
    ∙ ap (λ t. entry_edits (collection fields texts names) t es) same
    ∙ ap (entry_edits (collection fields texts names) d.text) listed

-- ---- lines before the first entry

-- definitions before a reading, both without spans, are the reading after the definitions without spans
after_placeless : (definitions : List FieldReading) (says : FileReading)
    → placeless (after_definitions definitions says) ≡ after_definitions (map (moved_field (λ n. 0)) definitions) (placeless says)
after_placeless definitions says =
    ap (λ fs. let x : FileReading = record (placeless says) { abbreviations = fs } in x)
    (map-append (moved_field (λ n. 0)) definitions says.abbreviations)

-- definitions inserted before the second part of a reading are after the definitions of the first part
between_parts : (first rest whole : FileReading) (definitions following : List FieldReading) → then first rest ≡ whole
    → whole.abbreviations ≡ first.abbreviations ++ following
    → then first (after_definitions definitions rest)
    ≡ (let x : FileReading = record whole { abbreviations = first.abbreviations ++ (definitions ++ following) } in x)
between_parts first rest whole definitions following is parts =
    let same : rest.abbreviations ≡ following =
    append_cancel_left first.abbreviations rest.abbreviations following (ap (λ r. r.abbreviations) is ∙ parts) in
    let build : FileReading → List FieldReading → FileReading =
    λ (r : FileReading) (fs : List FieldReading). record r { abbreviations = first.abbreviations ++ (definitions ++ fs) } in
    ap (λ r. build r rest.abbreviations) is ∙ ap (build whole) same

first_byte : (c : ℕ) (text : List ℕ) → take 1 text ≡ c ∷ [] → (more : List ℕ) × (text ≡ c ∷ more)
first_byte c [] is = absurd (cc)
first_byte c (b ∷ bs) is = let same : b ≡ c = cc in (bs, ap (λ x. x ∷ bs) same)

-- the first entry of a document, and the parts of the file before it and after it
record FirstEntry (d : Document) (e : EntryReading) : Type 0 where
  before : FileReading
  following : FileReading
  first : FileBefore (place d.text 0) before (place d.text e.start)
  after_sign : Place
  sign : CharAt (place d.text e.start) 64 after_sign
  whole : d.says ≡ then before (then (entry_alone e) following)
  no_entry : before.entries ≡ []
  are_before : AreBefore e.start before.abbreviations
  are_from : AreFrom e.start following.abbreviations
  kind : e.start + 1 ≤ e.kind.start

no_entries : (es : List EntryReading) → length es ≡ 0 → es ≡ []
no_entries [] none = refl
no_entries (e ∷ es) none = absurd (omega arith)

first_entry : (d : Document) → IsDocument d → (e : EntryReading) (es : List EntryReading) → d.says.entries ≡ e ∷ es → FirstEntry d e
first_entry d read e es is =
    let s = split_file 0 e read (ap (λ xs. slice_get xs 0) is) in
    let up = ahead_file_before s.first in
    let at : s.start ≡ place d.text e.start = same_place up.text (sym s.block.starts) in
    let first : FileBefore (place d.text 0) s.before (place d.text e.start) =
    subst (λ p. FileBefore (place d.text 0) s.before p) at s.first in
    let name = ap (λ p. p.start) s.block.head.name.reading in
    let over = ahead_block (block_of s.block) in
    record {
      before = s.before;
      following = s.following;
      first = first;
      after_sign = s.block.head.name_start;
      sign = subst (λ p. CharAt p 64 s.block.head.name_start) at s.block.head.sign;
      whole = s.whole;
      no_entry = no_entries s.before.entries s.index;
      are_before = all_before first;
      are_from = from_earlier s.end.at e.start s.following.abbreviations (omega (arith, over.at, s.block.starts)) (all_from s.rest);
      kind = omega (arith, name, s.block.starts, s.block.head.sign.next);
    }

module _ (d : Document) (read : IsDocument d) (utf8 : IsUtf8 d.text) (exchange : Exchange) where
  -- the edits of replaced values come after the start of the first entry
  exchange_from : (e : EntryReading) (es : List EntryReading) → d.says.entries ≡ e ∷ es
      → AreEditsInOrder d.text (e.start + 1) (entry_edits exchange d.text (e ∷ es))
  exchange_from e es is =
      let f = first_entry d read e es is in
      let order = subst (AreEntriesIn d.text 0) is (file_in d.text refl read) in
      let placed = subst (OfFields (IsFieldPlaced d.text)) is (values_placed d read utf8) in
      subst (AreEditsInOrder d.text (e.start + 1)) (sym (edits_are_changes (λ e. exchange) d.text (e ∷ es)))
      (edits_in_order (exchanges exchange) d.text (e.start + 1) (e ∷ es) (order.0, f.kind, order.2, order.3, order.4) placed)

  -- an insertion before the first entry and the edits of replaced values are in order
  pub lines_in_order : (lines : List ℕ) → AreEditsInOrder d.text 0
      ((record { start = first_entry_start d.says.entries; end = first_entry_start d.says.entries; bytes = lines })
      ∷ entry_edits exchange d.text d.says.entries)
  lines_in_order lines = by_case d.says.entries refl
    where
      by_case : (es : List EntryReading) → d.says.entries ≡ es
          → AreEditsInOrder d.text 0
          ((record { start = first_entry_start es; end = first_entry_start es; bytes = lines }) ∷ entry_edits exchange d.text es)
      by_case [] is = (omega arith, omega arith, cut_file d.text refl read, cut_file d.text refl read, tt)
      by_case (e ∷ es) is =
          let cut = (subst (AreEntriesCut d.text 0) is (document_cut d.text d.says read)).0.end_cut in (
            omega arith,
            omega arith,
            cut,
            cut,
            edits_earlier d.text (e.start + 1) e.start (entry_edits exchange d.text (e ∷ es)) (omega arith) (exchange_from e es is),
          )

-- ---- the text with lines parses

module _ (d : Document) (read : IsDocument d) (utf8 : IsUtf8 d.text) (exchange : Exchange)
    (changed : IsReadPlaceless (file_changed (exchanges exchange) d.says) (text_changed (exchanges exchange) d))
    (b : Bool) (names texts : List (List ℕ)) (can_names : AllByRecursion CanBeName names)
    (can_texts : AllByRecursion IsParts texts) where
  abbrev now : List ℕ
  now = text_changed (exchanges exchange) d

  abbrev lines : List ℕ
  lines = definition_lines d.says (line_end_by b) names texts

  abbrev readings : List FieldReading
  readings = line_readings d.says names texts

  abbrev changed_says : FileReading
  changed_says = file_changed (exchanges exchange) d.says

  -- with the lines before its first entry, the text with replaced values parses to the reading with their definitions, except for offsets
  some_read : (e : EntryReading) (es : List EntryReading) → d.says.entries ≡ e ∷ es
      → IsReadPlaceless (with_definitions e.start readings changed_says)
      (edited (record { start = e.start; end = e.start; bytes = lines }) now)
  some_read e es is =
      let f = first_entry d read e es is in
      let at : ℕ = e.start in
      let edit : Edit = record { start = at; end = at; bytes = lines } in
      let new : List ℕ = edited edit now in
      let inside : at + 1 ≤ length d.text = omega (arith, char_left f.sign, f.sign.next) in
      let order : AreEditsInOrder d.text (at + 1) (edits_of_entries (exchanges exchange) d.text d.says.entries) =
      subst (λ xs. AreEditsInOrder d.text (at + 1) (edits_of_entries (exchanges exchange) d.text xs)) (sym is)
      (subst (AreEditsInOrder d.text (at + 1)) (edits_are_changes (λ e. exchange) d.text (e ∷ es))
      (exchange_from d read utf8 exchange e es is)) in
      let start = edits_front d.text (at + 1) (edits_of_entries (exchanges exchange) d.text d.says.entries) inside order in
      let within : at ≤ length now = omega (arith, start.1) in
      let same : take at d.text ≡ take at now = less_same d.text now at (at + 1) (omega arith) (sym start.0) in
      let sign_here : drop at d.text ≡ 64 ∷ drop f.after_sign.at d.text =
      f.sign.here ∙ ap (λ l. l ++ drop f.after_sign.at d.text) (encode_ascii 64 (omega arith)) in
      let head = first_byte 64 (drop at now)
      (same_bytes now d.text (at + 1) at 1 start.0 (omega arith) ∙ ap (take 1) sign_here) in
      let sign_now : CharAt (place now at) 64 (place now (at + 1)) = ascii_stands now head.0 at 64 (omega arith) head.1 in
      let before_now = front_there d.text now at same (inr (64, place now (at + 1), sign_now)) f.sign f.first in
      let rest = rest_after before_now changed.read in
      let tail = tail_read now at within rest.read in
      let more : Document = record { text = drop at now; says = moved_file (λ n. n - at) rest.rest } in
      let added = lines_read d.says b more tail names texts can_names can_texts in
      let begin = lines_begin d.says b more tail head.0 head.1 names texts in
      let from : drop at new ≡ lines ++ drop at now = new_bytes edit now within in
      let sign_new : CharAt (place new at) 64 (place new (at + 1)) = ascii_stands new begin.0 at 64 (omega arith) (from ∙ begin.1) in
      let before_new =
      front_there now new at (sym (front at at lines now within)) (inr (64, place new (at + 1), sign_new)) sign_now before_now in
      let size : at ≤ length new = omega (arith, char_left sign_new) in
      let back = back_read (lines ++ drop at now) new at size from added.read in
      let first : FileReading = placeless f.before in
      let last : FileReading = placeless rest.rest in
      let lent : List FieldReading = map (moved_field (λ n. 0)) readings in
      let following : List FieldReading = map (moved_field (λ n. 0)) f.following.abbreviations in
      let own : d.says.abbreviations ≡ f.before.abbreviations ++ f.following.abbreviations = ap (λ r. r.abbreviations) f.whole in
      let parted : map (moved_field (λ n. 0)) d.says.abbreviations ≡ first.abbreviations ++ following =
      ap (map (moved_field (λ n. 0))) own
      ∙ map-append (moved_field (λ n. 0)) f.before.abbreviations f.following.abbreviations in
      let whole : then first last ≡ placeless changed_says =
      ap (λ r. then r last) (sym (file_placeless (λ n. n) f.before))
      ∙ sym (moved-then (λ n. 0) (moved_file (λ n. n) f.before) rest.rest) ∙ ap placeless (sym rest.whole) ∙ changed.alike in
      let build : List FieldReading → FileReading =
      λ (fs : List FieldReading). record (placeless changed_says) { abbreviations = fs } in
      record {
        tells = then (moved_file (λ n. n) (moved_file (λ n. n) f.before)) (moved_file (λ n. n + at) added.tells);
        read = joined_file before_new back;
        alike =
            moved-then (λ n. 0) (moved_file (λ n. n) (moved_file (λ n. n) f.before)) (moved_file (λ n. n + at) added.tells)
            ∙ ap (λ r. then r (placeless (moved_file (λ n. n + at) added.tells)))
            (file_placeless (λ n. n) (moved_file (λ n. n) f.before) ∙ file_placeless (λ n. n) f.before)
            ∙ ap (then first)
            (file_placeless (λ n. n + at) added.tells ∙ added.alike
            ∙ after_placeless readings (moved_file (λ n. n - at) rest.rest)
            ∙ ap (after_definitions lent) (file_placeless (λ n. n - at) rest.rest))
            ∙ between_parts first last (placeless changed_says) lent following whole parted
            ∙ ap build
            (ap (λ fs. first.abbreviations ++ fs) (sym (map-append (moved_field (λ n. 0)) readings f.following.abbreviations))
            ∙ sym (map-append (moved_field (λ n. 0)) f.before.abbreviations (readings ++ f.following.abbreviations))
            ∙ ap (map (moved_field (λ n. 0)))
            (ap (λ fs. fs ++ (readings ++ f.following.abbreviations))
            (sym
            (ap (filter (is_before at)) own
            ∙ split_before at f.before.abbreviations f.following.abbreviations f.are_before f.are_from))
            ∙ ap (λ fs. filter (is_before at) d.says.abbreviations ++ (readings ++ fs))
            (sym
            (ap (filter (λ g. not (is_before at g))) own
            ∙ split_from at f.before.abbreviations f.following.abbreviations f.are_before f.are_from))));
      }

  -- if a document has no entries, and no text is collected, its text without lines parses to the same reading, except for offsets
  none_read : (es : List EntryReading) → d.says.entries ≡ es → length es ≡ 0 → texts ≡ [] → names ≡ []
      → IsReadPlaceless (with_definitions 0 readings changed_says) (edited (record { start = 0; end = 0; bytes = lines }) now)
  none_read es is none no_texts no_names =
      let kept = all_kept d.says.abbreviations in
      let no_lines : lines ≡ [] = ap (λ ns. definition_lines d.says (line_end_by b) ns texts) no_names in
      let no_readings : readings ≡ [] = ap (λ ns. line_readings d.says ns texts) no_names in
      let build : List FieldReading → List FieldReading → List FieldReading → FileReading =
      λ (xs ys zs : List FieldReading). record changed_says { abbreviations = xs ++ (ys ++ zs) } in
      let same : with_definitions 0 readings changed_says ≡ changed_says =
      ap (λ xs. build xs readings (filter (λ g. not (is_before 0 g)) d.says.abbreviations)) kept.0
      ∙ ap (λ ys. build [] ys (filter (λ g. not (is_before 0 g)) d.says.abbreviations)) no_readings
      ∙ ap (λ zs. build [] [] zs) kept.1 in
      let text : now ≡ edited (record { start = 0; end = 0; bytes = lines }) now =
      ap (λ ls. edited (record { start = 0; end = 0; bytes = ls }) now) (sym no_lines) in
      record {
        tells = changed.tells;
        read = subst (λ t. IsRawReading t changed.tells) text changed.read;
        alike = changed.alike ∙ ap placeless (sym same);
      }

  pub with_lines_read : (texts ≡ [] → names ≡ []) → (length d.says.entries ≡ 0 → texts ≡ [])
      → IsReadPlaceless (with_definitions (first_entry_start d.says.entries) readings changed_says) (with_lines d lines now)
  with_lines_read no_names no_texts = by_case d.says.entries refl
    where
      by_case : (es : List EntryReading) → d.says.entries ≡ es
          → IsReadPlaceless (with_definitions (first_entry_start es) readings changed_says)
          (edited (record { start = first_entry_start es; end = first_entry_start es; bytes = lines }) now)
      by_case [] is = none_read [] is refl (no_texts (ap length is)) (no_names (no_texts (ap length is)))
      by_case (e ∷ es) is = some_read e es is

-- ---- a document with texts collected

none_chosen : (P : List ℕ → Type 0) {texts found : List (List ℕ)} → AreThoseThat P texts found → length texts ≡ 0 → found ≡ []
none_chosen P AreThoseThat.none none = refl
none_chosen P (AreThoseThat.kept text meets others) none = absurd (omega arith)
none_chosen P (AreThoseThat.left text fails others) none = absurd (omega arith)

no_names_texts : (fields : List (List ℕ)) (es : List EntryReading) → length es ≡ 0 → length (distinct (named_texts fields es)) ≡ 0
no_names_texts fields [] none = refl
no_names_texts fields (e ∷ es) none = absurd (omega arith)

module _ (d : Document) (read : IsDocument d) (utf8 : IsUtf8 d.text) (fields texts names : List (List ℕ))
    (named : AreNames d.says texts names) where
  as_many : length names ≡ length texts
  as_many = length-names d.says named

  by_index : (value : NewValue) (o : Option ℕ) → IfSome o (λ i. i < length texts)
      → option_map (λ i. name_value (get_or names i [])) o ≡ Some value → CanBeRead value
  by_index value None below same = absurd (cc)
  by_index value (Some i) below same =
      let is : name_value (get_or names i []) ≡ value = cc in
      subst CanBeRead is
      (name_read (get_or names i []) (all_at IsReadAsName names i [] (names_read d read named) (omega (arith, as_many))))

  by_text : (value : NewValue) (o : Option (List ℕ)) → text_value (text_index texts) names o ≡ Some value → CanBeRead value
  by_text value None same = absurd (cc)
  by_text value (Some text) same = by_index value (text_index texts text) (text_below texts text) same

  pub collected_read : (least : ℕ) → AreCollectedTexts fields least d.says texts
      → IsReadPlaceless
      (with_definitions (first_entry_start d.says.entries) (line_readings d.says names texts)
      (file_changed (exchanges (collection fields texts names)) d.says))
      (with_lines d (definition_lines d.says (line_end_of d.text) names texts) (text_changed (exchanges (collection fields texts names)) d))
  collected_read least chosen =
      let exchange : Exchange = collection fields texts names in
      let meets : List ℕ → Type 0 = CanBeCollected (known_name d.says) least (named_texts fields d.says.entries) in
      let changed = exchanged_read d (λ e. exchange) read utf8
      (fields_weaker (IsPlaced d.text) (IsPlaced d.text) (CanBeExchanged exchange)
      (λ f placed again value. by_text value (named_text fields f)) d.says.entries (all_placed d read) (all_placed d read)) in
      with_lines_read d read utf8 exchange changed _ names texts
      (all_weaker IsReadAsName CanBeName (λ n x. x.can) names (names_read d read named))
      (all_weaker meets IsParts (λ t x. x.braced) texts (those_meet meets chosen))
      (λ none. nil_from_length names (as_many ∙ ap length none))
      (λ none. none_chosen meets chosen (no_names_texts fields d.says.entries none))

-- the same texts are collected if the same names are known
pub collected_alike : (known known' : List ℕ → Option (List ℕ)) (least : ℕ) (texts found : List (List ℕ))
    → ((text : List ℕ) → known text ≡ known' text) → AreThoseThat (CanBeCollected known least texts) (distinct texts) found
    → AreThoseThat (CanBeCollected known' least texts) (distinct texts) found
collected_alike known known' least texts found same chosen =
    those_alike (λ text meets. known_there known known' (same text) meets) (λ text meets. known_there known' known (sym (same text)) meets)
    chosen
  where
    known_there : (by by' : List ℕ → Option (List ℕ)) {text : List ℕ} → by text ≡ by' text → CanBeCollected by least texts text
        → CanBeCollected by' least texts text
    known_there by by' {text} is meets = record {
      often = meets.often;
      shortened = ap (λ o. is_some o || is_longer_than_name text) (sym is) ∙ meets.shortened;
      braced = meets.braced;
      balanced = meets.balanced;
    }

-- the result of `collect` meets its contract
pub collected_answer : {S E : Type 0} (bytes : S → List ℕ) (r : Result S E) (d : Document)
    (fields texts names : List (List ℕ)) (least : ℕ) → IsDocument d → IsUtf8 d.text → AreNames d.says texts names
    → AreCollectedTexts fields (max least 2) d.says texts
    → IfOk r
    (λ new.
    bytes new
    ≡ with_lines d (definition_lines d.says (line_end_of d.text) names texts) (text_changed (exchanges (collection fields texts names)) d))
    → IfOk r (λ new. AreMadeAbbreviations d fields least (bytes new))
collected_answer bytes (Err e) d fields texts names least read utf8 named chosen text = _
collected_answer bytes (Ok made) d fields texts names least read utf8 named chosen text = record {
  texts = texts;
  names = names;
  chosen = chosen;
  named = named;
  is = text;
  read =
      subst
      (IsReadPlaceless
      (with_definitions (first_entry_start d.says.entries) (line_readings d.says names texts)
      (file_changed (exchanges (collection fields texts names)) d.says))) (sym text)
      (collected_read d read utf8 fields texts names named (max least 2) chosen);
}

-- the edits of the code: the lines before the first entry, and those of `collection`
pub all_edits_known : (d : Document) (edits : List Edit) (first : Edit) (fields texts names : List (List ℕ)) (bytes text : List ℕ)
    (index : Index) (start : ℕ) (es : List EntryReading) → text ≡ d.text → es ≡ d.says.entries → index ≡ text_index texts
    → first ≡ (let e : Edit = record { start = start; end = start; bytes = bytes } in e) → start ≡ first_entry_start es
    → edits ≡ first ∷ entry_edits (collection_by fields index names) text es
    → edits
    ≡ (let e : Edit = record { start = first_entry_start d.says.entries; end = first_entry_start d.says.entries; bytes = bytes } in e)
    ∷ entry_edits (collection fields texts names) d.text d.says.entries
all_edits_known d edits first fields texts names bytes text index start es same listed is first_is start_is are =
    let at : start ≡ first_entry_start d.says.entries = start_is ∙ ap first_entry_start listed in
    are
    ∙ ap (λ e. e ∷ entry_edits (collection_by fields index names) text es)
    (first_is ∙ ap (λ n. let e : Edit = record { start = n; end = n; bytes = bytes } in e) at)
    ∙ ap
    (λ more.
    (let e : Edit = record { start = first_entry_start d.says.entries; end = first_entry_start d.says.entries; bytes = bytes } in e) ∷ more)
    (edits_known d (entry_edits (collection_by fields index names) text es) fields texts names index text es same listed is refl)

-- if the bytes of a result are a text, they are also each text that is equal to it
pub made_known : {S E : Type 0} (bytes : S → List ℕ) (r : Result S E) (one other : List ℕ) → one ≡ other
    → IfOk r (λ new. bytes new ≡ one) → IfOk r (λ new. bytes new ≡ other)
made_known bytes (Err e) one other same is = _
made_known bytes (Ok made) one other same is = is ∙ same

-- the definitions of a file are those before the first entry, followed by the others
pub definitions_parted : (d : Document) → IsDocument d
    → filter (is_before (first_entry_start d.says.entries)) d.says.abbreviations
    ++ filter (λ f. not (is_before (first_entry_start d.says.entries) f)) d.says.abbreviations
    ≡ d.says.abbreviations
definitions_parted d read = by_case d.says.entries refl
  where
    by_case : (es : List EntryReading) → d.says.entries ≡ es
        → filter (is_before (first_entry_start es)) d.says.abbreviations
        ++ filter (λ f. not (is_before (first_entry_start es) f)) d.says.abbreviations
        ≡ d.says.abbreviations
    by_case [] is =
        let kept = all_kept d.says.abbreviations in
        ap (λ fs. fs ++ filter (λ g. not (is_before 0 g)) d.says.abbreviations) kept.0 ∙ kept.1
    by_case (e ∷ es) is =
        let f = first_entry d read e es is in
        let one : List FieldReading = f.before.abbreviations in
        let other : List FieldReading = f.following.abbreviations in
        let own : d.says.abbreviations ≡ one ++ other = ap (λ r. r.abbreviations) f.whole in
        ap (λ fs. filter (is_before e.start) fs ++ filter (λ g. not (is_before e.start g)) fs) own
        ∙ ap (λ fs. fs ++ filter (λ g. not (is_before e.start g)) (one ++ other)) (split_before e.start one other f.are_before f.are_from)
        ∙ ap (λ fs. one ++ fs) (split_from e.start one other f.are_before f.are_from) ∙ sym own
