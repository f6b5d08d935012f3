-- Meaning: words of public contracts.
-- The text of a bibliography with its entries sorted. Each entry moves with the comment before it, and the white space before that stays.
-- An at sign between two entries, such as that of an `@string`, begins a new run of entries. No entry leaves its run.
use Rattle.std.specs.Prelude.{◌≡◌, ◌==◌, ◌&&◌, ◌||◌, ℕ, zero, suc, ◌+◌, ◌-◌, ◌^◌, Bool, true, false, List, [], ◌∷◌, ◌++◌, Option, Some, None, codes, cond, count_by, drop, length, map, reverse, slice_index, slice_index_or, take}
use Rattle.std.specs.Char.{is_ascii_whitespace}
use Rattle.std.specs.List.{Contains, before_first, enumerate_from, flat_map, list_all, list_any, position_or_len, prefix_len, zip}
use Rattle.std.specs.List.Sorted.{IsPermutation, IsSorted}
use Rattle.std.specs.Option.{option_map_or}
use Rattle.std.specs.Ordering.{nat_cmp, on, then_cmp}
use Rattle.std.specs.Str.{str_eq_ignore_ascii_case, trim}
use Rattle.std.specs.declared.cmp.Ordering.{Ordering}
use Rattle.bib_text.specs.Characters as char
use Rattle.bib_text.specs.Places.{between, place}
use Rattle.bib_syntax.specs.Grammar.{IsRawReading, is_word}
use Rattle.bib_syntax.specs.Reading.{Piece, FieldReading, EntryReading, FileReading}
use Rattle.bib_syntax.specs.Reading.Piece.{literal, abbreviation}
use Rattle.bib_syntax.specs.Recovery.{has_byte}
use Rattle.edit_entries.specs.Documents.{Document}
use Rattle.edit_entries.specs.Edits.{placeless}

-- the greatest number up to a bound that passes a test, or 0 if none does
abbrev pub greatest : (ℕ → Bool) → ℕ → ℕ
greatest test zero = 0
greatest test (suc n) = cond (test (suc n)) (suc n) (greatest test n)

-- ---- references from children to parents

-- the text of a value that is one literal, without white space at its ends
abbrev pub one_text : List Piece → Option (List ℕ)
one_text [] = None
one_text (abbreviation p ∷ rest) = None
one_text (literal p ∷ []) = Some (trim p.text)
one_text (literal p ∷ other ∷ rest) = None

-- the key that a field names, if it is a `crossref` and its value is one literal
abbrev pub crossref : FieldReading → Option (List ℕ)
crossref f = cond (is_word f.name.text (codes "crossref")) (one_text f.value.pieces) None

-- whether a field is a `crossref` that names this key, in any ASCII case
abbrev pub names_key : List ℕ → FieldReading → Bool
names_key key f = option_map_or (λ named. str_eq_ignore_ascii_case named key) (crossref f) false

-- whether a `crossref` of an entry names this key
abbrev pub refers_to : List ℕ → EntryReading → Bool
refers_to key e = list_any (names_key key) e.fields

-- a chain of this many references leads from the first entry to the second. Each reference is from an entry to one whose key it names
pub data IsChain (entries : List EntryReading) : ℕ → EntryReading → EntryReading → Type 0 where
  none : {e : EntryReading} → IsChain entries zero e e
  more : {n : ℕ} {first child parent : EntryReading} → IsChain entries n first child → Contains entries child
      → refers_to parent.key.text child ≡ true → IsChain entries (suc n) first parent

-- an entry is on a cycle of references, or a chain leads to it from an entry on a cycle
pub record IsAfterCycle (entries : List EntryReading) (e : EntryReading) : Type 0 where
  pub start : EntryReading
  pub others : ℕ
  pub cycle : IsChain entries (suc others) start start
  pub steps : ℕ
  pub reached : IsChain entries steps start e

-- whether a chain of this many references leads to an entry
abbrev pub has_chain : List EntryReading → ℕ → EntryReading → Bool
has_chain entries zero e = true
has_chain entries (suc n) e = list_any (λ child. refers_to e.key.text child && has_chain entries n child) entries

-- the rank of an entry: the length of the longest chain of references that leads to it. An entry on a cycle, or after one, has no
-- longest chain. Its rank is the number of entries, so it comes last in its run.
abbrev pub rank : List EntryReading → EntryReading → ℕ
rank entries e = greatest (λ n. has_chain entries n e) (length entries)

-- ---- gaps: the texts between entries

-- the start of each gap and of the text after the last entry: 0, and the end of each entry
abbrev pub gap_starts : List EntryReading → List ℕ
gap_starts entries = 0 ∷ map (λ e. e.end + 1) entries

-- the text from an offset up to an entry
abbrev pub gap_before : List ℕ → ℕ → EntryReading → List ℕ
gap_before text at e = between (place text at) (place text e.start)

-- the gap before each entry: the text after the previous entry, or from the start
abbrev pub gaps : Document → List (List ℕ)
gaps d = map (λ x. gap_before d.text x.0 x.1) (zip (gap_starts d.says.entries) d.says.entries)

-- the text after the last entry
abbrev pub rest_of : Document → List ℕ
rest_of d = drop (slice_index (gap_starts d.says.entries) (length d.says.entries)) d.text

-- ---- the comment that moves with an entry, and the space that stays before it

-- a text without the ASCII white space at its start
abbrev pub without_white : List ℕ → List ℕ
without_white bytes = drop (prefix_len is_ascii_whitespace bytes) bytes

-- whether a byte is a line feed
abbrev pub is_feed : ℕ → Bool
is_feed byte = byte == char.line_feed

-- whether a text, given from its end to its start, ends in a line feed after a line of ASCII white space
abbrev pub is_blank_backwards : List ℕ → Bool
is_blank_backwards [] = false
is_blank_backwards (last ∷ before) = is_feed last && list_all is_ascii_whitespace (before_first is_feed before)

-- whether the first bytes of a text, as many as this, end in a blank line
abbrev pub ends_blank_line : List ℕ → ℕ → Bool
ends_blank_line text n = is_blank_backwards (reverse (take n text))

-- the text after the last blank line, or the whole text if it has none
abbrev pub after_blank_line : List ℕ → List ℕ
after_blank_line text = drop (greatest (ends_blank_line text) (length text)) text

-- whether an entry begins a run: it is the first of the file, or its gap contains an at sign, such as that of an `@string`
abbrev pub begins_run : Bool → List ℕ → Bool
begins_run is_first gap = is_first || has_byte char.at gap

-- whether a text contains an at sign, a closing brace or a quote: without them, no block begins or ends in it
abbrev pub has_block_sign : List ℕ → Bool
has_block_sign text = has_byte char.at text || has_byte char.close_brace text || has_byte char.quote text

-- the comment in `near`, the `after_blank_line` of a gap at the start of a run. It is all of that text except ASCII white space at its
-- start, or empty if a block may begin or end in the text
abbrev pub near_comment : List ℕ → List ℕ
near_comment near = cond (has_block_sign near) [] (without_white near)

-- the comment of an entry, which moves with it: all of the gap except ASCII white space at its start. At the start of a run, only
-- the `near_comment` in the `after_blank_line` of the gap moves.
abbrev pub comment_in : Bool → List ℕ → List ℕ
comment_in is_first gap = cond (begins_run is_first gap) (near_comment (after_blank_line gap)) (without_white gap)

-- the part of a gap before its comment, which keeps its position
abbrev pub space_in : Bool → List ℕ → List ℕ
space_in is_first gap = take (length gap - length (comment_in is_first gap)) gap

-- the space before each entry of a document
abbrev pub spaces_of : Document → List (List ℕ)
spaces_of d = map (λ x. space_in (x.0 == 0) x.1) (enumerate_from 0 (gaps d))

-- ---- entries and their sort keys

-- an entry with the comment before it; entries are sorted by run, then by rank, by place and by position in the file
pub record Item : Type 0 where
  pub run : ℕ
  pub rank : ℕ
  pub place : ℕ
  pub comment : List ℕ
  pub entry : EntryReading

-- the bytes of an entry, from its at sign to its closing brace
abbrev pub entry_bytes : List ℕ → EntryReading → List ℕ
entry_bytes text e = between (place text e.start) (place text (e.end + 1))

-- the run of the entry at an index: how many of the gaps up to its own contain an at sign
abbrev pub run_at : List (List ℕ) → ℕ → ℕ
run_at gaps index = count_by (has_byte char.at) (take (index + 1) gaps)

-- whether another entry has the key of an entry, in any ASCII case
abbrev pub has_key_of : EntryReading → EntryReading → Bool
has_key_of e other = str_eq_ignore_ascii_case e.key.text other.key.text

-- the index of the first entry with the key of an entry. BibTeX reads only the first entry with a key
abbrev pub first_with_key_of : List EntryReading → EntryReading → ℕ
first_with_key_of entries e = position_or_len (has_key_of e) entries

-- the place at an index; the greatest number if `places` is too short
abbrev pub place_at : List ℕ → ℕ → ℕ
place_at places index = slice_index_or places index (2 ^ 64 - 1)

-- the place of an entry: that of the first entry with its key
abbrev pub entry_place : List EntryReading → List ℕ → EntryReading → ℕ
entry_place entries places e = place_at places (first_with_key_of entries e)

-- the entry at an index, with its comment and its sort keys
abbrev pub item_at : List EntryReading → List (List ℕ) → List ℕ → ℕ → List ℕ → EntryReading → Item
item_at entries gaps places index gap e = record {
  run = run_at gaps index;
  rank = rank entries e;
  place = entry_place entries places e;
  comment = comment_in (index == 0) gap;
  entry = e;
}

-- the entries of a document, given the place of each index
abbrev pub items : Document → List ℕ → List Item
items d places =
    map (λ x. item_at d.says.entries (gaps d) places x.0 x.1.0 x.1.1) (enumerate_from 0 (zip (gaps d) d.says.entries))

-- ---- the order

-- the order of two items: by run, rank, place and position in the file
abbrev pub item_cmp : Item → Item → Ordering
item_cmp =
    then_cmp (on (λ i. i.run) nat_cmp)
    (then_cmp (on (λ i. i.rank) nat_cmp) (then_cmp (on (λ i. i.place) nat_cmp) (on (λ i. i.entry.start) nat_cmp)))

-- `order` has the items of `all`, sorted
pub record AreEntriesInOrder (all order : List Item) : Type 0 where
  pub permutation : IsPermutation all order
  pub sorted : IsSorted item_cmp order

-- the text of a document with its entries in this order. Before each entry are the space at its new index, and the comment of the
-- entry
abbrev pub text_in_order : Document → List Item → List ℕ
text_in_order d order =
    flat_map (λ x. x.0 ++ (x.1.comment ++ entry_bytes d.text x.1.entry)) (zip (spaces_of d) order) ++ rest_of d

-- the reading of a document with its entries in this order
abbrev pub says_sorted : Document → List Item → FileReading
says_sorted d order = record d.says { entries = map (λ i. i.entry) order }

-- `new` is the text of a document with its entries sorted by `places`
pub record IsSortedText (d : Document) (places new : List ℕ) : Type 0 where
  pub order : List Item
  pub in_order : AreEntriesInOrder (items d places) order
  pub is : new ≡ text_in_order d order

-- `new` parses to the reading of a document with its entries sorted by `places`, except for spans
pub record IsReadSorted (d : Document) (places new : List ℕ) : Type 0 where
  pub order : List Item
  pub in_order : AreEntriesInOrder (items d places) order
  pub tells : FileReading
  pub read : IsRawReading new tells
  pub alike : placeless tells ≡ placeless (says_sorted d order)
