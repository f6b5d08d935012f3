-- The order of the definitions and of the entries of a file.
use Rattle.std.proofs.Common.{◌≡◌, ◌⊎◌, inl, inr, ℕ, ◌+◌, ◌<◌, ◌≤◌, List, [], ◌∷◌, ◌++◌, length, get_or, map, sym, ap, ◌∙◌, subst, arith}
use Rattle.std.proofs.lemmas.Bool.{cases_lt}
use Rattle.std.proofs.lemmas.List.{get_or-map, length-map}
use Rattle.bib_text.specs.Places.{Place}
use Rattle.bib_text.proofs.PlaceFacts.{ahead_then, ahead_char}
use Rattle.bib_syntax.specs.Reading.{EntryReading, FieldReading, FileReading, Part}
use Rattle.bib_syntax.specs.Views.{field_of}
use Rattle.bib_syntax.specs.declared.raw.Pair.{Pair}
use Rattle.bib_syntax.specs.Grammar.{BlockKind, Body, Fields, File, longest}
use Rattle.bib_syntax.specs.Grammar.{Body as body}
use Rattle.bib_syntax.specs.Grammar.{Fields as fields}
use Rattle.bib_syntax.specs.Grammar.{File as file}
use Rattle.bib_syntax.proofs.FieldFacts.{ahead_field, ahead_fields, ahead_gap}
use Rattle.bib_syntax.proofs.FileFacts.{ahead_block, ahead_head, ahead_line_comment}
use Rattle.edit_entries.proofs.CutFacts.{document_cut}
use Rattle.edit_entries.specs.Cuts.{AreEntriesCut}
use Rattle.edit_entries.specs.Documents.{Document, IsDocument}
use Rattle.std.specs.Prelude.{String}
use Rattle.std.specs.BTreeMap.{BTreeMap}
use Rattle.std.specs.Global.{Global}
use Rattle.edit_strings.specs.Expanded.{count_before, index_before}
use Rattle.edit_strings.specs.Tables.{AreFrom, AreIndices, BeginBefore, BeginBetween, IsNextAfter, lowercase_index_in, start_at}
use Rattle.edit_strings.proofs.IndexFacts.{count_is, indices_are}

-- ---- definitions

-- the byte offset at which a definition of the code begins
pub pair_start : (xs : List Pair) (i : ℕ) (x : Pair) → i < length xs → x ≡ get_or xs i x
    → start_at (map field_of xs) i ≡ x.key.span.start
pair_start xs i x within is =
    get_or-map (λ f. f.name.start) (map field_of xs) i (field_of x) 0 (omega (arith, length-map xs field_of))
    ∙ ap (λ (f : FieldReading). f.name.start) (get_or-map field_of xs i x (field_of x) within)
    ∙ ap (λ (y : Pair). y.key.span.start) (sym is)

between_earlier : (at mid end : ℕ) (fs : List FieldReading) → at ≤ mid → BeginBetween mid end fs → BeginBetween at end fs
between_earlier at mid end [] le between = omega arith
between_earlier at mid end (f ∷ fs) le between = (omega (arith, between.0), between.1)

between_later : (at mid end : ℕ) (fs : List FieldReading) → mid ≤ end → BeginBetween at mid fs → BeginBetween at end fs
between_later at mid end [] le between = omega arith
between_later at mid end (f ∷ fs) le between = (between.0, between_later f.name.start mid end fs le between.1)

between_append : (at mid end : ℕ) (xs ys : List FieldReading) → BeginBetween at mid xs → BeginBetween mid end ys
    → BeginBetween at end (xs ++ ys)
between_append at mid end [] ys first second = between_earlier at mid end ys first second
between_append at mid end (x ∷ xs) ys first second = (first.0, between_append x.name.start mid end xs ys first.1 second)

fields_between : {u v : Place} {fs : List FieldReading} → Fields longest u fs v → BeginBetween u.at v.at fs
fields_between (fields.none white) = (ahead_fields (fields.none white)).at
fields_between (fields.last field gap) =
    let start = ap (λ p. p.start) field.name.reading in
    (omega (arith, start), omega (arith, start, (ahead_fields (fields.last field gap)).at))
fields_between {v = v} {fs = f ∷ fs} (fields.more {y = y} field gap comma gap' rest) =
    let start = ap (λ p. p.start) field.name.reading in
    let past = ahead_then (ahead_field field) (ahead_then (ahead_gap gap) (ahead_then (ahead_char comma) (ahead_gap gap'))) in
    (omega (arith, start), between_earlier f.name.start y.at v.at fs (omega (arith, start, past.at)) (fields_between rest))

body_between : (at : ℕ) {start u v : Place} {kind : Part} {k : BlockKind} {says : FileReading} → at ≤ u.at → at ≤ v.at
    → Body longest start kind k u says v → BeginBetween at v.at says.abbreviations
body_between at before past (body.comment brace chars closes) = past
body_between at before past (body.preamble quoted white closes is_brace) = past
body_between at {v = v} {says = says} before past (body.strings {u = u} {v = w} fs closes) =
    between_later at w.at v.at says.abbreviations (ahead_char closes).at
    (between_earlier at u.at w.at says.abbreviations before (fields_between fs))
body_between at before past (body.entry key_end key white comma gap list closes) = past

-- the definitions of a file are in order
pub file_between : {u : Place} {says : FileReading} → File longest u says → (end : ℕ) × BeginBetween u.at end says.abbreviations
file_between {u} (file.end end) = (u.at, omega arith)
file_between {u} {says} (file.skipped {v = v} char passes x) =
    let rest = file_between x in
    (rest.0, between_earlier u.at v.at rest.0 says.abbreviations (ahead_char char).at rest.1)
file_between {u} {says} (file.line_comment {v = v} m x) =
    let rest = file_between x in
    (rest.0, between_earlier u.at v.at rest.0 says.abbreviations (ahead_line_comment m).at rest.1)
file_between {u} (file.block {v = v} {first = first} {rest = others} b x) =
    let rest = file_between x in (
      rest.0,
      between_append u.at v.at rest.0 first.abbreviations others.abbreviations
          (body_between u.at (ahead_head b.head).at (ahead_block b).at b.body) rest.1,
    )

-- ---- entries

from_earlier : (at mid : ℕ) (es : List EntryReading) → at ≤ mid → AreFrom mid es → AreFrom at es
from_earlier at mid [] le from = tt
from_earlier at mid (e ∷ es) le from = (omega (arith, from.0), from.1)

entries_from : (text : List ℕ) (at : ℕ) (es : List EntryReading) → AreEntriesCut text at es → AreFrom at es
entries_from text at [] cut = tt
entries_from text at (e ∷ es) cut =
    (cut.0.ordered, from_earlier e.start (e.end + 1) es cut.1.whole.ordered (entries_from text (e.end + 1) es cut.2))

-- the entries of a file are in order
pub document_from : (d : Document) → IsDocument d → AreFrom 0 d.says.entries
document_from d read = entries_from d.text 0 d.says.entries (document_cut d.text d.says read)

-- ---- the definitions before each entry

-- one more definition begins before a byte offset
pub one_more : (definitions : List FieldReading) (start from n : ℕ) → BeginBefore definitions start from n
    → start_at definitions n < start → BeginBefore definitions start from (n + 1)
one_more definitions start from n before last i at_least less = by_case (cases_lt i n)
  where
    by_case : (i < n) ⊎ (n ≤ i) → start_at definitions i < start
    by_case (inl below) = before i at_least below
    by_case (inr past) = let same : n ≡ i = omega arith in subst (λ k. start_at definitions k < start) same last

-- some entries begin at or after a byte offset before which the first definitions begin
pub record IsAhead (definitions : List FieldReading) (next : ℕ) (es : List EntryReading) : Type 0 where
  pub at : ℕ
  pub chain : AreFrom at es
  pub passed : (i : ℕ) → i < next → start_at definitions i < at
  pub within : next ≤ length definitions

-- if `next` is the index of the first definition that doesn't begin before an entry, it is the number of definitions before it. The first
-- `next` definitions begin before the entries after it.
pub ahead_step : (definitions : List FieldReading) (end : ℕ) → BeginBetween 0 end definitions → (from next : ℕ) (e : EntryReading)
    (es : List EntryReading) → IsAhead definitions from (e ∷ es) → next ≤ length definitions
    → BeginBefore definitions e.start from next → IsNextAfter definitions e.start next
    → (count_before definitions e ≡ next) × IsAhead definitions next es
ahead_step definitions end between from next e es ahead within before after = (
  count_is e.start 0 end definitions next between within passed after,
  record { at = e.start; chain = ahead.chain.1; passed = passed; within = within },
)
  where
    passed : (i : ℕ) → i < next → start_at definitions i < e.start
    passed i less = elim (cases_lt i from) [
      | inl below ↦ omega (arith, ahead.passed i below, ahead.chain.0)
      | inr past ↦ before i past less
    ]

-- `next` is the index of the first definition that doesn't begin before an entry. A map with the indices of the first `next` definitions
-- then has those before the entry. The first `next` definitions begin before the entries after it.
pub indices_step : (xs : List Pair) (end : ℕ) → BeginBetween 0 end (map field_of xs) → (from next : ℕ) (e : EntryReading)
    (es : List EntryReading) (indices : BTreeMap (String Global) ℕ) → IsAhead (map field_of xs) from (e ∷ es) → next ≤ length xs
    → BeginBefore (map field_of xs) e.start from next → IsNextAfter (map field_of xs) e.start next
    → AreIndices indices (map field_of xs) next
    → (lowercase_index_in indices ≡ index_before (map field_of xs) (count_before (map field_of xs) e)) × IsAhead (map field_of xs) next es
indices_step xs end between from next e es indices ahead within before after known =
    let defined : List FieldReading = map field_of xs in
    let step =
    ahead_step defined end between from next e es ahead (omega (arith, within, length-map xs field_of)) before after in
    (indices_are defined next indices known ∙ ap (index_before defined) (sym step.0), step.1)
