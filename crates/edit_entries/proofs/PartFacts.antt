-- The names of types and the fields of a file are in order, and each may be cut out.
use Rattle.std.proofs.Common.{inl, inr, ◌≡◌, ℕ, ◌<◌, ◌≤◌, List, [], ◌∷◌, ◌++◌, sym, ap, ◌∙◌, subst, arith, append_assoc, Option, Some, None}
use Rattle.std.specs.Str.{IsCharBoundary}
use Rattle.std.specs.List.{AllByRecursion}
use Rattle.std.proofs.lemmas.Str.{len_utf8_bounds}
use Rattle.std.specs.Char.{is_whitespace}
use Rattle.bib_text.specs.Places.{Place, place, CharAt, Run}
use Rattle.bib_text.proofs.PlaceFacts.{ahead_char, ahead_run, ahead_then}
use Rattle.bib_syntax.specs.Reading.{FieldReading, EntryReading, FileReading, Part}
use Rattle.bib_syntax.specs.Grammar.{Field, Fields, File, Identifier, longest}
use Rattle.bib_syntax.specs.Grammar.{Fields as fields}
use Rattle.bib_syntax.specs.Grammar.{File as file}
use Rattle.bib_syntax.proofs.FieldFacts.{ahead_field, ahead_gap, ahead_identifier}
use Rattle.bib_syntax.proofs.FileFacts.{ahead_block, ahead_head, ahead_line_comment}
use Rattle.edit_entries.specs.Edits.{Edit}
use Rattle.edit_entries.specs.EditList.{AreEditsInOrder}
use Rattle.edit_entries.proofs.SplitFacts.{EntryBlock, entry_block, one_entry}
use Rattle.edit_entries.proofs.ValueFacts.{elements_opens, run_stands}
use Rattle.edit_entries.specs.Changes.{EntryChange, FieldChange, edits_of_entries, edits_of_field, edits_of_fields, field_text_by, more_field_texts, part_edits, value_end}
use Rattle.edit_entries.proofs.TrimmedFacts.{IsFieldPlaced, edits_earlier}
use Rattle.bib_text.proofs.BoundaryFacts.{run_boundary, char_boundary}

-- a part that isn't empty and may be cut out
pub record IsCut (text : List ℕ) (p : Part) : Type 0 where
  pub some : p.start < p.end
  pub start : IsCharBoundary text p.start
  pub end : IsCharBoundary text p.end

-- a field whose name may be cut out, and whose value isn't empty and is after the name
pub record IsIn (text : List ℕ) (f : FieldReading) : Type 0 where
  pub name : IsCut text f.name
  pub ordered : f.name.end ≤ f.value.start
  pub value : f.value.start < f.value.end

-- fields in order between two byte offsets
abbrev pub AreFieldsIn : List ℕ → ℕ → List FieldReading → ℕ → Type 0
AreFieldsIn text at [] end = at ≤ end
AreFieldsIn text at (f ∷ fs) end = (at ≤ f.name.start) × IsIn text f × AreFieldsIn text f.value.end fs end

-- the names of types and the fields of entries in order from a byte offset on
abbrev pub AreEntriesIn : List ℕ → ℕ → List EntryReading → Type 0
AreEntriesIn text at [] = Unit {0}
AreEntriesIn text at (e ∷ es) =
    (mid : ℕ) × (at ≤ e.kind.start) × IsCut text e.kind × AreFieldsIn text e.kind.end e.fields mid
    × AreEntriesIn text mid es

-- ---- in a file

earlier : (text : List ℕ) (at less end : ℕ) (fs : List FieldReading) → less ≤ at → AreFieldsIn text at fs end → AreFieldsIn text less fs end
earlier text at less end [] small order = omega arith
earlier text at less end (f ∷ fs) small order = (omega (arith, order.0), order.1, order.2)

later : (text : List ℕ) (at mid end : ℕ) (fs : List FieldReading) → mid ≤ end → AreFieldsIn text at fs mid → AreFieldsIn text at fs end
later text at mid end [] small order = omega arith
later text at mid end (f ∷ fs) small order = (order.0, order.1, later text f.value.end mid end fs small order.2)

entries_earlier : (text : List ℕ) (at less : ℕ) (es : List EntryReading) → less ≤ at → AreEntriesIn text at es → AreEntriesIn text less es
entries_earlier text at less [] small order = tt
entries_earlier text at less (e ∷ es) small order = (order.0, omega (arith, order.1), order.2, order.3, order.4)

name_cut : (text : List ℕ) {u v w x : Place} {p : Part} {c : ℕ} → u.text ≡ text → Identifier longest u p v
    → Run is_whitespace v w → CharAt w c x → IsCut text p
name_cut text {u} {v} {w} {x} {p} same i white char =
    let start_is : p.start ≡ u.at = ap (λ q. q.start) i.reading in
    let end_is : p.end ≡ v.at = ap (λ q. q.end) i.reading in
    record {
      some = omega (arith, start_is, end_is, i.here.next, (len_utf8_bounds i.first).0, (ahead_run i.rest.run).at);
      start = subst (λ n. IsCharBoundary text n) (sym start_is) (subst (λ t. IsCharBoundary t u.at) same (char_boundary i.here));
      end =
          subst (λ n. IsCharBoundary text n) (sym end_is)
          (subst (λ t. IsCharBoundary t v.at) ((ahead_identifier i).text ∙ same)
          (char_boundary (run_stands white char).here));
    }

field_in : (text : List ℕ) {u v : Place} {f : FieldReading} → u.text ≡ text → Field longest u f v
    → (u.at ≤ f.name.start) × IsIn text f × (f.value.end ≤ v.at)
field_in text same field =
    let to_value = ahead_then (ahead_run field.white.run) (ahead_then (ahead_char field.sign) (ahead_run field.white'.run)) in
    let opens = elements_opens field.elements in (
      omega (arith, ap (λ p. p.start) field.name.reading),
      record {
        name = name_cut text same field.name field.white.run field.sign;
        ordered = omega (arith, ap (λ p. p.end) field.name.reading, to_value.at, field.starts);
        value = omega (arith, field.starts, opens.ahead.at, opens.here.next, (len_utf8_bounds opens.char).0, field.ends);
      },
      omega (arith, field.ends),
    )

fields_in : (text : List ℕ) {u v : Place} {fs : List FieldReading} → u.text ≡ text → Fields longest u fs v → AreFieldsIn text u.at fs v.at
fields_in text same (fields.none white) = (ahead_run white.run).at
fields_in text {u} {v} same (fields.last field gap) =
    let here = field_in text same field in
    (here.0, here.1, omega (arith, here.2, (ahead_gap gap).at))
fields_in text {u} {v} same (fields.more {y = start} {f = f} {fs = fs} field gap comma gap' rest) =
    let here = field_in text same field in
    let between = ahead_then (ahead_gap gap) (ahead_then (ahead_char comma) (ahead_gap gap')) in (
      here.0,
      here.1,
      earlier text start.at f.value.end v.at fs (omega (arith, here.2, between.at))
          (fields_in text (between.text ∙ (ahead_field field).text ∙ same) rest),
    )

entry_in : (text : List ℕ) {u v : Place} {e : EntryReading} → u.text ≡ text → EntryBlock u e v
    → (u.at ≤ e.kind.start) × IsCut text e.kind × AreFieldsIn text e.kind.end e.fields v.at
entry_in text {u} {v} {e} same b =
    let h = b.head in
    let from_white = ahead_then (ahead_run h.white.run) (ahead_then (ahead_char h.opens) (ahead_run h.white'.run)) in
    let to_fields =
    ahead_then (ahead_run b.key.run)
    (ahead_then (ahead_run b.white.run) (ahead_then (ahead_char b.comma) (ahead_gap b.gap))) in
    let at_fields = ahead_then (ahead_head h) to_fields in
    let end_is = ap (λ p. p.end) h.name.reading in (
      omega (arith, ap (λ p. p.start) h.name.reading, (ahead_char h.sign).at),
      name_cut text ((ahead_char h.sign).text ∙ same) h.name h.white.run h.opens,
      later text e.kind.end b.brace.at v.at e.fields (ahead_char b.closes).at
          (earlier text b.fields_start.at e.kind.end b.brace.at e.fields
          (omega (arith, end_is, from_white.at, to_fields.at)) (fields_in text (at_fields.text ∙ same) b.fields)),
    )

pub file_in : (text : List ℕ) {u : Place} {says : FileReading} → u.text ≡ text → File longest u says → AreEntriesIn text u.at says.entries
file_in text same (file.end end) = tt
file_in text {u} {says} same (file.skipped {v = v} char passes x) =
    entries_earlier text v.at u.at says.entries (ahead_char char).at (file_in text (char.same ∙ same) x)
file_in text {u} {says} same (file.line_comment {v = v} m x) =
    entries_earlier text v.at u.at says.entries (ahead_line_comment m).at
    (file_in text ((ahead_line_comment m).text ∙ same) x)
file_in text {u} same (file.block {v = v} {first = first} {rest = rest} b x) =
    let others = file_in text ((ahead_block b).text ∙ same) x in
    elim (one_entry b.body) [
      | inl no_entry ↦ subst (λ es. AreEntriesIn text u.at (es ++ rest.entries)) (sym no_entry)
          (entries_earlier text v.at u.at rest.entries (ahead_block b).at others)
      | inr one ↦
          let listed = ap (λ r. r.entries) one.1 in
          let here = entry_in text same (entry_block one.0 b listed) in
          let all : AreEntriesIn text u.at (one.0 ∷ rest.entries) = (v.at, here.0, here.1, here.2, others) in
          subst (λ es. AreEntriesIn text u.at (es ++ rest.entries)) (sym listed) all
    ]

-- ---- the edits are in order

part_in_order : (text : List ℕ) (at : ℕ) (p : Part) (new : Option (List ℕ)) (more : List Edit) → at ≤ p.start
    → IsCut text p → AreEditsInOrder text p.end more → AreEditsInOrder text at (part_edits p new ++ more)
part_in_order text at p None more before cut order = edits_earlier text p.end at more (omega (arith, cut.some)) order
part_in_order text at p (Some new) more before cut order = (before, omega (arith, cut.some), cut.start, cut.end, order)

-- the byte offset at which the first of some fields begins, or else `at`
abbrev first_place : ℕ → List FieldReading → ℕ
first_place at [] = at
first_place at (f ∷ fs) = f.name.start

first_in : (text : List ℕ) (at end : ℕ) (fs : List FieldReading) → AreFieldsIn text at fs end
    → (at ≤ first_place at fs) × AreFieldsIn text (first_place at fs) fs end
first_in text at end [] order = (omega arith, order)
first_in text at end (f ∷ fs) order = (order.0, (omega arith, order.1, order.2))

-- an edit that begins at or before a value and ends at its trimmed end, and edits after the value, are in order
stretch_in_order : (text : List ℕ) (at start : ℕ) (f : FieldReading) (bytes : List ℕ) (more : List Edit) → at ≤ start
    → start ≤ f.value.start → IsCharBoundary text start → IsFieldPlaced text f → AreEditsInOrder text f.value.end more
    → AreEditsInOrder text at ((record { start = start; end = value_end text f; bytes = bytes }) ∷ more)
stretch_in_order text at start f bytes more before ordered cut placed order =
    let end : ℕ = value_end text f in (
      before,
      omega arith,
      cut,
      run_boundary {u = place text end} {v = place text f.value.end} placed.trimmed placed.placed.end,
      edits_earlier text f.value.end end more (ahead_run placed.trimmed).at order,
    )

field_in_order : (text : List ℕ) (at end : ℕ) (f : FieldReading) (fs : List FieldReading) (change : FieldChange)
    (more : List Edit) → at ≤ f.name.start → IsIn text f → IsFieldPlaced text f
    → AreFieldsIn text f.value.end fs end → AreEditsInOrder text (first_place f.value.end fs) more
    → AreEditsInOrder text at (edits_of_field text f fs change ++ more)
field_in_order text at end f fs FieldChange.kept more before is placed fields order =
    edits_earlier text (first_place f.value.end fs) at more
    (omega (arith, is.name.some, is.ordered, is.value, (first_in text f.value.end end fs fields).0)) order
field_in_order text at end f fs (FieldChange.preceded n sign white) more before is placed fields order = (
  before,
  omega (arith, is.name.some),
  is.name.start,
  is.name.end,
  edits_earlier text (first_place f.value.end fs) f.name.end more
      (omega (arith, is.ordered, is.value, (first_in text f.value.end end fs fields).0)) order,
)
field_in_order text at end f fs (FieldChange.renamed name) more before is placed fields order = (
  before,
  omega (arith, is.name.some),
  is.name.start,
  is.name.end,
  edits_earlier text (first_place f.value.end fs) f.name.end more
      (omega (arith, is.ordered, is.value, (first_in text f.value.end end fs fields).0)) order,
)
field_in_order text at end f fs (FieldChange.valued new) more before is placed fields order =
    stretch_in_order text at f.value.start f new.bytes more (omega (arith, is.name.some, is.ordered)) (omega arith)
    placed.placed.start placed
    (edits_earlier text (first_place f.value.end fs) f.value.end more (first_in text f.value.end end fs fields).0
    order)
field_in_order text at end f fs (FieldChange.replaced sign n ns white) more before is placed fields order =
    stretch_in_order text at f.name.start f (field_text_by sign n ++ more_field_texts sign white ns) more before
    (omega (arith, is.name.some, is.ordered)) is.name.start placed
    (edits_earlier text (first_place f.value.end fs) f.value.end more (first_in text f.value.end end fs fields).0
    order)
field_in_order text at end f [] FieldChange.removed more before is placed fields order =
    edits_earlier text f.value.end at more (omega (arith, is.name.some, is.ordered, is.value)) order
field_in_order text at end f (g ∷ gs) FieldChange.removed more before is placed fields order =
    (before, omega (arith, is.name.some, is.ordered, is.value, fields.0), is.name.start, fields.1.name.start, order)

fields_in_order : (text : List ℕ) (at end : ℕ) (fs : List FieldReading) (changes : List FieldChange)
    (more : List Edit) → AreFieldsIn text at fs end → AllByRecursion (IsFieldPlaced text) fs
    → AreEditsInOrder text end more
    → AreEditsInOrder text at (edits_of_fields text fs changes ++ more)
fields_in_order text at end [] changes more order all rest = edits_earlier text end at more order rest
fields_in_order text at end (f ∷ fs) [] more order all rest =
    edits_earlier text end at more (omega (arith, span text at end (f ∷ fs) order)) rest
  where
    span : (text : List ℕ) (at end : ℕ) (fs : List FieldReading) → AreFieldsIn text at fs end → at ≤ end
    span text at end [] order = order
    span text at end (f ∷ fs) order =
        omega (arith, order.0, order.1.name.some, order.1.ordered, order.1.value, span text f.value.end end fs order.2)
fields_in_order text at end (f ∷ fs) (change ∷ changes) more order all rest =
    let others : List Edit = edits_of_fields text fs changes in
    subst (AreEditsInOrder text at) (sym (append_assoc (edits_of_field text f fs change) others more))
    (field_in_order text at end f fs change (others ++ more) order.0 order.1 all.0 order.2
    (fields_in_order text (first_place f.value.end fs) end fs changes more
    (first_in text f.value.end end fs order.2).1 all.1 rest))

pub edits_in_order : (changes : EntryReading → EntryChange) (text : List ℕ) (at : ℕ) (es : List EntryReading)
    → AreEntriesIn text at es → AllByRecursion (λ e. AllByRecursion (IsFieldPlaced text) e.fields) es
    → AreEditsInOrder text at (edits_of_entries changes text es)
edits_in_order changes text at [] order all = tt
edits_in_order changes text at (e ∷ es) order all =
    let change : EntryChange = changes e in
    let fields : List Edit = edits_of_fields text e.fields change.fields in
    let more : List Edit = edits_of_entries changes text es in
    subst (AreEditsInOrder text at) (sym (append_assoc (part_edits e.kind change.kind) fields more))
    (part_in_order text at e.kind change.kind (fields ++ more) order.1 order.2
    (fields_in_order text e.kind.end order.0 e.fields change.fields more order.3 all.0
    (edits_in_order changes text order.0 es order.4 all.1)))
