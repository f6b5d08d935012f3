-- The keys and values of a document: each begins at a byte offset of its own.
use Rattle.std.proofs.Common.{◌≡◌, inl, inr, ℕ, suc, ◌+◌, ◌-◌, ◌<◌, ◌≤◌, List, [], ◌∷◌, length, Some, sym, ap, ◌∙◌, arith}
use Rattle.std.specs.Prelude.{slice_get}
use Rattle.std.proofs.lemmas.Bool.{cases_lt}
use Rattle.std.proofs.lemmas.Str.{len_utf8_bounds}
use Rattle.bib_text.specs.Places.{Place}
use Rattle.bib_text.proofs.ListFacts.{some_same}
use Rattle.bib_text.proofs.PlaceFacts.{ahead_char, ahead_run, ahead_then}
use Rattle.bib_syntax.specs.Grammar.{Field, Fields, File, longest}
use Rattle.bib_syntax.specs.Reading.{EntryReading, FieldReading, FileReading}
use Rattle.bib_syntax.proofs.FieldFacts.{ahead_fields, ahead_gap, ahead_identifier}
use Rattle.bib_syntax.proofs.FileFacts.{ahead_head}
use Rattle.edit_entries.specs.Documents.{Document, IsDocument}
use Rattle.edit_entries.proofs.SplitFacts.{EntryBlock, FieldsAfter, ahead_fields_after, ahead_fields_before, ahead_file_before, split_fields, split_file}
use Rattle.edit_entries.proofs.ValueFacts.{elements_opens}
use Rattle.edit_laws.proofs.LeadListFacts.{get_past}

-- ---- in one entry

-- the span of a field's value isn't empty, begins at or after the byte offset `start`, and ends at or before the byte offset `end`
record IsBetween (start end : ℕ) (f : FieldReading) : Type 0 where
  begins : start ≤ f.value.start
  some : f.value.start < f.value.end
  ends : f.value.end ≤ end

-- the value of a field is between the start and the end of the field
field_between : {u v : Place} {f : FieldReading} → Field longest u f v → IsBetween u.at v.at f
field_between field =
    let opens = elements_opens field.elements in
    let to_value =
    ahead_then (ahead_identifier field.name)
    (ahead_then (ahead_run field.white.run) (ahead_then (ahead_char field.sign) (ahead_run field.white'.run))) in
    record {
      begins = omega (arith, to_value.at, field.starts);
      some = omega (arith, opens.here.next, (len_utf8_bounds opens.char).0, opens.ahead.at, field.starts, field.ends);
      ends = omega (arith, field.ends);
    }

-- the value of each of some fields is between their start and their end
value_between : {u v : Place} {fs : List FieldReading} (j : ℕ) (f : FieldReading) → Fields longest u fs v → slice_get fs j ≡ Some f
    → IsBetween u.at v.at f
value_between j f fields there =
    let g = split_fields j f fields there in
    let b = field_between g.field in
    record {
      begins = omega (arith, b.begins, (ahead_fields_before g.first).at);
      some = b.some;
      ends = omega (arith, b.ends, (ahead_fields_after g.rest).at);
    }

-- the value of a field begins before that of a later field
values_in_order : {u v : Place} {fs : List FieldReading} (j l : ℕ) (f h : FieldReading) → Fields longest u fs v → j < l
    → slice_get fs j ≡ Some f → slice_get fs l ≡ Some h → f.value.start < h.value.start
values_in_order {u} {v} {fs} j l f h fields below there there' =
    let g = split_fields j f fields there in
    let here = field_between g.field in
    let index : l ≡ length g.before + suc (l - suc j) = omega (arith, g.index, below) in
    let later : slice_get g.following (l - suc j) ≡ Some h =
    sym (get_past g.before (f ∷ g.following) (suc (l - suc j)) l index) ∙ ap (λ xs. slice_get xs l) (sym g.whole) ∙ there' in
    by_rest g.start.at g.following (l - suc j) g.rest later here
  where
    by_rest : {a b : Place} (start : ℕ) (gs : List FieldReading) (i : ℕ) → FieldsAfter a gs b → slice_get gs i ≡ Some h
        → IsBetween start a.at f
        → f.value.start < h.value.start
    by_rest start [] i (FieldsAfter.last gap) found here = absurd (cc)
    by_rest start gs i (FieldsAfter.more gap comma gap' rest) found here =
        let b = value_between i h rest found in
        omega (arith, here.some, here.ends, (ahead_gap gap).at, (ahead_char comma).at, (ahead_gap gap').at, b.begins)

-- an entry's key and the values of its fields begin at or after the byte offset `start` and before the byte offset `end`
record IsWithin (start end : ℕ) (e : EntryReading) : Type 0 where
  key_from : start ≤ e.key.start
  key_below : e.key.start < end
  value_from : (j : ℕ) (f : FieldReading) → slice_get e.fields j ≡ Some f → start ≤ f.value.start
  value_below : (j : ℕ) (f : FieldReading) → slice_get e.fields j ≡ Some f → f.value.start < end

-- an entry's key and values are between the start and the end of its block
block_within : {u v : Place} {e : EntryReading} → EntryBlock u e v → IsWithin u.at v.at e
block_within {u} {v} {e} b =
    let to_key = ahead_head b.head in
    let to_fields =
    ahead_then (ahead_run b.key.run) (ahead_then (ahead_run b.white.run) (ahead_then (ahead_char b.comma) (ahead_gap b.gap))) in
    let start : e.key.start ≡ b.inside.at = ap (λ p. p.start) b.key_is in
    let closing = b.closes.next in
    let width = (len_utf8_bounds 125).0 in
    record {
      key_from = omega (arith, start, to_key.at);
      key_below = omega (arith, start, to_fields.at, (ahead_fields b.fields).at, closing, width);
      value_from = λ j f there.
          let o = value_between j f b.fields there in omega (arith, to_key.at, to_fields.at, o.begins);
      value_below = λ j f there.
          let o = value_between j f b.fields there in omega (arith, o.some, o.ends, closing, width);
    }

-- ---- in two entries

-- an entry's key and values begin before a byte offset, and those of another entry at or after it
record IsBefore (e other : EntryReading) : Type 0 where
  at : ℕ
  from : ℕ
  to : ℕ
  first : IsWithin from at e
  second : IsWithin at to other

-- the key and values of an entry begin before those of a later entry
entries_in_order : {u : Place} {says : FileReading} (i k : ℕ) (e other : EntryReading) → File longest u says → i < k
    → slice_get says.entries i ≡ Some e → slice_get says.entries k ≡ Some other → IsBefore e other
entries_in_order {u} {says} i k e other file below here here' =
    let s = split_file i e file here in
    let index : k ≡ length s.before.entries + suc (k - suc i) = omega (arith, s.index, below) in
    let later : slice_get s.following.entries (k - suc i) ≡ Some other =
    sym (get_past s.before.entries (e ∷ s.following.entries) (suc (k - suc i)) k index)
    ∙ ap (λ r. slice_get r.entries k) (sym s.whole) ∙ here' in
    let t = split_file (k - suc i) other s.rest later in
    let second = block_within t.block in
    record {
      at = s.end.at;
      from = s.start.at;
      to = t.end.at;
      first = block_within s.block;
      second = record {
        key_from = omega (arith, second.key_from, (ahead_file_before t.first).at);
        key_below = second.key_below;
        value_from = λ j f there. omega (arith, second.value_from j f there, (ahead_file_before t.first).at);
        value_below = second.value_below;
      };
    }

-- ---- distinct byte offsets

module _ (d : Document) (read : IsDocument d) where
  -- entries at equal indices are equal
  same_entry : (i k : ℕ) (e other : EntryReading) → i ≡ k → slice_get d.says.entries i ≡ Some e → slice_get d.says.entries k ≡ Some other
      → e ≡ other
  same_entry i k e other same here here' = some_same (sym here ∙ ap (slice_get d.says.entries) same ∙ here')

  -- entries whose keys begin at the same byte offset have the same index
  pub keys_apart : (i k : ℕ) (e other : EntryReading) → slice_get d.says.entries i ≡ Some e → slice_get d.says.entries k ≡ Some other
      → e.key.start ≡ other.key.start → i ≡ k
  keys_apart i k e other here here' same =
      elim (cases_lt i k) [
        | inl below ↦
            let b = entries_in_order i k e other read below here here' in
            absurd (omega (arith, b.first.key_below, b.second.key_from, same))
        | inr above ↦
            elim (cases_lt k i) [
              | inl below ↦
                  let b = entries_in_order k i other e read below here' here in
                  absurd (omega (arith, b.first.key_below, b.second.key_from, same))
              | inr above' ↦ omega (arith, above, above')
            ]
      ]

  -- fields whose values begin at the same byte offset are in entries with the same index
  pub values_apart : (i k j l : ℕ) (e other : EntryReading) (f h : FieldReading) → slice_get d.says.entries i ≡ Some e
      → slice_get d.says.entries k ≡ Some other → slice_get e.fields j ≡ Some f → slice_get other.fields l ≡ Some h
      → f.value.start ≡ h.value.start → i ≡ k
  values_apart i k j l e other f h here here' there there' same =
      elim (cases_lt i k) [
        | inl below ↦
            let b = entries_in_order i k e other read below here here' in
            absurd (omega (arith, b.first.value_below j f there, b.second.value_from l h there', same))
        | inr above ↦
            elim (cases_lt k i) [
              | inl below ↦
                  let b = entries_in_order k i other e read below here' here in
                  absurd (omega (arith, b.first.value_below l h there', b.second.value_from j f there, same))
              | inr above' ↦ omega (arith, above, above')
            ]
      ]

  -- fields of one entry whose values begin at the same byte offset have the same index
  pub fields_apart : (k j l : ℕ) (e : EntryReading) (f h : FieldReading) → slice_get d.says.entries k ≡ Some e
      → slice_get e.fields j ≡ Some f → slice_get e.fields l ≡ Some h → f.value.start ≡ h.value.start → j ≡ l
  fields_apart k j l e f h here there there' same =
      let s = split_file k e read here in
      elim (cases_lt j l) [
        | inl below ↦ absurd (omega (arith, values_in_order j l f h s.block.fields below there there', same))
        | inr above ↦
            elim (cases_lt l j) [
              | inl below ↦ absurd (omega (arith, values_in_order l j h f s.block.fields below there' there, same))
              | inr above' ↦ omega (arith, above, above')
            ]
      ]

  -- a value isn't empty
  pub value_filled : (k j : ℕ) (e : EntryReading) (f : FieldReading) → slice_get d.says.entries k ≡ Some e
      → slice_get e.fields j ≡ Some f → f.value.start < f.value.end
  value_filled k j e f here there =
      let s = split_file k e read here in
      (value_between j f s.block.fields there).some
