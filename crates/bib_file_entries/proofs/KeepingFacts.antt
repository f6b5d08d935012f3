-- Keeping the fields and the entries of a file one by one.
use Rattle.std.proofs.Common.{◌≡◌, ℕ, ◌+◌, true, false, List, [], ◌∷◌, ◌++◌, ◌<◌, zero, suc, drop, length, map, refl, sym, ap, subst, ◌∙◌, append_assoc, is_some, get_or, reverse, add-one, arith}
use Rattle.std.specs.Prelude.{slice_get, Some}
use Rattle.std.specs.FinMap as by_name
use Rattle.std.specs.List.{AllZip}
use Rattle.std.specs.declared.ops.Range.{Range}
use Rattle.std.proofs.lemmas.List.{append-nil, map-append}
use Rattle.bib_abbreviations.specs.Abbreviations.{Definitions}
use Rattle.bib_chunks.specs.declared.chunk.Chunk.{Chunk}
use Rattle.bib_entry.specs.declared.entry.Entry.{Entry}
use Rattle.bib_tables.specs.EntryType.{entry_type_of}
use Rattle.bib_text.proofs.ListFacts.{all_zip_push}
use Rattle.bib_file_entries.specs.Bibliography.{claims, empty_bibliography}
use Rattle.bib_file_entries.specs.Claiming.{IsKeptSoFar, place_of}
use Rattle.bib_file_entries.specs.Keeping.{AreKeptFields, IsKeptEntry, IsKeptField, IsLeftOut}
use Rattle.bib_file_entries.specs.Kept.{EntriesKept, FieldsKept, IsKeptFrom, duplicate_key, mended_field, unknown_names, with_fields}
use Rattle.bib_file_entries.specs.Loaded.{CanBeRead, is_claimed, loaded_after}
use Rattle.bib_file_entries.specs.Loading.{IsRead, last_field, pieces_of}
use Rattle.bib_file_entries.proofs.BibliographyFacts.{below_empty}
use Rattle.bib_file_entries.proofs.LoadedFacts.{same_next, bibliography_next, below_next}
use Rattle.bib_file_entries.proofs.LoadingFacts.{IsFound, are_readable, found_last}
use Rattle.bib_file_entries.proofs.RawFacts.{found_same, readable_same}
use Rattle.bib_collections.specs.Names.{AreIndicesBelow, with_claims, claims_for}
use Rattle.bib_collections.specs.Sorted.{ByText, by_bytes}
use Rattle.bib_syntax.specs.Reading.{EntryReading, FieldReading}
use Rattle.bib_syntax.specs.Views.{entry_reading_of, field_of}
use Rattle.bib_syntax.specs.declared.raw.Pair.{Pair}
use Rattle.bib_syntax.specs.declared.raw.ParseError.{ParseError}
use Rattle.bib_syntax.specs.declared.raw.RawEntry.{RawEntry}
use Rattle.bib_text.specs.declared.spanned.Spanned.{Spanned}
use Rattle.std.specs.FinMap.{get-empty}

-- the fields so far were kept or left out; the kept ones of `rest` follow them
pub record KeptSoFar (definitions : Definitions) (said rest : List Pair) (old errors : List ParseError)
    (pairs : List (List ℕ × List (Spanned Chunk))) : Type 0 where
  pub kept : List Pair
  pub more : List ParseError
  pub onward : (fields : List FieldReading) (later : List ParseError) → FieldsKept definitions (map field_of rest) fields later
      → FieldsKept definitions (map field_of said) (map field_of kept ++ fields) (more ++ later)
  pub read : AllZip (IsRead definitions) kept pairs
  pub noted : errors ≡ old ++ more

-- before the first field, nothing is kept or left out
pub kept_none : (definitions : Definitions) (said : List Pair) (old : List ParseError) → KeptSoFar definitions said said old old []
kept_none definitions said old = record { kept = []; more = []; onward = λ fields later is. is; read = tt; noted = sym (append-nil old) }

-- adding errors twice adds their concatenation
added_twice : (old more first : List ParseError) (errors new : List ParseError) → errors ≡ old ++ more
    → new ≡ errors ++ first → new ≡ old ++ (more ++ first)
added_twice old more first errors new is now = now ∙ ap (λ l. l ++ first) is ∙ append_assoc old more first

-- one more field is kept
pub kept_next : {definitions : Definitions} {said rest : List Pair} {f : Pair} {old errors new : List ParseError}
    {pairs : List (List ℕ × List (Spanned Chunk))} (pair : List ℕ × List (Spanned Chunk))
    → KeptSoFar definitions said (f ∷ rest) old errors pairs → IsKeptField definitions f errors new pair
    → KeptSoFar definitions said rest old new (pairs ++ pair ∷ [])
kept_next {definitions} {said} {rest} {f} {old} {errors} {new} {pairs} pair so_far field =
    let can : CanBeRead definitions (mended_field definitions (field_of f)) = subst (CanBeRead definitions) field.is field.read.readable in
    record {
      kept = so_far.kept ++ field.kept ∷ [];
      more = so_far.more ++ unknown_names definitions (pieces_of f);
      onward = λ fields later is.
          let listed : map field_of so_far.kept ++ (mended_field definitions (field_of f) ∷ fields)
          ≡ map field_of (so_far.kept ++ field.kept ∷ []) ++ fields =
          ap (λ g. map field_of so_far.kept ++ (g ∷ fields)) (sym field.is)
          ∙ sym (append_assoc (map field_of so_far.kept) (field_of field.kept ∷ []) fields)
          ∙ ap (λ l. l ++ fields) (sym (map-append field_of so_far.kept (field.kept ∷ []))) in
          let told =
          so_far.onward (mended_field definitions (field_of f) ∷ fields)
          (unknown_names definitions (pieces_of f) ++ later) (FieldsKept.kept can is) in
          subst
          (λ l.
          FieldsKept definitions (map field_of said) l
          ((so_far.more ++ unknown_names definitions (pieces_of f)) ++ later)) listed
          (subst
          (FieldsKept definitions (map field_of said)
          (map field_of so_far.kept ++ (mended_field definitions (field_of f) ∷ fields)))
          (sym (append_assoc so_far.more (unknown_names definitions (pieces_of f)) later)) told);
      read = all_zip_push (IsRead definitions) so_far.kept pairs field.kept pair so_far.read field.read;
      noted = added_twice old so_far.more (unknown_names definitions (pieces_of f)) errors new so_far.noted field.errors;
    }

-- one more field is left out
pub left_out_next : {definitions : Definitions} {said rest : List Pair} {f : Pair} {old errors new : List ParseError}
    {pairs : List (List ℕ × List (Spanned Chunk))}
    → KeptSoFar definitions said (f ∷ rest) old errors pairs → IsLeftOut definitions f errors new
    → KeptSoFar definitions said rest old new pairs
left_out_next {definitions} {said} {rest} {f} {old} {errors} {new} {pairs} so_far field =
    let first : List ParseError = unknown_names definitions (pieces_of f) ++ field.error ∷ [] in
    record {
      kept = so_far.kept;
      more = so_far.more ++ first;
      onward = λ fields later is.
          let listed : so_far.more ++ (unknown_names definitions (pieces_of f) ++ (field.error ∷ later)) ≡ (so_far.more ++ first) ++ later =
          ap (λ l. so_far.more ++ l)
          (sym (append_assoc (unknown_names definitions (pieces_of f)) (field.error ∷ []) later))
          ∙ sym (append_assoc so_far.more first later) in
          subst (FieldsKept definitions (map field_of said) (map field_of so_far.kept ++ fields)) listed
          (so_far.onward fields (unknown_names definitions (pieces_of f) ++ (field.error ∷ later))
          (FieldsKept.left_out field.first field.unread is));
      read = so_far.read;
      noted = added_twice old so_far.more first errors new so_far.noted field.errors;
    }

-- once each field is kept or left out, the kept fields are those kept so far
pub kept_all : {definitions : Definitions} {said : List Pair} {old errors : List ParseError}
    {pairs : List (List ℕ × List (Spanned Chunk))} → KeptSoFar definitions said [] old errors pairs
    → AreKeptFields definitions said old errors pairs
kept_all {definitions} {said} {old} {errors} {pairs} so_far = record {
  kept = so_far.kept;
  more = so_far.more;
  fields = subst (λ l. FieldsKept definitions (map field_of said) l so_far.more) (append-nil (map field_of so_far.kept))
      (subst (FieldsKept definitions (map field_of said) (map field_of so_far.kept ++ [])) (append-nil so_far.more)
      (so_far.onward [] [] FieldsKept.none));
  read = so_far.read;
  errors = so_far.noted;
}

-- an entry with the key and the type of a raw entry, and the fields kept of it, is its kept entry
pub kept_entry : {definitions : Definitions} (raw : Spanned RawEntry) {old errors : List ParseError}
    {pairs : List (List ℕ × List (Spanned Chunk))} (entry : Entry)
    → AreKeptFields definitions raw.v.fields.items old errors pairs → entry.key ≡ raw.v.key.v.now
    → entry.entry_type ≡ entry_type_of raw.v.kind.v.now
    → entry.fields ≡ by_name.from_entries {R = by_bytes} (reverse pairs) → IsKeptEntry definitions (entry_reading_of raw) old errors entry
kept_entry {definitions} raw {old} {errors} {pairs} entry fields key kind is = record {
  fields = map field_of fields.kept;
  more = fields.more;
  kept = fields.fields;
  read = record {
    key = key;
    kind = kind;
    fields = λ name. found_same definitions fields.kept name (by_name.get entry.fields name)
        (subst (λ m. IsFound definitions name (last_field fields.kept name) (by_name.get m name)) (sym is)
        (found_last definitions name fields.kept pairs fields.read));
    readable = readable_same definitions fields.kept (are_readable definitions fields.kept pairs fields.read);
  };
  errors = fields.errors;
}

-- `one` is the element at an index, and `rest` are those after it
record BeginsAt {A : Type 0} (all : List A) (index : ℕ) (one : A) (rest : List A) : Type 0 where
  there : slice_get all index ≡ Some one
  more : drop (suc index) all ≡ rest
  within : index < length all

-- if the rest of a list from an index on begins with an element, it is the element at the index
begins_at : {A : Type 0} (all : List A) (index : ℕ) (one : A) (rest : List A) → drop index all ≡ one ∷ rest → BeginsAt all index one rest
begins_at [] zero one rest is = cc
begins_at [] (suc index) one rest is = cc
begins_at (x ∷ all) zero one rest is = record { there = cc; more = cc; within = omega arith }
begins_at (x ∷ all) (suc index) one rest is =
    let next = begins_at all index one rest is in
    record { there = next.there; more = next.more; within = omega (arith, next.within) }

-- the entries below an index were kept or left out; the kept ones of `rest` follow them
pub record EntriesKeptSoFar (definitions : Definitions) (said rest : List EntryReading) (found : List Entry)
    (names : ByText ℕ) (places : List (Range ℕ)) (origins : List ℕ) (index : ℕ) (errors : List ParseError) : Type 0
  where
    pub kept : List EntryReading
    pub earlier : List (List ℕ)
    pub same : (name : List ℕ) → is_some (by_name.get names name) ≡ is_claimed earlier name
    pub onward : (more_kept : List EntryReading) (more : List Entry) (later : List ParseError)
        → EntriesKept definitions earlier rest more_kept more later
        → EntriesKept definitions [] said (kept ++ more_kept) (found ++ more) (errors ++ later)
    pub stand : places ≡ map place_of kept
    pub ahead : drop index said ≡ rest
    pub origin : AllZip (IsKeptFrom said) origins kept
    pub bibliography : loaded_after empty_bibliography found ≡ record { entries = found; names = names }
    pub below : AreIndicesBelow (length found) names

-- before the first entry, nothing is kept or left out
pub entries_none : (definitions : Definitions) (said : List EntryReading)
    → EntriesKeptSoFar definitions said said [] by_name.empty [] [] 0 []
entries_none definitions said = record {
  kept = [];
  earlier = [];
  same = λ name. ap is_some (get-empty by_bytes name);
  onward = λ more_kept more later is. is;
  stand = refl;
  ahead = refl;
  origin = tt;
  bibliography = refl;
  below = below_empty 0;
}

-- the elements after the one at an index are those from the next index on
ahead_next : {A : Type 0} (all rest : List A) (index : ℕ) (one : A) → drop index all ≡ one ∷ rest → drop (index + 1) all ≡ rest
ahead_next all rest index one is = rw add-one (begins_at all index one rest is).more

-- one more entry is left out, because its key was claimed before
pub entries_duplicate : {definitions : Definitions} {said rest : List EntryReading} {one : EntryReading}
    {found : List Entry} {names : ByText ℕ} {places : List (Range ℕ)} {origins : List ℕ} {index : ℕ}
    {errors : List ParseError} (e : ParseError)
    → EntriesKeptSoFar definitions said (one ∷ rest) found names places origins index errors
    → is_some (by_name.get names one.key.text) ≡ true → e ≡ duplicate_key one
    → EntriesKeptSoFar definitions said rest found names places origins (index + 1) (errors ++ e ∷ [])
entries_duplicate {definitions} {said} {rest} {one} {found} {names} {places} {origins} {index} {errors} e so_far had is = record {
  kept = so_far.kept;
  earlier = so_far.earlier;
  same = so_far.same;
  onward = λ more_kept more later following.
      subst (EntriesKept definitions [] said (so_far.kept ++ more_kept) (found ++ more))
      (ap (λ first. errors ++ (first ∷ later)) (sym is) ∙ sym (append_assoc errors (e ∷ []) later))
      (so_far.onward more_kept more (duplicate_key one ∷ later) (EntriesKept.duplicate (sym (so_far.same one.key.text) ∙ had) following));
  stand = so_far.stand;
  ahead = ahead_next said rest index one so_far.ahead;
  origin = so_far.origin;
  bibliography = so_far.bibliography;
  below = so_far.below;
}

-- one more entry is kept
pub entries_next : {definitions : Definitions} {said rest : List EntryReading} {one : EntryReading} {found : List Entry}
    {names : ByText ℕ} {places : List (Range ℕ)} {origins : List ℕ} {index : ℕ} {errors new : List ParseError}
    (entry : Entry)
    → EntriesKeptSoFar definitions said (one ∷ rest) found names places origins index errors
    → is_some (by_name.get names one.key.text) ≡ false → IsKeptEntry definitions one errors new entry
    → EntriesKeptSoFar definitions said rest (found ++ entry ∷ [])
    (with_claims names (claims_for (claims entry) (length found))) (places ++ place_of one ∷ []) (origins ++ index ∷ [])
    (index + 1) new
entries_next {definitions} {said} {rest} {one} {found} {names} {places} {origins} {index} {errors} {new} entry so_far absent read =
    let fresh : is_claimed so_far.earlier one.key.text ≡ false = sym (so_far.same one.key.text) ∙ absent in
    record {
      kept = so_far.kept ++ with_fields one read.fields ∷ [];
      earlier = so_far.earlier ++ claims entry;
      same = same_next so_far.earlier entry names (length found) so_far.same;
      onward = λ more_kept more later following.
          let told =
          so_far.onward (with_fields one read.fields ∷ more_kept) (entry ∷ more) (read.more ++ later)
          (EntriesKept.next fresh read.kept read.read following) in
          subst (λ l. EntriesKept definitions [] said l ((found ++ entry ∷ []) ++ more) (new ++ later))
          (sym (append_assoc so_far.kept (with_fields one read.fields ∷ []) more_kept))
          (subst
          (λ l.
          EntriesKept definitions [] said (so_far.kept ++ (with_fields one read.fields ∷ more_kept)) l
          (new ++ later)) (sym (append_assoc found (entry ∷ []) more))
          (subst (EntriesKept definitions [] said (so_far.kept ++ (with_fields one read.fields ∷ more_kept)) (found ++ (entry ∷ more)))
          (sym (append_assoc errors read.more later) ∙ ap (λ l. l ++ later) (sym read.errors)) told));
      stand = ap (λ l. l ++ place_of one ∷ []) so_far.stand ∙ sym (map-append place_of so_far.kept (with_fields one read.fields ∷ []));
      ahead = ahead_next said rest index one so_far.ahead;
      origin = all_zip_push (IsKeptFrom said) origins so_far.kept index (with_fields one read.fields) so_far.origin
          (record { one = one; there = (begins_at said index one rest so_far.ahead).there; is = refl });
      bibliography = bibliography_next found entry names so_far.bibliography;
      below = below_next found entry names so_far.below;
    }

-- all entries were kept or left out
pub entries_all : {definitions : Definitions} {said : List EntryReading} {found : List Entry} {names : ByText ℕ}
    {places : List (Range ℕ)} {origins : List ℕ} {index : ℕ} {errors : List ParseError}
    → EntriesKeptSoFar definitions said [] found names places origins index errors
    → IsKeptSoFar definitions said found names places origins errors
entries_all {definitions} {said} {found} {names} {places} {origins} {index} {errors} so_far = record {
  kept = so_far.kept;
  read =
      subst (λ l. EntriesKept definitions [] said l found errors) (append-nil so_far.kept)
      (subst (λ l. EntriesKept definitions [] said (so_far.kept ++ []) l errors) (append-nil found)
      (subst (EntriesKept definitions [] said (so_far.kept ++ []) (found ++ [])) (append-nil errors)
      (so_far.onward [] [] [] EntriesKept.none)));
  stand = so_far.stand;
  origin = so_far.origin;
  bibliography = so_far.bibliography;
}
