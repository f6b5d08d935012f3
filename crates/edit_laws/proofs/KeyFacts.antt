-- The entries of a file with new keys: their own fields except references.
use Rattle.std.proofs.Common.{◌≡◌, ◌⊎◌, ℕ, zero, suc, List, [], ◌∷◌, ◌++◌, Bool, true, false, cond, map, reverse, refl, sym, ap, ◌∙◌, subst, inl, inr, Some, None, Option}
use Rattle.std.specs.Prelude.{bytes_eq, codes, slice_get, slice_set, ◌||◌}
use Rattle.std.specs.List.{AllByRecursion, AllZip}
use Rattle.std.specs.Str.{str_to_ascii_lowercase}
use Rattle.std.proofs.lemmas.Bool.{both_ways}
use Rattle.std.proofs.lemmas.Slice.Eq.{bytes_eq-Decides}
use Rattle.bib_text.proofs.ListFacts.{get_mapped}
use Rattle.bib_abbreviations.specs.Abbreviations.{Definitions}
use Rattle.bib_entry.specs.declared.entry.Entry.{Entry}
use Rattle.bib_file_entries.proofs.LoadingFacts.{AllZip-reverse}
use Rattle.bib_file_entries.specs.Bibliography.{claims}
use Rattle.bib_file_entries.specs.Loaded.{AreEntries, name_of}
use Rattle.bib_inheritance.specs.EntryTexts.{fields_of}
use Rattle.bib_syntax.specs.Reading.{EntryReading, FieldReading, FileReading}
use Rattle.bib_tables.specs.EntryType.{entry_type_of}
use Rattle.bib_tables.specs.ReferenceFields.{is_reference_field}
use Rattle.biblatex.specs.Resolved.{AreOwn}
use Rattle.edit_entries.proofs.PlacelessFacts.{file_placeless, pieces_placeless}
use Rattle.edit_entries.specs.Documents.{Document, text_at, value_edit, with_value}
use Rattle.edit_entries.specs.Edits.{moved_entry, moved_field, moved_piece, moved_place}
use Rattle.edit_entries.specs.References.{Change, Changed, KeysRenamed, key_change, new_reference, reference_changes, renamed_text, renamed_value, renaming, value_change}
use Rattle.edit_format.proofs.LowerFacts.{lower_lower}
use Rattle.edit_laws.proofs.AlikeFacts.{AreAlikeFields, DefineAlike, FoundAlike, alike_mean, definitions_alike, find_alike}
use Rattle.edit_laws.proofs.FieldFacts.{found_passes}
use Rattle.edit_laws.proofs.LeadListFacts.{zip_self}
use Rattle.edit_laws.proofs.ReadAlikeFacts.{abbreviations_alike, pieces_alike}
use Rattle.edit_laws.proofs.TextFacts.{found_text, texts_of_entry_are}
use Rattle.edit_laws.specs.Renamed.{IsKeyRenamed}

-- ---- lists

zip_map : {A B : Type 0} (R : A → B → Type 0) (f : B → B) (xs : List A) (ys : List B) → ((x : A) (y : B) → R x y → R x (f y))
    → AllZip R xs ys → AllZip R xs (map f ys)
zip_map R f [] [] keeps all = tt
zip_map R f [] (y ∷ ys) keeps all = absurd all
zip_map R f (x ∷ xs) [] keeps all = absurd all
zip_map R f (x ∷ xs) (y ∷ ys) keeps all = (keeps x y all.0, zip_map R f xs ys keeps all.1)

zip_set : {A B : Type 0} (R : A → B → Type 0) (xs : List A) (ys : List B) (k : ℕ) (y z : B) → AllZip R xs ys → slice_get ys k ≡ Some y
    → ((x : A) → R x y → R x z) → AllZip R xs (slice_set ys k z)
zip_set R [] [] k y z all here becomes = tt
zip_set R [] (b ∷ ys) k y z all here becomes = absurd all
zip_set R (a ∷ xs) [] k y z all here becomes = absurd all
zip_set R (a ∷ xs) (b ∷ ys) zero y z all here becomes = let same : b ≡ y = cc in (becomes a (subst (R a) same all.0), all.1)
zip_set R (a ∷ xs) (b ∷ ys) (suc k) y z all here becomes = (all.0, zip_set R xs ys k y z all.1 here becomes)

-- ---- readings

-- a field has the same name and, if it isn't a reference field, the same value except for byte offsets
record IsFieldKept (f g : FieldReading) : Type 0 where
  name : g.name.text ≡ f.name.text
  value : is_reference_field f.name.text ≡ false
      → map (moved_piece (λ at. 0)) f.value.pieces ≡ map (moved_piece (λ at. 0)) g.value.pieces

-- an entry has the same or a new key, the same type, and fields that are kept as `IsFieldKept` states
record IsEntryKept (keys : ℕ → Option (List ℕ)) (e g : EntryReading) : Type 0 where
  key : (g.key.text ≡ e.key.text) ⊎ ((index : ℕ) × (keys index ≡ Some g.key.text))
  kind : g.kind.text ≡ e.kind.text
  fields : AllZip IsFieldKept e.fields g.fields

-- two readings have, except for byte offsets, the same entries with other keys and references, and the same definitions
record IsFileKept (keys : ℕ → Option (List ℕ)) (said tells : FileReading) : Type 0 where
  entries : AllZip (IsEntryKept keys) said.entries tells.entries
  abbreviations : map (moved_field (λ at. 0)) said.abbreviations ≡ map (moved_field (λ at. 0)) tells.abbreviations

field_moved : (move : ℕ → ℕ) (f g : FieldReading) → IsFieldKept f g → IsFieldKept f (moved_field move g)
field_moved move f g kept = record {
  name = kept.name;
  value = λ other. kept.value other ∙ sym (pieces_placeless move g.value.pieces);
}

entry_moved : (keys : ℕ → Option (List ℕ)) (move : ℕ → ℕ) (e g : EntryReading) → IsEntryKept keys e g
    → IsEntryKept keys e (moved_entry move g)
entry_moved keys move e g kept = record {
  key = kept.key;
  kind = kept.kind;
  fields = zip_map IsFieldKept (moved_field move) e.fields g.fields (field_moved move) kept.fields;
}

-- ---- changes

-- a change gives a key that is one of `keys`, or changes a reference field
abbrev IsFine : (ℕ → Option (List ℕ)) → Change → Type 0
IsFine keys (Change.key p new) = (index : ℕ) × (keys index ≡ Some new)
IsFine keys (Change.value f new) = is_reference_field f.name.text ≡ true

fine_append : (keys : ℕ → Option (List ℕ)) (xs ys : List Change) → AllByRecursion (IsFine keys) xs → AllByRecursion (IsFine keys) ys
    → AllByRecursion (IsFine keys) (xs ++ ys)
fine_append keys [] ys first second = second
fine_append keys (x ∷ xs) ys first second = (first.0, fine_append keys xs ys first.1 second)

fine_fields : (keys : ℕ → Option (List ℕ)) (names : List ℕ → List ℕ → Option (List ℕ)) (fs : List FieldReading)
    → AllByRecursion (IsFine keys) (reference_changes names fs)
fine_fields keys names [] = tt
fine_fields keys names (f ∷ fs) =
    fine_append keys (value_change f (renamed_value names f)) (reference_changes names fs)
    (by_name (is_reference_field f.name.text) refl) (fine_fields keys names fs)
  where
    changes : (o : Option (List ℕ)) → is_reference_field f.name.text ≡ true → AllByRecursion (IsFine keys) (value_change f o)
    changes None is = tt
    changes (Some new) is = (is, tt)

    by_name : (b : Bool) → is_reference_field f.name.text ≡ b
        → AllByRecursion (IsFine keys)
        (value_change f (cond (is_reference_field f.name.text) (renamed_text (names f.name.text) f.value.pieces) None))
    by_name true is = changes (cond (is_reference_field f.name.text) (renamed_text (names f.name.text) f.value.pieces) None) is
    by_name false is =
        subst (λ b. AllByRecursion (IsFine keys) (value_change f (cond b (renamed_text (names f.name.text) f.value.pieces) None)))
        (sym is) tt

fine_key : (keys : ℕ → Option (List ℕ)) (e : EntryReading) (index : ℕ) (o : Option (List ℕ)) → keys index ≡ o
    → AllByRecursion (IsFine keys) (key_change o e)
fine_key keys e index None is = tt
fine_key keys e index (Some new) is = ((index, is), tt)

fine_renaming : (keys : ℕ → Option (List ℕ)) (names : List ℕ → List ℕ → Option (List ℕ)) (index : ℕ) (es : List EntryReading)
    → AllByRecursion (IsFine keys) (renaming names keys index es)
fine_renaming keys names index [] = tt
fine_renaming keys names index (e ∷ es) =
    fine_append keys (key_change (keys index) e ++ reference_changes names e.fields) (renaming names keys (suc index) es)
    (fine_append keys (key_change (keys index) e) (reference_changes names e.fields) (fine_key keys e index (keys index) refl)
    (fine_fields keys names e.fields)) (fine_renaming keys names (suc index) es)

module _ (keys : ℕ → Option (List ℕ)) where
  -- changes that give new keys and change reference fields keep the rest of the entries, and the definitions
  changed_kept : {d after : Document} {changes : List Change} → Changed d changes after → AllByRecursion (IsFine keys) changes
      → IsFileKept keys d.says after.says
  changed_kept {d} Changed.none fine = record {
    entries =
        zip_self (IsEntryKept keys) d.says.entries
        (λ e.
        record {
          key = inl refl;
          kind = refl;
          fields = zip_self IsFieldKept e.fields (λ f. record { name = refl; value = λ other. refl });
        });
    abbreviations = refl;
  }
  changed_kept {d} (Changed.key {after = before} {p = p} {new = new} {e = e} k rest here is) fine =
      let kept = changed_kept rest fine.1 in
      let move : ℕ → ℕ = moved_place (record { start = e.key.start; end = e.key.end; bytes = new }) in
      record {
        entries =
            zip_set (IsEntryKept keys) d.says.entries (map (moved_entry move) before.says.entries) k (moved_entry move e)
            (record (moved_entry move e) { key = text_at (move e.key.start) new })
            (zip_map (IsEntryKept keys) (moved_entry move) d.says.entries before.says.entries (entry_moved keys move) kept.entries)
            (get_mapped (moved_entry move) before.says.entries k e here)
            (λ x was. record { key = inr fine.0; kind = was.kind; fields = was.fields });
        abbreviations = kept.abbreviations ∙ sym (ap (λ (s : FileReading). s.abbreviations) (file_placeless move before.says));
      }
  changed_kept {d} (Changed.value {after = before} {f = f} {new = new} {e = e} k j rest here there) fine =
      let kept = changed_kept rest fine.1 in
      let move : ℕ → ℕ = moved_place (value_edit before.text f new) in
      let changed : FieldReading = with_value new (moved_field move f) in
      record {
        entries =
            zip_set (IsEntryKept keys) d.says.entries (map (moved_entry move) before.says.entries) k (moved_entry move e)
            (record (moved_entry move e) { fields = slice_set (map (moved_field move) e.fields) j changed })
            (zip_map (IsEntryKept keys) (moved_entry move) d.says.entries before.says.entries (entry_moved keys move) kept.entries)
            (get_mapped (moved_entry move) before.says.entries k e here)
            (λ x was.
            record {
              key = was.key;
              kind = was.kind;
              fields =
                  zip_set IsFieldKept x.fields (map (moved_field move) e.fields) j (moved_field move f) changed was.fields
                  (get_mapped (moved_field move) e.fields j f there)
                  (λ h named.
                  record {
                    name = named.name;
                    value = λ other. absurd (both_ways _ other (ap is_reference_field (sym named.name) ∙ fine.0));
                  });
            });
        abbreviations = kept.abbreviations ∙ sym (ap (λ (s : FileReading). s.abbreviations) (file_placeless move before.says));
      }

-- ---- the own entries

reference_lower : (name : List ℕ) → is_reference_field (str_to_ascii_lowercase name) ≡ is_reference_field name
reference_lower name =
    ap
    (λ l.
    bytes_eq l (str_to_ascii_lowercase (codes "crossref")) || bytes_eq l (str_to_ascii_lowercase (codes "xdata"))
    || bytes_eq l (str_to_ascii_lowercase (codes "xref")) || bytes_eq l (str_to_ascii_lowercase (codes "related"))
    || bytes_eq l (str_to_ascii_lowercase (codes "entryset")) || bytes_eq l (str_to_ascii_lowercase (codes "set"))) (lower_lower name)

module _ {one other : Definitions} (both : DefineAlike one other) (name : List ℕ) (plain : is_reference_field name ≡ false) where
  alike_found : {o p : Option FieldReading} → FoundAlike IsFieldKept o p → ((f : FieldReading) → o ≡ Some f → name_of f ≡ name)
      → FoundAlike (AreAlikeFields one other) o p
  alike_found FoundAlike.in_neither named = FoundAlike.in_neither
  alike_found (FoundAlike.in_each {x = f} {y = g} kept) named =
      FoundAlike.in_each
      (record {
        name = ap str_to_ascii_lowercase (sym kept.name);
        means =
            alike_mean both
            (pieces_alike f.value.pieces g.value.pieces
            (kept.value (sym (reference_lower f.name.text) ∙ ap is_reference_field (named f refl) ∙ plain)));
      })

kept_own : (keys : ℕ → Option (List ℕ)) {one other : Definitions} (both : DefineAlike one other) (said tells : List EntryReading)
    (earlier before : List (List ℕ)) {own others : List Entry} → AllZip (IsEntryKept keys) said tells → AreEntries one earlier said own
    → AreEntries other before tells others → AllZip (IsKeyRenamed keys) own others
kept_own keys both [] [] earlier before kept AreEntries.none AreEntries.none = tt
kept_own keys both [] (t ∷ tells) earlier before kept first second = absurd kept
kept_own keys both (s ∷ said) [] earlier before kept first second = absurd kept
kept_own keys {one} {other} both (s ∷ said) (t ∷ tells) earlier before kept
    (AreEntries.next {entry = a} fresh is following) (AreEntries.next {entry = b} fresh' is' following') = (
      record {
        key = key_of kept.0.key;
        kind = is'.kind ∙ ap entry_type_of kept.0.kind ∙ sym is.kind;
        fields = λ name plain.
            sym
            (found_text one other (fields_of a.fields name) (fields_of b.fields name)
            (alike_found both name plain
            (find_alike IsFieldKept (λ f. bytes_eq name (name_of f)) (reverse s.fields) (reverse t.fields)
            (λ f g field. ap (λ n. bytes_eq name (str_to_ascii_lowercase n)) (sym field.name))
            (AllZip-reverse IsFieldKept s.fields t.fields kept.0.fields))
            (λ f found.
            sym ((bytes_eq-Decides name (name_of f)).0 (found_passes (λ g. bytes_eq name (name_of g)) (reverse s.fields) f found))))
            ((texts_of_entry_are a is).fields name) ((texts_of_entry_are b is').fields name));
      },
      kept_own keys both said tells (earlier ++ claims a) (before ++ claims b) kept.1 following following',
    )
  where
    key_of : (t.key.text ≡ s.key.text) ⊎ ((index : ℕ) × (keys index ≡ Some t.key.text))
        → (b.key ≡ a.key) ⊎ ((index : ℕ) × (keys index ≡ Some b.key))
    key_of (inl same) = inl (is'.key ∙ same ∙ sym is.key)
    key_of (inr new) = inr (new.0, new.1 ∙ ap Some (sym is'.key))

pub renamed_own : {d after : Document} {keys : ℕ → Option (List ℕ)} (own others : List Entry) → KeysRenamed d keys after
    → AreOwn d.says own → AreOwn after.says others → AllZip (IsKeyRenamed keys) own others
renamed_own {d} {after} {keys} own others (KeysRenamed.renamed can changed) first second =
    let kept = changed_kept keys changed (fine_renaming keys (new_reference d.says.entries keys) 0 d.says.entries) in
    kept_own keys
    (definitions_alike d.says.abbreviations after.says.abbreviations
    (abbreviations_alike d.says.abbreviations after.says.abbreviations kept.abbreviations)) d.says.entries after.says.entries [] []
    kept.entries first second
