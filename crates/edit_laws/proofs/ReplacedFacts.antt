-- Readings in which the fields of one entry are replaced.
use Rattle.std.proofs.Common.{◌≡◌, ℕ, List, [], ◌∷◌, Bool, true, false, cond, map, reverse, refl, sym, ap, ◌∙◌, subst, Some, None, Option, append-nil}
use Rattle.std.specs.Prelude.{bytes_eq, slice_get, slice_set}
use Rattle.std.specs.List.{AllZip}
use Rattle.std.specs.Str.{chars, str_to_ascii_lowercase}
use Rattle.std.proofs.lemmas.Slice.Eq.{bytes_eq-Decides}
use Rattle.bib_text.proofs.ListFacts.{get_set}
use Rattle.bib_abbreviations.specs.Abbreviations.{Definitions, Evaluates}
use Rattle.bib_abbreviations.specs.Abbreviations.{Evaluates as evaluates}
use Rattle.bib_chunks.specs.Styled.{Atom}
use Rattle.bib_contents.specs.Contents.{IsContent}
use Rattle.bib_entry.specs.declared.entry.Entry.{Entry}
use Rattle.bib_file_entries.specs.Loaded.{IsEntry, definition_in, field_in, name_of}
use Rattle.bib_inheritance.specs.EntryTexts.{EntryTexts}
use Rattle.bib_inheritance.specs.Resolving.{texts_of_entries, texts_of_entry}
use Rattle.bib_syntax.specs.Reading.{EntryReading, FieldReading, FileReading, Part}
use Rattle.bib_syntax.specs.Reading.Piece.{literal}
use Rattle.bib_tables.specs.EntryType.{entry_type_of}
use Rattle.bib_tables.specs.VerbatimFields.{is_verbatim_field}
use Rattle.biblatex.specs.Resolved.{AreOwn}
use Rattle.edit_entries.specs.Edits.{moved_entry, moved_field, placeless}
use Rattle.edit_laws.proofs.AlikeFacts.{AreAlikeFields, DefineAlike, FoundAlike, alike_mean, define_back, definitions_alike, field_alike}
use Rattle.edit_laws.proofs.FieldFacts.{IsText, found_passes}
use Rattle.edit_laws.proofs.ReadAlikeFacts.{AreAlikeEntries, abbreviations_alike, cons_head, cons_tail, pieces_alike}
use Rattle.edit_laws.proofs.TextFacts.{AllZip-set, AreTextsOf, HasText, all_texts_same, each_texts, keys_are, map_set_same, own_at, texts_are, texts_of_entry_are, zip_back_at}
use Rattle.edit_laws.specs.OneField.{DifferInField, with_field_text}

-- ---- readings without byte offsets

abbrev bare_field : FieldReading → FieldReading
bare_field f = moved_field (λ at. 0) f

abbrev bare_entry : EntryReading → EntryReading
bare_entry e = moved_entry (λ at. 0) e

module _ {one other : Definitions} (both : DefineAlike one other) where
  bare_fields_alike : (fs gs : List FieldReading) → map bare_field fs ≡ map bare_field gs → AllZip (AreAlikeFields one other) fs gs
  bare_fields_alike [] [] is = tt
  bare_fields_alike [] (g ∷ gs) is = cc
  bare_fields_alike (f ∷ fs) [] is = cc
  bare_fields_alike (f ∷ fs) (g ∷ gs) is =
      let first : bare_field f ≡ bare_field g = cons_head _ _ is in (
        record {
          name = ap (λ (h : FieldReading). str_to_ascii_lowercase h.name.text) first;
          means = alike_mean both (pieces_alike f.value.pieces g.value.pieces (ap (λ (h : FieldReading). h.value.pieces) first));
        },
        bare_fields_alike fs gs (cons_tail is),
      )

  pub bare_entry_alike : (e g : EntryReading) → bare_entry e ≡ bare_entry g → AreAlikeEntries one other e g
  bare_entry_alike e g is = record {
    key = ap (λ (h : EntryReading). h.key.text) is;
    kind = ap (λ (h : EntryReading). entry_type_of h.kind.text) is;
    ordered = e.fields;
    reordered = record { found = λ name. refl; readable = λ definitions read. read };
    fields = bare_fields_alike e.fields g.fields (ap (λ (h : EntryReading). h.fields) is);
  }

  -- entries that are the same except for byte offsets are alike
  pub bare_entries_alike : (es gs : List EntryReading) → map bare_entry es ≡ map bare_entry gs → AllZip (AreAlikeEntries one other) es gs
  bare_entries_alike [] [] is = tt
  bare_entries_alike [] (g ∷ gs) is = cc
  bare_entries_alike (e ∷ es) [] is = cc
  bare_entries_alike (e ∷ es) (g ∷ gs) is = (bare_entry_alike e g (cons_head _ _ is), bare_entries_alike es gs (cons_tail is))

pub bare_keys : (es : List EntryReading) → map (λ (e : EntryReading). e.key.text) (map bare_entry es) ≡ map (λ
    (e : EntryReading). e.key.text) es
bare_keys [] = refl
bare_keys (e ∷ es) = ap (λ l. e.key.text ∷ l) (bare_keys es)

-- ---- one entry with other fields

-- a reading is another one, except for the fields of an entry and for byte offsets
pub record IsReplaced (said tells : FileReading) (k : ℕ) (e changed : EntryReading) : Type 0 where
  pub here : slice_get said.entries k ≡ Some e
  pub key : changed.key.text ≡ e.key.text
  pub kind : changed.kind.text ≡ e.kind.text
  pub alike : placeless tells ≡ placeless (record said { entries = slice_set said.entries k changed })

-- if raw entries differ only in one field, the texts of the second are those of the first with the text of this field
pub with_field_texts : (definitions : Definitions) (e changed : EntryReading) (texts : EntryTexts) (name : List ℕ)
    (text : Option (List Atom)) → AreTextsOf definitions e texts → changed.kind.text ≡ e.kind.text
    → ((other : List ℕ) → bytes_eq other name ≡ false → field_in changed.fields other ≡ field_in e.fields other)
    → HasText definitions (field_in changed.fields name) text → AreTextsOf definitions changed (with_field_text name text texts)
with_field_texts definitions e changed texts name text are kind others has = record {
  kind = are.kind ∙ ap entry_type_of (sym kind);
  fields = λ other. by_case other (bytes_eq other name) refl;
}
  where
    by_case : (other : List ℕ) (b : Bool) → bytes_eq other name ≡ b
        → HasText definitions (field_in changed.fields other) (cond (bytes_eq other name) text (texts.fields other))
    by_case other true is =
        subst (λ b. HasText definitions (field_in changed.fields other) (cond b text (texts.fields other))) (sym is)
        (subst (λ n. HasText definitions (field_in changed.fields n) text) (sym ((bytes_eq-Decides other name).0 is)) has)
    by_case other false is =
        subst (λ b. HasText definitions (field_in changed.fields other) (cond b text (texts.fields other))) (sym is)
        (subst (λ o. HasText definitions o (texts.fields other)) (sym (others other is)) (are.fields other))

content_of : {definitions : Definitions} {is_verbatim : Bool} {p : Part} {atoms : List Atom}
    → Evaluates definitions is_verbatim (literal p ∷ []) atoms → IsContent is_verbatim (chars p.text) atoms
content_of {is_verbatim = v} {p = p} (evaluates.text {first = first} x evaluates.none) =
    subst (λ l. IsContent v (chars p.text) l) (sym (append-nil first)) x

-- an entry has a field whose contents are those of a text
pub record HasContent (texts : EntryTexts) (name text : List ℕ) : Type 0 where
  pub atoms : List Atom
  pub has : texts.fields name ≡ Some atoms
  pub contents : IsContent (is_verbatim_field name) (chars text) atoms

content_found : (one other : Definitions) (texts : EntryTexts) (name text : List ℕ) (f : FieldReading) {o p : Option FieldReading}
    → FoundAlike (AreAlikeFields other one) o p → p ≡ Some f → name_of f ≡ name → IsText f.value.pieces text
    → HasText other o (texts.fields name) → HasContent texts name text
content_found one other texts name text f FoundAlike.in_neither is named says has = cc
content_found one other texts name text f (FoundAlike.in_each {x = x} {y = y} are) is named says has =
    let same : y ≡ f = cc in
    let moved : Evaluates one (is_verbatim_field name) f.value.pieces has.0 =
    subst (λ n. Evaluates one (is_verbatim_field n) f.value.pieces has.0) (are.name ∙ ap name_of same ∙ named)
    (subst (λ (g : FieldReading). Evaluates one (is_verbatim_field (name_of x)) g.value.pieces has.0) same
    (are.means.value (is_verbatim_field (name_of x)) has.0 has.2)) in
    record {
      atoms = has.0;
      has = has.1;
      contents =
          subst (λ t. IsContent (is_verbatim_field name) (chars t) has.0) says.is
          (content_of (subst (λ ps. Evaluates one (is_verbatim_field name) ps has.0) says.are moved));
    }

nothing_found : (one other : Definitions) {o p : Option FieldReading} {text : Option (List Atom)} → FoundAlike
    (AreAlikeFields other one) o p
    → p ≡ None → HasText other o text → text ≡ None
nothing_found one other FoundAlike.in_neither is has = has
nothing_found one other (FoundAlike.in_each are) is has = cc

module _ {said tells : FileReading} {k : ℕ} {e changed : EntryReading} (is : IsReplaced said tells k e changed) where
  abbrev old_definitions : Definitions
  old_definitions = definition_in said.abbreviations

  abbrev new_definitions : Definitions
  new_definitions = definition_in tells.abbreviations

  pub define_alike : DefineAlike old_definitions new_definitions
  define_alike =
      definitions_alike said.abbreviations tells.abbreviations
      (abbreviations_alike said.abbreviations tells.abbreviations (sym (ap (λ (h : FileReading). h.abbreviations) is.alike)))

  pub entries_alike : AllZip (AreAlikeEntries old_definitions new_definitions) (slice_set said.entries k changed) tells.entries
  entries_alike =
      bare_entries_alike define_alike (slice_set said.entries k changed) tells.entries
      (sym (ap (λ (h : FileReading). h.entries) is.alike))

  entries_alike_back : AllZip (AreAlikeEntries new_definitions old_definitions) tells.entries (slice_set said.entries k changed)
  entries_alike_back =
      bare_entries_alike (define_back define_alike) tells.entries (slice_set said.entries k changed)
      (ap (λ (h : FileReading). h.entries) is.alike)

  reading_keys : map (λ (x : EntryReading). x.key.text) tells.entries ≡ map (λ (x : EntryReading). x.key.text) said.entries
  reading_keys =
      sym (bare_keys tells.entries) ∙ ap (λ (h : FileReading). map (λ (x : EntryReading). x.key.text) h.entries) is.alike
      ∙ bare_keys (slice_set said.entries k changed)
      ∙ map_set_same (λ (x : EntryReading). x.key.text) said.entries k e changed is.here is.key

  -- the new reading has an own entry at `k`, and its raw entry is alike to the changed one
  pub replaced_at : (others : List Entry) → AreOwn tells others
      → (g : EntryReading) × (entry : Entry) × (slice_get others k ≡ Some entry) × IsEntry new_definitions g entry
      × AreAlikeEntries new_definitions old_definitions g changed
  replaced_at others second =
      let found =
      zip_back_at (AreAlikeEntries new_definitions old_definitions) tells.entries (slice_set said.entries k changed) k changed
      entries_alike_back (get_set said.entries k e changed is.here) in
      let entry = own_at k found.0 second found.1 in
      (found.0, entry.0, entry.1, entry.2, found.2)

  -- the replaced entry has the contents of a field whose last raw field is one literal
  pub content_at : (others : List Entry) (second : AreOwn tells others) (name text : List ℕ) (f : FieldReading)
      → field_in changed.fields name ≡ Some f → IsText f.value.pieces text
      → HasContent (texts_of_entry (replaced_at others second).1) name text
  content_at others second name text f here says =
      let at = replaced_at others second in
      let texts = texts_of_entry at.1 in
      content_found old_definitions new_definitions texts name text f
      (subst (λ o. FoundAlike (AreAlikeFields new_definitions old_definitions) o (field_in changed.fields name))
      (at.4.reordered.found name)
      (field_alike at.4.ordered changed.fields name at.4.fields)) here
      (sym ((bytes_eq-Decides name (name_of f)).0 (found_passes (λ g. bytes_eq name (name_of g)) (reverse changed.fields) f here))) says
      ((texts_of_entry_are at.1 at.3).fields name)

  -- the replaced entry lacks a field that no raw field of the changed entry has
  pub field_absent : (others : List Entry) (second : AreOwn tells others) (name : List ℕ) → field_in changed.fields name ≡ None
      → (texts_of_entry (replaced_at others second).1).fields name ≡ None
  field_absent others second name none =
      let at = replaced_at others second in
      nothing_found old_definitions new_definitions
      (subst (λ o. FoundAlike (AreAlikeFields new_definitions old_definitions) o (field_in changed.fields name))
      (at.4.reordered.found name)
      (field_alike at.4.ordered changed.fields name at.4.fields)) none ((texts_of_entry_are at.1 at.3).fields name)

  -- the own entries `others` differ from `own` as `DifferInField` states, if no field of the changed entry except `name` differs
  pub differ_at : (own others : List Entry) (name : List ℕ) (text : Option (List Atom)) → AreOwn said own → AreOwn tells others
      → ((other : List ℕ) → bytes_eq other name ≡ false → field_in changed.fields other ≡ field_in e.fields other)
      → HasText old_definitions (field_in changed.fields name) text → DifferInField own others k name text
  differ_at own others name text first second unchanged has =
      let at = own_at k e first is.here in
      let texts = with_field_text name text (texts_of_entry at.0) in
      record {
        entry = at.0;
        here = at.1;
        keys = keys_are second ∙ reading_keys ∙ sym (keys_are first);
        texts =
            sym
            (all_texts_same old_definitions new_definitions (slice_set said.entries k changed) tells.entries
            (slice_set (texts_of_entries own) k texts) (texts_of_entries others) entries_alike
            (AllZip-set (AreTextsOf old_definitions) said.entries (texts_of_entries own) k changed texts (each_texts (texts_are first))
            (with_field_texts old_definitions e changed (texts_of_entry at.0) name text
            (texts_of_entry_are at.0 at.2) is.kind unchanged has))
            (each_texts (texts_are second)));
      }

  -- the replaced own entry has the key of the raw entry
  pub replaced_key : (others : List Entry) (second : AreOwn tells others) → (replaced_at others second).1.key ≡ e.key.text
  replaced_key others second = let at = replaced_at others second in at.3.key ∙ at.4.key ∙ is.key
