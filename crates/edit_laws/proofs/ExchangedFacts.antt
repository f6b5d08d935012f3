-- Files in which values of fields are replaced by values that mean the same.
use Rattle.std.proofs.Common.{◌≡◌, List, [], ◌∷◌, ◌++◌, map, refl, sym, ap, ◌∙◌, subst, Some, None, Option}
use Rattle.std.specs.List.{AllByRecursion, AllZip}
use Rattle.std.specs.Str.{str_to_ascii_lowercase}
use Rattle.bib_abbreviations.specs.Abbreviations.{Definitions}
use Rattle.bib_file_entries.specs.Loaded.{definition_in}
use Rattle.bib_syntax.specs.Reading.{EntryReading, FieldReading, FileReading, Piece}
use Rattle.bib_tables.specs.EntryType.{entry_type_of}
use Rattle.edit_entries.specs.Changes.{NewValue, entry_changed, field_changed, fields_changed, file_changed}
use Rattle.edit_entries.specs.Edits.{moved_entry, moved_field, placeless}
use Rattle.edit_laws.proofs.AlikeFacts.{AreAlikeFields, DefineAlike, MeanTheSame, alike_mean, definitions_alike, mean_both}
use Rattle.edit_laws.proofs.ReadAlikeFacts.{AreAlikeEntries, AreAlikeFiles, abbreviations_alike, cons_head, cons_tail, pieces_alike}
use Rattle.edit_strings.specs.Exchanged.{Exchange, exchange_change, exchanges}

-- the pieces of a field after its replacement, if it has one
abbrev pub exchanged_pieces : Option NewValue → List Piece → List Piece
exchanged_pieces None pieces = pieces
exchanged_pieces (Some new) pieces = new.pieces

-- a field without spans
abbrev bare_field : FieldReading → FieldReading
bare_field f = moved_field (λ at. 0) f

-- an entry without spans
abbrev bare_entry : EntryReading → EntryReading
bare_entry e = moved_entry (λ at. 0) e

-- the pieces of each field of an entry mean the same after their replacement
abbrev pub EachMeansTheSame : Definitions → Definitions → (EntryReading → Exchange) → List EntryReading → Type 0
EachMeansTheSame one other exchange entries =
    AllByRecursion
    (λ e.
    AllByRecursion (λ f. MeanTheSame one other f.value.pieces (exchanged_pieces (exchange e f) f.value.pieces)) e.fields)
    entries

module _ (one : Definitions) {middle other : Definitions} (both : DefineAlike middle other) where
  -- a field is alike to each field that equals its replacement except for spans, if the replacement means the same
  field_step : (f h g : FieldReading) → MeanTheSame one middle f.value.pieces h.value.pieces → f.name.text ≡ h.name.text
      → bare_field h ≡ bare_field g → AreAlikeFields one other f g
  field_step f h g means name is = record {
    name = ap str_to_ascii_lowercase (name ∙ ap (λ (x : FieldReading). x.name.text) is);
    means =
        mean_both means
        (alike_mean both (pieces_alike h.value.pieces g.value.pieces (ap (λ (x : FieldReading). x.value.pieces) is)));
  }

  first_alike : (f : FieldReading) (o : Option NewValue) (rest gs : List FieldReading)
      → MeanTheSame one middle f.value.pieces (exchanged_pieces o f.value.pieces)
      → map bare_field (field_changed f (exchange_change o) ++ rest) ≡ map bare_field gs
      → (g : FieldReading) × (gs' : List FieldReading) × (gs ≡ g ∷ gs') × AreAlikeFields one other f g
      × (map bare_field rest ≡ map bare_field gs')
  first_alike f None rest [] means is = cc
  first_alike f (Some new) rest [] means is = cc
  first_alike f None rest (g ∷ gs) means is = (g, gs, refl, field_step f f g means refl (cons_head _ _ is), cons_tail is)
  first_alike f (Some new) rest (g ∷ gs) means is =
      let h : FieldReading = record f { value = record f.value { pieces = new.pieces } } in
      (g, gs, refl, field_step f h g means refl (cons_head _ _ is), cons_tail is)

  fields_alike : (exchange : Exchange) (fs gs : List FieldReading)
      → AllByRecursion (λ f. MeanTheSame one middle f.value.pieces (exchanged_pieces (exchange f) f.value.pieces)) fs
      → map bare_field (fields_changed fs (map (λ f. exchange_change (exchange f)) fs)) ≡ map bare_field gs
      → AllZip (AreAlikeFields one other) fs gs
  fields_alike exchange [] [] all is = tt
  fields_alike exchange [] (g ∷ gs) all is = cc
  fields_alike exchange (f ∷ fs) gs all is =
      let first = first_alike f (exchange f) (fields_changed fs (map (λ f. exchange_change (exchange f)) fs)) gs all.0 is in
      subst (λ l. AllZip (AreAlikeFields one other) (f ∷ fs) l) (sym first.2) (first.3, fields_alike exchange fs first.1 all.1 first.4)

  entry_alike : (exchange : Exchange) (e g : EntryReading)
      → AllByRecursion (λ f. MeanTheSame one middle f.value.pieces (exchanged_pieces (exchange f) f.value.pieces)) e.fields
      → bare_entry (entry_changed e (exchanges exchange e)) ≡ bare_entry g → AreAlikeEntries one other e g
  entry_alike exchange e g all is = record {
    key = ap (λ (x : EntryReading). x.key.text) is;
    kind = ap (λ (x : EntryReading). entry_type_of x.kind.text) is;
    ordered = e.fields;
    reordered = record { found = λ name. refl; readable = λ definitions read. read };
    fields = fields_alike exchange e.fields g.fields all (ap (λ (x : EntryReading). x.fields) is);
  }

  entries_alike : (exchange : EntryReading → Exchange) (es gs : List EntryReading) → EachMeansTheSame one middle exchange es
      → map bare_entry (map (λ e. entry_changed e (exchanges (exchange e) e)) es) ≡ map bare_entry gs
      → AllZip (AreAlikeEntries one other) es gs
  entries_alike exchange [] [] all is = tt
  entries_alike exchange [] (g ∷ gs) all is = cc
  entries_alike exchange (e ∷ es) [] all is = cc
  entries_alike exchange (e ∷ es) (g ∷ gs) all is =
      (entry_alike (exchange e) e g all.0 (cons_head _ _ is), entries_alike exchange es gs all.1 (cons_tail is))

-- If each replacement means the same, a file is alike to each reading that has, except for spans, its entries with replaced values, and
-- these definitions.
pub files_exchanged : (exchange : EntryReading → Exchange) (says tells : FileReading) (definitions : List FieldReading)
    → EachMeansTheSame (definition_in says.abbreviations) (definition_in definitions) exchange says.entries
    → placeless tells ≡ placeless (record (file_changed (λ e. exchanges (exchange e) e) says) { abbreviations = definitions })
    → AreAlikeFiles says tells
files_exchanged exchange says tells definitions all is = record {
  entries =
      entries_alike (definition_in says.abbreviations)
      (definitions_alike definitions tells.abbreviations
      (abbreviations_alike definitions tells.abbreviations (sym (ap (λ (h : FileReading). h.abbreviations) is))))
      exchange says.entries tells.entries all (sym (ap (λ (h : FileReading). h.entries) is));
}
