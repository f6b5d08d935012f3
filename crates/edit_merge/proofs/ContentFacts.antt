-- The names that units use and define are those of their content. So a merge that is the text of a side loses no name.
use Rattle.std.proofs.Common.{◌≡◌, ℕ, Bool, true, false, cond, List, [], ◌∷◌, ◌++◌, Option, Some, None, map, refl, sym, ap, ap₂, ◌∙◌, subst}
use Rattle.std.specs.Prelude.{◌&&◌, ◌||◌, bytes_eq, codes, cond, not}
use Rattle.std.specs.List.{AllByRecursion, find, flat_map}
use Rattle.std.proofs.lemmas.Grind.{flat_map-append}
use Rattle.std.proofs.lemmas.List.{map-append}
use Rattle.std.proofs.lemmas.List.Folds.{list_any-append}
use Rattle.bib_queries.specs.Names.{aliases_in, aliases_of, entry_names, piece_parts, references_in, references_of, used_as, used_in_fields, used_in_value}
use Rattle.bib_queries.specs.Needed.{is_listed}
use Rattle.bib_syntax.specs.Grammar.{is_word}
use Rattle.bib_syntax.specs.Reading.{EntryReading, FieldReading, FileReading, Piece, empty_reading, then}
use Rattle.bib_syntax.specs.Reading.Piece.{abbreviation, literal}
use Rattle.bib_syntax.proofs.FileFacts.{file_same}
use Rattle.bib_tables.specs.ReferenceFields.{is_reference_field}
use Rattle.edit_entries.specs.Changes.{IsReadPlaceless}
use Rattle.edit_entries.specs.Edits.{moved_entry, moved_field, moved_piece, placeless}
use Rattle.edit_units.proofs.CutFacts.{units_are_parts}
use Rattle.edit_units.proofs.JoinFacts.{parts_are_read}
use Rattle.edit_units.specs.Parts.{parts_from, parts_together}
use Rattle.edit_units.specs.Units.{AreUnits, UnitReading}
use Rattle.edit_versions.specs.Versions.{VersionReading, end_of, version_unit}
use Rattle.edit_merge.specs.Clean.{IsClean, IsPicked, contents_together, picked_content, unit_content}
use Rattle.edit_entry_merge.specs.ConflictTexts.{MarkerLines}
use Rattle.edit_merge.specs.Lost.{is_lost, kept_choice, kept_slot, kept_slots, lost_at, picked_units, unit_list, units_at}
use Rattle.edit_merge.specs.Merged.{merged_text}
use Rattle.edit_merge.specs.Picked.{Versions, slots}
use Rattle.edit_merge.specs.UnitNames.{abbreviation_name, dangles, defined_names, key_name, names_of_entry, referenced_names, abbreviations_of, names_used}
use Rattle.edit_merge.specs.declared.picking.Choice.{Choice}
use Rattle.edit_merge.specs.declared.picking.Choice.TheVariants.{Ours, Theirs, Conflict}
use Rattle.edit_merge.specs.declared.slots.Slot.{Slot}
use Rattle.edit_merge.proofs.CleanFacts.{HaveSides, clean_sides_are_read}

-- ---- the names of contents, one after the other

-- the names that a content uses, and those that it defines
abbrev used_of : FileReading → List (List ℕ)
used_of says = map abbreviation_name (abbreviations_of says) ++ map key_name (referenced_names says)

abbrev defined_of : FileReading → List (List ℕ)
defined_of says = map (λ f. abbreviation_name f.name.text) says.abbreviations ++ flat_map names_of_entry says.entries

listed_append : (xs ys : List (List ℕ)) (name : List ℕ) → is_listed (xs ++ ys) name ≡ (is_listed xs name || is_listed ys name)
listed_append xs ys name = list_any-append (λ one. bytes_eq one name) xs ys

listed_map : {A : Type 0} (g : A → List ℕ) (xs ys : List A) (name : List ℕ)
    → is_listed (map g (xs ++ ys)) name ≡ (is_listed (map g xs) name || is_listed (map g ys) name)
listed_map g xs ys name = ap (λ l. is_listed l name) (map-append g xs ys) ∙ listed_append (map g xs) (map g ys) name

listed_flat : {A : Type 0} (f : A → List (List ℕ)) (xs ys : List A) (name : List ℕ)
    → is_listed (flat_map f (xs ++ ys)) name ≡ (is_listed (flat_map f xs) name || is_listed (flat_map f ys) name)
listed_flat f xs ys name = ap (λ l. is_listed l name) (flat_map-append f xs ys) ∙ listed_append (flat_map f xs) (flat_map f ys) name

listed_mapped : {A : Type 0} (g : List ℕ → List ℕ) (f : A → List (List ℕ)) (xs ys : List A) (name : List ℕ)
    → is_listed (map g (flat_map f (xs ++ ys))) name ≡ (is_listed (map g (flat_map f xs)) name || is_listed (map g (flat_map f ys)) name)
listed_mapped g f xs ys name =
    ap (λ l. is_listed (map g l) name) (flat_map-append f xs ys) ∙ listed_map g (flat_map f xs) (flat_map f ys) name

or_moved : (a b x : Bool) → (a || b || x) ≡ (b || a || x)
or_moved true true x = refl
or_moved true false x = refl
or_moved false true x = refl
or_moved false false x = refl

-- six tests in another order
or_six : (e e' f f' k k' : Bool) → (((e || e') || (f || f')) || (k || k')) ≡ (((e || f) || k) || ((e' || f') || k'))
or_six true e' f f' k k' = refl
or_six false true true f' k k' = refl
or_six false true false f' true k' = refl
or_six false true false f' false k' = refl
or_six false false true f' k k' = refl
or_six false false false true true k' = refl
or_six false false false true false k' = refl
or_six false false false false k k' = refl

-- four tests in another order
or_four : (f f' e e' : Bool) → ((f || f') || (e || e')) ≡ ((f || e) || (f' || e'))
or_four true f' e e' = refl
or_four false true true e' = refl
or_four false true false e' = refl
or_four false false e e' = refl

-- the names of abbreviations that entries and definitions use, and the names in reference fields
abbrev entries_use : FileReading → List (List ℕ)
entries_use says = map abbreviation_name (flat_map (λ e. used_in_fields e.fields) says.entries)

abbrev definitions_use : FileReading → List (List ℕ)
definitions_use says = map abbreviation_name (used_in_fields says.abbreviations)

abbrev keys_used : FileReading → List (List ℕ)
keys_used says = map key_name (referenced_names says)

used_whole : (says : FileReading) (name : List ℕ) → is_listed (used_of says) name
    ≡ ((is_listed (entries_use says) name || is_listed (definitions_use says) name) || is_listed (keys_used says) name)
used_whole says name =
    listed_append (map abbreviation_name (abbreviations_of says)) (keys_used says) name
    ∙ ap (λ b. b || is_listed (keys_used says) name)
    (listed_map abbreviation_name (flat_map (λ e. used_in_fields e.fields) says.entries) (used_in_fields says.abbreviations) name)

used_then : (a b : FileReading) (name : List ℕ)
    → is_listed (used_of (then a b)) name ≡ (is_listed (used_of a) name || is_listed (used_of b) name)
used_then a b name =
    used_whole (then a b) name
    ∙ ap₂ (λ x y. x || y)
    (ap₂ (λ x y. x || y) (listed_mapped abbreviation_name (λ (e : EntryReading). used_in_fields e.fields) a.entries b.entries name)
    (listed_mapped abbreviation_name (λ (f : FieldReading). used_in_value f.value.pieces) a.abbreviations b.abbreviations name))
    (listed_mapped key_name (λ (e : EntryReading). references_of e.fields) a.entries b.entries name)
    ∙ or_six (is_listed (entries_use a) name) (is_listed (entries_use b) name) (is_listed (definitions_use a) name)
    (is_listed (definitions_use b) name) (is_listed (keys_used a) name) (is_listed (keys_used b) name)
    ∙ ap₂ (λ x y. x || y) (sym (used_whole a name)) (sym (used_whole b name))

-- the names of definitions and of entries
abbrev definitions_define : FileReading → List (List ℕ)
definitions_define says = map (λ f. abbreviation_name f.name.text) says.abbreviations

abbrev entries_define : FileReading → List (List ℕ)
entries_define says = flat_map names_of_entry says.entries

defined_whole : (says : FileReading) (name : List ℕ) → is_listed (defined_of says) name
    ≡ (is_listed (definitions_define says) name || is_listed (entries_define says) name)
defined_whole says name = listed_append (definitions_define says) (entries_define says) name

defined_then : (a b : FileReading) (name : List ℕ)
    → is_listed (defined_of (then a b)) name ≡ (is_listed (defined_of a) name || is_listed (defined_of b) name)
defined_then a b name =
    defined_whole (then a b) name
    ∙ ap₂ (λ x y. x || y) (listed_map (λ (f : FieldReading). abbreviation_name f.name.text) a.abbreviations b.abbreviations name)
    (listed_flat names_of_entry a.entries b.entries name)
    ∙ or_four (is_listed (definitions_define a) name) (is_listed (definitions_define b) name) (is_listed (entries_define a) name)
    (is_listed (entries_define b) name)
    ∙ ap₂ (λ x y. x || y) (sym (defined_whole a name)) (sym (defined_whole b name))

-- the content of units
abbrev content_of : List UnitReading → FileReading
content_of units = contents_together (map (λ u. u.says) units)

used_of_content : (units : List UnitReading) (name : List ℕ)
    → is_listed (flat_map names_used units) name ≡ is_listed (used_of (content_of units)) name
used_of_content [] name = refl
used_of_content (u ∷ us) name =
    listed_append (names_used u) (flat_map names_used us) name
    ∙ ap (λ b. is_listed (names_used u) name || b) (used_of_content us name)
    ∙ sym (used_then u.says (content_of us) name)

defined_of_content : (units : List UnitReading) (name : List ℕ)
    → is_listed (flat_map defined_names units) name ≡ is_listed (defined_of (content_of units)) name
defined_of_content [] name = refl
defined_of_content (u ∷ us) name =
    listed_append (defined_names u) (flat_map defined_names us) name
    ∙ ap (λ b. is_listed (defined_names u) name || b) (defined_of_content us name)
    ∙ sym (defined_then u.says (content_of us) name)

-- ---- names don't depend on byte offsets

used_placeless : (ps : List Piece) → used_in_value (map (moved_piece (λ n. 0)) ps) ≡ used_in_value ps
used_placeless [] = refl
used_placeless (literal p ∷ ps) = used_placeless ps
used_placeless (abbreviation p ∷ ps) = ap (λ l. p.text ∷ l) (used_placeless ps)

parts_placeless : (ps : List Piece) → flat_map piece_parts (map (moved_piece (λ n. 0)) ps) ≡ flat_map piece_parts ps
parts_placeless [] = refl
parts_placeless (literal p ∷ ps) = ap (λ l. piece_parts (literal p) ++ l) (parts_placeless ps)
parts_placeless (abbreviation p ∷ ps) = parts_placeless ps

-- what fields give, one after the other, if each gives the same without byte offsets
fields_placeless : (f : FieldReading → List (List ℕ)) → ((g : FieldReading) → f (moved_field (λ n. 0) g) ≡ f g) → (fs : List FieldReading)
    → flat_map f (map (moved_field (λ n. 0)) fs) ≡ flat_map f fs
fields_placeless f each [] = refl
fields_placeless f each (g ∷ gs) = ap₂ (λ x y. x ++ y) (each g) (fields_placeless f each gs)

entries_placeless : (f : EntryReading → List (List ℕ)) → ((e : EntryReading) → f (moved_entry (λ n. 0) e) ≡ f e) → (es : List EntryReading)
    → flat_map f (map (moved_entry (λ n. 0)) es) ≡ flat_map f es
entries_placeless f each [] = refl
entries_placeless f each (e ∷ es) = ap₂ (λ x y. x ++ y) (each e) (entries_placeless f each es)

used_fields_placeless : (fs : List FieldReading) → used_in_fields (map (moved_field (λ n. 0)) fs) ≡ used_in_fields fs
used_fields_placeless fs = fields_placeless (λ f. used_in_value f.value.pieces) (λ g. used_placeless g.value.pieces) fs

references_placeless : (fs : List FieldReading) → references_of (map (moved_field (λ n. 0)) fs) ≡ references_of fs
references_placeless fs =
    fields_placeless references_in
    (λ g. ap (λ l. cond (is_reference_field g.name.text) l []) (parts_placeless g.value.pieces)) fs

aliases_placeless : (fs : List FieldReading) → aliases_of (map (moved_field (λ n. 0)) fs) ≡ aliases_of fs
aliases_placeless fs =
    fields_placeless aliases_in (λ g. ap (λ l. cond (is_word g.name.text (codes "ids")) l []) (parts_placeless g.value.pieces)) fs

names_placeless : (fs : List FieldReading)
    → map (λ f. abbreviation_name f.name.text) (map (moved_field (λ n. 0)) fs) ≡ map (λ f. abbreviation_name f.name.text) fs
names_placeless [] = refl
names_placeless (f ∷ fs) = ap (λ l. abbreviation_name f.name.text ∷ l) (names_placeless fs)

used_alike : (says : FileReading) → used_of (placeless says) ≡ used_of says
used_alike says =
    ap₂ (λ x y. map abbreviation_name x ++ map key_name y)
    (ap₂ (λ x y. x ++ y)
    (entries_placeless (λ e. used_in_fields e.fields) (λ e. used_fields_placeless e.fields) says.entries)
    (used_fields_placeless says.abbreviations))
    (entries_placeless (λ e. references_of e.fields) (λ e. references_placeless e.fields) says.entries)

defined_alike : (says : FileReading) → defined_of (placeless says) ≡ defined_of says
defined_alike says =
    ap₂ (λ x y. x ++ y) (names_placeless says.abbreviations)
    (entries_placeless names_of_entry (λ e. ap (λ l. map key_name (e.key.text ∷ l)) (aliases_placeless e.fields)) says.entries)

-- ---- a merge that is the text of a side

one_content : {a b : FileReading} {text : List ℕ} → IsReadPlaceless a text → IsReadPlaceless b text → placeless a ≡ placeless b
one_content first second = sym first.alike ∙ ap placeless (file_same first.read second.read) ∙ second.alike

parts_content : (text : List ℕ) (at : ℕ) (units : List UnitReading) → parts_together (parts_from text at units) ≡ content_of units
parts_content text at [] = refl
parts_content text at (u ∷ us) = ap (then u.says) (parts_content text u.end us)

-- the text of a version has the content of its units
version_content : (v : VersionReading) → AreUnits v.text v.units → IsReadPlaceless (content_of v.units) v.text
version_content v are =
    let parts = units_are_parts v.text v.units are in
    subst (λ says. IsReadPlaceless says v.text) (parts_content v.text 0 v.units)
    (subst (IsReadPlaceless (parts_together (parts_from v.text 0 v.units))) (sym parts.whole)
    (parts_are_read (parts_from v.text 0 v.units) (end_of v) parts.are))

unit_said : (found : Option UnitReading) → unit_content found ≡ map (λ u. u.says) (unit_list found)
unit_said None = refl
unit_said (Some u) = refl

place_said : (vs : Versions) (s : Slot) (choice : Choice) → IsPicked choice
    → picked_content vs s choice ≡ map (λ u. u.says) (picked_units vs s choice)
place_said vs s Ours picked = unit_said (version_unit vs.ours s.ours)
place_said vs s Theirs picked = unit_said (version_unit vs.theirs s.theirs)
place_said vs s Conflict picked = absurd picked

places_said : (vs : Versions) (ss : List Slot) → IsClean ss
    → flat_map (λ s. picked_content vs s s.choice) ss ≡ map (λ u. u.says) (units_at vs ss)
places_said vs [] clean = refl
places_said vs (s ∷ ss) clean =
    ap₂ (λ x y. x ++ y) (place_said vs s s.choice clean.0) (places_said vs ss clean.1)
    ∙ sym (map-append (λ (u : UnitReading). u.says) (picked_units vs s s.choice) (units_at vs ss))

-- the names of a merge without a conflict that is the text of a version are those of this version
record HasNamesOf (units more : List UnitReading) : Type 0 where
  used : (name : List ℕ) → is_listed (flat_map names_used units) name ≡ is_listed (flat_map names_used more) name
  defined : (name : List ℕ) → is_listed (flat_map defined_names units) name ≡ is_listed (flat_map defined_names more) name

same_names_by : (units more : List UnitReading) → placeless (content_of units) ≡ placeless (content_of more) → HasNamesOf units more
same_names_by units more same = record {
  used = λ name. used_of_content units name
      ∙ ap (λ l. is_listed l name)
      (sym (used_alike (content_of units)) ∙ ap used_of same ∙ used_alike (content_of more))
      ∙ sym (used_of_content more name);
  defined = λ name. defined_of_content units name
      ∙ ap (λ l. is_listed l name)
      (sym (defined_alike (content_of units)) ∙ ap defined_of same ∙ defined_alike (content_of more))
      ∙ sym (defined_of_content more name);
}

same_dangling : (units more : List UnitReading) (name : List ℕ) → HasNamesOf units more → dangles units name ≡ dangles more name
same_dangling units more name same = ap₂ (λ u d. u && not d) (same.used name) (same.defined name)

merged_dangling : (markers : MarkerLines) (vs : Versions) (v : VersionReading) (name : List ℕ) → HaveSides vs → AreUnits v.text v.units
    → IsClean (slots vs) → merged_text markers vs (slots vs) ≡ v.text → dangles (units_at vs (slots vs)) name ≡ dangles v.units name
merged_dangling markers vs v name have are clean is =
    same_dangling (units_at vs (slots vs)) v.units name
    (same_names_by (units_at vs (slots vs)) v.units
    (one_content
    (subst (IsReadPlaceless (content_of (units_at vs (slots vs)))) is
    (subst (λ l. IsReadPlaceless (contents_together l) (merged_text markers vs (slots vs))) (places_said vs (slots vs) clean)
    (clean_sides_are_read markers vs (slots vs) have clean)))
    (version_content v are)))

not_lost_ours : (x y : Bool) → (x && (not x && not y)) ≡ false
not_lost_ours true y = refl
not_lost_ours false y = refl

not_lost_theirs : (x y : Bool) → (x && (not y && not x)) ≡ false
not_lost_theirs true true = refl
not_lost_theirs true false = refl
not_lost_theirs false y = refl

none_found : (test : List ℕ → Bool) (names : List (List ℕ)) → ((name : List ℕ) → test name ≡ false) → find test names ≡ None
none_found test [] none = refl
none_found test (n ∷ ns) none = ap (λ b. cond b (Some n) (find test ns)) (none n) ∙ none_found test ns none

-- if no name is lost, the places are the same
pub nothing_kept : (vs originals : Versions) (ss : List Slot) → ((name : List ℕ) → is_lost vs originals name ≡ false)
    → map (kept_slot vs originals) ss ≡ ss
nothing_kept vs originals [] none = refl
nothing_kept vs originals (s ∷ ss) none =
    ap₂ (λ x y. x ∷ y)
    (ap (λ l. record s { choice = kept_choice s.choice l }) (none_found (is_lost vs originals) _ none))
    (nothing_kept vs originals ss none)

-- a merge without a conflict that is the text of ours loses no name
pub ours_loses_nothing : (markers : MarkerLines) (vs : Versions) → HaveSides vs → IsClean (slots vs)
    → merged_text markers vs (slots vs) ≡ vs.ours.text → kept_slots vs vs ≡ slots vs
ours_loses_nothing markers vs have clean is = nothing_kept vs vs (slots vs) (λ name.
    ap (λ d. d && (not (dangles vs.ours.units name) && not (dangles vs.theirs.units name)))
    (merged_dangling markers vs vs.ours name have have.ours clean is)
    ∙ not_lost_ours (dangles vs.ours.units name) (dangles vs.theirs.units name))

-- so does one that is the text of theirs
pub theirs_loses_nothing : (markers : MarkerLines) (vs : Versions) → HaveSides vs → IsClean (slots vs)
    → merged_text markers vs (slots vs) ≡ vs.theirs.text → kept_slots vs vs ≡ slots vs
theirs_loses_nothing markers vs have clean is = nothing_kept vs vs (slots vs) (λ name.
    ap (λ d. d && (not (dangles vs.ours.units name) && not (dangles vs.theirs.units name)))
    (merged_dangling markers vs vs.theirs name have have.theirs clean is)
    ∙ not_lost_theirs (dangles vs.theirs.units name) (dangles vs.ours.units name))
