-- Meaning: words of public contracts.
-- The versions of an entry that are merged: the common base, which may be absent, and the two sides, ours and theirs.
use Rattle.std.specs.Prelude.{ℕ, Bool, true, false, not, ◌&&◌, cond, List, [], ◌∷◌, Option, Some, None, option_and_then, option_map}
use Rattle.std.specs.List.{find, list_any}
use Rattle.bib_syntax.specs.Reading.{EntryReading, FieldReading}
use Rattle.edit_entries.specs.Documents.{Document, has_name}

-- a version of an entry: the text that it is in, and its reading
pub record Version : Type 0 where
  pub text : List ℕ
  pub entry : EntryReading

-- whether no two of these fields have the same name, in any ASCII case
abbrev pub have_distinct_names : List FieldReading → Bool
have_distinct_names [] = true
have_distinct_names (f ∷ fs) = not (list_any (λ g. has_name g.name.text f) fs) && have_distinct_names fs

-- whether these are fields that can be found by their names: there is one, and no two have the same name
abbrev pub are_found_by_name : List FieldReading → Bool
are_found_by_name [] = false
are_found_by_name (f ∷ fs) = have_distinct_names (f ∷ fs)

-- the version with these entries: there must be one entry, whose fields can be found by their names
abbrev pub version_by : List ℕ → List EntryReading → Option Version
version_by text [] = None
version_by text (e ∷ []) = cond (are_found_by_name e.fields) (Some (record { text = text; entry = e })) None
version_by text (e ∷ other ∷ es) = None

-- the version that a document is, if it has one entry, whose fields can be found by their names
abbrev pub version_of : Document → Option Version
version_of d = version_by d.text d.says.entries

-- the versions that are merged
pub record EntryVersions : Type 0 where
  pub base : Option Version
  pub ours : Version
  pub theirs : Version

-- the base, or its absence, if the document is a version or absent
abbrev pub base_of : Option Document → Option (Option Version)
base_of None = Some None
base_of (Some d) = option_map Some (version_of d)

-- the versions that documents are, if each is one; the base may be absent
abbrev pub entry_versions : Option Document → Document → Document → Option EntryVersions
entry_versions base ours theirs =
    option_and_then (λ b.
    option_and_then (λ o. option_map (λ t. record { base = b; ours = o; theirs = t }) (version_of theirs)) (version_of ours)) (base_of base)

-- the field of a version with a name, in any ASCII case
abbrev pub named : List ℕ → Version → Option FieldReading
named name v = find (has_name name) v.entry.fields

-- the field of the base with a name, in any ASCII case; an absent base has no field
abbrev pub base_named : List ℕ → Option Version → Option FieldReading
base_named name None = None
base_named name (Some v) = named name v
