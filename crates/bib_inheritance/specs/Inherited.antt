-- Meaning: words of public contracts.
-- The fields that an entry inherits from the entries that it refers to: the inheritance of the BibLaTeX manual, by the rules
-- of the Rust crate `biblatex`, with the exceptions that docs/DIFFERENCES.md lists.
use Rattle.std.specs.Prelude.{ℕ, Bool, not, ◌&&◌, ◌||◌, List, [], ◌∷◌, codes, bytes_eq, unwrap_or, Option, Some, None, if◌then◌else◌, true, false}
use Rattle.bib_text.specs.Enums.{value_named}
use Rattle.bib_chunks.specs.Styled.{Atom}
use Rattle.bib_tables.specs.EntryType.{is_collection, is_multi_volume}
use Rattle.bib_tables.specs.Requirements.{Names, fields, inherits, is_container, is_one_of}
use Rattle.bib_tables.specs.declared.mechanics.EntryType.{EntryType}
use Rattle.bib_tables.specs.declared.mechanics.EntryType.TheVariants.{Periodical}
use Rattle.bib_inheritance.specs.InheritableDate.{date_for}
use Rattle.bib_inheritance.specs.EntryTexts.{EntryTexts, FieldTexts, first_some, has}

-- Offers

-- whether a type is `Periodical`
abbrev pub is_periodical : EntryType → Bool
is_periodical Periodical = true
is_periodical _ = false

-- the names for which a periodical offers only its own titles
abbrev pub journal_titles : List (List ℕ × Names)
journal_titles = (codes "journaltitle", fields "title") ∷ (codes "journalsubtitle", fields "subtitle") ∷ []

-- the names for which an entry of a collection type (`is_collection`), such as a book, offers only its own titles
abbrev pub book_titles : List (List ℕ × Names)
book_titles =
    (codes "booktitle", fields "title") ∷ (codes "booksubtitle", fields "subtitle")
    ∷ (codes "booktitleaddon", fields "titleaddon") ∷ []

-- the names for which an entry of a multi-volume type (`is_multi_volume`) offers only its own titles
abbrev pub main_titles : List (List ℕ × Names)
main_titles =
    (codes "maintitle", fields "title") ∷ (codes "mainsubtitle", fields "subtitle")
    ∷ (codes "maintitleaddon", fields "titleaddon") ∷ []

-- for some names, the fields with the same meaning, in order of preference. An entry offers the first of them that it has,
-- unless its type has a title for the name (`title_for`)
abbrev pub same_meaning : List (List ℕ × Names)
same_meaning =
    (codes "address", fields "address location") ∷ (codes "institution", fields "institution school")
    ∷ (codes "school", fields "school institution") ∷ (codes "journaltitle", fields "journaltitle journal") ∷ []

-- the title that an entry of a type offers for a name, if the tables of titles for its type contain the name
abbrev pub title_for : EntryType → List ℕ → Option Names
title_for entry_type name =
    first_some (if is_periodical entry_type then value_named journal_titles name else None)
    (first_some (if is_collection entry_type then value_named book_titles name else None)
    (if is_multi_volume entry_type then value_named main_titles name else None))

-- the names of the fields that an entry of a type offers for a name, in order of preference
abbrev pub offer_names : EntryType → List ℕ → Names
offer_names entry_type name = unwrap_or (first_some (title_for entry_type name) (value_named same_meaning name)) (name ∷ [])

-- the first of these fields that exists
abbrev pub first_offer : FieldTexts → Names → Option (List Atom)
first_offer fields [] = None
first_offer fields (name ∷ names) = first_some (fields name) (first_offer fields names)

-- the field that an entry offers for a name
abbrev pub offer : EntryTexts → List ℕ → Option (List Atom)
offer reference name = first_offer reference.fields (offer_names reference.entry_type name)

-- whether an entry of a type inherits a field of this name from another entry. A container inherits it only if the other
-- entry has a field of exactly this name
abbrev pub wants : EntryType → EntryTexts → List ℕ → Bool
wants entry_type reference name = inherits entry_type name && (not (is_container entry_type) || has reference name)

-- the field of this name that an entry of a type inherits from another entry, if it inherits it
abbrev pub offered_field : EntryType → EntryTexts → List ℕ → Option (List Atom)
offered_field entry_type reference name = if wants entry_type reference name then offer reference name else None

-- the field of this name that an entry of a type inherits: that of the first reference that offers one
abbrev pub inherited_field : EntryType → List ℕ → List EntryTexts → Option (List Atom)
inherited_field entry_type name [] = None
inherited_field entry_type name (r ∷ rest) = first_some (offered_field entry_type r name) (inherited_field entry_type name rest)

-- The rule

-- the fields that an inherited date replaces, in addition to `date`
abbrev pub date_parts : Names
date_parts = fields "year month day"

-- a field of an entry after inheriting, without regard to dates: its own, or else the offered one; `xdata` is removed
abbrev pub plain_field : {A : Type 0} → (List ℕ → Option A) → (List ℕ → Option A) → List ℕ → Option A
plain_field own offered_field name = if bytes_eq name (codes "xdata") then None else first_some (own name) (offered_field name)

-- a field of an entry after inheriting; an inherited date replaces `date` and removes `year`, `month` and `day`
abbrev pub field_by : {A : Type 0} → Option A → (List ℕ → Option A) → (List ℕ → Option A) → List ℕ → Option A
field_by None own offered_field name = plain_field own offered_field name
field_by (Some date) own offered_field name =
    if bytes_eq name (codes "date") then Some date
    else if is_one_of date_parts name then None
    else plain_field own offered_field name

-- an entry after inheriting from its references, which have inherited before
abbrev pub with_inherited_fields : EntryTexts → List EntryTexts → EntryTexts
with_inherited_fields own references = record {
  entry_type = own.entry_type;
  fields = λ name. field_by (date_for own references) own.fields (λ name. inherited_field own.entry_type name references) name;
}
