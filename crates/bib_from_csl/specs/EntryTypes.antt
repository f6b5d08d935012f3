-- Meaning: words of public contracts.
-- The types of items, by their names, and the types of their entries.
use Rattle.std.specs.Prelude.{ℕ, Bool, true, false, List, [], codes, bytes_eq, unwrap_or}
use Rattle.std.specs.List.{list_any}
use Rattle.bib_text.specs.Enums.{words}
use Rattle.bib_csl.specs.declared.item_types.ItemType.{ItemType}
use Rattle.bib_csl.specs.declared.item_types.ItemType.TheVariants as item_type
use Rattle.bib_csl.specs.Tables.{item_type_by_name, written_entry_type}

-- whether a name is one of the words of a list that spaces separate
abbrev pub is_among_words : List ℕ → List ℕ → Bool
is_among_words list name = list_any (bytes_eq name) (words list)

-- the type of an item whose type has this name; `Document` for an unknown name
abbrev pub item_type_for : List ℕ → ItemType
item_type_for name = unwrap_or (item_type_by_name name) item_type.Document

-- the name of the type of the entry of an item whose type has this name
abbrev pub written_type_name : List ℕ → List ℕ
written_type_name name = written_entry_type (item_type_for name)

-- the value of the field `entrysubtype` for an item of this type, or nothing
abbrev pub subtype_of_type : ItemType → List ℕ
subtype_of_type item_type.ArticleMagazine = codes "magazine"
subtype_of_type item_type.ArticleNewspaper = codes "newspaper"
subtype_of_type other = []

-- the value of the field `entrysubtype` for an item whose type has this name, or nothing
abbrev pub subtype_of : List ℕ → List ℕ
subtype_of name = subtype_of_type (item_type_for name)

-- whether the work is published by an institution instead of a publisher
abbrev pub is_of_institution : ItemType → Bool
is_of_institution item_type.Report = true
is_of_institution item_type.Standard = true
is_of_institution item_type.Thesis = true
is_of_institution other = false
