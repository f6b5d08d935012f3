-- The names of fields: each can be the name of a new field.
use Rattle.std.proofs.Common.{◌≡◌, ℕ, Bool, true, false, cond, List, [], ◌∷◌, refl, subst, codes, Option, Some, None}
use Rattle.std.specs.Prelude.{bytes_eq}
use Rattle.std.specs.List.{AllByRecursion}
use Rattle.bib_text.specs.Enums.{value_named}
use Rattle.bib_tables.specs.declared.mechanics.EntryType.{EntryType}
use Rattle.edit_entries.specs.Documents.{CanBeName, Document, IsDocument}
use Rattle.edit_entries.proofs.AllFacts.{OfFields, all_found}
use Rattle.edit_entries.proofs.SplitFacts.{split_fields, split_file}
use Rattle.edit_strings.proofs.CutFacts.{field_can}
use Rattle.edit_strings.proofs.NameFacts.{plain_can}
use Rattle.edit_resolve.specs.Inheritance.{author_name, has_book_author, name_by_crossref, title_name, title_names, titles_in}
use Rattle.edit_resolve.specs.declared.inheritance.Titles.{Titles}
use Rattle.edit_resolve.specs.declared.inheritance.Titles.TheVariants.{Main, Volume, Journal}

-- ---- names in a file

-- the name of each field of a file can be a name
pub names_can : (d : Document) → IsDocument d → OfFields (λ f. CanBeName f.name.text) d.says.entries
names_can d read =
    all_found (λ e. AllByRecursion (λ f. CanBeName f.name.text) e.fields) d.says.entries
    (λ k e here. all_found (λ f. CanBeName f.name.text) e.fields (λ j f there'.
    let s = split_file k e read here in
    let g = split_fields j f s.block.fields there' in
    field_can g.field))

-- ---- new names

row_can : (rows : List (List ℕ × List ℕ)) (name new : List ℕ) → AllByRecursion (λ row. CanBeName row.1) rows
    → value_named rows name ≡ Some new → CanBeName new
row_can [] name new all is = absurd (cc)
row_can (row ∷ rows) name new all is =
    by_case (bytes_eq row.0 name) row.1 (value_named rows name) all.0 (row_can rows name new all.1) is
  where
    by_case : (b : Bool) (first : List ℕ) (rest : Option (List ℕ)) → CanBeName first
        → (rest ≡ Some new → CanBeName new) → cond b (Some first) rest ≡ Some new → CanBeName new
    by_case true first rest here later same = let is : first ≡ new = cc in subst CanBeName is here
    by_case false first rest here later same = later same

rows_can : (titles : Titles) → AllByRecursion (λ row. CanBeName row.1) (title_names titles)
rows_can Main =
    ((plain_can (codes "maintitle") refl).0, ((plain_can (codes "mainsubtitle") refl).0, ((plain_can (codes "maintitleaddon") refl).0, tt)))
rows_can Volume =
    ((plain_can (codes "booktitle") refl).0, ((plain_can (codes "booksubtitle") refl).0, ((plain_can (codes "booktitleaddon") refl).0, tt)))
rows_can Journal = (
  (plain_can (codes "journaltitle") refl).0,
  ((plain_can (codes "journalsubtitle") refl).0, ((plain_can (codes "journaltitleaddon") refl).0, tt)),
)

title_can : (titles : Option Titles) (name new : List ℕ) → title_name titles name ≡ Some new → CanBeName new
title_can None name new is = absurd (cc)
title_can (Some titles) name new is = row_can (title_names titles) name new (rows_can titles) is

-- a new name can be a name
pub new_name_can : (type child : EntryType) (name new : List ℕ) → name_by_crossref type child name ≡ Some new → CanBeName new
new_name_can type child name new is =
    by_case (bytes_eq name (codes "author")) is
  where
    author : (b : Bool) → cond b (Some (codes "bookauthor")) None ≡ Some new → CanBeName new
    author true same = let is : codes "bookauthor" ≡ new = cc in subst CanBeName is (plain_can (codes "bookauthor") refl).0
    author false same = absurd (cc)

    by_case : (b : Bool) → cond b (author_name type child) (title_name (titles_in type child) name) ≡ Some new → CanBeName new
    by_case true same = author (has_book_author type child) same
    by_case false same = title_can (titles_in type child) name new same
