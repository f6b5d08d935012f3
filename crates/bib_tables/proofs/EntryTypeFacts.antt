-- The entry type that a name in a file means, in its own case or in lowercase.
use Rattle.std.proofs.Common.{◌≡◌, ℕ, Bool, true, false, inl, inr, subst, List, [], ◌∷◌, Option, None, Some, refl, sym, ap, ◌∙◌, map, cond}
use Rattle.std.specs.Prelude.{bytes_eq, unwrap_or}
use Rattle.std.specs.Char.{to_ascii_lowercase}
use Rattle.std.specs.List.{list_all}
use Rattle.std.proofs.lemmas.Slice.Eq.{bytes_eq-Decides}
use Rattle.std.proofs.lemmas.Bool.{and_parts, cases_Bool}
use Rattle.bib_text.specs.Enums.{value_named}
use Rattle.bib_text.proofs.EnumFacts.{named-append-some}
use Rattle.bib_tables.specs.declared.mechanics.EntryType.{EntryType}
use Rattle.bib_tables.specs.declared.mechanics.EntryType.TheVariants.{Article, Book, Booklet, InBook, InCollection, InProceedings, Manual, MastersThesis, PhdThesis, Misc, Proceedings, TechReport, Unpublished, MvBook, BookInBook, SuppBook, Periodical, SuppPeriodical, Collection, MvCollection, SuppCollection, Reference, MvReference, InReference, MvProceedings, Report, Patent, Thesis, Online, Software, Dataset, Set, XData, Unknown}
use Rattle.bib_tables.specs.EntryType.{entry_type_named, entry_type_by_name_or_alias, entry_type_of, type_names, alias_names, entry_type_name, biblatex_type}

-- whether all names of a table are in ASCII lowercase
abbrev pub is_lowered : {A : Type 0} → List (List ℕ × A) → Bool
is_lowered = list_all (λ row. bytes_eq (map to_ascii_lowercase row.0) row.0)

-- a text that is a name in such a table is in ASCII lowercase
pub named_is_lowered : {A : Type 0} (rows : List (List ℕ × A)) (text : List ℕ) (value : A) → is_lowered rows ≡ true
    → value_named rows text ≡ Some value → map to_ascii_lowercase text ≡ text
named_is_lowered [] text value lowered found = cc
named_is_lowered (row ∷ rows) text value lowered found =
    let parts = and_parts (bytes_eq (map to_ascii_lowercase row.0) row.0) (is_lowered rows) lowered in
    elim (cases_Bool (bytes_eq row.0 text)) [
      | inl here ↦ let same : row.0 ≡ text =
          (bytes_eq-Decides row.0 text).0 here in subst (λ t. map to_ascii_lowercase t ≡ t) same
          ((bytes_eq-Decides (map to_ascii_lowercase row.0) row.0).0 parts.0)
      | inr elsewhere ↦ named_is_lowered rows text value parts.1 (later (bytes_eq row.0 text) (value_named rows text) row.1 elsewhere found)
    ]
  where
    later : {A : Type 0} (is_here : Bool) (rest : Option A) (this : A) {value : A} → is_here ≡ false
        → cond is_here (Some this) rest ≡ Some value → rest ≡ Some value
    later true rest this here found = cc
    later false rest this here found = found

-- a name whose form in ASCII lowercase is a name or an alias of a type means this type
pub type_as_lowered : (name lowered : List ℕ) (type : EntryType) → lowered ≡ map to_ascii_lowercase name
    → entry_type_by_name_or_alias lowered ≡ Some type → entry_type_of name ≡ type
unfolding entry_type_of
type_as_lowered name lowered type is found =
    ap (λ found'. unwrap_or found' (Unknown (map to_ascii_lowercase name))) (ap entry_type_by_name_or_alias (sym is) ∙ found)

-- any other name means the unknown type with the name in ASCII lowercase
pub type_unknown : (name lowered : List ℕ) → lowered ≡ map to_ascii_lowercase name → entry_type_by_name_or_alias lowered ≡ None
    → entry_type_of name ≡ Unknown lowered
unfolding entry_type_of
type_unknown name lowered is none =
    ap (λ found'. unwrap_or found' (Unknown (map to_ascii_lowercase name)))
    (ap entry_type_by_name_or_alias (sym is) ∙ none) ∙ ap Unknown (sym is)

-- a name that is exactly the name of a type means this type
pub type_as_written : (name : List ℕ) (type : EntryType) → entry_type_named name ≡ Some type → entry_type_of name ≡ type
unfolding entry_type_named entry_type_by_name_or_alias
type_as_written name type found =
    type_as_lowered name name type (sym (named_is_lowered type_names name type refl found))
    (named-append-some type_names alias_names name type found)

-- the name of a type of BibLaTeX means this type
pub type_reread : (type : EntryType) → entry_type_of (entry_type_name (biblatex_type type)) ≡ biblatex_type type
unfolding entry_type_by_name_or_alias entry_type_of
type_reread Article = refl
type_reread Book = refl
type_reread Booklet = refl
type_reread InBook = refl
type_reread InCollection = refl
type_reread InProceedings = refl
type_reread Manual = refl
type_reread MastersThesis = refl
type_reread PhdThesis = refl
type_reread Misc = refl
type_reread Proceedings = refl
type_reread TechReport = refl
type_reread Unpublished = refl
type_reread MvBook = refl
type_reread BookInBook = refl
type_reread SuppBook = refl
type_reread Periodical = refl
type_reread SuppPeriodical = refl
type_reread Collection = refl
type_reread MvCollection = refl
type_reread SuppCollection = refl
type_reread Reference = refl
type_reread MvReference = refl
type_reread InReference = refl
type_reread MvProceedings = refl
type_reread Report = refl
type_reread Patent = refl
type_reread Thesis = refl
type_reread Online = refl
type_reread Software = refl
type_reread Dataset = refl
type_reread Set = refl
type_reread XData = refl
type_reread (Unknown name) = refl
