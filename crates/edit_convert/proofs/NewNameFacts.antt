-- The names of types and fields in a dialect: each can be a name of a type, or of a field.
use Rattle.std.proofs.Common.{◌≡◌, ℕ, Bool, true, false, cond, List, [], ◌∷◌, refl, subst, Option, Some, None}
use Rattle.std.specs.Prelude.{bytes_eq, filter, not, ◌||◌}
use Rattle.std.specs.List.{AllByRecursion}
use Rattle.bib_syntax.specs.Reading.{EntryReading, FieldReading}
use Rattle.bib_syntax.specs.Grammar.{BlockKind, block_kind, is_word}
use Rattle.edit_entries.specs.Documents.{CanBeName}
use Rattle.bib_tables.specs.EntryType.{entry_type_name, entry_type_of}
use Rattle.bib_tables.specs.declared.mechanics.EntryType.{EntryType}
use Rattle.bib_tables.specs.declared.mechanics.EntryType.TheVariants.{Article, Book, Booklet, InBook, InCollection, InProceedings, Manual, MastersThesis, PhdThesis, Misc, Proceedings, TechReport, Unpublished, MvBook, BookInBook, SuppBook, Periodical, SuppPeriodical, Collection, MvCollection, SuppCollection, Reference, MvReference, InReference, MvProceedings, Report, Patent, Thesis, Online, Software, Dataset, Set, XData, Unknown}
use Rattle.bib_tables.specs.Dialects.{kind_in, biblatex_names, names_in}
use Rattle.bib_tables.specs.declared.dialects.Dialect.{Dialect}
use Rattle.bib_tables.specs.declared.dialects.Dialect.TheVariants.{Biblatex, Bibtex}
use Rattle.edit_strings.specs.Collecting.{is_plain_name}
use Rattle.edit_strings.proofs.NameFacts.{plain_can}
use Rattle.edit_convert.specs.Conversions.{replaced_names, is_field_there, is_unnamed_type, new_field_name, other_name, other_names, other_type, type_for}
use Rattle.edit_convert.specs.Types.{PrintedType}
use Rattle.edit_convert.proofs.TypeFacts.{IsPrinted}

-- ---- types

-- the name of a type is plain and not that of another kind of block
type_plain : (kind : EntryType) → (is_plain_name (entry_type_name kind) ≡ true) × (block_kind (entry_type_name kind) ≡ BlockKind.entry)
type_plain Article = (refl, refl)
type_plain Book = (refl, refl)
type_plain Booklet = (refl, refl)
type_plain InBook = (refl, refl)
type_plain InCollection = (refl, refl)
type_plain InProceedings = (refl, refl)
type_plain Manual = (refl, refl)
type_plain MastersThesis = (refl, refl)
type_plain PhdThesis = (refl, refl)
type_plain Misc = (refl, refl)
type_plain Proceedings = (refl, refl)
type_plain TechReport = (refl, refl)
type_plain Unpublished = (refl, refl)
type_plain MvBook = (refl, refl)
type_plain BookInBook = (refl, refl)
type_plain SuppBook = (refl, refl)
type_plain Periodical = (refl, refl)
type_plain SuppPeriodical = (refl, refl)
type_plain Collection = (refl, refl)
type_plain MvCollection = (refl, refl)
type_plain SuppCollection = (refl, refl)
type_plain Reference = (refl, refl)
type_plain MvReference = (refl, refl)
type_plain InReference = (refl, refl)
type_plain MvProceedings = (refl, refl)
type_plain Report = (refl, refl)
type_plain Patent = (refl, refl)
type_plain Thesis = (refl, refl)
type_plain Online = (refl, refl)
type_plain Software = (refl, refl)
type_plain Dataset = (refl, refl)
type_plain Set = (refl, refl)
type_plain XData = (refl, refl)
type_plain (Unknown name) = (refl, refl)

type_case : (b : Bool) (kind : EntryType) (name : List ℕ) → cond b None (Some (entry_type_name kind)) ≡ Some name
    → CanBeName name × (block_kind name ≡ BlockKind.entry)
type_case true kind name same = absurd (cc)
type_case false kind name same =
    let is : entry_type_name kind ≡ name = cc in
    let plain = type_plain kind in
    subst (λ n. CanBeName n × (block_kind n ≡ BlockKind.entry)) is ((plain_can (entry_type_name kind) plain.0).0, plain.1)

other_known : (dialect : Dialect) (kind : EntryType) (name : List ℕ) → other_type dialect kind ≡ Some name
    → CanBeName name × (block_kind name ≡ BlockKind.entry)
other_known dialect kind name is =
    type_case (is_unnamed_type kind || bytes_eq (entry_type_name (kind_in dialect kind)) (entry_type_name kind))
    (kind_in dialect kind) name is

pub type_known : (dialect : Dialect) (kind : EntryType) (printed : Option PrintedType) (missing : Option (List ℕ)) (stays : Bool)
    → ((type : PrintedType) → printed ≡ Some type → IsPrinted type) → (name : List ℕ)
    → type_for dialect kind printed missing stays ≡ Some name → CanBeName name × (block_kind name ≡ BlockKind.entry)
type_known dialect kind (Some type) missing stays known name is =
    let same : type.name ≡ name = cc in
    let printed = known type refl in
    subst (λ n. CanBeName n × (block_kind n ≡ BlockKind.entry)) same ((plain_can type.name printed.plain).0, printed.entry)
type_known dialect kind None None stays known name is = other_known dialect kind name is
type_known dialect kind None (Some value) true known name is = other_known dialect kind name is
type_known dialect kind None (Some value) false known name is = absurd (cc)

-- ---- names of fields

-- the other name in a row is plain
abbrev IsPlainRow : List ℕ × List ℕ → Type 0
IsPlainRow row = is_plain_name row.1 ≡ true

biblatex_plain : AllByRecursion IsPlainRow biblatex_names
biblatex_plain = (refl, (refl, (refl, tt)))

bibtex_plain : (kind : EntryType) → AllByRecursion IsPlainRow (names_in kind)
bibtex_plain Article = (refl, (refl, tt))
bibtex_plain Book = (refl, (refl, tt))
bibtex_plain Booklet = (refl, (refl, tt))
bibtex_plain InBook = (refl, (refl, tt))
bibtex_plain InCollection = (refl, (refl, tt))
bibtex_plain InProceedings = (refl, (refl, tt))
bibtex_plain Manual = (refl, (refl, tt))
bibtex_plain MastersThesis = (refl, (refl, (refl, tt)))
bibtex_plain PhdThesis = (refl, (refl, (refl, tt)))
bibtex_plain Misc = (refl, (refl, tt))
bibtex_plain Proceedings = (refl, (refl, tt))
bibtex_plain TechReport = (refl, (refl, tt))
bibtex_plain Unpublished = (refl, (refl, tt))
bibtex_plain MvBook = (refl, (refl, tt))
bibtex_plain BookInBook = (refl, (refl, tt))
bibtex_plain SuppBook = (refl, (refl, tt))
bibtex_plain Periodical = (refl, (refl, tt))
bibtex_plain SuppPeriodical = (refl, (refl, tt))
bibtex_plain Collection = (refl, (refl, tt))
bibtex_plain MvCollection = (refl, (refl, tt))
bibtex_plain SuppCollection = (refl, (refl, tt))
bibtex_plain Reference = (refl, (refl, tt))
bibtex_plain MvReference = (refl, (refl, tt))
bibtex_plain InReference = (refl, (refl, tt))
bibtex_plain MvProceedings = (refl, (refl, tt))
bibtex_plain Report = (refl, (refl, tt))
bibtex_plain Patent = (refl, (refl, tt))
bibtex_plain Thesis = (refl, (refl, (refl, tt)))
bibtex_plain Online = (refl, (refl, tt))
bibtex_plain Software = (refl, (refl, tt))
bibtex_plain Dataset = (refl, (refl, tt))
bibtex_plain Set = (refl, (refl, tt))
bibtex_plain XData = (refl, (refl, tt))
bibtex_plain (Unknown name) = (refl, (refl, tt))

names_plain : (dialect : Dialect) (kind : EntryType) → AllByRecursion IsPlainRow (other_names dialect kind)
names_plain Biblatex kind = biblatex_plain
names_plain Bibtex kind = bibtex_plain kind

-- if the second names of rows are plain, they are with one more such row, which is kept or not
kept_case : (b : Bool) (row : List ℕ × List ℕ) (rows : List (List ℕ × List ℕ)) → IsPlainRow row
    → AllByRecursion IsPlainRow rows → AllByRecursion IsPlainRow (cond b (row ∷ rows) rows)
kept_case true row rows here all = (here, all)
kept_case false row rows here all = all

kept_plain : (test : List ℕ × List ℕ → Bool) (rows : List (List ℕ × List ℕ)) → AllByRecursion IsPlainRow rows
    → AllByRecursion IsPlainRow (filter test rows)
kept_plain test [] all = tt
kept_plain test (row ∷ rows) all = kept_case (test row) row (filter test rows) all.0 (kept_plain test rows all.1)

found_case : (b : Bool) (other name : List ℕ) (rest : Option (List ℕ)) → is_plain_name other ≡ true
    → (rest ≡ Some name → is_plain_name name ≡ true) → cond b (Some other) rest ≡ Some name → is_plain_name name ≡ true
found_case true other name rest plain later same = let is : other ≡ name = cc in subst (λ n. is_plain_name n ≡ true) is plain
found_case false other name rest plain later same = later same

found_plain : (rows : List (List ℕ × List ℕ)) (text name : List ℕ) → AllByRecursion IsPlainRow rows
    → other_name rows text ≡ Some name → is_plain_name name ≡ true
found_plain [] text name all is = absurd (cc)
found_plain (row ∷ rows) text name all is =
    found_case (is_word text row.0) row.1 name (other_name rows text) all.0 (found_plain rows text name all.1) is

pub name_known : (dialect : Dialect) (e : EntryReading) (f : FieldReading) (name : List ℕ)
    → new_field_name dialect e f ≡ Some name → CanBeName name
name_known dialect e f name is =
    let kind = entry_type_of e.kind.text in
    let all = kept_plain (λ row. not (is_field_there e.fields row.1)) (other_names dialect kind) (names_plain dialect kind) in
    (plain_can name (found_plain (replaced_names dialect e) f.name.text name all is)).0
