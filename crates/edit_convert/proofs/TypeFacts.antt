-- Types of BibTeX and values of `type`: their names are names of types, and their fields can be inserted.
use Rattle.std.proofs.Common.{◌≡◌, ℕ, codes, Bool, true, false, cond, List, [], ◌∷◌, refl, subst, Option, Some, None}
use Rattle.std.specs.Prelude.{bytes_eq, ◌==◌}
use Rattle.std.specs.List.{AllByRecursion, find, list_all}
use Rattle.bib_syntax.specs.Grammar.{BlockKind, block_kind}
use Rattle.bib_syntax.specs.Reading.{FieldReading}
use Rattle.bib_tables.specs.declared.dialects.Dialect.{Dialect}
use Rattle.bib_tables.specs.declared.dialects.Dialect.TheVariants.{Biblatex, Bibtex}
use Rattle.bib_tables.specs.declared.mechanics.EntryType.{EntryType}
use Rattle.bib_tables.specs.declared.mechanics.EntryType.TheVariants.{MastersThesis, PhdThesis, Report, TechReport, Thesis}
use Rattle.bib_text.specs.Enums.{value_named}
use Rattle.edit_entries.specs.Documents.{has_name}
use Rattle.edit_entries.proofs.NewFieldFacts.{CanBePut}
use Rattle.edit_strings.proofs.NameFacts.{plain_can}
use Rattle.edit_strings.specs.Collecting.{is_plain_name}
use Rattle.edit_convert.specs.Conversions.{is_field_there, literal_of, missing_type, printed_type, read_type, times_named, type_if_named}
use Rattle.edit_convert.specs.Types.{PrintedType, key_in, reports_by_value, theses_by_value, type_by_value, type_field, type_value, types_by_value}
use Rattle.edit_convert.proofs.DateFacts.{is_plain_ascii, plain_read}

-- the name of a type is plain and that of an entry block, and its text can be inserted as a field `type`
pub record IsPrinted (type : PrintedType) : Type 0 where
  pub plain : is_plain_name type.name ≡ true
  pub entry : block_kind type.name ≡ BlockKind.entry
  pub put : CanBePut (type_field type.text)

text_put : (text : List ℕ) → list_all is_plain_ascii text ≡ true → CanBePut (type_field text)
text_put text all = record { name = (plain_can (codes "type") refl).0; value = plain_read text all }

-- ---- the types that values of `type` mean

theses_printed : AllByRecursion (λ row. IsPrinted row.1) theses_by_value
theses_printed = (
  record { plain = refl; entry = refl; put = text_put (codes "Master's thesis") refl },
  (record { plain = refl; entry = refl; put = text_put (codes "PhD thesis") refl }, tt),
)

reports_printed : AllByRecursion (λ row. IsPrinted row.1) reports_by_value
reports_printed = (record { plain = refl; entry = refl; put = text_put (codes "Technical Report") refl }, tt)

rows_printed : (kind : EntryType) → AllByRecursion (λ row. IsPrinted row.1) (types_by_value kind)
rows_printed Thesis = theses_printed
rows_printed MastersThesis = theses_printed
rows_printed PhdThesis = theses_printed
rows_printed Report = reports_printed
rows_printed TechReport = reports_printed
rows_printed kind = tt

row_printed : (rows : List (List ℕ × PrintedType)) (value : List ℕ) (type : PrintedType)
    → AllByRecursion (λ row. IsPrinted row.1) rows → value_named rows value ≡ Some type → IsPrinted type
row_printed [] value type all is = absurd (cc)
row_printed (row ∷ rows) value type all is =
    by_case (bytes_eq row.0 value) row.1 (value_named rows value) all.0 (row_printed rows value type all.1) is
  where
    by_case : (b : Bool) (first : PrintedType) (rest : Option PrintedType) → IsPrinted first
        → (rest ≡ Some type → IsPrinted type) → cond b (Some first) rest ≡ Some type → IsPrinted type
    by_case true first rest here later same = let is : first ≡ type = cc in subst IsPrinted is here
    by_case false first rest here later same = later same

value_printed : (kind : EntryType) (value : Option (List ℕ)) (type : PrintedType) → type_by_value kind value ≡ Some type
    → IsPrinted type
value_printed kind None type is = absurd (cc)
value_printed kind (Some value) type is = row_printed (types_by_value kind) (key_in value) type (rows_printed kind) is

read_printed : (kind : EntryType) (fields : List FieldReading) (type : PrintedType) → read_type kind fields ≡ Some type → IsPrinted type
read_printed kind fields type is = by_case (times_named fields (codes "type") == 1) is
  where
    by_case : (b : Bool) → cond b (type_by_value kind (literal_of (find (has_name (codes "type")) fields))) None ≡ Some type
        → IsPrinted type
    by_case true same = value_printed kind (literal_of (find (has_name (codes "type")) fields)) type same
    by_case false same = absurd (cc)

-- the type of BibTeX that an entry's type and its field `type` mean has such a name and text
pub type_printed : (dialect : Dialect) (kind : EntryType) (fields : List FieldReading) (type : PrintedType)
    → printed_type dialect kind fields ≡ Some type → IsPrinted type
type_printed Biblatex kind fields type is = absurd (cc)
type_printed Bibtex kind fields type is = read_printed kind fields type is

-- the text that styles print for a type can be inserted as a field `type`
pub typed_put : (dialect : Dialect) (kind : EntryType) (fields : List FieldReading) (f : FieldReading) (type : PrintedType)
    → type_if_named (printed_type dialect kind fields) f ≡ Some type → CanBePut (type_field type.text)
typed_put dialect kind fields f type is = by_case (has_name (codes "type") f) is
  where
    by_case : (b : Bool) → cond b (printed_type dialect kind fields) None ≡ Some type → CanBePut (type_field type.text)
    by_case true same = (type_printed dialect kind fields type same).put
    by_case false same = absurd (cc)

-- ---- values of `type` that are inserted

kind_put : (kind : EntryType) (value : List ℕ) → type_value kind ≡ Some value → CanBePut (type_field value)
kind_put MastersThesis value is =
    let same : codes "mathesis" ≡ value = cc in
    subst (λ t. CanBePut (type_field t)) same (text_put (codes "mathesis") refl)
kind_put PhdThesis value is =
    let same : codes "phdthesis" ≡ value = cc in
    subst (λ t. CanBePut (type_field t)) same (text_put (codes "phdthesis") refl)
kind_put TechReport value is =
    let same : codes "techreport" ≡ value = cc in
    subst (λ t. CanBePut (type_field t)) same (text_put (codes "techreport") refl)
kind_put kind value is = absurd (cc)

pub missing_put : (dialect : Dialect) (kind : EntryType) (fields : List FieldReading) (value : List ℕ)
    → missing_type dialect kind fields ≡ Some value → CanBePut (type_field value)
missing_put Bibtex kind fields value is = absurd (cc)
missing_put Biblatex kind fields value is = by_case (is_field_there fields (codes "type")) is
  where
    by_case : (b : Bool) → cond b None (type_value kind) ≡ Some value → CanBePut (type_field value)
    by_case true same = absurd (cc)
    by_case false same = kind_put kind value same
