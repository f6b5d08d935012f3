-- Machinery: words of private contracts.
-- A cache of field names, each with its classification.
use Rattle.std.specs.Prelude.{◌≡◌, ℕ, true, false, List, Option, Some, option_copied}
use Rattle.bib_tables.specs.Requirements.{Names, fields}
use Rattle.bib_findings.specs.Foreign.{is_foreign}
use Rattle.bib_findings.specs.Names.{is_unknown_field, meant_field}
use Rattle.bib_findings.specs.declared.names.FieldName.{FieldName}
use Rattle.bib_findings.specs.declared.names.FieldName.TheVariants.{Foreign, Known, Unknown}

-- whether this is the classification of a name: used by other programs, known to BibLaTeX, or else unknown, with the known name that may be
-- meant
abbrev pub IsFieldName : List ℕ → FieldName → Type 0
IsFieldName name Foreign = is_foreign name ≡ true
IsFieldName name Known = (is_foreign name ≡ false) × (is_unknown_field name ≡ false)
IsFieldName name (Unknown meant) =
    (is_foreign name ≡ false) × (is_unknown_field name ≡ true)
    × (option_copied meant ≡ meant_field name)

-- frequent names of fields that BibLaTeX knows
abbrev pub frequent_fields : Names
frequent_fields = fields "author title year date pages journal volume number publisher doi url booktitle address month abstract editor"

-- whether each name of the cache has its classification
abbrev pub AreFieldNames : (List ℕ → Option FieldName) → Type 0
AreFieldNames noted = (name : List ℕ) (is : FieldName) → noted name ≡ Some is → IsFieldName name is
