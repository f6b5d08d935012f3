-- Meaning: words of public contracts.
-- The types of the values of fields, by the names of the fields.
use Rattle.std.specs.Prelude.{ℕ, Bool, if◌then◌else◌, List, [], ◌∷◌, codes, Option, Some, None, bytes_eq}
use Rattle.std.specs.List.{list_any}
use Rattle.bib_json.specs.declared.types.ValueType.{ValueType}
use Rattle.bib_json.specs.declared.types.ValueType.TheVariants.{People, Date, Number, Pages, Keys, Parts, Languages, Language, Pagination, Role, Gender}

-- the fields of people
abbrev pub fields_of_people : List (List ℕ)
fields_of_people =
    codes "author" ∷ codes "editor" ∷ codes "editora" ∷ codes "editorb" ∷ codes "editorc" ∷ codes "translator"
    ∷ codes "annotator" ∷ codes "commentator"
    ∷ codes "introduction" ∷ codes "foreword" ∷ codes "afterword" ∷ codes "bookauthor" ∷ codes "holder"
    ∷ codes "shortauthor" ∷ codes "shorteditor" ∷ []

-- the fields of dates
abbrev pub dated_fields : List (List ℕ)
dated_fields = codes "date" ∷ codes "eventdate" ∷ codes "origdate" ∷ codes "urldate" ∷ []

-- the fields of whole numbers
abbrev pub number_fields : List (List ℕ)
number_fields = codes "volume" ∷ codes "volumes" ∷ codes "edition" ∷ []

-- the fields of lists with commas between their texts
abbrev pub comma_fields : List (List ℕ)
comma_fields = codes "keywords" ∷ codes "ids" ∷ codes "xdata" ∷ codes "entryset" ∷ codes "related" ∷ codes "origlanguage" ∷ []

-- the fields of lists with `and` between their texts
abbrev pub and_fields : List (List ℕ)
and_fields =
    codes "publisher" ∷ codes "location" ∷ codes "address" ∷ codes "organization" ∷ codes "institution" ∷ codes "school"
    ∷ codes "origlocation"
    ∷ codes "origpublisher" ∷ []

-- the fields of the unit that page numbers count
abbrev pub pagination_fields : List (List ℕ)
pagination_fields = codes "pagination" ∷ codes "bookpagination" ∷ []

-- the fields of the roles of editors
abbrev pub role_fields : List (List ℕ)
role_fields = codes "editortype" ∷ codes "editoratype" ∷ codes "editorbtype" ∷ codes "editorctype" ∷ []

-- whether a name is one of these
abbrev pub is_listed_in : List (List ℕ) → List ℕ → Bool
is_listed_in names name = list_any (bytes_eq name) names

-- the type of a field that is the only one of its type
abbrev pub single_type : List ℕ → Option ValueType
single_type name =
    if bytes_eq name (codes "pages") then Some Pages
    else if bytes_eq name (codes "language") then Some Languages
    else if bytes_eq name (codes "langid") then Some Language
    else if bytes_eq name (codes "gender") then Some Gender
    else None

-- the type of the field with this name, if it has one
abbrev pub value_type : List ℕ → Option ValueType
value_type name =
    if is_listed_in fields_of_people name then Some People
    else if is_listed_in dated_fields name then Some Date
    else if is_listed_in number_fields name then Some Number
    else if is_listed_in comma_fields name then Some Keys
    else if is_listed_in and_fields name then Some Parts
    else if is_listed_in pagination_fields name then Some Pagination
    else if is_listed_in role_fields name then Some Role
    else single_type name
