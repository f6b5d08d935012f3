-- Meaning: words of public contracts.
-- The fields for the variables of items.
use Rattle.std.specs.Prelude.{ℕ, Bool, ◌&&◌, ◌||◌, if◌then◌else◌, List, [], codes, Option}
use Rattle.std.specs.Option.{option_map, option_map_or}
use Rattle.bib_csl.specs.declared.variables.Form.{Form}
use Rattle.bib_csl.specs.declared.item_types.ItemType.{ItemType}
use Rattle.bib_csl.specs.declared.item_types.ItemType.TheVariants as item_type
use Rattle.bib_csl.specs.declared.variables.Variable.{Variable}
use Rattle.bib_csl.specs.declared.variables.Variable.TheVariants as variable
use Rattle.bib_csl.specs.Tables.{field_in_table, variable_form, variable_named}
use Rattle.bib_csl.specs.Types.{counts_issues, counts_series, is_article, is_in_book, is_volume}
use Rattle.bib_from_csl.specs.EntryTypes.{is_of_institution}

-- the form of the variable with a name, or `None` for an unknown name
unfoldable pub form_of : List ℕ → Option Form
form_of name = option_map variable_form (variable_named name)

-- the field for the title of the container that is no work of several volumes
abbrev pub container_of : ItemType → List ℕ
container_of kind = if is_article kind then codes "journaltitle" else codes "booktitle"

-- the field for the title of the container; the flag says whether the item has a title of its volume
abbrev pub container_field : ItemType → Bool → List ℕ
container_field kind in_work = if is_in_book kind && in_work then codes "maintitle" else container_of kind

-- the field for the title of the volume, or nothing
abbrev pub volume_field : ItemType → List ℕ
volume_field kind = if is_volume kind then codes "title" else if is_in_book kind then codes "booktitle" else []

-- the field for the title of an item
abbrev pub own_field : ItemType → Bool → List ℕ
own_field kind in_work = if is_volume kind && in_work then codes "maintitle" else codes "title"

-- the field for a publisher that is no institution
abbrev pub published_by : ItemType → List ℕ
published_by item_type.Webpage = codes "organization"
published_by other = codes "publisher"

-- the field for the publisher
abbrev pub publisher_field : ItemType → List ℕ
publisher_field kind = if is_of_institution kind then codes "institution" else published_by kind

-- the field for the issue
abbrev pub issue_field : ItemType → List ℕ
issue_field kind = if counts_issues kind then codes "number" else codes "issue"

-- the field for the number of the work itself: `eid` if the type uses `number` for issues or series
abbrev pub own_number_field : ItemType → List ℕ
own_number_field kind = if counts_issues kind || counts_series kind then codes "eid" else codes "number"

-- the field for the number in the series, or nothing
abbrev pub series_number_field : ItemType → List ℕ
series_number_field kind = if counts_series kind then codes "number" else []

-- the field for a variable in the entry of an item of this type, or nothing; the flag says whether the item has a title of its volume
abbrev pub field_for : ItemType → Bool → Variable → List ℕ
field_for kind in_work variable.Title = own_field kind in_work
field_for kind in_work variable.VolumeTitle = volume_field kind
field_for kind in_work variable.ContainerTitle = container_field kind in_work
field_for kind in_work variable.Publisher = publisher_field kind
field_for kind in_work variable.Issue = issue_field kind
field_for kind in_work variable.Number = own_number_field kind
field_for kind in_work variable.CollectionNumber = series_number_field kind
field_for kind in_work other = field_in_table other

-- the field for the variable with a name, or nothing; the flag says whether the item has a title of its volume
unfoldable pub variable_field : ItemType → Bool → List ℕ → List ℕ
variable_field kind in_work name = option_map_or (field_for kind in_work) (variable_named name) []

-- the additional field for the archive or the role that a variable implies, or nothing
abbrev pub beside : Variable → List ℕ
beside variable.Pmid = codes "eprinttype"
beside variable.Compiler = codes "editoratype"
beside variable.Director = codes "editorbtype"
beside variable.Organizer = codes "editorctype"
beside other = []

-- the value of the additional field (`beside`), or nothing
abbrev pub beside_value : Variable → List ℕ
beside_value variable.Pmid = codes "pubmed"
beside_value variable.Compiler = codes "compiler"
beside_value variable.Director = codes "director"
beside_value variable.Organizer = codes "organizer"
beside_value other = []

-- the additional field for the variable with a name, or nothing
unfoldable pub beside_field : List ℕ → List ℕ
beside_field name = option_map_or beside (variable_named name) []

-- the value of the additional field for the variable with a name, or nothing
unfoldable pub beside_text : List ℕ → List ℕ
beside_text name = option_map_or beside_value (variable_named name) []
