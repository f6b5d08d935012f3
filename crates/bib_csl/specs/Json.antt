-- Meaning: words of public contracts.
-- Items as JSON, by the schema of CSL. The members of an object are in the order of their names.
use Rattle.std.specs.Prelude.{ℕ, Bool, true, false, ◌==◌, if◌then◌else◌, List, [], ◌∷◌, length, map, codes, Option, Some, None}
use Rattle.serde_json.specs.Data.{Data, number, string, array, object, boolean, unsigned, Items, no_items, item, Members, no_members, put}
use Rattle.serde_json.specs.Find.{of_integer}
use Rattle.serde_json.specs.View.{items_of}
use Rattle.bib_csl.specs.declared.item.Content.{Content}
use Rattle.bib_csl.specs.declared.item.Content.TheVariants as content
use Rattle.bib_csl.specs.declared.item.DateParts.{DateParts}
use Rattle.bib_csl.specs.declared.item.Field.{Field}
use Rattle.bib_csl.specs.declared.item.Item.{Item}
use Rattle.bib_csl.specs.declared.item.ItemDate.{ItemDate}
use Rattle.bib_csl.specs.declared.item.Name.{Name}
use Rattle.bib_csl.specs.declared.item.Name.TheVariants.{Literal, Parts}
use Rattle.bib_csl.specs.declared.item.NameParts.{NameParts}
use Rattle.bib_csl.specs.declared.item.Season.{Season}
use Rattle.bib_csl.specs.declared.item.Season.TheVariants.{Spring, Summer, Autumn, Winter}
use Rattle.bib_csl.specs.Tables.{item_type_name, variable_name}

-- members, with one more for a text, unless the text is empty
unfoldable pub with_string : List ℕ → List ℕ → Members → Members
with_string name text members = if length text == 0 then members else put name (string text) members

-- the members of a person's name
unfoldable pub parts_members : NameParts → Members
parts_members p =
    with_string (codes "non-dropping-particle") p.non_dropping_particle (with_string (codes "dropping-particle") p.dropping_particle
    (with_string (codes "suffix") p.suffix (with_string (codes "given") p.given (with_string (codes "family") p.family no_members))))

-- the members of a name
unfoldable pub name_members : Name → Members
name_members (Literal text) = put (codes "literal") (string text) no_members
name_members (Parts p) = parts_members p

-- the JSON of a name
unfoldable pub name_json : Name → Data
name_json name = object (name_members name)

-- the day of a month, if there is one
abbrev pub day_items : Option ℕ → Items
day_items None = no_items
day_items (Some day) = item (number (unsigned day)) no_items

-- a month, and its day if there is one; nothing without a month
abbrev pub month_items : Option ℕ → Option ℕ → Items
month_items None day = no_items
month_items (Some month) day = item (number (unsigned month)) (day_items day)

-- year, month and day as a list
unfoldable pub date_parts_json : DateParts → Data
date_parts_json p = array (item (number (of_integer p.year)) (month_items p.month p.day))

-- members, with the dates unless there are none
unfoldable pub with_parts : List DateParts → Members → Members
with_parts parts members =
    if length parts == 0 then members else put (codes "date-parts") (array (items_of (map date_parts_json parts))) members

-- the number of a season
abbrev pub season_number : Season → ℕ
season_number Spring = 1
season_number Summer = 2
season_number Autumn = 3
season_number Winter = 4

-- members, with the season if there is one
unfoldable pub with_season : Option Season → Members → Members
with_season None members = members
with_season (Some season) members = put (codes "season") (number (unsigned (season_number season))) members

-- members, with `circa` if the date is uncertain or approximate
unfoldable pub with_circa : Bool → Members → Members
with_circa true members = put (codes "circa") (boolean true) members
with_circa false members = members

-- members, with the text of a date if there is one
unfoldable pub with_literal : Option (List ℕ) → Members → Members
with_literal None members = members
with_literal (Some text) members = put (codes "literal") (string text) members

-- the members of a date
unfoldable pub date_members : ItemDate → Members
date_members d = with_literal d.literal (with_circa d.circa (with_season d.season (with_parts d.parts no_members)))

-- the content of a variable
unfoldable pub content_json : Content → Data
content_json (content.Text text) = string text
content_json (content.Names names) = array (items_of (map name_json names))
content_json (content.Date date) = object (date_members date)

-- members with the member of a variable, which replaces a member of the same name
unfoldable pub with_variable : Field → Members → Members
with_variable field members = put (variable_name field.variable) (content_json field.content) members

-- members with the members of variables, added one after another
abbrev pub with_variables : List Field → Members → Members
with_variables [] members = members
with_variables (field ∷ fields) members = with_variables fields (with_variable field members)

-- the members `id` and `type` of an item
unfoldable pub head_members : Item → Members
head_members work = put (codes "type") (string (item_type_name work.kind)) (put (codes "id") (string work.id) no_members)

-- the JSON of an item
unfoldable pub json_of : Item → Data
json_of work = object (with_variables work.fields (head_members work))
