-- Machinery: words of private contracts.
-- The tokens of the JSON of an item. The members of an object are in the order of their names.
use Rattle.std.specs.Prelude.{ℕ, Bool, true, false, ◌==◌, if◌then◌else◌, List, [], ◌∷◌, ◌++◌, length, map, codes, decimal, Option, Some, None}
use Rattle.json.specs.Token.{Token, key, string, number, boolean}
use Rattle.json.specs.Tree.{json_tokens}
use Rattle.serde_json.specs.Data as json
use Rattle.serde_json.specs.Data.{Data, Members, no_members, member}
use Rattle.serde_json.specs.View.{items_of}
use Rattle.serde_json.specs.Written.{outline}
use Rattle.bib_csl.specs.declared.item.DateParts.{DateParts}
use Rattle.bib_csl.specs.declared.item.ItemDate.{ItemDate}
use Rattle.bib_csl.specs.declared.item.Name.{Name}
use Rattle.bib_csl.specs.declared.item.Name.TheVariants.{Literal, Parts}
use Rattle.bib_csl.specs.declared.item.NameParts.{NameParts}
use Rattle.bib_csl.specs.declared.item.Season.{Season}
use Rattle.bib_csl.specs.declared.members.Held.{Held}
use Rattle.bib_csl.specs.declared.members.Held.TheVariants.{Word, Whole}
use Rattle.bib_csl.specs.Json.{content_json, date_parts_json, season_number}
use denote.Ref.{Bor}

-- the tokens of JSON
abbrev pub tokens_of : Data → List Token
tokens_of d = json_tokens (outline d)

-- the value of a member
abbrev pub held_json : Held → Data
held_json (Word word) = json.string word.now
held_json (Whole content) = content_json content.now

-- the members by their names
abbrev pub members_held : List (Bor (List ℕ) × Held) → Members
members_held [] = no_members
members_held (m ∷ ms) = member m.0.now (held_json m.1) (members_held ms)

-- a member of this name
abbrev pub member_tokens : List ℕ → Held → List Token
member_tokens name held = key name ∷ tokens_of (held_json held)

-- a member with a text, unless the text is empty
unfoldable pub text_tokens : List ℕ → List ℕ → List Token
text_tokens name text = if length text == 0 then [] else key name ∷ string text ∷ []

-- the parts of a person's name
unfoldable pub parts_tokens : NameParts → List Token
parts_tokens p =
    text_tokens (codes "dropping-particle") p.dropping_particle ++
    (text_tokens (codes "family") p.family ++
    (text_tokens (codes "given") p.given ++
    (text_tokens (codes "non-dropping-particle") p.non_dropping_particle ++
    text_tokens (codes "suffix") p.suffix)))

-- the members of a name
unfoldable pub name_tokens : Name → List Token
name_tokens (Literal text) = key (codes "literal") ∷ string text ∷ []
name_tokens (Parts p) = parts_tokens p

-- the day of a month, if there is one
abbrev pub day_tokens : Option ℕ → List Token
day_tokens None = []
day_tokens (Some day) = number (decimal day) ∷ []

-- a month, and its day if there is one; nothing without a month
abbrev pub month_tokens : Option ℕ → Option ℕ → List Token
month_tokens None day = []
month_tokens (Some month) day = number (decimal month) ∷ day_tokens day

-- the member `circa`, if the date is uncertain or approximate
abbrev pub circa_tokens : Bool → List Token
circa_tokens true = key (codes "circa") ∷ boolean true ∷ []
circa_tokens false = []

-- the member `date-parts`, unless there are no dates
unfoldable pub dates_tokens : List DateParts → List Token
dates_tokens parts =
    if length parts == 0 then [] else key (codes "date-parts") ∷ tokens_of (json.array (items_of (map date_parts_json parts)))

-- the member `literal` with the text of a date, if there is one
abbrev pub literal_tokens : Option (List ℕ) → List Token
literal_tokens None = []
literal_tokens (Some text) = key (codes "literal") ∷ string text ∷ []

-- the member `season`, if there is one
abbrev pub season_tokens : Option Season → List Token
season_tokens None = []
season_tokens (Some season) = key (codes "season") ∷ number (decimal (season_number season)) ∷ []

-- the members of a date
unfoldable pub date_tokens : ItemDate → List Token
date_tokens d = circa_tokens d.circa ++ (dates_tokens d.parts ++ (literal_tokens d.literal ++ season_tokens d.season))
