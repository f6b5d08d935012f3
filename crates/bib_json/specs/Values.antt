-- Meaning: words of public contracts.
-- The parsed values of fields, in JSON.
use Rattle.std.specs.Prelude.{ℕ, List, [], ◌∷◌, codes, Option, Some, option_map, option_and_then, unwrap_or}
use Rattle.std.specs.declared.ops.Range.{Range}
use Rattle.bib_chunks.specs.Cuts.{and_list}
use Rattle.bib_chunks.specs.Values.{Value, text}
use Rattle.bib_dates.specs.Chunks.{date_read}
use Rattle.bib_tables.specs.EditorType.{editor_type_name}
use Rattle.bib_tables.specs.Gender.{gender_name}
use Rattle.bib_tables.specs.Language.{language_row}
use Rattle.bib_tables.specs.Pagination.{pagination_name}
use Rattle.bib_tables.specs.declared.types.lang.Language.{Language as ALanguage}
use Rattle.bib_people.specs.People.{people_of}
use Rattle.bib_people.specs.declared.person.Person.{Person}
use Rattle.bib_values.specs.Enumerations.{pagination_read, gender_read, editor_type_read, language_read}
use Rattle.bib_values.specs.Lists.{strings_read}
use Rattle.bib_values.specs.Numbers.{number_read}
use Rattle.bib_values.specs.Ranges.{ranges_read}
use Rattle.serde_json.specs.Data.{Data, number, unsigned, string, boolean}
use Rattle.serde_json.specs.Find.{of_integer}
use Rattle.bib_json.specs.Dates.{date_json}
use Rattle.bib_json.specs.Objects.{Member, object_of, array_of}
use Rattle.bib_json.specs.ValueTypes.{value_type}
use Rattle.bib_json.specs.declared.types.ValueType.{ValueType}
use Rattle.bib_json.specs.declared.types.ValueType.TheVariants.{People, Date, Number, Pages, Keys, Parts, Languages, Language, Pagination, Role, Gender}

-- a person: the four parts of the name, and the additional parts of the extended name format
abbrev pub person_members : Person → List Member
person_members p =
    (codes "name", Some (string p.name))
    ∷ (codes "given", Some (string p.given_name))
    ∷ (codes "prefix", Some (string p.prefix))
    ∷ (codes "suffix", Some (string p.suffix))
    ∷ (codes "id", option_map string p.id)
    ∷ (codes "prefix-initials", option_map string p.prefix_initials)
    ∷ (codes "given-initials", option_map string p.given_initials)
    ∷ (codes "useprefix", option_map boolean p.use_prefix)
    ∷ []

-- the object of a person
abbrev pub person_json : Person → Data
person_json p = object_of (person_members p)

-- the object of a range of numbers, with its `start` and its `end`
abbrev pub range_json : Range ℕ → Data
range_json range = object_of (
    (codes "start", Some (number (unsigned range.start)))
    ∷ (codes "end", Some (number (unsigned range.end)))
    ∷ [])

-- the text of a part of a list
abbrev pub part_json : Value → Data
part_json part = string (text part)

-- the name of a language
abbrev pub language_json : ALanguage → Data
language_json language = string (language_row language).name

-- the name of the language that a part of a list names, or else its text
abbrev pub language_or_part : Value → Data
language_or_part part = unwrap_or (option_map language_json (language_read part)) (part_json part)

-- the value of chunks by this type; `None` if they can't be parsed
abbrev pub typed_json : ValueType → Value → Option Data
typed_json People chunks = Some (array_of person_json (people_of chunks))
typed_json Date chunks = option_map date_json (date_read chunks)
typed_json Number chunks = option_map (λ n. number (of_integer n)) (number_read chunks)
typed_json Pages chunks = option_map (array_of range_json) (ranges_read chunks)
typed_json Keys chunks = Some (array_of string (strings_read chunks))
typed_json Parts chunks = Some (array_of part_json (and_list chunks))
typed_json Languages chunks = Some (array_of language_or_part (and_list chunks))
typed_json Language chunks = option_map language_json (language_read chunks)
typed_json Pagination chunks = option_map (λ scheme. string (pagination_name scheme)) (pagination_read chunks)
typed_json Role chunks = Some (string (editor_type_name (editor_type_read chunks)))
typed_json Gender chunks = option_map (λ gender. string (gender_name gender)) (gender_read chunks)

-- the value of the chunks of a field with this name; `None` if the field has no type or they can't be parsed
abbrev pub value_json : List ℕ → Value → Option Data
value_json name chunks = option_and_then (λ type. typed_json type chunks) (value_type name)
