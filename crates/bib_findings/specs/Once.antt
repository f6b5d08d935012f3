-- Meaning: words of public contracts.
-- Names that are reported once in a file: fields that other programs write for themselves, and unknown fields and entry types without a
-- suggestion, which a style or a program of the user may define.
use Rattle.std.specs.Prelude.{ℕ, Bool, not, ◌||◌, ◌&&◌, ◌-◌, ◌^◌, ◌==◌, List, [], ◌∷◌, ◌++◌, codes, count_by, drop, if◌then◌else◌, map, min, nat_le, take}
use Rattle.std.specs.Fmt.{decimal}
use Rattle.std.specs.List.{filter, flat_map, list_any, prefix_len}
use Rattle.std.specs.Str.{str_eq_ignore_ascii_case}
use Rattle.bib_syntax.specs.Reading.{EntryReading, Part}
use Rattle.bib_findings.specs.After.{each_after}
use Rattle.bib_findings.specs.Entries.{part_range}
use Rattle.bib_findings.specs.Errors.{finding_at}
use Rattle.bib_findings.specs.Foreign.{is_foreign}
use Rattle.bib_findings.specs.Names.{has_suggestion, is_unknown_field}
use Rattle.bib_findings.specs.Types.{has_type_suggestion, is_known_type}
use Rattle.bib_findings.specs.declared.codes.Code.TheVariants.{ForeignField, UnknownField, UnknownType}
use Rattle.bib_findings.specs.declared.finding.Finding.{Finding}

-- whether an entry type is reported once in a file
abbrev pub is_type_once : List ℕ → Bool
is_type_once kind = not (is_known_type kind) && not (has_type_suggestion kind)

-- whether the name of a field, of an entry with this type, is reported once in a file. If BibLaTeX doesn't know the type, a style may
-- define it, and fields for it, so unknown fields without a suggestion aren't reported
abbrev pub is_field_once : List ℕ → List ℕ → Bool
is_field_once kind name = is_foreign name || (is_known_type kind && (is_unknown_field name && not (has_suggestion name)))

-- the types of the entries that are reported once, in order
abbrev pub types_once : List EntryReading → List Part
types_once entries = filter (λ p. is_type_once p.text) (map (λ e. e.kind) entries)

-- the names of the fields of an entry that are reported once
abbrev pub fields_once_of : EntryReading → List Part
fields_once_of e = filter (λ p. is_field_once e.kind.text p.text) (map (λ f. f.name) e.fields)

-- the same for the entries, in order
abbrev pub fields_once : List EntryReading → List Part
fields_once entries = flat_map fields_once_of entries

-- the message about so many fields with a name that other programs write for themselves
abbrev pub foreign_message : List ℕ → ℕ → List ℕ
foreign_message name count =
    codes "field " ++ (name ++ (codes " of another program, " ++ (decimal count ++ (if count == 1 then codes " time" else codes " times"))))

-- the message about an unknown name. `wrong` says what is unknown, such as `unknown field`
abbrev pub unknown_name_message : List ℕ → List ℕ → List ℕ
unknown_name_message wrong name = wrong ++ (codes " `" ++ (name ++ codes "`"))

-- the message about so many unknown names
abbrev pub unknown_names_message : List ℕ → List ℕ → ℕ → List ℕ
unknown_names_message wrong name count =
    if count == 1 then unknown_name_message wrong name
    else wrong ++ (codes " `" ++ (name ++ (codes "`; " ++ (decimal count ++ codes " times"))))

-- the finding of so many fields with one name; `p` is the name of the first
abbrev pub fields_finding : Part → ℕ → Finding
fields_finding p count =
    if is_foreign p.text then finding_at ForeignField (part_range p) (foreign_message p.text count)
    else finding_at UnknownField (part_range p) (unknown_names_message (codes "unknown field") p.text count)

-- the finding of so many entries with one type; `p` is the type of the first
abbrev pub types_finding : Part → ℕ → Finding
types_finding p count = finding_at UnknownType (part_range p) (unknown_names_message (codes "unknown entry type") p.text count)

-- whether two parts have the same text, in any ASCII case
abbrev pub have_one_text : Part → Part → Bool
have_one_text p q = str_eq_ignore_ascii_case p.text q.text

-- the greatest number that is counted
abbrev pub most_counted : ℕ
most_counted = 2 ^ 64 - 1

-- a part, and the number of parts with its text; a number above `most_counted` is replaced by it
abbrev pub count_of : List Part → Part → Part × ℕ
count_of all p = (p, min (count_by (have_one_text p) all) most_counted)

-- a part if it is the first with its text after some earlier ones
abbrev pub if_first : List Part → Part → List Part
if_first earlier p = if list_any (have_one_text p) earlier then [] else p ∷ []

-- the first part with each text
abbrev pub first_parts : List Part → List Part
first_parts parts = each_after if_first [] parts

-- one finding for each text of some parts, made from the first part with this text and from the number of such parts
abbrev pub once_each : (Part → ℕ → Finding) → List Part → List Finding
once_each finding parts = map (λ p. finding p (count_of parts p).1) (first_parts parts)

-- the findings of such names in the entries of one file
abbrev pub once_in_file : List EntryReading → List Finding
once_in_file entries = once_each types_finding (types_once entries) ++ once_each fields_finding (fields_once entries)

-- the number of entries before the first one that begins after this offset
abbrev pub count_begun : ℕ → List EntryReading → ℕ
count_begun end entries = prefix_len (λ e. nat_le e.start end) entries

-- the findings of such names in one or several files: those of each file. The files end at these offsets. Entries that begin after the
-- last offset are of one more file
abbrev pub once_findings : List ℕ → List EntryReading → List Finding
once_findings [] entries = once_in_file entries
once_findings (end ∷ ends) entries =
    once_in_file (take (count_begun end entries) entries) ++ once_findings ends (drop (count_begun end entries) entries)
