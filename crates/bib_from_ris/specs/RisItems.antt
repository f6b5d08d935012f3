-- Meaning: words of public contracts.
-- The items of the records of a text of RIS, and the lines that are in no record.
use Rattle.std.specs.Prelude.{ℕ, ◌+◌, ◌==◌, if◌then◌else◌, List, [], ◌∷◌, ◌++◌, length, codes, Option, Some, None}
use Rattle.std.specs.Fmt.{decimal}
use Rattle.std.specs.List.{flat_map}
use Rattle.bib_from_csl.specs.declared.given.GivenItem.{GivenItem}
use Rattle.bib_from_csl.specs.declared.losses.Loss.{Loss}
use Rattle.bib_from_csl.specs.declared.losses.LossKind.TheVariants.{NoField}
use Rattle.bib_from_csl.specs.LanguageNames.{first_name}
use Rattle.bib_from_ris.specs.Lines.{lines_of_ris}
use Rattle.bib_from_ris.specs.Members.{members}
use Rattle.bib_from_ris.specs.RisTypes.{type_of_record}
use Rattle.bib_from_ris.specs.Sections.{is_record, sections_of}
use Rattle.bib_from_ris.specs.Variables.{variable_text, variable_lines}
use Rattle.bib_from_ris.specs.declared.lines.RisLine.{RisLine}
use Rattle.bib_from_ris.specs.declared.variables.VariableLine.{VariableLine}
use Rattle.bib_from_ris.specs.declared.sections.Section.{Section}

-- `ris` and the number of a record
abbrev pub numbered_id : ℕ → List ℕ
numbered_id number = codes "ris" ++ decimal number

-- the text that the key of a record comes from: the text of the tag ID, or else of DO, or else `ris` and the number of the record, from 1
abbrev pub id_with : Option (List ℕ) → Option (List ℕ) → ℕ → List ℕ
id_with (Some id) doi number = id
id_with None (Some doi) number = doi
id_with None None number = numbered_id number

-- the item with these lines
unfoldable pub item_of_lines : ℕ → List ℕ → List VariableLine → GivenItem
item_of_lines number kind lines = record {
  key_member = codes "ID";
  id = id_with (variable_text (codes "id") lines) (variable_text (codes "DOI") lines) number;
  kind = type_of_record kind;
  fields = members kind lines;
}

-- the item of a record; `number` is that of the record, from 1
unfoldable pub item_of_record : ℕ → Section → GivenItem
item_of_record number section = item_of_lines number section.head.value (variable_lines section.head.value section.lines)

-- the items of the records among these sections; the first record has this number
abbrev pub record_items : ℕ → List Section → List GivenItem
record_items number [] = []
record_items number (section ∷ rest) =
    if is_record section then item_of_record number section ∷ record_items (number + 1) rest else record_items number rest

-- the sections of a text
abbrev pub ris_sections : List ℕ → List Section
ris_sections text = sections_of (lines_of_ris text)

-- the items of a text of RIS, one for each record
abbrev pub ris_items : List ℕ → List GivenItem
ris_items text = record_items 1 (ris_sections text)

-- the loss of a line that is in no record, if it has a value: its name is the tag, or the text of a line without a tag. Its key is empty
abbrev pub outside_loss : RisLine → List Loss
outside_loss line =
    if length line.value == 0 then [] else record { id = []; name = first_name line.tag line.value; kind = NoField } ∷ []

-- the losses of a section that is no record
abbrev pub section_losses : Section → List Loss
section_losses section = if is_record section then [] else outside_loss section.head ++ flat_map outside_loss section.lines
