-- Meaning: words of public contracts.
-- Records of RIS, and the lines between them.
use Rattle.std.specs.Prelude.{Bool, ◌||◌, if◌then◌else◌, List, [], ◌∷◌, ◌++◌, codes, bytes_eq}
use Rattle.bib_from_ris.specs.Lines.{no_line}
use Rattle.bib_from_ris.specs.declared.lines.RisLine.{RisLine}
use Rattle.bib_from_ris.specs.declared.sections.Section.{Section}

-- whether a line begins a section: `TY` begins a record, and `ER` ends it
abbrev pub begins_section : RisLine → Bool
begins_section line = bytes_eq line.tag (codes "TY") || bytes_eq line.tag (codes "ER")

-- a section that begins with this line
abbrev pub section_with : RisLine → Section
section_with head = record { head = head; lines = [] }

-- a section with one more line
abbrev pub section_and_line : Section → RisLine → Section
section_and_line section line = record { head = section.head; lines = section.lines ++ line ∷ [] }

-- a section, continued by these lines up to the next one that begins a section, and the sections after it
abbrev pub sections_after : Section → List RisLine → List Section
sections_after section [] = section ∷ []
sections_after section (line ∷ rest) =
    if begins_section line then section ∷ sections_after (section_with line) rest else sections_after (section_and_line section line) rest

-- the sections of lines; the first has the lines before the first `TY` or `ER`, after `no_line`
unfoldable pub sections_of : List RisLine → List Section
sections_of lines = sections_after (section_with no_line) lines

-- whether a section is a record
abbrev pub is_record : Section → Bool
is_record section = bytes_eq section.head.tag (codes "TY")
