-- Machinery: words of private contracts.
-- The kind and the content of a block, from the values of the code.
use Rattle.std.specs.Prelude.{[], ◌∷◌, map}
use Rattle.bib_syntax.specs.declared.raw.file.BlockKind.{BlockKind as Found}
use Rattle.bib_syntax.specs.declared.raw.file.BlockKind.TheVariants.{Comment, Preamble, Strings, Entry}
use Rattle.bib_syntax.specs.declared.raw.file.Item.{Item}
use Rattle.bib_syntax.specs.declared.raw.file.Item.TheVariants as item
use Rattle.bib_syntax.specs.Grammar.{BlockKind}
use Rattle.bib_syntax.specs.Reading.{FileReading, empty_reading}
use Rattle.bib_syntax.specs.Views.{entry_reading_of, field_of}

-- the kind of a block in the grammar
abbrev pub block_kind_of : Found → BlockKind
block_kind_of Comment = BlockKind.comment
block_kind_of Preamble = BlockKind.preamble
block_kind_of Strings = BlockKind.strings
block_kind_of Entry = BlockKind.entry

-- the content of a block, as a reading of a file with only this block
abbrev pub item_of : Item → FileReading
item_of item.Nothing = empty_reading
item_of (item.Preamble s) = record { preamble = s.now; entries = []; abbreviations = [] }
item_of (item.Strings pairs) = record { preamble = []; entries = []; abbreviations = map field_of pairs.items }
item_of (item.Entry e) = record { preamble = []; entries = entry_reading_of e ∷ []; abbreviations = [] }
