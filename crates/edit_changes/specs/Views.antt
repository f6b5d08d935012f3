-- Machinery: words of private contracts.
-- The blocks that values of the code represent.
use Rattle.std.specs.Prelude.{map}
use Rattle.bib_syntax.specs.Views.{field_of}
use Rattle.edit_changes.specs.Blocks.{BlockReading}
use Rattle.edit_changes.specs.declared.blocks.Block.{Block}

-- the reading of a block
abbrev pub block_view : Block → BlockReading
block_view b = record {
  kind = b.kind.now;
  kind_start = b.kind_start;
  kind_end = b.kind_end;
  key_start = b.key_start;
  key_end = b.key_end;
  fields = map field_of b.fields.now;
}
