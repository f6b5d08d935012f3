use Rattle.std.proofs.Common.{◌≡◌, take}
use Rattle.std.specs.Prelude.{string_bytes}
use Rattle.std.specs.List.{flat_map}
use Rattle.bib_keys.specs.Commands.{chunk_text}
use Rattle.bib_keys.proofs.commands.text_in_key.Given as goal

abbrev pub invariant-chunks : goal.invariant-chunks
invariant-chunks l = string_bytes l.out ≡ flat_map chunk_text (take l.chunk-index l.chunks)
