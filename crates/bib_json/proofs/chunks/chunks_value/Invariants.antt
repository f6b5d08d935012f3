use Rattle.std.proofs.Common.{◌≡◌, map, take}
use Rattle.serde_json.specs.View.{view}
use Rattle.bib_json.specs.Chunks.{chunk_json}
use Rattle.bib_json.proofs.chunks.chunks_value.Given as goal

abbrev pub invariant-chunks : goal.invariant-chunks
invariant-chunks l = map view l.elements.items ≡ map chunk_json (take l.chunk-index l.chunks)
