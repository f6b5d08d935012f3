use Rattle.std.proofs.Common.{◌≡◌, drop, map}
use Rattle.json.specs.Value.{value_view}
use Rattle.bib_from_json.specs.GivenChunks.{chunks_from}
use Rattle.bib_from_json.proofs.ReadingFacts.{after}
use Rattle.bib_from_json.proofs.chunks.chunks_from.Given as goal

abbrev pub invariant-chunks : goal.invariant-chunks
invariant-chunks l =
    after l.chunks (chunks_from (map value_view (drop l.value-index l.values))) ≡ chunks_from (map value_view l.values)
