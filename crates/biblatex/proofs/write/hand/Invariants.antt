use Rattle.std.proofs.Common.{◌≡◌, take}
use Rattle.std.specs.Prelude.{◌==◌}
use Rattle.std.specs.Io.KnownBytes.{Appends}
use Rattle.bib_entry.specs.WrittenEntries.{entry_in, entries_text}
use Rattle.biblatex.specs.HandedOver.{AreTaken, entry_texts}
use Rattle.biblatex.proofs.write.hand.Given as goal

abbrev pub invariant-entries : goal.invariant-entries
invariant-entries g l =
    Appends (g.K.Sink.taken l.initial.sink) (g.K.Sink.taken l.sink) (entries_text (entry_in l.dialect) (take l.entry-index l.entries))
    × (g.K.Sink.refusals l.sink ≡ g.K.Sink.refusals l.initial.sink) × (l.is_first ≡ (l.entry-index == 0))
    × AreTaken g.K.Sink.hands_over l.initial.sink (entry_texts (entry_in l.dialect) (take l.entry-index l.entries)) l.sink
