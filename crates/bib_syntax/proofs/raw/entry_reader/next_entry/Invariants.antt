use Rattle.std.proofs.Common.{◌≡◌, [], length, ◌-◌}
use Rattle.bib_text.proofs.PlaceFacts.{Ahead}
use Rattle.bib_syntax.specs.EntryReader.{FileRead}
use Rattle.bib_syntax.specs.Reading.{FileReading}
use Rattle.bib_syntax.proofs.raw.entry_reader.next_entry.Given as goal

-- the blocks so far have no entry
abbrev pub invariant-file : goal.invariant-file
invariant-file l = Ahead l.fn.s l.s × ((says : FileReading) × (says.entries ≡ []) × FileRead l.fn.s says l.s)

abbrev pub decreases-file : goal.decreases-file
decreases-file l = length l.s.text - l.s.at
