use Rattle.std.proofs.Common.{◌≡◌, [], map, take}
use Rattle.bib_abbreviations.specs.Abbreviations.{given_by}
use Rattle.bib_file_entries.specs.Kept.{unknown_names}
use Rattle.bib_syntax.specs.Views.{piece_of}
use Rattle.bib_file_entries.proofs.keeping.has_unknown.Given as goal

-- no piece so far is an undefined abbreviation
abbrev pub invariant-pieces : goal.invariant-pieces
invariant-pieces l = unknown_names (given_by l.reader) (map piece_of (take l.piece-index l.field)) ≡ []
