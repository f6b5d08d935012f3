use Rattle.std.proofs.Common.{◌≡◌, ◌++◌, drop, map}
use Rattle.std.specs.List.{enumerate_from, flat_map}
use Rattle.std.specs.String.{string_bytes}
use Rattle.bib_syntax.specs.Views.{piece_of}
use Rattle.bibkit_versions.specs.Labels.{joined_piece, value_in_braces}
use Rattle.bibkit_versions.proofs.labels.value_text.Given as goal

-- the text so far, and the remaining pieces, are the value
abbrev pub invariant-pieces : goal.invariant-pieces
invariant-pieces l =
    string_bytes l.text ++ flat_map joined_piece (enumerate_from l.index (map piece_of (drop l.index l.pieces)))
    ≡ value_in_braces (map piece_of l.pieces)
