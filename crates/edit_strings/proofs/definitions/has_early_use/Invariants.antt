use Rattle.std.proofs.Common.{◌≡◌, drop, map}
use Rattle.std.specs.List.{list_any}
use Rattle.bib_syntax.specs.Views.{piece_of}
use Rattle.edit_strings.specs.Expanded.{is_early_use}
use Rattle.edit_strings.specs.Tables.{index_by_lowercase}
use Rattle.edit_strings.proofs.definitions.has_early_use.Given as goal

-- the result for all pieces is that for the pieces still to visit
abbrev pub invariant-pieces : goal.invariant-pieces
invariant-pieces l =
    list_any (is_early_use l.definition.key.v.now (index_by_lowercase l.all) (index_by_lowercase l.earlier))
    (map piece_of l.definition.value.v.items)
    ≡ list_any (is_early_use l.definition.key.v.now (index_by_lowercase l.all) (index_by_lowercase l.earlier))
    (map piece_of (drop l.piece-index l.definition.value.v.items))
