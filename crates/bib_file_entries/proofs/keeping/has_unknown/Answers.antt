use Rattle.std.proofs.Common.{map, ap, sym, ◌∙◌}
use Rattle.std.proofs.lemmas.List.{take_all}
use Rattle.bib_abbreviations.specs.Abbreviations.{given_by}
use Rattle.bib_file_entries.specs.Kept.{unknown_names}
use Rattle.bib_syntax.specs.Views.{piece_of}
use Rattle.bib_file_entries.proofs.MendingFacts.{none_next}
use Rattle.bib_file_entries.proofs.keeping.has_unknown.Goals as goal

pub pieces-preserved : goal.pieces-preserved
pieces-preserved c =
    none_next (given_by c.args.reader.now) c.args.field.now c.pieces.piece-index _ c.pieces-test.true c.pieces.invariant
    (rw c.if-is_unknown.false at c.is_unknown.ensures)

pub returns : goal.returns
returns c =
    sym
    (ap (λ l. unknown_names (given_by c.args.reader.now) (map piece_of l))
    (take_all c.pieces.piece-index c.args.field.now c.pieces-test.false)) ∙ c.pieces.invariant
