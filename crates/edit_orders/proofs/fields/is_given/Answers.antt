use Rattle.std.proofs.Common.{rules, tests, not, ◌∙◌, sym, length}
use Rattle.std.specs.Prelude.{◌==◌}
use Rattle.std.proofs.lemmas.Iterator.{YieldsList-from_slice}
use Rattle.std.proofs.lemmas.Iterator.Search.{any_from_yields_List}
use Rattle.bib_syntax.specs.Views.{piece_of}
use Rattle.bib_syntax.specs.declared.raw.RawChunk.{RawChunk}
use Rattle.bib_text.specs.declared.spanned.Spanned.{Spanned}
use Rattle.bib_text.proofs.ListFacts.{any_mapped}
use Rattle.edit_orders.specs.Fields.{plain_piece}
use Rattle.edit_orders.proofs.fields.is_given.Goals as goal

pub returns : goal.returns
returns c =
    any_from_yields_List (λ (piece : Spanned RawChunk). not (length (plain_piece (piece_of piece)) == 0)) _ _ _
    c.any.ensures.ran (YieldsList-from_slice c.args.pieces.now cc) (λ x b q k. search (rules, tests))
    ∙ sym (any_mapped piece_of (λ piece. not (length (plain_piece piece) == 0)) c.args.pieces.now)
