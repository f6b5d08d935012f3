use Rattle.std.proofs.Common.{rules, tests, sym, ◌∙◌}
use Rattle.std.proofs.lemmas.Iterator.{YieldsList-from_slice}
use Rattle.std.proofs.lemmas.Iterator.Search.{all_from_yields_List}
use Rattle.bib_text.specs.declared.spanned.Spanned.{Spanned}
use Rattle.bib_syntax.specs.Views.{piece_of}
use Rattle.bib_syntax.specs.declared.raw.RawChunk.{RawChunk}
use Rattle.bib_findings.specs.Entries.{is_blank_piece}
use Rattle.bib_findings.proofs.ListFacts.{all_of_map}
use Rattle.bib_findings.proofs.fields.are_blank.Goals as goal

pub returns : goal.returns
returns c =
    all_from_yields_List (λ (piece : Spanned RawChunk). is_blank_piece (piece_of piece)) _ _ _ c.all.ensures.ran
    (YieldsList-from_slice c.args.pieces.now cc) (λ x b q k. search (rules, tests))
    ∙ sym (all_of_map piece_of is_blank_piece c.args.pieces.now)
