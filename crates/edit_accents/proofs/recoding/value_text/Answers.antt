use Rattle.std.proofs.Common.{map, sym, ap, ◌∙◌, subst}
use Rattle.std.specs.List.{AllByRecursion}
use Rattle.std.specs.String.{string_bytes}
use Rattle.bib_syntax.specs.Views.{piece_of}
use Rattle.edit_entries.specs.Cuts.{IsPieceCut}
use Rattle.edit_strings.specs.Views.{lent_pieces}
use Rattle.edit_accents.proofs.PieceFacts.{recoded_cut}
use Rattle.edit_accents.proofs.recoding.value_text.Goals as goal

pub laid_out-requires : goal.laid_out-requires
laid_out-requires c =
    subst (AllByRecursion (IsPieceCut c.args.text.now))
    (sym
    (ap lent_pieces c.deref-3.ensures.value ∙ c.in_ok-lent.ensures ∙ ap (map piece_of) c.deref-2.ensures.value
    ∙ c.in_ok-new.ensures c.args.form (ap (map string_bytes) c.deref.ensures.value ∙ c.in_ok-texts.ensures)))
    (recoded_cut c.args.form c.args.text.now (map piece_of c.args.pieces.now) c.requires)
