use Rattle.std.proofs.Common.{◌∙◌, sym, ap, subst}
use Rattle.std.specs.List.{list_all}
use Rattle.std.specs.Str.{IsUtf8}
use Rattle.bib_csl.specs.Unmarked.{is_unmarked}
use Rattle.bib_csl.proofs.TagFacts.{marked_stays}
use Rattle.bib_csl.proofs.tags.marked_text.Goals as goal

pub returns-then-is_unmarked : goal.returns-then-is_unmarked
returns-then-is_unmarked c =
    let same = c.as_str.ensures in
    marked_stays c.args.has_tags c.args.text (subst IsUtf8 same c.as_str.utf8)
    (ap (list_all is_unmarked) (sym same) ∙ sym c.is_unmarked.ensures ∙ c.if-is_unmarked.true)
