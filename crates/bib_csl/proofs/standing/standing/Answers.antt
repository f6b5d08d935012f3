use Rattle.std.proofs.Common.{[], ◌++◌, ◌∙◌, false, sym, ap, subst}
use lib.Utf8.{encodes}
use Rattle.std.specs.List.{list_all}
use Rattle.std.specs.Str.{IsUtf8}
use Rattle.bib_chunks.specs.Formatted.{formatted_chunk}
use Rattle.bib_csl.specs.Unmarked.{is_in_line}
use Rattle.bib_csl.proofs.StandingFacts.{normal_stands, verbatim_stands}
use Rattle.bib_csl.proofs.standing.standing.Goals as goal

pub returns-in-Normal : goal.returns-in-Normal
returns-in-Normal c =
    let bs = c.in-Normal.text in
    let same = c.as_str-in-Normal.ensures in
    let line = ap (list_all is_in_line) (sym c.as_str.ensures) ∙ sym c.is_one_line.ensures ∙ c.if-is_one_line.true in
    same ∙ normal_stands bs (subst IsUtf8 same c.as_str-in-Normal.utf8) line
    ∙ ap (λ v. encodes (formatted_chunk (λ cs. cs) false v ++ [])) (sym c.in-Normal.is)

pub returns-in-Verbatim : goal.returns-in-Verbatim
returns-in-Verbatim c =
    let bs = c.in-Verbatim.text in
    let same = c.as_str-in-Verbatim.ensures in
    same ∙ verbatim_stands bs (subst IsUtf8 same c.as_str-in-Verbatim.utf8)
    ∙ ap (λ v. encodes (formatted_chunk (λ cs. cs) false v ++ [])) (sym c.in-Verbatim.is)
