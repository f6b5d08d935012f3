use Rattle.std.proofs.Common.{sym, ◌∙◌, lit<}
use Rattle.std.proofs.lemmas.Str.Pattern.{split_once_first}
use Rattle.bib_findings.proofs.NameFacts.{annotated_none, annotated_with, annotated_without, split_here, split_not}
use Rattle.bib_findings.proofs.names.annotated_name.Goals as goal

pub returns-in-Some : goal.returns-in-Some
returns-in-Some c =
    let name = c.args.name.now in
    let parts =
    split_here 43 name c.split_once.result (c.in-Some.field, c.in-Some.mark) c.in-Some.is
    (split_once_first 43 name c.split_once.result c.split_once.ensures.cases (lit< tt)) in
    annotated_with name c.in-Some.field.now c.in-Some.mark.now parts.1 parts.2
    (sym c.is_annotation_mark.ensures ∙ c.if-is_annotation_mark.true)

pub returns-in_default : goal.returns-in_default
returns-in_default c =
    let name = c.args.name.now in
    let parts =
    split_here 43 name c.split_once.result (c.in-Some.field, c.in-Some.mark) c.in-Some.is
    (split_once_first 43 name c.split_once.result c.split_once.ensures.cases (lit< tt)) in
    annotated_without name c.in-Some.mark.now parts.2 (sym c.is_annotation_mark.ensures ∙ c.if-is_annotation_mark.false)

pub returns-in_default-2 : goal.returns-in_default-2
returns-in_default-2 c =
    let name = c.args.name.now in
    annotated_none name
    (split_not 43 name c.split_once.result c.in_default.is
    (split_once_first 43 name c.split_once.result c.split_once.ensures.cases (lit< tt)))
