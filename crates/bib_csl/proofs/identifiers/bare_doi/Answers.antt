use Rattle.std.proofs.Common.{◌∙◌, ◌++◌, sym, ap, codes}
use Rattle.std.specs.Option.{option_map, unwrap_or}
use Rattle.bib_csl.proofs.DoiFacts.{same_or_error, ten_found}
use Rattle.bib_csl.proofs.identifiers.bare_doi.Goals as goal

pub returns-in_ok-push_str-in-Some : goal.returns-in_ok-push_str-in-Some
unfolding Rattle.bib_csl.specs.Identifiers.bare_doi
returns-in_ok-push_str-in-Some c =
    let is =
    sym (ap (option_map (λ x. codes "10." ++ x.1.now)) c.in-Some.is)
    ∙ ten_found c.args.text.now c.split_once.result c.split_once.ensures.cases in
    c.in_ok-push_str-in-Some.ensures ∙ ap (λ t. t ++ c.in-Some.rest.now) c.in_ok-doi-in-Some.ensures
    ∙ ap (λ o. unwrap_or o c.args.text.now) is

pub returns-in-None : goal.returns-in-None
unfolding Rattle.bib_csl.specs.Identifiers.bare_doi
returns-in-None c =
    let is =
    sym (ap (option_map (λ x. codes "10." ++ x.1.now)) c.in-None.is)
    ∙ ten_found c.args.text.now c.split_once.result c.split_once.ensures.cases in
    same_or_error c.from_str-in-None.result c.args.text.now _ c.from_str-in-None.ensures (ap (λ o. unwrap_or o c.args.text.now) is)
