use Rattle.std.proofs.Common.{◌≡◌, ◌<◌, length, get_or, map, ap, sym, subst, ◌∙◌}
use Rattle.std.specs.List.{All}
use Rattle.std.proofs.lemmas.List.Elements.{All-get_or, All-push}
use Rattle.bib_syntax.specs.Views.{entry_reading_of}
use Rattle.bib_findings.specs.Duplicates.{entries_at}
use Rattle.bib_findings.specs.ParentOrder.{has_bibtex_type}
use Rattle.bib_findings.proofs.ChosenFacts.{chosen_kept, chosen_left}
use Rattle.bib_findings.proofs.parent_order.bibtex_origins.Goals as goal
use Rattle.bib_findings.proofs.parent_order.bibtex_origins.Goals.{then-has_bibtex_type+in_ok-push, else-has_bibtex_type}

pub origins-preserved : goal.origins-preserved
origins-preserved c =
    let said = c.args.said.now in
    let origins = c.args.origins.now in
    let index = c.origins.index in
    let item = c.index-said-origins.result in
    let old = c.origins.chosen.items in
    elim c.if-has_bibtex_type.branch [
      | then-has_bibtex_type+in_ok-push w ↦ record {
        there =
            subst (All (λ i. i < length said)) (sym (ap (λ v. v.items) w.chosen-is ∙ w.in_ok-push.ensures.items))
            (All-push (λ i. i < length said) old (get_or origins index 0) c.origins.invariant.there
            (All-get_or (λ i. i < length said) origins index 0 c.origins-test.true c.requires));
        chosen =
            chosen_kept has_bibtex_type said origins index item old c.if-has_bibtex_type.chosen.items c.requires c.origins-test.true
            c.index-said-origins.is c.origins.invariant.chosen (sym c.has_bibtex_type.ensures ∙ w.if-has_bibtex_type.true)
            (ap (λ v. v.items) w.chosen-is ∙ w.in_ok-push.ensures.items);
      }
      | else-has_bibtex_type w ↦ record {
        there = subst (λ v. All (λ i. i < length said) v.items) (sym w.chosen-is) c.origins.invariant.there;
        chosen =
            ap (λ v. entries_at (map entry_reading_of said) v.items) w.chosen-is
            ∙ chosen_left has_bibtex_type said origins index item old c.requires c.origins-test.true c.index-said-origins.is
            c.origins.invariant.chosen (sym c.has_bibtex_type.ensures ∙ w.if-has_bibtex_type.false);
      }
    ]
