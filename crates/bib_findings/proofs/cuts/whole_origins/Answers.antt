use Rattle.std.proofs.Common.{◌≡◌, ◌<◌, Bool, length, get_or, map, not, ap, sym, subst, ◌∙◌}
use Rattle.std.specs.List.{All}
use Rattle.std.proofs.lemmas.List.Elements.{All-get_or, All-push}
use Rattle.bib_syntax.specs.Reading.{EntryReading}
use Rattle.bib_syntax.specs.Views.{entry_reading_of}
use Rattle.bib_findings.specs.Cuts.{is_cut}
use Rattle.bib_findings.specs.Duplicates.{entries_at}
use Rattle.bib_findings.proofs.ChosenFacts.{chosen_kept, chosen_left}
use Rattle.bib_findings.proofs.cuts.whole_origins.Goals as goal
use Rattle.bib_findings.proofs.cuts.whole_origins.Goals.{then-not-contains+in_ok-push, else-not-contains}

pub origins-preserved : goal.origins-preserved
origins-preserved c =
    let skipped = c.args.skipped.now in
    let said = c.args.said.now in
    let origins = c.args.origins.now in
    let index = c.origins.index in
    let item = c.index-said-origins.result in
    let old = c.origins.whole.items in
    let is_whole : EntryReading → Bool = λ one. not (is_cut skipped one) in
    let tells : c.contains.result ≡ is_cut skipped (entry_reading_of item) =
    c.contains.ensures ∙ c.in_ok-starts.ensures (get_or said (get_or origins index 0) item).span.start
    ∙ ap (λ e. is_cut skipped (entry_reading_of e)) (sym c.index-said-origins.is) in
    elim c.if-not-contains.branch [
      | then-not-contains+in_ok-push w ↦ record {
        there =
            subst (All (λ i. i < length said)) (sym (ap (λ v. v.items) w.whole-is ∙ w.in_ok-push.ensures.items))
            (All-push (λ i. i < length said) old (get_or origins index 0) c.origins.invariant.there
            (All-get_or (λ i. i < length said) origins index 0 c.origins-test.true c.requires));
        whole =
            chosen_kept is_whole said origins index item old c.if-not-contains.whole.items c.requires c.origins-test.true
            c.index-said-origins.is c.origins.invariant.whole (ap not (sym tells ∙ w.if-not-contains.true))
            (ap (λ v. v.items) w.whole-is ∙ w.in_ok-push.ensures.items);
      }
      | else-not-contains w ↦ record {
        there = subst (λ v. All (λ i. i < length said) v.items) (sym w.whole-is) c.origins.invariant.there;
        whole =
            ap (λ v. entries_at (map entry_reading_of said) v.items) w.whole-is
            ∙ chosen_left is_whole said origins index item old c.requires c.origins-test.true c.index-said-origins.is
            c.origins.invariant.whole (ap not (sym tells ∙ w.if-not-contains.false));
      }
    ]
