use Rattle.std.proofs.Common.{refl, ◌∙◌}
use Rattle.std.proofs.lemmas.List.{drop_all}
use Rattle.bib_text.proofs.ListFacts.{drop_is}
use Rattle.bib_file_entries.proofs.KeepingFacts.{kept_none, kept_next, left_out_next, kept_all}
use Rattle.bib_file_entries.proofs.keeping.keep_fields.Goals as goal

pub fields-init : goal.fields-init
fields-init c = record { same = refl; kept = rw c.in_ok-pairs.ensures.items (kept_none _ _ _) }

pub fields-preserved : goal.fields-preserved
fields-preserved c =
    let here = drop_is c.args.fields.now c.fields.field-index c.field-item.result c.fields-test.true c.field-item.is in
    record {
      same = c.in_ok-kept.ensures.same ∙ c.fields.invariant.same;
      kept =
          rw c.in_ok-push-in-Some.ensures.items
          (kept_next c.in-Some.pair (rw here at c.fields.invariant.kept)
          (rw (c.fields.invariant.same, c.in-Some.is) at c.in_ok-kept.ensures.tried));
    }

pub fields-preserved-in-None : goal.fields-preserved-in-None
fields-preserved-in-None c =
    let here = drop_is c.args.fields.now c.fields.field-index c.field-item.result c.fields-test.true c.field-item.is in
    record {
      same = c.in_ok-kept.ensures.same ∙ c.fields.invariant.same;
      kept = left_out_next (rw here at c.fields.invariant.kept) (rw (c.fields.invariant.same, c.in-None.is) at c.in_ok-kept.ensures.tried);
    }

pub returns-clause-kept : goal.returns-clause-kept
returns-clause-kept c = kept_all (rw (drop_all c.fields.field-index c.args.fields.now c.fields-test.false) at c.fields.invariant.kept)
