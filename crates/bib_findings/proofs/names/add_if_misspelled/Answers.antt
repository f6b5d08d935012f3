use Rattle.std.proofs.Common.{◌≡◌, ◌++◌, OnOk, ap, append-nil, option_copied, subst, sym, ◌∙◌}
use Rattle.bib_syntax.specs.Views.{field_of}
use Rattle.bib_findings.specs.Met.{IsFieldName}
use Rattle.bib_findings.proofs.NameFacts.{for_any, foreign_known, misspelled_by, no_misspelled}
use Rattle.bib_findings.proofs.names.add_if_misspelled.Goals as goal

pub returns-in-Foreign-clause-added : goal.returns-in-Foreign-clause-added
returns-in-Foreign-clause-added c =
    let old = c.args.found.now.items in
    let is = subst (IsFieldName c.args.field.now.key.v.now) c.in-Foreign.is c.in_ok-meet.ensures.is in
    sym
    (ap (λ l. old ++ l) (no_misspelled c.args.key.now (field_of c.args.field.now) (foreign_known c.args.field.now.key.v.now is))
    ∙ append-nil old)

pub returns-in-Known-clause-added : goal.returns-in-Known-clause-added
returns-in-Known-clause-added c =
    let old = c.args.found.now.items in
    let is = subst (IsFieldName c.args.field.now.key.v.now) c.in-Known.is c.in_ok-meet.ensures.is in
    sym (ap (λ l. old ++ l) (no_misspelled c.args.key.now (field_of c.args.field.now) is.1) ∙ append-nil old)

pub returns-in-Unknown-clause-added : goal.returns-in-Unknown-clause-added
returns-in-Unknown-clause-added c =
    let key = c.args.key.now in
    let f = field_of c.args.field.now in
    let old = c.args.found.now.items in
    let is = subst (IsFieldName c.args.field.now.key.v.now) c.in-Unknown.is c.in_ok-meet.ensures.is in
    subst (λ l. OnOk c.add_if_meant.result (c.add_if_meant.new.found.items ≡ old ++ l))
    (sym (misspelled_by key f (option_copied c.in-Unknown.meant) is.1 is.2)) c.add_if_meant.ensures

pub returns-in-Unknown-clause-met : goal.returns-in-Unknown-clause-met
returns-in-Unknown-clause-met c = for_any c.add_if_meant.result _ c.in_ok-meet.ensures.met
