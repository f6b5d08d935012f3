use Rattle.std.proofs.Common.{Some, sym, subst, ◌∙◌}
use Rattle.std.specs.BTreeMap.{get_by_text}
use Rattle.std.specs.String.{string_bytes}
use Rattle.std.proofs.lemmas.Map.Text.{btree_map_updates_text}
use Rattle.bib_findings.specs.Met.{IsFieldName}
use Rattle.bib_findings.proofs.NameFacts.{frequent_known, names_more}
use Rattle.bib_findings.proofs.names.meet.Goals as goal

pub returns-clause-met : goal.returns-clause-met
returns-clause-met c =
    let key = string_bytes c.in_ok-from_str.field-0 in
    names_more (get_by_text c.args.met.now) (get_by_text c.insert.new.self) key c.in_ok-is.is' c.requires
    (subst (λ name. IsFieldName name c.in_ok-is.is') (sym c.in_ok-from_str.ensures.ok) c.in_ok-is.ensures)
    (btree_map_updates_text key c.args.met.now c.insert.new.self (Some c.in_ok-is.is') c.in_ok-insert.ensures.updates)

pub returns-then-is_frequent_field-clause-is : goal.returns-then-is_frequent_field-clause-is
returns-then-is_frequent_field-clause-is c =
    frequent_known c.args.name.now (sym c.is_frequent_field.ensures ∙ c.if-is_frequent_field.true)
