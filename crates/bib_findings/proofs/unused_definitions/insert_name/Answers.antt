use Rattle.std.proofs.Common.{ap, ◌∙◌, true, not}
use Rattle.std.specs.BTreeSet.{contains_text}
use Rattle.std.specs.Str.{str_to_ascii_lowercase}
use Rattle.std.specs.String.{string_bytes}
use Rattle.std.proofs.lemmas.Map.Text.{btree_set_updates_text}
use Rattle.bib_findings.proofs.RepeatedFacts.{seen_more}
use Rattle.bib_findings.proofs.unused_definitions.insert_name.Goals as goal

pub returns-clause-set : goal.returns-clause-set
returns-clause-set c = λ names has.
    let key = string_bytes c.in_ok-lower.lower in
    seen_more str_to_ascii_lowercase (contains_text c.args.set.now) (contains_text c.insert.new.self) names c.args.name.now key
    c.in_ok-lower.ensures.ok has (btree_set_updates_text key c.args.set.now c.insert.new.self true c.in_ok-insert.ensures.updates)

pub returns-clause-new : goal.returns-clause-new
returns-clause-new c = λ names has.
    c.in_ok-insert.ensures.added
    ∙ ap (λ n. not (contains_text c.args.set.now n)) c.in_ok-lower.ensures.ok
    ∙ ap not (has (str_to_ascii_lowercase c.args.name.now))
