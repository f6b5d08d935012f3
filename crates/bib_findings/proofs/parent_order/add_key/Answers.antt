use Rattle.std.specs.BTreeSet.{contains_text}
use Rattle.std.specs.String.{string_bytes}
use Rattle.std.proofs.Common.{true}
use Rattle.std.proofs.lemmas.Map.Text.{btree_set_updates_text}
use Rattle.bib_syntax.specs.Views.{entry_reading_of}
use Rattle.bib_findings.specs.FirstKeys.{lowercase_key}
use Rattle.bib_findings.proofs.RepeatedFacts.{seen_more}
use Rattle.bib_findings.proofs.parent_order.add_key.Goals as goal

pub returns : goal.returns
returns c = λ earlier are.
    let key = string_bytes c.in_ok-to_ascii_lowercase.field-0 in
    seen_more lowercase_key (contains_text c.args.seen.now) (contains_text c.insert.new.self) earlier
    (entry_reading_of c.args.said.now) key c.in_ok-to_ascii_lowercase.ensures.ok are
    (btree_set_updates_text key c.args.seen.now c.insert.new.self true c.in_ok-insert.ensures.updates)
