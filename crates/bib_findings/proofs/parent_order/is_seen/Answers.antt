use Rattle.std.proofs.Common.{ap, ◌∙◌}
use Rattle.std.specs.BTreeSet.{contains_text}
use Rattle.std.specs.Str.{str_to_ascii_lowercase}
use Rattle.bib_findings.proofs.parent_order.is_seen.Goals as goal

pub returns : goal.returns
returns c = λ earlier are.
    c.contains.ensures ∙ ap (contains_text c.args.seen.now) (c.as_str.ensures.value ∙ c.in_ok-lowercase.ensures.ok)
    ∙ are (str_to_ascii_lowercase c.args.key.now)
