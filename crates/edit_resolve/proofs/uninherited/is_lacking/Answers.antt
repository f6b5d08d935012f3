use Rattle.std.proofs.Common.{◌∙◌, ap, sym}
use Rattle.std.specs.BTreeSet.{contains_text}
use Rattle.bib_tables.specs.Requirements.{is_one_of}
use Rattle.edit_resolve.specs.Inheritance.{read_name}
use Rattle.edit_resolve.specs.Uninherited.{is_offered, linking_fields}
use Rattle.edit_resolve.proofs.UninheritedFacts.{lacks}
use Rattle.edit_resolve.proofs.uninherited.is_lacking.Goals as goal

pub returns : goal.returns
returns c = λ n read.
    lacks (is_one_of linking_fields (read_name n.name)) (is_offered c.args.link c.args.parent.now c.args.child.now n)
    (contains_text c.args.names.now (read_name n.name)) c.contains.result
    (ap (is_one_of linking_fields) (sym read) ∙ sym c.is_linking.ensures ∙ c.if-is_linking.false)
    (sym (c.is_offered.ensures n read) ∙ c.if-is_offered.false) (c.contains.ensures ∙ ap (contains_text c.args.names.now) read)
