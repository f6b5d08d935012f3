use Rattle.std.proofs.Common.{map}
use Rattle.std.specs.String.{string_bytes}
use Rattle.bibkit_edits.proofs.EditedFacts.{removal_made}
use Rattle.bibkit_edits.proofs.editing.remove_entries.Goals as goal

pub returns-clause-made : goal.returns-clause-made
returns-clause-made c =
    removal_made (map (λ k. k.now) c.args.keys.now) c.in_ok-set.set c.args.document.now (string_bytes c.in_ok-remove_entries.field-0)
    c.in_ok-set.ensures c.in_ok-remove_entries.ensures
