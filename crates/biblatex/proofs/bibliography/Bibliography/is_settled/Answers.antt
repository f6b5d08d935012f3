use Rattle.std.proofs.Common.{List, Bool, map, rules}
use Rattle.std.specs.Prelude.{◌↔◌, IsTrue, bytes_eq}
use Rattle.std.specs.List.{AllByRecursion, IsDistinct}
use Rattle.bib_entry.specs.declared.entry.Entry.{Entry}
use Rattle.biblatex.specs.Settled.{AreSettled, IsSettledEntry}
use Rattle.biblatex.proofs.bibliography.Bibliography.is_settled.Goals as goal

-- settled entries are a settled bibliography exactly if their keys are distinct
settled_if : (all : List Entry) (r : Bool) → AllByRecursion IsSettledEntry all
    → (IsTrue r ↔ IsDistinct bytes_eq (map (λ e. e.key) all)) → IsTrue r ↔ AreSettled all
settled_if all r each keys = (λ is. record { keys = keys.0 is; each = each }, λ settled. keys.1 settled.keys)

pub returns : goal.returns
returns c = settled_if c.args.self.now.entries _ (search rules) (search rules)
