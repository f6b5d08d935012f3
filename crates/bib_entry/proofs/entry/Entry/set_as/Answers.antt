use Rattle.std.proofs.Common.{rules, map}
use Rattle.std.specs.Char.{to_ascii_lowercase}
use Rattle.bib_entry.proofs.FieldFacts.{is_set}
use Rattle.bib_entry.proofs.entry.Entry.set_as.Goals as goal

pub returns : goal.returns
returns g c =
    is_set g.T.Type g.met.T.Type.survives (g.T.Type.meaning c.args.value.now) (map to_ascii_lowercase c.args.name.now)
    c.args.self.now _ _ (search rules) (search rules)
