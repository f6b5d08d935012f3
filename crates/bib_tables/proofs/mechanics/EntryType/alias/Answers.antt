use Rattle.std.proofs.Common.{sym}
use Rattle.bib_text.proofs.EnumFacts.{named_none}
use Rattle.bib_tables.specs.EntryType.{alias_names}
use Rattle.bib_tables.proofs.mechanics.EntryType.alias.Goals as goal

pub returns-in_default : goal.returns-in_default
returns-in_default c =
    sym (named_none alias_names c.args.name.now (c.in_default.not-conference, (c.in_default.not-electronic, (c.in_default.not-www, tt))))
