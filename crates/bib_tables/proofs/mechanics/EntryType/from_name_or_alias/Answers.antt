use Rattle.std.proofs.Common.{sym, ◌∙◌}
use Rattle.bib_text.proofs.EnumFacts.{named-append-some, named-append-none}
use Rattle.bib_tables.specs.EntryType.{entry_type_named, entry_type_by_name_or_alias, type_names, alias_names}
use Rattle.bib_tables.proofs.mechanics.EntryType.from_name_or_alias.Goals as goal

pub returns-in-Some : goal.returns-in-Some
unfolding entry_type_named entry_type_by_name_or_alias
returns-in-Some c = sym (named-append-some type_names alias_names c.args.name.now _ (sym c.in-Some.ensures))

pub returns : goal.returns
unfolding entry_type_named entry_type_by_name_or_alias
returns c =
    c.alias.ensures ∙ sym (named-append-none type_names alias_names c.args.name.now (sym c.from_name.ensures ∙ c.in_default.is))
