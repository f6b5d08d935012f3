use Rattle.std.proofs.Common.{sym, ◌∙◌, ap}
use Rattle.bib_tables.specs.declared.mechanics.EntryType.TheVariants.{Unknown}
use Rattle.bib_tables.proofs.EntryTypeFacts.{type_as_written, type_as_lowered, type_unknown}
use Rattle.bib_tables.proofs.mechanics.EntryType.new.Goals as goal

pub returns-in-Some-clause-ok : goal.returns-in-Some-clause-ok
returns-in-Some-clause-ok c = sym (type_as_written c.args.name.now _ (sym c.in-Some.ensures))

pub returns-in-Some-from_name_or_alias-clause-ok : goal.returns-in-Some-from_name_or_alias-clause-ok
returns-in-Some-from_name_or_alias-clause-ok c =
    sym
    (type_as_lowered c.args.name.now c.as_str.result.now _ (c.as_str.ensures.value ∙ c.in_ok-lowered.ensures.ok)
    (sym c.in-Some-from_name_or_alias.ensures))

pub returns-in-None-clause-ok : goal.returns-in-None-clause-ok
returns-in-None-clause-ok c =
    ap Unknown (c.from_string.ensures ∙ sym c.as_str.ensures.value)
    ∙ sym (type_unknown c.args.name.now c.as_str.result.now (c.as_str.ensures.value ∙ c.in_ok-lowered.ensures.ok) (sym c.in-None.ensures))
