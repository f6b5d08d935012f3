use Rattle.std.proofs.Common.{ap, ◌∙◌, sym, true}
use Rattle.bibkit_commands.specs.EditsAsked.{field_from, field_by_colon}
use Rattle.bibkit_commands.proofs.edit_arguments.field_from.Goals as goal

pub returns-in-Some : goal.returns-in-Some
unfolding field_from
returns-in-Some c = ap (λ name. field_by_colon name (c.args.name.now, c.args.value.now)) c.in-Some.ensures

pub returns-in-None : goal.returns-in-None
unfolding field_from
returns-in-None c =
    ap (λ bare. (c.args.name.now, (bare, c.args.value.now))) (sym c.if-is_month.true ∙ c.is_month.ensures)
    ∙ ap (λ name. field_by_colon name (c.args.name.now, c.args.value.now)) c.in-None.ensures

pub returns-in-None-2 : goal.returns-in-None-2
unfolding field_from
returns-in-None-2 c =
    ap (λ bare. (c.args.name.now, (bare, c.args.value.now))) (sym c.if-is_month.false ∙ c.is_month.ensures)
    ∙ ap (λ name. field_by_colon name (c.args.name.now, c.args.value.now)) c.in-None.ensures
