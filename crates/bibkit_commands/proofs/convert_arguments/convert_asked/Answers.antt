use Rattle.std.proofs.Common.{◌≡◌, ◌∙◌, ap, subst, sym}
use Rattle.std.specs.Prelude.{IfOk}
use Rattle.std.specs.Option.{option_or}
use Rattle.bibkit_commands.specs.Arguments.{arguments_of}
use Rattle.bibkit_commands.specs.Asked.{IsConversionOf, case_refused, wrong_formats}
use Rattle.bibkit_commands.proofs.convert_arguments.convert_asked.Goals as goal

pub returns : goal.returns
returns c =
    let arguments = arguments_of c.args.matches.now in
    subst (λ wrong. IfOk c.conversion_asked.result (IsConversionOf wrong arguments))
    (sym (ap (λ b. option_or (case_refused b) (wrong_formats arguments)) (sym c.is_case_wrong.ensures ∙ c.if-is_case_wrong.false)))
    c.conversion_asked.ensures
