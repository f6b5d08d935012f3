use Rattle.std.proofs.Common.{◌∙◌, ◌++◌, lit<, ap, map, sym, arith, append-nil}
use Rattle.std.specs.Prelude.{◌==◌}
use Rattle.std.proofs.lemmas.Grind.{common_steps}
use Rattle.std.specs.List.{before_first, flat_map, slice_split}
use Rattle.std.proofs.lemmas.Iterator.Consumers.{YieldsList-end}
use Rattle.std.proofs.lemmas.Iterator.Splits.{YieldsList-from_str_split}
use Rattle.std.proofs.lemmas.Str.Pattern.{split_once_first}
use Rattle.bib_keys.specs.Commands.{without_name}
use Rattle.bib_keys.proofs.CommandFacts.{no_commands, after_backslashes}
use Rattle.bib_keys.proofs.commands.without_names.Goals as goal

pub returns-in_default : goal.returns-in_default
returns-in_default c =
    let text = c.args.text.now in
    let none = rw c.in_default.is at (split_once_first 92 text c.split_once.result c.split_once.ensures.cases (lit< tt)) in
    let same = no_commands c.args.is_math text none in
    rw (sym same) c.from_str.ensures.ok

pub commands-init : goal.commands-init
commands-init c = sym (append-nil _)

pub commands-preserved : goal.commands-preserved
commands-preserved c = grind (arith, common_steps)

pub returns : goal.returns
returns c =
    let text = c.args.text.now in
    let parts = rw c.in-Some.is at (split_once_first 92 text c.split_once.result c.split_once.ensures.cases (lit< tt)) in
    let all =
    YieldsList-end (YieldsList-from_str_split 92 c.in-Some.commands.now (lit< tt) (cc) (cc) (cc)) c.commands.yielded _
    c.commands.yielded_by _ _ c.in-None.is c.next.ensures.steps in
    c.commands.invariant
    ∙ ap (λ l. l ++ flat_map (without_name c.args.is_math) (map (λ command. command.now) c.commands.yielded))
    (c.in_ok-out.ensures.ok ∙ parts.1)
    ∙ ap (λ l. before_first (λ b. b == 92) text ++ flat_map (without_name c.args.is_math) l)
    (all.0 ∙ ap (slice_split (λ b. b == 92)) parts.2)
    ∙ after_backslashes c.args.is_math text parts.0
