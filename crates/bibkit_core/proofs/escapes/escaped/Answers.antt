use Rattle.std.proofs.Common.{◌++◌, [], ap, sym, ◌∙◌}
use Rattle.std.proofs.lemmas.List.{map-id, flat_map_more}
use Rattle.std.proofs.lemmas.Iterator.{YieldsList-from_chars}
use Rattle.std.proofs.lemmas.Iterator.Consumers.{YieldsList-end}
use Rattle.std.specs.List.{flat_map}
use Rattle.bibkit_core.specs.Escapes.{escaped_character}
use Rattle.bibkit_core.proofs.escapes.escaped.Goals as goal

pub characters-preserved : goal.characters-preserved
characters-preserved c =
    let write = escaped_character c.args.context in
    c.in_ok-push_escaped.ensures ∙ ap (λ t. t ++ write c.in-Some.character) c.characters.invariant
    ∙ flat_map_more write [] c.characters.yielded c.in-Some.character

pub returns : goal.returns
returns c =
    let t =
    YieldsList-end (YieldsList-from_chars c.args.text.now c.utf8.text cc) c.characters.yielded _ c.characters.yielded_by _ _
    c.in-None.is c.next.ensures.steps in
    c.characters.invariant ∙ ap (flat_map (escaped_character c.args.context)) (sym (map-id c.characters.yielded) ∙ t.0)
