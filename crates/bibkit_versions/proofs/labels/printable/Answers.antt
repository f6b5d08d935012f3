use Rattle.std.proofs.Common.{◌++◌, [], ap, sym, ◌∙◌}
use Rattle.std.proofs.lemmas.List.{map-id, flat_map_more}
use Rattle.std.proofs.lemmas.Iterator.{YieldsList-from_chars}
use Rattle.std.proofs.lemmas.Iterator.Consumers.{YieldsList-end}
use Rattle.std.specs.List.{flat_map}
use Rattle.bibkit_versions.specs.Labels.{printable_character}
use Rattle.bibkit_versions.proofs.labels.printable.Goals as goal

pub characters-preserved : goal.characters-preserved
characters-preserved c =
    c.in_ok-push_printable.ensures ∙ ap (λ t. t ++ printable_character c.in-Some.c) c.characters.invariant
    ∙ flat_map_more printable_character [] c.characters.yielded c.in-Some.c

pub returns : goal.returns
returns c =
    let t =
    YieldsList-end (YieldsList-from_chars c.args.text.now c.utf8.text cc) c.characters.yielded _ c.characters.yielded_by _ _
    c.in-None.is c.next.ensures.steps in
    c.characters.invariant ∙ ap (flat_map printable_character) (sym (map-id c.characters.yielded) ∙ t.0)
