use Rattle.std.proofs.Common.{◌++◌, ◌∙◌, ap, sym, map}
use Rattle.std.proofs.lemmas.List.{map-id}
use Rattle.std.proofs.lemmas.Iterator.{YieldsList-from_chars}
use Rattle.std.proofs.lemmas.Iterator.Consumers.{YieldsList-end}
use Rattle.bib_from_json.specs.Atoms.{atom_of, styled_character}
use Rattle.bib_from_json.proofs.comparing.push_characters.Goals as goal

pub returns : goal.returns
returns c =
    let all =
    YieldsList-end (YieldsList-from_chars c.args.text.now c.utf8.text cc) c.text.yielded _ c.text.yielded_by _ _
    c.in-None.is c.next.ensures.steps in
    c.text.invariant
    ∙ ap (λ cs. map atom_of c.args.atoms.now.items ++ map (styled_character c.args.is_verbatim) cs) (sym (map-id c.text.yielded) ∙ all.0)
