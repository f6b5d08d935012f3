use Rattle.std.proofs.lemmas.Grind.{common_steps}
use Rattle.std.proofs.Common.{ap, sym, ◌∙◌, arith}
use Rattle.std.specs.Prelude.{chars}
use Rattle.std.specs.List.{flat_map}
use Rattle.std.proofs.lemmas.List.{map-id}
use Rattle.std.proofs.lemmas.Iterator.{YieldsList-from_chars}
use Rattle.std.proofs.lemmas.Iterator.Consumers.{YieldsList-end}
use Rattle.std.proofs.lemmas.Str.{encodes-chars, encodes_same}
use Rattle.unicode_normalization.specs.Forms.{nfkd}
use Rattle.bib_keys.specs.Letters.{key_letter}
use Rattle.bib_keys.proofs.letters.key_letters.Goals as goal

pub returns : goal.returns
returns c =
    let decomposed = c.deref.result.now in
    let form = nfkd (chars c.args.text.now) in
    let all =
    YieldsList-end (YieldsList-from_chars decomposed c.deref.utf8 cc) c.chars.yielded _ c.chars.yielded_by _ _
    c.in-None.is c.next.ensures.steps in
    c.chars.invariant
    ∙ ap (flat_map key_letter)
    (sym (map-id c.chars.yielded) ∙ all.0
    ∙ encodes_same (chars decomposed) form (encodes-chars decomposed c.deref.utf8 ∙ c.deref.ensures ∙ c.in_ok-decomposed.ensures))

pub chars-preserved : goal.chars-preserved
chars-preserved c = grind (arith, common_steps)
