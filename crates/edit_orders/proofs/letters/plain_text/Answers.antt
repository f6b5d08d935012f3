use Rattle.std.proofs.Common.{◌≡◌, ap, sym, ◌∙◌}
use Rattle.std.specs.Prelude.{chars, encode_utf8_all}
use Rattle.std.specs.List.{flat_map}
use Rattle.std.specs.StrCase.Lower.{str_to_lowercase}
use Rattle.std.proofs.lemmas.List.{map-id}
use Rattle.std.proofs.lemmas.Str.{encodes-chars, encodes_same}
use Rattle.unicode_normalization.specs.Forms.{nfkd}
use Rattle.std.proofs.lemmas.Iterator.{YieldsList-from_chars}
use Rattle.std.proofs.lemmas.Iterator.Consumers.{YieldsList-end}
use Rattle.edit_orders.specs.Letters.{sort_character, without_commands}
use Rattle.edit_orders.proofs.letters.plain_text.Goals as goal

pub returns : goal.returns
returns c =
    let kept : chars c.deref.result.now ≡ without_commands (chars c.args.text.now) =
    encodes_same (chars c.deref.result.now) (without_commands (chars c.args.text.now))
    (encodes-chars c.deref.result.now c.deref.utf8 ∙ c.deref.ensures ∙ c.in_ok-kept.ensures) in
    let all =
    YieldsList-end (YieldsList-from_chars c.deref-3.result.now c.deref-3.utf8 cc) c.chars.yielded _ c.chars.yielded_by _ _
    c.in-None.is c.next.ensures.steps in
    c.chars.invariant ∙ ap (flat_map sort_character) (sym (map-id c.chars.yielded) ∙ all.0
    ∙ ap chars
    (c.deref-3.ensures ∙ c.in_ok-lowercase.ensures.value
    ∙ ap str_to_lowercase
    (c.deref-2.ensures ∙ c.in_ok-decomposed.ensures ∙ ap (λ cs. encode_utf8_all (nfkd cs)) kept)))
