use Rattle.std.proofs.Common.{sym, ap, cond, Some, None, ◌∙◌}
use Rattle.bibkit_core.specs.Escapes.{replacement_character}
use Rattle.bibkit_core.proofs.escapes.unless_allowed.Goals as goal

pub returns-else-is_xml_character : goal.returns-else-is_xml_character
unfolding lib.Utf8.encode
returns-else-is_xml_character c =
    sym (ap (λ b. cond b None (Some replacement_character)) (sym c.is_xml_character.ensures ∙ c.if-is_xml_character.false))
