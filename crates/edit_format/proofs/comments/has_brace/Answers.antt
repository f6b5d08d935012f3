use Rattle.std.proofs.Common.{◌∙◌, ap}
use Rattle.std.specs.List.{list_any}
use Rattle.memchr.specs.Find.{is_byte2}
use Rattle.edit_format.proofs.BraceFacts.{found_is}
use Rattle.edit_format.proofs.comments.has_brace.Goals as goal

pub returns : goal.returns
returns c =
    c.is_some.ensures ∙ found_is (is_byte2 123 125) c.as_bytes.result.now c.memchr2.result c.memchr2.ensures
    ∙ ap (list_any (is_byte2 123 125)) c.as_bytes.ensures.value
