use Rattle.std.proofs.Common.{sym}
use Rattle.std.specs.Str.{chars}
use Rattle.std.proofs.lemmas.Str.{encodes-chars}
use Rattle.bib_text.proofs.TextFacts.{pushed_chars}
use Rattle.bib_contents.proofs.writing.write_flat_if.Goals as goal

pub returns : goal.returns
returns c =
    rw c.if-is_flat.false
    (pushed_chars _ _ _ _ (chars c.args.part.now) c.in_ok-push_str.was c.push_str.ensures.bytes
    (sym (encodes-chars _ c.utf8.part)))
