use Rattle.std.proofs.Common.{sym}
use Rattle.std.specs.Str.{chars}
use Rattle.std.proofs.lemmas.Str.{encodes-chars}
use Rattle.bib_text.proofs.TextFacts.{pushed_chars}
use Rattle.bib_chunks.proofs.WrittenFacts.{written_math}
use Rattle.bib_chunks.proofs.chunk.writing.write_chunk.Goals as goal

pub returns-in_ok-push_str-in-Math : goal.returns-in_ok-push_str-in-Math
returns-in_ok-push_str-in-Math c =
    rw
    (written_math c.args.is_verbatim c.args.chunk.now _ c.as_str-in-Math.result.now c.if-is_verbatim.false
    c.in-Math.is c.as_str-in-Math.ensures)
    (pushed_chars _ _ _ _ (chars c.as_str-in-Math.result.now) c.in_ok-push_str-in-Math.was c.push_str.ensures.bytes
    (sym (encodes-chars _ c.as_str-in-Math.utf8)))
