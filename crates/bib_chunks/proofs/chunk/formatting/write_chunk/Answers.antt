use Rattle.std.proofs.Common.{sym}
use Rattle.std.proofs.lemmas.Str.{encodes-chars}
use Rattle.bib_chunks.specs.Formatted.{formatted_chunk}
use Rattle.bib_text.proofs.TextFacts.{pushed_chars}
use Rattle.bib_chunks.proofs.FormattedFacts.{formatted_verbatim}
use Rattle.bib_chunks.proofs.chunk.formatting.write_chunk.Goals as goal

pub returns-in_ok-push_str-in-Verbatim-clause-written : goal.returns-in_ok-push_str-in-Verbatim-clause-written
returns-in_ok-push_str-in-Verbatim-clause-written c =
    pushed_chars _ _ _ _ (formatted_chunk (λ cs. cs) c.args.space c.args.chunk.now) c.in_ok-push_str-in-Verbatim.was
    c.push_str.ensures.bytes
    (formatted_verbatim (λ cs. cs) c.args.space _ _ c.as_str-in-Verbatim.result.now c.in-Verbatim.is
    c.as_str-in-Verbatim.ensures (sym (encodes-chars _ c.as_str-in-Verbatim.utf8)))
