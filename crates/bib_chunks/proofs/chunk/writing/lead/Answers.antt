use Rattle.std.proofs.Common.{sym, ap, ◌∙◌}
use Rattle.bib_chunks.specs.declared.chunk.Chunk.TheVariants.{Verbatim}
use Rattle.bib_chunks.specs.Written.{lead}
use Rattle.bib_chunks.proofs.chunk.writing.lead.Goals as goal

pub returns-else-is_open-2 : goal.returns-else-is_open-2
returns-else-is_open-2 c =
    sym (ap (lead c.args.is_open) c.in-Verbatim.is ∙ ap (λ o. lead o (Verbatim c.in-Verbatim.field-0)) c.if-is_open-2.false)
