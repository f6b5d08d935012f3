use Rattle.std.proofs.Common.{sym, ap}
use Rattle.bib_chunks.specs.Written.{is_open_after}
use Rattle.bib_chunks.proofs.chunk.writing.is_open_after.Goals as goal

pub returns-in-Verbatim : goal.returns-in-Verbatim
returns-in-Verbatim c = sym (ap (is_open_after c.args.is_open) c.in-Verbatim.is)
