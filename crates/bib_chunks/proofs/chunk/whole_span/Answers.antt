use Rattle.bib_chunks.proofs.SpanFacts.{whole_span_is}
use Rattle.bib_chunks.proofs.chunk.whole_span.Goals as goal

pub returns : goal.returns
returns c = whole_span_is c.args.chunks.now c.in-Some.first.now c.in-Some-last.last.now c.in-Some.ensures.value c.in-Some-last.ensures.value
