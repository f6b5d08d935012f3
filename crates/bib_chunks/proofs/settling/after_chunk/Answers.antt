use Rattle.bib_chunks.proofs.SettledFacts.{chunk_of_normal, chunk_of_verbatim, math_stuck, math_on}
use Rattle.bib_chunks.proofs.settling.after_chunk.Goals as goal

pub returns-then-not-is_settled_math : goal.returns-then-not-is_settled_math
returns-then-not-is_settled_math c =
    math_stuck c.args.is_verbatim c.args.before c.args.chunk.now _ c.as_str-in-Math.result.now c.in-Math.is
    c.as_str-in-Math.ensures c.as_str-in-Math.utf8 c.if-not-is_settled_math.ensures

pub returns-in-Normal : goal.returns-in-Normal
returns-in-Normal c =
    chunk_of_normal c.args.is_verbatim c.args.before c.after_text.result c.args.chunk.now _ c.as_str.result.now
    c.in-Normal.is c.as_str.ensures c.after_text.ensures

pub returns-in-Verbatim : goal.returns-in-Verbatim
returns-in-Verbatim c =
    chunk_of_verbatim c.args.is_verbatim c.args.before c.after_text-in-Verbatim.result c.args.chunk.now _
    c.as_str-in-Verbatim.result.now c.in-Verbatim.is c.as_str-in-Verbatim.ensures c.after_text-in-Verbatim.ensures

pub returns-else-not-is_settled_math : goal.returns-else-not-is_settled_math
returns-else-not-is_settled_math c =
    math_on c.args.is_verbatim c.args.before c.args.chunk.now _ c.as_str-in-Math.result.now c.in-Math.is
    c.as_str-in-Math.ensures c.as_str-in-Math.utf8 c.if-is_verbatim.false c.if-not-is_settled_math.ensures
