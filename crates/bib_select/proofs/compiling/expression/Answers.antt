use Rattle.bib_select.proofs.compiling.expression.Goals as goal

pub returns-in-Err-clause-refused : goal.returns-in-Err-clause-refused
returns-in-Err-clause-refused c =
    c.expression_error.ensures c.args.source.now (c.in-Err.ensures.by_grammar, c.in-Err.ensures.kind, c.in-Err.ensures.span)
