use Rattle.std.proofs.Common.{arith}
use Rattle.std.proofs.lemmas.Result.{err_from_is_err_and}
use Rattle.biblatex.proofs.InsideFacts.{refused_inside}
use Rattle.biblatex.proofs.RefusalFacts.{accepted_text, bibliography_of, refused_syntax, refused_text}
use Rattle.biblatex.proofs.bibliography.Bibliography.parse.Goals as goal

pub returns-in_err-raw-clause-refused : goal.returns-in_err-raw-clause-refused
returns-in_err-raw-clause-refused c =
    let p = err_from_is_err_and c.from_residual.result c.from_residual.ensures.1 in
    rw (p.1, p.2) (refused_syntax c.in_err-raw.ensures.refused c.in_err-raw.ensures.reported)

pub returns-clause-loaded : goal.returns-clause-loaded
returns-clause-loaded c = bibliography_of c.args.src.now c.from_raw.result c.in_ok-raw.ensures.read c.from_raw.ensures.loaded

pub returns-clause-accepted : goal.returns-clause-accepted
returns-clause-accepted c = accepted_text c.args.src.now c.from_raw.result c.in_ok-raw.ensures.read c.from_raw.ensures.loaded

pub returns-clause-refused : goal.returns-clause-refused
returns-clause-refused c = refused_text c.args.src.now c.from_raw.result c.in_ok-raw.ensures.read c.from_raw.ensures.refused

pub returns-clause-inside : goal.returns-clause-inside
returns-clause-inside c =
    refused_inside _ c.args.src.now c.from_raw.result (omega (arith, c.type_inv.src)) c.in_ok-raw.ensures.read
    c.from_raw.ensures.refused
