use Rattle.std.proofs.Common.{◌<◌, length, arith}
use Rattle.bib_contents.specs.Arguments.{Closes}
use Rattle.bib_contents.proofs.ArgumentFacts.{known_encloses, closes_boundary}
use Rattle.bib_contents.proofs.units.argument_in_braces.Goals as goal

pub jump-requires : goal.jump-requires
jump-requires c =
    let within : c.in-Some.end < length c.args.s.now.text = omega (arith, c.len.ensures, c.if-len-end.false) in
    let closes : Closes c.args.s.now.text c.cursor-start.result c.in-Some.end =
    c.in-Some.ensures c.args.s.now.text c.requires.known within in
    closes_boundary closes (rw c.cursor-start.ensures.place c.cursor-start.ensures.utf8) within

pub returns-clause-found : goal.returns-clause-found
returns-clause-found c =
    let within : c.in-Some.end < length c.args.s.now.text = omega (arith, c.len.ensures, c.if-len-end.false) in
    let closes : Closes c.args.s.now.text c.cursor-start.result c.in-Some.end =
    c.in-Some.ensures c.args.s.now.text c.requires.known within in
    known_encloses c.cursor-start.result c.in-Some.end c.eat.result closes c.cursor-start.ensures.place
    c.jump.ensures.place c.cursor-start.ensures.utf8 within c.eat.ensures c.back_to-inside.ensures.place
    c.back_to-inside.ensures.utf8
