use Rattle.std.proofs.Common.{arith}
use Rattle.std.proofs.lemmas.Grind.{common_steps}
use Rattle.bib_source.proofs.InvalidFacts.{from_rest}
use Rattle.bib_source.proofs.decoding.decode.Goals as goal

pub returns-in_ok-windows_1252_text-in-Err-clause-invalid :
    goal.returns-in_ok-windows_1252_text-in-Err-clause-invalid
returns-in_ok-windows_1252_text-in-Err-clause-invalid c =
    from_rest _ _ _ _ c.mark_length-start.ensures.value c.valid_up_to.ensures c.in-Err.ensures.cases.1

pub returns-in_ok-from_str-in-Ok-clause-utf8 : goal.returns-in_ok-from_str-in-Ok-clause-utf8
returns-in_ok-from_str-in-Ok-clause-utf8 c = grind (arith, common_steps)

pub returns-in_ok-from_str-in-Ok-clause-windows : goal.returns-in_ok-from_str-in-Ok-clause-windows
returns-in_ok-from_str-in-Ok-clause-windows c = grind (arith, common_steps)

pub returns-in_ok-from_str-in-Ok-clause-invalid : goal.returns-in_ok-from_str-in-Ok-clause-invalid
returns-in_ok-from_str-in-Ok-clause-invalid c = grind (arith, common_steps)

pub returns-in_ok-windows_1252_text-in-Err-clause-utf8 : goal.returns-in_ok-windows_1252_text-in-Err-clause-utf8
returns-in_ok-windows_1252_text-in-Err-clause-utf8 c = grind (arith, common_steps)

pub from_str-requires-text-s : goal.from_str-requires-text-s
from_str-requires-text-s c = grind (arith, common_steps)
