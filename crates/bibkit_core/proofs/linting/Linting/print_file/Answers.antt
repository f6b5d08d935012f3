use Rattle.bibkit_core.proofs.FindingFacts.{added_alone}
use Rattle.bibkit_core.proofs.linting.Linting.print_file.Goals as goal

pub returns-clause-printed : goal.returns-clause-printed
returns-clause-printed c =
    let printed = added_alone c.nothing-printed.ensures.text c.in_ok-print_file.ensures in
    record {
      decoded = c.in_ok-decoded.decoded;
      of_bytes = c.in_ok-decoded.ensures;
      printed = rw (c.take_text.ensures.text, c.take_text.ensures.tally, ← c.nothing-printed.ensures.tally) printed;
    }
