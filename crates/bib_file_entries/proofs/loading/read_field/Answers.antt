use Rattle.std.proofs.Common.{◌∙◌}
use Rattle.bib_file_entries.proofs.loading.read_field.Goals as goal

pub returns-clause-value : goal.returns-clause-value
returns-clause-value c =
    let read = c.in_ok-chunks.ensures in
    let named = c.as_str.ensures.value ∙ c.in_ok-name.ensures.ok in
    rw c.shrink_chunks.ensures (rw named at read.contents)
