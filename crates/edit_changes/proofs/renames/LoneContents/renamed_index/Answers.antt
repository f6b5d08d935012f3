use Rattle.std.proofs.Common.{ap, sym, ◌∙◌}
use Rattle.std.specs.Prelude.{option_map}
use Rattle.edit_changes.specs.Renames.{counterpart, renamed_index}
use Rattle.edit_changes.proofs.renames.LoneContents.renamed_index.Goals as goal

pub returns-in-Some : goal.returns-in-Some
returns-in-Some c =
    let own = c.args.self.now in
    let others = c.args.others.now in
    c.counterpart.ensures ∙ ap (counterpart own others) c.as_str.ensures
    ∙ ap (λ found. renamed_index own others (option_map (λ content. content.now) found)) (sym c.in-Some.is)
    ∙ ap (renamed_index own others) c.content_at.ensures
