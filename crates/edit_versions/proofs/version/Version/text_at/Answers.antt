use Rattle.std.proofs.Common.{◌∙◌, ap, sym}
use Rattle.std.specs.Prelude.{option_map}
use Rattle.edit_versions.specs.Views.{texts_view}
use Rattle.edit_versions.proofs.TextFacts.{text_there}
use Rattle.edit_versions.proofs.version.Version.text_at.Goals as goal

pub returns-in-Some : goal.returns-in-Some
returns-in-Some c =
    sym (ap (λ found. option_map (λ t. t.text) (texts_view found)) c.in-Some.is) ∙ ap (option_map (λ t. t.text)) c.texts_at.ensures
    ∙ text_there c.args.self.now c.args.index

pub returns-in-None : goal.returns-in-None
returns-in-None c =
    sym (ap (λ found. option_map (λ t. t.text) (texts_view found)) c.in-None.is) ∙ ap (option_map (λ t. t.text)) c.texts_at.ensures
    ∙ text_there c.args.self.now c.args.index
