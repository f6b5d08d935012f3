use Rattle.std.specs.Prelude.{codes}
use Rattle.std.proofs.lemmas.Str.Pattern.{ends_text}
use Rattle.bibkit_core.proofs.cited.is_control_file.Goals as goal

pub returns : goal.returns
returns c = ends_text c.ends_with.result (codes ".bcf") c.args.name.now c.ends_with.ensures.cases
