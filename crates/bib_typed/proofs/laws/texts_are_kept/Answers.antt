use Rattle.std.proofs.lemmas.Str.{IsUtf8-string_bytes}
use Rattle.bib_typed.proofs.laws.texts_are_kept.Goals as goal

pub returns : goal.returns
returns c = IsUtf8-string_bytes c.args.text.now
