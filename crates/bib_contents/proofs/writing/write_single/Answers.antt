use Rattle.std.proofs.Common.{◌≡◌, ◌∙◌, ◌∷◌, []}
use Rattle.std.specs.Str.{chars}
use Rattle.bib_text.proofs.TextFacts.{chars_whole, encode_one}
use Rattle.bib_contents.proofs.writing.write_single.Goals as goal

pub returns : goal.returns
returns c =
    let one : chars c.encode_utf8.result.now ≡ c.args.c ∷ [] =
    chars_whole (c.args.c ∷ []) c.encode_utf8.result.now c.encode_utf8.utf8
    (c.encode_utf8.ensures.value ∙ encode_one c.args.c) in
    rw (← one) c.write_command.ensures
