use Rattle.std.proofs.Common.{◌∙◌, ap, sym}
use Rattle.std.specs.Str.{chars}
use Rattle.std.proofs.lemmas.Slice.Eq.{bytes_eq-Decides}
use Rattle.bib_from_json.proofs.SameFacts.{same_chars}
use Rattle.bib_from_json.proofs.comparing.is_same_math.Goals as goal

pub returns : goal.returns
returns c =
    let same = bytes_eq-Decides c.args.a.now c.args.b.now in (
      λ is. ap chars (same.0 (sym c.eq.ensures ∙ is)),
      λ is. c.eq.ensures ∙ same.1 (same_chars c.args.a.now c.args.b.now c.utf8.a c.utf8.b is),
    )
