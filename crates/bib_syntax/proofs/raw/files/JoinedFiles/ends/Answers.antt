use Rattle.std.proofs.Common.{◌≡◌, ◌<◌, ap, get_or, length, subst, sym}
use Rattle.std.specs.Prelude.{All}
use Rattle.std.specs.String.{string_bytes}
use Rattle.bib_syntax.proofs.FilesFacts.{ends_within}
use Rattle.bib_syntax.proofs.raw.files.JoinedFiles.ends.Goals as goal

pub returns-clause-within : goal.returns-clause-within
returns-clause-within c =
    let text = string_bytes c.self.inside.text in
    let size : length text ≡ length c.args.self.now.text = ap (λ files. length files.text) c.self.view_is in
    subst (All (λ end. end < length c.args.self.now.text)) (sym c.deref.ensures.value)
    (λ k d below. subst (λ n. get_or c.self.inside.ends.items k d < n) size
    (ends_within text 0 c.self.inside.ends.items c.self.invariant k d below))
