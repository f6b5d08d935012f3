use Rattle.std.proofs.Common.{◌≡◌, ◌++◌, ℕ, List, Option, Some, None, [], ◌∷◌, ap, sym, ◌∙◌, append-nil}
use Rattle.memchr.specs.Find.{FindsNeedle, first_of, matches}
use Rattle.memchr.proofs.lemmas.ValueLemmas.{FindsNeedle-value}
use Rattle.bibkit_core.specs.Encodings.{escape_bytes, escape_finding, escape_findings, escape_findings_at}
use Rattle.bibkit_core.proofs.encodings.add_escape.Goals as goal

-- the findings for the result of a search are those of the bytes
found_at : (bytes : List ℕ) (r s : Option ℕ) → FindsNeedle bytes escape_bytes 0 r → r ≡ s → escape_findings_at s ≡ escape_findings bytes
found_at bytes r s finds is = ap escape_findings_at (sym is ∙ FindsNeedle-value bytes escape_bytes r finds)

pub returns-in_ok-push-in-Some : goal.returns-in_ok-push-in-Some
returns-in_ok-push-in-Some c =
    c.in_ok-push-in-Some.ensures.items
    ∙ ap (λ f. c.args.found.now.items ++ f ∷ []) c.in_ok-escape_finding-in-Some.ensures
    ∙ ap (λ l. c.args.found.now.items ++ l) (found_at c.args.bytes.now c.find.result (Some c.in-Some.at) c.find.ensures c.in-Some.is)

pub returns-in-None : goal.returns-in-None
returns-in-None c =
    sym (append-nil c.args.found.now.items)
    ∙ ap (λ l. c.args.found.now.items ++ l) (found_at c.args.bytes.now c.find.result None c.find.ensures c.in-None.is)
