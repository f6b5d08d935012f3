use Rattle.std.proofs.Common.{◌≡◌, ℕ, ◌+◌, List, [], length, arith, append-nil, sym, subst}
use Rattle.bib_text.specs.Braces.{IsParts}
use Rattle.bib_text.specs.Places.{place}
use Rattle.bib_syntax.specs.Grammar.{Braced}
use Rattle.edit_entries.specs.Documents.{in_braces, text_at}
use Rattle.edit_entries.proofs.ValueFacts.{braced_stands, parts_in_braces}
use Rattle.edit_entries.proofs.laws.balanced_is_braced.Goals as goal

braced : (text : List ℕ) → IsParts text
    → Braced (place (in_braces text) 0) (text_at 1 text) (place (in_braces text) (length (in_braces text)))
braced text can =
    let size : 0 + length (in_braces text) ≡ length (in_braces text) = omega arith in
    subst (λ n. Braced (place (in_braces text) 0) (text_at 1 text) (place (in_braces text) n)) size
    (braced_stands (in_braces text) [] text 0 can (sym (append-nil (in_braces text))))

pub returns : goal.returns
returns c text = (λ can. (text_at 1 text, braced text can), λ braced. parts_in_braces text braced.1)
