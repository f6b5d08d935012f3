-- Facts about the texts of accepted findings.
use Rattle.std.proofs.Common.{◌≡◌, ◌||◌, ℕ, Bool, true, false, cond, List, [], ◌∷◌, ◌++◌, refl, ap, ◌∙◌, append-nil}
use Rattle.std.specs.List.{flat_map, list_any}
use Rattle.std.specs.Prelude.{bytes_eq}
use Rattle.std.proofs.lemmas.List.Concat.{flat_map-append}
use Rattle.std.proofs.lemmas.List.Folds.{list_any-append}
use Rattle.bib_queries.specs.Needed.{is_listed}
use Rattle.bib_text.proofs.BoolFacts.{or_turned}
use Rattle.bibkit_core.specs.Baselines.{texts_of_line}

-- a text is among those of lines and one more exactly if it is among those of that line, or among those of the others
pub listed_more : (lines : List (List ℕ)) (line text : List ℕ)
    → is_listed (flat_map texts_of_line (lines ++ line ∷ [])) text
    ≡ (is_listed (texts_of_line line) text || is_listed (flat_map texts_of_line lines) text)
listed_more lines line text =
    ap (λ l. is_listed l text)
    (flat_map-append texts_of_line lines (line ∷ []) ∙ ap (λ l. flat_map texts_of_line lines ++ l) (append-nil (texts_of_line line)))
    ∙ list_any-append (λ one. bytes_eq one text) (flat_map texts_of_line lines) (texts_of_line line)
    ∙ or_turned (is_listed (flat_map texts_of_line lines) text) (is_listed (texts_of_line line) text)
