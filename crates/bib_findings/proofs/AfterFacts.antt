-- Items of a list together with the items before them.
use Rattle.std.proofs.Common.{◌≡◌, List, [], ◌∷◌, ◌++◌, sym, ap, ◌∙◌, append_assoc, append-nil}
use Rattle.bib_findings.specs.After.{each_after}

-- the results for a list with one more item are those for the list and those for the item
pub after_more : {A B : Type 0} (f : List A → A → List B) (earlier items : List A) (item : A)
    → each_after f earlier (items ++ item ∷ []) ≡ each_after f earlier items ++ f (earlier ++ items) item
after_more f earlier [] item = append-nil (f earlier item) ∙ ap (λ l. f l item) (sym (append-nil earlier))
after_more f earlier (first ∷ rest) item =
    ap (λ l. f earlier first ++ l) (after_more f (earlier ++ first ∷ []) rest item)
    ∙ sym (append_assoc (f earlier first) (each_after f (earlier ++ first ∷ []) rest) (f ((earlier ++ first ∷ []) ++ rest) item))
    ∙ ap (λ l. (f earlier first ++ each_after f (earlier ++ first ∷ []) rest) ++ f l item) (append_assoc earlier (first ∷ []) rest)

-- appending the results for the next item extends the results for the items before it
pub appended_next : {A B : Type 0} (f : List A → A → List B) (items earlier : List A) (item : A) (old mid new : List B)
    → items ≡ earlier ++ item ∷ [] → mid ≡ old ++ each_after f [] earlier → new ≡ mid ++ f earlier item
    → new ≡ old ++ each_after f [] items
appended_next f items earlier item old mid new is before more =
    more ∙ ap (λ l. l ++ f earlier item) before ∙ append_assoc old (each_after f [] earlier) (f earlier item)
    ∙ ap (λ l. old ++ l) (sym (after_more f [] earlier item)) ∙ ap (λ l. old ++ each_after f [] l) (sym is)
