-- The first of a list of fields that exists.
use Rattle.std.proofs.Common.{◌≡◌, ℕ, ◌+◌, ◌<◌, ◌≤◌, List, length, get_or, drop, None}
use Rattle.std.proofs.lemmas.List.{at_drop_more, at_drop_all}
use denote.Ref.{Bor}
use Rattle.bib_tables.specs.Requirements.{texts}
use Rattle.bib_inheritance.specs.Inherited.{first_offer}
use Rattle.bib_inheritance.specs.EntryTexts.{FieldTexts, first_some}

-- the first offer is that of the next name, or else that of the names after it
pub first_of_more : (fields : FieldTexts) (names : List (Bor (List ℕ))) (i : ℕ) (d : Bor (List ℕ)) → i < length names
    → first_offer fields (texts (drop i names))
    ≡ first_some (fields (get_or names i d).now) (first_offer fields (texts (drop (i + 1) names)))
first_of_more fields names i d h = at_drop_more (λ l. first_offer fields (texts l)) names i d h

-- without names there is no offer
pub first_of_none : (fields : FieldTexts) (names : List (Bor (List ℕ))) (i : ℕ) → length names ≤ i
    → first_offer fields (texts (drop i names)) ≡ None
first_of_none fields names i h = at_drop_all (λ l. first_offer fields (texts l)) names i h
