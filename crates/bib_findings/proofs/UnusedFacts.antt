-- Sets of names, and the definitions that nothing uses.
use Rattle.std.proofs.Common.{◌≡◌, ℕ, ◌+◌, ◌<◌, Bool, true, false, not, cond, List, [], ◌∷◌, ◌++◌, length, get_or, take, refl, sym, ap, ◌∙◌, append_assoc}
use Rattle.std.specs.Prelude.{◌||◌}
use Rattle.std.specs.Borrow.{Bor}
use Rattle.std.specs.List.{list_any}
use Rattle.std.specs.Str.{str_eq_ignore_ascii_case}
use Rattle.std.proofs.lemmas.List.{map-append, map_more}
use Rattle.std.proofs.lemmas.List.Folds.{list_any-append}
use Rattle.bib_tables.specs.Requirements.{Names}
use Rattle.bib_syntax.specs.Reading.{FieldReading}
use Rattle.bib_text.proofs.ListFacts.{any_mapped}
use Rattle.bib_findings.specs.Entries.{have_one_name}
use Rattle.bib_findings.specs.UnusedDefinitions.{is_used_abbreviation, unused_after, unused_definition_finding}
use Rattle.bib_findings.specs.UsedNames.{names_of_definitions, borrowed_texts}

-- the first names up to an index are those before it and the one at it
pub texts_next : (names : List (Bor (List ℕ))) (index : ℕ) (other : Bor (List ℕ)) → index < length names
    → borrowed_texts (take index names) ++ (get_or names index other).now ∷ [] ≡ borrowed_texts (take (index + 1) names)
texts_next names index other within = sym (map_more (λ (n : Bor (List ℕ)). n.now) names index other within)

-- the used names, those of the earlier definitions and that of one more are the used names and those of all these definitions
pub definitions_next : (used : Names) (earlier : List FieldReading) (f : FieldReading)
    → (used ++ names_of_definitions earlier) ++ f.name.text ∷ [] ≡ used ++ names_of_definitions (earlier ++ f ∷ [])
definitions_next used earlier f =
    append_assoc used (names_of_definitions earlier) (f.name.text ∷ [])
    ∙ ap (λ l. used ++ l) (sym (map-append (λ (g : FieldReading). g.name.text) earlier (f ∷ [])))

-- the used names and those of earlier definitions contain the name of a definition exactly if its abbreviation is used, or if an earlier
-- definition has its name
pub named_among : (used : Names) (earlier : List FieldReading) (f : FieldReading)
    → list_any (str_eq_ignore_ascii_case f.name.text) (used ++ names_of_definitions earlier)
    ≡ (is_used_abbreviation used f || list_any (have_one_name f) earlier)
named_among used earlier f =
    list_any-append (str_eq_ignore_ascii_case f.name.text) used (names_of_definitions earlier)
    ∙ ap (λ b. is_used_abbreviation used f || b)
    (any_mapped (λ (g : FieldReading). g.name.text) (str_eq_ignore_ascii_case f.name.text) earlier)

-- a definition has a finding exactly if neither the used names nor those of the earlier definitions contain its name
pub unused_if_new : (used : Names) (earlier : List FieldReading) (f : FieldReading) (is_new : Bool)
    → is_new ≡ not (list_any (str_eq_ignore_ascii_case f.name.text) (used ++ names_of_definitions earlier))
    → unused_after used earlier f ≡ cond is_new (unused_definition_finding f ∷ []) []
unused_if_new used earlier f is_new is =
    turned (is_used_abbreviation used f || list_any (have_one_name f) earlier)
    ∙ ap (λ b. cond b (unused_definition_finding f ∷ []) []) (sym (is ∙ ap not (named_among used earlier f)))
  where
    turned : (b : Bool) → cond b [] (unused_definition_finding f ∷ []) ≡ cond (not b) (unused_definition_finding f ∷ []) []
    turned true = refl
    turned false = refl
