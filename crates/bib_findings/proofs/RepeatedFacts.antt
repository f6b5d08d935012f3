-- Fields whose names an earlier field has.
use Rattle.std.proofs.Common.{◌≡◌, ℕ, Bool, true, false, not, List, [], ◌∷◌, ◌++◌, refl, sym, ap, ◌∙◌, append_assoc, cond}
use Rattle.std.specs.Prelude.{bytes_eq}
use Rattle.std.specs.List.{list_any}
use Rattle.std.proofs.lemmas.List.Folds.{list_any-append}
use Rattle.bib_text.proofs.BytesFacts.{bytes_turned}
use Rattle.bib_syntax.specs.Reading.{FieldReading}
use Rattle.bib_text.proofs.BoolFacts.{cond_last}
use Rattle.bib_findings.specs.After.{each_after}
use Rattle.bib_findings.specs.Counted.{lowercase_name}
use Rattle.bib_findings.specs.Fields.{repeated_after, repeated_finding}
use Rattle.bib_findings.specs.Entries.{have_one_name}
use Rattle.bib_findings.specs.declared.finding.Finding.{Finding}
use Rattle.bib_findings.proofs.AfterFacts.{appended_next}

-- whether the seen names are exactly those of some fields, in lowercase
abbrev pub AreSeen : (List ℕ → Bool) → List FieldReading → Type 0
AreSeen seen fields = (name : List ℕ) → seen name ≡ list_any (λ f. bytes_eq name (lowercase_name f)) fields

-- storing the name of an item extends the seen names by it
pub seen_more : {A : Type 0} (name_of : A → List ℕ) (old new : List ℕ → Bool) (items : List A) (item : A) (key : List ℕ)
    → key ≡ name_of item → ((name : List ℕ) → old name ≡ list_any (λ i. bytes_eq name (name_of i)) items)
    → ((name : List ℕ) → new name ≡ cond (bytes_eq key name) true (old name))
    → (name : List ℕ) → new name ≡ list_any (λ i. bytes_eq name (name_of i)) (items ++ item ∷ [])
seen_more name_of old new items item key is are updates name =
    updates name ∙ ap (λ k. cond (bytes_eq k name) true (old name)) is
    ∙ ap (λ b. cond b true (old name)) (bytes_turned (name_of item) name)
    ∙ ap (cond (bytes_eq name (name_of item)) true) (are name)
    ∙ cond_last (bytes_eq name (name_of item)) (list_any (λ i. bytes_eq name (name_of i)) items)
    ∙ sym (list_any-append (λ i. bytes_eq name (name_of i)) items (item ∷ []))

turned_choice : {A : Type 0} (b : Bool) (item : A) → cond (not b) [] (item ∷ []) ≡ cond b (item ∷ []) []
turned_choice true item = refl
turned_choice false item = refl

-- appending the finding of the next field, unless its name is new, extends the findings of the fields before it
pub given_next : (key : List ℕ) (all fields : List FieldReading) (f : FieldReading) (is_new : Bool) (old mid new : List Finding)
    → all ≡ fields ++ f ∷ [] → is_new ≡ not (list_any (have_one_name f) fields) → mid ≡ old ++ each_after (repeated_after key) [] fields
    → new ≡ mid ++ cond is_new [] (repeated_finding key f ∷ []) → new ≡ old ++ each_after (repeated_after key) [] all
given_next key all fields f is_new old mid new all_is says before more =
    appended_next (repeated_after key) all fields f old mid new all_is before
    (more
    ∙ ap (λ b. mid ++ cond b [] (repeated_finding key f ∷ [])) says
    ∙ ap (λ l. mid ++ l) (turned_choice (list_any (have_one_name f) fields) (repeated_finding key f)))

-- the same if the seen names are those of the fields before it
pub repeated_next : (key : List ℕ) (all fields : List FieldReading) (f : FieldReading) (seen : List ℕ → Bool) (name : List ℕ)
    (is_new : Bool) (old mid new : List Finding) → all ≡ fields ++ f ∷ [] → AreSeen seen fields → name ≡ lowercase_name f
    → is_new ≡ not (seen name) → mid ≡ old ++ each_after (repeated_after key) [] fields
    → new ≡ mid ++ cond is_new [] (repeated_finding key f ∷ [])
    → new ≡ old ++ each_after (repeated_after key) [] all
repeated_next key all fields f seen name is_new old mid new all_is are is tells before more =
    given_next key all fields f is_new old mid new all_is
    (tells ∙ ap (λ n. not (seen n)) is ∙ ap not (are (lowercase_name f))) before more
