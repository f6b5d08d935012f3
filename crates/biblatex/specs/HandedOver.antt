-- Meaning: words of public contracts.
-- How texts are passed to a sink. The sink's `hands_over` relates its state before a call, the text, the result (whether the
-- sink took the text) and the state after the call.
use Rattle.std.specs.Prelude.{◌≡◌, ℕ, Bool, true, false, List, [], ◌∷◌, ◌++◌, codes, map, Result, MatchResult}
use Rattle.std.specs.List.{FoldsTo}
use Rattle.bib_entry.specs.declared.entry.Entry.{Entry}
use Rattle.biblatex.specs.declared.write.WriteError.{WriteError}
use Rattle.biblatex.specs.declared.write.WriteError.TheVariants.{Refused, OutOfMemory}

-- the sink took each of these texts, in order, each whole and in one call, and received nothing else
abbrev pub AreTaken : {K : Type 0} → (K → List ℕ → Bool → K → Type 0) → K → List (List ℕ) → K → Type 0
AreTaken hands_over old texts new = FoldsTo (λ before text after. hands_over before text true after) old texts new

-- the sink took the texts before one of these, refused that one, and received nothing after it
pub record IsOneRefused {K : Type 0} (hands_over : K → List ℕ → Bool → K → Type 0) (old : K) (texts : List (List ℕ))
    (new : K) : Type 0 where
  pub before : List (List ℕ)
  pub text : List ℕ
  pub after : List (List ℕ)
  pub parts : texts ≡ before ++ text ∷ after
  pub reached : K
  pub taken : AreTaken hands_over old before reached
  pub refused : hands_over reached text false new

-- the sink took the texts before one of these, and received neither that one nor any after it
pub record AreSomeTaken {K : Type 0} (hands_over : K → List ℕ → Bool → K → Type 0) (old : K) (texts : List (List ℕ))
    (new : K) : Type 0 where
  pub before : List (List ℕ)
  pub text : List ℕ
  pub after : List (List ℕ)
  pub parts : texts ≡ before ++ text ∷ after
  pub taken : AreTaken hands_over old before new

-- the sink didn't take all texts: either it refused one, or memory ran out before one, by the returned error
abbrev pub AreCutShort : {K : Type 0} → (K → List ℕ → Bool → K → Type 0) → K → List (List ℕ) → K → WriteError → Type 0
AreCutShort hands_over old texts new Refused = IsOneRefused hands_over old texts new
AreCutShort hands_over old texts new OutOfMemory = AreSomeTaken hands_over old texts new

-- the calls to the sink for a list of texts: if `result` is Ok, the sink took all texts, and otherwise it didn't (`AreCutShort`)
abbrev pub AreHandedOver : {K U : Type 0} → (K → List ℕ → Bool → K → Type 0) → K → List (List ℕ) → K → Result U WriteError → Type 0
AreHandedOver hands_over old texts new result =
    MatchResult result (λ _. AreTaken hands_over old texts new) (AreCutShort hands_over old texts new)

-- the texts that a sink receives for entries, one for each: the entry and a line feed. An empty line precedes each entry
-- except the first
abbrev pub entry_texts : (Entry → List ℕ) → List Entry → List (List ℕ)
entry_texts written [] = []
entry_texts written (e ∷ es) = (written e ++ codes "\n") ∷ map (λ next. codes "\n" ++ (written next ++ codes "\n")) es
