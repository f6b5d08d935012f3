-- Meaning: words of public contracts.
-- The grammar of conditions: which lists of tokens are tests, terms, alternatives and conditions.
use Rattle.std.specs.Prelude.{◌≡◌, ℕ, true, false, List, [], ◌∷◌, ◌++◌, codes, Some}
use Rattle.std.specs.List.{list_any}
use Rattle.bib_select.specs.Conditions.{QuestionReading, SubjectReading, TermReading, TestReading, question_at, reading_at, subject_at}
use Rattle.bib_select.specs.Conditions.TestReading.{has}
use Rattle.bib_select.specs.Segments.{is_keyword, text_in_token}
use Rattle.bib_select.specs.Tokens.{Placed}

-- a test is `has` and the name of a field; or a subject, an operator for it and a text for both
pub data IsTest : List Placed → TestReading → Type 0 where
  field_test : {first name : Placed} {text : List ℕ} → is_keyword (codes "has") first.token ≡ true → text_in_token name.token ≡ Some text
      → IsTest (first ∷ name ∷ []) (has text)
  comparison : {first operator text : Placed} {subject : SubjectReading} {question : QuestionReading} {test : TestReading}
      → is_keyword (codes "has") first.token ≡ false → subject_at first ≡ Some subject → question_at subject operator ≡ Some question
      → reading_at question text ≡ Some test → IsTest (first ∷ operator ∷ text ∷ []) test

-- a term is a test, or `not` and a test
pub data IsTerm : List Placed → TermReading → Type 0 where
  plain_test : {first : Placed} {rest : List Placed} {test : TestReading} → is_keyword (codes "not") first.token ≡ false
      → IsTest (first ∷ rest) test → IsTerm (first ∷ rest) (record { negated = false; test = test })
  negated_test : {first : Placed} {rest : List Placed} {test : TestReading} → is_keyword (codes "not") first.token ≡ true
      → IsTest rest test → IsTerm (first ∷ rest) (record { negated = true; test = test })

-- none of these tokens is the word `joint`
abbrev pub LacksWord : List ℕ → List Placed → Type 0
LacksWord joint tokens = list_any (λ placed. is_keyword joint placed.token) tokens ≡ false

-- parts with the word `joint` between them; no part contains this word, and `Is` holds for each part and its reading
pub data AreJoinedBy {A : Type 0} (joint : List ℕ) (Is : List Placed → A → Type 0) : List Placed → List A → Type 0 where
  one_part : {tokens : List Placed} {a : A} → LacksWord joint tokens → Is tokens a → AreJoinedBy joint Is tokens (a ∷ [])
  more_parts : {tokens rest : List Placed} (placed : Placed) {a : A} {others : List A} → LacksWord joint tokens → Is tokens a
      → is_keyword joint placed.token ≡ true → AreJoinedBy joint Is rest others
      → AreJoinedBy joint Is (tokens ++ placed ∷ rest) (a ∷ others)

-- an alternative is terms joined by `and`
abbrev pub IsAlternative : List Placed → List TermReading → Type 0
IsAlternative = AreJoinedBy (codes "and") IsTerm

-- a condition is alternatives joined by `or`
abbrev pub IsCondition : List Placed → List (List TermReading) → Type 0
IsCondition = AreJoinedBy (codes "or") IsAlternative
