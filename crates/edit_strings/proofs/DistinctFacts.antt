-- Distinct texts, and those that meet a condition: one more text.
use Rattle.std.proofs.Common.{◌≡◌, ℕ, ◌||◌, Bool, true, false, cond, not, List, [], ◌∷◌, ◌++◌, refl, sym, ap, ◌∙◌, subst, append-nil}
use Rattle.std.specs.Prelude.{bytes_eq, filter}
use Rattle.std.specs.List.{AllByRecursion}
use Rattle.std.proofs.lemmas.List.Elements.{filter-append}
use Rattle.bib_text.proofs.BytesFacts.{bytes_turned}
use Rattle.bib_queries.specs.Needed.{is_listed}
use Rattle.edit_strings.specs.Collected.{AreThoseThat, distinct}
use Rattle.edit_strings.specs.Collected.{AreThoseThat as those}

-- a text as a list, unless it was listed before
abbrev pub unless_listed : Bool → List ℕ → List (List ℕ)
unless_listed listed text = cond listed [] (text ∷ [])

-- filtering a text out leaves nothing if `x` was listed or is this text, and `x` otherwise
filter_one : (text x : List ℕ) (listed : Bool)
    → filter (λ other. not (bytes_eq other text)) (unless_listed listed x) ≡ unless_listed (bytes_eq x text || listed) x
filter_one text x true = by_case (bytes_eq x text)
  where
    by_case : (b : Bool) → [] ≡ cond (b || true) [] (x ∷ [])
    by_case true = refl
    by_case false = refl
filter_one text x false = by_case (bytes_eq x text)
  where
    by_case : (b : Bool) → cond (not b) (x ∷ []) [] ≡ cond (b || false) [] (x ∷ [])
    by_case true = refl
    by_case false = refl

-- the distinct texts after one more text
pub distinct_push : (texts : List (List ℕ)) (x : List ℕ)
    → distinct (texts ++ x ∷ []) ≡ distinct texts ++ unless_listed (is_listed texts x) x
distinct_push [] x = refl
distinct_push (text ∷ texts) x =
    ap (λ l. text ∷ l)
    (ap (filter (λ other. not (bytes_eq other text))) (distinct_push texts x)
    ∙ filter-append (λ other. not (bytes_eq other text)) (distinct texts) (unless_listed (is_listed texts x) x)
    ∙ ap (λ l. filter (λ other. not (bytes_eq other text)) (distinct texts) ++ l)
    (filter_one text x (is_listed texts x) ∙ ap (λ b. unless_listed (b || is_listed texts x) x) (bytes_turned x text)))

-- ---- one more text among those that meet a condition

module _ (Meets : List ℕ → Type 0) where
  pub those_kept : {texts found : List (List ℕ)} (x : List ℕ) → AreThoseThat Meets texts found → Meets x
      → AreThoseThat Meets (texts ++ x ∷ []) (found ++ x ∷ [])
  those_kept x those.none meets = those.kept x meets those.none
  those_kept x (those.kept text own others) meets = those.kept text own (those_kept x others meets)
  those_kept x (those.left text fails others) meets = those.left text fails (those_kept x others meets)

  pub those_left : {texts found : List (List ℕ)} (x : List ℕ) → AreThoseThat Meets texts found → (Meets x → ⊥)
      → AreThoseThat Meets (texts ++ x ∷ []) found
  those_left x those.none fails = those.left x fails those.none
  those_left x (those.kept text own others) fails = those.kept text own (those_left x others fails)
  those_left x (those.left text not_own others) fails = those.left text not_own (those_left x others fails)

  pub those_meet : {texts found : List (List ℕ)} → AreThoseThat Meets texts found → AllByRecursion Meets found
  those_meet those.none = tt
  those_meet (those.kept text own others) = (own, those_meet others)
  those_meet (those.left text fails others) = those_meet others

  -- a new text that meets the condition is one more text that meets it
  pub new_kept : (texts found : List (List ℕ)) (x : List ℕ) → is_listed texts x ≡ false → Meets x
      → AreThoseThat Meets (distinct texts) found → AreThoseThat Meets (distinct (texts ++ x ∷ [])) (found ++ x ∷ [])
  new_kept texts found x new meets so_far =
      subst (λ l. AreThoseThat Meets l (found ++ x ∷ []))
      (sym (distinct_push texts x ∙ ap (λ b. distinct texts ++ unless_listed b x) new)) (those_kept x so_far meets)

  pub new_left : (texts found : List (List ℕ)) (x : List ℕ) → is_listed texts x ≡ false → (Meets x → ⊥)
      → AreThoseThat Meets (distinct texts) found → AreThoseThat Meets (distinct (texts ++ x ∷ [])) found
  new_left texts found x new fails so_far =
      subst (λ l. AreThoseThat Meets l found) (sym (distinct_push texts x ∙ ap (λ b. distinct texts ++ unless_listed b x) new))
      (those_left x so_far fails)

  pub old_stays : (texts found : List (List ℕ)) (x : List ℕ) → is_listed texts x ≡ true
      → AreThoseThat Meets (distinct texts) found → AreThoseThat Meets (distinct (texts ++ x ∷ [])) found
  old_stays texts found x met so_far =
      subst (λ l. AreThoseThat Meets l found)
      (sym (distinct_push texts x ∙ ap (λ b. distinct texts ++ unless_listed b x) met ∙ append-nil (distinct texts))) so_far

-- the same texts meet two conditions that agree on each text
pub those_alike : {P Q : List ℕ → Type 0} {texts found : List (List ℕ)} → ((text : List ℕ) → P text → Q text)
    → ((text : List ℕ) → Q text → P text) → AreThoseThat P texts found → AreThoseThat Q texts found
those_alike there back those.none = those.none
those_alike there back (those.kept text meets others) = those.kept text (there text meets) (those_alike there back others)
those_alike there back (those.left text fails others) =
    those.left text (λ meets. fails (back text meets)) (those_alike there back others)
