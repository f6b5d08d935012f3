-- The first entries with some keys, and the keys that are found so far.
use Rattle.std.proofs.Common.{◌≡◌, ◌⊎◌, inl, inr, Bool, true, false, cond, ◌&&◌, ◌||◌, not, ℕ, List, [], ◌∷◌, ◌++◌, refl, sym, ap, ◌∙◌, subst}
use Rattle.std.specs.Prelude.{bytes_eq}
use Rattle.std.specs.List.{list_all, list_any}
use Rattle.std.proofs.Math.Bool.{or-true}
use Rattle.bib_text.proofs.BytesFacts.{bytes_itself, bytes_same}
use Rattle.bib_queries.proofs.MarkFacts.{any_push}
use Rattle.bib_queries.specs.Needed.{is_listed}
use Rattle.bib_syntax.specs.Reading.{EntryReading}
use Rattle.edit_entries.specs.Documents.{Document, is_keyed}
use Rattle.edit_entries.specs.RemovalLists.{entry_if}
use Rattle.edit_entries.specs.Selected.{FirstsAreRefused, has_each, passing_after}
use Rattle.edit_entries.specs.declared.errors.EditError.{EditError}
use Rattle.edit_entries.specs.declared.errors.EditError.TheVariants.{OutOfMemory, UnknownKey}

-- two tests that agree on each listed key agree on all of them
pub all_same : (one other : List ℕ → Bool) (keys : List (List ℕ)) → ((key : List ℕ) → is_listed keys key ≡ true → one key ≡ other key)
    → list_all one keys ≡ list_all other keys
all_same one other [] same = refl
all_same one other (key ∷ keys) same =
    ap (λ b. b && list_all one keys) (same key (ap (λ b. b || is_listed keys key) (bytes_itself key)))
    ∙ ap (λ b. other key && b)
    (all_same one other keys (λ k listed. same k (ap (λ b. bytes_eq key k || b) listed ∙ or-true (bytes_eq key k))))

-- all keys pass a test if and only if none of them fails it
pub all_none : (test : List ℕ → Bool) (keys : List (List ℕ)) → list_all test keys ≡ not (list_any (λ key. not (test key)) keys)
all_none test [] = refl
all_none test (key ∷ keys) =
    ap (λ b. test key && b) (all_none test keys) ∙ turned (test key) (list_any (λ k. not (test k)) keys)
  where
    turned : (a b : Bool) → (a && not b) ≡ not (not a || b)
    turned true b = refl
    turned false b = refl

-- the entries that pass a test are the first one if it passes, and those after it that pass
pub passing_first : (test : List EntryReading → EntryReading → Bool) (before es : List EntryReading) (e : EntryReading)
    → passing_after test before (e ∷ es) ≡ entry_if (test before e) e ++ passing_after test (before ++ e ∷ []) es
passing_first test before es e = by_case (test before e)
  where
    by_case : (b : Bool)
        → cond b (e ∷ passing_after test (before ++ e ∷ []) es) (passing_after test (before ++ e ∷ []) es)
        ≡ entry_if b e ++ passing_after test (before ++ e ∷ []) es
    by_case true = refl
    by_case false = refl

-- a condition that counts only beside another one isn't tested again beside it
pub first_now : (listed before : Bool) → (listed && not (listed && before)) ≡ (listed && not before)
first_now true before = refl
first_now false before = refl

-- the keys that are found grow by that of the next entry, if it is one of the keys
pub found_more : (listed : List ℕ → Bool) (es : List EntryReading) (e : EntryReading) (name : List ℕ)
    → ((listed name && list_any (is_keyed name) es) || (listed e.key.text && bytes_eq e.key.text name))
    ≡ (listed name && list_any (is_keyed name) (es ++ e ∷ []))
found_more listed es e name =
    by_case (bytes_eq e.key.text name) refl ∙ ap (λ b. listed name && b) (sym (any_push (is_keyed name) es e))
  where
    there : (b c : Bool) → ((b && c) || (b && true)) ≡ (b && true)
    there true true = refl
    there true false = refl
    there false c = refl

    absent : (b c d : Bool) → ((b && c) || (d && false)) ≡ (b && c)
    absent true true d = refl
    absent true false true = refl
    absent true false false = refl
    absent false c true = refl
    absent false c false = refl

    by_case : (b : Bool) → bytes_eq e.key.text name ≡ b
        → ((listed name && list_any (is_keyed name) es) || (listed e.key.text && b))
        ≡ (listed name && cond b true (list_any (is_keyed name) es))
    by_case true is =
        ap (λ k. (listed name && list_any (is_keyed name) es) || (listed k && true)) (bytes_same e.key.text name is)
        ∙ there (listed name) (list_any (is_keyed name) es)
    by_case false is = absent (listed name) (list_any (is_keyed name) es) (listed e.key.text)

-- if the found keys are those of some entries among the listed keys, all listed keys are found exactly if each is that of an entry
pub all_found_keys : (found : List ℕ → Bool) (listed : List ℕ → Bool) (es : List EntryReading) (keys : List (List ℕ))
    → ((key : List ℕ) → listed key ≡ is_listed keys key)
    → ((key : List ℕ) → found key ≡ (listed key && list_any (is_keyed key) es))
    → list_all found keys ≡ list_all (λ key. list_any (is_keyed key) es) keys
all_found_keys found listed es keys is finds =
    all_same found (λ key. list_any (is_keyed key) es) keys
    (λ key there. finds key ∙ ap (λ b. b && list_any (is_keyed key) es) (is key ∙ there))

-- if a call fails because a key is that of no entry, or out of memory, removing the first entries may be refused with its error
pub firsts_refused : (d : Document) (keys : List (List ℕ)) (e : EditError)
    → (e ≡ OutOfMemory) ⊎ ((e ≡ UnknownKey) × (has_each d.says.entries keys ≡ false)) → FirstsAreRefused d keys e
firsts_refused d keys e (inl is) = subst (FirstsAreRefused d keys) (sym is) tt
firsts_refused d keys e (inr (is, none)) = subst (FirstsAreRefused d keys) (sym is) none
