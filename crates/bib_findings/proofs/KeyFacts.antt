-- Keys that equal an earlier key except for ASCII case.
use Rattle.std.proofs.Common.{◌≡◌, ℕ, Bool, true, false, List, [], ◌∷◌, ◌++◌, Option, Some, None, refl, sym, ap, ◌∙◌, cond}
use Rattle.std.specs.Prelude.{bytes_eq, find, option_map}
use Rattle.std.specs.Borrow.{Bor}
use Rattle.std.specs.Map.{update}
use Rattle.std.specs.Option.{option_map_or}
use Rattle.std.proofs.lemmas.Slice.Eq.{bytes_eq-Decides}
use Rattle.bib_text.proofs.BytesFacts.{bytes_turned}
use Rattle.bib_syntax.specs.Reading.{EntryReading}
use Rattle.bib_findings.specs.FirstKeys.{AreFirstKeys, lowercase_key}
use Rattle.bib_findings.specs.KeyCases.{case_after, case_finding, have_one_key}

-- the first value, or the other one if there is none
abbrev pub or_other : {A : Type 0} → Option A → Option A → Option A
or_other None other = other
or_other (Some a) other = Some a

-- the first item that passes a test among some items and one more
pub find_more : {A : Type 0} (test : A → Bool) (items : List A) (one : A)
    → find test (items ++ one ∷ []) ≡ or_other (find test items) (cond (test one) (Some one) None)
find_more test [] one = refl
find_more test (item ∷ items) one =
    elim (test item) as
    (λ b.
    cond b (Some item) (find test (items ++ one ∷ []))
    ≡ or_other (cond b (Some item) (find test items)) (cond (test one) (Some one) None))
    [ true ↦ refl | false ↦ find_more test items one ]

-- the text of the key of an entry
abbrev pub key_text : EntryReading → List ℕ
key_text e = e.key.text

-- one more entry doesn't change the key of the first entry that passes, if there is such an entry whenever the new one passes
same_first : (said : EntryReading) (first : Option EntryReading) (test : Bool)
    → (test ≡ true → (text : List ℕ) × (option_map key_text first ≡ Some text))
    → option_map key_text first ≡ option_map key_text (or_other first (cond test (Some said) None))
same_first said (Some e) test known = refl
same_first said None false known = refl
same_first said None true known = absurd (let clash : None ≡ Some (known refl).0 = (known refl).1 in cc)

pub or_none : {A : Type 0} (first : Option A) → or_other first None ≡ first
or_none None = refl
or_none (Some a) = refl

-- if no key is found, no entry is
nothing : (first : Option EntryReading) → option_map key_text first ≡ None → first ≡ None
nothing None none = refl
nothing (Some e) none = absurd (let clash : Some (key_text e) ≡ None = none in cc)

-- an entry whose key an earlier one has, in any ASCII case, changes no first key
pub keys_same : (firsts : List ℕ → Option (Bor (List ℕ))) (earlier : List EntryReading) (said : EntryReading) (text : List ℕ)
    → AreFirstKeys firsts earlier → option_map (λ key. key.now) (firsts (lowercase_key said)) ≡ Some text
    → AreFirstKeys firsts (earlier ++ said ∷ [])
keys_same firsts earlier said text are known name =
    let test : EntryReading → Bool = λ e. bytes_eq name (lowercase_key e) in
    are name
    ∙ same_first said (find test earlier) (test said)
    (λ same. (
      text,
      sym (are name) ∙ ap (λ n. option_map (λ (key : Bor (List ℕ)). key.now) (firsts n))
          ((bytes_eq-Decides name (lowercase_key said)).0 same) ∙ known,
    ))
    ∙ ap (option_map key_text) (sym (find_more test earlier said))

-- storing a key that no earlier entry has, in any ASCII case, extends the first keys by it
pub keys_more : (old new : List ℕ → Option (Bor (List ℕ))) (earlier : List EntryReading) (said : EntryReading) (key : Bor (List ℕ))
    (stored : List ℕ) → stored ≡ lowercase_key said → key.now ≡ key_text said → AreFirstKeys old earlier → old stored ≡ None
    → ((name : List ℕ) → new name ≡ update bytes_eq old stored (Some key) name) → AreFirstKeys new (earlier ++ said ∷ [])
keys_more old new earlier said key stored is text_is are none updates name =
    ap (option_map now_of) (updates name ∙ ap (λ b. cond b (Some key) (old name)) turned)
    ∙ by (test said) refl
    ∙ ap (option_map key_text) (sym (find_more test earlier said))
  where
    now_of : Bor (List ℕ) → List ℕ
    now_of k = k.now

    test : EntryReading → Bool
    test e = bytes_eq name (lowercase_key e)

    turned : bytes_eq stored name ≡ test said
    turned = ap (λ s. bytes_eq s name) is ∙ bytes_turned (lowercase_key said) name

    by : (b : Bool) → test said ≡ b
        → option_map now_of (cond (test said) (Some key) (old name))
        ≡ option_map key_text (or_other (find test earlier) (cond (test said) (Some said) None))
    by true same =
        let name_is : name ≡ stored = (bytes_eq-Decides name (lowercase_key said)).0 same ∙ sym is in
        ap (λ b. option_map now_of (cond b (Some key) (old name))) same
        ∙ ap Some text_is
        ∙ sym
        (ap (λ b. option_map key_text (or_other (find test earlier) (cond b (Some said) None))) same
        ∙ ap (λ o. option_map key_text (or_other o (Some said)))
        (nothing (find test earlier) (sym (are name) ∙ ap (λ n. option_map now_of (old n)) name_is ∙ ap (option_map now_of) none)))
    by false other =
        ap (λ b. option_map now_of (cond b (Some key) (old name))) other ∙ are name
        ∙ sym
        (ap (λ b. option_map key_text (or_other (find test earlier) (cond b (Some said) None))) other
        ∙ ap (option_map key_text) (or_none (find test earlier)))

-- an entry whose key an earlier one has, in any ASCII case, has a finding with the first such key
pub case_found : (firsts : List ℕ → Option (Bor (List ℕ))) (earlier : List EntryReading) (said : EntryReading) (text : List ℕ)
    → AreFirstKeys firsts earlier → option_map (λ key. key.now) (firsts (lowercase_key said)) ≡ Some text
    → case_after earlier said ≡ case_finding said text ∷ []
case_found firsts earlier said text are known = by (find (have_one_key said) earlier) (sym (are (lowercase_key said)) ∙ known) where
  by : (first : Option EntryReading) → option_map key_text first ≡ Some text
      → option_map_or (λ e. case_finding said e.key.text ∷ []) first [] ≡ case_finding said text ∷ []
  by None is = absurd (let clash : None ≡ Some text = is in cc)
  by (Some e) is = ap (λ t. case_finding said t ∷ []) (let same : e.key.text ≡ text = cc in same)

-- an entry whose key no earlier one has, in any ASCII case, has no finding
pub case_none : (firsts : List ℕ → Option (Bor (List ℕ))) (earlier : List EntryReading) (said : EntryReading)
    → AreFirstKeys firsts earlier → firsts (lowercase_key said) ≡ None → case_after earlier said ≡ []
case_none firsts earlier said are none =
    by (find (have_one_key said) earlier)
    (sym (are (lowercase_key said)) ∙ ap (option_map (λ (key : Bor (List ℕ)). key.now)) none)
  where
    by : (first : Option EntryReading) → option_map key_text first ≡ None
        → option_map_or (λ e. case_finding said e.key.text ∷ []) first [] ≡ []
    by None is = refl
    by (Some e) is = absurd (let clash : Some (key_text e) ≡ None = is in cc)
