-- The findings of unknown fields, and the cache of field names.
use Rattle.std.proofs.Common.{◌≡◌, ℕ, Bool, true, false, not, ◌&&◌, ◌||◌, List, [], ◌∷◌, ◌+◌, ◌<◌, ◌≤◌, length, Option, Some, None, option_copied, Result, Ok, Err, OnOk, refl, sym, ap, ◌∙◌, subst, arith, cond}
use Rattle.std.specs.Borrow.{Bor}
use Rattle.std.specs.List.{after_first, before_first, list_all, list_any, position_or_len}
use Rattle.std.specs.Str.{str_to_ascii_lowercase}
use Rattle.std.proofs.lemmas.Bool.{and_parts}
use Rattle.std.proofs.lemmas.List.{drop_all}
use Rattle.std.proofs.lemmas.Slice.Eq.{bytes_eq-Decides}
use Rattle.std.proofs.Math.Bool.{and-false}
use Rattle.std.specs.Map.{update}
use Rattle.std.specs.Prelude.{MatchOption, ◌==◌, bytes_eq, is_some}
use Rattle.bib_text.specs.Characters as char
use Rattle.bib_syntax.specs.Reading.{FieldReading}
use Rattle.bib_text.proofs.ListFacts.{some_same}
use Rattle.bib_findings.specs.Foreign.{is_foreign}
use Rattle.bib_findings.specs.Met.{AreFieldNames, IsFieldName, frequent_fields}
use Rattle.bib_findings.specs.Names.{annotated_name, is_annotation_mark, is_known_field, is_unknown_field, known_fields, meant_field, meant_findings, misspelled_of}
use Rattle.bib_findings.specs.Nearest.{suggestion}
use Rattle.bib_findings.specs.declared.names.FieldName.{FieldName}
use Rattle.bib_findings.specs.declared.names.FieldName.TheVariants.{Known}

-- a field whose name isn't unknown isn't misspelled
pub no_misspelled : (key : List ℕ) (f : FieldReading) → is_unknown_field f.name.text ≡ false → misspelled_of key f ≡ []
unfolding misspelled_of
no_misspelled key f known = ap (λ b. cond b (meant_findings key f (meant_field f.name.text)) []) known

-- an unknown field is misspelled if it may mean a known name
pub misspelled_by : (key : List ℕ) (f : FieldReading) (meant : Option (List ℕ)) → is_unknown_field f.name.text ≡ true
    → meant ≡ meant_field f.name.text → misspelled_of key f ≡ meant_findings key f meant
unfolding misspelled_of
misspelled_by key f meant unknown is =
    ap (λ b. cond b (meant_findings key f (meant_field f.name.text)) []) unknown ∙ ap (meant_findings key f) (sym is)

-- the known name that is suggested for a name in lowercase is the one that the name may mean
pub meant_by : (name lowercase : List ℕ) (meant : Option (List ℕ)) → lowercase ≡ str_to_ascii_lowercase name
    → meant ≡ suggestion known_fields lowercase → meant ≡ meant_field name
unfolding meant_field
meant_by name lowercase meant is of = of ∙ ap (suggestion known_fields) is

-- a fact holds for any result
pub for_any : {A E : Type 0} (r : Result A E) (P : Type 0) → P → OnOk r P
for_any (Ok a) P fact = fact
for_any (Err e) P fact = tt

-- copying the text of a suggestion keeps whether there is one
pub copied_is : (o : Option (Bor (List ℕ))) (b : Bool) → is_some o ≡ b → is_some (option_copied o) ≡ b
copied_is None b is = is
copied_is (Some x) b is = is

-- adding a name with its classification to the cache keeps it correct
pub names_more : (old new : List ℕ → Option FieldName) (name : List ℕ) (is : FieldName) → AreFieldNames old
    → IsFieldName name is → ((other : List ℕ) → new other ≡ update bytes_eq old name (Some is) other)
    → AreFieldNames new
names_more old new name is before this updates other found_is found =
    of_test (bytes_eq name other) refl (sym (updates other) ∙ found)
  where
    of_test : (test : Bool) → bytes_eq name other ≡ test
        → cond (bytes_eq name other) (Some is) (old other) ≡ Some found_is → IsFieldName other found_is
    of_test true same at =
        let value : is ≡ found_is = some_same (sym (ap (λ b. cond b (Some is) (old other)) same) ∙ at) in
        let names : name ≡ other = (bytes_eq-Decides name other).0 same in
        subst (λ n. IsFieldName n found_is) names (subst (IsFieldName name) value this)
    of_test false differs at = before other found_is (sym (ap (λ b. cond b (Some is) (old other)) differs) ∙ at)

-- an empty cache is correct
pub names_none : (noted : List ℕ → Option FieldName) → ((name : List ℕ) → noted name ≡ None) → AreFieldNames noted
names_none noted none name is found = absurd (let clash : None ≡ Some is = sym (none name) ∙ found in cc)

-- a name that is neither known nor used by other programs is unknown
pub unknown_by : (name : List ℕ) → is_known_field name ≡ false → is_foreign name ≡ false → is_unknown_field name ≡ true
unknown_by name known foreign = ap (λ b. not b && not (is_foreign name)) known ∙ ap not foreign

-- a name of another program isn't unknown
pub foreign_known : (name : List ℕ) → is_foreign name ≡ true → is_unknown_field name ≡ false
foreign_known name foreign = ap (λ b. not (is_known_field name) && not b) foreign ∙ and-false (not (is_known_field name))

-- a known name isn't unknown
pub known_by : (name : List ℕ) → is_known_field name ≡ true → is_unknown_field name ≡ false
known_by name known = ap (λ b. not b && not (is_foreign name)) known

-- the part of a name before its first plus sign is the annotated name if an annotation mark follows the sign
pub annotated_with : (name field mark : List ℕ) → field ≡ before_first (λ b. b == char.plus) name
    → mark ≡ after_first (λ b. b == char.plus) name → is_annotation_mark mark ≡ true → field ≡ annotated_name name
annotated_with name field mark field_is mark_is marks =
    field_is
    ∙ sym
    (ap (λ b. cond b (before_first (λ b. b == char.plus) name) name) (ap is_annotation_mark (sym mark_is) ∙ marks))

-- a name is unchanged if no annotation mark follows its first plus sign
pub annotated_without : (name mark : List ℕ) → mark ≡ after_first (λ b. b == char.plus) name → is_annotation_mark mark ≡ false
    → name ≡ annotated_name name
annotated_without name mark mark_is none =
    sym (ap (λ b. cond b (before_first (λ b. b == char.plus) name) name) (ap is_annotation_mark (sym mark_is) ∙ none))

-- a name without a plus sign is unchanged
pub annotated_none : (name : List ℕ) → position_or_len (λ b. b == char.plus) name ≡ length name → name ≡ annotated_name name
annotated_none name none =
    annotated_without name []
    (sym (drop_all (position_or_len (λ b. b == char.plus) name + 1) name (let past : length name ≤ _ = omega (arith, none) in past)))
    refl

-- the result of `split_once` for a text at the first byte `c`
abbrev SplitAt : ℕ → List ℕ → Option (Bor (List ℕ) × Bor (List ℕ)) → Type 0
SplitAt c text r =
    MatchOption r (position_or_len (λ b. b == c) text ≡ length text)
    (λ x.
    (position_or_len (λ b. b == c) text < length text) × (x.0.now ≡ before_first (λ b. b == c) text)
    × (x.1.now ≡ after_first (λ b. b == c) text))

-- `split_once` of std cuts a text at its first byte `c`
pub split_here : (c : ℕ) (text : List ℕ) (r : Option (Bor (List ℕ) × Bor (List ℕ))) (x : Bor (List ℕ) × Bor (List ℕ)) → r ≡ Some x
    → SplitAt c text r
    → (position_or_len (λ b. b == c) text < length text) × (x.0.now ≡ before_first (λ b. b == c) text)
    × (x.1.now ≡ after_first (λ b. b == c) text)
split_here c text r x is says = subst (SplitAt c text) is says

-- `split_once` of std cuts no text without the byte `c`
pub split_not : (c : ℕ) (text : List ℕ) (r : Option (Bor (List ℕ) × Bor (List ℕ))) → r ≡ None → SplitAt c text r
    → position_or_len (λ b. b == c) text ≡ length text
split_not c text r is says = subst (SplitAt c text) is says

-- whether BibLaTeX knows a name, and no other program uses it
abbrev is_only_known : List ℕ → Bool
is_only_known name = not (is_foreign name) && not (is_unknown_field name)

only_known : (name : List ℕ) → is_only_known name ≡ true → IsFieldName name Known
only_known name both =
    let parts = and_parts (not (is_foreign name)) (not (is_unknown_field name)) both in
    (not_true (is_foreign name) parts.0, not_true (is_unknown_field name) parts.1)
  where
    not_true : (b : Bool) → not b ≡ true → b ≡ false
    not_true true is = absurd (let clash : false ≡ true = is in cc)
    not_true false is = refl

-- a name that is one of some known names is known
one_known : (names : List (List ℕ)) (name : List ℕ) → list_all is_only_known names ≡ true
    → list_any (λ one. bytes_eq one name) names ≡ true → IsFieldName name Known
one_known [] name all is = absurd (let clash : false ≡ true = is in cc)
one_known (first ∷ names) name all is =
    by (bytes_eq first name) refl
    (one_known names name (and_parts (is_only_known first) (list_all is_only_known names) all).1)
  where
    by : (same : Bool) → bytes_eq first name ≡ same
        → (list_any (λ one. bytes_eq one name) names ≡ true → IsFieldName name Known) → IsFieldName name Known
    by true same later =
        subst (λ n. IsFieldName n Known) ((bytes_eq-Decides first name).0 same)
        (only_known first (and_parts (is_only_known first) (list_all is_only_known names) all).0)
    by false other later =
        later (sym (ap (λ b. b || list_any (λ one. bytes_eq one name) names) other) ∙ is)

-- a frequent name is known
pub frequent_known : (name : List ℕ) → list_any (λ frequent. bytes_eq frequent name) frequent_fields ≡ true → IsFieldName name Known
frequent_known name is = one_known frequent_fields name refl is
