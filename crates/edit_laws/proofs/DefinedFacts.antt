-- The definition of a name among appended definitions, among new ones, and if only one definition has the name.
use Rattle.std.proofs.Common.{◌≡◌, ℕ, ◌+◌, List, [], ◌∷◌, ◌++◌, Bool, true, false, cond, length, reverse, refl, sym, ap, ◌∙◌, subst, arith, Some, None, Option, option_map}
use Rattle.std.specs.Prelude.{◌||◌, ◌≤◌, bytes_eq, count_by, find, is_some}
use Rattle.std.specs.Option.{option_or}
use Rattle.std.specs.Str.{str_to_ascii_lowercase}
use Rattle.std.proofs.lemmas.Bool.{both_ways, not-true}
use Rattle.std.proofs.lemmas.List.{append-nil, append_assoc, reverse-append}
use Rattle.std.proofs.lemmas.List.Folds.{find-append, list_any-append}
use Rattle.std.proofs.lemmas.List.Sums.{sum_by-append}
use Rattle.std.proofs.lemmas.Slice.Eq.{bytes_eq-Decides}
use Rattle.bib_file_entries.specs.Loaded.{definition_in}
use Rattle.bib_syntax.specs.Grammar.{is_word}
use Rattle.bib_syntax.specs.Reading.{FieldReading, FileReading, Part, Piece}
use Rattle.bib_syntax.specs.Reading.Piece.{abbreviation, literal}
use Rattle.bib_text.proofs.ListFacts.{some_same}
use Rattle.bib_text.proofs.BoolFacts.{or_false_left, or_false_right}
use Rattle.edit_entries.specs.Documents.{text_at}
use Rattle.edit_strings.specs.Collected.{definition_names, element_names, is_month, is_new_name, is_one_in_any_case, known_name, line_reading, line_readings, names_of_file, single_text}
use Rattle.edit_strings.specs.Expanded.{elements}

-- ---- the definition of a name among appended definitions

pub defined_append : (fs gs : List FieldReading) (name : List ℕ)
    → definition_in (fs ++ gs) name ≡ option_or (definition_in gs name) (definition_in fs name)
defined_append fs gs name =
    ap (λ l. option_map elements (find (λ f. bytes_eq name f.name.text) l)) (reverse-append fs gs)
    ∙ ap (option_map elements) (find-append (λ f. bytes_eq name f.name.text) (reverse gs) (reverse fs))
    ∙ map_or (find (λ f. bytes_eq name f.name.text) (reverse gs)) (find (λ f. bytes_eq name f.name.text) (reverse fs))
  where
    map_or : (o p : Option FieldReading) → option_map elements (option_or o p) ≡ option_or (option_map elements o) (option_map elements p)
    map_or None p = refl
    map_or (Some f) p = refl

-- a name is equal to itself in any ASCII case
pub own_word : (name : List ℕ) → is_word name name ≡ true
own_word name = (bytes_eq-Decides (str_to_ascii_lowercase name) (str_to_ascii_lowercase name)).1 refl

-- two names that aren't equal in any ASCII case have different bytes
other_bytes : (name other : List ℕ) → is_word other name ≡ false → bytes_eq name other ≡ false
other_bytes name other differs = by_case (bytes_eq name other) refl
  where
    by_case : (b : Bool) → bytes_eq name other ≡ b → b ≡ false
    by_case false is = refl
    by_case true is =
        let same : name ≡ other = (bytes_eq-Decides name other).0 is in
        absurd (both_ways _ differs (subst (λ n. is_word other n ≡ true) (sym same) (own_word other)))

-- a name that definitions neither define nor use, in any ASCII case, has no definition
pub absent : (fs : List FieldReading) (name : List ℕ) → is_one_in_any_case (definition_names fs) name ≡ false → definition_in fs name ≡ None
absent [] name none = refl
absent (f ∷ fs) name none =
    let parted = sym (list_any-append (λ o. is_word o name) (f.name.text ∷ element_names (elements f)) (definition_names fs)) ∙ none in
    let own = or_false_left (is_word f.name.text name || is_one_in_any_case (element_names (elements f)) name) _ parted in
    let first = or_false_left (is_word f.name.text name) _ own in
    let rest = or_false_right (is_word f.name.text name || is_one_in_any_case (element_names (elements f)) name) _ parted in
    defined_append (f ∷ []) fs name
    ∙ ap (λ o. option_or o (definition_in (f ∷ []) name)) (absent fs name rest)
    ∙ ap (λ b. option_map elements (cond b (Some f) None)) (other_bytes name f.name.text first)

-- ---- the new definitions

pub readings_push : (says : FileReading) (names texts : List (List ℕ)) (name text : List ℕ) → length names ≡ length texts
    → line_readings says (names ++ name ∷ []) (texts ++ text ∷ [])
    ≡ line_readings says names texts ++ cond (is_some (known_name says text)) [] (line_reading name text ∷ [])
readings_push says [] [] name text same = append-nil (cond (is_some (known_name says text)) [] (line_reading name text ∷ []))
readings_push says [] (t ∷ ts) name text same = absurd (omega arith)
readings_push says (n ∷ ns) [] name text same = absurd (omega arith)
readings_push says (n ∷ ns) (t ∷ ts) name text same =
    let first : List FieldReading = cond (is_some (known_name says t)) [] (line_reading n t ∷ []) in
    ap (λ l. first ++ l) (readings_push says ns ts name text (omega arith))
    ∙ sym (append_assoc first (line_readings says ns ts) (cond (is_some (known_name says text)) [] (line_reading name text ∷ [])))

pub line_defined : (n text name : List ℕ) (b : Bool) → bytes_eq name n ≡ b
    → definition_in (line_reading n text ∷ []) name ≡ cond b (Some (literal (text_at 0 text) ∷ [])) None
line_defined n text name true is = ap (λ c. option_map elements (cond c (Some (line_reading n text)) None)) is
line_defined n text name false is = ap (λ c. option_map elements (cond c (Some (line_reading n text)) None)) is

-- a name that is new to a file and to earlier names
pub record IsNew (says : FileReading) (earlier : List (List ℕ)) (name : List ℕ) : Type 0 where
  pub no_earlier : is_one_in_any_case earlier name ≡ false
  pub no_other : is_one_in_any_case (names_of_file says) name ≡ false

pub is_new : (says : FileReading) (earlier : List (List ℕ)) (name : List ℕ) → is_new_name says earlier name ≡ true → IsNew says earlier name
is_new says earlier name new =
    let free = or_false_right (is_month name) _ (not-true _ new) in
    record {
      no_earlier = or_false_left (is_one_in_any_case earlier name) _ free;
      no_other = or_false_right (is_one_in_any_case earlier name) _ free;
    }

-- ---- the one definition of a known name

pub data In (f : FieldReading) : List FieldReading → Type 0 where
  here : {fs : List FieldReading} → In f (f ∷ fs)
  further : {g : FieldReading} {fs : List FieldReading} → In f fs → In f (g ∷ fs)

pub found_in : (test : FieldReading → Bool) (fs : List FieldReading) (f : FieldReading) → find test fs ≡ Some f → In f fs
found_in test [] f is = cc
found_in test (g ∷ fs) f is = by_case (test g) (found_in test fs f) is
  where
    by_case : (b : Bool) → (find test fs ≡ Some f → In f fs) → cond b (Some g) (find test fs) ≡ Some f → In f (g ∷ fs)
    by_case true rest found = subst (λ x. In x (g ∷ fs)) (some_same found) In.here
    by_case false rest found = In.further (rest found)

abbrev counts : Bool → ℕ
counts b = cond b 1 0

count_more : (p : FieldReading → Bool) (g : FieldReading) (fs : List FieldReading) (b : Bool) → p g ≡ b
    → count_by p (g ∷ fs) ≡ counts b + count_by p fs
count_more p g fs b is =
    let parted : count_by p (g ∷ fs) ≡ (0 + counts (p g)) + count_by p fs = sum_by-append (λ x. counts (p x)) (g ∷ []) fs in
    let first : counts (p g) ≡ counts b = ap counts is in
    omega (arith, parted, first)

none_counted : (p q : FieldReading → Bool) → ((g : FieldReading) → q g ≡ true → p g ≡ true) → (fs : List FieldReading)
    → count_by p fs ≡ 0 → find q (reverse fs) ≡ None
none_counted p q implies [] none = refl
none_counted p q implies (g ∷ fs) none =
    by_case (p g) (q g) refl refl (λ less. none_counted p q implies fs less)
  where
    by_case : (b c : Bool) → p g ≡ b → q g ≡ c → (count_by p fs ≡ 0 → find q (reverse fs) ≡ None) → find q (reverse (g ∷ fs)) ≡ None
    by_case true c passes tests rest = absurd (omega (arith, none, count_more p g fs true passes))
    by_case false true passes tests rest = absurd (both_ways _ passes (implies g tests))
    by_case false false passes tests rest =
        ap (find q) (reverse-append (g ∷ []) fs) ∙ find-append q (reverse fs) (g ∷ [])
        ∙ ap (λ o. option_or o (cond (q g) (Some g) None)) (rest (omega (arith, none, count_more p g fs false passes)))
        ∙ ap (λ c. cond c (Some g) None) tests

some_counted : (p : FieldReading → Bool) (fs : List FieldReading) (f : FieldReading) → In f fs → p f ≡ true → 1 ≤ count_by p fs
some_counted p [] f there passes = elim there [ ]
some_counted p (_ ∷ fs) f In.here passes = omega (arith, count_more p f fs true passes)
some_counted p (g ∷ fs) f (In.further there) passes =
    omega (arith, some_counted p fs f there passes, count_more p g fs (p g) refl)

-- if only one definition passes a test, a search from the end with a stronger test finds each definition that passes both
pub only_last : (p q : FieldReading → Bool) → ((g : FieldReading) → q g ≡ true → p g ≡ true) → (fs : List FieldReading) (f : FieldReading)
    → count_by p fs ≡ 1 → In f fs → q f ≡ true → find q (reverse fs) ≡ Some f
only_last p q implies [] f one there tests = elim there [ ]
only_last p q implies (_ ∷ fs) f one In.here tests =
    let rest : count_by p fs ≡ 0 = omega (arith, one, count_more p f fs true (implies f tests)) in
    ap (find q) (reverse-append (f ∷ []) fs) ∙ find-append q (reverse fs) (f ∷ [])
    ∙ ap (λ o. option_or o (cond (q f) (Some f) None)) (none_counted p q implies fs rest)
    ∙ ap (λ c. cond c (Some f) None) tests
only_last p q implies (g ∷ fs) f one (In.further there) tests =
    let some = some_counted p fs f there (implies f tests) in
    let rest : count_by p fs ≡ 1 = omega (arith, one, some, count_more p g fs (p g) refl) in
    ap (find q) (reverse-append (g ∷ []) fs) ∙ find-append q (reverse fs) (g ∷ [])
    ∙ ap (λ o. option_or o (cond (q g) (Some g) None)) (only_last p q implies fs f rest there tests)

-- pieces are one literal with a text
pub record IsLiteral (pieces : List Piece) (text : List ℕ) : Type 0 where
  pub part : Part
  pub is : pieces ≡ literal part ∷ []
  pub same : part.text ≡ text

pub one_literal : (pieces : List Piece) (text : List ℕ) → single_text pieces ≡ Some text → IsLiteral pieces text
one_literal [] text is = cc
one_literal (abbreviation p ∷ rest) text is = cc
one_literal (literal p ∷ []) text is = record { part = p; is = refl; same = some_same is }
one_literal (literal p ∷ other ∷ rest) text is = cc
