-- Names of texts: the next name, and the names that are used after it.
use Rattle.std.proofs.Common.{◌≡◌, inl, inr, ℕ, ◌+◌, ◌≤◌, ◌||◌, Bool, true, false, cond, not, List, [], ◌∷◌, ◌++◌, length, refl, sym, ap, ◌∙◌, subst, arith, length-append, Option, Some, None}
use Rattle.std.specs.Prelude.{String, bytes_eq}
use Rattle.std.specs.BTreeMap.{BTreeMap, get_by_text}
use Rattle.std.specs.Global.{Global}
use Rattle.std.specs.List.{find, flat_map}
use Rattle.std.specs.Option.{option_map, unwrap_or}
use Rattle.std.proofs.lemmas.Bool.{cases_lt, or_right}
use Rattle.std.proofs.lemmas.List.Folds.{list_any-append}
use Rattle.std.proofs.lemmas.Slice.Eq.{bytes_eq-Decides}
use Rattle.bib_syntax.specs.Grammar.{is_word}
use Rattle.bib_syntax.specs.Reading.{FieldReading, FileReading}
use Rattle.edit_strings.specs.Collected.{AreNames, IsFirstNewName, definition_names, element_names, is_month, is_new_name, is_one_in_any_case, is_reusable, known_name, letters_or_s, name_letters, names_of_file, number_after, numbered_name, used_names}
use Rattle.edit_strings.specs.Collecting.{AreBelowUsed, AreUsedBelow, GetsName, IsLeastFree, is_taken, is_used}
use Rattle.edit_strings.specs.Expanded.{elements}
use Rattle.edit_strings.specs.declared.taken.Taken.{Taken}
use Rattle.edit_strings.proofs.NameFacts.{plain_can}
use Rattle.edit_strings.proofs.TextFacts.{any_push, or_assoc}

-- ---- used names stay used

still_used : (old new : Taken) (name : List ℕ)
    → ((other : List ℕ) → is_taken new other ≡ (is_word name other || is_taken old other)) → (other : List ℕ)
    → is_used old other ≡ true → is_used new other ≡ true
still_used old new name others other used = by_case (is_month other) refl used
  where
    by_case : (b : Bool) → is_month other ≡ b → (b || is_taken old other) ≡ true → (is_month other || is_taken new other) ≡ true
    by_case true is held = ap (λ b. b || is_taken new other) is
    by_case false is held =
        ap (λ b. b || is_taken new other) is ∙ others other ∙ or_right (is_word name other) (is_taken old other) held

pub still_below : (old new : Taken) (name : List ℕ)
    → ((other : List ℕ) → is_taken new other ≡ (is_word name other || is_taken old other)) → (base : List ℕ) (number : ℕ)
    → AreUsedBelow old base number → AreUsedBelow new base number
still_below old new name others base number used n some below = still_used old new name others (base ++ number_after n) (used n some below)

-- after a name is taken with a number, all numbers below the known ones still make used names
pub closed_more : (old new : Taken) (before after : BTreeMap (String Global) ℕ) (name base : List ℕ) (number : ℕ)
    → ((other : List ℕ) → is_taken new other ≡ (is_word name other || is_taken old other))
    → ((other : List ℕ) → get_by_text after other ≡ cond (bytes_eq base other) (Some number) (get_by_text before other))
    → AreBelowUsed old before → IsLeastFree old base number name → AreBelowUsed new after
closed_more old new before after name base number others set closed free other n is =
    by_case (bytes_eq base other) refl (sym (set other) ∙ is)
  where
    by_case : (b : Bool) → bytes_eq base other ≡ b → cond b (Some number) (get_by_text before other) ≡ Some n
        → (1 ≤ n) × AreUsedBelow new other n
    by_case true same found =
        let number_is : number ≡ n = cc in
        let base_is : base ≡ other = (bytes_eq-Decides base other).0 same in (
          omega (arith, free.some),
          subst (λ b. AreUsedBelow new b n) base_is
              (subst (AreUsedBelow new base) number_is (still_below old new name others base number free.first)),
        )
    by_case false differ found =
        let known = closed other n found in (known.0, still_below old new name others other n known.1)

-- if no start of a name has a number, each number below a known one makes a used name
pub none_closed : (taken : Taken) (numbers : BTreeMap (String Global) ℕ) → ((base : List ℕ) → get_by_text numbers base ≡ None)
    → AreBelowUsed taken numbers
none_closed taken numbers none base number is = let clash : None ≡ Some number = sym (none base) ∙ is in absurd (cc)

-- each number below the one from which the search for a name begins makes a used name
pub from_known : (taken : Taken) (base : List ℕ) (found : Option ℕ) (numbers : BTreeMap (String Global) ℕ)
    → found ≡ get_by_text numbers base → AreBelowUsed taken numbers
    → (1 ≤ unwrap_or found 1) × AreUsedBelow taken base (unwrap_or found 1)
from_known taken base None numbers is closed = (omega arith, λ n some below. absurd (omega (arith, some, below)))
from_known taken base (Some n) numbers is closed = closed base n (sym is)

-- if each number below this one makes a used name, and this one does, each number below the next one does
pub one_used : (taken : Taken) (base name : List ℕ) (number : ℕ) → name ≡ base ++ number_after number → is_used taken name ≡ true
    → AreUsedBelow taken base number → AreUsedBelow taken base (number + 1)
one_used taken base name number is used before n some below =
    elim (cases_lt n number) [
      | inl less ↦ before n some less
      | inr not_less ↦
          let same : n ≡ number = omega arith in
          ap (λ m. is_used taken (base ++ number_after m)) same ∙ sym (ap (is_used taken) is) ∙ used
    ]

-- ---- a known name is one of the file

pub find_passes : {A : Type 0} (test : A → Bool) (xs : List A) (x : A) → find test xs ≡ Some x → test x ≡ true
find_passes test [] x is = absurd (cc)
find_passes test (y ∷ ys) x is = by_case (test y) refl (find_passes test ys x) is
  where
    by_case : (b : Bool) → test y ≡ b → (find test ys ≡ Some x → test x ≡ true) → cond b (Some y) (find test ys) ≡ Some x
        → test x ≡ true
    by_case true passes later found = let same : y ≡ x = cc in sym (ap test same) ∙ passes
    by_case false fails later found = later found

-- the first definition that can be reused for a text has this name
pub record IsKnown (says : FileReading) (text name : List ℕ) : Type 0 where
  pub definition : FieldReading
  pub found : find (is_reusable says text) says.abbreviations ≡ Some definition
  pub named : definition.name.text ≡ name

pub known_definition : (says : FileReading) (text name : List ℕ) → known_name says text ≡ Some name → IsKnown says text name
known_definition says text name is = by_case (find (is_reusable says text) says.abbreviations) refl is
  where
    by_case : (o : Option FieldReading) → find (is_reusable says text) says.abbreviations ≡ o
        → option_map (λ f. f.name.text) o ≡ Some name → IsKnown says text name
    by_case None found same = absurd (cc)
    by_case (Some f) found same = record { definition = f; found = found; named = cc }

-- the name of a definition is one of the names of definitions
name_in : (test : FieldReading → Bool) (fs : List FieldReading) (f : FieldReading) (name other : List ℕ) → find test fs ≡ Some f
    → f.name.text ≡ name → is_word name other ≡ true → is_one_in_any_case (definition_names fs) other ≡ true
name_in test [] f name other is named word = absurd (cc)
name_in test (g ∷ gs) f name other is named word =
    by_case (test g) (λ found. name_in test gs f name other found named word) is
  where
    by_case : (b : Bool) → (find test gs ≡ Some f → is_one_in_any_case (definition_names gs) other ≡ true)
        → cond b (Some g) (find test gs) ≡ Some f → is_one_in_any_case (definition_names (g ∷ gs)) other ≡ true
    by_case true later found =
        let same : g ≡ f = cc in
        ap (λ n. is_word n other || is_one_in_any_case (element_names (elements g) ++ definition_names gs) other)
        (ap (λ x. x.name.text) same ∙ named)
        ∙ ap (λ b. b || is_one_in_any_case (element_names (elements g) ++ definition_names gs) other) word
    by_case false later found =
        or_right (is_word g.name.text other) (is_one_in_any_case (element_names (elements g) ++ definition_names gs) other)
        (list_any-append (λ o. is_word o other) (element_names (elements g)) (definition_names gs)
        ∙ or_right (is_one_in_any_case (element_names (elements g)) other) (is_one_in_any_case (definition_names gs) other)
        (later found))

pub known_in_file : (says : FileReading) (text name other : List ℕ) → known_name says text ≡ Some name → is_word name other ≡ true
    → is_one_in_any_case (names_of_file says) other ≡ true
known_in_file says text name other known word =
    let k = known_definition says text name known in
    list_any-append (λ o. is_word o other) (definition_names says.abbreviations) (flat_map (λ e. used_names e.fields) says.entries)
    ∙ ap (λ b. b || is_one_in_any_case (flat_map (λ e. used_names e.fields) says.entries) other)
    (name_in (is_reusable says text) says.abbreviations k.definition name other k.found k.named word)

-- ---- one more name

-- the taken names are those of the file and those of earlier texts
abbrev pub AreTaken : FileReading → List (List ℕ) → Taken → Type 0
AreTaken says names taken =
    (other : List ℕ) → is_taken taken other ≡ (is_one_in_any_case names other || is_one_in_any_case (names_of_file says) other)

new_is : (says : FileReading) (names : List (List ℕ)) (taken : Taken) → AreTaken says names taken → (name : List ℕ)
    → is_new_name says names name ≡ not (is_used taken name)
new_is says names taken are name = ap (λ b. not (is_month name || b)) (sym (are name))

first_new : (says : FileReading) (names : List (List ℕ)) (taken : Taken) (text name : List ℕ) (number : ℕ) → AreTaken says names taken
    → IsLeastFree taken (letters_or_s (name_letters text)) number name → IsFirstNewName says names text name
first_new says names taken text name number are free = record {
  can = (plain_can name free.plain).0;
  no_digit = (plain_can name free.plain).1;
  number = number;
  some = free.some;
  is = free.is;
  new = new_is says names taken are name ∙ ap not free.new;
  first = λ n some below. new_is says names taken are (numbered_name text n) ∙ ap not (free.first n some below);
}

-- these are the names of the texts so far, and the taken names are these and those of the file
pub record AreNamed (says : FileReading) (texts names : List (List ℕ)) (now : Taken) : Type 0 where
  pub named : AreNames says texts names
  pub taken : AreTaken says names now

absorbed : (a b c : Bool) → (a ≡ true → c ≡ true) → (b || c) ≡ ((a || b) || c)
absorbed true true c held = refl
absorbed true false c held = held refl
absorbed false b c held = refl

-- after one more name, these are the names of the texts so far
pub named_more : (says : FileReading) (texts names : List (List ℕ)) (text name : List ℕ) (old new : Taken)
    (numbers : BTreeMap (String Global) ℕ) (known : Option (List ℕ)) → known ≡ known_name says text
    → GetsName old new numbers known text name → AreNamed says texts names old
    → AreNamed says (texts ++ text ∷ []) (names ++ name ∷ []) new
named_more says texts names text name old new numbers (Some own) is (same, stays) so_far =
    let known : known_name says text ≡ Some name = sym is ∙ ap Some (sym same) in record {
      named = AreNames.known text name so_far.named known;
      taken = λ other.
          stays.others other ∙ so_far.taken other
          ∙ absorbed (is_word name other) (is_one_in_any_case names other) (is_one_in_any_case (names_of_file says) other)
          (λ word. known_in_file says text name other known word)
          ∙ ap (λ b. b || is_one_in_any_case (names_of_file says) other) (sym (any_push (λ n. is_word n other) names name));
    }
named_more says texts names text name old new numbers None is takes so_far = record {
  named = AreNames.new text name so_far.named (sym is) (first_new says names old text name takes.number so_far.taken takes.free);
  taken = λ other.
      takes.others other ∙ ap (λ b. is_word name other || b) (so_far.taken other)
      ∙ or_assoc (is_word name other) (is_one_in_any_case names other) (is_one_in_any_case (names_of_file says) other)
      ∙ ap (λ b. b || is_one_in_any_case (names_of_file says) other) (sym (any_push (λ n. is_word n other) names name));
}

pub gets_closed : (old new : Taken) (numbers : BTreeMap (String Global) ℕ) (known : Option (List ℕ)) (text name : List ℕ)
    → GetsName old new numbers known text name → AreBelowUsed new numbers
gets_closed old new numbers (Some own) text name (same, stays) = stays.closed
gets_closed old new numbers None text name takes = takes.closed

-- there are as many names as texts
pub length-names : (says : FileReading) {texts names : List (List ℕ)} → AreNames says texts names → length names ≡ length texts
length-names says AreNames.none = refl
length-names says (AreNames.known {texts = texts} {names = names} text name others known) =
    omega (arith, length-append names (name ∷ []), length-append texts (text ∷ []), length-names says others)
length-names says (AreNames.new {texts = texts} {names = names} text name others unknown new) =
    omega (arith, length-append names (name ∷ []), length-append texts (text ∷ []), length-names says others)
