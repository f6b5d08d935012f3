-- The fields that parents give.
use Rattle.std.proofs.Common.{◌≡◌, ℕ, ◌+◌, ◌<◌, Bool, true, false, cond, List, [], ◌∷◌, ◌++◌, map, take, get_or, length, zero, arith, append-nil, refl, sym, ap, subst, ◌∙◌, is_some, Option, Some, None}
use Rattle.std.specs.Prelude.{bytes_eq}
use Rattle.std.specs.BTreeMap.{BTreeMap, get_by_text}
use Rattle.std.specs.List.{AllByRecursion, Contains, find, flat_map}
use Rattle.std.specs.Option.{option_map, option_or}
use Rattle.std.specs.Prelude.{String}
use Rattle.std.proofs.lemmas.List.{take_more}
use Rattle.std.proofs.lemmas.List.Concat.{flat_map-append}
use Rattle.std.proofs.lemmas.List.Folds.{find-append}
use Rattle.std.proofs.lemmas.Slice.Eq.{bytes_eq-Decides}
use Rattle.edit_resolve.specs.Inheritance.{read_name}
use Rattle.bib_text.proofs.ListFacts.{contains_more, mapped_more}
use Rattle.bib_text.proofs.OptionFacts.{some_mapped, mapped_cond, or_none}
use Rattle.edit_resolve.specs.Resolved.{Named, given_fields, given_fields_by, is_read_as}
use Rattle.edit_resolve.specs.Working.{Gives, given_at, named_of}
use Rattle.edit_resolve.specs.declared.gathering.Named.{Named as NamedField}
use Rattle.edit_resolve.specs.declared.parents.Parent.{Parent}

or_or : {A : Type 0} (a b c : Option A) → option_or (option_or a b) c ≡ option_or a (option_or b c)
or_or (Some x) b c = refl
or_or None b c = refl

pub gives_none : {A : Type 0} (given : BTreeMap (String A) NamedField) → Gives given [] given
gives_none given = λ name. sym (or_none (given_at given name))

-- after a map gets some fields, and then others, it has got both
pub gives_then : {A : Type 0} (a b c : BTreeMap (String A) NamedField) (xs ys : List Named) → Gives a xs b → Gives b ys c
    → Gives a (xs ++ ys) c
gives_then a b c xs ys first second = λ name.
    second name ∙ ap (λ o. option_or o (find (is_read_as name) ys)) (first name)
    ∙ or_or (given_at a name) (find (is_read_as name) xs) (find (is_read_as name) ys)
    ∙ ap (option_or (given_at a name)) (sym (find-append (is_read_as name) xs ys))

-- a name that has a field keeps it when a field with this name is given
pub name_kept : {A : Type 0} (given : BTreeMap (String A) NamedField) (n : Named) (low : List ℕ) → low ≡ read_name n.name
    → is_some (get_by_text given low) ≡ true → Gives given (n ∷ []) given
name_kept given n low is there = λ name. by_case name (bytes_eq (read_name n.name) name) refl
  where
    had : (o p : Option Named) → is_some o ≡ true → o ≡ option_or o p
    had (Some x) p some = refl
    had None p some = absurd (cc)

    by_case : (name : List ℕ) (b : Bool) → bytes_eq (read_name n.name) name ≡ b
        → given_at given name ≡ option_or (given_at given name) (cond b (Some n) None)
    by_case name true same =
        had (given_at given name) (Some n)
        (some_mapped named_of (get_by_text given name)
        ∙ ap (λ l. is_some (get_by_text given l)) (sym ((bytes_eq-Decides (read_name n.name) name).0 same) ∙ sym is) ∙ there)
    by_case name false other = sym (or_none (given_at given name))

-- a name without a field gets the field that is given
pub name_added : {A : Type 0} (old new : BTreeMap (String A) NamedField) (n : NamedField) (low : List ℕ) → low ≡ read_name (named_of n).name
    → is_some (get_by_text old low) ≡ false
    → ((name : List ℕ) → get_by_text new name ≡ cond (bytes_eq low name) (Some n) (get_by_text old name))
    → Gives old (named_of n ∷ []) new
name_added old new n low is none added = λ name.
    ap (option_map named_of) (added name) ∙ mapped_cond named_of (bytes_eq low name) n (get_by_text old name)
    ∙ ap (λ l. cond (bytes_eq l name) (Some (named_of n)) (given_at old name)) is
    ∙ by_case name (bytes_eq (read_name (named_of n).name) name) refl
  where
    new_one : (o p : Option Named) → is_some o ≡ false → p ≡ option_or o p
    new_one None p none = refl
    new_one (Some x) p none = absurd (cc)

    by_case : (name : List ℕ) (b : Bool) → bytes_eq (read_name (named_of n).name) name ≡ b
        → cond b (Some (named_of n)) (given_at old name) ≡ option_or (given_at old name) (cond b (Some (named_of n)) None)
    by_case name true same =
        new_one (given_at old name) (Some (named_of n))
        (some_mapped named_of (get_by_text old name)
        ∙ ap (λ l. is_some (get_by_text old l)) (sym ((bytes_eq-Decides (read_name (named_of n).name) name).0 same) ∙ sym is) ∙ none)
    by_case name false other = sym (or_none (given_at old name))

-- after one more field of a list is given, the fields up to the next index are
pub gives_more : {A : Type 0} (each : List Named → List Named) → ((xs ys : List Named) → each (xs ++ ys) ≡ each xs ++ each ys)
    → (all : List NamedField) (i : ℕ) (x : NamedField) (a b c : BTreeMap (String A) NamedField) → i < length all → x ≡ get_or all i x
    → Gives a (each (map named_of (take i all))) b → Gives b (each (named_of x ∷ [])) c
    → Gives a (each (map named_of (take (i + 1) all))) c
gives_more each joins all i x a b c within is before now =
    subst (λ l. Gives a l c)
    (sym (ap each (mapped_more named_of all i x within is) ∙ joins (map named_of (take i all)) (named_of x ∷ [])))
    (gives_then a b c (each (map named_of (take i all))) (each (named_of x ∷ [])) before now)

-- if the test fails, the field isn't given
pub passed_over : {A : Type 0} (given : BTreeMap (String A) NamedField) (n : Named) (b : Bool) → b ≡ false
    → Gives given (cond b (n ∷ []) []) given
passed_over given n b is = subst (λ b. Gives given (cond b (n ∷ []) []) given) (sym is) (gives_none given)

-- if the test is passed, the field is given
pub passed_on : {A : Type 0} (old new : BTreeMap (String A) NamedField) (n : Named) (b : Bool) → b ≡ true → Gives old (n ∷ []) new
    → Gives old (cond b (n ∷ []) []) new
passed_on old new n b is gives = subst (λ b. Gives old (cond b (n ∷ []) []) new) (sym is) gives

-- the fields that parents give, and those that the next one gives, are those that the parents up to the next index give
pub parents_give : (fields : ℕ → List Named) (ps : List Parent) (i : ℕ) (d : Parent) → i < length ps
    → given_fields_by fields (take i ps) ++ given_fields (get_or ps i d).link (fields (get_or ps i d).index)
    ≡ given_fields_by fields (take (i + 1) ps)
parents_give fields ps i d within =
    let each = λ (p : Parent). given_fields p.link (fields p.index) in
    let p : Parent = get_or ps i d in
    ap (λ l. given_fields_by fields (take i ps) ++ l) (sym (append-nil (each p)))
    ∙ sym (flat_map-append each (take i ps) (p ∷ []))
    ∙ ap (flat_map each) (sym (take_more ps i d within))

-- parents with the same fields give the same fields
pub given_alike : (fields others : ℕ → List Named) (ps : List Parent)
    → ((i : ℕ) → Contains (map (λ p. p.index) ps) i → fields i ≡ others i) → given_fields_by fields ps ≡ given_fields_by others ps
given_alike fields others [] same = refl
given_alike fields others (p ∷ ps) same =
    ap (λ l. given_fields p.link l ++ given_fields_by fields ps) (same p.index (zero, omega arith, refl))
    ∙ ap (λ l. given_fields p.link (others p.index) ++ l)
    (given_alike fields others ps (λ i there. same i (contains_more p.index i (map (λ p. p.index) ps) there)))

-- if all fields have a property, one that is found has it
pub all_found : (P : Named → Type 0) (test : Named → Bool) (ns : List Named) (n : Named) → AllByRecursion P ns → find test ns ≡ Some n
    → P n
all_found P test [] n all is = absurd (cc)
all_found P test (m ∷ ms) n all is = by_case (test m) is (λ found. all_found P test ms n all.1 found)
  where
    by_case : (b : Bool) → cond b (Some m) (find test ms) ≡ Some n → (find test ms ≡ Some n → P n) → P n
    by_case true found later = let same : m ≡ n = cc in subst P same all.0
    by_case false found later = later found
