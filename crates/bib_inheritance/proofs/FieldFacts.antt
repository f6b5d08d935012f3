-- The fields of the map after inheriting.
use Rattle.std.proofs.Common.{◌≡◌, ℕ, List, ◌++◌, Bool, true, false, cond, ◌||◌, reverse, refl, sym, ap, ◌∙◌, Option, Some, None, option_map, is_some, codes}
use Rattle.std.specs.Str.{bytes_eq}
use Rattle.std.specs.FinMap.{get, find, entries, insert, remove, from_entries, get-from_entries, get-insert, get-remove, get-entries}
use Rattle.std.proofs.lemmas.Cmp.{nat_list_cmp_total}
use Rattle.std.proofs.lemmas.List.{reverse-reverse}
use Rattle.std.proofs.lemmas.Map.Text.{is_eq-slice_cmp}
use Rattle.bib_text.proofs.BytesFacts.{bytes_turned}
use Rattle.bib_chunks.specs.Styled.{Atom, styled}
use Rattle.bib_collections.specs.Sorted.{ByText, by_bytes}
use Rattle.bib_tables.specs.Requirements.{is_one_of}
use Rattle.bib_tables.specs.declared.mechanics.EntryType.{EntryType}
use Rattle.bib_inheritance.specs.InheritableDate.{date_for}
use Rattle.bib_inheritance.specs.Inherited.{date_parts, field_by, plain_field, inherited_field, with_inherited_fields}
use Rattle.bib_inheritance.specs.EntryTexts.{EntryTexts, FieldTexts, fields_of, first_named, first_some, texts_of_fields}
use Rattle.bib_inheritance.proofs.GatheredFacts.{Value, first_after, styled_first}

abbrev pub Map : Type 0
Map = ByText Value

-- the field of a name in a map after removing a key
pub removed_at : {V : Type 0} (m : ByText V) (k q : List ℕ) → get (remove m k) q ≡ cond (bytes_eq q k) None (get m q)
removed_at m k q = get-remove nat_list_cmp_total m k q ∙ ap (λ b. cond b None (get m q)) (is_eq-slice_cmp q k)

-- the map of a list of fields
abbrev pub fields_map : List (List ℕ × Value) → Map
fields_map pairs = from_entries pairs

-- the field of a name after adding fields and removing one: the own field counts before the added one
pub field_gathered : (own : Map) (given : List (List ℕ × Value)) (gone q : List ℕ)
    → get (remove (fields_map (reverse (reverse (entries own ++ given)))) gone) q
    ≡ cond (bytes_eq q gone) None (first_some (get own q) (first_named given q))
field_gathered own given gone q =
    removed_at (fields_map (reverse (reverse (entries own ++ given)))) gone q
    ∙ ap (cond (bytes_eq q gone) None)
    (get-from_entries nat_list_cmp_total (reverse (reverse (entries own ++ given))) q
    ∙ ap (find by_bytes q) (reverse-reverse (entries own ++ given))
    ∙ first_after q (entries own) given
    ∙ ap (λ o. first_some o (first_named given q)) (sym (get-entries own q)))

-- removing three names one after another is removing any of them
three : {A : Type 0} (a b c : Bool) (x : Option A) → cond c None (cond b None (cond a None x)) ≡ cond (a || (b || (c || false))) None x
three true true true x = refl
three true true false x = refl
three true false true x = refl
three true false false x = refl
three false true true x = refl
three false true false x = refl
three false false true x = refl
three false false false x = refl

-- the field of a name in a map after inserting one
inserted_at : (m : Map) (k : List ℕ) (v : Value) (q : List ℕ) → get (insert m k v) q ≡ cond (bytes_eq q k) (Some v) (get m q)
inserted_at m k v q = get-insert nat_list_cmp_total m k v q ∙ ap (λ b. cond b (Some v) (get m q)) (is_eq-slice_cmp q k)

-- a field of a map after removing three names and setting another
pub field_dated : (m : Map) (a b c k : List ℕ) (v : Value) (q : List ℕ)
    → get (insert (remove (remove (remove m a) b) c) k v) q
    ≡ cond (bytes_eq q k) (Some v) (cond (bytes_eq a q || (bytes_eq b q || (bytes_eq c q || false))) None (get m q))
field_dated m a b c k v q =
    inserted_at (remove (remove (remove m a) b) c) k v q
    ∙ ap (cond (bytes_eq q k) (Some v))
    (removed_at (remove (remove m a) b) c q
    ∙ ap (cond (bytes_eq q c) None) (removed_at (remove m a) b q ∙ ap (cond (bytes_eq q b) None) (removed_at m a q))
    ∙ three (bytes_eq q a) (bytes_eq q b) (bytes_eq q c) (get m q)
    ∙ ap (λ x. cond (x || (bytes_eq q b || (bytes_eq q c || false))) None (get m q)) (bytes_turned q a)
    ∙ ap (λ x. cond (bytes_eq a q || (x || (bytes_eq q c || false))) None (get m q)) (bytes_turned q b)
    ∙ ap (λ x. cond (bytes_eq a q || (bytes_eq b q || (x || false))) None (get m q)) (bytes_turned q c))

-- ---- the rule of inheritance

styled_if : (b : Bool) (x y : Option Value) → option_map styled (cond b x y) ≡ cond b (option_map styled x) (option_map styled y)
styled_if true x y = refl
styled_if false x y = refl

-- the rule for a field commutes with taking styled texts
styled_plain : (own given : List ℕ → Option Value) (name : List ℕ)
    → option_map styled (plain_field own given name)
    ≡ plain_field (λ n. option_map styled (own n)) (λ n. option_map styled (given n)) name
styled_plain own given name =
    styled_if (bytes_eq name (codes "xdata")) None (first_some (own name) (given name))
    ∙ ap (cond (bytes_eq name (codes "xdata")) None) (styled_first (own name) (given name))

-- the rule for a field with an inherited date commutes with taking styled texts
styled_by : (date : Option Value) (own given : List ℕ → Option Value) (name : List ℕ)
    → option_map styled (field_by date own given name)
    ≡ field_by (option_map styled date) (λ n. option_map styled (own n)) (λ n. option_map styled (given n)) name
styled_by None own given name = styled_plain own given name
styled_by (Some date) own given name =
    styled_if (bytes_eq name (codes "date")) (Some date) (cond (is_one_of date_parts name) None (plain_field own given name))
    ∙ ap (cond (bytes_eq name (codes "date")) (Some (styled date)))
    (styled_if (is_one_of date_parts name) None (plain_field own given name)
    ∙ ap (cond (is_one_of date_parts name) None) (styled_plain own given name))

-- if an entry has a field, the offered one has no effect
plain_lacked : {A : Type 0} (own given : Option A) → first_some own (cond (is_some own) None given) ≡ first_some own given
plain_lacked None given = refl
plain_lacked (Some x) given = refl

-- the rule needs only the given fields that the entry lacks
by_lacked : (date : Option (List Atom)) (own given : FieldTexts) (name : List ℕ)
    → field_by date own (λ n. cond (is_some (own n)) None (given n)) name ≡ field_by date own given name
by_lacked None own given name = ap (cond (bytes_eq name (codes "xdata")) None) (plain_lacked (own name) (given name))
by_lacked (Some date) own given name =
    ap
    (λ o.
    cond (bytes_eq name (codes "date")) (Some date)
    (cond (is_one_of date_parts name) None (cond (bytes_eq name (codes "xdata")) None o)))
    (plain_lacked (own name) (given name))

-- the entry after inheriting satisfies the rule
pub inherits : (entry_type : EntryType) (own fields : Map) (refs : List EntryTexts) (given : List (List ℕ × Value)) (date : Option Value)
    →
    ((name : List ℕ)
    → option_map styled (first_named given name)
    ≡ cond (is_some (fields_of own name)) None (inherited_field entry_type name refs))
    → option_map styled date ≡ date_for (texts_of_fields entry_type own) refs
    → ((name : List ℕ) → get fields name ≡ field_by date (get own) (first_named given) name)
    → texts_of_fields entry_type fields ≡ with_inherited_fields (texts_of_fields entry_type own) refs
inherits entry_type own fields refs given date gives dated h =
    let same : (name : List ℕ)
    → fields_of fields name
    ≡ field_by (date_for (texts_of_fields entry_type own) refs) (fields_of own)
    (λ n. inherited_field entry_type n refs) name =
    λ name. ap (option_map styled) (h name) ∙ styled_by date (get own) (first_named given) name
    ∙ ap (λ d. field_by d (fields_of own) (λ n. option_map styled (first_named given n)) name) dated
    ∙ ap (λ (f : FieldTexts). field_by (date_for (texts_of_fields entry_type own) refs) (fields_of own) f name) (λ i n. gives n i)
    ∙ by_lacked (date_for (texts_of_fields entry_type own) refs) (fields_of own) (λ n. inherited_field entry_type n refs) name
    in
    λ i. record { entry_type = entry_type; fields = λ name. same name i }
