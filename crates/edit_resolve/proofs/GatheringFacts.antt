-- The fields that parents offer an entry, added one after another.
use Rattle.std.proofs.Common.{◌≡◌, ℕ, ◌+◌, ◌<◌, Bool, true, false, cond, List, [], ◌∷◌, ◌++◌, length, map, take, get_or, refl, sym, ap, ◌∙◌, subst, append_assoc, append-nil, Option, Some, Result, Ok, Err, zero, suc}
use Rattle.std.specs.Prelude.{bytes_eq, ◌||◌, unwrap_or, OnOk}
use Rattle.bib_text.specs.Enums.{value_named}
use Rattle.bib_text.proofs.ListFacts.{mapped_more, any_same}
use Rattle.std.specs.BTreeSet.{contains_text}
use Rattle.std.specs.List.{flat_map}
use Rattle.std.proofs.lemmas.List.{map-append, take_more}
use Rattle.std.proofs.lemmas.List.Concat.{flat_map-append}
use Rattle.std.proofs.lemmas.List.Folds.{list_any-append}
use Rattle.bib_queries.specs.Needed.{is_listed}
use Rattle.bib_syntax.specs.declared.raw.Pair.{Pair}
use Rattle.bib_syntax.specs.Views.{field_of}
use Rattle.bib_text.proofs.BoolFacts.{cond_last}
use Rattle.edit_resolve.specs.Inheritance.{read_name, rival_names}
use Rattle.bib_syntax.specs.Reading.{EntryReading}
use Rattle.bib_tables.specs.declared.mechanics.EntryType.{EntryType}
use Rattle.edit_resolve.specs.Parents.{entry_at, type_of}
use Rattle.edit_resolve.specs.Resolved.{Named, is_ruled_out, new_fields, offers, renamed}
use Rattle.edit_resolve.specs.declared.parents.Parent.{Parent}
use Rattle.edit_resolve.specs.Working.{IsGathered, Offered, is_ruled_out_in, named_of, offered_at, read_names, type_at}
use Rattle.edit_resolve.specs.declared.gathering.Named.{Named as NamedField}
use Rattle.edit_resolve.specs.declared.gathering.Gathered.{Gathered}

-- the new fields among two lists are those among the first, and those among the second once the names of the former are taken
pub new_append : (taken : List (List ℕ)) (xs ys : List Named)
    → new_fields taken (xs ++ ys) ≡ new_fields taken xs ++ new_fields (taken ++ read_names (new_fields taken xs)) ys
new_append taken [] ys = ap (λ t. new_fields t ys) (sym (append-nil taken))
new_append taken (x ∷ xs) ys =
    by_case (is_ruled_out taken (read_name x.name)) (new_append taken xs ys) (new_append (taken ++ read_name x.name ∷ []) xs ys)
  where
    by_case : (b : Bool)
        → new_fields taken (xs ++ ys) ≡ new_fields taken xs ++ new_fields (taken ++ read_names (new_fields taken xs)) ys
        → new_fields (taken ++ read_name x.name ∷ []) (xs ++ ys)
        ≡ new_fields (taken ++ read_name x.name ∷ []) xs
        ++ new_fields ((taken ++ read_name x.name ∷ []) ++ read_names (new_fields (taken ++ read_name x.name ∷ []) xs)) ys
        → cond b (new_fields taken (xs ++ ys)) (x ∷ new_fields (taken ++ read_name x.name ∷ []) (xs ++ ys))
        ≡ cond b (new_fields taken xs) (x ∷ new_fields (taken ++ read_name x.name ∷ []) xs)
        ++ new_fields
        (taken ++ read_names (cond b (new_fields taken xs) (x ∷ new_fields (taken ++ read_name x.name ∷ []) xs))) ys
    by_case true same more = same
    by_case false same more =
        ap (λ l. x ∷ l)
        (more
        ∙ ap (λ t. new_fields (taken ++ read_name x.name ∷ []) xs ++ new_fields t ys)
        (append_assoc taken (read_name x.name ∷ []) (read_names (new_fields (taken ++ read_name x.name ∷ []) xs))))

-- if no field is offered, nothing changes
pub offered_none : (g : Gathered) → Offered g [] g
offered_none g taken fields is =
    subst (λ t. IsGathered t (fields ++ []) g) (sym (append-nil taken))
    (subst (λ l. IsGathered taken l g) (sym (append-nil fields)) is)

-- after fields are offered, and then others, both are offered
pub offered_then : (a b c : Gathered) (xs ys : List Named) → Offered a xs b → Offered b ys c → Offered a (xs ++ ys) c
offered_then a b c xs ys first second taken fields is =
    let now : List Named = new_fields taken xs in
    let later : List Named = new_fields (taken ++ read_names now) ys in
    let all : IsGathered ((taken ++ read_names now) ++ read_names later) ((fields ++ now) ++ later) c =
    second (taken ++ read_names now) (fields ++ now) (first taken fields is) in
    let whole : new_fields taken (xs ++ ys) ≡ now ++ later = new_append taken xs ys in
    let names : (taken ++ read_names now) ++ read_names later ≡ taken ++ read_names (new_fields taken (xs ++ ys)) =
    append_assoc taken (read_names now) (read_names later)
    ∙ ap (λ l. taken ++ l) (sym (map-append (λ n. read_name n.name) now later))
    ∙ ap (λ l. taken ++ read_names l) (sym whole) in
    let lists : (fields ++ now) ++ later ≡ fields ++ new_fields taken (xs ++ ys) =
    append_assoc fields now later ∙ ap (λ l. fields ++ l) (sym whole) in
    subst (λ t. IsGathered t (fields ++ new_fields taken (xs ++ ys)) c) names
    (subst (λ l. IsGathered ((taken ++ read_names now) ++ read_names later) l c) lists all)

-- a list that is equal to the offered fields is offered
pub offered_same : (a b : Gathered) (xs ys : List Named) → xs ≡ ys → Offered a xs b → Offered a ys b
offered_same a b xs ys same offered = subst (λ l. Offered a l b) same offered

-- after one more field of a list is offered, the fields up to the next index are
pub offered_more : (each : List Named → List Named) → ((xs ys : List Named) → each (xs ++ ys) ≡ each xs ++ each ys)
    → (all : List NamedField) (i : ℕ) (x : NamedField) (a b c : Gathered) → i < length all → x ≡ get_or all i x
    → Offered a (each (map named_of (take i all))) b → Offered b (each (named_of x ∷ [])) c
    → Offered a (each (map named_of (take (i + 1) all))) c
offered_more each joins all i x a b c within is before now =
    offered_same a c _ _
    (sym (ap each (mapped_more named_of all i x within is) ∙ joins (map named_of (take i all)) (named_of x ∷ [])))
    (offered_then a b c _ _ before now)

-- a set that has the taken names rules out the same names
pub taken_known : (taken : List (List ℕ)) (has : List ℕ → Bool) (name : List ℕ)
    → ((q : List ℕ) → has q ≡ is_listed taken q) → is_ruled_out_in has name ≡ is_ruled_out taken name
taken_known taken has name known = any_same has (is_listed taken) known (name ∷ unwrap_or (value_named rival_names name) [])

-- one field is offered: it is new exactly if its name isn't ruled out
pub one_new : (taken : List (List ℕ)) (n : Named) (b : Bool) → is_ruled_out taken (read_name n.name) ≡ b
    → new_fields taken (n ∷ []) ≡ cond b [] (n ∷ [])
one_new taken n b is = ap (λ t. cond t [] (n ∷ [])) is

-- a set has a name after one more is taken exactly if it had it or it is this one
pub listed_more : (taken : List (List ℕ)) (name q : List ℕ) (has : Bool) → has ≡ is_listed taken q
    → cond (bytes_eq name q) true has ≡ is_listed (taken ++ name ∷ []) q
listed_more taken name q has known =
    ap (cond (bytes_eq name q) true) known ∙ cond_last (bytes_eq name q) (is_listed taken q)
    ∙ sym (list_any-append (λ one. bytes_eq one q) taken (name ∷ []))

-- a field whose name isn't ruled out is added, and its name is taken
pub pushed : (taken : List (List ℕ)) (fields : List Named) (n : Named) (old new : Gathered) (low : List ℕ) → low ≡ read_name n.name
    → is_ruled_out_in (contains_text old.names) low ≡ false
    → ((q : List ℕ) → contains_text new.names q ≡ cond (bytes_eq low q) true (contains_text old.names q))
    → map named_of new.fields.items ≡ map named_of old.fields.items ++ n ∷ [] → IsGathered taken fields old
    → IsGathered (taken ++ read_names (new_fields taken (n ∷ []))) (fields ++ new_fields taken (n ∷ [])) new
pushed taken fields n old new low read free added lists is =
    let new_is : new_fields taken (n ∷ []) ≡ n ∷ [] =
    one_new taken n false
    (ap (is_ruled_out taken) (sym read) ∙ sym (taken_known taken (contains_text old.names) low is.names) ∙ free) in
    let all : IsGathered (taken ++ read_name n.name ∷ []) (fields ++ n ∷ []) new = record {
      names = λ q.
          added q ∙ listed_more taken low q (contains_text old.names q) (is.names q)
          ∙ ap (λ l. is_listed (taken ++ l ∷ []) q) read;
      fields = lists ∙ ap (λ l. l ++ n ∷ []) is.fields;
    } in
    subst (λ l. IsGathered (taken ++ read_names l) (fields ++ l) new) (sym new_is) all

-- a list of one element, if a test is passed, is this list
pub passed : {A : Type 0} (x : A) (b : Bool) → b ≡ true → x ∷ [] ≡ cond b (x ∷ []) []
passed x b is = ap (λ t. cond t (x ∷ []) []) (sym is)

-- a field with a new name is the list of its renamed fields
pub renamed_found : (n : Named) (new : Option (List ℕ)) (name : List ℕ) → new ≡ Some name
    → record { name = name; field = n.field } ∷ [] ≡ renamed n new
renamed_found n new name is = ap (renamed n) (sym is)

-- a set has the names of the own fields up to the next index after it gets the name of the next field
pub names_more : (fields : List Pair) (i : ℕ) (f : Pair) (low q : List ℕ) (has : Bool) → i < length fields → f ≡ get_or fields i f
    → low ≡ read_name f.key.v.now
    → has ≡ is_listed (map (λ f. read_name f.name.text) (map field_of (take i fields))) q
    → cond (bytes_eq low q) true has ≡ is_listed (map (λ f. read_name f.name.text) (map field_of (take (i + 1) fields))) q
names_more fields i f low q has within is read known =
    listed_more (map (λ f. read_name f.name.text) (map field_of (take i fields))) low q has known
    ∙ ap (λ l. is_listed (map (λ f. read_name f.name.text) (map field_of (take i fields)) ++ l ∷ []) q) read
    ∙ ap (λ l. is_listed l q)
    (sym (ap (map (λ f. read_name f.name.text)) (mapped_more field_of fields i f within is)
    ∙ map-append (λ f. read_name f.name.text) (map field_of (take i fields)) (field_of f ∷ [])))

-- a consequence of the property of a success is a property of the success
pub on_ok : {A E : Type 0} {P Q : Type 0} (r : Result A E) → (P → Q) → OnOk r P → OnOk r Q
on_ok (Ok x) f is = f is
on_ok (Err e) f is = is

-- the type at an index among the types of all entries is that of the entry there
type_is : (entries : List EntryReading) (i : ℕ) → type_at (map type_of entries) i ≡ type_of (entry_at entries i)
type_is [] i = refl
type_is (e ∷ es) zero = refl
type_is (e ∷ es) (suc i) = type_is es i

-- the fields that parents offer, by the types of all entries, are those by the types of the parents
pub offered_is : (entries : List EntryReading) (types : List EntryType) (child : EntryType) (fields : ℕ → List Named) (ps : List Parent)
    → types ≡ map type_of entries
    → offered_at types child fields ps
    ≡ flat_map (λ p. offers p.link (type_of (entry_at entries p.index)) child (fields p.index)) ps
offered_is entries types child fields [] are = refl
offered_is entries types child fields (p ∷ ps) are =
    ap (λ k. offers p.link k child (fields p.index) ++ offered_at types child fields ps)
    (ap (λ ks. type_at ks p.index) are ∙ type_is entries p.index)
    ∙ ap (λ l. offers p.link (type_of (entry_at entries p.index)) child (fields p.index) ++ l)
    (offered_is entries types child fields ps are)

-- after the fields of one more parent are offered, those of the parents up to the next index are
pub parents_more : (types : List EntryType) (child : EntryType) (fields : ℕ → List Named) (ps : List Parent) (i : ℕ) (d : Parent)
    (a b c : Gathered) → i < length ps → Offered a (offered_at types child fields (take i ps)) b
    → Offered b (offers (get_or ps i d).link (type_at types (get_or ps i d).index) child (fields (get_or ps i d).index)) c
    → Offered a (offered_at types child fields (take (i + 1) ps)) c
parents_more types child fields ps i d a b c within before now =
    let each = λ (q : Parent). offers q.link (type_at types q.index) child (fields q.index) in
    let p : Parent = get_or ps i d in
    offered_same a c _ _
    (ap (λ l. offered_at types child fields (take i ps) ++ l) (sym (append-nil (each p)))
    ∙ sym (flat_map-append each (take i ps) (p ∷ []))
    ∙ ap (flat_map each) (sym (take_more ps i d within)))
    (offered_then a b c _ _ before now)
