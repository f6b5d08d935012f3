-- Resolving the entries one by one.
use Rattle.std.proofs.Common.{◌≡◌, ◌≢◌, ℕ, zero, suc, ◌+◌, ◌<◌, List, [], ◌∷◌, ◌++◌, Bool, true, false, cond, ◌||◌, ◌&&◌, not, length, get_or, set, take, map, refl, sym, ap, ◌∙◌, subst, arith, Option, Some, None, inl, inr, ◌⊎◌, option_map, is_some, codes, bytes_eq, eqb, eq-eqb, length-set, get_or-set_same, get_or-set_other}
use Rattle.std.specs.Prelude.{slice_get}
use Rattle.std.specs.List.{All, Contains, list_any}
use Rattle.std.specs.Cmp.{unsigned_tied}
use Rattle.std.specs.Ordering.{eq_by_cmp, nat_cmp}
use Rattle.std.specs.FinMap.{get}
use Rattle.std.proofs.lemmas.Bool.{cases_Bool, both_ways, false≢true, eqb-true}
use Rattle.std.proofs.lemmas.List.{get_or-map, get_or_default, map-set, map_push, nil_from_length, take_more, set-get_or, length-map}
use Rattle.std.proofs.lemmas.Option.{slice_get-get_or, slice_get_within}
use Rattle.std.proofs.lemmas.List.Elements.{Contains-append_left, Contains-push}
use Rattle.std.proofs.lemmas.Slice.Eq.{bytes_eq-Decides}
use Rattle.std.proofs.lemmas.List.Folds.{list_any_more}
use Rattle.bib_chunks.specs.Styled.{styled}
use Rattle.bib_entry.specs.declared.entry.Entry.{Entry}
use Rattle.bib_collections.specs.Graph.{Graph, IsTopologicalOrder, refs_of}
use Rattle.bib_collections.specs.Solving.{IsSolvedTo}
use Rattle.bib_collections.proofs.Solving.{new_turn, solved_none, solved_more}
use Rattle.bib_collections.proofs.LeadFacts.{turn_within}
use Rattle.std.proofs.Math.Bool.{and-false, or-false}
use Rattle.bib_text.proofs.ListFacts.{some_same}
use Rattle.bib_inheritance.specs.InheritableDate.{date_for, last_date, looks_for_date}
use Rattle.bib_inheritance.specs.Inherited.{date_parts, field_by, offered_field, plain_field, inherited_field, with_inherited_fields}
use Rattle.bib_inheritance.specs.EntryTexts.{EntryTexts, fields_of, first_named, first_some, has, no_entry, texts_of_fields, texts_of_reference, texts_of_references}
use Rattle.bib_inheritance.specs.declared.offers.Reference.{Reference}
use Rattle.bib_inheritance.proofs.FieldFacts.{inherits}
use Rattle.bib_inheritance.proofs.GatheredFacts.{Value, first_alone, first_last}
use Rattle.bib_tables.specs.Requirements.{is_one_of, rules_of}
use Rattle.bib_tables.specs.declared.mechanics.EntryType.{EntryType}
use Rattle.bib_inheritance.specs.Resolving.{AllKeepChunks, KeepsChunks, at_index, rule_by, texts_of_entries, texts_of_entry}
use Rattle.bib_inheritance.specs.Turning.{IsTurned}

-- ---- repeated references

-- a field is inherited from the references before the last one, or else from the last one
taken_last : (entry_type : EntryType) (name : List ℕ) (rs : List EntryTexts) (r : EntryTexts)
    → inherited_field entry_type name (rs ++ r ∷ [])
    ≡ first_some (inherited_field entry_type name rs) (offered_field entry_type r name)
taken_last entry_type name [] r = first_alone (offered_field entry_type r name)
taken_last entry_type name (x ∷ rs) r =
    ap (first_some (offered_field entry_type x name)) (taken_last entry_type name rs r)
    ∙ first_last (offered_field entry_type x name) (inherited_field entry_type name rs) (offered_field entry_type r name)

-- a reference that occurred before adds no field
given_before : (entry_type : EntryType) (name : List ℕ) (at : ℕ → EntryTexts) (p : ℕ) (indices : List ℕ)
    → list_any (λ x. eqb x p) indices ≡ true
    → first_some (inherited_field entry_type name (map at indices)) (offered_field entry_type (at p) name)
    ≡ inherited_field entry_type name (map at indices)
given_before entry_type name at p [] among = absurd (false≢true among)
given_before entry_type name at p (x ∷ indices) among =
    elim (cases_Bool (eqb x p)) [
      | inl is ↦ ap
          (λ y.
          first_some
          (first_some (offered_field entry_type (at y) name)
          (inherited_field entry_type name (map at indices))) (offered_field entry_type (at p) name))
          (eqb-true x p is)
          ∙ again (offered_field entry_type (at p) name) (inherited_field entry_type name (map at indices))
          ∙ ap
          (λ y. first_some (offered_field entry_type (at y) name) (inherited_field entry_type name (map at indices)))
          (sym (eqb-true x p is))
      | inr other ↦ later (offered_field entry_type (at x) name) (inherited_field entry_type name (map at indices))
          (offered_field entry_type (at p) name)
          (given_before entry_type name at p indices
          (ap (λ b. b || list_any (λ y. eqb y p) indices) (sym other) ∙ among))
    ]
  where
    again : {A : Type 0} (a b : Option A) → first_some (first_some a b) a ≡ first_some a b
    again None None = refl
    again None (Some y) = refl
    again (Some x) b = refl

    later : {A : Type 0} (a b c : Option A) → first_some b c ≡ b → first_some (first_some a b) c ≡ first_some a b
    later None b c h = h
    later (Some x) b c h = refl

-- an entry inherits the same from `first` as from `indices`
abbrev pub GivesSame : List ℕ → List ℕ → Type 0
GivesSame first indices =
    (at : ℕ → EntryTexts) (entry_type : EntryType) (name : List ℕ)
    → inherited_field entry_type name (map at first) ≡ inherited_field entry_type name (map at indices)

-- a repeated reference can be left out
pub gives_again : (first indices : List ℕ) (i : ℕ) → i < length indices
    → list_any (λ x. eqb x (get_or indices i 0)) (take i indices) ≡ true → GivesSame first (take i indices)
    → GivesSame first (take (i + 1) indices)
gives_again first indices i within among h at entry_type name =
    let p : ℕ = get_or indices i 0 in
    h at entry_type name ∙ sym (given_before entry_type name at p (take i indices) among)
    ∙ sym (taken_last entry_type name (map at (take i indices)) (at p))
    ∙ ap (inherited_field entry_type name) (sym (map_push at (take i indices) p))
    ∙ ap (λ l. inherited_field entry_type name (map at l)) (sym (take_more indices i 0 within))

-- a reference can be added to both lists
pub gives_more : (first indices : List ℕ) (i : ℕ) → i < length indices → GivesSame first (take i indices)
    → GivesSame (first ++ get_or indices i 0 ∷ []) (take (i + 1) indices)
gives_more first indices i within h at entry_type name =
    let p : ℕ = get_or indices i 0 in
    ap (inherited_field entry_type name) (map_push at first p) ∙ taken_last entry_type name (map at first) (at p)
    ∙ ap (λ o. first_some o (offered_field entry_type (at p) name)) (h at entry_type name)
    ∙ sym (taken_last entry_type name (map at (take i indices)) (at p))
    ∙ ap (inherited_field entry_type name) (sym (map_push at (take i indices) p))
    ∙ ap (λ l. inherited_field entry_type name (map at l)) (sym (take_more indices i 0 within))

-- an index was seen after one more step if it was seen before or is the next one
pub seen_more : (indices : List ℕ) (i q : ℕ) (old new : Bool) → i < length indices
    → new ≡ cond (eq_by_cmp nat_cmp (get_or indices i 0) q) true old → old ≡ list_any (λ x. eqb x q) (take i indices)
    → new ≡ list_any (λ x. eqb x q) (take (i + 1) indices)
seen_more indices i q old new within is was =
    let p : ℕ = get_or indices i 0 in
    is ∙ ap (λ b. cond b true old) (unsigned_tied p q) ∙ ap (cond (eqb p q) true) was
    ∙ either (eqb p q) (list_any (λ x. eqb x q) (take i indices)) ∙ sym (list_any_more (λ x. eqb x q) indices i 0 within)
  where
    either : (a b : Bool) → cond a true b ≡ (b || a)
    either true true = refl
    either true false = refl
    either false true = refl
    either false false = refl

-- a repeated index adds no seen index
pub seen_again : (indices : List ℕ) (i q : ℕ) → i < length indices
    → list_any (λ x. eqb x (get_or indices i 0)) (take i indices) ≡ true
    → list_any (λ x. eqb x q) (take (i + 1) indices) ≡ list_any (λ x. eqb x q) (take i indices)
seen_again indices i q within again = list_any_more (λ x. eqb x q) indices i 0 within ∙ elim (cases_Bool (eqb (get_or indices i 0) q)) [
  | inl is ↦
      let among : list_any (λ x. eqb x q) (take i indices) ≡ true =
      subst (λ y. list_any (λ x. eqb x y) (take i indices) ≡ true) (eqb-true (get_or indices i 0) q is) again in
      ap (λ b. b || eqb (get_or indices i 0) q) among ∙ sym among
  | inr other ↦ ap (λ b. list_any (λ x. eqb x q) (take i indices) || b) other ∙ or-false (list_any (λ x. eqb x q) (take i indices))
]

-- ---- resolving one entry

-- the texts at an index are those of the entry
pub texts_at_index : (entries : List Entry) (index : ℕ) (e : Entry) → index < length entries
    → e ≡ get_or entries index e → at_index (texts_of_entries entries) index ≡ texts_of_entry e
texts_at_index entries index e within is = get_or-map texts_of_entry entries index e no_entry within ∙ ap texts_of_entry (sym is)

-- the texts of the references with one more reference
pub one_reference : (entries : List Entry) (indices : List ℕ) (i : ℕ) (e : Entry) (references : List Reference)
    (new : Reference) → i < length indices → get_or indices i 0 < length entries
    → e ≡ get_or entries (get_or indices i 0) e → texts_of_reference new ≡ texts_of_entry e
    → texts_of_references references ≡ map (at_index (texts_of_entries entries)) (take i indices)
    → texts_of_references (references ++ new ∷ []) ≡ map (at_index (texts_of_entries entries)) (take (i + 1) indices)
one_reference entries indices i e references new within below is same h =
    map_push texts_of_reference references new
    ∙ ap (λ l. l ++ texts_of_reference new ∷ []) h
    ∙ ap (λ s. map (at_index (texts_of_entries entries)) (take i indices) ++ s ∷ [])
    (same ∙ sym (texts_at_index entries (get_or indices i 0) e below is))
    ∙ sym (map_push (at_index (texts_of_entries entries)) (take i indices) (get_or indices i 0))
    ∙ ap (map (at_index (texts_of_entries entries))) (sym (take_more indices i 0 within))

-- an own field keeps its chunks or is removed
kept_plain : (own offered_field : List ℕ → Option Value) (name : List ℕ) (chunks : Value) → own name ≡ Some chunks
    → (plain_field own offered_field name ≡ Some chunks) ⊎ (plain_field own offered_field name ≡ None)
kept_plain own offered_field name chunks is = go (bytes_eq name (codes "xdata")) where
  go : (b : Bool)
      → (cond b None (first_some (own name) (offered_field name)) ≡ Some chunks)
      ⊎ (cond b None (first_some (own name) (offered_field name)) ≡ None)
  go true = inr refl
  go false = inl (ap (λ o. first_some o (offered_field name)) is)

-- an entry with a field `date` doesn't lack a required date
looks_not : (own : EntryTexts) → has own (codes "date") ≡ true → looks_for_date own ≡ false
looks_not own had =
    ap (λ h. (rules_of own.entry_type).needs_date && not (h || has own (codes "year"))) had
    ∙ and-false (rules_of own.entry_type).needs_date

-- an entry with a field `date` inherits no date
no_date : (own : EntryTexts) (refs : List EntryTexts) → has own (codes "date") ≡ true → date_for own refs ≡ None
no_date own refs had = ap (λ b. cond b (last_date refs) None) (looks_not own had)

-- an own field keeps its chunks or is removed, if no date is inherited in place of an own one
kept_by : (date : Option Value) (own offered_field : List ℕ → Option Value) (name : List ℕ) (chunks : Value)
    → own name ≡ Some chunks → (bytes_eq name (codes "date") ≡ true → date ≡ None)
    → (field_by date own offered_field name ≡ Some chunks) ⊎ (field_by date own offered_field name ≡ None)
kept_by None own offered_field name chunks is lacks = kept_plain own offered_field name chunks is
kept_by (Some date) own offered_field name chunks is lacks = elim (cases_Bool (bytes_eq name (codes "date"))) [
  | inl here ↦ absurd (no_some (lacks here))
  | inr other ↦ parts (is_one_of date_parts name) (bytes_eq name (codes "date")) other
] where
  no_some : Some date ≡ None → ⊥
  no_some e = cc

  parts : (b t : Bool) → t ≡ false
      → (cond t (Some date) (cond b None (plain_field own offered_field name)) ≡ Some chunks)
      ⊎ (cond t (Some date) (cond b None (plain_field own offered_field name)) ≡ None)
  parts b true other = absurd (clash other) where
    clash : true ≡ false → ⊥
    clash e = cc
  parts true false other = inr refl
  parts false false other = kept_plain own offered_field name chunks is

same_some : {A B : Type 0} (f : A → B) (o : Option A) (a : A) → o ≡ Some a → is_some (option_map f o) ≡ true
same_some f o a is = ap (λ o. is_some (option_map f o)) is

-- the new entry is the old one after inheriting
pub turned : (old new : Entry) (refs : List EntryTexts) (offered_field : List (List ℕ × Value)) (date : Option Value)
    → new.key ≡ old.key → new.entry_type ≡ old.entry_type
    →
    ((name : List ℕ)
    → option_map styled (first_named offered_field name)
    ≡ cond (is_some (fields_of old.fields name)) None (inherited_field old.entry_type name refs))
    → option_map styled date ≡ date_for (texts_of_entry old) refs
    → ((name : List ℕ) → get new.fields name ≡ field_by date (get old.fields) (first_named offered_field) name) → IsTurned old refs new
turned old new refs offered_field date key entry_type gives dated h = record {
  key = key;
  inherits =
      ap (λ k. texts_of_fields k new.fields) entry_type
      ∙ inherits old.entry_type old.fields new.fields refs offered_field date gives dated h;
  chunks = λ name chunks is.
      let none : bytes_eq name (codes "date") ≡ true → date ≡ None = λ here.
      let named : name ≡ codes "date" = (bytes_eq-Decides name (codes "date")).0 here in
      mapped_none date
      (dated
      ∙ no_date (texts_of_entry old) refs
      (ap (λ n. is_some (fields_of old.fields n)) (sym named)
      ∙ same_some styled (get old.fields name) chunks is))
      in
      subst (λ o. (o ≡ Some chunks) ⊎ (o ≡ None)) (sym (h name))
      (kept_by date (get old.fields) (first_named offered_field) name chunks is none);
} where
  mapped_none : (o : Option Value) → option_map styled o ≡ None → o ≡ None
  mapped_none None e = refl
  mapped_none (Some x) e = cc

-- an entry without references and without `xdata` keeps each field
alone_by : (own : EntryTexts) (name : List ℕ) → own.fields (codes "xdata") ≡ None
    → plain_field own.fields (λ n. None) name ≡ own.fields name
alone_by own name none = elim (cases_Bool (bytes_eq name (codes "xdata"))) [
  | inl is ↦ ap (λ b. cond b None (first_some (own.fields name) None)) is
      ∙ sym (ap own.fields ((bytes_eq-Decides name (codes "xdata")).0 is) ∙ none)
  | inr other ↦ ap (λ b. cond b None (first_some (own.fields name) None)) other ∙ first_alone (own.fields name)
]

-- an entry without references inherits no date
pub date_alone : (own : EntryTexts) → date_for own [] ≡ None
date_alone own = go (looks_for_date own) where
  go : (b : Bool) → cond b (last_date []) None ≡ None
  go true = refl
  go false = refl

-- inheriting from nothing leaves the texts of an entry without `xdata` unchanged
pub inherited_alone : (own : EntryTexts) → own.fields (codes "xdata") ≡ None → with_inherited_fields own [] ≡ own
inherited_alone own none =
    let same : (name : List ℕ) → field_by (date_for own []) own.fields (λ n. inherited_field own.entry_type n []) name ≡ own.fields name =
    λ name. ap (λ d. field_by d own.fields (λ n. inherited_field own.entry_type n []) name) (date_alone own) ∙ alone_by own name none
    in
    λ i. record { entry_type = own.entry_type; fields = λ name. same name i }

-- an entry without references and without `xdata` is resolved if it stays unchanged
pub untouched : (e : Entry) → get e.fields (codes "xdata") ≡ None → IsTurned e [] e
untouched e none = record {
  key = refl;
  inherits = sym (inherited_alone (texts_of_entry e) (ap (option_map styled) none));
  chunks = λ name chunks is. inl is;
}

-- ---- resolving all entries

key_at : (entries : List Entry) (index : ℕ) (d : Entry) → (get_or entries index d).key ≡ get_or (map (λ x. x.key) entries) index d.key
key_at [] index d = refl
key_at (e ∷ entries) zero d = refl
key_at (e ∷ entries) (suc index) d = key_at entries index d

-- replacing an entry by one with the same key keeps the list of keys
pub keys_kept : (entries : List Entry) (index : ℕ) (new : Entry) → new.key ≡ (get_or entries index new).key
    → map (λ x. x.key) (set entries index new) ≡ map (λ x. x.key) entries
keys_kept entries index new same =
    map-set (λ (x : Entry). x.key) entries index new
    ∙ ap (set (map (λ (x : Entry). x.key) entries) index) (same ∙ key_at entries index new)
    ∙ set-get_or (map (λ (x : Entry). x.key) entries) index new.key

-- an entry without references and without `xdata` is resolved if it stays unchanged
pub left_alone : (entries : List Entry) (index : ℕ) (e : Entry) (indices : List ℕ) → index < length entries
    → e ≡ get_or entries index e → indices ≡ [] → get e.fields (codes "xdata") ≡ None
    → (entry : Entry) × (entries ≡ set entries index entry)
    × IsTurned (get_or entries index entry) (map (at_index (texts_of_entries entries)) indices) entry
left_alone entries index e indices within is none lacks = (
  e,
  sym (ap (set entries index) is ∙ set-get_or entries index e),
  subst (λ l. IsTurned (get_or entries index e) (map (at_index (texts_of_entries entries)) l) e) (sym none)
      (subst (λ x. IsTurned x [] e) is (untouched e lacks)),
)

-- the state after the first `i` entries in the order are resolved
pub record HaveTurned (refs : Graph) (turns : List ℕ) (own entries : List Entry) (i : ℕ) : Type 0 where
  pub as_long : length entries ≡ length own
  pub keys : map (λ e. e.key) entries ≡ map (λ e. e.key) own
  pub solved : IsSolvedTo no_entry (rule_by (texts_of_entries own)) refs turns (texts_of_entries own) i (texts_of_entries entries)
  pub waiting : (index : ℕ) (d : Entry) → (Contains (take i turns) index → ⊥) → get_or entries index d ≡ get_or own index d
  pub chunks : (index : ℕ) (d : Entry) → KeepsChunks (get_or own index d) (get_or entries index d)

-- before the first index, nothing is resolved
pub turned_none : (refs : Graph) (turns : List ℕ) (own : List Entry) → HaveTurned refs turns own own 0
turned_none refs turns own = record {
  as_long = refl;
  keys = refl;
  solved = solved_none no_entry (rule_by (texts_of_entries own)) refs turns (texts_of_entries own);
  waiting = λ index d h. refl;
  chunks = λ index d name chunks is. inl is;
}

-- resolving the next entry in the order leads from the state after i entries to the state after i + 1
pub turned_more : (refs : Graph) (turns : List ℕ) (own entries after : List Entry) (i : ℕ) (new : Entry)
    (indices : List ℕ) → IsTopologicalOrder refs turns → i < length turns → length own ≡ length refs
    → indices ≡ refs_of refs (get_or turns i 0)
    → after ≡ set entries (get_or turns i 0) new
    → IsTurned (get_or entries (get_or turns i 0) new) (map (at_index (texts_of_entries entries)) indices) new
    → HaveTurned refs turns own entries i → HaveTurned refs turns own after (i + 1)
turned_more refs turns own entries after i new indices order within as_long row is turn h =
    let p : ℕ = get_or turns i 0 in
    let fresh = new_turn refs turns i order within in
    let below_refs : p < length refs = turn_within refs turns i order within in
    let below : p < length entries = omega (arith, below_refs, as_long, h.as_long) in
    let old : Entry = get_or entries p new in
    let here : at_index (texts_of_entries entries) p ≡ texts_of_entry old = get_or-map texts_of_entry entries p new no_entry below in
    let kept : at_index (texts_of_entries entries) p ≡ at_index (texts_of_entries own) p = h.solved.kept p fresh in
    let value : EntryTexts = texts_of_entry new in
    let by_rule : value ≡ rule_by (texts_of_entries own) p (map (at_index (texts_of_entries entries)) (refs_of refs p)) =
    turn.inherits ∙ ap (λ l. with_inherited_fields (texts_of_entry old) (map (at_index (texts_of_entries entries)) l)) row
    ∙ ap (λ s. with_inherited_fields s (map (at_index (texts_of_entries entries)) (refs_of refs p))) (sym here ∙ kept)
    in
    let all : texts_of_entries (set entries p new) ≡ set (texts_of_entries entries) p value = map-set texts_of_entry entries p new in
    let later : (q : ℕ) → (Contains (take (i + 1) turns) q → ⊥) → (Contains (take i turns) q → ⊥) × (q ≢ p) = λ q none.
    (λ c. none (contains_more turns i q within (inl c)), λ e. none (contains_more turns i q within (inr (sym e))))
    in
    subst (λ l. HaveTurned refs turns own l (i + 1)) (sym is) record {
      as_long = length-set entries p new ∙ h.as_long;
      keys = keys_kept entries p new turn.key ∙ h.keys;
      solved = subst (IsSolvedTo no_entry (rule_by (texts_of_entries own)) refs turns (texts_of_entries own) (i + 1)) (sym all)
          (solved_more no_entry (rule_by (texts_of_entries own)) refs turns (texts_of_entries own) i
          (texts_of_entries entries) value order within (omega (arith, below, length-map entries texts_of_entry))
          by_rule h.solved);
      waiting = λ q d none. get_or-set_other entries p q new d (later q none).1 ∙ h.waiting q d (later q none).0;
      chunks = λ q d. elim (cases_Bool (eqb q p)) [
        | inl e ↦
            let q_is : q ≡ p = eqb-true q p e in
            let mine : get_or own q d ≡ old =
            ap (λ x. get_or own x d) q_is ∙ sym (h.waiting p d fresh) ∙ get_or_default entries p d new below in
            let now : get_or (set entries p new) q d ≡ new =
            ap (λ x. get_or (set entries p new) x d) q_is ∙ get_or-set_same entries p new d below in
            subst (λ a. KeepsChunks a (get_or (set entries p new) q d)) (sym mine) (subst (KeepsChunks old) (sym now) turn.chunks)
        | inr e ↦ subst (KeepsChunks (get_or own q d))
            (sym (get_or-set_other entries p q new d (λ x. both_ways _ e (nat_is q p x)))) (h.chunks q d)
      ];
    }
  where
    nat_is : (x y : ℕ) → x ≡ y → eqb x y ≡ true
    nat_is x y is = eq-eqb x y is

    contains_more : (turns : List ℕ) (i q : ℕ) → i < length turns → (Contains (take i turns) q) ⊎ (get_or turns i 0 ≡ q)
        → Contains (take (i + 1) turns) q
    contains_more turns i q within (inl c) =
        subst (λ l. Contains l q) (sym (take_more turns i 0 within))
        (Contains-append_left (take i turns) (get_or turns i 0 ∷ []) q c)
    contains_more turns i q within (inr e) =
        subst (λ l. Contains l q) (sym (take_more turns i 0 within))
        (subst (Contains (take i turns ++ get_or turns i 0 ∷ [])) e
        (Contains-push (take i turns) (get_or turns i 0)))

-- resolved entries keep the chunks of the own entries
pub turned_chunks : (refs : Graph) (turns : List ℕ) (own entries : List Entry) (i : ℕ)
    → HaveTurned refs turns own entries i → AllKeepChunks own entries
turned_chunks refs turns own entries i h index written entry mine now =
    subst (λ a. KeepsChunks a entry) (at_get own index written entry mine)
    (subst (KeepsChunks (get_or own index entry)) (at_get entries index entry entry now) (h.chunks index entry))
  where
    at_get : (es : List Entry) (index : ℕ) (e d : Entry) → slice_get es index ≡ Some e → get_or es index d ≡ e
    at_get es index e d is = some_same (sym (slice_get-get_or es index d (slice_get_within es index e is)) ∙ is)

-- indices among others are below any bound of these
pub all_below : {n : ℕ} (indices first : List ℕ) → All (λ r. r < n) indices → All (Contains indices) first → All (λ r. r < n) first
all_below {n} indices first below among k d within =
    let at = among k d within in
    subst (λ r. r < n) at.2 (below at.0 (get_or first k d) at.1)

pub no_indices : (indices : List ℕ) → (eqb (length indices) 0) ≡ true → indices ≡ []
no_indices indices t = nil_from_length indices (eqb-true (length indices) 0 t)

pub is_nothing : {A : Type 0} (o : Option A) {b : Bool} → is_some o ≡ not b → b ≡ true → o ≡ None
is_nothing None e t = refl
is_nothing (Some a) e t = absurd (false≢true (sym (ap not t) ∙ sym e))
