-- There is no change except of the layout exactly if both versions have the same content.
use Rattle.std.proofs.Common.{◌≡◌, ◌⊎◌, inl, inr, ◌<◌, ◌+◌, ◌^◌, ℕ, Bool, true, false, not, ◌&&◌, ◌||◌, cond, List, [], ◌∷◌, ◌++◌, Option, Some, None, filter, length, map, refl, sym, ap, ◌∙◌, arith}
use Rattle.std.specs.Prelude.{◌==◌, bytes_eq, count_by, is_some, slice_get}
use Rattle.std.specs.Cmp.Lexicographic.{pointwise}
use Rattle.std.specs.FinMap.{get}
use Rattle.std.specs.List.{AllByRecursion, enumerate_from, flat_map, list_all, list_any}
use Rattle.std.proofs.lemmas.Bool.{false≢true}
use Rattle.std.proofs.lemmas.List.Folds.{list_all-append}
use Rattle.bib_syntax.specs.Reading.{FieldReading}
use Rattle.bib_text.proofs.ListFacts.{count_none, element_at}
use Rattle.edit_units.specs.Units.{UnitReading}
use Rattle.edit_versions.specs.Alike.{is_same}
use Rattle.edit_versions.specs.Versions.{VersionReading, has_unit_named, indices_of, named_index, version_names, version_unit}
use Rattle.edit_versions.proofs.IndexFacts.{names_lead_to_units}
use Rattle.edit_changes.specs.Blocks.{BlockReading, block_of, text_outside}
use Rattle.edit_changes.specs.Changes.{changes, changes_by, changes_from, comment_change, content_changes, is_layout, lone_changes, or_layout, order_changes, present_unit, removed_unit, renamed_from, renamed_to, shared_names, type_changes, unit_changes}
use Rattle.edit_changes.specs.Fields.{present_field_change, changes_of_fields, field_names, present_field, removed_field}
use Rattle.edit_changes.specs.Renames.{counterpart, lone_content, lone_contents, only_index, renamed_index, keyless_unit_content}
use Rattle.edit_changes.specs.Same.{HaveSameContent, same_place}
use Rattle.edit_changes.specs.declared.changes.Change.{Change}
use Rattle.edit_changes.specs.declared.changes.Change.TheVariants.{CommentsSet, FieldRemoved, FieldSet, Removed, Reordered, TextSet, TypeSet}
use Rattle.edit_changes.specs.declared.changes.Place.{Place}
use Rattle.edit_changes.proofs.ListFacts.{all_names, all_of_each, all_pass, below_length, both_true, each_passes, enumerated_all, enumerated_at, filter_all, names_same, same_names}

-- ---- changes of content aren't of the layout only

-- whether a change isn't of the layout only
abbrev is_content : Change → Bool
is_content change = not (is_layout change)

one_unless : (b : Bool) (change : Change) → is_content change ≡ true → list_all is_content (cond b [] (change ∷ [])) ≡ true
one_unless true change is = refl
one_unless false change is = ap (λ c. c && true) is

both_pass : (xs ys : List Change) → list_all is_content xs ≡ true → list_all is_content ys ≡ true → list_all is_content (xs ++ ys) ≡ true
both_pass xs ys first second = list_all-append is_content xs ys ∙ ap (λ b. b && list_all is_content ys) first ∙ second

field_passes : (place : Place) (fields others : List FieldReading) (new : ℕ) (old : Option ℕ)
    → list_all is_content (present_field_change place fields others new old) ≡ true
field_passes place fields others new None = refl
field_passes place fields others new (Some old) = one_unless _ (FieldSet place old new) refl

fields_pass : (place : Place) (fields others : List FieldReading) → list_all is_content (changes_of_fields place fields others) ≡ true
fields_pass place fields others =
    both_pass (flat_map (removed_field place (indices_of (field_names others))) (enumerate_from 0 (field_names fields)))
    (flat_map (present_field place fields others (indices_of (field_names fields))) (enumerate_from 0 (field_names others)))
    (all_pass is_content (removed_field place (indices_of (field_names others))) (enumerate_from 0 (field_names fields))
    (all_of_each (λ x. list_all is_content (removed_field place (indices_of (field_names others)) x) ≡ true)
    (λ x. one_unless _ (FieldRemoved place x.0) refl) (enumerate_from 0 (field_names fields))))
    (all_pass is_content (present_field place fields others (indices_of (field_names fields))) (enumerate_from 0 (field_names others))
    (all_of_each (λ x. list_all is_content (present_field place fields others (indices_of (field_names fields)) x) ≡ true)
    (λ x. field_passes place fields others x.0 (get (indices_of (field_names fields)) x.1)) (enumerate_from 0 (field_names others))))

blocks_pass : (place : Place) (text : List ℕ) (u : UnitReading) (b : Option BlockReading) (other : List ℕ) (x : UnitReading)
    (c : Option BlockReading) → list_all is_content (changes_by place text u b other x c) ≡ true
blocks_pass place text u None other x c = one_unless _ (TextSet place) refl
blocks_pass place text u (Some b) other x None = one_unless _ (TextSet place) refl
blocks_pass place text u (Some b) other x (Some c) =
    both_pass (type_changes place b.kind c.kind ++ comment_change place (bytes_eq (text_outside text u b) (text_outside other x c)))
    (changes_of_fields place b.fields c.fields)
    (both_pass (type_changes place b.kind c.kind) (comment_change place (bytes_eq (text_outside text u b) (text_outside other x c)))
    (one_unless _ (TypeSet place) refl) (one_unless _ (CommentsSet place) refl))
    (fields_pass place b.fields c.fields)

units_pass : (place : Place) (v : VersionReading) (u : Option UnitReading) (w : VersionReading) (x : Option UnitReading)
    → list_all is_content (unit_changes place v u w x) ≡ true
units_pass place v None w x = refl
units_pass place v (Some u) w None = refl
units_pass place v (Some u) w (Some x) = blocks_pass place v.text u (block_of u) w.text x (block_of x)

-- ---- the changes of one unit

not_both : (b : Bool) → b ≡ true → not b ≡ true → ⊥
not_both true is isnt = false≢true isnt
not_both false is isnt = false≢true is

-- if all changes of a unit are of the layout, its bytes are the same or no content has changed
layout_or_same : (b : Bool) (place : Place) (found : List Change) → list_all is_content found ≡ true
    → list_all is_layout (cond b [] (or_layout place found)) ≡ true → (b ≡ true) ⊎ (found ≡ [])
layout_or_same true place found content all = inl refl
layout_or_same false place [] content all = inr refl
layout_or_same false place (change ∷ rest) content all =
    absurd
    (not_both (is_layout change) (both_true (is_layout change) (list_all is_layout rest) all).0
    (both_true (is_content change) (list_all is_content rest) content).0)

-- the changes of units with the same content are of the layout
same_is_layout : (b : Bool) (place : Place) (found : List Change) → (b ≡ true) ⊎ (found ≡ [])
    → list_all is_layout (cond b [] (or_layout place found)) ≡ true
same_is_layout true place found same = refl
same_is_layout false place found (inl is) = absurd (false≢true is)
same_is_layout false place found (inr none) = ap (λ cs. list_all is_layout (or_layout place cs)) none

-- ---- from changes to content

lone_never : (v w : VersionReading) (j : ℕ) (found : Option ℕ) → list_all is_layout (lone_changes v w j found) ≡ true → ⊥
lone_never v w j None all = false≢true all
lone_never v w j (Some i) all = false≢true all

found_in_old : (v w : VersionReading) (j : ℕ) (found : Option ℕ) → list_all is_layout (changes_from v w j found) ≡ true
    → is_some found ≡ true
found_in_old v w j (Some i) all = refl
found_in_old v w j None all = absurd (lone_never v w j (renamed_from v w j) all)

-- an empty text isn't equal to one with a byte
none_equal : (b : ℕ) (bs : List ℕ) (contents : List (List ℕ)) → AllByRecursion (λ c. c ≡ []) contents
    → list_any (bytes_eq (b ∷ bs)) contents ≡ false
none_equal b bs [] none = refl
none_equal b bs (c ∷ cs) none =
    ap (λ x. bytes_eq (b ∷ bs) x || list_any (bytes_eq (b ∷ bs)) cs) none.0 ∙ none_equal b bs cs none.1

cond_none : (b : Bool) (found : Option ℕ) → found ≡ None → cond b found None ≡ None
cond_none true found is = is
cond_none false found is = refl

-- nothing is renamed if the other version has no content that its counterpart lacks
no_counterpart : (own others : List (List ℕ)) (content : List ℕ) → AllByRecursion (λ c. c ≡ []) others
    → counterpart own others content ≡ None
no_counterpart own others [] none = refl
no_counterpart own others (b ∷ bs) none =
    cond_none (not (length (b ∷ bs) == 0) && count_by (bytes_eq (b ∷ bs)) own == 1) (only_index others (b ∷ bs))
    (ap (λ n. cond (n == 1) (get (indices_of others) (b ∷ bs)) None)
    (count_none (bytes_eq (b ∷ bs)) others (none_equal b bs others none)))

not_renamed : (own others : List (List ℕ)) (content : Option (List ℕ)) → AllByRecursion (λ c. c ≡ []) others
    → renamed_index own others content ≡ None
not_renamed own others None none = refl
not_renamed own others (Some content) none = no_counterpart own others content none

present_or_removed : (has : Bool) (renamed : Option ℕ) (i : ℕ) → renamed ≡ None
    → list_all is_layout (cond (has || is_some renamed) [] (Removed i ∷ [])) ≡ true → has ≡ true
present_or_removed true renamed i none all = refl
present_or_removed false None i none all = absurd (false≢true all)
present_or_removed false (Some j) i none all = absurd (cc)

ordered : (b : Bool) → list_all is_layout (cond b [] (Reordered ∷ [])) ≡ true → b ≡ true
ordered true all = refl
ordered false all = absurd (false≢true all)

all_empty : (v w : VersionReading) (first : ℕ) (names : List (List ℕ)) → AllByRecursion (λ name. has_unit_named v name ≡ true) names
    → AllByRecursion (λ c. c ≡ []) (map (lone_content w v) (enumerate_from first names))
all_empty v w first [] has = _
all_empty v w first (n ∷ ns) has = (
  ap (λ b. cond b [] (keyless_unit_content (version_unit w (Some first)))) has.0,
  all_empty v w (first + 1) ns has.1,
)

pub same_content : (v w : VersionReading) → length v.units < 2 ^ 64 → list_all is_layout (changes v w) ≡ true → HaveSameContent v w
same_content v w fits all =
    let removed = flat_map (removed_unit v w) (enumerate_from 0 (version_names v)) in
    let present = flat_map (present_unit v w) (enumerate_from 0 (version_names w)) in
    let ends = both_true (list_all is_layout (removed ++ present)) (list_all is_layout (order_changes v w))
    (sym (list_all-append is_layout (removed ++ present) (order_changes v w)) ∙ all) in
    let parts = both_true (list_all is_layout removed) (list_all is_layout present)
    (sym (list_all-append is_layout removed present) ∙ ends.0) in
    let each_removed = enumerated_at (λ i name. list_all is_layout (removed_unit v w (i, name)) ≡ true) 0 (version_names v)
    (each_passes is_layout (removed_unit v w) (enumerate_from 0 (version_names v)) parts.0) in
    let each_present = enumerated_at (λ i name. list_all is_layout (present_unit v w (i, name)) ≡ true) 0 (version_names w)
    (each_passes is_layout (present_unit v w) (enumerate_from 0 (version_names w)) parts.1) in
    let in_old : AllByRecursion (λ name. has_unit_named v name ≡ true) (version_names w) =
    all_names (λ name. has_unit_named v name ≡ true) (version_names w)
    (λ i name is. found_in_old v w (0 + i) (named_index v name) (each_present i name is)) in
    let empty = all_empty v w 0 (version_names w) in_old in
    let in_new : AllByRecursion (λ name. has_unit_named w name ≡ true) (version_names v) =
    all_names (λ name. has_unit_named w name ≡ true) (version_names v)
    (λ i name is.
    present_or_removed (has_unit_named w name) (renamed_to v w (0 + i)) (0 + i)
    (not_renamed (lone_contents v w) (lone_contents w v) (slice_get (lone_contents v w) (0 + i)) empty) (each_removed i name is)) in
    let names : version_names v ≡ version_names w =
    sym (filter_all (has_unit_named w) (version_names v) in_new)
    ∙ same_names (shared_names v w) (shared_names w v) (ordered (pointwise bytes_eq (shared_names v w) (shared_names w v)) ends.1)
    ∙ filter_all (has_unit_named v) (version_names w) in_old in
    record {
      names = names;
      units = λ i below.
          let (name, is) = element_at (version_names v) i below in
          let here : 0 + i ≡ i = omega arith in
          let found : named_index v name ≡ Some i = names_lead_to_units v fits i name is in
          let there = each_present i name (ap (λ ns. slice_get ns i) (sym names) ∙ is) in
          layout_or_same (is_same v (version_unit v (Some i)) w (version_unit w (Some i))) (same_place i)
          (content_changes (same_place i) v w)
          (units_pass (same_place i) v (version_unit v (Some i)) w (version_unit w (Some i)))
          (ap (λ o. list_all is_layout (changes_from v w i o)) (sym found)
          ∙ ap (λ k. list_all is_layout (changes_from v w k (named_index v name))) (sym here) ∙ there);
    }

-- ---- from content to changes

shared_by : List (List ℕ) → List (List ℕ) → List (List ℕ)
shared_by names others = filter (λ name. is_some (get (indices_of others) name)) names

pub only_layout : (v w : VersionReading) → length v.units < 2 ^ 64 → HaveSameContent v w → list_all is_layout (changes v w) ≡ true
only_layout v w fits same =
    let removed = flat_map (removed_unit v w) (enumerate_from 0 (version_names v)) in
    let present = flat_map (present_unit v w) (enumerate_from 0 (version_names w)) in
    let found : (i : ℕ) (name : List ℕ) → slice_get (version_names v) i ≡ Some name → named_index w name ≡ Some i =
    λ i name is. ap (λ ns. get (indices_of ns) name) (sym same.names) ∙ names_lead_to_units v fits i name is in
    let no_removed : list_all is_layout removed ≡ true =
    all_pass is_layout (removed_unit v w) (enumerate_from 0 (version_names v))
    (enumerated_all (λ i name. list_all is_layout (removed_unit v w (i, name)) ≡ true) 0 (version_names v)
    (λ i name is.
    ap (λ o. list_all is_layout (cond (is_some o || is_some (renamed_to v w (0 + i))) [] (Removed (0 + i) ∷ []))) (found i name is))) in
    let each_present : (i : ℕ) (name : List ℕ) → slice_get (version_names w) i ≡ Some name
    → list_all is_layout (present_unit v w (0 + i, name)) ≡ true =
    λ i name is.
    let is_old : slice_get (version_names v) i ≡ Some name = ap (λ ns. slice_get ns i) same.names ∙ is in
    let here : 0 + i ≡ i = omega arith in
    ap (λ k. list_all is_layout (changes_from v w k (named_index v name))) here
    ∙ ap (λ o. list_all is_layout (changes_from v w i o)) (names_lead_to_units v fits i name is_old)
    ∙ same_is_layout (is_same v (version_unit v (Some i)) w (version_unit w (Some i))) (same_place i)
    (content_changes (same_place i) v w)
    (same.units i (below_length (version_names v) i name is_old)) in
    let only_present : list_all is_layout present ≡ true =
    all_pass is_layout (present_unit v w) (enumerate_from 0 (version_names w))
    (enumerated_all (λ i name. list_all is_layout (present_unit v w (i, name)) ≡ true) 0 (version_names w) each_present) in
    let shared : shared_names v w ≡ shared_names w v =
    ap (λ ns. filter (has_unit_named w) ns) same.names
    ∙ ap (λ ns. filter (λ name. is_some (get (indices_of ns) name)) (version_names w)) (sym same.names) in
    let in_order : list_all is_layout (order_changes v w) ≡ true =
    ap (λ ns. list_all is_layout (cond (pointwise bytes_eq ns (shared_names w v)) [] (Reordered ∷ []))) shared
    ∙ ap (λ b. list_all is_layout (cond b [] (Reordered ∷ []))) (names_same (shared_names w v)) in
    list_all-append is_layout (removed ++ present) (order_changes v w)
    ∙ ap (λ b. b && list_all is_layout (order_changes v w))
    (list_all-append is_layout removed present ∙ ap (λ b. b && list_all is_layout present) no_removed ∙ only_present)
    ∙ in_order
