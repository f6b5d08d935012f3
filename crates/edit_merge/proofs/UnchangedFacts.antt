-- If one side is unchanged, or both sides are equal, the merge is the text of a side.
use Rattle.std.proofs.Common.{◌≡◌, inl, inr, ℕ, ◌<◌, ◌^◌, Bool, true, false, cond, List, [], ◌∷◌, Option, Some, None, codes, length, map, refl, sym, ap, ◌∙◌, subst}
use Rattle.std.specs.Prelude.{◌&&◌, ◌||◌, ◌⊎◌, bytes_eq, filter, is_some, not, option_map, unwrap_or}
use Rattle.std.specs.FinMap.{get}
use Rattle.std.specs.List.{AllByRecursion, flat_map, list_any}
use Rattle.std.proofs.lemmas.Bool.{and_parts}
use Rattle.std.proofs.lemmas.Slice.Eq.{bytes_eq-Decides}
use Rattle.edit_units.specs.Units.{AreUnits, UnitReading}
use Rattle.edit_versions.proofs.IndexFacts.{IsAmong}
use Rattle.edit_versions.proofs.TextFacts.{text_there}
use Rattle.edit_versions.specs.Alike.{are_alike_in_layout, are_same_texts, have_same_words, is_alike, is_same}
use Rattle.edit_versions.specs.Versions.{VersionReading, end_of, has_unit_named, indices_of, named_index, own_part, text_of_unit, texts_at, version_names, version_unit}
use Rattle.edit_merge.specs.Clean.{IsClean, IsPicked}
use Rattle.edit_entry_merge.specs.ConflictTexts.{MarkerLines}
use Rattle.edit_merge.specs.Lost.{kept_slots}
use Rattle.edit_merge.specs.Merged.{end_behind, is_without_blocks, is_same_space, merged_text, picked_space, slot_text, space_at, start_of}
use Rattle.edit_merge.specs.Picked.{Versions, are_equal_names, choice_at, choose, group_choice, is_alike_order, is_changed_group, is_changed_name, is_repeated_in, is_same_named, order_by, order_choice, slot_of, slots, woven}
use Rattle.edit_merge.specs.Unchanged.{IsMerge}
use Rattle.edit_merge.specs.declared.slots.Slot.{Slot}
use Rattle.edit_merge.specs.declared.picking.Choice.{Choice}
use Rattle.edit_merge.specs.declared.picking.Choice.TheVariants.{Ours, Theirs, Conflict}
use Rattle.edit_merge.proofs.CleanFacts.{HaveSides}
use Rattle.edit_merge.proofs.ContentFacts.{ours_loses_nothing, theirs_loses_nothing}
use Rattle.edit_merge.proofs.PickedFacts.{IsPickedFrom, neither, none_among, nothing_picked, parts_of, picked_text}
use Rattle.edit_merge.proofs.SideFacts.{HasSpaceOf, IsNothing, woven_parts}

-- ---- equal things

bytes_same : (text : List ℕ) → bytes_eq text text ≡ true
bytes_same text = (bytes_eq-Decides text text).1 refl

texts_same : (text : Option (List ℕ)) → are_same_texts text text ≡ true
texts_same None = refl
texts_same (Some text) = bytes_same text

same_texts : (text other : Option (List ℕ)) → are_same_texts text other ≡ true → text ≡ other
same_texts None None is = refl
same_texts None (Some other) is = absurd (cc)
same_texts (Some text) None is = absurd (cc)
same_texts (Some text) (Some other) is = ap Some ((bytes_eq-Decides text other).0 is)

unit_same : (v : VersionReading) (u : Option UnitReading) → is_same v u v u ≡ true
unit_same v u = texts_same (option_map (text_of_unit v.text) u)

unit_alike : (v : VersionReading) (u : Option UnitReading) → is_alike v u v u ≡ true
unit_alike v None = refl
unit_alike v (Some u) =
    ap (λ b. b || are_alike_in_layout v.text u v.text u || have_same_words v.text u v.text u) (bytes_same (text_of_unit v.text u))

names_same : (names : List (List ℕ)) → are_equal_names names names ≡ true
names_same [] = refl
names_same (n ∷ ns) = ap (λ b. b && are_equal_names ns ns) (bytes_same n) ∙ names_same ns

same_names : (names others : List (List ℕ)) → are_equal_names names others ≡ true → names ≡ others
same_names [] [] is = refl
same_names [] (m ∷ ms) is = absurd (cc)
same_names (n ∷ ns) [] is = absurd (cc)
same_names (n ∷ ns) (m ∷ ms) is =
    let parts = and_parts (bytes_eq n m) (are_equal_names ns ms) is in
    let first : n ≡ m = (bytes_eq-Decides n m).0 parts.0 in
    let rest : ns ≡ ms = same_names ns ms parts.1 in
    cc

never : (test : List ℕ → Bool) (names : List (List ℕ)) → ((name : List ℕ) → test name ≡ false) → list_any test names ≡ false
never test [] none = refl
never test (n ∷ ns) none = ap (λ b. b || list_any test ns) (none n) ∙ never test ns none

and_false : (b : Bool) → (b && false) ≡ false
and_false true = refl
and_false false = refl

-- a version has no changes against itself
group_same : (v : VersionReading) (own : List ℕ) → is_changed_group v v own ≡ false
group_same v own =
    let none : list_any (is_changed_name v v own) (version_names v) ≡ false =
    never (is_changed_name v v own) (version_names v) (λ name.
    ap (λ b. bytes_eq (own_part name) own && not b) (unit_same v (version_unit v (named_index v name)))
    ∙ and_false (bytes_eq (own_part name) own)) in
    ap (λ b. b || list_any (is_changed_name v v own) (version_names v)) none ∙ none

both_cases : (repeated : Bool) (group single choice : Choice) → group ≡ choice → single ≡ choice → cond repeated group single ≡ choice
both_cases true group single choice is is' = is
both_cases false group single choice is is' = is'

all_picked : (vs : Versions) (names : List (List ℕ)) → ((name : List ℕ) → IsPicked (slot_of vs name).choice)
    → AllByRecursion (λ s. IsPicked s.choice) (map (slot_of vs) names)
all_picked vs [] each = _
all_picked vs (n ∷ ns) each = (each n, all_picked vs ns each)

-- a merge that loses no name
merge_of : (markers : MarkerLines) (vs : Versions) {text : List ℕ} → kept_slots vs vs ≡ slots vs → merged_text markers vs (slots vs) ≡ text
    → IsClean (slots vs) → IsPicked (order_choice vs) → IsMerge markers vs text
merge_of markers vs kept is clean ordered = record {
  text_is = ap (merged_text markers vs) kept ∙ is;
  clean = subst IsClean (sym kept) clean;
  ordered = ordered;
}

picked_by : (choice other : Choice) → choice ≡ other → IsPicked other → IsPicked choice
picked_by choice other is picked = subst IsPicked (sym is) picked

-- ---- white space

-- white space of a side, if the other side is the base
space_of_ours : (other : Option (List ℕ)) (space default : List ℕ) → unwrap_or (picked_space other (Some space) other) default ≡ space
space_of_ours None space default = refl
space_of_ours (Some t) space default = by (bytes_eq space t) refl
  where
    by : (same : Bool) → bytes_eq space t ≡ same → cond same t space ≡ space
    by true is = sym ((bytes_eq-Decides space t).0 is)
    by false is = refl

space_of_theirs : (other : Option (List ℕ)) (space default : List ℕ) → unwrap_or (picked_space other other (Some space)) default ≡ space
space_of_theirs None space default = refl
space_of_theirs (Some o) space default = ap (λ b. cond b space o) (bytes_same o)

space_of_both : (base : Option (List ℕ)) (space default : List ℕ) → unwrap_or (picked_space base (Some space) (Some space)) default ≡ space
space_of_both base space default = by (is_same_space base space)
  where
    by : (same : Bool) → cond same space space ≡ space
    by true = refl
    by false = refl

-- ---- they changed nothing

abbrev theirs_unchanged : VersionReading → VersionReading → Versions
theirs_unchanged base side = record { base = base; ours = side; theirs = base }

our_choice : (base side : VersionReading) (name : List ℕ) → (slot_of (theirs_unchanged base side) name).choice ≡ Ours
our_choice base side name =
    let vs = theirs_unchanged base side in
    let own : List ℕ = own_part name in
    let b : Option UnitReading = version_unit base (named_index base name) in
    let o : Option UnitReading = version_unit side (named_index side name) in
    both_cases (is_repeated_in vs own) (group_choice vs own (named_index side name) (named_index base name))
    (choice_at vs (named_index base name) (named_index side name) (named_index base name)) Ours
    (ap (λ g. choose (not g) (not (is_changed_group side base own)) (is_same base b side o) false) (group_same base own))
    (ap (λ s. choose s (is_same side o base b) (is_alike base b base b || is_alike base b side o) (is_alike side o base b))
    (unit_same base b))

our_order : (base side : VersionReading) → order_choice (theirs_unchanged base side) ≡ Ours
our_order base side =
    ap
    (λ s.
    choose s (are_equal_names (version_names side) (version_names base)) (is_alike_order base base || is_alike_order base side)
    (is_alike_order side base))
    (names_same (version_names base))

ours_picked : (markers : MarkerLines) (base side : VersionReading) (names : List (List ℕ))
    → IsPickedFrom markers (theirs_unchanged base side) side names
ours_picked markers base side names =
    let vs = theirs_unchanged base side in
    record {
      text = λ name here. ap (slot_text markers vs (slot_of vs name)) (our_choice base side name);
      space = λ name space is.
          let other : Option (List ℕ) = space_at base (named_index base name) in
          ap (λ o. unwrap_or (picked_space other o other) (codes "\n\n")) is ∙ space_of_ours other space (codes "\n\n");
      blocks = λ name u unit is.
          ap is_without_blocks (sym unit)
          ∙ (and_parts (is_without_blocks (version_unit side (named_index side name)))
          (is_without_blocks (version_unit base (named_index base name))) is).0;
    }

our_space : (base side : VersionReading) → HasSpaceOf (theirs_unchanged base side) side
our_space base side = record {
  start = λ space is. ap (λ o. unwrap_or (picked_space (start_of base) o (start_of base)) []) is ∙ space_of_ours (start_of base) space [];
  end = λ space is. ap (λ o. unwrap_or (picked_space (end_behind base) o (end_behind base)) []) is
      ∙ space_of_ours (end_behind base) space [];
  blank = by (bytes_eq (end_of side) (end_of base)) refl;
}
  where
    by : (same : Bool) → bytes_eq (end_of side) (end_of base) ≡ same → cond same (end_of base) (end_of side) ≡ end_of side
    by true is = sym ((bytes_eq-Decides (end_of side) (end_of base)).0 is)
    by false is = refl

pub unchanged_theirs_gives_ours : (markers : MarkerLines) (base side : VersionReading) → AreUnits base.text base.units
    → AreUnits side.text side.units → length side.units < 2 ^ 64 → IsMerge markers (theirs_unchanged base side) side.text
unchanged_theirs_gives_ours markers base side are_base are fits =
    let vs = theirs_unchanged base side in
    let text : merged_text markers vs (slots vs) ≡ side.text =
    picked_text markers vs side are fits (ours_picked markers base side (version_names side)) (our_space base side)
    (ap (λ c. flat_map (parts_of markers vs) (order_by vs c)) (our_order base side)
    ∙ woven_parts (parts_of markers vs) side base None (version_names side)
    (nothing_picked markers vs side (version_names base) (ours_picked markers base side (version_names base)))) in
    let clean : IsClean (slots vs) =
    all_picked vs (order_by vs (order_choice vs)) (λ name. picked_by (slot_of vs name).choice Ours (our_choice base side name) tt) in
    merge_of markers vs (ours_loses_nothing markers vs (record { ours = are; theirs = are_base }) clean text) text clean
    (picked_by (order_choice vs) Ours (our_order base side) tt)

-- ---- we changed nothing

abbrev ours_unchanged : VersionReading → VersionReading → Versions
ours_unchanged base side = record { base = base; ours = base; theirs = side }

-- the choice is ours only if the units are the same
record IsTheirChoice (base side : VersionReading) (name : List ℕ) : Type 0 where
  is_ours : Bool
  choice : (slot_of (ours_unchanged base side) name).choice ≡ cond is_ours Ours Theirs
  same : is_ours ≡ true → IsAmong name (version_names side) ⊎ IsAmong name (version_names base) → is_same_named side base name ≡ true

not_false : (b : Bool) → not b ≡ true → b ≡ false
not_false false is = refl
not_false true is = absurd (cc)

not_true : (b : Bool) → not b ≡ false → b ≡ true
not_true true is = refl
not_true false is = absurd (cc)

-- if the units with the own name of a name are unchanged, so is the unit with the name
pub named_same : (side base : VersionReading) (name : List ℕ) → is_changed_group side base (own_part name) ≡ false
    → IsAmong name (version_names side) ⊎ IsAmong name (version_names base) → is_same_named side base name ≡ true
named_same side base name none here =
    let test : List ℕ → Bool = is_changed_name side base (own_part name) in
    let both = neither (list_any test (version_names side)) (list_any test (version_names base)) none in
    not_true (is_same_named side base name)
    (ap (λ b. b && not (is_same_named side base name)) (sym (bytes_same (own_part name)))
    ∙ elim here [
      | inl first ↦ none_among test (version_names side) name both.0 first
      | inr second ↦ none_among test (version_names base) name both.1 second
    ])

their_choice : (base side : VersionReading) (name : List ℕ) → IsTheirChoice base side name
their_choice base side name = by (is_repeated_in vs own) refl
  where
    vs : Versions
    vs = ours_unchanged base side

    own : List ℕ
    own = own_part name

    b : Option UnitReading
    b = version_unit base (named_index base name)

    t : Option UnitReading
    t = version_unit side (named_index side name)

    group : group_choice vs own (named_index base name) (named_index side name) ≡ cond (not (is_changed_group side base own)) Ours Theirs
    group = ap (λ g. choose (not (is_changed_group side base own)) (not g) (is_same side t base b) false) (group_same base own)

    single : choice_at vs (named_index base name) (named_index base name) (named_index side name) ≡ cond (is_same side t base b) Ours Theirs
    single =
        ap (λ s. choose (is_same side t base b) s (is_alike side t base b || is_alike side t base b) (is_alike base b base b))
        (unit_same base b)

    by : (repeated : Bool) → is_repeated_in vs own ≡ repeated → IsTheirChoice base side name
    by true is = record {
      is_ours = not (is_changed_group side base own);
      choice =
          ap (λ r. cond r (group_choice vs own (named_index base name) (named_index side name))
          (choice_at vs (named_index base name) (named_index base name) (named_index side name))) is ∙ group;
      same = λ ours here. named_same side base name (not_false (is_changed_group side base own) ours) here;
    }
    by false is = record {
      is_ours = is_same side t base b;
      choice =
          ap (λ r. cond r (group_choice vs own (named_index base name) (named_index side name))
          (choice_at vs (named_index base name) (named_index base name) (named_index side name))) is ∙ single;
      same = λ ours here. ours;
    }

-- the text of the slot of a name is that of their unit
their_text : (markers : MarkerLines) (base side : VersionReading) (name : List ℕ)
    → IsAmong name (version_names side) ⊎ IsAmong name (version_names base)
    → slot_text markers (ours_unchanged base side) (slot_of (ours_unchanged base side) name)
    (slot_of (ours_unchanged base side) name).choice
    ≡ option_map (λ p. p.text) (texts_at side (named_index side name))
their_text markers base side name here = ap (slot_text markers vs s) picked.choice ∙ by picked.is_ours (λ ours. picked.same ours here)
  where
    vs : Versions
    vs = ours_unchanged base side

    s : Slot
    s = slot_of vs name

    picked : IsTheirChoice base side name
    picked = their_choice base side name

    by : (ours : Bool) → (ours ≡ true → is_same_named side base name ≡ true)
        → slot_text markers vs s (cond ours Ours Theirs) ≡ option_map (λ p. p.text) (texts_at side (named_index side name))
    by false same = refl
    by true same =
        text_there base (named_index base name)
        ∙ sym
        (same_texts (option_map (text_of_unit side.text) (version_unit side (named_index side name)))
        (option_map (text_of_unit base.text) (version_unit base (named_index base name))) (same refl))
        ∙ sym (text_there side (named_index side name))

theirs_picked : (markers : MarkerLines) (base side : VersionReading) (names : List (List ℕ))
    → ((name : List ℕ) → IsAmong name names → IsAmong name (version_names side) ⊎ IsAmong name (version_names base))
    → IsPickedFrom markers (ours_unchanged base side) side names
theirs_picked markers base side names sides = record {
  text = λ name here. their_text markers base side name (sides name here);
  space = λ name space is.
      let other : Option (List ℕ) = space_at base (named_index base name) in
      ap (λ t. unwrap_or (picked_space other other t) (codes "\n\n")) is ∙ space_of_theirs other space (codes "\n\n");
  blocks = λ name u unit is.
      ap is_without_blocks (sym unit)
      ∙ (and_parts (is_without_blocks (version_unit base (named_index base name)))
      (is_without_blocks (version_unit side (named_index side name))) is).1;
}

their_space : (base side : VersionReading) → HasSpaceOf (ours_unchanged base side) side
their_space base side = record {
  start = λ space is. ap (λ t. unwrap_or (picked_space (start_of base) (start_of base) t) []) is ∙ space_of_theirs (start_of base) space [];
  end = λ space is.
      ap (λ t. unwrap_or (picked_space (end_behind base) (end_behind base) t) []) is ∙ space_of_theirs (end_behind base) space [];
  blank = ap (λ b. cond b (end_of side) (end_of base)) (bytes_same (end_of base));
}

-- what is made from names is the same for the names of both versions, if these are equal
their_order : (markers : MarkerLines) (base side : VersionReading)
    → flat_map (parts_of markers (ours_unchanged base side)) (order_by (ours_unchanged base side) (order_choice (ours_unchanged base side)))
    ≡ flat_map (parts_of markers (ours_unchanged base side)) (version_names side)
their_order markers base side = by (are_equal_names (version_names side) (version_names base)) refl
  where
    vs : Versions
    vs = ours_unchanged base side

    alike : Bool
    alike = is_alike_order side base || is_alike_order side base

    by : (same : Bool) → are_equal_names (version_names side) (version_names base) ≡ same
        → flat_map (parts_of markers vs) (order_by vs (order_choice vs)) ≡ flat_map (parts_of markers vs) (version_names side)
    by true is =
        let equal : version_names side ≡ version_names base = same_names (version_names side) (version_names base) is in
        ap (λ s. flat_map (parts_of markers vs) (order_by vs (choose s (are_equal_names (version_names base) (version_names base)) alike
        (is_alike_order base base)))) is
        ∙ woven_parts (parts_of markers vs) base side None (version_names base)
        (subst (λ v. AllByRecursion (IsNothing (parts_of markers vs) (λ name. is_some (get (indices_of v) name)))
        (version_names side)) equal
        (nothing_picked markers vs side (version_names side) (theirs_picked markers base side (version_names side)
        (λ name here. inl here))))
        ∙ ap (flat_map (parts_of markers vs)) (sym equal)
    by false is =
        ap (λ s. flat_map (parts_of markers vs) (order_by vs (choose s (are_equal_names (version_names base) (version_names base)) alike
        (is_alike_order base base)))) is
        ∙ ap (λ s. flat_map (parts_of markers vs) (order_by vs (choose false s alike (is_alike_order base base))))
        (names_same (version_names base))
        ∙ woven_parts (parts_of markers vs) side base None (version_names side)
        (nothing_picked markers vs side (version_names base) (theirs_picked markers base side (version_names base) (λ name here. inr here)))

either_picked : (ours : Bool) → IsPicked (cond ours Ours Theirs)
either_picked true = tt
either_picked false = tt

their_order_picked : (base side : VersionReading) → IsPicked (order_choice (ours_unchanged base side))
their_order_picked base side =
    let same : Bool = are_equal_names (version_names side) (version_names base) in
    picked_by (order_choice (ours_unchanged base side)) (cond same Ours Theirs)
    (ap (λ s. choose same s (is_alike_order side base || is_alike_order side base) (is_alike_order base base))
    (names_same (version_names base)))
    (either_picked same)

pub unchanged_ours_gives_theirs : (markers : MarkerLines) (base side : VersionReading) → AreUnits base.text base.units
    → AreUnits side.text side.units → length side.units < 2 ^ 64 → IsMerge markers (ours_unchanged base side) side.text
unchanged_ours_gives_theirs markers base side are_base are fits =
    let vs = ours_unchanged base side in
    let text : merged_text markers vs (slots vs) ≡ side.text =
    picked_text markers vs side are fits (theirs_picked markers base side (version_names side) (λ name here. inl here))
    (their_space base side) (their_order markers base side) in
    let clean : IsClean (slots vs) =
    all_picked vs (order_by vs (order_choice vs)) (λ name.
    let picked = their_choice base side name in
    picked_by (slot_of vs name).choice (cond picked.is_ours Ours Theirs) picked.choice (either_picked picked.is_ours)) in
    merge_of markers vs (theirs_loses_nothing markers vs (record { ours = are_base; theirs = are }) clean text) text clean
    (their_order_picked base side)

-- ---- both sides are equal

abbrev equal_sides : VersionReading → VersionReading → Versions
equal_sides base side = record { base = base; ours = side; theirs = side }

-- a choice between equal sides
data IsEither : Choice → Type 0 where
  ours : IsEither Ours
  theirs : IsEither Theirs

chosen : (theirs_same ours_same ours_alike : Bool) → IsEither (choose theirs_same ours_same true ours_alike)
chosen true ours_same ours_alike = IsEither.ours
chosen false true ours_alike = IsEither.theirs
chosen false false ours_alike = IsEither.ours

or_true : (b : Bool) → (b || true) ≡ true
or_true true = refl
or_true false = refl

equal_choice : (base side : VersionReading) (name : List ℕ) → IsEither (slot_of (equal_sides base side) name).choice
equal_choice base side name = by (is_repeated_in vs own)
  where
    vs : Versions
    vs = equal_sides base side

    own : List ℕ
    own = own_part name

    b : Option UnitReading
    b = version_unit base (named_index base name)

    o : Option UnitReading
    o = version_unit side (named_index side name)

    by : (repeated : Bool)
        → IsEither (cond repeated (group_choice vs own (named_index side name) (named_index side name))
        (choice_at vs (named_index base name) (named_index side name) (named_index side name)))
    by true =
        subst (λ s. IsEither (choose (not (is_changed_group side base own)) (not (is_changed_group side base own)) s false))
        (sym (unit_same side o)) (chosen (not (is_changed_group side base own)) (not (is_changed_group side base own)) false)
    by false =
        subst (λ s. IsEither (choose (is_same side o base b) (is_same side o base b) s (is_alike side o base b)))
        (sym (ap (λ a. is_alike side o base b || a) (unit_alike side o) ∙ or_true (is_alike side o base b)))
        (chosen (is_same side o base b) (is_same side o base b) (is_alike side o base b))

either_text : (markers : MarkerLines) (base side : VersionReading) (name : List ℕ) (choice : Choice) → IsEither choice
    → slot_text markers (equal_sides base side) (slot_of (equal_sides base side) name) choice
    ≡ option_map (λ p. p.text) (texts_at side (named_index side name))
either_text markers base side name Ours IsEither.ours = refl
either_text markers base side name Theirs IsEither.theirs = refl
either_text markers base side name Conflict is = elim is [ ]

is_picked : (choice : Choice) → IsEither choice → IsPicked choice
is_picked Ours IsEither.ours = tt
is_picked Theirs IsEither.theirs = tt
is_picked Conflict is = elim is [ ]

equal_picked : (markers : MarkerLines) (base side : VersionReading) (names : List (List ℕ))
    → IsPickedFrom markers (equal_sides base side) side names
equal_picked markers base side names = record {
  text = λ name here.
      either_text markers base side name (slot_of (equal_sides base side) name).choice (equal_choice base side name);
  space = λ name space is.
      let other : Option (List ℕ) = space_at base (named_index base name) in
      ap (λ o. unwrap_or (picked_space other o o) (codes "\n\n")) is ∙ space_of_both other space (codes "\n\n");
  blocks = λ name u unit is.
      ap is_without_blocks (sym unit)
      ∙ (and_parts (is_without_blocks (version_unit side (named_index side name)))
      (is_without_blocks (version_unit side (named_index side name))) is).0;
}

equal_space : (base side : VersionReading) → HasSpaceOf (equal_sides base side) side
equal_space base side = record {
  start = λ space is. ap (λ o. unwrap_or (picked_space (start_of base) o o) []) is ∙ space_of_both (start_of base) space [];
  end = λ space is. ap (λ o. unwrap_or (picked_space (end_behind base) o o) []) is ∙ space_of_both (end_behind base) space [];
  blank = by (bytes_eq (end_of side) (end_of base));
}
  where
    by : (same : Bool) → cond same (end_of side) (end_of side) ≡ end_of side
    by true = refl
    by false = refl

equal_order_choice : (base side : VersionReading) → IsEither (order_choice (equal_sides base side))
equal_order_choice base side =
    let same : Bool = are_equal_names (version_names side) (version_names base) in
    subst (λ s. IsEither (choose same same s (is_alike_order side base)))
    (sym
    (ap (λ a. is_alike_order side base || a) (names_same (filter (has_unit_named side) (version_names side)))
    ∙ or_true (is_alike_order side base)))
    (chosen same same (is_alike_order side base))

equal_order : (base side : VersionReading) (choice : Choice) → order_by (equal_sides base side) choice ≡ woven side side None
    (version_names side)
equal_order base side Ours = refl
equal_order base side Theirs = refl
equal_order base side Conflict = refl

pub equal_sides_give_their_text : (markers : MarkerLines) (base side : VersionReading) → AreUnits side.text side.units
    → length side.units < 2 ^ 64 → IsMerge markers (equal_sides base side) side.text
equal_sides_give_their_text markers base side are fits =
    let vs = equal_sides base side in
    let text : merged_text markers vs (slots vs) ≡ side.text =
    picked_text markers vs side are fits (equal_picked markers base side (version_names side)) (equal_space base side)
    (ap (flat_map (parts_of markers vs)) (equal_order base side (order_choice vs))
    ∙ woven_parts (parts_of markers vs) side side None (version_names side)
    (nothing_picked markers vs side (version_names side) (equal_picked markers base side (version_names side)))) in
    let clean : IsClean (slots vs) =
    all_picked vs (order_by vs (order_choice vs)) (λ name. is_picked (slot_of vs name).choice (equal_choice base side name)) in
    merge_of markers vs (ours_loses_nothing markers vs (record { ours = are; theirs = are }) clean text) text clean
    (is_picked (order_choice vs) (equal_order_choice base side))
