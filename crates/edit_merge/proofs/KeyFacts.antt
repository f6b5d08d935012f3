-- A merge has no key twice if its sides have none twice.
use Rattle.std.proofs.Common.{◌≡◌, inl, inr, ℕ, zero, suc, ◌+◌, ◌<◌, ◌≤◌, ◌^◌, arith, codes, Bool, true, false, List, [], ◌∷◌, ◌++◌, Option, Some, None, cond, get_or, length, map, refl, sym, ap, ◌∙◌, subst, append-nil, append_assoc}
use Rattle.std.specs.Prelude.{◌⊎◌, bytes_eq, count_by, fold, slice_get}
use Rattle.std.specs.Fmt.{decimal}
use Rattle.std.specs.List.{AllByRecursion, flat_map}
use Rattle.std.proofs.lemmas.List.{length-map}
use Rattle.std.proofs.lemmas.Slice.Eq.{bytes_eq-Decides}
use Rattle.std.specs.declared.ops.Range.{Range}
use Rattle.bib_syntax.specs.Reading.{EntryReading, FieldReading}
use Rattle.edit_units.specs.Units.{UnitReading}
use Rattle.edit_versions.specs.Distinct.{AreAllDifferent}
use Rattle.edit_versions.proofs.IndexFacts.{IsAmong}
use Rattle.edit_versions.specs.Versions.{VersionReading, name_by_blocks, name_by_definitions, name_by_entries, name_by_preamble, named_index, own_name, unique_name, unique_names, version_names, version_unit}
use Rattle.edit_merge.specs.Clean.{IsClean, IsPicked}
use Rattle.edit_merge.specs.Keys.{HaveFewEntries, keys_of_units}
use Rattle.edit_merge.specs.Lost.{kept_slot, kept_slots, picked_units, unit_list, units_at}
use Rattle.edit_merge.specs.Picked.{Versions, merged_names, slot_of, slots}
use Rattle.edit_merge.specs.declared.picking.Choice.{Choice}
use Rattle.edit_merge.specs.declared.picking.Choice.TheVariants.{Ours, Theirs, Conflict}
use Rattle.edit_merge.specs.declared.slots.Slot.{Slot}
use Rattle.edit_merge.proofs.OnceFacts.{among_either, joined, leads_at, merged_names_differ, none_equal, not_among}

-- ---- the name of an entry

-- the own name of an entry with a key
abbrev entry_name : List ℕ → List ℕ
entry_name key = codes "entry " ++ key

-- the name of an entry whose key no earlier entry has
abbrev first_name : List ℕ → List ℕ
first_name key = decimal 0 ++ (codes " " ++ entry_name key)

unequal : (text other : List ℕ) → (text ≡ other → ⊥) → bytes_eq text other ≡ false
unequal text other differ = by (bytes_eq text other) refl
  where
    by : (b : Bool) → bytes_eq text other ≡ b → b ≡ false
    by true is = absurd (differ ((bytes_eq-Decides text other).0 is))
    by false is = refl

same_key : (key other : List ℕ) → entry_name key ≡ entry_name other → key ≡ other
same_key key other same = cc

-- a unit without entries has no name of an entry
no_entry_name : (text key : List ℕ) (u : UnitReading) → u.says.entries ≡ [] → entry_name key ≡ own_name text u → ⊥
no_entry_name text key u none same =
    by_definitions u.says.abbreviations (same ∙ ap (name_by_entries text u) none)
  where
    -- texts with different first bytes aren't equal
    apart : {left right : List ℕ} (x y : ℕ) → left ≡ right → get_or left 0 0 ≡ x → get_or right 0 0 ≡ y → (x ≡ y → ⊥) → ⊥
    apart x y is left_is right_is differ = differ (sym left_is ∙ ap (λ l. get_or l 0 0) is ∙ right_is)

    by_blocks : (blocks : List (Range ℕ)) → entry_name key ≡ name_by_blocks text u blocks → ⊥
    by_blocks [] is = apart 101 116 is refl refl (λ same. omega (arith, same))
    by_blocks (b ∷ bs) is = apart 101 99 is refl refl (λ same. omega (arith, same))

    by_preamble : (preamble : List ℕ) → entry_name key ≡ name_by_preamble text u preamble → ⊥
    by_preamble [] is = by_blocks u.blocks is
    by_preamble (b ∷ bs) is = apart 101 112 is refl refl (λ same. omega (arith, same))

    by_definitions : (fs : List FieldReading) → entry_name key ≡ name_by_definitions text u fs → ⊥
    by_definitions [] is = by_preamble u.says.preamble is
    by_definitions (f ∷ fs) is = apart 101 115 is refl refl (λ same. omega (arith, same))

-- no own name is that of an entry with this key
abbrev HasNone : List ℕ → List (List ℕ) → Type 0
HasNone key owns = AllByRecursion (λ own. entry_name key ≡ own → ⊥) owns

counted_from : (key : List ℕ) (owns : List (List ℕ)) (count : ℕ) → HasNone key owns
    → fold (λ n own. n + cond (bytes_eq (entry_name key) own) 1 0) count owns ≡ count
counted_from key [] count none = refl
counted_from key (own ∷ owns) count none =
    ap (λ b. fold (λ n o. n + cond (bytes_eq (entry_name key) o) 1 0) (count + cond b 1 0) owns)
    (unequal (entry_name key) own none.0)
    ∙ counted_from key owns (count + 0) none.1 ∙ (let same : count + 0 ≡ count = omega arith in same)

none_counted : (key : List ℕ) (owns : List (List ℕ)) → HasNone key owns → count_by (bytes_eq (entry_name key)) owns ≡ 0
none_counted key owns none = counted_from key owns 0 none

none_more : (key own : List ℕ) (owns : List (List ℕ)) → HasNone key owns → (entry_name key ≡ own → ⊥) → HasNone key (owns ++ own ∷ [])
none_more key own [] none differ = (differ, _)
none_more key own (x ∷ xs) none differ = (none.0, none_more key own xs none.1 differ)

-- ---- a key leads to a name

-- the keys in one unit
abbrev unit_keys : UnitReading → List (List ℕ)
unit_keys u = map (λ e. e.key.text) u.says.entries

-- the unit at an index has an entry with this key
record HasKey (us : List UnitReading) (i : ℕ) (key : List ℕ) : Type 0 where
  unit : UnitReading
  at : slice_get us i ≡ Some unit
  has : IsAmong key (unit_keys unit)

among_left : (name : List ℕ) (xs ys : List (List ℕ)) → IsAmong name xs → IsAmong name (xs ++ ys)
among_left name [] ys here = absurd here
among_left name (x ∷ xs) ys (inl same) = inl same
among_left name (x ∷ xs) ys (inr here) = inr (among_left name xs ys here)

among_right : (name : List ℕ) (xs ys : List (List ℕ)) → IsAmong name ys → IsAmong name (xs ++ ys)
among_right name [] ys here = here
among_right name (x ∷ xs) ys here = inr (among_right name xs ys here)

key_is_in : (us : List UnitReading) (i : ℕ) (key : List ℕ) → HasKey us i key → IsAmong key (keys_of_units us)
key_is_in [] i key h = absurd (let clash : None ≡ Some h.unit = h.at in cc)
key_is_in (u ∷ us) zero key h =
    let same : u ≡ h.unit = let found : Some u ≡ Some h.unit = h.at in cc in
    among_left key (unit_keys u) (keys_of_units us) (subst (λ x. IsAmong key (unit_keys x)) (sym same) h.has)
key_is_in (u ∷ us) (suc i) key h =
    among_right key (unit_keys u) (keys_of_units us) (key_is_in us i key (record { unit = h.unit; at = h.at; has = h.has }))

-- lists that are parts of a list of different names
different_left : (xs ys : List (List ℕ)) → AreAllDifferent (xs ++ ys) → (name : List ℕ) → IsAmong name xs → IsAmong name ys → ⊥
different_left [] ys all name here there = here
different_left (x ∷ xs) ys all name (inl same) there =
    not_among (xs ++ ys) x all.0 (among_right x xs ys (subst (λ n. IsAmong n ys) same there))
different_left (x ∷ xs) ys all name (inr here) there = different_left xs ys all.1 name here there

different_right : (xs ys : List (List ℕ)) → AreAllDifferent (xs ++ ys) → AreAllDifferent ys
different_right [] ys all = all
different_right (x ∷ xs) ys all = different_right xs ys all.1

-- the own name of a unit with this key, if it has no other entry
named_by_key : (text key : List ℕ) (u : UnitReading) → length u.says.entries ≤ 1 → IsAmong key (unit_keys u)
    → own_name text u ≡ entry_name key
named_by_key text key u few has = by u.says.entries few has
  where
    by : (es : List EntryReading) → length es ≤ 1 → IsAmong key (map (λ e. e.key.text) es) → name_by_entries text u es ≡ entry_name key
    by [] few has = absurd has
    by (e ∷ []) few (inl same) = ap entry_name (sym same)
    by (e ∷ []) few (inr has) = absurd has
    by (e ∷ other ∷ es) few has = absurd (omega (arith, few))

-- a unit without this key has another own name
other_name : (text key : List ℕ) (u : UnitReading) → (IsAmong key (unit_keys u) → ⊥) → entry_name key ≡ own_name text u → ⊥
other_name text key u lacks same = by u.says.entries refl
  where
    by : (es : List EntryReading) → u.says.entries ≡ es → ⊥
    by [] is = no_entry_name text key u is same
    by (e ∷ es) is =
        let own : entry_name key ≡ entry_name e.key.text = same ∙ ap (name_by_entries text u) is in
        lacks (subst (λ l. IsAmong key (map (λ x. x.key.text) l)) (sym is) (inl (same_key key e.key.text own)))

name_of_key : (text : List ℕ) (earlier : List (List ℕ)) (us : List UnitReading) (i : ℕ) (key : List ℕ) → HaveFewEntries us
    → AreAllDifferent (keys_of_units us) → HasNone key earlier → HasKey us i key
    → slice_get (unique_names earlier (map (own_name text) us)) i ≡ Some (first_name key)
name_of_key text earlier [] i key few differ none h = absurd (let clash : None ≡ Some h.unit = h.at in cc)
name_of_key text earlier (u ∷ us) zero key few differ none h =
    let same : u ≡ h.unit = let found : Some u ≡ Some h.unit = h.at in cc in
    let own : own_name text u ≡ entry_name key =
    named_by_key text key u few.0 (subst (λ x. IsAmong key (unit_keys x)) (sym same) h.has) in
    ap (λ o. Some (unique_name earlier o)) own
    ∙ ap (λ n. Some (decimal n ++ (codes " " ++ entry_name key))) (none_counted key earlier none)
name_of_key text earlier (u ∷ us) (suc i) key few differ none h =
    let rest : HasKey us i key = record { unit = h.unit; at = h.at; has = h.has } in
    let lacks : IsAmong key (unit_keys u) → ⊥ =
    λ here. different_left (unit_keys u) (keys_of_units us) differ key here (key_is_in us i key rest) in
    name_of_key text (earlier ++ own_name text u ∷ []) us i key few.1 (different_right (unit_keys u) (keys_of_units us) differ)
    (none_more key (own_name text u) earlier none (other_name text key u lacks)) rest

-- a version without two equal keys, and without units with several entries
pub record HasDifferentKeys (v : VersionReading) : Type 0 where
  pub fits : length v.units < 2 ^ 64
  pub few : HaveFewEntries v.units
  pub differ : AreAllDifferent (keys_of_units v.units)

few_at : (us : List UnitReading) (i : ℕ) (u : UnitReading) → HaveFewEntries us → slice_get us i ≡ Some u → length u.says.entries ≤ 1
few_at [] i u few is = absurd (cc)
few_at (x ∷ xs) zero u few is = let same : x ≡ u = cc in subst (λ y. length y.says.entries ≤ 1) same few.0
few_at (x ∷ xs) (suc i) u few is = few_at xs i u few.1 is

-- ---- the keys at a place

-- the keys of a unit, if it is there
abbrev keys_at : VersionReading → List ℕ → List (List ℕ)
keys_at v name = keys_of_units (unit_list (version_unit v (named_index v name)))

-- a list has at most one key, and a place with this key has this name
record IsKeyed (name : List ℕ) (keys : List (List ℕ)) : Type 0 where
  few : length keys ≤ 1
  named : (key : List ℕ) → IsAmong key keys → name ≡ first_name key

keyed : (v : VersionReading) (name : List ℕ) → HasDifferentKeys v → IsKeyed name (keys_at v name)
keyed v name h = by (named_index v name) refl
  where
    at : (i : ℕ) → named_index v name ≡ Some i → (found : Option UnitReading) → slice_get v.units i ≡ found
        → IsKeyed name (keys_of_units (unit_list found))
    at i leads None is = record { few = omega arith; named = λ key here. absurd here }
    at i leads (Some u) is = record {
      few = omega (arith, few_at v.units i u h.few is, ap length (append-nil (unit_keys u)), length-map u.says.entries (λ e. e.key.text));
      named = λ key here.
          let has : IsAmong key (unit_keys u) = subst (IsAmong key) (append-nil (unit_keys u)) here in
          let found : Some name ≡ Some (first_name key) =
          sym (leads_at v name i h.fits leads)
          ∙ name_of_key v.text [] v.units i key h.few h.differ _ (record { unit = u; at = is; has = has }) in
          cc;
    }

    by : (index : Option ℕ) → named_index v name ≡ index → IsKeyed name (keys_of_units (unit_list (version_unit v index)))
    by None is = record { few = omega arith; named = λ key here. absurd here }
    by (Some i) is = at i is (slice_get v.units i) refl

-- the keys of what is picked at a place
abbrev picked_keys : Versions → Slot → Choice → List (List ℕ)
picked_keys vs s choice = keys_of_units (picked_units vs s choice)

place_keyed : (vs : Versions) (name : List ℕ) (choice : Choice) → HasDifferentKeys vs.ours → HasDifferentKeys vs.theirs → IsPicked choice
    → IsKeyed name (picked_keys vs (slot_of vs name) choice)
place_keyed vs name Ours ours theirs picked = keyed vs.ours name ours
place_keyed vs name Theirs ours theirs picked = keyed vs.theirs name theirs
place_keyed vs name Conflict ours theirs picked = absurd picked

-- ---- all places

-- lists of at most one key have different keys if their places have different names
apart_keys : (keys_of : List ℕ → List (List ℕ)) (names : List (List ℕ)) → AreAllDifferent names
    → AllByRecursion (λ n. IsKeyed n (keys_of n)) names → AreAllDifferent (flat_map keys_of names)
apart_keys keys_of [] differ all = _
apart_keys keys_of (n ∷ ns) differ all =
    joined (keys_of n) (flat_map keys_of ns) (single (keys_of n) all.0.few) (apart_keys keys_of ns differ.1 all.1)
    (λ key here there. apart ns differ.0 all.1 key here there)
  where
    single : (keys : List (List ℕ)) → length keys ≤ 1 → AreAllDifferent keys
    single [] few = _
    single (k ∷ []) few = (_, _)
    single (k ∷ other ∷ ks) few = absurd (omega (arith, few))

    apart : (ms : List (List ℕ)) → AllByRecursion (λ m. n ≡ m → ⊥) ms → AllByRecursion (λ m. IsKeyed m (keys_of m)) ms
        → (key : List ℕ) → IsAmong key (keys_of n) → IsAmong key (flat_map keys_of ms) → ⊥
    apart [] others keyed key here there = there
    apart (m ∷ ms) others keyed key here there = elim (among_either key (keys_of m) (flat_map keys_of ms) there) [
      | inl first ↦ others.0 (all.0.named key here ∙ sym (keyed.0.named key first))
      | inr second ↦ apart ms others.1 keyed.1 key here second
    ]

keys_append : (us vs : List UnitReading) → keys_of_units (us ++ vs) ≡ keys_of_units us ++ keys_of_units vs
keys_append [] vs = refl
keys_append (u ∷ us) vs =
    ap (λ l. unit_keys u ++ l) (keys_append us vs) ∙ sym (append_assoc (unit_keys u) (keys_of_units us) (keys_of_units vs))

-- the keys at the places of names
place_keys : (vs originals : Versions) (names : List (List ℕ))
    → keys_of_units (units_at vs (map (kept_slot vs originals) (map (slot_of vs) names)))
    ≡ flat_map (λ n. picked_keys vs (slot_of vs n) (kept_slot vs originals (slot_of vs n)).choice) names
place_keys vs originals [] = refl
place_keys vs originals (n ∷ ns) =
    let s : Slot = kept_slot vs originals (slot_of vs n) in
    keys_append (picked_units vs s s.choice) (units_at vs (map (kept_slot vs originals) (map (slot_of vs) ns)))
    ∙ ap (λ l. picked_keys vs (slot_of vs n) s.choice ++ l) (place_keys vs originals ns)

clean_places : (vs originals : Versions) (names : List (List ℕ)) → IsClean (map (kept_slot vs originals) (map (slot_of vs) names))
    → HasDifferentKeys vs.ours → HasDifferentKeys vs.theirs
    → AllByRecursion (λ n. IsKeyed n (picked_keys vs (slot_of vs n) (kept_slot vs originals (slot_of vs n)).choice)) names
clean_places vs originals [] clean ours theirs = _
clean_places vs originals (n ∷ ns) clean ours theirs = (
  place_keyed vs n (kept_slot vs originals (slot_of vs n)).choice ours theirs clean.0,
  clean_places vs originals ns clean.1 ours theirs,
)

pub merged_keys_differ : (vs originals : Versions) → HasDifferentKeys vs.ours → HasDifferentKeys vs.theirs
    → IsClean (kept_slots vs originals) → AreAllDifferent (keys_of_units (units_at vs (kept_slots vs originals)))
merged_keys_differ vs originals ours theirs clean =
    subst AreAllDifferent (sym (place_keys vs originals (merged_names vs)))
    (apart_keys (λ n. picked_keys vs (slot_of vs n) (kept_slot vs originals (slot_of vs n)).choice) (merged_names vs)
    (merged_names_differ vs ours.fits theirs.fits) (clean_places vs originals (merged_names vs) clean ours theirs))
