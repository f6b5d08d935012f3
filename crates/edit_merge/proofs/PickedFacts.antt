-- A merge that picks from each slot what one version has is the text of this version.
use Rattle.std.proofs.Common.{◌≡◌, inl, inr, ℕ, zero, suc, ◌<◌, ◌^◌, arith, Bool, true, false, List, [], ◌∷◌, ◌++◌, Option, Some, None, length, map, refl, sym, ap, ◌∙◌}
use Rattle.std.specs.Prelude.{◌==◌, ◌||◌, is_some, max, option_map, slice_get}
use Rattle.std.specs.List.{AllByRecursion, flat_map, list_any}
use Rattle.std.proofs.lemmas.List.{length-map}
use Rattle.edit_units.specs.Units.{AreUnits, UnitReading, UnitTexts, texts_from}
use Rattle.edit_versions.proofs.IndexFacts.{IsAmong, names_lead_to_units}
use Rattle.edit_versions.specs.Versions.{VersionReading, has_unit_named, named_index, own_name, texts_at, unique_names, version_names, version_texts, version_unit}
use Rattle.edit_entry_merge.specs.ConflictTexts.{MarkerLines}
use Rattle.edit_merge.specs.Merged.{MergedPart, is_text_slot, merged_text, part_with, slot_parts, slot_space, slot_text, space_at, text_of_merge}
use Rattle.edit_merge.specs.Picked.{Versions, order_by, order_choice, slot_of, slots}
use Rattle.edit_merge.proofs.SideFacts.{AreMadeFor, HasSpaceOf, IsNothing, parts_are_text, parts_made}

-- ---- lists of names

pub among_at : (names : List (List ℕ)) (i : ℕ) (name : List ℕ) → slice_get names i ≡ Some name → IsAmong name names
among_at [] i name is = absurd (cc)
among_at (n ∷ ns) zero name is = inl (let same : name ≡ n = cc in same)
among_at (n ∷ ns) (suc i) name is = inr (among_at ns i name is)

pub all_among : (P : List ℕ → Type 0) (names : List (List ℕ)) → ((name : List ℕ) → IsAmong name names → P name) → AllByRecursion P names
all_among P [] has = _
all_among P (n ∷ ns) has = (has n (inl refl), all_among P ns (λ name here. has name (inr here)))

pub neither : (x y : Bool) → (x || y) ≡ false → (x ≡ false) × (y ≡ false)
neither true y is = absurd (cc)
neither false y is = (refl, is)

-- if no name passes a test, none of the names does
pub none_among : (test : List ℕ → Bool) (names : List (List ℕ)) (name : List ℕ) → list_any test names ≡ false → IsAmong name names
    → test name ≡ false
none_among test [] name none here = absurd here
none_among test (n ∷ ns) name none (inl same) = ap test same ∙ (neither (test n) (list_any test ns) none).0
none_among test (n ∷ ns) name none (inr here) = none_among test ns name (neither (test n) (list_any test ns) none).1 here

-- ---- what is picked from each slot

-- the parts of the slot of a name
abbrev pub parts_of : MarkerLines → Versions → List ℕ → List MergedPart
parts_of markers vs name = slot_parts markers vs (slot_of vs name)

-- the slot of each of these names has what a version has
pub record IsPickedFrom (markers : MarkerLines) (vs : Versions) (v : VersionReading) (names : List (List ℕ)) : Type 0 where
  pub text : (name : List ℕ) → IsAmong name names
      → slot_text markers vs (slot_of vs name) (slot_of vs name).choice ≡ option_map (λ p. p.text) (texts_at v (named_index v name))
  pub space : (name space : List ℕ) → space_at v (named_index v name) ≡ Some space → slot_space vs (slot_of vs name) ≡ space
  pub blocks : (name : List ℕ) (u : UnitReading) → version_unit v (named_index v name) ≡ Some u
      → is_text_slot vs (slot_of vs name) ≡ true → (length u.blocks == 0) ≡ true

-- nothing is picked for a name that the version doesn't have
no_index : (found : Option ℕ) → is_some found ≡ false → found ≡ None
no_index None none = refl
no_index (Some i) none = absurd (cc)

pub nothing_picked : (markers : MarkerLines) (vs : Versions) (v : VersionReading) (names : List (List ℕ))
    → IsPickedFrom markers vs v names → AllByRecursion (IsNothing (parts_of markers vs) (has_unit_named v)) names
nothing_picked markers vs v names from = all_among (IsNothing (parts_of markers vs) (has_unit_named v)) names (λ name here absent.
    ap (part_with (slot_space vs (slot_of vs name)) (is_text_slot vs (slot_of vs name)))
    (from.text name here ∙ ap (λ i. option_map (λ p. p.text) (texts_at v i)) (no_index (named_index v name) absent)))

-- the white space before a unit after the first one
later_space : (v : VersionReading) (i : ℕ) (t : UnitTexts) → slice_get (version_texts v) i ≡ Some t → 0 < i
    → space_at v (Some i) ≡ Some t.space
later_space v i t is later =
    ap (λ n. option_map (λ p. p.space) (slice_get (version_texts v) n)) (let same : max i 1 ≡ i = omega (arith, later) in same)
    ∙ ap (option_map (λ p. p.space)) is

-- the part of each name of the version is that of its unit
each_made : (markers : MarkerLines) (vs : Versions) (v : VersionReading) → length v.units < 2 ^ 64
    → IsPickedFrom markers vs v (version_names v) → AreMadeFor (parts_of markers vs) 0 (version_names v) v.units (version_texts v)
each_made markers vs v fits from = λ i name u t named unit texts.
    let index : named_index v name ≡ Some i = names_lead_to_units v fits i name named in
    let s = slot_of vs name in
    let text : slot_text markers vs s s.choice ≡ Some t.text =
    from.text name (among_at (version_names v) i name named) ∙ ap (λ k. option_map (λ p. p.text) (texts_at v k)) index
    ∙ ap (option_map (λ p. p.text)) texts in
    record {
      part = record { space = slot_space vs s; text = t.text; is_text = is_text_slot vs s };
      made = ap (part_with (slot_space vs s) (is_text_slot vs s)) text;
      is = record {
        text = refl;
        space = λ later. from.space name t.space
            (ap (space_at v) index ∙ later_space v i t texts (omega (arith, later)));
        blocks = λ is. from.blocks name u (ap (version_unit v) index ∙ unit) is;
      };
    }

pub names_long : (earlier owns : List (List ℕ)) → length (unique_names earlier owns) ≡ length owns
names_long earlier [] = refl
names_long earlier (own ∷ owns) = ap suc (names_long (earlier ++ own ∷ []) owns)

texts_long : (text : List ℕ) (at : ℕ) (us : List UnitReading) → length (texts_from text at us) ≡ length us
texts_long text at [] = refl
texts_long text at (u ∷ us) = ap suc (texts_long text u.end us)

mapped_parts : (vs : Versions) (markers : MarkerLines) (names : List (List ℕ))
    → flat_map (slot_parts markers vs) (map (slot_of vs) names) ≡ flat_map (parts_of markers vs) names
mapped_parts vs markers [] = refl
mapped_parts vs markers (n ∷ ns) = ap (λ l. parts_of markers vs n ++ l) (mapped_parts vs markers ns)

-- a merge that has the slots of a version in order, and its white space, is its text
pub picked_text : (markers : MarkerLines) (vs : Versions) (v : VersionReading) → AreUnits v.text v.units → length v.units < 2 ^ 64
    → IsPickedFrom markers vs v (version_names v) → HasSpaceOf vs v
    → flat_map (parts_of markers vs) (order_by vs (order_choice vs)) ≡ flat_map (parts_of markers vs) (version_names v)
    → merged_text markers vs (slots vs) ≡ v.text
picked_text markers vs v are fits from spaces ordered =
    ap (text_of_merge vs) (mapped_parts vs markers (order_by vs (order_choice vs)) ∙ ordered)
    ∙ parts_are_text vs v (flat_map (parts_of markers vs) (version_names v)) are spaces
    (parts_made (parts_of markers vs) 0 (version_names v) v.units (version_texts v)
    (sym (names_long [] (map (own_name v.text) v.units) ∙ length-map v.units (own_name v.text))) (texts_long v.text 0 v.units)
    (each_made markers vs v fits from))
