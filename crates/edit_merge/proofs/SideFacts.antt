-- A merge that picks all units of one version is the text of this version.
use Rattle.std.proofs.Common.{◌≡◌, ℕ, zero, suc, ◌+◌, ◌<◌, arith, Bool, true, false, cond, List, [], ◌∷◌, ◌++◌, Option, Some, None, length, refl, sym, ap, ◌∙◌, subst, append_assoc}
use Rattle.std.specs.Prelude.{◌==◌, drop, not, slice_get}
use Rattle.std.specs.List.{AllByRecursion, before_first, flat_map, list_any}
use Rattle.std.proofs.lemmas.Grind.{flat_map-append}
use Rattle.bib_text.specs.Places.{between, place}
use Rattle.edit_units.proofs.CutFacts.{units_are_parts, units_are_separated}
use Rattle.edit_units.specs.Parts.{FilePart, parts_from, text_of_parts}
use Rattle.edit_units.specs.Separated.{AreSeparated, HasBlankLine}
use Rattle.edit_units.specs.Units.{AreUnits, UnitReading, UnitTexts, end_of_units, texts_from}
use Rattle.edit_versions.specs.Versions.{VersionReading, end_of, has_unit_named, named_index, version_names, version_texts}
use Rattle.edit_merge.specs.Merged.{MergedPart, end_behind, merged_blank, merged_end, merged_start, space_between, start_of, text_behind, text_of_merge}
use Rattle.edit_merge.specs.Picked.{Versions, before_shared, last_shared, run_behind, woven}
use Rattle.edit_merge.proofs.OrderFacts.{run_more, run_stops}

-- ---- names in one order

-- what is made from a name, unless it passes a test
abbrev pub IsNothing : (List ℕ → List MergedPart) → (List ℕ → Bool) → List ℕ → Type 0
IsNothing parts test name = test name ≡ false → parts name ≡ []

all_drop : (P : List ℕ → Type 0) (k : ℕ) (names : List (List ℕ)) → AllByRecursion P names → AllByRecursion P (drop k names)
all_drop P zero names all = all
all_drop P (suc k) [] all = _
all_drop P (suc k) (n ∷ ns) all = all_drop P k ns all.1

before_nothing : (parts : List ℕ → List MergedPart) (test : List ℕ → Bool) (names : List (List ℕ))
    → AllByRecursion (IsNothing parts test) names → flat_map parts (before_first test names) ≡ []
before_nothing parts test [] all = refl
before_nothing parts test (n ∷ ns) all = by (test n) refl (before_nothing parts test ns all.1)
  where
    by : (passes : Bool) → test n ≡ passes → flat_map parts (before_first test ns) ≡ [] → flat_map parts (before_first test (n ∷ ns)) ≡ []
    by true is rest = ap (flat_map parts) (run_stops test n ns is)
    by false is rest =
        ap (flat_map parts) (run_more test n ns is) ∙ ap (λ l. l ++ flat_map parts (before_first test ns)) (all.0 is) ∙ rest

run_nothing : (parts : List ℕ → List MergedPart) (main other : VersionReading) (last : Option ℕ)
    → AllByRecursion (IsNothing parts (has_unit_named main)) (version_names other) → flat_map parts (run_behind main other last) ≡ []
run_nothing parts main other None all = before_nothing parts (has_unit_named main) (version_names other) all
run_nothing parts main other (Some i) all =
    before_nothing parts (has_unit_named main) (drop 1 (drop i (version_names other)))
    (all_drop (IsNothing parts (has_unit_named main)) 1 (drop i (version_names other))
    (all_drop (IsNothing parts (has_unit_named main)) i (version_names other) all))

shared_nothing : (parts : List ℕ → List MergedPart) (main other : VersionReading) (last index : Option ℕ)
    → AllByRecursion (IsNothing parts (has_unit_named main)) (version_names other)
    → flat_map parts (before_shared main other last index) ≡ []
shared_nothing parts main other last None all = refl
shared_nothing parts main other last (Some i) all = run_nothing parts main other last all

-- if nothing is made from the names that only the other version has, the parts are those of the names of the main one
pub woven_parts : (parts : List ℕ → List MergedPart) (main other : VersionReading) (last : Option ℕ) (names : List (List ℕ))
    → AllByRecursion (IsNothing parts (has_unit_named main)) (version_names other)
    → flat_map parts (woven main other last names) ≡ flat_map parts names
woven_parts parts main other last [] all = run_nothing parts main other last all
woven_parts parts main other last (n ∷ ns) all =
    let before : List (List ℕ) = before_shared main other last (named_index other n) in
    let rest : List (List ℕ) = woven main other (last_shared last (named_index other n)) ns in
    flat_map-append parts before (n ∷ rest)
    ∙ ap (λ l. l ++ (parts n ++ flat_map parts rest)) (shared_nothing parts main other last (named_index other n) all)
    ∙ ap (λ l. parts n ++ l) (woven_parts parts main other (last_shared last (named_index other n)) ns all)

-- ---- parts of units

-- a part has the text of a unit and, after the first unit, the white space before it; and if the next part is set off by a blank line, the
-- unit has no block
pub record IsPartOf (index : ℕ) (u : UnitReading) (t : UnitTexts) (p : MergedPart) : Type 0 where
  pub text : p.text ≡ t.text
  pub space : 0 < index → p.space ≡ t.space
  pub blocks : p.is_text ≡ true → (length u.blocks == 0) ≡ true

-- parts of units, one by one
pub data ArePartsOf : ℕ → List UnitReading → List UnitTexts → List MergedPart → Type 0 where
  none : {index : ℕ} → ArePartsOf index [] [] []
  some : {index : ℕ} {u : UnitReading} {us : List UnitReading} {t : UnitTexts} {ts : List UnitTexts} {p : MergedPart} {ps : List MergedPart}
      → IsPartOf index u t p → ArePartsOf (index + 1) us ts ps → ArePartsOf index (u ∷ us) (t ∷ ts) (p ∷ ps)

-- one part is made from a name, and it is that of a unit
pub record IsMadeFor (parts : List ℕ → List MergedPart) (index : ℕ) (name : List ℕ) (u : UnitReading) (t : UnitTexts) : Type 0 where
  pub part : MergedPart
  pub made : parts name ≡ part ∷ []
  pub is : IsPartOf index u t part

-- the part of each name is that of the unit with this name
abbrev pub AreMadeFor : (List ℕ → List MergedPart) → ℕ → List (List ℕ) → List UnitReading → List UnitTexts → Type 0
AreMadeFor parts index names us ts =
    (i : ℕ) (name : List ℕ) (u : UnitReading) (t : UnitTexts) → slice_get names i ≡ Some name → slice_get us i ≡ Some u
    → slice_get ts i ≡ Some t → IsMadeFor parts (index + i) name u t

pub parts_made : (parts : List ℕ → List MergedPart) (index : ℕ) (names : List (List ℕ)) (us : List UnitReading) (ts : List UnitTexts)
    → length us ≡ length names → length ts ≡ length us → AreMadeFor parts index names us ts
    → ArePartsOf index us ts (flat_map parts names)
parts_made parts index [] [] [] sizes sizes' made = ArePartsOf.none
parts_made parts index [] [] (t ∷ ts) sizes sizes' made = absurd (omega (arith, sizes'))
parts_made parts index [] (u ∷ us) ts sizes sizes' made = absurd (omega (arith, sizes))
parts_made parts index (n ∷ ns) [] ts sizes sizes' made = absurd (omega (arith, sizes))
parts_made parts index (n ∷ ns) (u ∷ us) [] sizes sizes' made = absurd (omega (arith, sizes'))
parts_made parts index (n ∷ ns) (u ∷ us) (t ∷ ts) sizes sizes' made =
    let first = made 0 n u t refl refl refl in
    let here : index + 0 ≡ index = omega arith in
    subst (ArePartsOf index (u ∷ us) (t ∷ ts)) (sym (ap (λ l. l ++ flat_map parts ns) first.made))
    (ArePartsOf.some (subst (λ k. IsPartOf k u t first.part) here first.is)
    (parts_made parts (index + 1) ns us ts (omega (arith, sizes)) (omega (arith, sizes'))
    (λ i name v w named unit texts.
    subst (λ k. IsMadeFor parts k name v w) (let next : index + suc i ≡ index + 1 + i = omega arith in next)
    (made (suc i) name v w named unit texts))))

-- ---- the text

-- white space with a blank line is kept
kept_space : (is_text : Bool) (space : List ℕ) → (is_text ≡ true → list_any (λ b. b == 10) (drop 1 space) ≡ true)
    → space_between is_text space ≡ space
kept_space true space blank = ap (λ b. cond (not b) (10 ∷ space) space) (blank refl)
kept_space false space blank = refl

grouped : (p : FilePart) (ps : List FilePart) (end : List ℕ) → text_of_parts (p ∷ ps) end ≡ p.space ++ (p.text ++ text_of_parts ps end)
grouped p ps end =
    append_assoc (p.space ++ p.text) (flat_map (λ q. q.space ++ q.text) ps) end ∙ append_assoc p.space p.text (text_of_parts ps end)

-- the parts of units after a unit, as a text
behind_text : (text : List ℕ) (at index : ℕ) (us : List UnitReading) (is_text : Bool) (ps : List MergedPart) (end : List ℕ) → 0 < index
    → ArePartsOf index us (texts_from text at us) ps → (is_text ≡ true → HasBlankLine text at us) → AreSeparated text us
    → text_behind is_text ps end ≡ text_of_parts (parts_from text at us) end
behind_text text at index [] is_text [] end later ArePartsOf.none blank separated = refl
behind_text text at index [] is_text (p ∷ ps) end later are blank separated = elim are [ ]
behind_text text at index (u ∷ us) is_text [] end later are blank separated = elim are [ ]
behind_text text at index (u ∷ us) is_text (p ∷ ps) end later (ArePartsOf.some part rest) blank separated =
    let space : List ℕ = between (place text at) (place text u.start) in
    let own : List ℕ = between (place text u.start) (place text u.end) in
    let left : List ℕ = text_of_parts (parts_from text u.end us) end in
    ap (λ s. space_between is_text s ++ (p.text ++ text_behind p.is_text ps end)) (part.space later)
    ∙ ap (λ s. s ++ (p.text ++ text_behind p.is_text ps end)) (kept_space is_text space blank)
    ∙ ap (λ t. space ++ (t ++ text_behind p.is_text ps end)) part.text
    ∙ ap (λ t. space ++ (own ++ t))
    (behind_text text u.end (index + 1) us p.is_text ps end (omega arith) rest (λ is. separated.0 (part.blocks is)) separated.1)
    ∙ sym (grouped (record { space = space; text = own; says = u.says }) (parts_from text u.end us) end)

-- the white space around the parts of a merge is that of a version
pub record HasSpaceOf (vs : Versions) (v : VersionReading) : Type 0 where
  pub start : (space : List ℕ) → start_of v ≡ Some space → merged_start vs ≡ space
  pub end : (space : List ℕ) → end_behind v ≡ Some space → merged_end vs ≡ space
  pub blank : merged_blank vs ≡ end_of v

text_of_units : (vs : Versions) (text : List ℕ) (us : List UnitReading) (ps : List MergedPart)
    → HasSpaceOf vs (record { text = text; units = us })
    → ArePartsOf 0 us (texts_from text 0 us) ps → AreSeparated text us
    → text_of_merge vs ps ≡ text_of_parts (parts_from text 0 us) (drop (end_of_units 0 us) text)
text_of_units vs text [] [] spaces ArePartsOf.none separated = spaces.blank
text_of_units vs text [] (p ∷ ps) spaces are separated = elim are [ ]
text_of_units vs text (u ∷ us) [] spaces are separated = elim are [ ]
text_of_units vs text (u ∷ us) (p ∷ ps) spaces (ArePartsOf.some part rest) separated =
    let space : List ℕ = between (place text 0) (place text u.start) in
    let own : List ℕ = between (place text u.start) (place text u.end) in
    let end : List ℕ = drop (end_of_units u.end us) text in
    ap (λ s. s ++ (p.text ++ text_behind p.is_text ps (merged_end vs))) (spaces.start space refl)
    ∙ ap (λ t. space ++ (t ++ text_behind p.is_text ps (merged_end vs))) part.text
    ∙ ap (λ e. space ++ (own ++ text_behind p.is_text ps e)) (spaces.end end refl)
    ∙ ap (λ t. space ++ (own ++ t))
    (behind_text text u.end 1 us p.is_text ps end (omega arith) rest (λ is. separated.0 (part.blocks is)) separated.1)
    ∙ sym (grouped (record { space = space; text = own; says = u.says }) (parts_from text u.end us) end)

-- the parts of all units of a version are its text
pub parts_are_text : (vs : Versions) (v : VersionReading) (ps : List MergedPart) → AreUnits v.text v.units → HasSpaceOf vs v
    → ArePartsOf 0 v.units (version_texts v) ps → text_of_merge vs ps ≡ v.text
parts_are_text vs v ps are spaces parts =
    text_of_units vs v.text v.units ps spaces parts (units_are_separated v.text v.units are)
    ∙ sym (units_are_parts v.text v.units are).whole
