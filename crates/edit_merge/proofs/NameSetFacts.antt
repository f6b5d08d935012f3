-- Sets of the names of units, unit by unit.
use Rattle.std.proofs.Common.{◌≡◌, ℕ, Bool, true, false, cond, drop, List, [], ◌∷◌, ◌++◌, Option, Some, length, map, take, get_or, ◌<◌, ◌+◌, append-nil, refl, sym, ap, ap₂, ◌∙◌, subst}
use Rattle.std.specs.Prelude.{◌&&◌, ◌||◌, bytes_eq, not}
use Rattle.std.specs.BTreeSet.{contains_text}
use Rattle.std.specs.List.{find, flat_map}
use Rattle.std.proofs.lemmas.Grind.{flat_map-append}
use Rattle.std.proofs.lemmas.List.{take_more}
use Rattle.std.proofs.lemmas.List.Folds.{list_any-append}
use Rattle.bib_text.proofs.ListFacts.{drop_is}
use Rattle.bib_queries.specs.Needed.{is_listed}
use Rattle.edit_units.specs.Units.{UnitReading}
use Rattle.edit_merge.specs.Lost.{is_lost, kept_choice, kept_slot, lost_at, picked_units, units_at, unpicked_units}
use Rattle.edit_merge.specs.NameSets.{AreAdded, AreSideNames, HaveNames, is_dangling, is_lost_by, kept_by, lost_by}
use Rattle.edit_merge.specs.Picked.{Versions, slots}
use Rattle.edit_merge.specs.UnitNames.{dangles, defined_names, names_used}
use Rattle.edit_merge.specs.declared.lost.MergeNames.{MergeNames}
use Rattle.edit_merge.specs.declared.lost.NameSets.{NameSets}
use Rattle.edit_merge.specs.declared.slots.Slot.{Slot}

-- ---- one set

or_assoc : (x y z : Bool) → ((x || y) || z) ≡ (x || (y || z))
or_assoc true y z = refl
or_assoc false y z = refl

or_false : (x : Bool) → (x || false) ≡ x
or_false true = refl
or_false false = refl

-- the names of lists of units, one after the other
pub listed_both : (f : UnitReading → List (List ℕ)) (units more : List UnitReading) (name : List ℕ)
    → is_listed (flat_map f (units ++ more)) name ≡ (is_listed (flat_map f units) name || is_listed (flat_map f more) name)
listed_both f units more name =
    ap (λ l. is_listed l name) (flat_map-append f units more)
    ∙ list_any-append (λ one. bytes_eq one name) (flat_map f units) (flat_map f more)

-- the names of one unit
pub listed_one : (f : UnitReading → List (List ℕ)) (u : UnitReading) (name : List ℕ)
    → is_listed (flat_map f (u ∷ [])) name ≡ is_listed (f u) name
listed_one f u name = ap (λ l. is_listed l name) (append-nil (f u))

-- a name of a list of names that moves into a set
pub name_moved : (before after same rest : Bool) → after ≡ cond same true before → (before || (same || rest)) ≡ (after || rest)
name_moved true after true rest is = ap (λ a. a || rest) (sym is)
name_moved true after false rest is = ap (λ a. a || rest) (sym is)
name_moved false after true rest is = ap (λ a. a || rest) (sym is)
name_moved false after false rest is = ap (λ a. a || rest) (sym is)

pub all_moved : (before : Bool) → (before || false) ≡ before
all_moved before = or_false before

-- ---- the sets of units

pub nothing_added : (sets : NameSets) → AreAdded [] sets sets
nothing_added sets = record {
  used = λ name. sym (or_false (contains_text sets.used name));
  defined = λ name. sym (or_false (contains_text sets.defined name));
}

-- the sets after the names of a unit were inserted into both
pub unit_added : (u : UnitReading) (before after : NameSets) (used defined : List (List ℕ)) → used ≡ names_used u
    → defined ≡ defined_names u
    → ((name : List ℕ) → contains_text after.used name ≡ (contains_text before.used name || is_listed used name))
    → ((name : List ℕ) → contains_text after.defined name ≡ (contains_text before.defined name || is_listed defined name))
    → AreAdded (u ∷ []) before after
unit_added u before after used defined uses defines used_is defined_is = record {
  used = λ name. used_is name
      ∙ ap (λ b. contains_text before.used name || b) (ap (λ l. is_listed l name) uses ∙ sym (listed_one names_used u name));
  defined = λ name. defined_is name
      ∙ ap (λ b. contains_text before.defined name || b) (ap (λ l. is_listed l name) defines ∙ sym (listed_one defined_names u name));
}

-- units that were added one after the other
pub both_added : (units more : List UnitReading) {before between after : NameSets} → AreAdded units before between
    → AreAdded more between after → AreAdded (units ++ more) before after
both_added units more {before} {between} {after} first second = record {
  used = λ name. second.used name ∙ ap (λ b. b || is_listed (flat_map names_used more) name) (first.used name)
      ∙ or_assoc (contains_text before.used name) (is_listed (flat_map names_used units) name) (is_listed (flat_map names_used more) name)
      ∙ ap (λ b. contains_text before.used name || b) (sym (listed_both names_used units more name));
  defined = λ name. second.defined name ∙ ap (λ b. b || is_listed (flat_map defined_names more) name) (first.defined name)
      ∙ or_assoc (contains_text before.defined name) (is_listed (flat_map defined_names units) name)
      (is_listed (flat_map defined_names more) name)
      ∙ ap (λ b. contains_text before.defined name || b) (sym (listed_both defined_names units more name));
}

-- the sets have the names of units, and of the added ones
pub have_added : (units more : List UnitReading) {before after : NameSets} → HaveNames units before → AreAdded more before after
    → HaveNames (units ++ more) after
have_added units more have added = record {
  used = λ name. added.used name ∙ ap (λ b. b || is_listed (flat_map names_used more) name) (have.used name)
      ∙ sym (listed_both names_used units more name);
  defined = λ name. added.defined name ∙ ap (λ b. b || is_listed (flat_map defined_names more) name) (have.defined name)
      ∙ sym (listed_both defined_names units more name);
}

-- one more place of a merge
pub have_place : (vs : Versions) (ss : List Slot) (i : ℕ) (s : Slot) {before after : NameSets} → i < length ss → s ≡ get_or ss i s
    → HaveNames (units_at vs (take i ss)) before → AreAdded (picked_units vs s s.choice) before after
    → HaveNames (units_at vs (take (i + 1) ss)) after
have_place vs ss i s {before} {after} within is have added =
    let f : Slot → List UnitReading = λ t. picked_units vs t t.choice in
    subst (λ us. HaveNames us after)
    (sym
    (ap (flat_map f) (take_more ss i s within ∙ ap (λ x. take i ss ++ x ∷ []) (sym is)) ∙ flat_map-append f (take i ss) (s ∷ [])
    ∙ ap (λ l. flat_map f (take i ss) ++ l) (append-nil (f s))))
    (have_added (flat_map f (take i ss)) (f s) have added)

-- ---- a search for the first name that passes a test

-- a name that fails the test
pub search_goes_on : {A : Type 0} (read : A → List ℕ) (test : List ℕ → Bool) (items : List A) (i : ℕ) (item : A) (all : Option (List ℕ))
    → i < length items → item ≡ get_or items i item → test (read item) ≡ false → find test (map read (drop i items)) ≡ all
    → find test (map read (drop (i + 1) items)) ≡ all
search_goes_on read test items i item all within is fails so_far =
    sym
    (ap (λ l. find test (map read l)) (drop_is items i item within is)
    ∙ ap (λ b. cond b (Some (read item)) (find test (map read (drop (i + 1) items)))) fails)
    ∙ so_far

-- a name that passes the test
pub search_ends : {A : Type 0} (read : A → List ℕ) (test : List ℕ → Bool) (items : List A) (i : ℕ) (item : A) (all : Option (List ℕ))
    → i < length items → item ≡ get_or items i item → test (read item) ≡ true → find test (map read (drop i items)) ≡ all
    → Some (read item) ≡ all
search_ends read test items i item all within is passes so_far =
    sym
    (ap (λ l. find test (map read l)) (drop_is items i item within is)
    ∙ ap (λ b. cond b (Some (read item)) (find test (map read (drop (i + 1) items)))) passes)
    ∙ so_far

-- ---- lost names

dangling_same : (units : List UnitReading) (sets : NameSets) (name : List ℕ) → HaveNames units sets
    → is_dangling sets name ≡ dangles units name
dangling_same units sets name have = ap₂ (λ u d. u && not d) (have.used name) (have.defined name)

lost_same : (vs originals : Versions) (names : MergeNames) (name : List ℕ) → AreSideNames vs originals names
    → is_lost_by names name ≡ is_lost vs originals name
lost_same vs originals names name are =
    ap₂ (λ p o. p && (not o && not (is_dangling names.theirs name)))
    (dangling_same (units_at vs (slots vs)) names.picked name are.picked) (dangling_same originals.ours.units names.ours name are.ours)
    ∙ ap (λ t. dangles (units_at vs (slots vs)) name && (not (dangles originals.ours.units name) && not t))
    (dangling_same originals.theirs.units names.theirs name are.theirs)

find_same : (test other : List ℕ → Bool) (names : List (List ℕ)) → ((name : List ℕ) → test name ≡ other name)
    → find test names ≡ find other names
find_same test other [] same = refl
find_same test other (n ∷ ns) same = ap₂ (λ b r. cond b (Some n) r) (same n) (find_same test other ns same)

-- the first lost name, by the sets and by the definition
pub first_same : (vs originals : Versions) (names : MergeNames) (defined : List (List ℕ)) → AreSideNames vs originals names
    → find (is_lost_by names) defined ≡ find (is_lost vs originals) defined
first_same vs originals names defined are =
    find_same (is_lost_by names) (is_lost vs originals) defined (λ name. lost_same vs originals names name are)

-- the lost name at a place, by the sets and by the definition
lost_name_same : (vs originals : Versions) (names : MergeNames) (s : Slot) → AreSideNames vs originals names
    → lost_by names vs s ≡ lost_at vs originals s
lost_name_same vs originals names s are = first_same vs originals names (flat_map defined_names (unpicked_units vs s s.choice)) are

-- these places, with conflicts for lost names
pub kept_same : (vs originals : Versions) (names : MergeNames) (ss : List Slot) → AreSideNames vs originals names
    → map (kept_by names vs) ss ≡ map (kept_slot vs originals) ss
kept_same vs originals names [] are = refl
kept_same vs originals names (s ∷ ss) are =
    ap₂ (λ lost rest. (record s { choice = kept_choice s.choice lost }) ∷ rest) (lost_name_same vs originals names s are)
    (kept_same vs originals names ss are)

pub lost_same_names : (vs originals : Versions) (names : MergeNames) (ss : List Slot) → AreSideNames vs originals names
    → map (lost_by names vs) ss ≡ map (lost_at vs originals) ss
lost_same_names vs originals names [] are = refl
lost_same_names vs originals names (s ∷ ss) are =
    ap₂ (λ lost rest. lost ∷ rest) (lost_name_same vs originals names s are) (lost_same_names vs originals names ss are)
