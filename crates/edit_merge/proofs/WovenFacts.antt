-- Two versions in one order have the names of both.
use Rattle.std.proofs.Common.{◌≡◌, inl, inr, ℕ, zero, suc, ◌+◌, ◌<◌, ◌^◌, arith, Bool, true, false, List, [], ◌∷◌, ◌++◌, Option, Some, None, drop, get_or, length, refl, sym, ap, ◌∙◌, subst}
use Rattle.std.specs.Prelude.{is_some, slice_get}
use Rattle.std.specs.List.{Contains, before_first}
use Rattle.std.proofs.lemmas.List.{drop-drop}
use Rattle.edit_versions.proofs.IndexFacts.{AmongOrNone, IsAmong, among_or_none, names_lead_to_units}
use Rattle.edit_versions.specs.Versions.{VersionReading, has_unit_named, named_index, version_names}
use Rattle.edit_merge.specs.Picked.{Versions, before_shared, last_shared, merged_names, order_by, order_choice, run_behind, woven}
use Rattle.edit_merge.specs.declared.picking.Choice.{Choice}
use Rattle.edit_merge.specs.declared.picking.Choice.TheVariants.{Ours, Theirs, Conflict}
use Rattle.edit_merge.proofs.OrderFacts.{run_more}

-- ---- lists of names

among_left : (name : List ℕ) (xs ys : List (List ℕ)) → IsAmong name xs → IsAmong name (xs ++ ys)
among_left name [] ys here = absurd here
among_left name (x ∷ xs) ys (inl same) = inl same
among_left name (x ∷ xs) ys (inr here) = inr (among_left name xs ys here)

among_right : (name : List ℕ) (xs ys : List (List ℕ)) → IsAmong name ys → IsAmong name (xs ++ ys)
among_right name [] ys here = here
among_right name (x ∷ xs) ys here = inr (among_right name xs ys here)

-- a name at an index of a list is one of its names
among_index : (names : List (List ℕ)) (k : ℕ) (name : List ℕ) → k < length names → get_or names k name ≡ name → IsAmong name names
among_index [] k name below is = absurd (omega (arith, below))
among_index (n ∷ ns) zero name below is = inl (sym is)
among_index (n ∷ ns) (suc k) name below is = inr (among_index ns k name (omega (arith, below)) is)

pub among_contained : (names : List (List ℕ)) (name : List ℕ) → Contains names name → IsAmong name names
among_contained names name has = among_index names has.0 name has.1 has.2

pub contained : (names : List (List ℕ)) (name : List ℕ) → IsAmong name names → Contains names name
contained [] name here = absurd here
contained (n ∷ ns) name (inl same) = (0, omega arith, sym same)
contained (n ∷ ns) name (inr here) =
    let rest = contained ns name here in (suc rest.0, let below : rest.0 < length ns = rest.1 in omega (arith, below), rest.2)

pub get_dropped : (names : List (List ℕ)) (k : ℕ) (m : List ℕ) (ms : List (List ℕ)) → drop k names ≡ m ∷ ms → slice_get names k ≡ Some m
get_dropped [] zero m ms is = absurd (cc)
get_dropped [] (suc k) m ms is = absurd (cc)
get_dropped (n ∷ ns) zero m ms is = let same : n ≡ m = cc in ap Some same
get_dropped (n ∷ ns) (suc k) m ms is = get_dropped ns k m ms is

-- ---- one order

-- the names before a name in one order, and those from it on
abbrev from_name : VersionReading → VersionReading → Option ℕ → List ℕ → List (List ℕ) → List (List ℕ)
from_name main other last n ns = n ∷ woven main other (last_shared last (named_index other n)) ns

-- the names of the main version
main_among : (main other : VersionReading) (last : Option ℕ) (names : List (List ℕ)) (name : List ℕ) → IsAmong name names
    → IsAmong name (woven main other last names)
main_among main other last [] name here = absurd here
main_among main other last (n ∷ ns) name (inl same) =
    among_right name (before_shared main other last (named_index other n)) (from_name main other last n ns) (inl same)
main_among main other last (n ∷ ns) name (inr here) =
    among_right name (before_shared main other last (named_index other n)) (from_name main other last n ns)
    (inr (main_among main other (last_shared last (named_index other n)) ns name here))

-- the run of names after the last name that both have
run_among : (main other : VersionReading) (last : Option ℕ) (names : List (List ℕ)) (name : List ℕ)
    → IsAmong name (run_behind main other last) → IsAmong name (woven main other last names)
run_among main other last [] name here = here
run_among main other last (n ∷ ns) name here = by (named_index other n) (λ start. run_among main other start ns name)
  where
    by : (index : Option ℕ)
        → ((start : Option ℕ) → IsAmong name (run_behind main other start) → IsAmong name (woven main other start ns))
        → IsAmong name (before_shared main other last index ++ (n ∷ woven main other (last_shared last index) ns))
    by None rest = inr (rest last here)
    by (Some i) rest = among_left name (run_behind main other last) (n ∷ woven main other (Some i) ns) here

-- the run of names after a name that both have
later_among : (main other : VersionReading) (last : Option ℕ) (names : List (List ℕ)) (shared : List ℕ) (index : ℕ) (name : List ℕ)
    → named_index other shared ≡ Some index → IsAmong shared names → IsAmong name (run_behind main other (Some index))
    → IsAmong name (woven main other last names)
later_among main other last [] shared index name leads there here = absurd there
later_among main other last (n ∷ ns) shared index name leads (inl same) here =
    let found : named_index other n ≡ Some index = ap (named_index other) (sym same) ∙ leads in
    among_right name (before_shared main other last (named_index other n)) (from_name main other last n ns)
    (inr
    (subst (λ i. IsAmong name (woven main other (last_shared last i) ns)) (sym found) (run_among main other (Some index) ns name here)))
later_among main other last (n ∷ ns) shared index name leads (inr there) here =
    among_right name (before_shared main other last (named_index other n)) (from_name main other last n ns)
    (inr (later_among main other (last_shared last (named_index other n)) ns shared index name leads there here))

-- a version has a unit with a name if this is one of its names
among_named : (v : VersionReading) (name : List ℕ) → has_unit_named v name ≡ true → IsAmong name (version_names v)
among_named v name has = by (among_or_none v name)
  where
    by : AmongOrNone v name → IsAmong name (version_names v)
    by (AmongOrNone.among here) = here
    by (AmongOrNone.none absent) = absurd (let clash : true ≡ false = sym has ∙ ap is_some absent in cc)

-- what is known at an index of the other version: the run after the last name that both have goes on there, and is in one order
record IsReached (main other : VersionReading) (left : List (List ℕ)) (last : Option ℕ) : Type 0 where
  goes_on : (name : List ℕ) → IsAmong name (before_first (has_unit_named main) left) → IsAmong name (run_behind main other last)
  placed : (name : List ℕ) → IsAmong name (run_behind main other last) → IsAmong name (woven main other None (version_names main))

-- the names of the other version from an index on that the main version doesn't have
other_among : (main other : VersionReading) (left : List (List ℕ)) (at : ℕ) (last : Option ℕ) (name : List ℕ)
    → length other.units < 2 ^ 64 → drop at (version_names other) ≡ left → IsReached main other left last
    → has_unit_named main name ≡ false → IsAmong name left → IsAmong name (woven main other None (version_names main))
other_among main other [] at last name fits is reached absent here = absurd here
other_among main other (m ∷ ms) at last name fits is reached absent here =
    by (has_unit_named main m) refl here (λ start. other_among main other ms (at + 1) start name fits next)
  where
    next : drop (at + 1) (version_names other) ≡ ms
    next = sym (drop-drop 1 at (version_names other)) ∙ ap (drop 1) is

    by : (shared : Bool) → has_unit_named main m ≡ shared → IsAmong name (m ∷ ms)
        → ((start : Option ℕ) → IsReached main other ms start → has_unit_named main name ≡ false → IsAmong name ms
        → IsAmong name (woven main other None (version_names main)))
        → IsAmong name (woven main other None (version_names main))
    by true has (inl same) rest = absurd (let clash : true ≡ false = sym has ∙ ap (has_unit_named main) (sym same) ∙ absent in cc)
    by true has (inr there) rest =
        let run : run_behind main other (Some at) ≡ before_first (has_unit_named main) ms =
        ap (λ l. before_first (has_unit_named main) (drop 1 l)) is in
        rest (Some at)
        (record {
          goes_on = λ n within. subst (IsAmong n) (sym run) within;
          placed = λ n within.
              later_among main other None (version_names main) m at n
              (names_lead_to_units other fits at m (get_dropped (version_names other) at m ms is)) (among_named main m has) within;
        })
        absent there
    by false none (inl same) rest =
        reached.placed name
        (reached.goes_on name (subst (IsAmong name) (sym (run_more (has_unit_named main) m ms none)) (inl same)))
    by false none (inr there) rest =
        rest last
        (record {
          goes_on = λ n within. reached.goes_on n (subst (IsAmong n) (sym (run_more (has_unit_named main) m ms none)) (inr within));
          placed = reached.placed;
        })
        absent there

-- one order has all names of the other version
all_other_among : (main other : VersionReading) (name : List ℕ) → length other.units < 2 ^ 64 → IsAmong name (version_names other)
    → IsAmong name (woven main other None (version_names main))
all_other_among main other name fits here = by (has_unit_named main name) refl
  where
    by : (shared : Bool) → has_unit_named main name ≡ shared → IsAmong name (woven main other None (version_names main))
    by true has = main_among main other None (version_names main) name (among_named main name has)
    by false none =
        other_among main other (version_names other) 0 None name fits refl
        (record { goes_on = λ n within. within; placed = λ n within. run_among main other None (version_names main) n within }) none here

-- ---- the names of a merge

pub our_units_have_places : (vs : Versions) → length vs.ours.units < 2 ^ 64 → length vs.theirs.units < 2 ^ 64 → (name : List ℕ)
    → Contains (version_names vs.ours) name → Contains (merged_names vs) name
our_units_have_places vs fits fits' name has =
    contained (merged_names vs) name (by (order_choice vs) (among_contained (version_names vs.ours) name has))
  where
    by : (choice : Choice) → IsAmong name (version_names vs.ours) → IsAmong name (order_by vs choice)
    by Ours here = main_among vs.ours vs.theirs None (version_names vs.ours) name here
    by Theirs here = all_other_among vs.theirs vs.ours name fits here
    by Conflict here = main_among vs.ours vs.theirs None (version_names vs.ours) name here

pub their_units_have_places : (vs : Versions) → length vs.ours.units < 2 ^ 64 → length vs.theirs.units < 2 ^ 64 → (name : List ℕ)
    → Contains (version_names vs.theirs) name → Contains (merged_names vs) name
their_units_have_places vs fits fits' name has =
    contained (merged_names vs) name (by (order_choice vs) (among_contained (version_names vs.theirs) name has))
  where
    by : (choice : Choice) → IsAmong name (version_names vs.theirs) → IsAmong name (order_by vs choice)
    by Ours here = all_other_among vs.ours vs.theirs name fits' here
    by Theirs here = main_among vs.theirs vs.ours None (version_names vs.theirs) name here
    by Conflict here = all_other_among vs.ours vs.theirs name fits' here
