use Rattle.std.proofs.Common.{◌≡◌, ℕ, List, map}
use Rattle.std.specs.Prelude.{◌||◌}
use Rattle.std.specs.BTreeSet.{contains_text}
use Rattle.std.specs.String.{string_bytes}
use Rattle.std.specs.Vec.Iter.{into_iter_items}
use Rattle.bib_queries.specs.Needed.{is_listed}
use Rattle.edit_merge.proofs.lost.insert_all.Given as goal

-- the names in the set and those that are left are the names that were in it and all of them
abbrev pub invariant-names : goal.invariant-names
invariant-names l = record {
  can_next : (goal.iterator-names).can_next l.name-iterator;
  is_finite : (goal.iterator-names).is_finite l.name-iterator;
  names : (name : List ℕ) → (contains_text l.set name || is_listed (map string_bytes (into_iter_items l.name-iterator)) name)
      ≡ (contains_text l.initial.set name || is_listed (map string_bytes l.fn.names.items) name);
}
