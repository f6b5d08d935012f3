use Rattle.std.proofs.Common.{◌∙◌, ap, map, sym, true}
use Rattle.std.specs.Prelude.{◌||◌, bytes_eq}
use Rattle.std.specs.BTreeSet.{contains_text}
use Rattle.std.specs.String.{string_bytes}
use Rattle.std.specs.Vec.Iter.{into_iter_items}
use Rattle.std.proofs.lemmas.Map.Text.{btree_set_updates_text}
use Rattle.bib_queries.specs.Needed.{is_listed}
use Rattle.edit_merge.proofs.NameSetFacts.{name_moved}
use Rattle.edit_merge.proofs.lost.insert_all.Goals as goal

pub names-preserved : goal.names-preserved
names-preserved c = record {
  can_next = tt;
  is_finite = tt;
  names = λ name.
      sym
      (name_moved (contains_text c.names.set name) (contains_text c.insert.new.self name) (bytes_eq (string_bytes c.in-Some.name) name)
      (is_listed (map string_bytes (into_iter_items c.next.new.self)) name)
      (btree_set_updates_text (string_bytes c.in-Some.name) c.names.set c.insert.new.self true c.in_ok-insert.ensures.updates name))
      ∙ ap (λ l. contains_text c.names.set name || is_listed (map string_bytes l) name) (sym c.in-Some.ensures.steps.0)
      ∙ c.names.invariant.names name;
}
