use Rattle.std.proofs.Common.{◌≡◌, ◌∙◌, ap, cond, sym, true}
use Rattle.std.specs.Prelude.{bytes_eq}
use Rattle.std.specs.BTreeSet.{contains_text}
use Rattle.std.specs.String.{string_bytes}
use Rattle.std.proofs.lemmas.Map.Text.{btree_set_updates_text}
use Rattle.edit_versions.specs.Alike.{is_same}
use Rattle.edit_versions.specs.Versions.{named_index, own_part, version_unit}
use Rattle.edit_merge.specs.Picked.{is_same_named}
use Rattle.edit_merge.proofs.GroupFacts.{changed_next, same_next}
use Rattle.edit_merge.proofs.groups.insert_changed.Goals as goal
use Rattle.edit_merge.proofs.groups.insert_changed.Goals.{then-not-is_same+in_ok-from_str+in_ok-insert, else-not-is_same}

pub names-preserved : goal.names-preserved
names-preserved c = λ own.
    let v = c.args.first.now in
    let w = c.args.second.now in
    let names = c.args.names.now in
    let index = c.names.name-index in
    let name = c.name-item.result in
    let same : c.is_same.result ≡ is_same_named v w name =
    c.is_same.ensures
    ∙ ap (λ i. is_same v (version_unit v i) w (version_unit w c.index_of-in-names.result))
    (c.index_of.ensures ∙ ap (named_index v) c.as_str-name.ensures)
    ∙ ap (λ i. is_same v (version_unit v (named_index v name)) w (version_unit w i))
    (c.index_of-in-names.ensures ∙ ap (named_index w) c.as_str-name.ensures) in
    elim c.if-not-is_same.branch [
      | then-not-is_same+in_ok-from_str+in_ok-insert r ↦
          let bytes : string_bytes r.in_ok-from_str.field-0 ≡ own_part name =
          r.in_ok-from_str.ensures.ok ∙ r.own_part.ensures ∙ ap own_part c.as_str-name.ensures in
          ap (λ s. contains_text s own) r.set-is
          ∙ changed_next v w names index name own (contains_text c.names.set own) (contains_text r.insert.new.self own)
          (contains_text c.args.set.now own) c.names-test.true c.name-item.is (sym same ∙ r.if-not-is_same.true) (c.names.invariant own)
          (btree_set_updates_text (string_bytes r.in_ok-from_str.field-0) c.names.set r.insert.new.self true
          r.in_ok-insert.ensures.updates own
          ∙ ap (λ b. cond (bytes_eq b own) true (contains_text c.names.set own)) bytes)
      | else-not-is_same r ↦
          ap (λ s. contains_text s own) r.set-is
          ∙ same_next v w names index name own (contains_text c.names.set own)
          (contains_text c.args.set.now own) c.names-test.true c.name-item.is
          (sym same ∙ r.if-not-is_same.false) (c.names.invariant own)
    ]
