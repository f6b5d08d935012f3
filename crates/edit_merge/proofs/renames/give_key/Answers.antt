use Rattle.std.proofs.Common.{◌≡◌, ◌∙◌, Some, ap, sym}
use Rattle.std.specs.Prelude.{bytes_eq, option_map}
use Rattle.std.specs.Borrow.{Bor}
use Rattle.std.specs.BTreeMap.{get_by}
use Rattle.std.specs.Cmp.Lexicographic.{slice_cmp}
use Rattle.std.specs.Ordering.{nat_cmp}
use Rattle.std.proofs.lemmas.Map.Text.{btree_map_updates_str}
use Rattle.edit_merge.specs.RenameViews.{replacement_in, rename_view}
use Rattle.edit_merge.proofs.RenameFacts.{gets_key, mapped_cond, mapped_some}
use Rattle.edit_merge.proofs.renames.give_key.Goals as goal

pub returns : goal.returns
returns c = λ key.
    let old = c.args.rename.old.now in
    gets_key (rename_view c.args.rename) key (replacement_in c.args.keys.now) (replacement_in c.insert.new.self key)
    (mapped_some (get_by (λ k. slice_cmp nat_cmp old k.now) c.args.keys.now) ∙ sym c.contains_key.ensures ∙ c.if-contains_key.false)
    (ap (option_map (λ k. k.now)) (btree_map_updates_str old c.args.keys.now c.insert.new.self _ c.in_ok-insert.ensures.updates key)
    ∙ mapped_cond (bytes_eq old key) c.args.rename.new (get_by (λ k. slice_cmp nat_cmp key k.now) c.args.keys.now))
