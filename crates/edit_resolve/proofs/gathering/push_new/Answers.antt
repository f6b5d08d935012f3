use Rattle.std.proofs.Common.{◌∙◌, ◌∷◌, [], ap, map, sym, true}
use Rattle.std.specs.BTreeSet.{contains_text}
use Rattle.std.specs.String.{string_bytes}
use Rattle.std.proofs.lemmas.List.{map-append}
use Rattle.std.proofs.lemmas.Map.Text.{btree_set_updates_text}
use Rattle.edit_resolve.specs.Working.{is_ruled_out_in, named_of}
use Rattle.edit_resolve.proofs.GatheringFacts.{pushed}
use Rattle.edit_resolve.proofs.gathering.push_new.Goals as goal

pub returns : goal.returns
returns c = λ taken fields is.
    let low = string_bytes c.in_ok-name.name in
    pushed taken fields (named_of c.args.offered) c.args.gathered.now _ low c.in_ok-name.ensures
    (ap (is_ruled_out_in (contains_text c.args.gathered.now.names)) (sym c.deref.ensures)
    ∙ sym c.is_ruled_out.ensures ∙ c.if-is_ruled_out.false)
    (λ q. btree_set_updates_text low c.args.gathered.now.names c.insert.new.self true c.in_ok-insert.ensures.updates q)
    (ap (map named_of) c.in_ok-push.ensures.items ∙ map-append named_of c.args.gathered.now.fields.items (c.args.offered ∷ []))
    is
