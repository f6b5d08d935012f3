use Rattle.std.proofs.Common.{◌≡◌, ◌<◌, IfOk, get_or, length, map, sym, ap, ◌∙◌, subst}
use Rattle.std.specs.List.{All}
use Rattle.std.proofs.lemmas.List.{length-map}
use Rattle.std.proofs.lemmas.List.Elements.{All-from_recursion}
use Rattle.std.proofs.lemmas.List.FromFn.{length-map-range_with_len}
use Rattle.bib_collections.specs.Names.{AreIndicesBelow}
use Rattle.bib_collections.proofs.Rows.{length-rows}
use Rattle.bib_collections.specs.Rows.{rows}
use Rattle.bib_syntax.specs.Views.{entry_reading_of}
use Rattle.edit_sort.specs.Ranks.{longest, owner}
use Rattle.edit_sort.proofs.RankFacts.{children_in_range, indices_below, known_all, owners_below, ranks_are}
use Rattle.edit_sort.proofs.ranks.ranks_of.Goals as goal

pub children_of-requires-clause-below : goal.children_of-requires-clause-below
children_of-requires-clause-below c =
    let all = map entry_reading_of c.args.entries.now in
    subst (λ n. AreIndicesBelow n c.args.names.now) (length-map c.args.entries.now entry_reading_of)
    (indices_below all c.args.names.now c.requires.names.of_key)

pub chain_lengths-requires : goal.chain_lengths-requires
chain_lengths-requires c =
    let all = map entry_reading_of c.args.entries.now in
    children_in_range all c.args.names.now c.requires.names (rows c.in_ok-children.children.items) c.in_ok-children.ensures.rows
    (length-rows c.in_ok-children.children.items ∙ c.in_ok-children.ensures.length
    ∙ sym (length-map c.args.entries.now entry_reading_of))

pub lengths_at-requires : goal.lengths_at-requires
lengths_at-requires c =
    let all = map entry_reading_of c.args.entries.now in
    let names = c.args.names.now in
    let graph = rows c.in_ok-children.children.items in
    let long : length graph ≡ length all =
    length-rows c.in_ok-children.children.items ∙ c.in_ok-children.ensures.length ∙ sym (length-map c.args.entries.now entry_reading_of) in
    let size : length all ≡ length c.deref.result.now =
    sym
    (ap length (c.deref.ensures.value ∙ c.in_ok-lengths.ensures)
    ∙ length-map-range_with_len (longest graph (length graph)) 0 (length graph) ∙ long) in
    subst (All (λ r. r < length c.deref.result.now)) (sym c.requires.owners)
    (All-from_recursion (λ r. r < length c.deref.result.now) (map (owner names) all)
    (owners_below all names c.requires.names (length c.deref.result.now) all size (known_all all names c.requires.names)))

pub returns : goal.returns
returns c =
    let all = map entry_reading_of c.args.entries.now in
    let names = c.args.names.now in
    let graph = rows c.in_ok-children.children.items in
    let long : length graph ≡ length all =
    length-rows c.in_ok-children.children.items ∙ c.in_ok-children.ensures.length ∙ sym (length-map c.args.entries.now entry_reading_of) in
    subst (λ l. IfOk c.lengths_at.result (λ found. found.items ≡ l))
    (ap (λ l. map (λ r. get_or l r 0) c.args.owners.now) c.deref.ensures.value
    ∙ ap (map (λ r. get_or c.in_ok-lengths.lengths.items r 0)) c.requires.owners
    ∙ ranks_are all names c.requires.names graph c.in_ok-children.ensures.rows c.in_ok-lengths.lengths.items all long
    c.in_ok-lengths.ensures (known_all all names c.requires.names)) c.lengths_at.ensures
