use Rattle.std.proofs.Common.{◌≡◌, ◌<◌, ◌++◌, ◌∷◌, ℕ, [], Some, Vec, false, length, set, sym, ap, ◌∙◌, arith}
use Rattle.std.specs.Prelude.{◌==◌, ◌&&◌, ◌||◌}
use Rattle.std.specs.FinMap.{get}
use Rattle.std.specs.List.{list_any}
use Rattle.std.specs.Option.{option_map_or}
use Rattle.std.specs.Str.{str_to_ascii_lowercase}
use Rattle.std.specs.declared.alloc.Global.{Global}
use Rattle.std.proofs.lemmas.List.{map-set}
use Rattle.std.proofs.Math.Bool.{or-false}
use Rattle.bib_collections.specs.Graph.{refs_of}
use Rattle.bib_collections.specs.Rows.{rows}
use Rattle.bib_collections.proofs.Rows.{length-rows, row_at}
use Rattle.edit_sort.proofs.RowFacts.{child_added}
use Rattle.edit_sort.proofs.crossrefs.add_child.Goals as goal

pub index_mut-requires : goal.index_mut-requires
index_mut-requires c =
    let found = sym c.in_ok-index.ensures ∙ c.in-Some.is in
    omega (arith, c.requires.below (str_to_ascii_lowercase c.args.key.now) c.in-Some.index found, c.args.children.now.ok.0)

pub returns-in_ok-push-in-Some-clause-rows : goal.returns-in_ok-push-in-Some-clause-rows
returns-in_ok-push-in-Some-clause-rows c = λ test at.
    let old = c.args.children.now.items in
    let index = c.in-Some.index in
    let child = c.args.child in
    let found : get c.args.names.now (str_to_ascii_lowercase c.args.key.now) ≡ Some index = sym c.in_ok-index.ensures ∙ c.in-Some.is in
    let within : index < length old = c.requires.below (str_to_ascii_lowercase c.args.key.now) index found in
    let row : refs_of (rows old) index ≡ c.index_mut.result.now.items =
    row_at old index c.index_mut.result.now within c.index_mut.ensures.value in
    let new : rows (set old index c.push.new.self) ≡ set (rows old) index (refs_of (rows old) index ++ child ∷ []) =
    map-set (λ (v : Vec ℕ Global). v.items) old index c.push.new.self
    ∙ ap (set (rows old) index) (c.in_ok-push-in-Some.ensures.items ∙ ap (λ l. l ++ child ∷ []) (sym row)) in
    ap (λ g. list_any test (refs_of g at)) new ∙ child_added (rows old) index child (omega (arith, within, length-rows old)) test at
    ∙ ap (λ o. list_any test (refs_of (rows old) at) || (option_map_or (λ k. k == at) o false && test child)) (sym found)

pub returns-in-None-clause-rows : goal.returns-in-None-clause-rows
returns-in-None-clause-rows c = λ test at.
    let old = list_any test (refs_of (rows c.args.children.now.items) at) in
    sym (or-false old)
    ∙ ap (λ o. old || (option_map_or (λ k. k == at) o false && test c.args.child)) (sym c.in-None.is ∙ c.in_ok-index.ensures)
