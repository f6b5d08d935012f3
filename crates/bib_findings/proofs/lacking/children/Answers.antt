use Rattle.std.proofs.Common.{◌≡◌, ◌<◌, length, sym, ap, ◌∙◌, subst, arith}
use Rattle.std.specs.List.{All}
use Rattle.std.proofs.lemmas.List.{length-map, take_all, with_items_is}
use Rattle.bib_collections.specs.Rows.{rows}
use Rattle.bib_collections.proofs.Rows.{length-rows}
use Rattle.bib_inheritance.specs.EntryTexts.{fields_of}
use Rattle.bib_inheritance.specs.References.{references}
use Rattle.bib_inheritance.specs.Resolving.{graph_by}
use Rattle.bib_findings.proofs.LackingFacts.{children_next, parents_below}
use Rattle.bib_findings.proofs.ReachFacts.{HasReferrers, IsAdded}
use Rattle.bib_findings.proofs.lacking.children.Goals as goal
use Rattle.bib_findings.proofs.lacking.children.Goals.{After-deref}

found : (c : After-deref) → c.deref.result.now ≡ references c.args.names.now (fields_of c.index-own-index.result.fields)
found c =
    c.deref.ensures.value ∙ c.in_ok-parents.ensures
    ∙ ap (λ e. references c.args.names.now (fields_of e.fields)) (sym c.index-own-index.is)

pub add_child-requires : goal.add_child-requires
add_child-requires c =
    let own = c.args.own.now in
    let lists = c.deref_mut.result.now in
    let count : length own ≡ length lists =
    sym c.entries.invariant.length ∙ length-rows c.entries.lists.items ∙ ap length (sym c.deref_mut.ensures.value) in
    let parents = parents_below c.args.names.now own c.entries.index c.index-own-index.result c.requires c.entries-test.true
    c.index-own-index.is in
    subst (λ l. All (λ parent. parent < length lists) l) (sym (found c))
    (subst (λ n. All (λ parent. parent < n) (references c.args.names.now (fields_of c.index-own-index.result.fields))) count parents)

pub entries-preserved : goal.entries-preserved
entries-preserved c =
    let old = c.entries.lists.items in
    let new = c.add_child.new.lists in
    let count : length new ≡ length old = c.in_ok-add_child.ensures.length ∙ ap length c.deref_mut.ensures.value in
    rw (with_items_is c.entries.lists new (omega (arith, count, c.entries.lists.ok.0)))
    (record {
      length = length-rows new ∙ count ∙ sym (length-rows old) ∙ c.entries.invariant.length;
      reversed =
          children_next c.args.names.now c.args.own.now c.entries.index c.index-own-index.result c.deref.result.now (rows old) (rows new)
          c.entries-test.true c.index-own-index.is (found ((goal.at.entries-preserved c).After-deref)) c.entries.invariant.reversed
          (subst (λ l. IsAdded (rows l) (rows new) c.deref.result.now c.entries.index) c.deref_mut.ensures.value
          c.in_ok-add_child.ensures.added);
    })

pub returns : goal.returns
returns c =
    let own = c.args.own.now in
    record {
      same_length = c.entries.invariant.length ∙ sym (length-map own (λ e. references c.args.names.now (fields_of e.fields)));
      each = subst (λ l. HasReferrers (graph_by c.args.names.now l) (rows c.entries.lists.items))
          (take_all c.entries.index own c.entries-test.false) c.entries.invariant.reversed;
    }
