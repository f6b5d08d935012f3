use Rattle.std.proofs.Common.{◌≡◌, ◌<◌, ◌+◌, ◌++◌, ◌∷◌, [], ℕ, length, get_or, set, take, sym, ap, ◌∙◌, subst, arith, length-set}
use Rattle.std.specs.declared.alloc.Global.{Global}
use Rattle.std.specs.declared.vec.Vec.{Vec}
use Rattle.std.proofs.lemmas.List.{get_or-map, map-set, take_all}
use Rattle.std.proofs.lemmas.List.Elements.{All-get_or}
use Rattle.bib_collections.specs.Graph.{refs_of}
use Rattle.bib_collections.specs.Rows.{rows}
use Rattle.bib_collections.proofs.Rows.{length-rows}
use Rattle.bib_findings.proofs.ReachFacts.{IsAdded, added_next}
use Rattle.bib_findings.proofs.lacking.add_child.Goals as goal

pub parents-preserved : goal.parents-preserved
parents-preserved c =
    let lists = c.parents.lists in
    let parents = c.args.parents.now in
    let k : ℕ = c.parents.parent-index in
    let at : ℕ = get_or parents k 0 in
    let items : Vec ℕ Global → _ = λ v. v.items in
    let within : at < length lists =
    omega (
      arith,
      All-get_or (λ parent. parent < length c.args.lists.now) parents k 0 c.parents-test.true c.requires,
      c.parents.invariant.length,
    ) in
    let old : refs_of (rows lists) at ≡ (get_or lists at c.index-lists-parent.result).items =
    get_or-map items lists at c.index-lists-parent.result [] within in
    let new : set (rows lists) at (refs_of (rows lists) at ++ c.args.child ∷ []) ≡ rows (set lists at c.push.new.self) =
    ap (λ l. set (rows lists) at (l ++ c.args.child ∷ [])) old ∙ ap (set (rows lists) at) (sym c.in_ok-push.ensures.items)
    ∙ sym (map-set items lists at c.push.new.self) in
    record {
      length = length-set lists at c.push.new.self ∙ c.parents.invariant.length;
      added = subst (λ l. IsAdded (rows c.args.lists.now) l (take (k + 1) parents) c.args.child) new
          (added_next (rows c.args.lists.now) (rows lists) parents k c.args.child c.parents-test.true
          (omega (arith, within, length-rows lists)) c.parents.invariant.added);
    }

pub returns-clause-added : goal.returns-clause-added
returns-clause-added c =
    subst (λ l. IsAdded (rows c.args.lists.now) (rows c.parents.lists) l c.args.child)
    (take_all c.parents.parent-index c.args.parents.now c.parents-test.false) c.parents.invariant.added
