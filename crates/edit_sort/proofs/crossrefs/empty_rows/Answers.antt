use Rattle.std.proofs.Common.{ℕ, List, [], length, ap, ◌∙◌, arith}
use Rattle.std.proofs.lemmas.List.{map_push, replicate_more, length-replicate}
use Rattle.std.specs.declared.alloc.Global.{Global}
use Rattle.std.specs.declared.vec.Vec.{Vec}
use Rattle.bib_collections.specs.Rows.{rows}
use Rattle.bib_collections.proofs.Fill.{empty_rows}
use Rattle.bib_collections.proofs.Rows.{length-rows}
use Rattle.edit_sort.proofs.crossrefs.empty_rows.Goals as goal

pub rows-init : goal.rows-init
rows-init c = ap rows c.new-found.ensures.items

pub rows-preserved : goal.rows-preserved
rows-preserved c =
    rw c.in_ok-push.ensures.items
    (map_push (λ (v : Vec ℕ Global). v.items) c.rows.found.items c.new.result
    ∙ rw (c.rows.invariant, c.new.ensures.items) (replicate_more c.rows._index []))

pub returns-clause-length : goal.returns-clause-length
returns-clause-length c =
    omega (arith, length-rows c.rows.found.items, ap length c.rows.invariant, length-replicate {A = List ℕ} c.rows._index [])

pub returns-clause-rows : goal.returns-clause-rows
returns-clause-rows c = λ index. rw c.rows.invariant (empty_rows c.rows._index index)
