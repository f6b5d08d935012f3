use Rattle.std.proofs.Common.{sym, ◌∙◌, arith}
use Rattle.bib_collections.specs.Rows.{rows}
use Rattle.bib_collections.proofs.Rows.{length-rows}
use Rattle.edit_sort.proofs.RowFacts.{cut_all, cut_more, cut_none}
use Rattle.edit_sort.proofs.ranks.cut.Goals as goal

pub marks-init : goal.marks-init
marks-init c = cut_none (rows c.args.graph.now.items) c.args.marks.now

pub cut_row-requires : goal.cut_row-requires
cut_row-requires c =
    omega (
      arith,
      c.marks-test.true,
      c.requires,
      c.marks.invariant.same_length,
      length-rows c.marks.graph.items,
      length-rows c.args.graph.now.items,
    )

pub marks-preserved : goal.marks-preserved
marks-preserved c =
    cut_more (rows c.args.graph.now.items) c.args.marks.now c.marks.index (rows c.marks.graph.items)
    (rows c.cut_row.new.graph.items) c.marks-test.true (c.requires ∙ sym (length-rows c.args.graph.now.items)) c.cut_row.ensures
    c.marks.invariant

pub returns : goal.returns
returns c =
    cut_all (rows c.args.graph.now.items) c.args.marks.now c.marks.index (rows c.marks.graph.items) (omega arith) c.marks.invariant
