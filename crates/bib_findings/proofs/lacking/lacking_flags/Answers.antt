use Rattle.std.proofs.Common.{◌≡◌, [], false, length, map, replicate, sym, ◌∙◌, subst, rules, arith}
use Rattle.std.specs.List.{Contains}
use Rattle.std.specs.Vec.{vec_len}
use Rattle.std.proofs.lemmas.Bool.{eqb-true}
use Rattle.std.proofs.lemmas.List.{length-map, nil_from_length}
use Rattle.bib_text.proofs.ListFacts.{contains_nothing}
use Rattle.bib_collections.specs.Graph.{IsInRange}
use Rattle.bib_collections.specs.Rows.{rows}
use Rattle.bib_collections.proofs.Rows.{length-rows}
use Rattle.bib_inheritance.specs.EntryTexts.{fields_of}
use Rattle.bib_inheritance.specs.References.{references}
use Rattle.bib_inheritance.specs.Resolving.{graph_by}
use Rattle.bib_queries.specs.Needed.{AreMarks}
use Rattle.bib_syntax.specs.Views.{entry_reading_of}
use Rattle.bib_findings.specs.Lacking.{AreLacking, is_cut_at}
use Rattle.bib_findings.specs.Reaching.{IsReversed, IsReached}
use Rattle.bib_findings.proofs.LackingFacts.{lacking_of, none_lacking}
use Rattle.bib_findings.proofs.ReachFacts.{reversed_in_range}
use Rattle.bib_findings.proofs.RecoveredFacts.{if_ok_more}
use Rattle.bib_findings.proofs.lacking.lacking_flags.Goals as goal

pub returns-then-is_empty : goal.returns-then-is_empty
returns-then-is_empty c =
    let own = c.args.own.now in
    let skipped = c.args.skipped.now in
    let graph = graph_by c.args.names.now own in
    let is_cut = is_cut_at skipped (map entry_reading_of c.args.said.now) c.args.origins.now in
    let made : c.in_ok-vec.field-0.items ≡ replicate (length own) false = search rules in
    let cut = c.in_ok-cut.cut in
    let empty : cut.items ≡ [] =
    nil_from_length cut.items (omega (arith, eqb-true (vec_len cut) 0 (sym c.is_empty.ensures ∙ c.if-is_empty.true), cut.ok.0)) in
    rw made (none_lacking graph is_cut (length own)
    (λ index is.
    contains_nothing
    (subst (λ l. Contains l index) empty ((c.in_ok-cut.ensures.cut skipped c.in_ok-starts.ensures index).1 is))))

pub mark_reached-requires-clause-in_range : goal.mark_reached-requires-clause-in_range
mark_reached-requires-clause-in_range c =
    subst (λ l. IsInRange (rows l)) (sym c.deref.ensures.value)
    (reversed_in_range (graph_by c.args.names.now c.args.own.now) (rows c.in_ok-children.children.items) c.in_ok-children.ensures)

pub returns : goal.returns
returns c =
    let own = c.args.own.now in
    let skipped = c.args.skipped.now in
    let said = map entry_reading_of c.args.said.now in
    let graph = graph_by c.args.names.now own in
    let cut = c.in_ok-cut.cut.items in
    let children = c.deref.result.now in
    let turned : IsReversed graph (rows children) =
    subst (λ l. IsReversed graph (rows l)) (sym c.deref.ensures.value) c.in_ok-children.ensures in
    let count : length own ≡ length graph = sym (length-map own (λ e. references c.args.names.now (fields_of e.fields))) in
    if_ok_more
    (λ marks. AreMarks (IsReached (rows children) cut) (length children) marks.items)
    (λ marks. AreLacking skipped c.args.names.now said c.args.origins.now own marks.items)
    c.mark_reached.result
    (λ marks are.
    lacking_of graph (rows children) (is_cut_at skipped said c.args.origins.now) cut turned
    (c.in_ok-cut.ensures.cut skipped c.in_ok-starts.ensures) (length own) marks.items count
    (subst (λ n. AreMarks (IsReached (rows children) cut) n marks.items) (sym (length-rows children)) are))
    c.mark_reached.ensures
