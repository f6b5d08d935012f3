use Rattle.std.proofs.Common.{◌≡◌, ◌∙◌, List, true, length, map, replicate, ap, sym, rules}
use Rattle.std.proofs.lemmas.List.{length-map}
use Rattle.bib_syntax.specs.Views.{entry_reading_of, field_of}
use Rattle.bib_queries.specs.Cited.{used_in_entries}
use Rattle.bib_queries.specs.Names.{definition_node}
use Rattle.bib_queries.specs.Needed.{Node, with_marks}
use Rattle.bib_queries.specs.Texts.{node_of}
use Rattle.bib_queries.proofs.CitedFacts.{all_marks, needed_marks, same_marks}
use Rattle.bib_queries.proofs.cited.used_definitions.Goals as goal

pub returns-then-all : goal.returns-then-all
returns-then-all c =
    let pairs = c.args.raw.now.abbreviations.items in
    let made : c.in_ok-marks.marks.items ≡ replicate (length pairs) true = search rules in
    all_marks (used_in_entries (with_marks c.args.marks.now (map entry_reading_of c.args.raw.now.entries.items))) c.args.all
    (map definition_node (map field_of pairs)) (length (map field_of pairs)) c.in_ok-marks.marks.items c.if-all.true
    (made ∙ ap (λ n. replicate n true) (sym (length-map pairs field_of)))

pub returns : goal.returns
returns c =
    let pairs = c.args.raw.now.abbreviations.items in
    let entries = c.args.raw.now.entries.items in
    let nodes : List Node = map definition_node (map field_of pairs) in
    let asked : map (λ n. n.now) c.deref-3.result.now ≡ used_in_entries (with_marks c.args.marks.now (map entry_reading_of entries)) =
    ap (map (λ n. n.now)) c.deref-3.ensures.value ∙ c.in_ok-names.ensures
    ∙ ap (λ l. used_in_entries (with_marks c.args.marks.now (map entry_reading_of l))) c.deref.ensures.value in
    let things : map node_of c.deref-4.result.now ≡ nodes =
    ap (map node_of) c.deref-4.ensures.value ∙ c.in_ok-links.ensures
    ∙ ap (λ l. map definition_node (map field_of l)) c.deref-2.ensures.value in
    let long : length c.deref-4.result.now ≡ length (map field_of pairs) =
    sym (length-map c.deref-4.result.now node_of) ∙ ap length things
    ∙ length-map (map field_of pairs) definition_node in
    needed_marks (used_in_entries (with_marks c.args.marks.now (map entry_reading_of entries))) c.args.all nodes
    (length (map field_of pairs)) c.in_ok-marks-2.marks.items c.if-all.false
    (same_marks (map (λ n. n.now) c.deref-3.result.now)
    (used_in_entries (with_marks c.args.marks.now (map entry_reading_of entries))) (map node_of c.deref-4.result.now)
    nodes (length c.deref-4.result.now) (length (map field_of pairs)) c.in_ok-marks-2.marks.items
    asked things long c.in_ok-marks-2.ensures)
