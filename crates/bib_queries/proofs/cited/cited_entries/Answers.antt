use Rattle.std.proofs.Common.{◌≡◌, ◌∙◌, List, true, length, map, replicate, ap, sym, rules}
use Rattle.std.proofs.lemmas.List.{length-map}
use Rattle.bib_syntax.specs.Views.{entry_reading_of}
use Rattle.bib_queries.specs.Names.{entry_node}
use Rattle.bib_queries.specs.Needed.{Node}
use Rattle.bib_queries.specs.Texts.{node_of, text_list}
use Rattle.bib_queries.proofs.CitedFacts.{all_marks, needed_marks, same_marks}
use Rattle.bib_queries.proofs.cited.cited_entries.Goals as goal

pub returns-then-cited : goal.returns-then-cited
returns-then-cited c =
    let made : c.in_ok-marks.marks.items ≡ replicate (length c.args.entries.now) true = search rules in
    all_marks (text_list c.args.cited.now.keys) c.args.cited.now.all
    (map entry_node (map entry_reading_of c.args.entries.now)) (length c.args.entries.now) c.in_ok-marks.marks.items
    c.if-cited.true made

pub returns : goal.returns
returns c =
    let entries = c.args.entries.now in
    let nodes : List Node = map entry_node (map entry_reading_of entries) in
    let things : map node_of c.deref-2.result.now ≡ nodes = ap (map node_of) c.deref-2.ensures.value ∙ c.in_ok-links.ensures in
    let long : length c.deref-2.result.now ≡ length entries =
    sym (length-map c.deref-2.result.now node_of) ∙ ap length things
    ∙ length-map (map entry_reading_of entries) entry_node ∙ length-map entries entry_reading_of in
    needed_marks (text_list c.args.cited.now.keys) c.args.cited.now.all nodes (length entries) c.in_ok-marks-2.marks.items c.if-cited.false
    (same_marks (map (λ n. n.now) c.deref.result.now) (text_list c.args.cited.now.keys)
    (map node_of c.deref-2.result.now) nodes (length c.deref-2.result.now) (length entries)
    c.in_ok-marks-2.marks.items
    (ap (map (λ n. n.now)) c.deref.ensures.value) things long c.in_ok-marks-2.ensures)
