use Rattle.std.proofs.Common.{◌≡◌, ◌<◌, ◌∙◌, false, ℕ, List, Bool, length, ap, arith, refl, sym}
use Rattle.std.proofs.lemmas.Bool.{false≢true}
use Rattle.std.proofs.lemmas.List.{get_or_default, map-set}
use Rattle.std.proofs.lemmas.Option.{slice_get_read}
use Rattle.std.specs.declared.alloc.Global.{Global}
use Rattle.std.specs.declared.vec.Vec.{Vec}
use Rattle.bib_entry.specs.declared.entry.Entry.{Entry}
use Rattle.bib_syntax.specs.declared.raw.ParseError.{ParseError}
use Rattle.bib_collections.specs.Graph.{Graph}
use Rattle.bib_collections.specs.Rows.{rows}
use Rattle.bib_collections.proofs.Rows.{length-rows}
use Rattle.bib_inheritance.specs.Recovered.{without_references}
use Rattle.bib_inheritance.proofs.CutFacts.{cut_all, cut_more, cut_none, cut_on}
use Rattle.bib_inheritance.proofs.recovering.cut_cycles.Goals as goal
use Rattle.bib_inheritance.proofs.recovering.cut_cycles.Goals.{then-index+in_ok-error+in_ok-push, else-index}

pub entries-init : goal.entries-init
entries-init c = rw c.new-errors.ensures.items (cut_none c.args.spans.now c.args.entries.now (rows c.args.refs.now))

pub entries-preserved : goal.entries-preserved
entries-preserved c =
    let graph : Graph = rows c.args.refs.now in
    let index : ℕ = c.entries.index in
    let marks : List Bool = c.in_ok-marks.marks.items in
    let entries : List Entry = c.entries.entries in
    let refs : Graph = rows c.entries.refs in
    let errors : List ParseError = c.entries.errors.items in
    let long : length graph ≡ length c.args.entries.now = length-rows c.args.refs.now ∙ c.requires.rows in
    let within : index < length graph =
    omega (
      arith,
      c.entries-test.true,
      c.len-index-end.ensures,
      c.in_ok-marks.marks.ok.0,
      c.in_ok-marks.ensures.same_length,
    ) in
    let marked =
    get_or_default marks index false c.index.result.now (omega (arith, within, c.in_ok-marks.ensures.same_length))
    ∙ sym c.index.ensures in
    let on = c.in_ok-marks.ensures.each index within in
    elim c.if-index.branch [
      | then-index+in_ok-error+in_ok-push w ↦
          let old : Entry = w.index-entries-index.result in
          let here =
          slice_get_read entries (length entries) index old refl
          (omega (arith, within, long, c.entries.invariant.as_long)) w.index-entries-index.is in
          let cut =
          cut_more c.args.spans.now c.args.entries.now graph index entries refs errors old w.cut.new.entry
          w.in_ok-error.error long (omega (arith, within, long)) (on.0 (marked ∙ w.if-index.true))
          w.in_ok-error.ensures here (w.cut.ensures ∙ ap without_references (sym w.index-entries-index.is))
          c.entries.invariant in
          rw (
            w.entries-is,
            ap rows w.refs-is,
            map-set (λ (v : Vec ℕ Global). v.items) c.entries.refs index w.new.result,
            w.new.ensures.items,
            ap (λ v. v.items) w.errors-is ∙ w.in_ok-push.ensures.items,
          ) cut
      | else-index w ↦
          rw (w.entries-is, w.refs-is, w.errors-is)
          (cut_on c.args.spans.now c.args.entries.now graph index entries refs errors
          (λ leads. false≢true (sym (marked ∙ w.if-index.false) ∙ on.1 leads)) c.entries.invariant)
    ]

pub returns-clause-cut : goal.returns-clause-cut
returns-clause-cut c =
    let at_end : c.entries.index ≡ length c.args.entries.now =
    omega (
      arith,
      c.in_ok-marks.ensures.same_length,
      length-rows c.args.refs.now,
      c.in_ok-marks.marks.ok.0,
      c.len-index-end.ensures,
    ) in
    cut_all c.args.spans.now c.args.entries.now (rows c.args.refs.now) c.entries.index c.entries.entries
    (rows c.entries.refs) c.entries.errors.items c.entries.invariant at_end
    (length-rows c.args.refs.now ∙ c.requires.rows)
