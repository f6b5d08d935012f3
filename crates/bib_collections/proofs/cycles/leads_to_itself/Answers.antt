use Rattle.std.proofs.lemmas.Grind.{common_steps}
use Rattle.std.proofs.Common.{◌≡◌, false, length, replicate, sym, ap, ◌∙◌, subst, rules, arith, ⊎_elim}
use Rattle.std.proofs.lemmas.Bool.{false≢true}
use Rattle.std.proofs.lemmas.List.{with_items_is, get_or_default}
use Rattle.bib_collections.specs.Rows.{rows}
use Rattle.bib_collections.specs.Search.{IsSpread, is_marked}
use Rattle.bib_collections.proofs.Rows.{length-rows}
use Rattle.bib_collections.proofs.Search.{none_marked, marked_on_cycle}
use Rattle.bib_collections.proofs.cycles.leads_to_itself.Goals as goal

pub returns : goal.returns
returns c =
    let refs = c.args.refs.now in
    let start = c.args.start in
    let made : c.in_ok-marks.marks.items ≡ replicate (length refs) false = search rules in
    let old = c.deref_mut.ensures.value ∙ made in
    let spread : IsSpread (rows refs) start (replicate (length refs) false) c.spread.new.marks =
    subst (λ l. IsSpread (rows refs) start l c.spread.new.marks) old c.in_ok-spread.ensures.spread in
    let len : length c.spread.new.marks ≡ length c.in_ok-marks.marks.items =
    c.in_ok-spread.ensures.length ∙ ap length c.deref_mut.ensures.value in
    let read =
    rw (with_items_is c.in_ok-marks.marks c.spread.new.marks (omega (arith, len, c.in_ok-marks.marks.ok.0))) at
    c.index.ensures in
    let at : is_marked c.spread.new.marks start ≡ c.index.result.now =
    get_or_default c.spread.new.marks start false c.index.result.now
    (omega (arith, spread.same_length, length-rows refs)) ∙ sym read in (
      λ yes.
          ⊎_elim (λ marked. absurd (false≢true (sym (none_marked (length refs) start) ∙ marked))) (λ leads. leads)
          (spread.only start (at ∙ yes)),
      λ leads. sym at ∙ marked_on_cycle (rows refs) start (replicate (length refs) false) c.spread.new.marks spread leads,
    )

pub spread-requires-clause-closed : goal.spread-requires-clause-closed
spread-requires-clause-closed c = grind (arith, common_steps)
