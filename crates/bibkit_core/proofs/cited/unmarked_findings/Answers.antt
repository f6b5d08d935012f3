use Rattle.std.proofs.Common.{◌∙◌, ◌++◌, ◌∷◌, [], cond, length, ap, sym}
use Rattle.std.proofs.lemmas.List.{length_push}
use Rattle.std.proofs.lemmas.Slice.Zip.{zip_turn, zip_end}
use Rattle.bibkit_core.specs.Compared.{missing_finding}
use Rattle.bibkit_core.proofs.ComparedFacts.{unmarked_all, unmarked_step}
use Rattle.bibkit_core.proofs.cited.unmarked_findings.Goals as goal

pub citations-preserved : goal.citations-preserved
citations-preserved c =
    let t =
    zip_turn c.args.citations.now c.args.known.now c.citations.yielded c.into_iter-citation-iterator.result
    c.citations.citation-iterator c.next.new.self c.next.result (cc) (cc) c.citations.yielded_by _ c.in-Some.is
    c.next.ensures.steps in
    c.in_ok-push_unless_known.ensures
    ∙ ap (λ l. l ++ cond c.in-Some.is_known.now [] (missing_finding c.in-Some.citation.now ∷ []))
    c.citations.invariant
    ∙ sym (unmarked_step c.args.citations.now c.args.known.now (length c.citations.yielded)
    (length (c.citations.yielded ++ (c.in-Some.citation, c.in-Some.is_known) ∷ [])) c.in-Some.citation.now
    c.in-Some.is_known.now
    (length_push c.citations.yielded (c.in-Some.citation, c.in-Some.is_known)) t.0 t.1
    (sym (t.2 c.in-Some.citation.now)) (sym (t.3 c.in-Some.is_known.now)))

pub returns : goal.returns
returns c =
    let end =
    zip_end c.args.citations.now c.args.known.now c.citations.yielded c.into_iter-citation-iterator.result
    c.citations.citation-iterator c.next.new.self c.next.result (cc) (cc) c.citations.yielded_by c.in-None.is
    c.next.ensures.steps in
    c.citations.invariant ∙ unmarked_all c.args.citations.now c.args.known.now (length c.citations.yielded) end
