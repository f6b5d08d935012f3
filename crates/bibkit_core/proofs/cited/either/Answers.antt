use Rattle.std.proofs.Common.{◌||◌, ◌∙◌, ◌++◌, ◌∷◌, [], length, ap, sym}
use Rattle.std.proofs.lemmas.List.{length_push}
use Rattle.std.proofs.lemmas.Slice.Zip.{zip_turn, zip_end}
use Rattle.bibkit_core.proofs.ComparedFacts.{either_all, either_step}
use Rattle.bibkit_core.proofs.cited.either.Goals as goal

pub marks-preserved : goal.marks-preserved
marks-preserved c =
    let t =
    zip_turn c.args.first.now c.args.second.now c.marks.yielded c.into_iter-one-iterator.result c.marks.one-iterator
    c.next.new.self c.next.result (cc) (cc) c.marks.yielded_by _ c.in-Some.is c.next.ensures.steps in
    c.in_ok-push.ensures.items ∙ ap (λ b. c.marks.marks.items ++ b ∷ []) c.is_either.ensures
    ∙ ap (λ l. l ++ (c.in-Some.one.now || c.in-Some.other.now) ∷ []) c.marks.invariant
    ∙ sym (either_step c.args.first.now c.args.second.now (length c.marks.yielded)
    (length (c.marks.yielded ++ (c.in-Some.one, c.in-Some.other) ∷ [])) c.in-Some.one.now c.in-Some.other.now
    (length_push c.marks.yielded (c.in-Some.one, c.in-Some.other)) t.0 t.1 (sym (t.2 c.in-Some.one.now)) (sym (t.3 c.in-Some.other.now)))

pub returns : goal.returns
returns c =
    let end =
    zip_end c.args.first.now c.args.second.now c.marks.yielded c.into_iter-one-iterator.result c.marks.one-iterator
    c.next.new.self c.next.result (cc) (cc) c.marks.yielded_by c.in-None.is c.next.ensures.steps in
    c.marks.invariant ∙ either_all c.args.first.now c.args.second.now (length c.marks.yielded) end
