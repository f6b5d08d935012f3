use Rattle.std.proofs.lemmas.Grind.{common_steps}
use Rattle.std.proofs.Common.{rules, [], ◌∷◌, ◌++◌, ◌≡◌, ◌∙◌, ap, length, arith}
use Rattle.std.proofs.lemmas.Result.{err_from_is_err_and}
use Rattle.bib_chunks.specs.Styled.{styled}
use Rattle.bib_abbreviations.specs.Expanding.{known_to, chunks_between, Expands}
use Rattle.bib_syntax.specs.Views.{piece_of}
use Rattle.bib_abbreviations.proofs.ExpansionFacts.{sound_within}
use Rattle.bib_abbreviations.proofs.PieceFacts.{expands_opened, error_opened, said_after}
use Rattle.bib_abbreviations.proofs.abbreviations.Expansion.expand_name.Goals as goal

pub take-requires : goal.take-requires
take-requires c = record { within = sound_within c.requires.sound }

pub returns-in_err-run-clause-refused : goal.returns-in_err-run-clause-refused
returns-in_err-run-clause-refused c =
    let taken = rw c.in-Some.is at (c.in_ok-frame.ensures.taken _ c.requires.sound) in
    let p = err_from_is_err_and c.from_residual-in_err-run.result c.from_residual-in_err-run.ensures.1 in
    rw (p.1, p.2, taken.1) (error_opened c.take.new.memo taken.0 c.in-Some.frame _ taken.2 c.in_err-run.ensures.refused)

pub returns-clause-said : goal.returns-clause-said
returns-clause-said c =
    let taken = rw c.in-Some.is at (c.in_ok-frame.ensures.taken _ c.requires.sound) in
    let x : Expands (known_to c.args.self) c.args.self.is_verbatim c.args.memo.now.values.items
    c.run.new.memo.values.items (piece_of c.args.piece.now ∷ []) =
    rw taken.1 (expands_opened c.take.new.memo c.run.new.memo taken.0 c.in-Some.frame taken.2 c.in_ok-run.ensures.said) in
    let at : c.len-start.result ≡ length c.args.memo.now.values.items = search rules in
    let following : chunks_between c.len-start.result (length c.deref-2.result.now) c.deref-2.result.now ≡ x.more =
    said_after x c.len-start.result c.deref-2.result.now at c.deref-2.ensures.value in
    (styled x.more, x.says, c.in_ok-append_copies-2.ensures.styled ∙ ap (λ cs. styled c.args.out.now ++ styled cs) following)

pub returns-in_default-clause-said : goal.returns-in_default-clause-said
returns-in_default-clause-said c = grind (arith, common_steps)

pub returns-in_default-clause-sound : goal.returns-in_default-clause-sound
returns-in_default-clause-sound c = grind (arith, common_steps)

pub offset_bounds-deref-start : goal.offset_bounds-deref-start
offset_bounds-deref-start c = grind (arith, common_steps)

pub offset_bounds-deref-start-2 : goal.offset_bounds-deref-start-2
offset_bounds-deref-start-2 c = grind (arith, common_steps)

pub slice_bounds-append_copies-count : goal.slice_bounds-append_copies-count
slice_bounds-append_copies-count c = grind (arith, common_steps)

pub slice_bounds-append_copies-start : goal.slice_bounds-append_copies-start
slice_bounds-append_copies-start c = grind (arith, common_steps)

pub slice_bounds-append_copies-count-2 : goal.slice_bounds-append_copies-count-2
slice_bounds-append_copies-count-2 c = grind (arith, common_steps)

pub slice_bounds-append_copies-start-2 : goal.slice_bounds-append_copies-start-2
slice_bounds-append_copies-start-2 c = grind (arith, common_steps)
