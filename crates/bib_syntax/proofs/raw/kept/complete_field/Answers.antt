use Rattle.std.proofs.Common.{refl, ◌∙◌, ap, sym, subst}
use Rattle.std.specs.Str.{IsCharBoundary}
use Rattle.bib_syntax.specs.Grammar.{Field, longest}
use Rattle.bib_syntax.specs.Views.{field_of}
use Rattle.bib_syntax.proofs.FieldFacts.{ahead_field}
use Rattle.bib_syntax.proofs.KeptFacts.{no_field}
use Rattle.bib_syntax.proofs.RecoveryFacts.{follows}
use Rattle.bib_syntax.specs.Errors.{Refuses}
use Rattle.bib_syntax.specs.SyntaxErrors.{FieldFails, Reports}
use Rattle.bib_syntax.proofs.raw.kept.complete_field.Goals as goal

pub jump-requires : goal.jump-requires
jump-requires c =
    subst (λ text. IsCharBoundary text c.cursor.result)
    ((ahead_field c.in-Ok.ensures.found).text ∙ ap (λ u. u.text) c.with_memo-reader.ensures) c.cursor.ensures.boundary

pub returns-in-Ok : goal.returns-in-Ok
returns-in-Ok c =
    let one : Field longest c.args.s.now (field_of c.in-Ok.pair) c.field.new.s =
    subst (λ u. Field longest u (field_of c.in-Ok.pair) c.field.new.s) c.with_memo-reader.ensures c.in-Ok.ensures.found in
    subst (λ v. Field longest c.args.s.now (field_of c.in-Ok.pair) v)
    (sym (follows _ (ahead_field one) c.cursor.ensures.place c.jump.ensures)) one

pub returns-in_ok-unless_out_of_memory-in-Err : goal.returns-in_ok-unless_out_of_memory-in-Err
returns-in_ok-unless_out_of_memory-in-Err c =
    let fails = subst (λ u. Refuses u.text c.in-Err.error (Reports (FieldFails u) c.in-Err.error)) c.with_memo-reader.ensures
    c.in-Err.ensures.fails in
    (refl, no_field fails c.in_ok-unless_out_of_memory-in-Err.ensures.ok)
