use Rattle.std.proofs.Common.{ap, map, inl, inr}
use Rattle.std.proofs.lemmas.Result.{IfOk-weaker}
use Rattle.bib_abbreviations.specs.Abbreviations.{given_by}
use Rattle.bib_syntax.specs.Views.{piece_of}
use Rattle.bib_syntax.specs.declared.raw.ParseError.{ParseError}
use Rattle.edit_orders.specs.Fields.AreContentsOf.{parsed}
use Rattle.edit_orders.proofs.FieldFacts.{contents_plain}
use Rattle.edit_orders.proofs.fields.contents.Goals as goal

pub returns-in-Ok-clause-contents : goal.returns-in-Ok-clause-contents
returns-in-Ok-clause-contents c = parsed c.in-Ok.ensures.contents

pub returns-in_ok-unless_out_of_memory-in-Err-clause-contents : goal.returns-in_ok-unless_out_of_memory-in-Err-clause-contents
returns-in_ok-unless_out_of_memory-in-Err-clause-contents c =
    elim c.in-Err.ensures.refused [
      | inl lost ↦ absurd (c.in_ok-unless_out_of_memory-in-Err.ensures.ok (ap (λ (e : ParseError). e.kind) lost))
      | inr error ↦
          IfOk-weaker c.plain_contents.result _ _
          (λ chunks is.
          contents_plain (given_by c.args.reader.now) (map piece_of c.args.field.now.value.v.items) c.deref.result.now chunks
          (ap (map piece_of) c.deref.ensures.value) error.1 is) c.plain_contents.ensures
    ]
