use Rattle.std.proofs.Common.{ap, ◌∙◌, inl, inr}
use Rattle.std.specs.Option.{unwrap_or}
use Rattle.bib_abbreviations.specs.Abbreviations.{given_by}
use Rattle.bib_syntax.specs.Views.{field_of}
use Rattle.bib_syntax.specs.declared.raw.ParseError.{ParseError}
use Rattle.bib_file_entries.proofs.MendingFacts.{left_out, now_or}
use Rattle.bib_file_entries.proofs.keeping.keep_field.Goals as goal

pub returns-in-Ok-clause-tried : goal.returns-in-Ok-clause-tried
returns-in-Ok-clause-tried c =
    let same =
    ap (λ b. b.now) c.unwrap_or.ensures ∙ now_or c.as_ref.result c.args.field
    ∙ ap (λ o. unwrap_or o c.args.field.now) c.as_ref.ensures.value in
    record {
      kept = c.unwrap_or.result.now;
      is = ap field_of same ∙ c.in_ok-copy.ensures.mended;
      read = record { name = c.in-Ok.ensures.name; value = c.in-Ok.ensures.value; readable = c.in-Ok.ensures.readable };
      errors = c.in_ok-copy.ensures.errors;
    }

pub returns-clause-tried : goal.returns-clause-tried
returns-clause-tried c =
    let same =
    ap (λ b. b.now) c.unwrap_or.ensures ∙ now_or c.as_ref.result c.args.field
    ∙ ap (λ o. unwrap_or o c.args.field.now) c.as_ref.ensures.value in
    elim c.in-Err.ensures.refused [
      | inl lost ↦ absurd (c.in_ok-unless_out_of_memory-in-Err.ensures.ok (ap (λ (e : ParseError). e.kind) lost))
      | inr error ↦
          left_out (given_by c.args.reader.now) c.args.field.now c.unwrap_or.result.now c.args.errors.now.items
          c.mend_field.new.errors.items c.push.new.self.items c.in-Err.e
          (ap field_of same ∙ c.in_ok-copy.ensures.mended) error c.in_ok-copy.ensures.errors c.in_ok-push-in-Err.ensures.items
    ]
