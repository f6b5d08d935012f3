use Rattle.std.proofs.Common.{◌++◌, ◌∷◌, [], ◌∙◌, ap}
use Rattle.std.specs.Prelude.{string_bytes}
use Rattle.std.proofs.lemmas.Str.{IsUtf8-string_bytes}
use Rattle.bib_chunks.specs.declared.chunk.Chunk.TheVariants.{Verbatim}
use Rattle.bib_chunks.specs.Values.{Value, text}
use Rattle.bib_chunks.proofs.ValueFacts.{verbatim_text}
use Rattle.bib_chunks.specs.Styled.{styled, whole_span}
use Rattle.bib_inheritance.specs.References.{plain}
use Rattle.bib_inheritance.proofs.inheritable_date.as_text.Goals as goal

pub returns-clause-read : goal.returns-clause-read
returns-clause-read c =
    let t = string_bytes c.in_ok-text.text in
    ap text c.in_ok-push.ensures.items
    ∙ ap text
    (ap (λ l. l ++ record { v = Verbatim c.from_string.result; span = c.whole_span.result } ∷ [])
    c.new-one.ensures)
    ∙ ap (λ b. text (record { v = Verbatim b; span = c.whole_span.result } ∷ [])) c.from_string.ensures
    ∙ verbatim_text t (IsUtf8-string_bytes c.in_ok-text.text) ∙ c.in_ok-text.ensures ∙ ap (λ v. plain (styled v)) c.as_slice.ensures

pub returns-clause-one : goal.returns-clause-one
returns-clause-one c =
    let chunks = c.args.chunks.now in
    c.in_ok-push.ensures.items
    ∙ ap (λ l. l ++ record { v = Verbatim c.from_string.result; span = c.whole_span.result } ∷ []) c.new-one.ensures
    ∙ ap (λ b. (let one : Value = record { v = Verbatim b; span = c.whole_span.result } ∷ [] in one))
    (c.from_string.ensures ∙ c.in_ok-text.ensures ∙ ap (λ v. plain (styled v)) c.as_slice.ensures)
    ∙ ap (λ s. (let one : Value = record { v = Verbatim (plain (styled chunks)); span = s } ∷ [] in one))
    (c.whole_span.ensures ∙ ap whole_span c.as_slice-2.ensures)
