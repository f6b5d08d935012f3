use Rattle.std.proofs.Common.{refl, inr, sym, ap}
use Rattle.bib_chunks.specs.declared.chunk.Chunk.{Chunk}
use Rattle.bib_text.specs.declared.spanned.Spanned.{Spanned}
use Rattle.bib_abbreviations.specs.Abbreviations.{IsFirstError as first_error}
use Rattle.bib_abbreviations.specs.Expanding.{known_to, part_at}
use Rattle.bib_abbreviations.proofs.MemoFacts.{expands_month}
use Rattle.bib_abbreviations.proofs.abbreviations.Expansion.new_name.Goals as goal

pub returns-in-Some-clause-taken : goal.returns-in-Some-clause-taken
returns-in-Some-clause-taken c =
    let is = sym c.in-Some.ensures in
    (part_at c.args.name.now c.args.span.now, refl, c.in_ok-open.ensures.opened (known_to c.args.self) is c.requires.fresh)

pub returns-in_default-month-clause-refused : goal.returns-in_default-month-clause-refused
returns-in_default-month-clause-refused c = inr (λ path rest.
    let absent = sym c.in_default.ensures in
    first_error.unknown absent (sym c.in_default-month.ensures) (rw c.in_ok-from_str.ensures refl))

pub returns-clause-taken : goal.returns-clause-taken
returns-clause-taken c =
    let absent = sym c.in_default.ensures in (
      expands_month (part_at c.args.name.now c.args.span.now) c.new.result _ absent c.in-Some-month.ensures
          (ap (λ (s : Spanned Chunk). s.v) c.new.ensures) c.in_ok-from_str-2.ensures c.in_ok-push.ensures.items,
      refl,
    )
