use Rattle.std.proofs.Common.{◌≡◌, ◌∙◌, ℕ, ◌-◌, ◌<◌, ap, sym, get_or, length, arith, rules, Some}
use Rattle.std.specs.Option.{option_copied}
use Rattle.std.proofs.lemmas.List.Elements.{same_from_all_zip}
use Rattle.bib_chunks.specs.Styled.{styled}
use Rattle.bib_inheritance.specs.Resolving.{at_index, texts_of_entries}
use Rattle.bib_inheritance.specs.Turning.{inheritable_chunks}
use Rattle.bib_inheritance.proofs.DateFacts.{adds_more, date_found, date_none, dated_here, read_at, undated_here}
use Rattle.bib_inheritance.proofs.dates.last_date.Goals as goal

pub returns-in_err-read_date-clause-added : goal.returns-in_err-read_date-clause-added
returns-in_err-read_date-clause-added c =
    adds_more c.args.indices.now (length c.args.indices.now - 1 - c.indices.done) c.args.dates.now c.indices.dates
    c.read_date.new.dates (omega (arith, c.indices-test.true)) c.indices.invariant.added
    c.in_err-read_date.ensures.added

pub returns-in_err-clone-clause-added : goal.returns-in_err-clone-clause-added
returns-in_err-clone-clause-added c =
    adds_more c.args.indices.now (length c.args.indices.now - 1 - c.indices.done) c.args.dates.now c.indices.dates
    c.read_date.new.dates (omega (arith, c.indices-test.true)) c.indices.invariant.added
    c.in_ok-read_date.ensures.added

pub returns-in-Some-clause-added : goal.returns-in-Some-clause-added
returns-in-Some-clause-added c =
    adds_more c.args.indices.now (length c.args.indices.now - 1 - c.indices.done) c.args.dates.now c.indices.dates
    c.read_date.new.dates (omega (arith, c.indices-test.true)) c.indices.invariant.added
    c.in_ok-read_date.ensures.added

pub returns-in-Some-clause-last : goal.returns-in-Some-clause-last
returns-in-Some-clause-last c =
    let indices = c.args.indices.now in
    let values = texts_of_entries c.args.entries.now in
    let dates = c.read_date.new.dates in
    let index : ℕ = get_or indices (length indices - 1 - c.indices.done) 0 in
    let chunks = c.in-Some.date.now in
    let below : index < length dates =
    omega (
      arith,
      c.requires.indices (length indices - 1 - c.indices.done) 0 (omega (arith, c.indices-test.true)),
      c.in_ok-read_date.ensures.dates.as_many,
    ) in
    let copy : c.in_ok-clone.field-0 ≡ chunks =
    same_from_all_zip _ chunks c.in_ok-clone.field-0 c.in_ok-clone.ensures.cases (λ s t r. search rules) in
    let here =
    dated_here c.args.entries.now dates index c.in_ok-read_date.ensures.dates.right chunks
    (read_at inheritable_chunks dates index c.index-dates-index.result below ∙ sym c.inheritable_chunks.ensures
    ∙ ap option_copied c.in-Some.is) in
    ap (λ chunks. Some (styled chunks)) copy
    ∙ sym
    (date_found (at_index values) indices c.indices.done (styled chunks) c.indices-test.true here
    c.indices.invariant.none)

pub indices-preserved : goal.indices-preserved
indices-preserved c =
    let indices = c.args.indices.now in
    let values = texts_of_entries c.args.entries.now in
    let dates = c.read_date.new.dates in
    let index : ℕ = get_or indices (length indices - 1 - c.indices.done) 0 in
    let below : index < length dates =
    omega (
      arith,
      c.requires.indices (length indices - 1 - c.indices.done) 0 (omega (arith, c.indices-test.true)),
      c.in_ok-read_date.ensures.dates.as_many,
    ) in
    let none =
    undated_here c.args.entries.now dates index c.in_ok-read_date.ensures.dates.right c.in_ok-read_date.ensures.read
    (read_at inheritable_chunks dates index c.index-dates-index.result below ∙ sym c.inheritable_chunks.ensures
    ∙ ap option_copied c.in_default.is) in
    record {
      none = date_none (at_index values) indices c.indices.done c.indices-test.true none c.indices.invariant.none;
      dates = c.in_ok-read_date.ensures.dates;
      added =
          adds_more indices (length indices - 1 - c.indices.done) c.args.dates.now c.indices.dates dates
          (omega (arith, c.indices-test.true)) c.indices.invariant.added c.in_ok-read_date.ensures.added;
    }
