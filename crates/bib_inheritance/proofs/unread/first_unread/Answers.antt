use Rattle.std.proofs.Common.{◌≡◌, ◌∙◌, ℕ, ◌<◌, ap, arith, get_or, length, rules, subst, sym}
use Rattle.std.specs.Option.{option_copied}
use Rattle.bib_inheritance.specs.Turning.{IsUnreadDate, error_in}
use Rattle.bib_inheritance.proofs.DateFacts.{read_at}
use Rattle.bib_inheritance.proofs.UnreadFacts.{read_here, unread_here}
use Rattle.bib_inheritance.proofs.unread.first_unread.Goals as goal

pub returns-in-Some-clause-unread : goal.returns-in-Some-clause-unread
returns-in-Some-clause-unread c =
    let indices = c.args.indices.now in
    let dates = c.read_date.new.dates in
    let index : ℕ = get_or indices c.indices.r-index 0 in
    let below : index < length dates =
    omega (arith, c.requires.indices c.indices.r-index 0 c.indices-test.true, c.in_ok-read_date.ensures.dates.as_many) in
    let copy : c.in_ok-clone.field-0 ≡ c.in-Some.error.now = search rules in
    subst (IsUnreadDate c.args.entries.now indices) (sym copy)
    (unread_here c.args.entries.now dates indices c.indices.r-index c.indices-test.true c.in_ok-read_date.ensures.dates.right
    c.indices.invariant.read c.in-Some.error.now
    (read_at error_in dates index c.index-dates-r.result below ∙ sym c.error.ensures ∙ ap option_copied c.in-Some.is))

pub indices-preserved : goal.indices-preserved
indices-preserved c =
    let indices = c.args.indices.now in
    let dates = c.read_date.new.dates in
    let index : ℕ = get_or indices c.indices.r-index 0 in
    let below : index < length dates =
    omega (arith, c.requires.indices c.indices.r-index 0 c.indices-test.true, c.in_ok-read_date.ensures.dates.as_many) in
    record {
      read =
          read_here c.args.entries.now dates indices c.indices.r-index c.indices-test.true
          c.in_ok-read_date.ensures.dates.right c.indices.invariant.read c.in_ok-read_date.ensures.read
          (read_at error_in dates index c.index-dates-r.result below ∙ sym c.error.ensures ∙ ap option_copied c.in_default.is);
      dates = c.in_ok-read_date.ensures.dates;
    }
