use Rattle.std.proofs.Common.{◌≡◌, ◌∙◌, ◌+◌, ◌<◌, ◌≤◌, length, get_or, sym, ap, subst, arith, true≢false}
use Rattle.std.proofs.lemmas.Bool.Decides.{nat_tests}
use Rattle.std.proofs.lemmas.Grind.{common_steps}
use Rattle.std.specs.Prelude.{false, is_some}
use Rattle.bib_from_json.specs.SameEntries.{IsSameEntry}
use Rattle.bib_from_json.proofs.SameFacts.{too_few, too_many, zip_at, zip_more}
use Rattle.bib_from_json.proofs.comparing.entries_fault.Goals as goal

pub returns-in_default : goal.returns-in_default
returns-in_default c =
    let within : c.entries.index < length c.args.given.now = omega (arith, c.entries-test.true, c.entries.invariant.0) in
    let few : length c.args.entries.now ≤ c.entries.index = grind (arith, nat_tests, c.in_default.ensures.lookup.0) in (
      λ none. absurd (true≢false none),
      λ all. absurd (too_few IsSameEntry c.args.given.now c.args.entries.now c.entries.index within few all),
    )

pub returns-in-Some-2 : goal.returns-in-Some-2
returns-in-Some-2 c =
    let given = c.entry-item.result in
    let read = c.in-Some.read.now in
    let k = c.entries.index in
    let within : k < length c.args.given.now = omega (arith, c.entries-test.true, c.entries.invariant.0) in
    let is = c.entry-item.is ∙ ap (λ i. get_or c.args.given.now i given) (sym c.entries.invariant.0) in (
      λ none. absurd (true≢false none),
      λ all.
          let here = zip_at IsSameEntry c.args.given.now c.args.entries.now k given read within all in
          let same =
          subst (λ g. IsSameEntry g read) (sym is)
          (subst (IsSameEntry (get_or c.args.given.now k given)) (sym c.in-Some.ensures.lookup.1) here) in
          sym (ap is_some c.in-Some-2.is) ∙ c.in_ok-unfit-2.ensures.1 same,
    )

pub entries-preserved : goal.entries-preserved
entries-preserved c =
    let given = c.entry-item.result in
    let read = c.in-Some.read.now in
    let k = c.entries.index in
    let within : k < length c.args.given.now = omega (arith, c.entries-test.true, c.entries.invariant.0) in
    let inside : k < length c.args.entries.now = grind (arith, nat_tests, c.in-Some.ensures.lookup.0) in
    let is = c.entry-item.is ∙ ap (λ i. get_or c.args.given.now i given) (sym c.entries.invariant.0) in
    let none : is_some c.in_ok-unfit-2.field-0 ≡ false = grind (arith, common_steps, c.in_default-2.is) in
    let here =
    subst (λ g. IsSameEntry g (get_or c.args.entries.now k read)) is
    (subst (IsSameEntry given) c.in-Some.ensures.lookup.1 (c.in_ok-unfit-2.ensures.0 none)) in (
      ap (λ n. n + 1) c.entries.invariant.0,
      omega (arith, inside),
      zip_more IsSameEntry c.args.given.now c.args.entries.now k given read within inside c.entries.invariant.2 here,
    )

pub returns-then-index-entries : goal.returns-then-index-entries
returns-then-index-entries c = (
  λ none. absurd (true≢false none),
  λ all. absurd
      (too_many IsSameEntry c.args.given.now c.args.entries.now c.entries.index
      (omega (arith, c.entries-test.false, c.entries.invariant.0)) c.if-index-entries.true all),
)
