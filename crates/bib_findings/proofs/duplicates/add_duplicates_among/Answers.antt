use Rattle.std.proofs.Common.{◌≡◌, ◌+◌, ℕ, List, [], ◌∷◌, ◌++◌, ap, sym, ◌∙◌, subst, map, take, get_or, refl, append_assoc}
use Rattle.std.specs.BTreeMap.{get_by_text}
use Rattle.bib_syntax.specs.Reading.{EntryReading}
use Rattle.bib_syntax.specs.Views.{entry_reading_of}
use Rattle.bib_findings.specs.Duplicates.{duplicates, duplicates_after, entries_at}
use Rattle.bib_findings.specs.Seen.{AreFirstWith}
use Rattle.bib_findings.proofs.SeenFacts.{duplicates_both, entries_one_more}
use Rattle.bib_findings.proofs.duplicates.add_duplicates_among.Goals as goal

pub origins-preserved : goal.origins-preserved
origins-preserved c =
    let said : List EntryReading = map entry_reading_of c.args.said.now in
    let at : ℕ = c.origins.index-index in
    let index : ℕ = get_or c.args.origins.now at 0 in
    let earlier : List EntryReading = entries_at said (take at c.args.origins.now) in
    let one : List EntryReading = entries_at said (index ∷ []) in
    let next : entries_at said (take (at + 1) c.args.origins.now) ≡ earlier ++ one =
    entries_one_more said c.args.origins.now at index c.origins-test.true refl in
    record {
      there = c.in_ok-add_duplicate.ensures.there;
      first = subst (AreFirstWith (get_by_text c.add_duplicate.new.seen) said) (sym next)
          (c.in_ok-add_duplicate.ensures.first earlier c.origins.invariant.first);
      added =
          c.in_ok-add_duplicate.ensures.added earlier c.origins.invariant.first
          ∙ ap (λ l. l ++ duplicates_after earlier one) c.origins.invariant.added
          ∙ append_assoc c.args.found.now.items (duplicates earlier) (duplicates_after earlier one)
          ∙ ap (λ l. c.args.found.now.items ++ l) (sym (duplicates_both [] earlier one) ∙ ap duplicates (sym next));
    }
