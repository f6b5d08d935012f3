use Rattle.std.proofs.Common.{◌≡◌, ◌++◌, ◌∷◌, [], ◌∙◌, true, false, map, take, sym, ap, subst, arith, append_assoc}
use Rattle.std.specs.BTreeSet.{contains_text}
use Rattle.std.proofs.lemmas.List.{length-map, take-map}
use Rattle.bib_text.proofs.ListFacts.{mapped_more}
use Rattle.bib_syntax.specs.Reading.{EntryReading}
use Rattle.bib_syntax.specs.Views.{entry_reading_of}
use Rattle.edit_entries.specs.NameSets.{AreNamesOf}
use Rattle.edit_entries.specs.NewNames.{shares_name}
use Rattle.edit_entries.proofs.NameSetFacts.{names_more, shared}
use Rattle.edit_entries.proofs.PositionFacts.{slice_get-map}
use Rattle.edit_entries.proofs.TakenFacts.{each_more, within_of}
use Rattle.edit_entries.proofs.joining.shares_name.Goals as goal

pub returns-then-branch : goal.returns-then-branch
returns-then-branch c = λ none.
    let entries = map entry_reading_of c.args.entries.now in
    let others = map entry_reading_of c.args.others.now in
    let e : EntryReading = entry_reading_of c.entry-item.result in
    let i = c.others.entry-index in
    let names = ap (map (λ n. n.now)) c.deref.ensures.value ∙ c.in_ok-names.ensures in
    let known = none i e (slice_get-map entry_reading_of c.args.others.now i c.entry-item.result c.others-test.true c.entry-item.is) in
    let shares =
    shared (entries ++ map entry_reading_of (take i c.args.others.now)) e (map (λ n. n.now) c.deref.result.now)
    (contains_text c.others.set) names c.others.invariant.0 in
    absurd
    (let clash : true ≡ false =
    sym c.if-branch.true ∙ c.in_ok-has_one.ensures ∙ shares
    ∙ ap (λ l. shares_name (entries ++ l) e) (sym (take-map entry_reading_of i c.args.others.now)) ∙ known
    in cc)

pub others-preserved : goal.others-preserved
others-preserved c =
    let entries = map entry_reading_of c.args.entries.now in
    let e : EntryReading = entry_reading_of c.entry-item.result in
    let i = c.others.entry-index in
    let before = entries ++ map entry_reading_of (take i c.args.others.now) in
    let names = ap (map (λ n. n.now)) c.deref.ensures.value ∙ c.in_ok-names.ensures in
    let names' = ap (map (λ n. n.now)) c.deref-in-others.ensures.value ∙ c.in_ok-names.ensures in
    let more = mapped_more entry_reading_of c.args.others.now i c.entry-item.result c.others-test.true c.entry-item.is in
    let shares =
    shared before e (map (λ n. n.now) c.deref.result.now) (contains_text c.others.set) names c.others.invariant.0 in (
      subst (λ l. AreNamesOf l (contains_text c.insert_names.new.set))
          (append_assoc entries (map entry_reading_of (take i c.args.others.now)) (e ∷ [])
          ∙ ap (λ l. entries ++ l) (sym more))
          (names_more before e (map (λ n. n.now) c.deref-in-others.result.now) (contains_text c.others.set)
          (contains_text c.insert_names.new.set) names' c.others.invariant.0 c.in_ok-insert_names.ensures),
      each_more (λ k x. shares_name (entries ++ take k (map entry_reading_of c.args.others.now)) x ≡ false)
          entry_reading_of c.args.others.now i c.entry-item.result c.others-test.true c.entry-item.is
          c.others.invariant.1
          (ap (λ l. shares_name (entries ++ l) e) (take-map entry_reading_of i c.args.others.now) ∙ sym shares
          ∙ sym c.in_ok-has_one.ensures ∙ c.if-branch.false),
    )

pub returns : goal.returns
returns c = λ k e here.
    c.others.invariant.1 k e
    (omega (
      arith,
      within_of (map entry_reading_of c.args.others.now) k e here,
      length-map c.args.others.now entry_reading_of,
    )) here
