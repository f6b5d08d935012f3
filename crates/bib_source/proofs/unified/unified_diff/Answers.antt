use Rattle.std.proofs.Common.{◌≡◌, [], ◌∷◌, ap, map, refl, sym, ◌∙◌, subst}
use Rattle.std.proofs.lemmas.Result.{IfOk-weaker}
use Rattle.std.proofs.lemmas.Slice.Eq.{bytes_eq-Decides}
use Rattle.std.proofs.lemmas.Bool.{false≢true}
use Rattle.bib_source.specs.Comparison.{AreRuns, new_side, old_side, line_texts}
use Rattle.bib_source.specs.Hunks.{AreBetweenEnds, Make}
use Rattle.bib_source.specs.Hunks.{Make as make}
use Rattle.bib_source.specs.Lines.{lines_of}
use Rattle.bib_source.proofs.BetweenFacts.{same_between}
use Rattle.bib_source.specs.Unified.{unified_text}
use Rattle.bib_source.specs.Visible.{hunk_of}
use Rattle.bib_source.proofs.CutFacts.{all_between, all_runs}
use Rattle.bib_source.proofs.unified.unified_diff.Goals as goal

pub returns-then-eq : goal.returns-then-eq
returns-then-eq c =
    let same : c.args.old.now ≡ c.args.new.now = (bytes_eq-Decides c.args.old.now c.args.new.now).0 (sym c.eq.ensures ∙ c.if-eq.true) in
    record {
      hunks = [];
      make = subst (λ t. Make 1 1 [] (lines_of c.args.old.now) (lines_of t)) same make.none;
      narrow = tt;
      between = subst (λ t. AreBetweenEnds (lines_of c.args.old.now) (lines_of t) []) same (same_between (lines_of c.args.old.now));
      runs = tt;
      same = λ is. refl;
      is = c.new.ensures.bytes;
    }

pub returns : goal.returns
returns c =
    let lines = c.deref-3.result.now in
    let hunks = map hunk_of c.in_ok-hunks.field-0.items in
    let lines-is : lines ≡ c.in_ok-compared.compared.items = c.deref-3.ensures.value in
    let olds : line_texts c.deref.result.now ≡ lines_of c.args.old.now = ap line_texts c.deref.ensures.value ∙ c.in_ok-old.ensures in
    let news : line_texts c.deref-2.result.now ≡ lines_of c.args.new.now = ap line_texts c.deref-2.ensures.value ∙ c.in_ok-new.ensures in
    let between : AreBetweenEnds (lines_of c.args.old.now) (lines_of c.args.new.now) hunks =
    subst (λ ls. AreBetweenEnds ls (lines_of c.args.new.now) hunks) olds
    (subst (λ ls. AreBetweenEnds (line_texts c.deref.result.now) ls hunks) news
    (all_between (line_texts c.deref.result.now) (line_texts c.deref-2.result.now) lines hunks
    (subst
    (λ ls.
    AreBetweenEnds (line_texts c.deref.result.now) (line_texts c.deref-2.result.now)
    ((record { old = 1; new = 1; lines = ls }) ∷ []))
    (sym lines-is) c.in_ok-compared.ensures.between)
    c.in_ok-hunks.ensures.cut)) in
    let make : Make 1 1 hunks (lines_of c.args.old.now) (lines_of c.args.new.now) =
    subst (λ ls. Make 1 1 hunks ls (lines_of c.args.new.now)) (ap old_side lines-is ∙ c.in_ok-compared.ensures.old ∙ olds)
    (subst (λ ls. Make 1 1 hunks (old_side lines) ls) (ap new_side lines-is ∙ c.in_ok-compared.ensures.new ∙ news)
    c.in_ok-hunks.ensures.make) in
    IfOk-weaker c.with_name.result _ _
    (λ diff text-is. record {
      hunks = hunks;
      make = make;
      narrow = c.in_ok-hunks.ensures.narrow;
      between = between;
      runs = all_runs lines hunks (subst AreRuns (sym lines-is) c.in_ok-compared.ensures.runs) c.in_ok-hunks.ensures.cut;
      same = λ same. absurd (false≢true (sym c.if-eq.false ∙ c.eq.ensures ∙ (bytes_eq-Decides c.args.old.now c.args.new.now).1 same));
      is = text-is ∙ ap (λ hs. unified_text c.args.name.now (map hunk_of hs)) c.deref-4.ensures.value;
    })
    c.with_name.ensures
