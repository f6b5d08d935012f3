use Rattle.std.proofs.Common.{◌≡◌, ◌+◌, ℕ, true, not, List, [], ◌∷◌, ◌++◌, cond, get_or, take, sym, ap, ◌∙◌, subst}
use Rattle.std.specs.Prelude.{bytes_eq}
use Rattle.std.specs.Borrow.{Bor}
use Rattle.std.proofs.lemmas.List.{get_or_default, map-append}
use Rattle.std.proofs.lemmas.Map.Text.{is_eq-slice_cmp}
use Rattle.std.proofs.lemmas.Bool.{not-false, not-true}
use Rattle.bib_text.proofs.BoolFacts.{or_cond}
use Rattle.bib_queries.specs.Needed.{is_listed}
use Rattle.bib_queries.specs.Sets.{is_in_set}
use Rattle.edit_strings.specs.Collected.{AreThoseThat, CanBeCollected, distinct}
use Rattle.edit_strings.specs.Collecting.{known_in}
use Rattle.edit_strings.specs.Views.{lent_texts}
use Rattle.edit_strings.proofs.DistinctFacts.{new_kept, new_left, old_stays}
use Rattle.edit_strings.proofs.TextFacts.{listed_push, match_false, match_true, one_more}
use Rattle.edit_strings.proofs.collected.collected_texts.Goals as goal
use Rattle.edit_strings.proofs.collected.collected_texts.Goals.{then-branch+in_ok-is_collected+then-branch-2+in_ok-push, then-branch+in_ok-is_collected+else-branch-2, else-branch}

pub texts-init : goal.texts-init
texts-init c = record {
  found =
      subst (λ l. AreThoseThat (CanBeCollected (known_in c.args.known.now) c.args.least (lent_texts c.args.texts.now)) [] (lent_texts l))
      (sym c.new-found.ensures.items) AreThoseThat.none;
  met = λ text. ap (λ ks. is_in_set (record { keys = ks }) text) c.new-met.ensures.empty;
}

pub texts-preserved : goal.texts-preserved
texts-preserved c =
    let P = CanBeCollected (known_in c.args.known.now) c.args.least (lent_texts c.args.texts.now) in
    let nobody : Bor (List ℕ) = record { ref_ptr = (0, 0); now = [] } in
    let i = c.texts.text-index in
    let x : Bor (List ℕ) = get_or c.args.texts.now i nobody in
    let so_far : List (List ℕ) = lent_texts (take i c.args.texts.now) in
    let old : List (List ℕ) = lent_texts c.texts.found.items in
    let more : lent_texts (take (i + 1) c.args.texts.now) ≡ so_far ++ x.now ∷ [] =
    one_more (λ t. t.now) c.args.texts.now i x c.texts-test.true
    (get_or_default c.args.texts.now i nobody x c.texts-test.true) in
    let was : is_in_set c.texts.met x.now ≡ is_listed so_far x.now = c.texts.invariant.met x.now in
    let added : c.in_ok-insert.field-0 ≡ not (is_in_set c.texts.met x.now) = c.in_ok-insert.ensures.added in
    record {
      found = subst (λ ts. AreThoseThat P (distinct ts) (lent_texts c.if-branch.found.items)) (sym more) (elim c.if-branch.branch [
        | then-branch+in_ok-is_collected+then-branch-2+in_ok-push w ↦
            let items : lent_texts c.if-branch.found.items ≡ old ++ x.now ∷ [] =
            ap (λ v. lent_texts v.items) w.found-is ∙ ap lent_texts w.in_ok-push.ensures.items
            ∙ map-append (λ t. t.now) c.texts.found.items (x ∷ []) in
            subst (AreThoseThat P (distinct (so_far ++ x.now ∷ []))) (sym items)
            (new_kept P so_far old x.now
            (sym was ∙ not-true (is_in_set c.texts.met x.now) (sym added ∙ w.if-branch.true))
            (match_true _ _ _ (w.in_ok-is_collected.ensures (lent_texts c.args.texts.now) (c.requires x.now))
            w.if-branch-2.true) c.texts.invariant.found)
        | then-branch+in_ok-is_collected+else-branch-2 w ↦
            subst (λ l. AreThoseThat P (distinct (so_far ++ x.now ∷ [])) (lent_texts l.items)) (sym w.found-is)
            (new_left P so_far old x.now
            (sym was ∙ not-true (is_in_set c.texts.met x.now) (sym added ∙ w.if-branch.true))
            (match_false _ _ _ (w.in_ok-is_collected.ensures (lent_texts c.args.texts.now) (c.requires x.now))
            w.if-branch-2.false) c.texts.invariant.found)
        | else-branch w ↦
            subst (λ l. AreThoseThat P (distinct (so_far ++ x.now ∷ [])) (lent_texts l.items)) (sym w.found-is)
            (old_stays P so_far old x.now
            (sym was ∙ not-false (is_in_set c.texts.met x.now) (sym added ∙ w.if-branch.false)) c.texts.invariant.found)
      ]);
      met = λ text.
          let one : Bor (List ℕ) = record { ref_ptr = (0, 0); now = text } in
          c.in_ok-insert.ensures.updates.0 one ∙ ap (λ b. cond b true (is_in_set c.texts.met text)) (is_eq-slice_cmp x.now text)
          ∙ ap (cond (bytes_eq x.now text) true) (c.texts.invariant.met text) ∙ or_cond (bytes_eq x.now text) (is_listed so_far text)
          ∙ sym (listed_push so_far x.now text) ∙ ap (λ ts. is_listed ts text) (sym more);
    }
