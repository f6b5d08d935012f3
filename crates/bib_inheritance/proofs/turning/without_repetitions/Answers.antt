use Rattle.std.proofs.Common.{map, ◌≡◌, ◌+◌, ◌∷◌, [], ◌∙◌, ℕ, true, ap, sym, subst, get_or, eqb, take}
use Rattle.std.specs.BTreeSet.{contains}
use Rattle.std.specs.List.{All, Contains, list_any}
use Rattle.std.specs.Ordering.{nat_cmp}
use Rattle.std.proofs.lemmas.List.Elements.{All-append, All-cons, All-contains_itself, All-nil, Contains-get_or}
use Rattle.bib_text.proofs.BoolFacts.{true_from_not}
use Rattle.bib_inheritance.specs.Inherited.{inherited_field}
use Rattle.bib_inheritance.proofs.TurnFacts.{GivesSame, gives_again, gives_more, seen_more}
use Rattle.bib_inheritance.proofs.turning.without_repetitions.Goals as goal
use Rattle.bib_inheritance.proofs.turning.without_repetitions.Goals.{then-branch+in_ok-push, else-branch}

pub indices-preserved : goal.indices-preserved
indices-preserved c =
    let indices = c.args.indices.now in
    let i = c.indices.index-index in
    let p : ℕ = get_or indices i 0 in
    elim c.if-branch.branch [
      | then-branch+in_ok-push w ↦
          let pushed = ap (λ v. v.items) w.first-is ∙ w.in_ok-push.ensures.items in
          record {
            among = subst (All (Contains indices)) (sym pushed)
                (All-append (Contains indices) c.indices.first.items (p ∷ []) c.indices.invariant.among
                (All-cons (Contains indices) p [] (Contains-get_or indices i 0 c.indices-test.true)
                (All-nil (Contains indices))));
            seen = λ q.
                seen_more indices i q (contains nat_cmp c.indices.seen q) (contains nat_cmp c.insert.new.self q)
                c.indices-test.true (c.in_ok-insert.ensures.updates.0 q) (c.indices.invariant.seen q);
            same =
                subst (λ l. GivesSame l (take (i + 1) indices)) (sym pushed)
                (gives_more c.indices.first.items indices i c.indices-test.true c.indices.invariant.same);
          }
      | else-branch w ↦
          let kept = ap (λ v. v.items) w.first-is in
          let again : list_any (λ x. eqb x p) (take i indices) ≡ true =
          sym (c.indices.invariant.seen p)
          ∙ true_from_not (contains nat_cmp c.indices.seen p) (sym w.if-branch.false ∙ c.in_ok-insert.ensures.added) in
          record {
            among = subst (All (Contains indices)) (sym kept) c.indices.invariant.among;
            seen = λ q.
                seen_more indices i q (contains nat_cmp c.indices.seen q) (contains nat_cmp c.insert.new.self q)
                c.indices-test.true (c.in_ok-insert.ensures.updates.0 q) (c.indices.invariant.seen q);
            same =
                subst (λ l. GivesSame l (take (i + 1) indices)) (sym kept)
                (gives_again c.indices.first.items indices i c.indices-test.true again c.indices.invariant.same);
          }
    ]

pub returns-then-indices-lt2-clause-among : goal.returns-then-indices-lt2-clause-among
returns-then-indices-lt2-clause-among c =
    rw (c.in_ok-all.ensures.items_if_clones_equal (λ x y e. e)) (All-contains_itself c.args.indices.now)

pub returns-then-indices-lt2-clause-same : goal.returns-then-indices-lt2-clause-same
returns-then-indices-lt2-clause-same c = λ at entry_type name.
    ap (λ l. inherited_field entry_type name (map at l)) (c.in_ok-all.ensures.items_if_clones_equal (λ x y e. e))
