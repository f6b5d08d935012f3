use Rattle.std.proofs.Common.{◌≡◌, suc, ◌∙◌, ap, arith, cond, length, map, sym, take, ◌+◌, List}
use Rattle.std.proofs.lemmas.List.{length-map, length-take-le}
use Rattle.bib_text.proofs.ListFacts.{mapped_more}
use Rattle.edit_entry_merge.specs.Picks.{FieldPick, is_staying}
use Rattle.edit_entry_merge.specs.Working.{count_to_last, pick_of}
use Rattle.edit_entry_merge.proofs.CountFacts.{count_more}
use Rattle.edit_entry_merge.proofs.picks.count_to_last.Goals as goal
use Rattle.edit_entry_merge.proofs.picks.count_to_last.Goals.{then-is_staying, else-is_staying}

pub picks-preserved : goal.picks-preserved
picks-preserved c =
    let i = c.picks.index in
    let xs = c.args.picks.now in
    let x = c.index-picks-index.result in
    let before : List FieldPick = map pick_of (take i xs) in
    let size : length before ≡ i =
    length-map (take i xs) pick_of ∙ length-take-le i xs (omega (arith, c.picks-test.true)) in
    let is : count_to_last (map pick_of (take (i + 1) xs)) ≡ cond (is_staying (pick_of x)) (i + 1) (count_to_last before) =
    ap count_to_last (mapped_more pick_of xs i x c.picks-test.true c.index-picks-index.is) ∙ count_more before (pick_of x)
    ∙ ap (λ n. cond (is_staying (pick_of x)) n (count_to_last before)) (let next : suc (length before) ≡ i + 1 =
    omega (arith, size) in next) in
    elim c.if-is_staying.branch [
      | then-is_staying w ↦
          w.count-is ∙ ap (λ b. cond b (i + 1) (count_to_last before)) (sym w.if-is_staying.true ∙ c.is_staying.ensures) ∙ sym is
      | else-is_staying w ↦
          w.count-is ∙ c.picks.invariant
          ∙ ap (λ b. cond b (i + 1) (count_to_last before)) (sym w.if-is_staying.false ∙ c.is_staying.ensures) ∙ sym is
    ]
