use Rattle.std.proofs.Common.{◌≡◌, ◌++◌, ◌∙◌, ◌-◌, ℕ, List, ap, append_assoc, drop, length, sym, take, false}
use Rattle.std.specs.Borrow.{Bor}
use Rattle.std.specs.String.{string_bytes}
use Rattle.std.proofs.lemmas.List.{drop-map, take-map}
use Rattle.bib_text.proofs.ListFacts.{take_to_end}
use Rattle.edit_entry_merge.specs.ConflictTexts.{MarkerLines, begin_with_same, between_markers, marked_lines, marker_lines}
use Rattle.edit_entry_merge.specs.Lines.{lent_lines}
use Rattle.edit_entry_merge.proofs.LineFacts.{marked, parts_are}
use Rattle.edit_entry_merge.proofs.conflict_text.marked_text.Goals as goal

pub returns : goal.returns
returns c =
    let m : MarkerLines = marker_lines c.args.markers in
    let xs : List (Bor (List ℕ)) = c.args.ours.now in
    let ys : List (Bor (List ℕ)) = c.args.theirs.now in
    let s : ℕ = c.shared_start-start.result in
    let rs : List (Bor (List ℕ)) = take (length xs - s) (drop s xs) in
    let qs : List (Bor (List ℕ)) = take (length ys - s) (drop s ys) in
    let e : ℕ = c.shared_end-end.result in
    let k : ℕ = length rs - e in
    let j : ℕ = length qs - e in
    let our_rest : lent_lines rs ≡ drop s (lent_lines xs) = ap lent_lines (take_to_end xs s) ∙ sym (drop-map (λ l. l.now) s xs) in
    let their_rest : lent_lines qs ≡ drop s (lent_lines ys) = ap lent_lines (take_to_end ys s) ∙ sym (drop-map (λ l. l.now) s ys) in
    let lines : lent_lines c.deref.result.now
    ≡ marked_lines m
    (record {
      start = take s (lent_lines xs);
      ours = take k (lent_lines rs);
      theirs = take j (lent_lines qs);
      end =
          drop k (lent_lines rs);
    }) =
    ap lent_lines c.deref.ensures.value ∙ c.in_ok-push_lines-2.ensures
    ∙ ap (λ l. l ++ lent_lines (take (length rs - k) (drop k rs))) (c.in_ok-push_marked.ensures
    ∙ ap (λ l. l ++ between_markers m (lent_lines (take k rs)) (lent_lines (take j qs)))
    (c.in_ok-push_lines.ensures ∙ ap (λ l. lent_lines l ++ lent_lines (take s xs)) c.new-lines.ensures.items))
    ∙ append_assoc (lent_lines (take s xs)) (between_markers m (lent_lines (take k rs)) (lent_lines (take j qs)))
    (lent_lines (take (length rs - k) (drop k rs)))
    ∙ ap (λ l. l ++ (between_markers m (lent_lines (take k rs)) (lent_lines (take j qs)) ++ lent_lines (take (length rs - k) (drop k rs))))
    (sym (take-map (λ l. l.now) s xs))
    ∙ ap (λ l. take s (lent_lines xs) ++ (between_markers m l (lent_lines (take j qs)) ++ lent_lines (take (length rs - k) (drop k rs))))
    (sym (take-map (λ l. l.now) k rs))
    ∙ ap (λ l. take s (lent_lines xs) ++ (between_markers m (take k (lent_lines rs)) l ++ lent_lines (take (length rs - k) (drop k rs))))
    (sym (take-map (λ l. l.now) j qs))
    ∙ ap (λ l. take s (lent_lines xs) ++ (between_markers m (take k (lent_lines rs)) (take j (lent_lines qs)) ++ l))
    (ap lent_lines (take_to_end rs k) ∙ sym (drop-map (λ l. l.now) k rs)) in
    let longest : begin_with_same (lent_lines rs) (lent_lines qs) ≡ false =
    ap (λ l. begin_with_same l (lent_lines qs)) our_rest ∙ ap (begin_with_same (drop s (lent_lines xs))) their_rest
    ∙ c.shared_start-start.ensures.longest in
    marked string_bytes c.joined_lines.result m (lent_lines xs) (lent_lines ys)
    (lent_lines c.deref.result.now) _ c.joined_lines.ensures lines
    (parts_are (lent_lines xs) (lent_lines ys) (lent_lines rs) (lent_lines qs) s k j our_rest their_rest c.shared_start-start.ensures.same
    c.shared_end-end.ensures.same longest c.shared_end-end.ensures.longest)
