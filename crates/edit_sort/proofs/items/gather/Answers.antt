use Rattle.std.proofs.Common.{◌≡◌, ◌+◌, ◌<◌, ◌≤◌, ℕ, List, ◌++◌, ◌∷◌, drop, get_or, length, map, sym, ap, ◌∙◌, subst, arith}
use Rattle.std.specs.Prelude.{◌==◌}
use Rattle.std.proofs.lemmas.List.{get_or-map, length-map}
use Rattle.bib_text.specs.Characters as char
use Rattle.bib_syntax.specs.Recovery.{has_byte}
use Rattle.bib_syntax.specs.Views.{entry_reading_of}
use Rattle.edit_sort.specs.Cuts.{AreItemsCut}
use Rattle.edit_sort.specs.Ranks.{item_reading_of}
use Rattle.edit_sort.specs.Sorted.{Item, comment_in, entry_place, first_with_key_of, gap_before, place_at, rank, space_in}
use Rattle.edit_sort.specs.Steps.{items_from, place_after, run_after, spaces_from}
use Rattle.edit_sort.proofs.GatherFacts.{gathered_more, next_entry, run_small, space_is}
use Rattle.edit_sort.proofs.items.gather.Goals as goal

pub entries-preserved : goal.entries-preserved
entries-preserved c =
    let all = map entry_reading_of c.args.entries.now in
    let text = c.args.text.now in
    let places = c.args.places.now in
    let index = c.entries.index in
    let at = c.entries.at in
    let e = entry_reading_of c.index-entries-index.result in
    let gap = gap_before text at e in
    let rest = map entry_reading_of (drop (index + 1) c.args.entries.now) in
    let next = next_entry c.args.entries.now index c.index-entries-index.result c.entries-test.true c.index-entries-index.is in
    let cut = subst (AreItemsCut text index at) next c.entries.invariant.cut in
    let gap_is : c.range-gap.result.now ≡ gap = c.range-gap.ensures.value in
    let comment_is : c.comment_in-comment.result.now ≡ comment_in (index == 0) gap =
    c.comment_in-comment.ensures ∙ ap (comment_in (index == 0)) gap_is in
    let run_is : c.run_after-run.result ≡ run_after c.entries.run gap = c.run_after-run.ensures ∙ ap (run_after c.entries.run) gap_is in
    let space : c.range.result.now ≡ space_in (index == 0) gap =
    c.range.ensures.value
    ∙ space_is (index == 0) text c.range-gap.result.now c.comment_in-comment.result.now at e.start gap_is
    c.comment_in-comment.ensures cut.0.gap.ordered cut.0.gap.end_cut.0 in
    let within : index < length c.args.entries.now = c.entries-test.true in
    let ranked : get_or c.args.ranks.now index 0 ≡ rank all e =
    ap (λ l. get_or l index 0) c.requires.ranks
    ∙ get_or-map (rank all) all index e 0 (omega (arith, length-map c.args.entries.now entry_reading_of))
    ∙ ap (rank all)
    (get_or-map entry_reading_of c.args.entries.now index c.index-entries-index.result e within
    ∙ ap entry_reading_of (sym c.index-entries-index.is)) in
    let owned : get_or c.args.owners.now index 0 ≡ first_with_key_of all e =
    ap (λ l. get_or l index 0) c.requires.owners
    ∙ get_or-map (first_with_key_of all) all index e 0 (omega (arith, length-map c.args.entries.now entry_reading_of))
    ∙ ap (first_with_key_of all)
    (get_or-map entry_reading_of c.args.entries.now index c.index-entries-index.result e within
    ∙ ap entry_reading_of (sym c.index-entries-index.is)) in
    let placed : c.place_at.result ≡ entry_place all places e = c.place_at.ensures ∙ ap (place_at places) owned in
    let build =
    λ (run rank by : ℕ) (comment : List ℕ).
    let i : Item = record { run = run; rank = rank; place = by; comment = comment; entry = e } in i in
    record {
      spaces =
          gathered_more (λ s. s.now) c.entries.spaces.items c.push.new.self.items c.range.result
          (space_in (index == 0) gap) (spaces_from text (index + 1) (e.end + 1) rest) (spaces_from text 0 0 all)
          c.in_ok-push.ensures.items space
          (ap (λ es. map (λ s. s.now) c.entries.spaces.items ++ spaces_from text index at es) (sym next) ∙ c.entries.invariant.spaces);
      items =
          gathered_more item_reading_of c.entries.items.items c.push-in-entries.new.self.items _
          (build (run_after c.entries.run gap) (rank all e) (entry_place all places e) (comment_in (index == 0) gap))
          (items_from all text places (index + 1) (e.end + 1) c.run_after-run.result rest)
          (items_from all text places 0 0 0 all) c.in_ok-push-2.ensures.items
          (ap (λ n. build n (get_or c.args.ranks.now index 0) c.place_at.result c.comment_in-comment.result.now) run_is
          ∙ ap (λ n. build (run_after c.entries.run gap) n c.place_at.result c.comment_in-comment.result.now) ranked
          ∙ ap (λ n. build (run_after c.entries.run gap) (rank all e) n c.comment_in-comment.result.now)
          placed
          ∙ ap (build (run_after c.entries.run gap) (rank all e) (entry_place all places e)) comment_is)
          (ap
          (λ n.
          map item_reading_of c.entries.items.items
          ++ build (run_after c.entries.run gap) (rank all e) (entry_place all places e)
          (comment_in (index == 0) gap) ∷ items_from all text places (index + 1) (e.end + 1) n rest)
          run_is
          ∙ ap (λ es. map item_reading_of c.entries.items.items ++ items_from all text places index at c.entries.run es)
          (sym next) ∙ c.entries.invariant.items);
      end = ap (place_after at) (sym next) ∙ c.entries.invariant.end;
      cut = cut.1;
      few = subst (λ n. n ≤ index + 1) (sym run_is) (run_small (has_byte char.at gap) c.entries.run index c.entries.invariant.few);
    }
