use Rattle.std.proofs.Common.{◌≡◌, ◌≤◌, ◌+◌, ◌∙◌, ◌++◌, ◌∷◌, [], List, ℕ, map, take, length, sym, ap, ap₂, arith, lit<}
use Rattle.std.specs.Prelude.{◌==◌, ◌||◌, fold}
use Rattle.std.specs.List.{slice_split}
use Rattle.std.proofs.lemmas.List.{map-append, take_more}
use Rattle.std.proofs.Math.Facts.{Fits-of_lt}
use Rattle.std.proofs.lemmas.Iterator.Consumers.{YieldsList-end, YieldsList-so_far, YieldsList-turn}
use Rattle.std.proofs.lemmas.Iterator.Splits.{YieldsList-from_str_split}
use Rattle.bib_queries.specs.Citations.{add_citation, cites_all, cites_from}
use Rattle.bib_queries.specs.Lines.{aux_cited}
use Rattle.bib_queries.proofs.CitationFacts.{collected_next, past, past_below, past_push}
use Rattle.bib_queries.proofs.citations.in_aux.Goals as goal

pub overflow_add-at-in-lines : goal.overflow_add-at-in-lines
overflow_add-at-in-lines c =
    let road = YieldsList-from_str_split 10 c.args.text.now (lit< tt) (cc) (cc) (cc) in
    let before : List (List ℕ) = map (λ line. line.now) c.lines.yielded in
    let line : List ℕ = c.in-Some.line.now in
    let all : List (List ℕ) = slice_split (λ b. b == 10) c.args.text.now in
    let far = YieldsList-so_far road c.lines.yielded _ c.lines.yielded_by in
    let turn = YieldsList-turn road c.lines.yielded _ c.lines.yielded_by _ _ c.in-Some.line c.in-Some.is c.next.ensures.steps in
    let next : before ++ line ∷ [] ≡ take (length c.lines.yielded + 1) all =
    ap₂ (λ l x. l ++ x ∷ []) far turn.1 ∙ sym (take_more all (length c.lines.yielded) line turn.0) in
    let below : past before + length line ≤ length c.args.text.now =
    past_below (λ b. b == 10) c.args.text.now before line (length c.lines.yielded + 1) next in
    let at : c.lines.at ≡ past before = c.lines.invariant.place in
    Fits-of_lt (omega arith)

pub lines-preserved : goal.lines-preserved
lines-preserved c =
    let before : List (List ℕ) = map (λ line. line.now) c.lines.yielded in
    let next : map (λ line. line.now) (c.lines.yielded ++ c.in-Some.line ∷ []) ≡ before ++ c.in-Some.line.now ∷ [] =
    map-append (λ line. line.now) c.lines.yielded (c.in-Some.line ∷ []) in
    record {
      place =
          ap (λ n. n + (length c.in-Some.line.now + 1)) c.lines.invariant.place
          ∙ sym (ap past next ∙ past_push before c.in-Some.line.now);
      collected =
          rw next
          (collected_next aux_cited c.new-collected.result c.lines.collected c.add_line.new.self before
          c.in-Some.line.now c.lines.at c.lines.invariant.place c.lines.invariant.collected
          c.in_ok-add_line.ensures);
    }

pub returns : goal.returns
returns c =
    let all =
    (YieldsList-end (YieldsList-from_str_split 10 c.args.text.now (lit< tt) (cc) (cc) (cc)) c.lines.yielded _
    c.lines.yielded_by _ _ c.in-None.is c.next.ensures.steps).0
    in
    let collected = c.lines.invariant.collected in
    record {
      keys =
          c.into_citations.ensures.keys ∙ collected.keys
          ∙ ap (λ l. fold add_citation l (cites_from aux_cited 0 (map (λ line. line.now) c.lines.yielded)))
          c.new-collected.ensures.keys ∙ ap (λ l. fold add_citation [] (cites_from aux_cited 0 l)) all;
      all =
          c.into_citations.ensures.all ∙ collected.all
          ∙ ap (λ b. b || cites_all (cites_from aux_cited 0 (map (λ line. line.now) c.lines.yielded)))
          c.new-collected.ensures.all ∙ ap (λ l. cites_all (cites_from aux_cited 0 l)) all;
    }
