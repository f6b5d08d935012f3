use Rattle.std.proofs.Common.{◌≡◌, ◌≤◌, ◌+◌, ◌∙◌, ◌++◌, ◌∷◌, [], List, ℕ, map, take, length, sym, ap, ap₂, arith, lit<}
use Rattle.std.specs.Prelude.{◌==◌, ◌||◌, fold}
use Rattle.std.specs.List.{slice_split}
use Rattle.std.proofs.lemmas.List.{map-append, take_more}
use Rattle.std.proofs.Math.Facts.{Fits-of_lt}
use Rattle.std.proofs.lemmas.Iterator.Consumers.{YieldsList-end, YieldsList-so_far, YieldsList-turn}
use Rattle.std.proofs.lemmas.Iterator.Splits.{YieldsList-from_str_split}
use Rattle.bib_queries.specs.Citations.{add_citation, bcf_cited, cites_all, cites_from}
use Rattle.bib_queries.specs.Elements.{set_names}
use Rattle.bib_queries.proofs.CitationFacts.{collected_next, past, past_below, past_push}
use Rattle.bib_queries.proofs.citations.in_bcf.Goals as goal

pub overflow_add-at-in-elements : goal.overflow_add-at-in-elements
overflow_add-at-in-elements c =
    let road = YieldsList-from_str_split 60 c.args.text.now (lit< tt) (cc) (cc) (cc) in
    let before : List (List ℕ) = map (λ line. line.now) c.elements.yielded in
    let line : List ℕ = c.in-Some.piece.now in
    let all : List (List ℕ) = slice_split (λ b. b == 60) c.args.text.now in
    let far = YieldsList-so_far road c.elements.yielded _ c.elements.yielded_by in
    let turn = YieldsList-turn road c.elements.yielded _ c.elements.yielded_by _ _ c.in-Some.piece c.in-Some.is c.next.ensures.steps in
    let next : before ++ line ∷ [] ≡ take (length c.elements.yielded + 1) all =
    ap₂ (λ l x. l ++ x ∷ []) far turn.1 ∙ sym (take_more all (length c.elements.yielded) line turn.0) in
    let below : past before + length line ≤ length c.args.text.now =
    past_below (λ b. b == 60) c.args.text.now before line (length c.elements.yielded + 1) next in
    let at : c.elements.at ≡ past before = c.elements.invariant.place in
    Fits-of_lt (omega arith)

pub elements-preserved : goal.elements-preserved
elements-preserved c =
    let before : List (List ℕ) = map (λ line. line.now) c.elements.yielded in
    let next : map (λ line. line.now) (c.elements.yielded ++ c.in-Some.piece ∷ []) ≡ before ++ c.in-Some.piece.now ∷ [] =
    map-append (λ line. line.now) c.elements.yielded (c.in-Some.piece ∷ []) in
    record {
      place =
          ap (λ n. n + (length c.in-Some.piece.now + 1)) c.elements.invariant.place
          ∙ sym (ap past next ∙ past_push before c.in-Some.piece.now);
      collected =
          rw next
          (collected_next (bcf_cited (set_names c.args.text.now)) c.new-collected.result c.elements.collected c.add_element.new.self before
          c.in-Some.piece.now c.elements.at c.elements.invariant.place c.elements.invariant.collected
          (c.in_ok-add_element.ensures (set_names c.args.text.now) c.in_ok-sets.ensures));
    }

pub returns : goal.returns
returns c =
    let all =
    (YieldsList-end (YieldsList-from_str_split 60 c.args.text.now (lit< tt) (cc) (cc) (cc)) c.elements.yielded _
    c.elements.yielded_by _ _ c.in-None.is c.next.ensures.steps).0
    in
    let collected = c.elements.invariant.collected in
    record {
      keys =
          c.into_citations.ensures.keys ∙ collected.keys
          ∙ ap (λ l. fold add_citation l (cites_from (bcf_cited (set_names c.args.text.now)) 0 (map (λ line. line.now) c.elements.yielded)))
          c.new-collected.ensures.keys ∙ ap (λ l. fold add_citation [] (cites_from (bcf_cited (set_names c.args.text.now)) 0 l)) all;
      all =
          c.into_citations.ensures.all ∙ collected.all
          ∙ ap (λ b. b || cites_all (cites_from (bcf_cited (set_names c.args.text.now)) 0 (map (λ line. line.now) c.elements.yielded)))
          c.new-collected.ensures.all ∙ ap (λ l. cites_all (cites_from (bcf_cited (set_names c.args.text.now)) 0 l)) all;
    }
