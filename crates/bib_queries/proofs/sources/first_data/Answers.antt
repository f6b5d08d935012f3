use Rattle.std.proofs.Common.{◌∙◌, ◌++◌, ◌==◌, map, length, sym, ap, lit<}
use Rattle.std.specs.List.{slice_split}
use Rattle.std.specs.Option.{option_map}
use Rattle.std.proofs.lemmas.Iterator.Consumers.{YieldsList-end, YieldsList-so_far, YieldsList-turn}
use Rattle.std.proofs.lemmas.Iterator.Splits.{YieldsList-from_str_split}
use Rattle.bib_queries.specs.Names.{comma_parts}
use Rattle.bib_queries.proofs.SourceFacts.{nothing_named, something_named}
use Rattle.bib_queries.proofs.sources.first_data.Goals as goal

pub returns-in-Some-aux_data : goal.returns-in-Some-aux_data
returns-in-Some-aux_data c =
    let road = YieldsList-from_str_split 10 c.args.text.now (lit< tt) (cc) (cc) (cc) in
    let far = YieldsList-so_far road c.lines.yielded _ c.lines.yielded_by in
    let turn = YieldsList-turn road c.lines.yielded _ c.lines.yielded_by _ _ c.in-Some.line c.in-Some.is c.next.ensures.steps in
    c.in_ok-push_parts.ensures
    ∙ ap (λ l. l ++ comma_parts c.in-Some-aux_data.list.now) (c.lines.invariant.0 ∙ ap (map (λ n. n.now)) c.new-names.ensures.items)
    ∙ sym
    (something_named (map (λ line. line.now) c.lines.yielded) (slice_split (λ b. b == 10) c.args.text.now) (length c.lines.yielded)
    c.in-Some.line.now c.in-Some-aux_data.list.now far turn.0 (sym turn.1)
    (sym c.aux_data.ensures ∙ ap (option_map (λ list. list.now)) c.in-Some-aux_data.is) c.lines.invariant.1)

pub returns : goal.returns
returns c =
    let all =
    (YieldsList-end (YieldsList-from_str_split 10 c.args.text.now (lit< tt) (cc) (cc) (cc)) c.lines.yielded _
    c.lines.yielded_by _ _ c.in-None.is c.next.ensures.steps).0 in
    c.lines.invariant.0 ∙ ap (map (λ n. n.now)) c.new-names.ensures.items
    ∙ sym
    (nothing_named (map (λ line. line.now) c.lines.yielded) (slice_split (λ b. b == 10) c.args.text.now) all c.lines.invariant.1)
