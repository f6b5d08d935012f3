use Rattle.std.proofs.Common.{◌∷◌, ◌++◌, [], ap, map, ◌∙◌, subst, sym}
use Rattle.std.specs.Io.KnownBytes.{Appends}
use Rattle.std.proofs.lemmas.Iterator.{YieldsList-from_slice}
use Rattle.std.proofs.lemmas.Iterator.Consumers.{YieldsList-end}
use Rattle.std.proofs.lemmas.List.{map-append}
use Rattle.biblatex.proofs.WritingFacts.{appends_more}
use Rattle.bibkit_convert.specs.Converted.{texts_after, text_after, is_first_after, is_still_first}
use Rattle.bibkit_convert.proofs.ConvertedFacts.{first_push, text_push}
use Rattle.bibkit_convert.proofs.converting.print_entries.Goals as goal

pub entries-preserved : goal.entries-preserved
entries-preserved g c =
    let done = map (λ e. e.now) c.entries.yielded in
    let entry = c.in-Some.entry.now in
    let more = map-append (λ e. e.now) c.entries.yielded (c.in-Some.entry ∷ []) in
    record {
      printed = appends_more _ _ _ _ _ _ c.entries.invariant.printed c.in_ok-is_still_first.ensures.printed
          (ap (texts_after c.args.target c.args.is_first) more ∙ text_push c.args.target c.args.is_first done entry
          ∙ ap (λ b. texts_after c.args.target c.args.is_first done ++ text_after c.args.target b entry) (sym c.entries.invariant.next));
      next = c.in_ok-is_still_first.ensures.next ∙ ap (λ b. is_still_first c.args.target b entry) c.entries.invariant.next
          ∙ sym (first_push c.args.target c.args.is_first done entry) ∙ ap (is_first_after c.args.target c.args.is_first) (sym more);
      same = c.in_ok-is_still_first.ensures.same ∙ c.entries.invariant.same;
    }

pub returns-clause-printed : goal.returns-clause-printed
returns-clause-printed g c =
    let all =
    YieldsList-end
    (YieldsList-from_slice c.args.bibliography.now.entries c.into_iter-entry-iterator.ensures.into_iter_gives)
    c.entries.yielded _ c.entries.yielded_by _ _ c.in-None.is c.next.ensures.steps in
    subst
    (λ entries.
    Appends (g.K.Sink.taken c.args.output.now) (g.K.Sink.taken c.entries.output)
    (texts_after c.args.target c.args.is_first entries)) all.0 c.entries.invariant.printed

pub returns-clause-next : goal.returns-clause-next
returns-clause-next g c =
    let all =
    YieldsList-end
    (YieldsList-from_slice c.args.bibliography.now.entries c.into_iter-entry-iterator.ensures.into_iter_gives)
    c.entries.yielded _ c.entries.yielded_by _ _ c.in-None.is c.next.ensures.steps in
    c.entries.invariant.next ∙ ap (is_first_after c.args.target c.args.is_first) all.0
