use Rattle.std.proofs.Common.{◌≡◌, cond, Some, map, arith, sym, ap, ◌∙◌}
use Rattle.bib_syntax.specs.Views.{field_of}
use Rattle.bib_syntax.specs.declared.raw.Pair.{Pair}
use Rattle.edit_entries.specs.Documents.{has_name}
use Rattle.edit_strings.specs.Tables.{start_at}
use Rattle.edit_strings.proofs.IndexFacts.{before_step}
use Rattle.edit_strings.proofs.OrderFacts.{one_more, pair_start}
use Rattle.edit_strings.proofs.expanding.add_before.Goals as goal

pub definitions-preserved : goal.definitions-preserved
definitions-preserved c =
    let xs = c.args.definitions.now in
    let n = c.definitions.next in
    let x = c.index-definitions-next.result in
    let y = c.index-definitions-next-in-definitions.result in
    let start : start_at (map field_of xs) n ≡ x.key.span.start = pair_start xs n x c.definitions-test.true c.index-definitions-next.is in
    record {
      from = omega (arith, c.definitions.invariant.from);
      within = omega (arith, c.definitions-test.true);
      indices = λ name.
          c.in_ok-add_definition.ensures name
          ∙ ap (cond (has_name name (field_of y)) (Some n)) (c.definitions.invariant.indices name)
          ∙ sym (before_step xs n y name c.definitions-test.true c.index-definitions-next-in-definitions.is);
      before = one_more (map field_of xs) c.args.start c.args.from n c.definitions.invariant.before
          (omega (arith, start, ap (λ (y : Pair). y.key.span.start) c.index-definitions-next.is, c.if-definitions-next.false));
    }

pub returns-then-definitions-next-clause-next : goal.returns-then-definitions-next-clause-next
returns-then-definitions-next-clause-next c = λ inside less.
    omega (
      arith,
      pair_start c.args.definitions.now c.definitions.next c.index-definitions-next.result c.definitions-test.true
          c.index-definitions-next.is,
      ap (λ (y : Pair). y.key.span.start) c.index-definitions-next.is,
      less,
      c.if-definitions-next.true,
    )
