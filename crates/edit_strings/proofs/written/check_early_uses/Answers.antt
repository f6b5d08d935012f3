use Rattle.std.proofs.Common.{cond, Some, map, arith, sym, ap, ◌∙◌}
use Rattle.std.proofs.lemmas.List.{length-map}
use Rattle.bib_syntax.specs.Views.{field_of}
use Rattle.edit_entries.specs.Documents.{has_name}
use Rattle.edit_strings.proofs.IndexFacts.{before_step}
use Rattle.edit_strings.proofs.WrittenFacts.{early_is, none_more}
use Rattle.edit_strings.proofs.written.check_early_uses.Goals as goal

pub returns-then-branch-clause-refused : goal.returns-then-branch-clause-refused
returns-then-branch-clause-refused c =
    let xs = c.args.definitions.now in
    let i = c.definitions.index in
    let definition = c.index-definitions-index.result in
    record {
      within = omega (arith, length-map xs field_of, c.definitions-test.true);
      early =
          sym
          (early_is xs i definition c.definitions-test.true c.index-definitions-index.is c.args.all.now c.definitions.indices
          c.requires.all c.definitions.invariant.indices)
          ∙ sym c.in_ok-has_early_use.ensures ∙ c.if-branch.true;
      first = c.definitions.invariant.none;
    }

pub definitions-preserved : goal.definitions-preserved
definitions-preserved c =
    let xs = c.args.definitions.now in
    let i = c.definitions.index in
    let definition = c.index-definitions-index.result in
    record {
      indices = λ name.
          c.in_ok-add_definition.ensures name
          ∙ ap (cond (has_name name (field_of definition)) (Some i)) (c.definitions.invariant.indices name)
          ∙ sym (before_step xs i definition name c.definitions-test.true c.index-definitions-index.is);
      none =
          none_more (map field_of xs) i c.definitions.invariant.none
          (sym
          (early_is xs i definition c.definitions-test.true c.index-definitions-index.is c.args.all.now c.definitions.indices
          c.requires.all c.definitions.invariant.indices)
          ∙ sym c.in_ok-has_early_use.ensures ∙ c.if-branch.false);
    }
