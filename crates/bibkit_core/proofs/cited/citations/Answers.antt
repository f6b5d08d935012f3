use Rattle.std.proofs.Common.{sym, subst, ◌∙◌}
use Rattle.std.specs.Prelude.{IfOk, MatchBool}
use Rattle.bib_queries.specs.Citations.{AreAuxCitations, AreBcfCitations}
use Rattle.bibkit_core.proofs.cited.citations.Goals as goal

pub returns-then-is_control_file : goal.returns-then-is_control_file
returns-then-is_control_file c =
    subst
    (λ b.
    IfOk c.in_bcf.result
    (λ found. MatchBool b (AreBcfCitations c.args.text.now found) (AreAuxCitations c.args.text.now found)))
    (sym c.if-is_control_file.true ∙ c.is_control_file.ensures) c.in_bcf.ensures

pub returns-else-is_control_file : goal.returns-else-is_control_file
returns-else-is_control_file c =
    subst
    (λ b.
    IfOk c.in_aux.result
    (λ found. MatchBool b (AreBcfCitations c.args.text.now found) (AreAuxCitations c.args.text.now found)))
    (sym c.if-is_control_file.false ∙ c.is_control_file.ensures) c.in_aux.ensures
