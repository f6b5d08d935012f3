use Rattle.std.proofs.Common.{◌≡◌, ◌++◌, ap, sym, subst, ◌∙◌}
use Rattle.std.specs.Prelude.{None, codes}
use Rattle.std.specs.Io.KnownBytes.{Appends}
use Rattle.std.proofs.lemmas.Result.{err_from_is_err_and}
use Rattle.bib_findings.specs.Codes.{code_name, severity_name}
use Rattle.bibkit_core.specs.Answered.{meaning_text}
use Rattle.bibkit_core.specs.Steps.{IsMeaningPrinted}
use Rattle.bibkit_core.proofs.RunFacts.{stopped_at_once, stopped_so}
use Rattle.bibkit_core.proofs.run.explain.Goals as goal

pub returns-clause-printed : goal.returns-clause-printed
returns-clause-printed g c =
    let meaning = c.explanation.result.now in
    let rest = codes "): " ++ (meaning ++ codes "\n") in
    let spelled : c.as_str.result.now ≡ meaning_text c.args.code meaning
    = c.as_str.ensures.value ∙ c.in_ok-text.ensures.ok ∙ ap (λ n. n ++ (codes " (" ++ (c.name-2.result.now ++ rest))) c.name.ensures
    ∙ ap (λ n. code_name c.args.code ++ (codes " (" ++ (n ++ rest))) (c.name-2.ensures ∙ ap severity_name c.severity.ensures) in
    record {
      text = meaning_text c.args.code meaning;
      prints = IsMeaningPrinted.all meaning;
      printed =
          subst (λ t. Appends (g.K.Sink.taken c.args.output.now) (g.K.Sink.taken c.print.new.output) t) spelled
          c.in_ok-print.ensures.printed;
    }

pub returns-in_err-text-clause-stopped : goal.returns-in_err-text-clause-stopped
returns-in_err-text-clause-stopped g c =
    let p = err_from_is_err_and c.from_residual.result c.from_residual.ensures.1 in
    rw (p.1, p.2) (stopped_at_once c.args.output.now)

pub returns-in_err-print-clause-stopped : goal.returns-in_err-print-clause-stopped
returns-in_err-print-clause-stopped g c =
    let p = err_from_is_err_and c.from_residual-in_err-print.result c.from_residual-in_err-print.ensures.1 in
    rw (p.1, p.2)
    (stopped_so (λ text none. subst (λ u. IsMeaningPrinted c.args.code u None) (sym none) IsMeaningPrinted.nothing)
    (λ unread. absurd unread) c.in_err-print.ensures.stopped)
