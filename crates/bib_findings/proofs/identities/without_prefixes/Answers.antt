use Rattle.std.proofs.Common.{List, ℕ, []}
use denote.Ref.{Bor}
use Rattle.bib_findings.proofs.IdentityFacts.{prefix_gone, prefix_here}
use Rattle.bib_findings.proofs.identities.without_prefixes.Goals as goal

abbrev no_prefix : Bor (List ℕ)
no_prefix = record { ref_ptr = (0, 0); now = [] }

pub returns-in-Some : goal.returns-in-Some
returns-in-Some c =
    prefix_here c.args.text.now c.args.prefixes.now c.prefixes.prefix-index no_prefix c.in-Some.rest.now
    c.prefixes-test.true c.prefixes.invariant c.in-Some.ensures.cases

pub prefixes-preserved : goal.prefixes-preserved
prefixes-preserved c =
    prefix_gone c.args.text.now c.args.prefixes.now c.prefixes.prefix-index no_prefix c.prefixes-test.true
    c.prefixes.invariant c.in_default.ensures.cases
