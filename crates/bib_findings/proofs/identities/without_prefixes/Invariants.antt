use Rattle.std.proofs.Common.{◌≡◌, map, drop}
use Rattle.bib_findings.specs.Identities.{without_prefixes}
use Rattle.bib_findings.proofs.identities.without_prefixes.Given as goal

-- the prefixes so far don't change the result
abbrev pub invariant-prefixes : goal.invariant-prefixes
invariant-prefixes l =
    without_prefixes l.text (map (λ p. p.now) l.prefixes)
    ≡ without_prefixes l.text (map (λ p. p.now) (drop l.prefix-index l.prefixes))
