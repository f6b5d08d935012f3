use Rattle.bib_collections.specs.Rows.{rows}
use Rattle.bib_inheritance.proofs.CutFacts.{HaveCut}
use Rattle.bib_inheritance.proofs.recovering.cut_cycles.Given as goal

-- the entries so far that are on cycles have lost their references
abbrev pub invariant-entries : goal.invariant-entries
invariant-entries l = HaveCut l.spans l.initial.entries (rows l.initial.refs) l.index l.entries (rows l.refs) l.errors.items
