use Rattle.std.proofs.Common.{◌≡◌, ◌<◌, ◌-◌, arith, Some, length, sym, subst}
use Rattle.bib_collections.specs.Names.{AreIndicesBelow}
use Rattle.bib_file_entries.specs.Bibliography.{entry_of}
use Rattle.bib_file_entries.proofs.BibliographyFacts.{below_more, below_without_index, found_at}
use Rattle.biblatex.proofs.bibliography.Bibliography.remove.Goals as goal

pub invariant_of-self : goal.invariant_of-self
invariant_of-self c =
    let inside : c.in_ok-index.index < length c.self.inside.entries.items =
    c.self.invariant c.args.key.now c.in_ok-index.index (sym c.in_ok-index.ensures) in
    let old : AreIndicesBelow (length c.self.inside.entries.items - 1) c.close_gap.new.self =
    rw c.close_gap.ensures
    (below_without_index (length c.self.inside.entries.items) c.self.inside.names c.in_ok-index.index
    c.self.invariant inside) in
    below_more _ _ c.close_gap.new.self old (omega (arith, c.remove.new.self.ok.0, c.self.inside.entries.ok.0, c.remove.ensures.len))

pub returns-clause-had : goal.returns-clause-had
returns-clause-had c =
    let inside : c.in_ok-index.index < length c.self.inside.entries.items =
    c.self.invariant c.args.key.now c.in_ok-index.index (sym c.in_ok-index.ensures) in
    subst (λ l. Some c.remove.result ≡ entry_of l c.args.key.now) c.self.view_is
    (found_at _ c.args.key.now c.in_ok-index.index c.remove.result (sym c.in_ok-index.ensures) inside
    c.remove.ensures.value)
