-- Meaning: words of public contracts.
-- Equality of bibliographies.
use Rattle.std.specs.Prelude.{Bool, ◌&&◌, nat_eq}
use Rattle.std.specs.Cmp.{IsEquivalence, IsPartialEquivalence, and_per, and_equiv, on_per, on_equiv, partial_equiv_from_equiv, nat_eq_equiv}
use Rattle.std.specs.Cmp.Lexicographic.{pointwise, lists_per, lists_equiv}
use Rattle.bib_entry.specs.contracts.entry.EntryPartialEq.TheImpl as entry
use Rattle.bib_entry.specs.contracts.entry.EntryPartialEq.TheImpl.Laws as entry_per
use Rattle.bib_entry.specs.contracts.entry.EntryEq.TheImpl.Laws as entry_equiv
use Rattle.bib_file_entries.specs.Bibliography.{Bibliography}
use Rattle.bib_collections.specs.TextMap.{same_pairs, same_pairs_per, same_pairs_equiv}

-- whether two bibliographies have equal entries in the same order, and the same names, each pointing to the same index
abbrev pub same_bibliography : Bibliography → Bibliography → Bool
same_bibliography a b = pointwise entry.ghosts.eq a.entries b.entries && same_pairs nat_eq a.names b.names

-- a lemma: `same_bibliography` is a partial equivalence
pub same_bibliography_per : IsPartialEquivalence same_bibliography
same_bibliography_per =
    and_per (on_per (λ l. l.entries) (lists_per entry_per.laws-law))
    (on_per (λ l. l.names) (same_pairs_per (partial_equiv_from_equiv nat_eq_equiv)))

-- a lemma: `same_bibliography` is an equivalence
pub same_bibliography_equiv : IsEquivalence same_bibliography
same_bibliography_equiv =
    and_equiv (on_equiv (λ l. l.entries) (lists_equiv entry_equiv.laws-law))
    (on_equiv (λ l. l.names) (same_pairs_equiv nat_eq_equiv))
