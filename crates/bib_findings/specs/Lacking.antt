-- Meaning: words of public contracts.
-- Entries of which fields may be lost by a syntax error: those of skipped blocks, and those that refer to one by `crossref` or `xdata`,
-- directly or through others.
use Rattle.std.specs.Prelude.{◌≡◌, ℕ, Bool, true, false, List, [], ◌∷◌, length, slice_get}
use Rattle.std.specs.List.{Contains}
use Rattle.std.specs.Option.{option_map_or}
use Rattle.bib_collections.specs.Graph.{Graph, refs_of}
use Rattle.bib_collections.specs.Sorted.{ByText}
use Rattle.bib_entry.specs.declared.entry.Entry.{Entry}
use Rattle.bib_inheritance.specs.Resolving.{graph_by}
use Rattle.bib_queries.specs.Needed.{AreMarks}
use Rattle.bib_syntax.specs.Reading.{EntryReading}
use Rattle.bib_syntax.specs.declared.raw.recovery.SkippedBlock.{SkippedBlock}
use Rattle.bib_findings.specs.Cuts.{is_cut}

-- whether the kept entry with this index is cut; `origins` has the index in `said` of each kept entry
abbrev pub is_cut_at : List SkippedBlock → List EntryReading → List ℕ → ℕ → Bool
is_cut_at skipped said origins index =
    option_map_or (λ origin. option_map_or (is_cut skipped) (slice_get said origin) false) (slice_get origins index) false

-- whether fields of the entry with this index may be lost: it is cut, or refers to an entry of which fields may be lost. `graph` has for
-- each entry the indices of those that it refers to
pub data MayLack (graph : Graph) (is_cut : ℕ → Bool) : ℕ → Type 0 where
  cut : {index : ℕ} → is_cut index ≡ true → MayLack graph is_cut index
  refers : {index parent : ℕ} → Contains (refs_of graph index) parent → MayLack graph is_cut parent → MayLack graph is_cut index

-- whether `lacking` says for each kept entry whether fields of it may be lost. `own` has the entries with only the fields that each has
-- itself, so `crossref` and `xdata` are as in the file
abbrev pub AreLacking : List SkippedBlock → ByText ℕ → List EntryReading → List ℕ → List Entry → List Bool → Type 0
AreLacking skipped names said origins own lacking =
    AreMarks (MayLack (graph_by names own) (is_cut_at skipped said origins)) (length own) lacking

-- the entries, each after its flag; an entry without a flag gets `false`
abbrev pub with_flags : List Bool → List Entry → List (Bool × Entry)
with_flags flags [] = []
with_flags [] (entry ∷ entries) = (false, entry) ∷ with_flags [] entries
with_flags (flag ∷ flags) (entry ∷ entries) = (flag, entry) ∷ with_flags flags entries
