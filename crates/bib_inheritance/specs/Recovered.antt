-- Meaning: words of public contracts.
-- Inheritance in a file with errors: entries on cycles lose their references, and unreadable dates are not inherited.
use Rattle.std.specs.Prelude.{◌≡◌, ℕ, ◌+◌, true, List, [], ◌∷◌, ◌++◌, length, map, codes, slice_get, Some}
use Rattle.std.specs.FinMap as by_name
use Rattle.std.specs.declared.ops.Range.{Range}
use Rattle.bib_entry.specs.declared.entry.Entry.{Entry}
use Rattle.bib_collections.specs.Graph.{Graph, HasNoCycle, Leads}
use Rattle.bib_collections.specs.Sorted.{ByText}
use Rattle.bib_syntax.specs.declared.raw.ParseError.{ParseError}
use Rattle.bib_inheritance.specs.Resolving.{AllKeepChunks, Inherits, IsCycleAt, IsDateError, graph_by, has_bad_date, texts_of_entries}

-- an entry without `crossref` and `xdata`
abbrev pub without_references : Entry → Entry
without_references e = record e { fields = by_name.remove (by_name.remove e.fields (codes "crossref")) (codes "xdata") }

-- `cut` has the same entries as `own`, except that each entry on a cycle has lost its references
pub record AreCut (graph : Graph) (own cut : List Entry) : Type 0 where
  pub same_length : length cut ≡ length own
  pub on_cycle : (index : ℕ) (entry : Entry) → slice_get own index ≡ Some entry → Leads graph index index
      → slice_get cut index ≡ Some (without_references entry)
  pub off_cycle : (index : ℕ) (entry : Entry) → slice_get own index ≡ Some entry → (Leads graph index index → ⊥)
      → slice_get cut index ≡ Some entry

-- the errors of the indices below a number, in order: one for each index for which `fails` holds, related to it by `reports`
pub data EachReported (fails : ℕ → Type 0) (reports : ℕ → ParseError → Type 0) : ℕ → List ParseError → Type 0 where
  none : EachReported fails reports 0 []
  passed : {index : ℕ} {errors : List ParseError} → EachReported fails reports index errors → (fails index → ⊥)
      → EachReported fails reports (index + 1) errors
  reported : {index : ℕ} {errors : List ParseError} {e : ParseError} → EachReported fails reports index errors
      → fails index → reports index e → EachReported fails reports (index + 1) (errors ++ e ∷ [])

-- the entries after inheriting, and the errors. First each entry on a cycle loses its references, and then all entries
-- inherit. The first errors are those of the entries on cycles, in order. The others are those of the entries that lack a
-- required date and refer to an entry with an unreadable date, in order
pub record AreRecovered (spans : List (Range ℕ)) (names : ByText ℕ) (own entries : List Entry) (errors : List ParseError) : Type 0 where
  pub cut : List Entry
  pub are_cut : AreCut (graph_by names own) own cut
  pub no_cycle : HasNoCycle (graph_by names cut)
  pub keys : map (λ e. e.key) entries ≡ map (λ e. e.key) own
  pub inherits : Inherits (texts_of_entries cut) (graph_by names cut) (texts_of_entries entries)
  pub chunks : AllKeepChunks cut entries
  pub cycles : List ParseError
  pub each_cycle : EachReported (λ index. Leads (graph_by names own) index index) (IsCycleAt spans own) (length own) cycles
  pub dates : List ParseError
  pub each_date : EachReported
      (λ index. has_bad_date (texts_of_entries cut) (graph_by names cut) (texts_of_entries entries) index ≡ true)
      (IsDateError cut (graph_by names cut) (texts_of_entries entries)) (length own) dates
  pub are : errors ≡ cycles ++ dates
