-- Machinery: words of private contracts.
-- Cycles that are removed, and errors of dates.
use Rattle.std.specs.Prelude.{◌≡◌, ℕ, List, length, map}
use Rattle.std.specs.declared.ops.Range.{Range}
use Rattle.bib_entry.specs.declared.entry.Entry.{Entry}
use Rattle.bib_tables.specs.declared.type_error.TypeError.{TypeError}
use Rattle.bib_collections.specs.Graph.{Graph, HasNoCycle, IsInRange, Leads, refs_of}
use Rattle.bib_collections.specs.Sorted.{ByText}
use Rattle.bib_syntax.specs.declared.raw.ParseError.{ParseError}
use Rattle.bib_syntax.specs.declared.raw.ParseErrorKind.TheVariants.{ResolutionError}
use Rattle.bib_inheritance.specs.Recovered.{AreCut, EachReported}
use Rattle.bib_inheritance.specs.Resolving.{IsCycleAt, graph_by}
use Rattle.bib_inheritance.specs.Turning.{IsUnreadDate}

-- the entries and their graph after each entry on a cycle has lost its references, with an error for each of these entries
pub record IsCut (spans : List (Range ℕ)) (own : List Entry) (graph : Graph) (entries : List Entry) (left : Graph)
    (errors : List ParseError) : Type 0 where
  pub cut : AreCut graph own entries
  pub keys : map (λ e. e.key) entries ≡ map (λ e. e.key) own
  pub in_range : IsInRange graph → IsInRange left
  pub no_cycle : HasNoCycle left
  pub follows : (names : ByText ℕ) → graph ≡ graph_by names own → left ≡ graph_by names entries
  pub reported : EachReported (λ index. Leads graph index index) (IsCycleAt spans own) (length own) errors

-- the error of an entry that refers to an entry with an unreadable date
pub record IsUnreadError (graph : Graph) (entries : List Entry) (index : ℕ) (e : ParseError) : Type 0 where
  pub error : TypeError
  pub unread : IsUnreadDate entries (refs_of graph index) error
  pub is : e ≡ record { span = error.span; kind = ResolutionError error.kind }
