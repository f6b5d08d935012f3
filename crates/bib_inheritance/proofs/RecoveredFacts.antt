-- Inheriting after the entries on cycles have lost their references.
use Rattle.std.proofs.Common.{◌≡◌, ℕ, List, ◌++◌, Bool, true, length, map, ◌∙◌, subst}
use Rattle.std.specs.declared.ops.Range.{Range}
use Rattle.bib_entry.specs.declared.entry.Entry.{Entry}
use Rattle.bib_collections.specs.Graph.{Graph, HasNoCycle, Leads}
use Rattle.bib_inheritance.specs.InheritableDate.{looks_for_date}
use Rattle.bib_collections.specs.Sorted.{ByText}
use Rattle.bib_syntax.specs.declared.raw.ParseError.{ParseError}
use Rattle.bib_inheritance.specs.Cutting.{IsCut, IsUnreadError}
use Rattle.bib_inheritance.specs.Recovered.{AreCut, AreRecovered, EachReported}
use Rattle.bib_inheritance.specs.Resolving.{AllKeepChunks, Inherits, IsCycleAt, IsDateError, graph_by, has_bad_date, texts_of_entries, texts_of_entry}
use Rattle.bib_inheritance.specs.Turning.{is_unread_at}
use Rattle.bib_inheritance.proofs.DateErrors.{dates_reported}

-- if the entries on cycles lost their references, and all entries then inherited, they are the recovery, with the errors of
-- both
pub recovered : (spans : List (Range ℕ)) (names : ByText ℕ) (own cut entries : List Entry) (graph left : Graph)
    (looks : List Bool) (n : ℕ) (cycles dates errors : List ParseError)
    → graph ≡ graph_by names own → IsCut spans own graph cut left cycles
    → map (λ e. e.key) entries ≡ map (λ e. e.key) cut → Inherits (texts_of_entries cut) left (texts_of_entries entries)
    → AllKeepChunks cut entries
    → looks ≡ map (λ e. looks_for_date (texts_of_entry e)) cut → n ≡ length own
    → EachReported (λ index. is_unread_at looks left (texts_of_entries entries) index ≡ true) (IsUnreadError left entries) n dates
    → errors ≡ cycles ++ dates → AreRecovered spans names own entries errors
recovered spans names own cut entries graph left looks n cycles dates errors graph_is h keys inherits chunks are long each is =
    let left_is : left ≡ graph_by names cut = h.follows names graph_is in
    let values = texts_of_entries entries in
    record {
      cut = cut;
      are_cut = subst (λ g. AreCut g own cut) graph_is h.cut;
      no_cycle = subst HasNoCycle left_is h.no_cycle;
      keys = keys ∙ h.keys;
      inherits = subst (λ g. Inherits (texts_of_entries cut) g (texts_of_entries entries)) left_is inherits;
      chunks = chunks;
      cycles = cycles;
      each_cycle =
          subst (λ (g : Graph). EachReported (λ index. Leads g index index) (IsCycleAt spans own) (length own) cycles)
          graph_is h.reported;
      dates = dates;
      each_date =
          subst
          (λ m.
          EachReported
          (λ index.
          has_bad_date (texts_of_entries cut) (graph_by names cut) (texts_of_entries entries) index
          ≡ true) (IsDateError cut (graph_by names cut) (texts_of_entries entries)) m dates) long
          (subst
          (λ g.
          EachReported (λ index. has_bad_date (texts_of_entries cut) g (texts_of_entries entries) index ≡ true)
          (IsDateError cut g (texts_of_entries entries)) n dates) left_is
          (dates_reported cut looks left entries n dates are keys chunks each));
      are = is;
    }
