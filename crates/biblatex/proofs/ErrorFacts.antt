-- Two first errors of a file agree.
use Rattle.std.proofs.Common.{◌≡◌, ℕ, sym, ap, ◌∙◌, subst, arith, inl, inr, Some}
use Rattle.std.proofs.lemmas.Bool.{cases_lt}
use Rattle.bib_collections.specs.Graph.{Graph, IsFirstOnCycle}
use Rattle.bib_syntax.specs.Reading.{EntryReading, FileReading}
use Rattle.bib_syntax.specs.declared.raw.ParseError.{ParseError}
use Rattle.bib_syntax.specs.declared.raw.ParseErrorKind.TheVariants.{ReferenceCycle}
use Rattle.bib_text.proofs.ListFacts.{some_same}
use Rattle.biblatex.specs.Resolved.{AreOneErrorOf, IsCycleError, IsFirstErrorOf, graph_of}
use Rattle.bib_file_entries.proofs.LoadedFacts.{no_entries}
use Rattle.biblatex.proofs.IndexLaws.{entries_error_same}
use Rattle.biblatex.proofs.ResolvedFacts.{graph_same}

-- the first index on a cycle is unique
first_same : (graph : Graph) (a b : ℕ) → IsFirstOnCycle graph a → IsFirstOnCycle graph b → a ≡ b
first_same graph a b one other = elim (cases_lt a b) [
  | inl less ↦ absurd (other.first a less one.cycle)
  | inr more ↦ elim (cases_lt b a) [
    | inl less ↦ absurd (one.first b less other.cycle)
    | inr same ↦ omega (arith, more, same)
  ]
]

-- `e` is the error of a cycle at this raw entry
error_at_index : ParseError → EntryReading → Type 0
error_at_index e said = e ≡ record { span = record { start = said.start; end = said.end }; kind = ReferenceCycle said.key.text }

-- the error of the cycle of an index is unique
cycle_same : (says : FileReading) (index : ℕ) (e f : ParseError) → IsCycleError says index e → IsCycleError says index f → e ≡ f
cycle_same says index e f one other =
    let same : one.said ≡ other.said = some_same (sym one.there ∙ other.there) in
    one.is
    ∙ ap
    (λ (said : EntryReading).
    (let error : ParseError =
    record { span = record { start = said.start; end = said.end }; kind = ReferenceCycle said.key.text } in
    error)) same ∙ sym other.is

-- two first errors of a raw bibliography agree
pub file_error_same : (says : FileReading) {e f : ParseError} → IsFirstErrorOf says e → IsFirstErrorOf says f → AreOneErrorOf e f
file_error_same says (IsFirstErrorOf.entry one) (IsFirstErrorOf.entry other) = inl (entries_error_same one other)
file_error_same says (IsFirstErrorOf.entry one) (IsFirstErrorOf.cycle are first is) = absurd (no_entries one are)
file_error_same says (IsFirstErrorOf.entry one) (IsFirstErrorOf.date are none solves looks earlier is) = absurd (no_entries one are)
file_error_same says (IsFirstErrorOf.cycle are first is) (IsFirstErrorOf.entry other) = absurd (no_entries other are)
file_error_same says {e} {f} (IsFirstErrorOf.cycle {index = a} are first is)
    (IsFirstErrorOf.cycle {own = own} {index = b} are' first' is') =
    let same : a ≡ b = first_same (graph_of own) a b (subst (λ g. IsFirstOnCycle g a) (graph_same says are are') first) first' in
    inl (inl (cycle_same says b e f (subst (λ p. IsCycleError says p e) same is) is'))
file_error_same says (IsFirstErrorOf.cycle {index = a} are first is) (IsFirstErrorOf.date {own = own} are' none solves looks earlier is') =
    absurd
    (none a (subst (λ g. IsFirstOnCycle g a) (graph_same says are are') first).within
    (subst (λ g. IsFirstOnCycle g a) (graph_same says are are') first).cycle)
file_error_same says (IsFirstErrorOf.date are none solves looks earlier is) (IsFirstErrorOf.entry other) = absurd (no_entries other are)
file_error_same says (IsFirstErrorOf.date {own = own} are none solves looks earlier is) (IsFirstErrorOf.cycle {index = b} are' first' is') =
    absurd
    (none b (subst (λ g. IsFirstOnCycle g b) (graph_same says are' are) first').within
    (subst (λ g. IsFirstOnCycle g b) (graph_same says are' are) first').cycle)
file_error_same says (IsFirstErrorOf.date are none solves looks earlier is) (IsFirstErrorOf.date are' none' solves' looks' earlier' is') =
    inr (record { kind = is.kind; is = is.is; of_dates = is.of_dates }, record { kind = is'.kind; is = is'.is; of_dates = is'.of_dates })
