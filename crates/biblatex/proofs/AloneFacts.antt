-- Entries without `crossref` and `xdata`: inheriting leaves their types and the styled texts of their fields unchanged.
use Rattle.std.proofs.Common.{◌≡◌, ℕ, zero, suc, ◌<◌, List, [], ◌∷◌, length, map, refl, sym, ap, ◌∙◌, subst, Option, Some, None, arith, inl, inr}
use Rattle.std.specs.Prelude.{◌&&◌, slice_index_or, codes, bytes_eq, option_map}
use Rattle.std.specs.List.{AllByRecursion, AllZip, Contains}
use Rattle.std.specs.FinMap as by_name
use Rattle.std.proofs.lemmas.Bool.{cases_Bool}
use Rattle.bib_chunks.specs.Styled.{Atom, styled}
use Rattle.bib_collections.specs.Sorted.{ByText}
use Rattle.bib_entry.specs.declared.entry.Entry.{Entry}
use Rattle.bib_collections.specs.Graph.{refs_of, Leads, HasNoCycle}
use Rattle.bib_inheritance.specs.InheritableDate.{looks_for_date}
use Rattle.bib_inheritance.specs.Inherited.{plain_field, field_by, with_inherited_fields}
use Rattle.bib_inheritance.specs.References.{references}
use Rattle.bib_inheritance.specs.EntryTexts.{EntryTexts, fields_of, first_some, no_entry}
use Rattle.bib_inheritance.specs.Resolving.{graph_by, texts_of_entry, texts_of_entries, at_index, Inherits, AreDatesRead}
use Rattle.bib_inheritance.proofs.TurnFacts.{date_alone}
use Rattle.biblatex.specs.Resolved.{names_of, graph_of}
use Rattle.std.proofs.Math.Bool.{and-false}
use Rattle.bib_text.proofs.BytesFacts.{bytes_same}

-- an entry without `crossref` and `xdata`
pub record RefersToNothing (e : Entry) : Type 0 where
  pub crossref : by_name.get e.fields (codes "crossref") ≡ None
  pub xdata : by_name.get e.fields (codes "xdata") ≡ None

no_references : (names : ByText ℕ) (e : Entry) → RefersToNothing e → references names (fields_of e.fields) ≡ []
no_references names e none = rw (none.crossref, none.xdata) refl

-- if no entry has references, no index of the graph has any
no_row : (names : ByText ℕ) (own : List Entry) (index : ℕ) → AllByRecursion RefersToNothing own → refs_of (graph_by names own) index ≡ []
no_row names [] index all = refl
no_row names (e ∷ own) zero all = no_references names e all.0
no_row names (e ∷ own) (suc index) all = no_row names own index all.1

nothing_in : {a : ℕ} {xs : List ℕ} → xs ≡ [] → Contains xs a → ⊥
nothing_in {a} {xs} none holds = let here = subst (λ ys. Contains ys a) none holds in absurd (omega (arith, here.1))

-- the graph of entries that refer to nothing has no cycle
pub no_cycle : (own : List Entry) → AllByRecursion RefersToNothing own → HasNoCycle (graph_of own)
no_cycle own all index within leads = none leads
  where
    none : {a b : ℕ} → Leads (graph_of own) a b → ⊥
    none {a} (Leads.one holds) = nothing_in (no_row (names_of own) own a all) holds
    none {a} (Leads.more holds rest) = nothing_in (no_row (names_of own) own a all) holds

-- if no entry has references, none that lacks a required date refers to an entry with an unreadable date
pub no_dates : (own : List Entry) (values : List EntryTexts) → AllByRecursion RefersToNothing own
    → AreDatesRead (texts_of_entries own) (graph_of own) values
no_dates own values all index =
    rw (no_row (names_of own) own index all) (and-false (looks_for_date (at_index (texts_of_entries own) index)))

-- a graph has a row for each entry
pub rows_length : (names : ByText ℕ) (own : List Entry) → length (graph_by names own) ≡ length own
rows_length names [] = refl
rows_length names (e ∷ own) = ap suc (rows_length names own)

-- if no entry has references, the solution at an index in range is the own entry after inheriting from nothing
own_value : (own : List Entry) (values : List EntryTexts) (index : ℕ) → AllByRecursion RefersToNothing own
    → Inherits (texts_of_entries own) (graph_of own) values → index < length own
    → at_index values index ≡ with_inherited_fields (at_index (texts_of_entries own) index) []
own_value own values index all inherits within =
    inherits.each index (subst (λ n. index < n) (sym (rows_length (names_of own) own)) within)
    ∙ ap (λ refs. with_inherited_fields (at_index (texts_of_entries own) index) (map (λ r. slice_index_or values r no_entry) refs))
    (no_row (names_of own) own index all)

-- without references, each field of an entry without `xdata` is its own
plain_alone : (own : List ℕ → Option (List Atom)) (name : List ℕ) → own (codes "xdata") ≡ None
    → plain_field own (λ name. None) name ≡ own name
plain_alone own name none =
    elim (cases_Bool (bytes_eq name (codes "xdata"))) [
      | inl is ↦ rw is (sym (ap own (bytes_same name (codes "xdata") is) ∙ none))
      | inr other ↦ rw other (found (own name))
    ]
  where
    found : (o : Option (List Atom)) → first_some o None ≡ o
    found None = refl
    found (Some atoms) = refl

-- inheriting from nothing leaves each field of an entry without `xdata` unchanged
rule_alone : (own : EntryTexts) (name : List ℕ) → own.fields (codes "xdata") ≡ None
    → (with_inherited_fields own []).fields name ≡ own.fields name
rule_alone own name none = ap (λ date. field_by date own.fields (λ name. None) name) (date_alone own) ∙ plain_alone own.fields name none

-- an entry has the type and the styled texts of the own entry
pub record IsAsWritten (own entry : Entry) : Type 0 where
  pub entry_type : entry.entry_type ≡ own.entry_type
  pub fields : (name : List ℕ) → option_map styled (by_name.get entry.fields name) ≡ option_map styled (by_name.get own.fields name)

-- if `RefersToNothing` holds for an own entry, the entry with its texts after inheriting from nothing has its type and styled texts
as_written : (own entry : Entry) → RefersToNothing own
    → texts_of_entry entry ≡ with_inherited_fields (texts_of_entry own) [] → IsAsWritten own entry
as_written own entry none same = record {
  entry_type = ap (λ s. s.entry_type) same;
  fields = λ name. ap (λ s. s.fields name) same ∙ rule_alone (texts_of_entry own) name (rw none.xdata refl);
}

-- if own entries have no `crossref` and `xdata`, entries with their texts after inheriting from nothing have their types and styled texts
all_as_written : (own entries : List Entry) → AllByRecursion RefersToNothing own → length entries ≡ length own
    →
    ((index : ℕ) → index < length own
    → at_index (texts_of_entries entries) index ≡ with_inherited_fields (at_index (texts_of_entries own) index) [])
    → AllZip IsAsWritten own entries
all_as_written [] [] all size each = tt
all_as_written [] (e ∷ entries) all size each = absurd (omega (arith, size))
all_as_written (o ∷ own) [] all size each = absurd (omega (arith, size))
all_as_written (o ∷ own) (e ∷ entries) all size each = (
  as_written o e all.0 (each zero (omega arith)),
  all_as_written own entries all.1 (omega (arith, size)) (λ index within. each (suc index) (omega (arith, within))),
)

length-map : {A B : Type 0} (f : A → B) (xs : List A) → length (map f xs) ≡ length xs
length-map f [] = refl
length-map f (x ∷ xs) = ap suc (length-map f xs)

-- if no own entry has `crossref` or `xdata`, the entries of a solution have the types and styled texts of the own entries
pub entries_as_written : (own entries : List Entry) → AllByRecursion RefersToNothing own
    → Inherits (texts_of_entries own) (graph_of own) (texts_of_entries entries) → AllZip IsAsWritten own entries
entries_as_written own entries all inherits =
    all_as_written own entries all
    (sym (length-map texts_of_entry entries) ∙ inherits.same_length ∙ rows_length (names_of own) own)
    (λ index within. own_value own (texts_of_entries entries) index all inherits within)
