-- The names of units, and the numbers in them.
use Rattle.std.proofs.Common.{◌≡◌, ◌<◌, ◌+◌, ℕ, Bool, true, false, cond, List, [], ◌∷◌, ◌++◌, Some, append_assoc, codes, drop, get_or, length, map, take, unwrap_or, refl, sym, ap, ◌∙◌, arith}
use Rattle.std.specs.Prelude.{bytes_eq}
use Rattle.std.specs.FinMap.{empty, get, get-empty, get-insert, insert}
use Rattle.std.specs.Fmt.{decimal}
use Rattle.std.specs.List.{count_by, sum_by}
use Rattle.std.proofs.lemmas.Cmp.{nat_list_cmp_total}
use Rattle.std.proofs.lemmas.List.{map-append}
use Rattle.std.proofs.lemmas.List.Sums.{sum_by-append}
use Rattle.std.proofs.lemmas.Map.Text.{is_eq-slice_cmp}
use Rattle.std.proofs.lemmas.Slice.Eq.{bytes_eq-Decides}
use Rattle.bib_collections.specs.Sorted.{ByText, by_bytes}
use Rattle.bib_text.proofs.ListFacts.{mapped_more}
use Rattle.bib_queries.proofs.EqualValueFacts.{from_index}
use Rattle.edit_units.specs.Views.{unit_reading_of}
use Rattle.edit_units.specs.declared.units.Unit.{Unit}
use Rattle.edit_versions.specs.Versions.{unique_names, own_name}

-- the own names of these units of a text
abbrev pub own_names : List ℕ → List Unit → List (List ℕ)
own_names text units = map (own_name text) (map unit_reading_of units)

-- the units at an index and after it have the own names of the unit there and of those after it
pub own_names_from : (text : List ℕ) (units : List Unit) (index : ℕ) (u : Unit) → index < length units → u ≡ get_or units index u
    → own_names text (drop index units) ≡ own_name text (unit_reading_of u) ∷ own_names text (drop (index + 1) units)
own_names_from text units index u within is =
    ap (own_names text) (from_index units index u within ∙ ap (λ x. x ∷ drop (index + 1) units) (sym is))

pub own_names_more : (text : List ℕ) (units : List Unit) (index : ℕ) (u : Unit) → index < length units → u ≡ get_or units index u
    → own_names text (take (index + 1) units) ≡ own_names text (take index units) ++ own_name text (unit_reading_of u) ∷ []
own_names_more text units index u within is =
    ap (map (own_name text)) (mapped_more unit_reading_of units index u within is)
    ∙ map-append (own_name text) (map unit_reading_of (take index units)) (unit_reading_of u ∷ [])

-- each own name points to the number of these own names that are equal to it, or to nothing if there is none
abbrev pub AreCounts : List (List ℕ) → ByText ℕ → Type 0
AreCounts earlier counts = (own : List ℕ) → unwrap_or (get counts own) 0 ≡ count_by (bytes_eq own) earlier

pub counts_none : (counts : ByText ℕ) → counts ≡ empty → AreCounts [] counts
counts_none counts is own = ap (λ m. unwrap_or (get m own) 0) is ∙ ap (λ o. unwrap_or o 0) (get-empty {X = ℕ} by_bytes own)

pub counts_more : (earlier : List (List ℕ)) (counts new : ByText ℕ) (own : List ℕ) (number : ℕ) → AreCounts earlier counts
    → number ≡ unwrap_or (get counts own) 0 → new ≡ insert counts own (number + 1) → AreCounts (earlier ++ own ∷ []) new
counts_more earlier counts new own number are number_is is name =
    ap (λ m. unwrap_or (get m name) 0) is
    ∙ ap (λ o. unwrap_or o 0)
    (get-insert nat_list_cmp_total counts own (number + 1) name
    ∙ ap (λ b. cond b (Some (number + 1)) (get counts name)) (is_eq-slice_cmp name own))
    ∙ by_tie (bytes_eq name own) refl
    ∙ sym (sum_by-append (λ x. cond (bytes_eq name x) 1 0) earlier (own ∷ []))
  where
    by_tie : (b : Bool) → bytes_eq name own ≡ b
        → unwrap_or (cond b (Some (number + 1)) (get counts name)) 0
        ≡ sum_by (λ x. cond (bytes_eq name x) 1 0) earlier + sum_by (λ x. cond (bytes_eq name x) 1 0) (own ∷ [])
    by_tie true tied =
        ap (λ n. n + 1)
        (number_is ∙ ap (λ k. unwrap_or (get counts k) 0) (sym ((bytes_eq-Decides name own).0 tied)) ∙ are name)
        ∙ ap (λ b. sum_by (λ x. cond (bytes_eq name x) 1 0) earlier + (0 + cond b 1 0)) (sym tied)
    by_tie false tied =
        are name ∙ omega arith ∙ ap (λ b. sum_by (λ x. cond (bytes_eq name x) 1 0) earlier + (0 + cond b 1 0)) (sym tied)

-- the names so far and those of later own names are all names, after one more name
pub names_more : (earlier later names whole : List (List ℕ)) (counts : ByText ℕ) (own : List ℕ) (number : ℕ)
    → AreCounts earlier counts → number ≡ unwrap_or (get counts own) 0
    → names ++ unique_names earlier (own ∷ later) ≡ whole
    → (names ++ (decimal number ++ (codes " " ++ own)) ∷ []) ++ unique_names (earlier ++ own ∷ []) later ≡ whole
names_more earlier later names whole counts own number are number_is so_far =
    append_assoc names ((decimal number ++ (codes " " ++ own)) ∷ []) (unique_names (earlier ++ own ∷ []) later)
    ∙ ap (λ n. names ++ ((decimal n ++ (codes " " ++ own)) ∷ unique_names (earlier ++ own ∷ []) later)) (number_is ∙ are own)
    ∙ so_far
