-- The entries that references find, and their types.
use Rattle.std.proofs.Common.{◌≡◌, ℕ, zero, suc, ◌+◌, ◌<◌, Bool, true, false, cond, List, [], ◌∷◌, ◌++◌, length, map, take, get_or, refl, sym, ap, ◌∙◌, arith, Option, Some, None, is_some, drop}
use Rattle.std.specs.Prelude.{bytes_eq, ◌||◌}
use Rattle.std.specs.Borrow.{Bor}
use Rattle.std.proofs.lemmas.List.{get_or-map, length-map, length-take-le}
use Rattle.std.proofs.lemmas.Slice.Eq.{bytes_eq-Decides}
use Rattle.bib_text.proofs.ListFacts.{mapped_more}
use Rattle.bib_syntax.specs.Reading.{EntryReading}
use Rattle.bib_tables.specs.Requirements.{is_container}
use Rattle.bib_tables.specs.declared.mechanics.EntryType.{EntryType}
use Rattle.edit_entries.specs.Documents.{first_position, is_keyed, next_index}
use Rattle.edit_entries.specs.References.{has_alias}
use Rattle.std.specs.Option.{option_or}
use Rattle.edit_resolve.specs.Parents.{container_index, entry_at, entry_index, no_reading, parent_index, type_of}
use Rattle.edit_resolve.specs.declared.parents.Link.{Link}
use Rattle.edit_resolve.specs.declared.parents.Link.TheVariants.{Crossref, Xdata}

-- the first index that passes is less than the length of the list
pub first_within : {A : Type 0} (test : A → Bool) (xs : List A) (i : ℕ) → first_position test xs ≡ Some i → i < length xs
first_within test [] i found = absurd (cc)
first_within test (x ∷ xs) i found =
    by_case (test x) (first_position test xs) (λ j is. first_within test xs j is) found
  where
    by_case : (b : Bool) (o : Option ℕ) → ((j : ℕ) → o ≡ Some j → j < length xs) → cond b (Some 0) (next_index o) ≡ Some i
        → i < suc (length xs)
    by_case true o later is = let zero_is : zero ≡ i = cc in omega arith
    by_case false None later is = absurd (cc)
    by_case false (Some j) later is = let one_more : suc j ≡ i = cc in omega (arith, later j refl)

-- the index of the entry that Biber finds by a name is less than the number of entries
pub entry_within : (entries : List EntryReading) (name : List ℕ) (i : ℕ) → entry_index entries name ≡ Some i → i < length entries
entry_within entries name i found =
    by_case (first_position (is_keyed name) entries) (first_position (has_alias name) entries)
    (λ j is. first_within (is_keyed name) entries j is) (λ j is. first_within (has_alias name) entries j is) found
  where
    by_case : (o p : Option ℕ) → ((j : ℕ) → o ≡ Some j → j < length entries) → ((j : ℕ) → p ≡ Some j → j < length entries)
        → option_or o p ≡ Some i → i < length entries
    by_case (Some j) p first second is = first i is
    by_case None p first second is = second i is

-- the index of the parent that a reference finds is less than the number of entries
pub parent_within : (entries : List EntryReading) (link : Link) (key : List ℕ) (i : ℕ) → parent_index entries link key ≡ Some i
    → i < length entries
parent_within entries Crossref key i found = entry_within entries key i found
parent_within entries Xdata key i found =
    by_case (entry_index entries key) (λ j is. entry_within entries key j is) found
  where
    by_case : (o : Option ℕ) → ((j : ℕ) → o ≡ Some j → j < length entries) → container_index entries o ≡ Some i → i < length entries
    by_case None within is = absurd (cc)
    by_case (Some j) within is = tested (is_container (type_of (entry_at entries j))) is
      where
        tested : (b : Bool) → cond b (Some j) None ≡ Some i → i < length entries
        tested true same = within i same
        tested false same = absurd (cc)

-- the index, if the entry there has the type `xdata`, is that of the container
pub container_found : (entries : List EntryReading) (o : Option ℕ) (i : ℕ) (b : Bool) → o ≡ Some i
    → is_container (type_of (entry_at entries i)) ≡ b → cond b (Some i) None ≡ container_index entries o
container_found entries o i b found is =
    ap (λ t. cond t (Some i) None) (sym is) ∙ ap (container_index entries) (sym found)

-- the type at the index of an entry, among the types of all, is that of the entry
pub type_found : (entries : List EntryReading) (types : List EntryType) (i : ℕ) (type : EntryType) → types ≡ map type_of entries
    → i < length entries → type ≡ get_or types i type → type ≡ type_of (entry_at entries i)
type_found entries types i type are within is = is ∙ ap (λ ks. get_or ks i type) are ∙ get_or-map type_of entries i no_reading type within
