-- Fields in another order in which the last field of each name is the same.
use Rattle.std.proofs.Common.{◌≡◌, ℕ, List, [], ◌∷◌, ◌++◌, Bool, true, false, cond, reverse, refl, sym, ap, ◌∙◌}
use Rattle.std.specs.Prelude.{bytes_eq, find, not}
use Rattle.std.specs.List.{AllByRecursion, filter}
use Rattle.std.specs.Option.{option_or}
use Rattle.std.specs.Str.{str_to_ascii_lowercase}
use Rattle.std.proofs.lemmas.List.{reverse-append}
use Rattle.std.proofs.lemmas.List.Folds.{find-append}
use Rattle.std.proofs.lemmas.Slice.Eq.{bytes_eq-Decides}
use Rattle.bib_text.proofs.OptionFacts.{or_none}
use Rattle.bib_abbreviations.specs.Abbreviations.{Definitions}
use Rattle.edit_entries.specs.Documents.{has_name}
use Rattle.bib_file_entries.specs.Loaded.{AllCanBeRead, CanBeRead, field_in, name_of}
use Rattle.bib_syntax.specs.Reading.{EntryReading, FieldReading}
use Rattle.edit_format.specs.Formatted.{entry_in_order, is_copied}
use Rattle.edit_format.specs.Ordered.{in_order, order_of}
use Rattle.edit_format.specs.declared.style.Style.{Style}
use Rattle.edit_format.proofs.OrderFacts.{in_order_all}
use Rattle.edit_laws.proofs.FoundFacts.{find_failing, find_passing, reverse_filter}

-- each name has the same last field in both lists, and the fields of the second are readable if those of the first are
pub record IsReordered (fs gs : List FieldReading) : Type 0 where
  pub found : (name : List ℕ) → field_in gs name ≡ field_in fs name
  pub readable : (definitions : Definitions) → AllCanBeRead definitions fs → AllCanBeRead definitions gs

-- a field whose name in ASCII lowercase is `name` has the name `n` exactly if `name` is `n` in ASCII lowercase
pub named_alike : (n name : List ℕ) (f : FieldReading) → bytes_eq name (name_of f) ≡ true
    → has_name n f ≡ bytes_eq name (str_to_ascii_lowercase n)
named_alike n name f is = ap (λ t. bytes_eq t (str_to_ascii_lowercase n)) (sym ((bytes_eq-Decides name (name_of f)).0 is))

pub field_append : (fs gs : List FieldReading) (name : List ℕ) → field_in (fs ++ gs) name ≡ option_or (field_in gs name)
    (field_in fs name)
field_append fs gs name =
    ap (find (λ f. bytes_eq name (name_of f))) (reverse-append fs gs)
    ∙ find-append (λ f. bytes_eq name (name_of f)) (reverse gs) (reverse fs)

-- the last field whose name in ASCII lowercase is `name` is the last one among the fields without the name `n`, or else among those with it
field_parted : (n name : List ℕ) (fs : List FieldReading)
    → option_or (field_in (filter (λ f. not (has_name n f)) fs) name) (field_in (filter (has_name n) fs) name)
    ≡ field_in fs name
field_parted n name fs = by_name (bytes_eq name (str_to_ascii_lowercase n)) refl
  where
    test : FieldReading → Bool
    test f = bytes_eq name (name_of f)

    named : FieldReading → Bool
    named f = has_name n f

    other : FieldReading → Bool
    other f = not (has_name n f)

    by_name : (b : Bool) → bytes_eq name (str_to_ascii_lowercase n) ≡ b
        → option_or (find test (reverse (filter other fs))) (find test (reverse (filter named fs)))
        ≡ find test (reverse fs)
    by_name true is =
        ap (λ t. option_or (find test t) (find test (reverse (filter named fs)))) (reverse_filter other fs)
        ∙ ap (λ o. option_or o (find test (reverse (filter named fs))))
        (find_failing test other (λ f tests. ap not (named_alike n name f tests ∙ is)) (reverse fs))
        ∙ ap (find test) (reverse_filter named fs) ∙ find_passing test named (λ f tests. named_alike n name f tests ∙ is) (reverse fs)
    by_name false is =
        ap (λ t. option_or (find test (reverse (filter other fs))) (find test t)) (reverse_filter named fs)
        ∙ ap (λ o. option_or (find test (reverse (filter other fs))) o)
        (find_failing test named (λ f tests. named_alike n name f tests ∙ is) (reverse fs))
        ∙ or_none (find test (reverse (filter other fs)))
        ∙ ap (find test) (reverse_filter other fs)
        ∙ find_passing test other (λ f tests. ap not (named_alike n name f tests ∙ is)) (reverse fs)

-- the last field with each name is the same after fields are put into the order of any names
pub order_found : (names : List (List ℕ)) (fs : List FieldReading) (name : List ℕ) → field_in (in_order names fs) name ≡ field_in fs name
order_found [] fs name = refl
order_found (n ∷ ns) fs name =
    let rest = filter (λ f. not (has_name n f)) fs in
    field_append (filter (has_name n) fs) (in_order ns rest) name
    ∙ ap (λ o. option_or o (field_in (filter (has_name n) fs) name)) (order_found ns rest name)
    ∙ field_parted n name fs

each_read : (definitions : Definitions) (fs : List FieldReading) → AllCanBeRead definitions fs → AllByRecursion (CanBeRead definitions) fs
each_read definitions [] all = _
each_read definitions (f ∷ fs) all = (all.0, each_read definitions fs all.1)

all_read : (definitions : Definitions) (fs : List FieldReading) → AllByRecursion (CanBeRead definitions) fs → AllCanBeRead definitions fs
all_read definitions [] all = tt
all_read definitions (f ∷ fs) all = (all.0, all_read definitions fs all.1)

pub is_reordered : (names : List (List ℕ)) (fs : List FieldReading) → IsReordered fs (in_order names fs)
is_reordered names fs = record {
  found = order_found names fs;
  readable = λ definitions all.
      all_read definitions (in_order names fs)
      (in_order_all (CanBeRead definitions) names fs (each_read definitions fs all));
}

-- an entry has the key and the type of another, and its fields as `IsReordered` states
pub record IsEntryReordered (one other : EntryReading) : Type 0 where
  pub key : other.key ≡ one.key
  pub kind : other.kind ≡ one.kind
  pub fields : IsReordered one.fields other.fields

pub entry_reordered : (style : Style) (text : List ℕ) (e : EntryReading) → IsEntryReordered e (entry_in_order style text e)
entry_reordered style text e = by_comment (is_copied text e)
  where
    by_comment : (b : Bool) → IsEntryReordered e (cond b e (record e { fields = in_order (order_of style) e.fields }))
    by_comment true = record { key = refl; kind = refl; fields = record { found = λ name. refl; readable = λ definitions all. all } }
    by_comment false = record { key = refl; kind = refl; fields = is_reordered (order_of style) e.fields }
