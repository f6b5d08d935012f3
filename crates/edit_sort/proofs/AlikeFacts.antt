-- Ranks of entries don't depend on spans, on the case of names or on the order of fields.
use Rattle.std.proofs.Common.{◌≡◌, ℕ, zero, suc, Bool, true, false, cond, List, [], ◌∷◌, None, length, map, refl, ap, ap₂, ◌∙◌}
use Rattle.std.specs.Prelude.{◌&&◌, ◌||◌, bytes_eq, codes, not}
use Rattle.std.specs.List.{filter, list_any}
use Rattle.std.specs.Option.{option_map_or}
use Rattle.std.specs.Str.{str_eq_ignore_ascii_case, str_to_ascii_lowercase}
use Rattle.std.proofs.lemmas.List.Folds.{list_any-append}
use Rattle.bib_text.proofs.BoolFacts.{or_grouped}
use Rattle.bib_syntax.specs.Grammar.{is_word}
use Rattle.bib_syntax.specs.Reading.{Piece, FieldReading, EntryReading}
use Rattle.bib_syntax.specs.Reading.Piece.{literal, abbreviation}
use Rattle.edit_entries.specs.Documents.{has_name}
use Rattle.edit_entries.specs.Edits.{moved_entry, moved_field, moved_piece}
use Rattle.edit_format.specs.Formatted.{entry_content, entry_in_lowercase, entry_in_order, field_in_lowercase, is_copied}
use Rattle.edit_format.specs.Ordered.{in_order, order_of}
use Rattle.edit_format.specs.declared.style.Style.{Style}
use Rattle.edit_format.proofs.LowerFacts.{lower_lower}
use Rattle.edit_sort.specs.Sorted.{crossref, greatest, has_chain, names_key, one_text, rank, refers_to}
use Rattle.edit_sort.proofs.GreatestFacts.{greatest_same}
use Rattle.edit_sort.proofs.SetFacts.{any_same, any_through}

pub head_same : {A : Type 0} (x y : A) (xs ys : List A) → x ∷ xs ≡ y ∷ ys → x ≡ y
head_same x y xs ys is = cc

pub rest_same : {A : Type 0} (x y : A) (xs ys : List A) → x ∷ xs ≡ y ∷ ys → xs ≡ ys
rest_same x y xs ys is = cc

-- ---- changes that keep keys and references

pub record KeepsReferences (change : EntryReading → EntryReading) : Type 0 where
  pub keyed : (e : EntryReading) → (change e).key.text ≡ e.key.text
  pub refers : (key : List ℕ) (e : EntryReading) → refers_to key (change e) ≡ refers_to key e

chain_kept : (all : List EntryReading) (change : EntryReading → EntryReading) → KeepsReferences change → (n : ℕ) (e : EntryReading)
    → has_chain all n (change e) ≡ has_chain all n e
chain_kept all change keeps zero e = refl
chain_kept all change keeps (suc n) e =
    ap (λ key. list_any (λ child. refers_to key child && has_chain all n child) all) (keeps.keyed e)

pub rank_kept : (all : List EntryReading) (change : EntryReading → EntryReading) → KeepsReferences change → (e : EntryReading)
    → rank all (change e) ≡ rank all e
rank_kept all change keeps e =
    greatest_same (λ n. has_chain all n (change e)) (λ n. has_chain all n e) (length all) (λ n. chain_kept all change keeps n e)

-- a test has the same result after each change that keeps keys and references
abbrev pub IsKept : (EntryReading → Bool) → Type 0
IsKept p = (change : EntryReading → EntryReading) → KeepsReferences change → (e : EntryReading) → p (change e) ≡ p e

-- two lists of entries pass the same tests of this kind
abbrev pub PassAlike : List EntryReading → List EntryReading → Type 0
PassAlike all all' = (p : EntryReading → Bool) → IsKept p → list_any p all' ≡ list_any p all

chain_alike : (all all' : List EntryReading) → PassAlike all all' → (n : ℕ) (e : EntryReading) → has_chain all' n e ≡ has_chain all n e
chain_alike all all' alike zero e = refl
chain_alike all all' alike (suc n) e =
    any_same (λ child. refers_to e.key.text child && has_chain all' n child)
    (λ child. refers_to e.key.text child && has_chain all n child) all'
    (λ child. ap (λ b. refers_to e.key.text child && b) (chain_alike all all' alike n child))
    ∙ alike (λ child. refers_to e.key.text child && has_chain all n child)
    (λ change keeps child.
    ap₂ (λ a b. a && b) (keeps.refers e.key.text child) (chain_kept all change keeps n child))

pub rank_alike : (all all' : List EntryReading) → PassAlike all all' → length all' ≡ length all → (e : EntryReading)
    → rank all' e ≡ rank all e
rank_alike all all' alike size e =
    greatest_same (λ n. has_chain all' n e) (λ n. has_chain all n e) (length all') (λ n. chain_alike all all' alike n e)
    ∙ ap (greatest (λ n. has_chain all n e)) size

-- ---- spans

one_text_moved : (move : ℕ → ℕ) (ps : List Piece) → one_text (map (moved_piece move) ps) ≡ one_text ps
one_text_moved move [] = refl
one_text_moved move (abbreviation p ∷ rest) = refl
one_text_moved move (literal p ∷ []) = refl
one_text_moved move (literal p ∷ other ∷ rest) = refl

crossref_moved : (move : ℕ → ℕ) (f : FieldReading) → crossref (moved_field move f) ≡ crossref f
crossref_moved move f = ap (λ o. cond (is_word f.name.text (codes "crossref")) o None) (one_text_moved move f.value.pieces)

pub moved_keeps : (move : ℕ → ℕ) → KeepsReferences (moved_entry move)
moved_keeps move = record {
  keyed = λ e. refl;
  refers = λ key e.
      any_through (names_key key) (moved_field move) e.fields
      (λ f. ap (λ o. option_map_or (λ named. str_eq_ignore_ascii_case named key) o false) (crossref_moved move f));
}

-- ---- the case of names

crossref_lower : (f : FieldReading) → crossref (field_in_lowercase f) ≡ crossref f
crossref_lower f =
    ap (λ name. cond (bytes_eq name (str_to_ascii_lowercase (codes "crossref"))) (one_text f.value.pieces) None)
    (lower_lower f.name.text)

pub lower_keeps : KeepsReferences entry_in_lowercase
lower_keeps = record {
  keyed = λ e. refl;
  refers = λ key e.
      any_through (names_key key) field_in_lowercase e.fields
      (λ f. ap (λ o. option_map_or (λ named. str_eq_ignore_ascii_case named key) o false) (crossref_lower f));
}

pub content_keeps : KeepsReferences entry_content
content_keeps = record {
  keyed = λ e. refl;
  refers = λ key e. (moved_keeps (λ n. 0)).refers key (entry_in_lowercase e) ∙ lower_keeps.refers key e;
}

-- ---- the order of fields

any_split : {A : Type 0} (p q : A → Bool) (xs : List A)
    → (list_any p (filter q xs) || list_any p (filter (λ x. not (q x)) xs)) ≡ list_any p xs
any_split p q [] = refl
any_split p q (x ∷ xs) = by_test (q x) (any_split p q xs)
  where
    first : Bool
    first = list_any p (filter q xs)

    second : Bool
    second = list_any p (filter (λ y. not (q y)) xs)

    turned : (a b c : Bool) → (b || (a || c)) ≡ (a || (b || c))
    turned true true c = refl
    turned true false c = refl
    turned false true c = refl
    turned false false c = refl

    by_test : (b : Bool) → (first || second) ≡ list_any p xs
        → (list_any p (cond b (x ∷ filter q xs) (filter q xs))
        || list_any p (cond (not b) (x ∷ filter (λ y. not (q y)) xs) (filter (λ y. not (q y)) xs)))
        ≡ (p x || list_any p xs)
    by_test true both = or_grouped (p x) first second ∙ ap (λ b. p x || b) both
    by_test false both = turned (p x) first second ∙ ap (λ b. p x || b) both

any_in_order : (p : FieldReading → Bool) (names : List (List ℕ)) (fields : List FieldReading)
    → list_any p (in_order names fields) ≡ list_any p fields
any_in_order p [] fields = refl
any_in_order p (name ∷ names) fields =
    let rest = filter (λ f. not (has_name name f)) fields in
    list_any-append p (filter (has_name name) fields) (in_order names rest)
    ∙ ap (λ b. list_any p (filter (has_name name) fields) || b) (any_in_order p names rest)
    ∙ any_split p (has_name name) fields

pub order_keeps : (style : Style) (text : List ℕ) → KeepsReferences (entry_in_order style text)
order_keeps style text = record {
  keyed = λ e. by_comment e (is_copied text e);
  refers = λ key e. by_comment' key e (is_copied text e);
}
  where
    by_comment : (e : EntryReading) (b : Bool)
        → (cond b e (record e { fields = in_order (order_of style) e.fields })).key.text ≡ e.key.text
    by_comment e true = refl
    by_comment e false = refl

    by_comment' : (key : List ℕ) (e : EntryReading) (b : Bool)
        → refers_to key (cond b e (record e { fields = in_order (order_of style) e.fields })) ≡ refers_to key e
    by_comment' key e true = refl
    by_comment' key e false = any_in_order (names_key key) (order_of style) e.fields
