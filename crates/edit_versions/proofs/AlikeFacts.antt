-- Fields that are alike.
use Rattle.std.proofs.Common.{◌≡◌, ◌<◌, ◌≤◌, ◌+◌, ℕ, Bool, true, false, ◌&&◌, List, ◌∷◌, length, drop, get_or, map, refl, sym, ap, ap₂, ◌∙◌}
use lib.Pointwise.{pointwise_long}
use Rattle.std.proofs.lemmas.List.{drop_all, length-map}
use Rattle.bib_syntax.specs.Views.{field_of}
use Rattle.bib_syntax.specs.declared.raw.Pair.{Pair}
use Rattle.bib_queries.proofs.EqualValueFacts.{from_index}
use Rattle.edit_versions.specs.Alike.{are_alike_fields, is_alike_field}

-- different numbers of raw fields aren't alike
pub different_counts : (one other : List Pair) → (length one ≡ length other → ⊥)
    → are_alike_fields (map field_of one) (map field_of other) ≡ false
different_counts one other differ = by_result (are_alike_fields (map field_of one) (map field_of other)) refl
  where
    by_result : (b : Bool) → are_alike_fields (map field_of one) (map field_of other) ≡ b → b ≡ false
    by_result false is = refl
    by_result true is =
        absurd
        (differ
        (sym (length-map one field_of) ∙ pointwise_long is_alike_field (map field_of one) (map field_of other) is
        ∙ length-map other field_of))

-- the fields from an index on are alike if those at the index are, and those after it
fields_next : (one other : List Pair) (index : ℕ) (p q : Pair) → index < length one → index < length other
    → p ≡ get_or one index p → q ≡ get_or other index q
    → are_alike_fields (map field_of (drop index one)) (map field_of (drop index other))
    ≡ (is_alike_field (field_of p) (field_of q)
    && are_alike_fields (map field_of (drop (index + 1) one)) (map field_of (drop (index + 1) other)))
fields_next one other index p q within within' is is' =
    ap₂ (λ l m. are_alike_fields (map field_of l) (map field_of m))
    (from_index one index p within ∙ ap (λ x. x ∷ drop (index + 1) one) (sym is))
    (from_index other index q within' ∙ ap (λ x. x ∷ drop (index + 1) other) (sym is'))

-- if the fields from an index on decide whether all are alike, and those at the index aren't, all aren't
pub fields_differ : (one other : List Pair) (index : ℕ) (p q : Pair) → index < length one → index < length other
    → p ≡ get_or one index p → q ≡ get_or other index q
    → are_alike_fields (map field_of (drop index one)) (map field_of (drop index other))
    ≡ are_alike_fields (map field_of one) (map field_of other)
    → is_alike_field (field_of p) (field_of q) ≡ false
    → are_alike_fields (map field_of one) (map field_of other) ≡ false
fields_differ one other index p q within within' is is' so_far differ =
    sym so_far ∙ fields_next one other index p q within within' is is'
    ∙ ap (λ b. b && are_alike_fields (map field_of (drop (index + 1) one)) (map field_of (drop (index + 1) other))) differ

-- if the fields from an index on decide whether all are alike, and those at the index are, those after it decide
pub fields_same : (one other : List Pair) (index : ℕ) (p q : Pair) → index < length one → index < length other
    → p ≡ get_or one index p → q ≡ get_or other index q
    → are_alike_fields (map field_of (drop index one)) (map field_of (drop index other))
    ≡ are_alike_fields (map field_of one) (map field_of other)
    → is_alike_field (field_of p) (field_of q) ≡ true
    → are_alike_fields (map field_of (drop (index + 1) one)) (map field_of (drop (index + 1) other))
    ≡ are_alike_fields (map field_of one) (map field_of other)
fields_same one other index p q within within' is is' so_far alike =
    sym
    (fields_next one other index p q within within' is is'
    ∙ ap (λ b. b && are_alike_fields (map field_of (drop (index + 1) one)) (map field_of (drop (index + 1) other))) alike)
    ∙ so_far

-- if the fields from an index on decide whether all are alike, and there are none, all are alike
pub fields_end : (one other : List Pair) (index : ℕ) → length one ≤ index → length other ≤ index
    → are_alike_fields (map field_of (drop index one)) (map field_of (drop index other))
    ≡ are_alike_fields (map field_of one) (map field_of other)
    → are_alike_fields (map field_of one) (map field_of other) ≡ true
fields_end one other index past past' so_far =
    sym so_far ∙ ap₂ (λ l m. are_alike_fields (map field_of l) (map field_of m)) (drop_all index one past) (drop_all index other past')
