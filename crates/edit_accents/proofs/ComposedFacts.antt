-- A character that decomposes into a letter below U+0200 and another character is one character in NFC.
use Rattle.std.proofs.Common.{◌≡◌, inl, inr, ℕ, ◌+◌, ◌/◌, ◌%◌, ◌-◌, ◌<◌, ◌≤◌, Bool, true, false, List, [], ◌∷◌, ◌++◌, append-nil, refl, sym, ap, ◌∙◌, Option, Some, None, arith}
use Rattle.std.specs.Prelude.{◌&&◌, ◌||◌, not, nat_lt, is_some}
use Rattle.std.proofs.lemmas.Bool.{and_parts, cases_eq, eqb-true, lt-ltb}
use Rattle.ucd_table.proofs.Stepped.{Stepped}
use Rattle.ucd_table.proofs.Facts.{tree_value, tree_of, tree_value-tree_of}
use Rattle.ucd_table.proofs.RangedFacts.{points_ok, Stepped-at_points}
use Rattle.ucd_table.proofs.Computing.{tables}
use Rattle.ucd_normal.specs.CanonicalCombiningClass.{canonical_combining_class as ccc}
use Rattle.ucd_normal.specs.Composition.{paired_with}
use Rattle.ucd_normal.specs.Compositions.{compositions}
use Rattle.ucd_normal.specs.Decomposition.{decomposition, expand, if_canonical, or_itself}
use Rattle.ucd_normal.proofs.CanonicalCombiningClassLemmas.{canonical_combining_class_stepped}
use Rattle.ucd_normal.proofs.CompositionLemmas.{composite-paired_with, is_empty}
use Rattle.ucd_normal.proofs.CompositionsLemmas.{compositions_stepped}
use Rattle.ucd_normal.proofs.DecompositionLemmas.{decomposition_stepped}
use Rattle.unicode_normalization.specs.Compose.{compose, primary_composite}
use Rattle.unicode_normalization.specs.Decompose.{decompose}
use Rattle.unicode_normalization.specs.Forms.{Nfd, decomposed, nfc, nfd, normalize}
use Rattle.unicode_normalization.specs.Hangul.{compose_hangul, decompose_hangul, is_syllable}
use Rattle.unicode_normalization.specs.Order.{canonical_order, is_ordered, is_reorderable}
use Rattle.unicode_normalization.proofs.ComposeLemmas.{cases_Option, compose-starter, compose_after-joined, compose_after-nil, is_blocked-nil, joined-free}
use Rattle.unicode_normalization.proofs.DecomposeLemmas.{decompose-mapped, decompose-other, decompose-syllable, is_empty-full, is_empty-true, primary_composite-table}
use Rattle.unicode_normalization.proofs.FormsLemmas.{class-latin, nfc-by_nfd}
use Rattle.unicode_normalization.proofs.HangulLemmas.{compose_hangul-some, decompose_hangul-three, decompose_hangul-two, is_syllable-true}
use Rattle.unicode_normalization.proofs.OrderLemmas.{canonical_order-at_starter, canonical_order-nil, canonical_order-ordered, is_ordered-one}
use Rattle.unicode_normalization.proofs.TableFacts.{Entry, Tables, by_rows, class_of_jamo, full, ordered_by}

-- ---- the tables

-- a table as a tree
abbrev by_tree : {V : Type 0} (f : ℕ → V) → Stepped f → ℕ → V
by_tree f s = tree_value s.default (tree_of f s)

-- the tables with three of them as trees
by_trees : Tables
unfolding tables points_ok paired_with expand ordered_by canonical_combining_class_stepped decomposition_stepped compositions_stepped
by_trees = record by_rows {
  class = by_tree ccc canonical_combining_class_stepped;
  entry = by_tree decomposition decomposition_stepped;
  pairs = by_tree compositions compositions_stepped;
}

-- trees have the values of the tables
same_tables : by_rows ≡ by_trees
unfolding by_trees
same_tables =
    λ i. record by_rows {
      class = tree_value-tree_of ccc canonical_combining_class_stepped i;
      entry = tree_value-tree_of decomposition decomposition_stepped i;
      pairs = tree_value-tree_of compositions compositions_stepped i;
    }

-- whether the second of two characters composes with the first, if that is below U+0200
abbrev pair_composes : Tables → List ℕ → Bool
pair_composes t (a ∷ b ∷ []) = not (nat_lt a 0x200) || is_some (paired_with b (t.pairs a))
pair_composes t cs = true

-- whether a full decomposition is in canonical order, and composes if it is a pair that begins below U+0200
abbrev is_settled : Tables → ℕ → Entry → Bool
is_settled t c entry = ordered_by t.class (full t Nfd c) && pair_composes t (full t Nfd c)

-- each full decomposition is in canonical order, and composes if it is a pair that begins below U+0200
all_settled : (c : ℕ) → is_empty (if_canonical (decomposition c)) ≡ false → is_settled by_rows c (decomposition c) ≡ true
unfolding by_trees
all_settled c some =
    ap (λ t. is_settled t c (decomposition c)) same_tables
    ∙ Stepped-at_points decomposition decomposition_stepped (λ e. is_empty (if_canonical e)) (is_settled by_trees) refl c some

-- both definitions of canonical order are the same
same_order : (cs : List ℕ) → ordered_by ccc cs ≡ is_ordered cs
unfolding ordered_by is_ordered is_reorderable
same_order [] = refl
same_order (a ∷ []) = refl
same_order (a ∷ b ∷ cs) = ap (λ x. not (is_reorderable a b) && x) (same_order (b ∷ cs))

-- ---- two characters

-- the decomposition of one character
decomposed_one : (c : ℕ) → nfd (c ∷ []) ≡ canonical_order (decompose Nfd c)
unfolding normalize decomposed
decomposed_one c = ap canonical_order (append-nil (decompose Nfd c))

-- in canonical order, characters that begin with a part of a Hangul syllable aren't a letter below U+0200 and another character
begins_hangul : (l : ℕ) (rest : List ℕ) (b mark : ℕ) → 0x1100 ≤ l → l < 0x1200 → canonical_order (l ∷ rest) ≡ b ∷ mark ∷ [] → b < 0x200 → ⊥
begins_hangul l rest b mark from below is low =
    let starter : ccc l ≤ 0 = omega (arith, eqb-true (ccc l) 0 (class_of_jamo l from (omega (arith, below)))) in
    let first : l ∷ canonical_order rest ≡ b ∷ mark ∷ [] =
    ap (λ xs. xs ++ l ∷ canonical_order rest) (sym canonical_order-nil) ∙ sym (canonical_order-at_starter [] l rest starter) ∙ is in
    let same : l ≡ b = cc in
    omega (arith, same, from, low)

-- a Hangul syllable doesn't decompose into a letter below U+0200 and another character
no_hangul : (c b mark : ℕ) → is_syllable c ≡ true → canonical_order (decompose Nfd c) ≡ b ∷ mark ∷ [] → b < 0x200 → ⊥
no_hangul c b mark syllable two low =
    let range = is_syllable-true c syllable in
    let parts : canonical_order (decompose_hangul c) ≡ b ∷ mark ∷ [] =
    ap canonical_order (sym (decompose-syllable Nfd c syllable)) ∙ two in
    elim (cases_eq ((c - 0xAC00) % 28) 0) [
      | inl without ↦
          begins_hangul (0x1100 + (c - 0xAC00) / 588) _ b mark (omega arith) (omega arith)
          (ap canonical_order (sym (decompose_hangul-two c without)) ∙ parts) low
      | inr with_final ↦
          begins_hangul (0x1100 + (c - 0xAC00) / 588) _ b mark (omega arith) (omega arith)
          (ap canonical_order (sym (decompose_hangul-three c with_final)) ∙ parts) low
    ]

-- if a character decomposes into a letter below U+0200 and another character, these two compose by the tables
pair_by_tables : (c b mark : ℕ) → nfd (c ∷ []) ≡ b ∷ mark ∷ [] → b < 0x200 → is_some (paired_with mark (compositions b)) ≡ true
pair_by_tables c b mark two low = by_kind (is_syllable c) refl (is_empty (if_canonical (decomposition c))) refl
  where
    parts : canonical_order (decompose Nfd c) ≡ b ∷ mark ∷ []
    parts = sym (decomposed_one c) ∙ two

    by_kind : (syllable : Bool) → is_syllable c ≡ syllable → (none : Bool) → is_empty (if_canonical (decomposition c)) ≡ none
        → is_some (paired_with mark (compositions b)) ≡ true
    by_kind true hangul none entry = absurd (no_hangul c b mark hangul parts low)
    by_kind false other true none =
        let whole : decompose Nfd c ≡ c ∷ [] =
        decompose-other Nfd c other ∙ ap (or_itself c) (is_empty-true (full by_rows Nfd c) (is_empty-full Nfd c ∙ none)) in
        let one : c ∷ [] ≡ b ∷ mark ∷ [] =
        sym (canonical_order-ordered (c ∷ []) (is_ordered-one c)) ∙ ap canonical_order (sym whole) ∙ parts in
        cc
    by_kind false other false some =
        let cs : List ℕ = full by_rows Nfd c in
        let tests = and_parts (ordered_by ccc cs) (pair_composes by_rows cs) (all_settled c some) in
        let pair : cs ≡ b ∷ mark ∷ [] =
        sym (canonical_order-ordered cs (sym (same_order cs) ∙ tests.0))
        ∙ ap canonical_order (sym (decompose-mapped Nfd c other some)) ∙ parts in
        ap (λ t. not t || is_some (paired_with mark (compositions b))) (sym (lt-ltb b 0x200 low))
        ∙ ap (pair_composes by_rows) (sym pair) ∙ tests.1

-- a character is one character in NFC
pub record IsOneInNfc (c : ℕ) : Type 0 where
  pub one : ℕ
  pub is : nfc (c ∷ []) ≡ one ∷ []

-- a letter below U+0200 isn't a part of a Hangul syllable, so it composes by the tables
by_table : (b mark : ℕ) → b < 0x200 → primary_composite b mark ≡ paired_with mark (compositions b)
by_table b mark low =
    elim (cases_Option (compose_hangul b mark)) [
      | inl none ↦ primary_composite-table b mark none ∙ composite-paired_with b mark
      | inr some ↦
          elim (compose_hangul-some b mark some.0 some.1) [
            | inl lv ↦ absurd (omega (arith, lv.leading.0, low))
            | inr lvt ↦ absurd (omega (arith, lvt.syllable.0, low))
          ]
    ]

-- a character that decomposes into a letter below U+0200 and another character is one character in NFC
pub one_from_two : (c b mark : ℕ) → nfd (c ∷ []) ≡ b ∷ mark ∷ [] → b < 0x200 → IsOneInNfc c
one_from_two c b mark two low = by_pair (paired_with mark (compositions b)) refl (pair_by_tables c b mark two low)
  where
    by_pair : (found : Option ℕ) → paired_with mark (compositions b) ≡ found → is_some found ≡ true → IsOneInNfc c
    by_pair None same some = cc
    by_pair (Some d) same some = record {
      one = d;
      is = nfc-by_nfd (c ∷ []) ∙ ap compose two ∙ compose-starter b (mark ∷ []) (omega (arith, class-latin b (omega (arith, low))))
          ∙ compose_after-joined b [] mark d [] (joined-free b [] mark (is_blocked-nil mark) ∙ by_table b mark low ∙ same)
          ∙ compose_after-nil d [];
    }
