-- No composed letter is a line break.
use Rattle.std.proofs.Common.{◌≡◌, ℕ, zero, suc, ◌+◌, ◌-◌, ◌/◌, ◌%◌, ◌<◌, true, ◌==◌, List, [], ◌∷◌, length, flat_map, Some, refl, sym, ap, ◌∙◌, arith, inl, inr, ne_eqb, length-append}
use Rattle.std.specs.List.{list_all}
use Rattle.std.proofs.lemmas.Bool.{cases_Bool, cases_eq, and_parts, and_from, eqb-true}
use Rattle.ucd_normal.specs.declared.forms.Form.TheVariants.{Nfd, Nfc}
use Rattle.ucd_normal.specs.Decomposition.{decomposition, or_itself, expand, canonical_mapping, canonical_decomposition}
use Rattle.ucd_normal.proofs.CompositionLemmas.{is_empty}
use Rattle.ucd_normal.proofs.DecompositionLemmas.{decomposition_stepped}
use Rattle.ucd_normal.specs.Decomposition.{if_canonical}
use Rattle.ucd_table.proofs.Computing.{tables}
use Rattle.ucd_table.proofs.RangedFacts.{values_ok, Stepped-at_values}
use Rattle.unicode_normalization.specs.Compose.{primary_composite}
use Rattle.unicode_normalization.specs.Decompose.{decompose}
use Rattle.unicode_normalization.specs.Forms.{decomposed, nfc, nfd}
use Rattle.unicode_normalization.specs.Hangul.{is_syllable}
use Rattle.unicode_normalization.proofs.ComposeLemmas.{list_all-append}
use Rattle.unicode_normalization.proofs.DecomposeLemmas.{decompose-syllable, is_final-parts, primary_composite-some, length-from_decompose}
use Rattle.unicode_normalization.proofs.FormsLemmas.{is_final-Nfd, quick_check-ascii, nfd-nfc, normalize-Nfd, normalize-nil}
use Rattle.unicode_normalization.proofs.HangulLemmas.{decompose_hangul-two, decompose_hangul-three}
use Rattle.unicode_normalization.proofs.KeptLemmas.{list_all-normalize}
use Rattle.unicode_normalization.proofs.OrderLemmas.{length-canonical_order}
use Rattle.bib_chunks.specs.Formatted.{is_break, is_unbroken}

-- a character other than a line feed and a carriage return is no line break
plain_other : (c : ℕ) → (c ≡ 10 → ⊥) → (c ≡ 13 → ⊥) → is_unbroken c ≡ true
plain_other c feed return = rw (ne_eqb c 10 feed, ne_eqb c 13 return) refl

-- a character that can't be a line break isn't one
plain_from : (c : ℕ) → (is_break c ≡ true → ⊥) → is_unbroken c ≡ true
plain_from c differs = elim (cases_Bool (is_break c)) [
  | inl breaks ↦ absurd (differs breaks)
  | inr plain ↦ rw plain refl
]

-- no canonical mapping has a line break
mapping_plain : (c : ℕ) → list_all is_unbroken (canonical_mapping c) ≡ true
unfolding tables values_ok decomposition_stepped
mapping_plain = Stepped-at_values decomposition decomposition_stepped (λ entry. list_all is_unbroken (if_canonical entry)) refl

-- a map of characters to texts without line breaks makes no line break
plain_flat_map : (f : ℕ → List ℕ) → ((c : ℕ) → is_unbroken c ≡ true → list_all is_unbroken (f c) ≡ true) → (cs : List ℕ)
    → list_all is_unbroken cs ≡ true → list_all is_unbroken (flat_map f cs) ≡ true
plain_flat_map f each [] all = refl
plain_flat_map f each (c ∷ cs) all =
    let parts = and_parts (is_unbroken c) (list_all is_unbroken cs) all in
    list_all-append is_unbroken (f c) (flat_map f cs) (each c parts.0) (plain_flat_map f each cs parts.1)

-- `or_itself` has no line break if neither the character nor its text has one
plain_itself : (c : ℕ) (cs : List ℕ) → is_unbroken c ≡ true → list_all is_unbroken cs ≡ true → list_all is_unbroken (or_itself c cs) ≡ true
plain_itself c [] plain all = and_from _ _ plain refl
plain_itself c (d ∷ cs) plain all = all

-- the canonical decompositions of a character have no line break, at each depth
plain_expand : (depth c : ℕ) → list_all is_unbroken (expand canonical_mapping depth c) ≡ true
unfolding expand
plain_expand zero c = mapping_plain c
plain_expand (suc depth) c =
    plain_flat_map (λ x. or_itself x (expand canonical_mapping depth x))
    (λ x plain. plain_itself x (expand canonical_mapping depth x) plain (plain_expand depth x))
    (canonical_mapping c) (mapping_plain c)

-- the canonical decomposition of a character has no line break
plain_table : (c : ℕ) → list_all is_unbroken (canonical_decomposition c) ≡ true
unfolding canonical_decomposition
plain_table c = plain_expand 3 c

-- decomposing a character that isn't a line break makes no line break
plain_decompose : (c : ℕ) → is_unbroken c ≡ true → list_all is_unbroken (decompose Nfc c) ≡ true
unfolding decompose
plain_decompose c plain =
    elim (cases_Bool (is_syllable c)) [
      | inl syllable ↦
          let l = plain_other (0x1100 + (c - 0xAC00) / 588) (λ e. omega arith) (λ e. omega arith) in
          let v = plain_other (0x1161 + (c - 0xAC00) % 588 / 28) (λ e. omega arith) (λ e. omega arith) in
          let t = plain_other (0x11A7 + (c - 0xAC00) % 28) (λ e. omega arith) (λ e. omega arith) in
          ap (list_all is_unbroken) (decompose-syllable Nfc c syllable)
          ∙ elim (cases_eq ((c - 0xAC00) % 28) 0) [
            | inl two ↦ ap (list_all is_unbroken) (decompose_hangul-two c two) ∙ and_from _ _ l (and_from _ _ v refl)
            | inr three ↦ ap (list_all is_unbroken) (decompose_hangul-three c three) ∙ and_from _ _ l (and_from _ _ v (and_from _ _ t refl))
          ]
      | inr other ↦ rw other (plain_itself c (canonical_decomposition c) plain (plain_table c))
    ]

-- no two characters compose to an ASCII character
composite_wide : (a b c : ℕ) → primary_composite a b ≡ Some c → c < 128 → ⊥
composite_wide a b c made ascii =
    elim (primary_composite-some a b c made) [
      | inl hangul ↦ elim hangul [ inl lv ↦ omega arith | inr lvt ↦ omega arith ]
      | inr table ↦
          let clash = sym (is_final-parts Nfd c (is_final-Nfd c (quick_check-ascii Nfd c ascii))).0 ∙ ap is_empty table.mapping in
          cc
    ]

-- a line break is ASCII
break_ascii : (c : ℕ) → is_break c ≡ true → c < 128
break_ascii c breaks = elim (cases_Bool (c == 10)) [
  | inl feed ↦ let is : c ≡ 10 = eqb-true c 10 feed in omega arith
  | inr other ↦ let is : c ≡ 13 = eqb-true c 13 (rw other at breaks) in omega arith
]

-- the composition of two characters that aren't line breaks isn't one
plain_composite : (a b c : ℕ) → is_unbroken a ≡ true → is_unbroken b ≡ true → primary_composite a b ≡ Some c → is_unbroken c ≡ true
plain_composite a b c first second made = plain_from c (λ breaks. composite_wide a b c made (break_ascii c breaks))

-- composition adds no line break
pub plain_nfc : (cs : List ℕ) → list_all is_unbroken cs ≡ true → list_all is_unbroken (nfc cs) ≡ true
plain_nfc cs all = list_all-normalize Nfc is_unbroken plain_decompose plain_composite cs all

-- the composition of a non-empty text isn't empty
pub nfc_some : (c : ℕ) (cs : List ℕ) → nfc (c ∷ cs) ≡ [] → ⊥
unfolding decomposed
nfc_some c cs none =
    let same : nfd (c ∷ cs) ≡ [] = sym (nfd-nfc (c ∷ cs)) ∙ ap nfd none ∙ normalize-nil Nfd in
    let size : length (nfd (c ∷ cs)) ≡ length (flat_map (decompose Nfd) (c ∷ cs)) =
    ap length (normalize-Nfd (c ∷ cs)) ∙ length-canonical_order (flat_map (decompose Nfd) (c ∷ cs)) in
    let parts : length (flat_map (decompose Nfd) (c ∷ cs))
    ≡ length (decompose Nfd c) + length (flat_map (decompose Nfd) cs) =
    length-append (decompose Nfd c) (flat_map (decompose Nfd) cs) in
    let empty : length (nfd (c ∷ cs)) ≡ 0 = ap length same in
    let some = length-from_decompose Nfd c (decompose Nfd c) refl in
    omega (arith, some.0)
