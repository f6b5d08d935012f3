-- Counts of parts, each found by the index that its text has.
use Rattle.std.proofs.Common.{◌≡◌, ℕ, Bool, true, false, List, [], ◌∷◌, ◌++◌, ◌+◌, ◌<◌, length, get_or, set, map, Option, Some, None, inl, inr, ◌⊎◌, refl, sym, ap, ◌∙◌, append-nil, subst, arith, cond}
use Rattle.std.specs.Prelude.{bytes_eq, count_by, min}
use Rattle.std.specs.List.{list_any}
use Rattle.std.specs.Map.{update}
use Rattle.std.proofs.Math.Seq.{map-set_same}
use Rattle.std.proofs.lemmas.Bool.{cases_eq}
use Rattle.std.proofs.lemmas.List.{get_or-map, get_or_append_left, get_or_push, length-append, length-map, map-append, map-set}
use Rattle.std.proofs.lemmas.List.Folds.{list_any_at}
use Rattle.std.proofs.lemmas.Slice.Eq.{bytes_eq-Decides}
use Rattle.bib_text.proofs.ListFacts.{some_same, count_more, count_none}
use Rattle.bib_tables.specs.Requirements.{Names}
use Rattle.bib_syntax.specs.Reading.{Part}
use Rattle.bib_syntax.specs.Views.{part_of}
use Rattle.bib_findings.specs.Counted.{CountsMore, HasIndices, counted_texts, counted_of, counts, lowercase_part, one_part_more}
use Rattle.bib_findings.specs.Once.{count_of, have_one_text, most_counted}
use Rattle.bib_findings.specs.declared.once.Counted.{Counted}
use Rattle.bib_findings.proofs.CountedFacts.{any_counted, any_none, counts_more, map_same, text_turned, raised, set_is_map}

-- the text of the part of a count in lowercase
abbrev name_of : Part × ℕ → List ℕ
name_of c = lowercase_part c.0

-- the texts of counts are those of their parts
names_same : (counted : List Counted) → map name_of (map counted_of counted) ≡ counted_texts counted
names_same [] = refl
names_same (c ∷ counted) = ap (λ l. lowercase_part (part_of c.first.now) ∷ l) (names_same counted)

-- if a count has the text of a part, the text has the index of the count
at_index : (index_of : List ℕ → Option ℕ) (pairs : List (Part × ℕ)) (g : Part) (k : ℕ) (d : Part × ℕ)
    → HasIndices index_of (map name_of pairs) → k < length pairs → have_one_text (get_or pairs k d).0 g ≡ true
    → index_of (lowercase_part g) ≡ Some k
at_index index_of pairs g k d indices within same =
    let inside : k < length (map name_of pairs) = subst (λ n. k < n) (sym (length-map pairs name_of)) within in
    ap index_of (sym ((bytes_eq-Decides (name_of (get_or pairs k d)) (lowercase_part g)).0 same)
    ∙ sym (get_or-map name_of pairs k d [] within)) ∙ indices.each k inside

-- the index of a text is in range of the counts
pub index_within : (index_of : List ℕ → Option ℕ) (counted : List Counted) (name : List ℕ) (i : ℕ)
    → HasIndices index_of (counted_texts counted) → index_of name ≡ Some i → i < length counted
index_within index_of counted name i indices at =
    subst (λ n. i < n) (length-map counted (λ (c : Counted). lowercase_part (part_of c.first.now))) (indices.only name i at).0

-- a count with another text is not raised
not_raised : (g : Part) (c : Part × ℕ) → have_one_text c.0 g ≡ false → raised g c ≡ c
not_raised g c differs =
    ap (λ b. (c.0, cond b (one_part_more c.1) c.1)) differs

-- raising the count at the index of a part's text counts the part
pub counted_again : (index_of : List ℕ → Option ℕ) (old new : List Counted) (g : Part) (i : ℕ) (one raised_one : Counted)
    → HasIndices index_of (counted_texts old) → index_of (lowercase_part g) ≡ Some i → i < length old → one ≡ get_or old i one
    → counted_of raised_one ≡ (part_of one.first.now, one_part_more one.count) → new ≡ set old i raised_one
    → CountsMore (g ∷ []) old new
counted_again index_of old new g i one raised_one indices at within is more updates parts are =
    let pairs : List (Part × ℕ) = map counted_of old in
    let known : HasIndices index_of (map name_of pairs) = subst (HasIndices index_of) (sym (names_same old)) indices in
    let inside : i < length pairs = subst (λ n. i < n) (sym (length-map old counted_of)) within in
    let here : get_or pairs i (counted_of one) ≡ counted_of one =
    get_or-map counted_of old i one (counted_of one) within ∙ ap counted_of (sym is) in
    let name : name_of (counted_of one) ≡ lowercase_part g =
    ap name_of (sym here) ∙ sym (get_or-map name_of pairs i (counted_of one) [] inside) ∙ (known.only (lowercase_part g) i at).1 in
    let same : have_one_text (part_of one.first.now) g ≡ true =
    (bytes_eq-Decides (name_of (counted_of one)) (lowercase_part g)).1 name in
    let up : raised g (get_or pairs i (counted_of one)) ≡ counted_of raised_one =
    ap (raised g) here ∙ ap (λ b. (part_of one.first.now, cond b (one_part_more one.count) one.count)) same ∙ sym more in
    let there : list_any (have_one_text g) parts ≡ true =
    sym (any_counted parts g) ∙ ap (list_any (λ c. have_one_text g c.0)) (sym are)
    ∙ list_any_at (λ c. have_one_text g c.0) pairs i (counted_of one) inside
    (text_turned g (get_or pairs i (counted_of one)).0 ∙ ap (λ c. have_one_text c.0 g) here ∙ same) in
    ap (map counted_of) updates ∙ map-set counted_of old i raised_one ∙ ap (set pairs i) (sym up)
    ∙ set_is_map (raised g) pairs i (counted_of one) inside (λ k below other.
    not_raised g (get_or pairs k (counted_of one))
    (apart (have_one_text (get_or pairs k (counted_of one)).0 g) k i other (λ named.
    sym (at_index index_of pairs g k (counted_of one) known below named) ∙ at)))
    ∙ ap (map (raised g)) are ∙ sym (append-nil (map (raised g) (counts parts)))
    ∙ ap (λ b. map (raised g) (counts parts) ++ map (count_of (parts ++ g ∷ [])) (cond b [] (g ∷ []))) (sym there)
    ∙ sym (counts_more parts g)
  where
    apart : (test : Bool) (k i : ℕ) → (k ≡ i → ⊥) → (test ≡ true → Some k ≡ Some i) → test ≡ false
    apart false k i other same = refl
    apart true k i other same = absurd (other (let alike : Some k ≡ Some i = same refl in cc))

-- raising the count at an index changes no text
pub names_kept : (old new : List Counted) (i : ℕ) (one raised_one : Counted) → one ≡ get_or old i one
    → counted_of raised_one ≡ (part_of one.first.now, one_part_more one.count) → new ≡ set old i raised_one
    → counted_texts new ≡ counted_texts old
names_kept old new i one raised_one is more updates =
    ap counted_texts updates
    ∙ map-set_same (λ (c : Counted). lowercase_part (part_of c.first.now)) old i raised_one one
    (ap name_of more ∙ ap (λ (c : Counted). lowercase_part (part_of c.first.now)) is)

-- appending a count of 1 for a part whose text has no index counts the part
pub counted_new : (index_of : List ℕ → Option ℕ) (old new : List Counted) (g : Part) (one : Counted)
    → HasIndices index_of (counted_texts old) → index_of (lowercase_part g) ≡ None → counted_of one ≡ (g, 1)
    → new ≡ old ++ one ∷ [] → CountsMore (g ∷ []) old new
counted_new index_of old new g one indices none is updates parts are =
    let pairs : List (Part × ℕ) = map counted_of old in
    let known : HasIndices index_of (map name_of pairs) = subst (HasIndices index_of) (sym (names_same old)) indices in
    let d : Part × ℕ = (g, 0) in
    let differ : (k : ℕ) → k < length pairs → have_one_text (get_or pairs k d).0 g ≡ false =
    λ k below. apart (have_one_text (get_or pairs k d).0 g) k (λ named. sym none ∙ at_index index_of pairs g k d known below named) in
    let absent : list_any (have_one_text g) parts ≡ false =
    sym (any_counted parts g) ∙ ap (list_any (λ c. have_one_text g c.0)) (sym are)
    ∙ any_none (λ c. have_one_text g c.0) pairs d (λ k below. text_turned g (get_or pairs k d).0 ∙ differ k below) in
    let itself : have_one_text g g ≡ true = (bytes_eq-Decides (lowercase_part g) (lowercase_part g)).1 refl in
    let count : count_by (have_one_text g) (parts ++ g ∷ []) ≡ 1 =
    omega (
      arith,
      count_more (have_one_text g) parts g,
      count_none (have_one_text g) parts absent,
      ap {B = ℕ} (λ b. cond b 1 0) itself,
    ) in
    ap (map counted_of) updates ∙ map-append counted_of old (one ∷ []) ∙ ap (λ c. pairs ++ c ∷ []) is
    ∙ ap (λ l. l ++ (g, 1) ∷ [])
    (sym (map_same (raised g) pairs d (λ k below. not_raised g (get_or pairs k d) (differ k below))) ∙ ap (map (raised g)) are)
    ∙ ap (λ n. map (raised g) (counts parts) ++ (g, min n most_counted) ∷ []) (sym count)
    ∙ ap (λ b. map (raised g) (counts parts) ++ map (count_of (parts ++ g ∷ [])) (cond b [] (g ∷ []))) (sym absent)
    ∙ sym (counts_more parts g)
  where
    apart : (test : Bool) (k : ℕ) → (test ≡ true → None ≡ Some k) → test ≡ false
    apart false k same = refl
    apart true k same = absurd (let clash : None ≡ Some k = same refl in cc)

-- giving a name without an index the next index, and appending it, keeps the indices
pub indices_more : (index_of new_index : List ℕ → Option ℕ) (names : Names) (name : List ℕ) (count : ℕ)
    → HasIndices index_of names → index_of name ≡ None → count ≡ length names
    → ((other : List ℕ) → new_index other ≡ update bytes_eq index_of name (Some count) other)
    → HasIndices new_index (names ++ name ∷ [])
indices_more index_of new_index names name count indices none size updates = record {
  each = λ i within. each_at i (cases_eq i (length names)) within;
  only = λ other i at. only_at other i (bytes_eq name other) refl at;
} where
  longer : length (names ++ name ∷ []) ≡ length names + 1
  longer = length-append names (name ∷ [])

  -- a name with an index differs from `name`
  differs : (other : List ℕ) (k : ℕ) → index_of other ≡ Some k → bytes_eq name other ≡ false
  differs other k at = of (bytes_eq name other) refl where
    of : (test : Bool) → bytes_eq name other ≡ test → bytes_eq name other ≡ false
    of false is = is
    of true is = absurd (let clash : None ≡ Some k = sym none ∙ ap index_of ((bytes_eq-Decides name other).0 is) ∙ at in cc)

  each_at : (i : ℕ) → (i ≡ length names) ⊎ (i ≡ length names → ⊥) → i < length (names ++ name ∷ [])
      → new_index (get_or (names ++ name ∷ []) i []) ≡ Some i
  each_at i (inl last) within =
      ap new_index (get_or_push names name [] i (sym last)) ∙ updates name
      ∙ ap (λ b. cond b (Some count) (index_of name)) ((bytes_eq-Decides name name).1 refl)
      ∙ ap Some (size ∙ sym last)
  each_at i (inr other) within =
      let below : i < length names = omega (arith, longer, within, other) in
      let got : List ℕ = get_or names i [] in
      ap new_index (get_or_append_left names (name ∷ []) [] i below) ∙ updates got
      ∙ ap (λ b. cond b (Some count) (index_of got)) (differs got i (indices.each i below))
      ∙ indices.each i below

  only_at : (other : List ℕ) (i : ℕ) (test : Bool) → bytes_eq name other ≡ test → new_index other ≡ Some i
      → (i < length (names ++ name ∷ [])) × (get_or (names ++ name ∷ []) i [] ≡ other)
  only_at other i true is at =
      let here : Some count ≡ Some i =
      sym (ap (λ b. cond b (Some count) (index_of other)) is) ∙ sym (updates other) ∙ at in
      let index : i ≡ count = sym (some_same here) in
      (omega (arith, longer, index, size), get_or_push names name [] i (sym (index ∙ size)) ∙ (bytes_eq-Decides name other).0 is)
  only_at other i false is at =
      let found = indices.only other i (sym (ap (λ b. cond b (Some count) (index_of other)) is) ∙ sym (updates other) ∙ at) in
      (omega (arith, longer, found.0), get_or_append_left names (name ∷ []) [] i found.0 ∙ found.1)

-- if no name has an index, these are the indices of the names of an empty list
pub indices_none : (index_of : List ℕ → Option ℕ) → ((name : List ℕ) → index_of name ≡ None) → HasIndices index_of []
indices_none index_of none = record {
  each = λ i within. absurd (omega (arith, within));
  only = λ name i at. absurd (let clash : None ≡ Some i = sym (none name) ∙ at in cc);
}

-- appending a count appends the text of its part
pub names_more : (old new : List Counted) (one : Counted) (name : List ℕ) → new ≡ old ++ one ∷ []
    → name ≡ lowercase_part (part_of one.first.now) → counted_texts old ++ name ∷ [] ≡ counted_texts new
names_more old new one name more is =
    ap (λ n. counted_texts old ++ n ∷ []) is
    ∙ sym (ap counted_texts more ∙ map-append (λ (c : Counted). lowercase_part (part_of c.first.now)) old (one ∷ []))
