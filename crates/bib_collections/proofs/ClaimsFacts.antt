-- Facts about maps of strings that contracts see as maps by text.
use Rattle.std.proofs.Common.{◌≡◌, ℕ, Bool, true, false, not, cond, T, List, [], ◌∷◌, map, Option, Some, is_some, is_none, refl, sym, ap, ap₂, subst, ◌∙◌, Less, is_lt, string_bytes, string_cmp, String, BTreeMap, nat_cmp}
use Rattle.std.specs.Global.{Global}
use Rattle.std.specs.BTreeMap as tree
use Rattle.std.specs.List.{AllByRecursion}
use Rattle.std.specs.List.Sorted.{IsStrictlySortedBy}
use Rattle.std.specs.Map.{lookup}
use Rattle.std.specs.Ordering.{eq_by_cmp}
use Rattle.std.specs.Cmp.Lexicographic.{slice_cmp}
use Rattle.std.proofs.lemmas.Cmp.{nat_list_cmp_total, eq_by_cmp_equiv}
use Rattle.std.proofs.lemmas.Map.Text.{is_eq-slice_cmp, btree_map_updates_text, text_cmp}
use Rattle.std.specs.FinMap as by_text
use Rattle.std.specs.FinMap.{find, is_sorted, get-from_entries, get-from_sorted, get-insert, same_map}
use Rattle.std.specs.FinMap.Entries.{below_all}
use Rattle.bib_collections.specs.Sorted.{by_bytes, IsSorted, map_of}
use Rattle.bib_collections.specs.Claims.{text_pairs}
use Rattle.bib_collections.proofs.SortedFacts.{both, is_true, by_bytes-IsAntisymmetric}

-- the pairs by text have the value that the pairs by string have for a text
find-text_pairs : (q : List ℕ) (es : List (String Global × ℕ)) → find by_bytes q (text_pairs es) ≡ lookup (tree.is_at (text_cmp q)) es
find-text_pairs q [] = refl
find-text_pairs q (e ∷ es) = ap (cond (eq_by_cmp by_bytes q (string_bytes e.0)) (Some e.1)) (find-text_pairs q es)

-- the map by text has the value that the map of strings has for a text
pub get-text_pairs : (m : BTreeMap (String Global) ℕ) (q : List ℕ)
    → by_text.get (by_text.from_entries {R = by_bytes} (text_pairs m.entries)) q ≡ tree.get_by_text m q
get-text_pairs m q = get-from_entries nat_list_cmp_total (text_pairs m.entries) q ∙ find-text_pairs q m.entries

-- setting the value of a name in the map of strings inserts it into the map by text
pub inserted_text : (m n : BTreeMap (String Global) ℕ) (name : List ℕ) (v : ℕ)
    → tree.UpdatesBy string_cmp (λ k. slice_cmp nat_cmp name (string_bytes k)) m n (Some v)
    → by_text.from_entries {R = by_bytes} (text_pairs n.entries) ≡ by_text.insert (by_text.from_entries (text_pairs m.entries)) name v
inserted_text m n name v updates = same_map nat_list_cmp_total by_bytes-IsAntisymmetric _ _ (λ q.
    get-text_pairs n q
    ∙ btree_map_updates_text name m n (Some v) updates q
    ∙ ap₂ (λ b o. cond b (Some v) o) (sym (is_eq-slice_cmp name q) ∙ (eq_by_cmp_equiv nat_list_cmp_total).symm name q)
    (sym (get-text_pairs m q))
    ∙ sym (get-insert nat_list_cmp_total _ name v q))

-- the text of a string that is less than other strings is less than their texts
below_texts : (k : String Global) (es : List (String Global × ℕ))
    → AllByRecursion (λ y. string_cmp k y ≡ Less) (map (λ e. e.0) es)
    → T (below_all by_bytes (string_bytes k) (text_pairs es))
below_texts k [] all = tt
below_texts k (e ∷ es) all = both _ _ (subst (λ r. T (is_lt r)) (sym all.0) tt) (below_texts k es all.1)

-- the texts of strictly ascending strings strictly ascend
rising_texts : (es : List (String Global × ℕ)) → IsStrictlySortedBy string_cmp (map (λ e. e.0) es) → T (is_sorted by_bytes (text_pairs es))
unfolding IsStrictlySortedBy
rising_texts [] rising = tt
rising_texts (e ∷ es) rising = both _ _ (below_texts e.0 es rising.0) (rising_texts es rising.1)

-- the pairs of an ordered map are sorted
pub sorted_texts : (m : BTreeMap (String Global) ℕ) → tree.IsOrdered string_cmp m → IsSorted (text_pairs m.entries)
sorted_texts m ordered = is_true _ (rising_texts m.entries ordered)

-- the map of the sorted pairs of an ordered map is the map by text
pub map_of_texts : (m : BTreeMap (String Global) ℕ) → tree.IsOrdered string_cmp m
    → map_of (text_pairs m.entries) ≡ by_text.from_entries (text_pairs m.entries)
map_of_texts m ordered = same_map nat_list_cmp_total by_bytes-IsAntisymmetric _ _ (λ q.
    get-from_sorted by_bytes (text_pairs m.entries) q (rising_texts m.entries ordered)
    ∙ sym (get-from_entries nat_list_cmp_total (text_pairs m.entries) q))

-- `is_none` is the negation of `is_some`
pub is_none_by : {A : Type 0} (o : Option A) (b : Bool) → is_some o ≡ not b → b ≡ is_none o
is_none_by o true is = sym (ap not is)
is_none_by o false is = sym (ap not is)

-- an empty map of strings is the empty map by text
pub no_texts : (m : BTreeMap (String Global) ℕ) → tree.IsEmpty m
    → by_text.from_entries {R = by_bytes} (text_pairs m.entries) ≡ by_text.empty
no_texts m none = ap (λ es. by_text.from_entries {R = by_bytes} (text_pairs es)) none
