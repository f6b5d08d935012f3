-- Facts about the new keys of renamed entries: how they are found, and how maps and lists contain them.
use Rattle.std.proofs.Common.{◌≡◌, ◌<◌, ◌+◌, ℕ, zero, suc, Bool, true, false, List, [], ◌∷◌, ◌++◌, Option, Some, None, append_assoc, arith, cond, drop, get_or, length, map, refl, subst, sym, ap, take, unwrap_or, ◌∙◌}
use Rattle.std.specs.Prelude.{◌≢◌, ◌==◌, ◌&&◌, bytes_eq, count_by, filter, is_none, is_some, option_and_then, option_map, option_to_list, slice_get}
use Rattle.std.specs.Borrow.{Bor}
use Rattle.std.specs.FinMap.{get, insert}
use Rattle.std.specs.List.{cons_option, enumerate_from, filter_map, find, list_all}
use Rattle.std.specs.Option.{option_or}
use Rattle.std.proofs.lemmas.List.Folds.{find-append}
use Rattle.std.proofs.lemmas.Option.{slice_get-map}
use Rattle.std.proofs.lemmas.Slice.Eq.{bytes_eq-Decides}
use Rattle.std.proofs.lemmas.List.{drop_more, map-append, take_more}
use mathlib.Core.Path.{fun_ext}
use Rattle.bib_collections.specs.Sorted.{ByText}
use Rattle.bib_text.proofs.ListFacts.{drop_is, mapped_more}
use Rattle.bib_syntax.specs.Reading.{EntryReading}
use Rattle.edit_changes.specs.Changes.{renamed_indices, renamed_to}
use Rattle.edit_changes.specs.Counts.{AreCounts}
use Rattle.bib_syntax.specs.Grammar.{IsFile}
use Rattle.edit_entries.specs.Documents.{Document, IsEdited}
use Rattle.edit_entries.specs.References.{KeysAreRefused, KeysRenamed, given_keys}
use Rattle.edit_entries.specs.declared.errors.EditError.{EditError}
use Rattle.edit_entries.specs.declared.errors.EditError.TheVariants.{OutOfMemory}
use Rattle.edit_merge.specs.Picked.{Versions}
use Rattle.edit_merge.specs.Renames.{AreDocumentsOf, AreNewTexts, Documents, HasNewKey, IsNewText, IsVersionDocument, RenameReading, agreed_key, entry_keys, has_one, have_one, key_on_side, keys_after, new_key, no_texts, rename_at, rename_from, single_key}
use Rattle.edit_merge.specs.RenameViews.{AreKeyCounts}
use Rattle.edit_merge.specs.declared.renames.KeyCounts.{KeyCounts}
use Rattle.edit_merge.proofs.EntryFacts.{no_document, same_document}
use Rattle.edit_versions.proofs.NameFacts.{counts_more}
use Rattle.edit_versions.specs.Versions.{VersionReading, version_names, version_unit}

-- ---- counts of keys

-- the counts of keys and of one more
pub count_next : {A : Type 0} (view : A → EntryReading) (xs : List A) (i : ℕ) (x : A) (counts new : ByText ℕ) (number : ℕ)
    → i < length xs → x ≡ get_or xs i x → AreCounts (map (λ e. e.key.text) (map view (take i xs))) counts
    → number ≡ unwrap_or (get counts (view x).key.text) 0 → new ≡ insert counts (view x).key.text (number + 1)
    → AreCounts (map (λ e. e.key.text) (map view (take (i + 1) xs))) new
count_next view xs i x counts new number within is so_far number_is new_is =
    let keys = ap (map (λ (e : EntryReading). e.key.text)) (mapped_more view xs i x within is)
    ∙ map-append (λ (e : EntryReading). e.key.text) (map view (take i xs)) (view x ∷ []) in
    subst (λ ks. AreCounts ks new) (sym keys)
    (counts_more (map (λ e. e.key.text) (map view (take i xs))) counts new (view x).key.text number so_far number_is new_is)

-- whether exactly one entry has the old or the new key of a rename, given the number of entries with each key
abbrev pub has_one_in : ByText ℕ → RenameReading → Bool
has_one_in counts r = unwrap_or (get counts r.old) 0 + unwrap_or (get counts r.new) 0 == 1

one_in : (d : Document) (counts : ByText ℕ) (r : RenameReading) → AreCounts (entry_keys d) counts → has_one_in counts r ≡ has_one d r
one_in d counts r are =
    ap (λ n. n + unwrap_or (get counts r.new) 0 == 1) (are r.old)
    ∙ ap (λ n. count_by (bytes_eq r.old) (entry_keys d) + n == 1) (are r.new)

pub none_in_base : (ds : Documents) (counts : KeyCounts) (r : RenameReading) → AreKeyCounts ds counts → has_one_in counts.base r ≡ false
    → false ≡ have_one ds r
none_in_base ds counts r are none =
    sym (ap (λ b. b && (has_one ds.ours r && has_one ds.theirs r)) (sym (one_in ds.base counts.base r are.base) ∙ none))

pub none_in_ours : (ds : Documents) (counts : KeyCounts) (r : RenameReading) → AreKeyCounts ds counts → has_one_in counts.base r ≡ true
    → has_one_in counts.ours r ≡ false → false ≡ have_one ds r
none_in_ours ds counts r are one none =
    sym (ap (λ b. b && (has_one ds.ours r && has_one ds.theirs r)) (sym (one_in ds.base counts.base r are.base) ∙ one)
    ∙ ap (λ b. b && has_one ds.theirs r) (sym (one_in ds.ours counts.ours r are.ours) ∙ none))

pub one_in_theirs : (ds : Documents) (counts : KeyCounts) (r : RenameReading) (result : Bool) → AreKeyCounts ds counts
    → has_one_in counts.base r ≡ true → has_one_in counts.ours r ≡ true → result ≡ has_one_in counts.theirs r → result ≡ have_one ds r
one_in_theirs ds counts r result are base ours is =
    is ∙ one_in ds.theirs counts.theirs r are.theirs
    ∙ sym (ap (λ b. b && (has_one ds.ours r && has_one ds.theirs r)) (sym (one_in ds.base counts.base r are.base) ∙ base)
    ∙ ap (λ b. b && has_one ds.theirs r) (sym (one_in ds.ours counts.ours r are.ours) ∙ ours))

-- ---- indices of renamed entries

at_index : (f : ℕ → Option ℕ) (first : ℕ) (names : List (List ℕ)) (i : ℕ) → i < length names
    → slice_get (map (λ x. f x.0) (enumerate_from first names)) i ≡ Some (f (first + i))
at_index f first [] i within = absurd (omega (arith, within))
at_index f first (n ∷ ns) zero within = let here : first ≡ first + 0 = omega arith in ap (λ k. Some (f k)) here
at_index f first (n ∷ ns) (suc i) within =
    let later : first + 1 + i ≡ first + suc i = omega arith in
    at_index f (first + 1) ns i (omega (arith, within)) ∙ ap (λ k. Some (f k)) later

-- the index in a list of the indices of renamed entries
pub renamed_at : (v w : VersionReading) (i : ℕ) → i < length (version_names v)
    → option_and_then (λ (x : Option ℕ). x) (slice_get (renamed_indices v w) i) ≡ renamed_to v w i
renamed_at v w i within =
    let here : 0 + i ≡ i = omega arith in
    ap (option_and_then (λ (x : Option ℕ). x)) (at_index (renamed_to v w) 0 (version_names v) i within) ∙ ap (renamed_to v w) here

pub index_found : (v w : VersionReading) (names : List (List ℕ)) (i : ℕ) (indices : List (Option ℕ)) (found : Option ℕ)
    → names ≡ version_names v → i < length names → found ≡ option_and_then (λ (x : Option ℕ). x) (slice_get indices i)
    → indices ≡ renamed_indices v w → found ≡ renamed_to v w i
index_found v w names i indices found named within is all =
    is ∙ ap (λ l. option_and_then (λ (x : Option ℕ). x) (slice_get l i)) all
    ∙ renamed_at v w i (subst (λ l. i < length l) named within)

-- the rename of the entry at an index, given its index on each side
pub rename_found : (vs : Versions) (i : ℕ) (found : Option RenameReading) (o t : Option ℕ) → o ≡ renamed_to vs.base vs.ours i
    → t ≡ renamed_to vs.base vs.theirs i
    → found
    ≡ rename_from (single_key (version_unit vs.base (Some i)))
    (agreed_key (single_key (version_unit vs.ours o)) (single_key (version_unit vs.theirs t)))
    → found ≡ rename_at vs i
rename_found vs i found o t ours theirs is =
    let old = single_key (version_unit vs.base (Some i)) in
    is ∙ ap (λ x. rename_from old (agreed_key (single_key (version_unit vs.ours x)) (single_key (version_unit vs.theirs t)))) ours
    ∙ ap (λ x. rename_from old (agreed_key (key_on_side vs.base vs.ours i) (single_key (version_unit vs.theirs x)))) theirs

-- ---- the loop over the units of the base

-- the renames from an index on: that at the index, and those after it
renames_from : (f : ℕ → Option RenameReading) (names : List (List ℕ)) (i : ℕ) → i < length names
    → filter_map (λ x. f x.0) (enumerate_from i (drop i names))
    ≡ option_to_list (f i) ++ filter_map (λ x. f x.0) (enumerate_from (i + 1) (drop (i + 1) names))
renames_from f names i within =
    ap (λ ns. filter_map (λ x. f x.0) (enumerate_from i ns)) (drop_more names i [] within)
    ∙ by (f i) (filter_map (λ x. f x.0) (enumerate_from (i + 1) (drop (i + 1) names)))
  where
    by : (o : Option RenameReading) (rest : List RenameReading) → cons_option o rest ≡ option_to_list o ++ rest
    by None rest = refl
    by (Some r) rest = refl

-- the renames so far and those from an index on, after the one at the index
pub more_renames : (f : ℕ → Option RenameReading) (names : List (List ℕ)) (i : ℕ) (old new all : List RenameReading) → i < length names
    → new ≡ old ++ option_to_list (f i) → old ++ filter_map (λ x. f x.0) (enumerate_from i (drop i names)) ≡ all
    → new ++ filter_map (λ x. f x.0) (enumerate_from (i + 1) (drop (i + 1) names)) ≡ all
more_renames f names i old new all within new_is so_far =
    let rest = filter_map (λ x. f x.0) (enumerate_from (i + 1) (drop (i + 1) names)) in
    ap (λ rs. rs ++ rest) new_is ∙ append_assoc old (option_to_list (f i)) rest
    ∙ ap (λ rs. old ++ rs) (sym (renames_from f names i within)) ∙ so_far

-- a rename was appended if it is counted
pub data IsCounted (counts : Bool) (old new : List RenameReading) (r : RenameReading) : Type 0 where
  appended : counts ≡ true → new ≡ old ++ r ∷ [] → IsCounted counts old new r
  skipped : counts ≡ false → new ≡ old → IsCounted counts old new r

-- the counted renames so far and those that remain, after one more
pub more_counted : {A : Type 0} (test : RenameReading → Bool) (view : A → RenameReading) (xs : List A) (i : ℕ) (default : A) (counts : Bool)
    (old new all : List RenameReading) → i < length xs → counts ≡ test (view (get_or xs i default))
    → IsCounted counts old new (view (get_or xs i default)) → old ++ filter test (map view (drop i xs)) ≡ all
    → new ++ filter test (map view (drop (i + 1) xs)) ≡ all
more_counted test view xs i default counts old new all within counts_is counted so_far = by counted
  where
    r : RenameReading
    r = view (get_or xs i default)

    rest : List RenameReading
    rest = filter test (map view (drop (i + 1) xs))

    next : (b : Bool) → counts ≡ b → filter test (map view (drop i xs)) ≡ cond b (r ∷ rest) rest
    next b is = ap (λ l. filter test (map view l)) (drop_more xs i default within) ∙ ap (λ t. cond t (r ∷ rest) rest) (sym counts_is ∙ is)

    by : IsCounted counts old new r → new ++ rest ≡ all
    by (IsCounted.appended is new_is) =
        ap (λ l. l ++ rest) new_is ∙ append_assoc old (r ∷ []) rest ∙ ap (λ l. old ++ l) (sym (next true is)) ∙ so_far
    by (IsCounted.skipped is new_is) = ap (λ l. l ++ rest) new_is ∙ ap (λ l. old ++ l) (sym (next false is)) ∙ so_far

-- ---- maps with a new key for an old one

stays : (is : Bool) (found : Option (List ℕ)) (new : List ℕ) → (is ≡ true → is_some found ≡ true)
    → found ≡ option_or found (cond is (Some new) None)
stays true None new some = absurd (let clash : false ≡ true = some refl in cc)
stays true (Some own) new some = refl
stays false None new some = refl
stays false (Some own) new some = refl

given : (is : Bool) (old new : Option (List ℕ)) (key : List ℕ) → (is ≡ true → is_some old ≡ false) → new ≡ cond is (Some key) old
    → new ≡ option_or old (cond is (Some key) None)
given true None new key none same = same
given true (Some own) new key none same = absurd (let clash : true ≡ false = none refl in cc)
given false None new key none same = same
given false (Some own) new key none same = same

-- the key that a reference to a key contains, if there is one
pub mapped_some : (found : Option (Bor (List ℕ))) → is_some (option_map (λ (k : Bor (List ℕ)). k.now) found) ≡ is_some found
mapped_some None = refl
mapped_some (Some k) = refl

pub mapped_cond : (is : Bool) (new : Bor (List ℕ)) (found : Option (Bor (List ℕ)))
    → option_map (λ (k : Bor (List ℕ)). k.now) (cond is (Some new) found)
    ≡ cond is (Some new.now) (option_map (λ (k : Bor (List ℕ)). k.now) found)
mapped_cond true new found = refl
mapped_cond false new found = refl

-- the new key by one rename
pub one_key : (r : RenameReading) (key : List ℕ) → new_key (r ∷ []) key ≡ cond (bytes_eq r.old key) (Some r.new) None
one_key r key = by (bytes_eq r.old key)
  where
    by : (b : Bool) → option_map (λ q. q.new) (cond b (Some r) None) ≡ cond b (Some r.new) None
    by true = refl
    by false = refl

-- the new key by renames one after another
pub more_keys : (rs qs : List RenameReading) (key : List ℕ) → new_key (rs ++ qs) key ≡ option_or (new_key rs key) (new_key qs key)
more_keys rs qs key =
    ap (option_map (λ r. r.new)) (find-append (λ r. bytes_eq r.old key) rs qs)
    ∙ by (find (λ r. bytes_eq r.old key) rs) (find (λ r. bytes_eq r.old key) qs)
  where
    by : (o p : Option RenameReading)
        → option_map (λ r. r.new) (option_or o p) ≡ option_or (option_map (λ r. r.new) o) (option_map (λ r. r.new) p)
    by None p = refl
    by (Some r) p = refl

-- ---- lists of new keys

and_then_map : {A : Type 0} (g : A → Option (List ℕ)) (o : Option A)
    → option_and_then (λ (x : Option (List ℕ)). x) (option_map g o) ≡ option_and_then g o
and_then_map g None = refl
and_then_map g (Some x) = refl

-- a list with the new key of each entry, as a function of indices
pub keys_at : (keys : List (Option (Bor (List ℕ)))) (new : List ℕ → Option (List ℕ)) (d : Document)
    → map (option_map (λ (k : Bor (List ℕ)). k.now)) keys ≡ map (λ (e : EntryReading). new e.key.text) d.says.entries
    → given_keys keys ≡ keys_after new d
keys_at keys new d same =
    fun_ext (λ i.
    let found : List (Option (List ℕ)) → Option (List ℕ) = λ xs. option_and_then (λ (x : Option (List ℕ)). x) (slice_get xs i) in
    let left = and_then_map (option_map (λ (k : Bor (List ℕ)). k.now)) (slice_get keys i) in
    let right = and_then_map (λ (e : EntryReading). new e.key.text) (slice_get d.says.entries i) in
    sym left
    ∙ ap (option_and_then (λ (x : Option (List ℕ)). x)) (sym (slice_get-map (option_map (λ (k : Bor (List ℕ)). k.now)) keys i))
    ∙ ap found same
    ∙ ap (option_and_then (λ (x : Option (List ℕ)). x)) (slice_get-map (λ (e : EntryReading). new e.key.text) d.says.entries i)
    ∙ right)

-- if all keys are absent, no index has one
pub none_at : (keys : List (Option (Bor (List ℕ)))) → list_all (λ k. is_none k) keys ≡ true → (i : ℕ) → given_keys keys i ≡ None
none_at [] all i = refl
none_at (None ∷ keys) all zero = refl
none_at (None ∷ keys) all (suc i) = none_at keys all i
none_at (Some k ∷ keys) all i = absurd (cc)

-- otherwise some index has one
pub some_at : (keys : List (Option (Bor (List ℕ)))) → list_all (λ k. is_none k) keys ≡ false
    → (i : ℕ) × (key : List ℕ) × (given_keys keys i ≡ Some key)
some_at [] all = absurd (cc)
some_at (None ∷ keys) all = let (i, key, is) = some_at keys all in (suc i, key, is)
some_at (Some k ∷ keys) all = (zero, k.now, refl)

pub has_new_key : (keys : List (Option (Bor (List ℕ)))) (new : List ℕ → Option (List ℕ)) (d : Document) → given_keys keys ≡ keys_after new d
    → list_all (λ k. is_none k) keys ≡ false → HasNewKey new d
has_new_key keys new d same all =
    let (i, key, is) = some_at keys all in record { index = i; key = key; is = sym (ap (λ f. f i) same) ∙ is }

-- a map gets a new key for an old one that it lacks
pub gets_key : (r : RenameReading) (key : List ℕ) (old : List ℕ → Option (List ℕ)) (new : Option (List ℕ)) → is_some (old r.old) ≡ false
    → new ≡ cond (bytes_eq r.old key) (Some r.new) (old key) → new ≡ option_or (old key) (new_key (r ∷ []) key)
gets_key r key old new none same =
    given (bytes_eq r.old key) (old key) new r.new
    (λ is. ap (λ n. is_some (old n)) (sym ((bytes_eq-Decides r.old key).0 is)) ∙ none) same
    ∙ ap (option_or (old key)) (sym (one_key r key))

-- the new key by renames and one more
pub next_key : {A : Type 0} (view : A → RenameReading) (xs : List A) (i : ℕ) (default : A) (key : List ℕ) (old new : Option (List ℕ))
    → i < length xs → old ≡ new_key (map view (take i xs)) key → new ≡ option_or old (new_key (view (get_or xs i default) ∷ []) key)
    → new ≡ new_key (map view (take (i + 1) xs)) key
next_key view xs i default key old new within so_far more =
    let x = get_or xs i default in
    let taken : map view (take (i + 1) xs) ≡ map view (take i xs) ++ view x ∷ [] =
    ap (map view) (take_more xs i default within) ∙ map-append view (take i xs) (x ∷ []) in
    more ∙ ap (λ o. option_or o (new_key (view x ∷ []) key)) so_far
    ∙ sym (ap (λ rs. new_key rs key) taken ∙ more_keys (map view (take i xs)) (view x ∷ []) key)

-- the keys so far and those of the remaining entries, after one more key
pub pushed_key : {A B C : Type 0} (f : A → C) (view : B → EntryReading) (g : EntryReading → C) (xs : List B) (i : ℕ) (x : B)
    (old new : List A) (a : A) (all : List C) → i < length xs → x ≡ get_or xs i x → new ≡ old ++ a ∷ [] → f a ≡ g (view x)
    → map f old ++ map g (map view (drop i xs)) ≡ all → map f new ++ map g (map view (drop (i + 1) xs)) ≡ all
pushed_key f view g xs i x old new a all within is new_is same so_far =
    let rest = map g (map view (drop (i + 1) xs)) in
    ap (λ l. map f l ++ rest) new_is ∙ ap (λ l. l ++ rest) (map-append f old (a ∷ [])) ∙ append_assoc (map f old) (f a ∷ []) rest
    ∙ ap (λ y. map f old ++ y ∷ rest) same ∙ sym (ap (λ l. map f old ++ map g (map view l)) (drop_is xs i x within is)) ∙ so_far

-- if no key in a list is there, no entry gets a new key
pub gets_none : (keys : List (Option (Bor (List ℕ)))) (new : List ℕ → Option (List ℕ)) (d : Document)
    → map (option_map (λ (k : Bor (List ℕ)). k.now)) keys ≡ map (λ (e : EntryReading). new e.key.text) d.says.entries
    → list_all (λ k. is_none k) keys ≡ true → IsNewText new d None
gets_none keys new d same all = λ i. sym (ap (λ f. f i) (keys_at keys new d same)) ∙ none_at keys all i

-- otherwise the text with the keys of the list is the new text
pub gets_text : (keys : List (Option (Bor (List ℕ)))) (new : List ℕ → Option (List ℕ)) (d : Document) (text : List ℕ)
    → map (option_map (λ (k : Bor (List ℕ)). k.now)) keys ≡ map (λ (e : EntryReading). new e.key.text) d.says.entries
    → list_all (λ k. is_none k) keys ≡ false → IsEdited (KeysRenamed d (given_keys keys)) text → IsNewText new d (Some text)
gets_text keys new d text same all edited =
    record {
      some = has_new_key keys new d (keys_at keys new d same) all;
      edited = subst (λ f. IsEdited (KeysRenamed d f) text) (keys_at keys new d same) edited;
    }

-- the keys of the list are refused for the same reasons
pub refuses_keys : (keys : List (Option (Bor (List ℕ)))) (new : List ℕ → Option (List ℕ)) (d : Document) (error : EditError)
    → map (option_map (λ (k : Bor (List ℕ)). k.now)) keys ≡ map (λ (e : EntryReading). new e.key.text) d.says.entries
    → KeysAreRefused d (given_keys keys) error → KeysAreRefused d (keys_after new d) error
refuses_keys keys new d error same refused = subst (λ f. KeysAreRefused d f error) (keys_at keys new d same) refused

-- if the keys of one document are refused, all texts stay
pub base_refused : (keys : List ℕ → Option (List ℕ)) (ds : Documents) (error : EditError)
    → KeysAreRefused ds.base (keys_after keys ds.base) error → error ≢ OutOfMemory → AreNewTexts keys ds no_texts
base_refused keys ds error refused reason = AreNewTexts.refused_base (record { error = error; refused = refused; reason = reason })

pub ours_refused : (keys : List ℕ → Option (List ℕ)) (ds : Documents) (error : EditError)
    → KeysAreRefused ds.ours (keys_after keys ds.ours) error → error ≢ OutOfMemory → AreNewTexts keys ds no_texts
ours_refused keys ds error refused reason = AreNewTexts.refused_ours (record { error = error; refused = refused; reason = reason })

pub theirs_refused : (keys : List ℕ → Option (List ℕ)) (ds : Documents) (error : EditError)
    → KeysAreRefused ds.theirs (keys_after keys ds.theirs) error → error ≢ OutOfMemory → AreNewTexts keys ds no_texts
theirs_refused keys ds error refused reason = AreNewTexts.refused_theirs (record { error = error; refused = refused; reason = reason })

-- ---- the documents of the versions

-- a version whose text isn't a file has no document
pub no_version_document : {v : VersionReading} {d : Document} (text : List ℕ) → text ≡ v.text → (IsFile text → ⊥) → IsVersionDocument v d
    → ⊥
no_version_document text same no_file is = no_document no_file (is.text ∙ sym same, is.read)

-- a version has one document
same_version_document : {v : VersionReading} {d e : Document} → IsVersionDocument v d → IsVersionDocument v e → d ≡ e
same_version_document {v} is other = same_document {text = v.text} (is.text, is.read) (other.text, other.read)

pub same_documents : {vs : Versions} (ds es : Documents) → AreDocumentsOf vs ds → AreDocumentsOf vs es → ds ≡ es
same_documents ds es are other =
    ap (λ d. record { base = d; ours = ds.ours; theirs = ds.theirs }) (same_version_document are.base other.base)
    ∙ ap (λ d. record { base = es.base; ours = d; theirs = ds.theirs }) (same_version_document are.ours other.ours)
    ∙ ap (λ d. record { base = es.base; ours = es.ours; theirs = d }) (same_version_document are.theirs other.theirs)
