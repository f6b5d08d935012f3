-- The identities of the entries so far, with the first entries that have them, and the findings of likely duplicates.
use Rattle.std.proofs.Common.{◌≡◌, ℕ, Bool, true, false, not, List, [], ◌∷◌, ◌++◌, ◌+◌, ◌<◌, ◌==◌, ◌||◌, ◌≤◌, length, get_or, take, drop, map, suc, min, codes, Option, Some, None, Result, Ok, Err, OnOk, refl, sym, ap, ◌∙◌, append_assoc, append-nil, subst, arith, cond}
use Rattle.std.specs.Prelude.{IfSome, String, bytes_eq, find, is_some, nat_lt, option_and_then, slice_get}
use Rattle.std.specs.Global.{Global}
use Rattle.std.specs.Option.{UnwrapsOrElse}
use Rattle.std.specs.Vec.{vec_len}
use Rattle.std.specs.Map.{update}
use Rattle.std.specs.List.{All, cons_option, filter, filter_map, list_any}
use Rattle.std.specs.String.{string_bytes}
use Rattle.std.specs.declared.vec.Vec.{Vec}
use Rattle.std.proofs.lemmas.Bool.Decides.{nat_tests}
use Rattle.std.proofs.lemmas.List.{length-append, length-take, take-append-le, take_all, take_more}
use Rattle.std.proofs.lemmas.List.Elements.{All-get_or, All-head, All-push, All-tail, filter-append, filter_map-append}
use Rattle.std.proofs.lemmas.List.Folds.{list_any-append}
use Rattle.std.proofs.lemmas.Slice.Eq.{bytes_eq-Decides}
use Rattle.bib_tables.specs.Requirements.{Names}
use Rattle.bib_text.specs.declared.spanned.Spanned.{Spanned}
use Rattle.bib_text.proofs.BytesFacts.{bytes_turned}
use Rattle.bib_queries.proofs.EqualValueFacts.{from_index}
use Rattle.bib_syntax.specs.Reading.{EntryReading}
use Rattle.bib_syntax.specs.Views.{entry_reading_of}
use Rattle.bib_syntax.specs.declared.raw.RawEntry.{RawEntry}
use Rattle.bib_findings.specs.Duplicates.{duplicate_after, duplicate_finding, duplicates_after, entries_at, most_compared, same_by, same_work}
use Rattle.bib_findings.specs.Identities.{are_told_apart, doi_of, has_identity, identities, identity, isbn_of, work_of}
use Rattle.bib_findings.specs.Seen.{AreFirstWith, AreThere, alike_among, alike_by, first_alike, remembered, same_finding, stored_indices, with_entry_index}
use Rattle.bib_findings.proofs.ListFacts.{get_mapped, given_more}
use Rattle.bib_findings.proofs.SharedFacts.{in_identity}

-- the entries at indices and one more are the entries at the indices and the entry at that one
pub entries_more : (said : List (Spanned RawEntry)) (indices : List ℕ) (index : ℕ) (other : Spanned RawEntry) → index < length said
    → entries_at (map entry_reading_of said) (indices ++ index ∷ [])
    ≡ entries_at (map entry_reading_of said) indices ++ entry_reading_of (get_or said index other) ∷ []
entries_more said indices index other within =
    given_more (slice_get (map entry_reading_of said)) indices index (entry_reading_of (get_or said index other))
    (get_mapped entry_reading_of said index other within)

-- the entries at the first `index + 1` indices are those at the first `index` ones, and then the entry at the next one
pub entries_next : (said : List (Spanned RawEntry)) (indices : List ℕ) (index : ℕ) (item : Spanned RawEntry)
    → All (λ i. i < length said) indices → index < length indices
    → item ≡ get_or said (get_or indices index 0) item
    → entries_at (map entry_reading_of said) (take (index + 1) indices)
    ≡ entries_at (map entry_reading_of said) (take index indices) ++ entry_reading_of item ∷ []
entries_next said indices index item there within is =
    let so_far : List EntryReading = entries_at (map entry_reading_of said) (take index indices) in
    ap (entries_at (map entry_reading_of said)) (take_more indices index 0 within)
    ∙ entries_more said (take index indices) (get_or indices index 0) item (All-get_or (λ i. i < length said) indices index 0 within there)
    ∙ ap (λ e. so_far ++ entry_reading_of e ∷ []) (sym is)

-- looking up the index of an entry returns its reading
pub entry_at : (said : List (Spanned RawEntry)) (index : ℕ) (item : Spanned RawEntry) → index < length said → item ≡ get_or said index item
    → slice_get (map entry_reading_of said) index ≡ Some (entry_reading_of item)
entry_at said index item within is = get_mapped entry_reading_of said index item within ∙ ap (λ e. Some (entry_reading_of e)) (sym is)

-- there are as many entries at indices in range as indices
pub as_many : (said : List (Spanned RawEntry)) (other : Spanned RawEntry) (indices : List ℕ) → All (λ index. index < length said) indices
    → length (entries_at (map entry_reading_of said) indices) ≡ length indices
as_many said other [] there = refl
as_many said other (index ∷ indices) there =
    ap (λ o. length (cons_option o (entries_at (map entry_reading_of said) indices)))
    (get_mapped entry_reading_of said index other (All-head (λ i. i < length said) index indices there))
    ∙ ap suc (as_many said other indices (All-tail (λ i. i < length said) index indices there))

-- the entries at the indices from `at` on are the entry at the index there, and those at the indices after it
pub entries_from : (said : List (Spanned RawEntry)) (indices : List ℕ) (at : ℕ) (item : Spanned RawEntry)
    → All (λ i. i < length said) indices → at < length indices → item ≡ get_or said (get_or indices at 0) item
    → entries_at (map entry_reading_of said) (drop at indices)
    ≡ entry_reading_of item ∷ entries_at (map entry_reading_of said) (drop (at + 1) indices)
entries_from said indices at item there within is =
    let later : List EntryReading = entries_at (map entry_reading_of said) (drop (at + 1) indices) in
    ap (entries_at (map entry_reading_of said)) (from_index indices at 0 within)
    ∙ ap (λ o. cons_option o later)
    (entry_at said (get_or indices at 0) item (All-get_or (λ i. i < length said) indices at 0 within there) is)

-- if the next item passes and none before it does, it is the first one that passes
pub find_here : {A : Type 0} (test : A → Bool) (whole left later : List A) (item : A) → find test whole ≡ find test left
    → left ≡ item ∷ later → test item ≡ true → find test whole ≡ Some item
find_here test whole left later item so_far is passes =
    so_far ∙ ap (find test) is ∙ ap (λ b. cond b (Some item) (find test later)) passes

-- if neither the next item nor one before it passes, the first one that passes is the first such one after it
pub find_past : {A : Type 0} (test : A → Bool) (whole left later : List A) (item : A) → find test whole ≡ find test left
    → left ≡ item ∷ later → test item ≡ false → find test whole ≡ find test later
find_past test whole left later item so_far is fails =
    so_far ∙ ap (find test) is ∙ ap (λ b. cond b (Some item) (find test later)) fails

-- if no field tells the next entry apart, but one tells each entry before it apart, it is the first that no field tells apart
pub alike_here : (said : List (Spanned RawEntry)) (indices : List ℕ) (at : ℕ) (one : EntryReading) (item : Spanned RawEntry) (told : Bool)
    → All (λ i. i < length said) indices → at < length indices → item ≡ get_or said (get_or indices at 0) item
    → first_alike one (entries_at (map entry_reading_of said) indices)
    ≡ first_alike one (entries_at (map entry_reading_of said) (drop at indices))
    → told ≡ are_told_apart one (entry_reading_of item) → told ≡ false
    → slice_get (map entry_reading_of said) (get_or indices at 0) ≡ first_alike one (entries_at (map entry_reading_of said) indices)
alike_here said indices at one item told there within is so_far tells alike =
    entry_at said (get_or indices at 0) item (All-get_or (λ i. i < length said) indices at 0 within there) is
    ∙ sym
    (find_here (λ other. not (are_told_apart one other)) (entries_at (map entry_reading_of said) indices)
    (entries_at (map entry_reading_of said) (drop at indices)) (entries_at (map entry_reading_of said) (drop (at + 1) indices))
    (entry_reading_of item) so_far (entries_from said indices at item there within is) (ap not (sym tells ∙ alike)))

-- if a field tells the next entry and each before it apart, the first that no field tells apart is the first such one after it
pub alike_past : (said : List (Spanned RawEntry)) (indices : List ℕ) (at : ℕ) (one : EntryReading) (item : Spanned RawEntry) (told : Bool)
    → All (λ i. i < length said) indices → at < length indices → item ≡ get_or said (get_or indices at 0) item
    → first_alike one (entries_at (map entry_reading_of said) indices)
    ≡ first_alike one (entries_at (map entry_reading_of said) (drop at indices))
    → told ≡ are_told_apart one (entry_reading_of item) → told ≡ true
    → first_alike one (entries_at (map entry_reading_of said) indices)
    ≡ first_alike one (entries_at (map entry_reading_of said) (drop (at + 1) indices))
alike_past said indices at one item told there within is so_far tells apart =
    find_past (λ other. not (are_told_apart one other)) (entries_at (map entry_reading_of said) indices)
    (entries_at (map entry_reading_of said) (drop at indices)) (entries_at (map entry_reading_of said) (drop (at + 1) indices))
    (entry_reading_of item) so_far (entries_from said indices at item there within is) (ap not (sym tells ∙ apart))

-- the entry at an index in range is there
pub still_some : (said : List (Spanned RawEntry)) (other : Spanned RawEntry) (first : Option ℕ) → IfSome first (λ i. i < length said)
    → is_some first ≡ true → is_some (option_and_then (slice_get (map entry_reading_of said)) first) ≡ true
still_some said other None within some = some
still_some said other (Some index) within some = ap is_some (get_mapped entry_reading_of said index other within)

-- the finding for an index is that for the entry at this index
pub same_at : (said : List (Spanned RawEntry)) (one : EntryReading) (first : Option ℕ) (index : ℕ) (item : Spanned RawEntry)
    → first ≡ Some index → IfSome first (λ i. i < length said) → item ≡ get_or said index item
    → same_finding one (option_and_then (slice_get (map entry_reading_of said)) first) ≡ duplicate_finding one (entry_reading_of item) ∷ []
same_at said one first index item some within is =
    ap (λ o. same_finding one (option_and_then (slice_get (map entry_reading_of said)) o)) some
    ∙ ap (same_finding one) (entry_at said index item (subst (λ o. IfSome o (λ i. i < length said)) some within) is)

-- the first of the values that are given for some items
abbrev pub first_given : {A B : Type 0} → (A → Option B) → List A → Option B
first_given given items = slice_get (filter_map given items) 0

-- if a value is given for the next item and for none before it, it is the first one
pub given_here : {A B : Type 0} (given : A → Option B) (whole left later : List A) (item : A) (value : B)
    → first_given given whole ≡ first_given given left → left ≡ item ∷ later → given item ≡ Some value
    → first_given given whole ≡ Some value
given_here given whole left later item value so_far is some =
    so_far ∙ ap (first_given given) is ∙ ap (λ o. slice_get (cons_option o (filter_map given later)) 0) some

-- if no value is given for the next item or one before it, the first one is the first that is given for an item after it
pub given_past : {A B : Type 0} (given : A → Option B) (whole left later : List A) (item : A)
    → first_given given whole ≡ first_given given left → left ≡ item ∷ later → given item ≡ None
    → first_given given whole ≡ first_given given later
given_past given whole left later item so_far is none =
    so_far ∙ ap (first_given given) is ∙ ap (λ o. slice_get (cons_option o (filter_map given later)) 0) none

-- if a value is given for the next identity and for none before it, it is the first one
pub among_here : (given : List ℕ → Option EntryReading) (ids : List (String Global)) (at : ℕ) (id : String Global)
    (found : Option EntryReading) → at < length ids → id ≡ get_or ids at id
    → first_given given (map string_bytes ids) ≡ first_given given (map string_bytes (drop at ids))
    → found ≡ given (string_bytes id) → is_some found ≡ true → found ≡ first_given given (map string_bytes ids)
among_here given ids at id None within is so_far here some = absurd (let clash : false ≡ true = some in cc)
among_here given ids at id (Some value) within is so_far here some =
    sym
    (given_here given (map string_bytes ids) (map string_bytes (drop at ids)) (map string_bytes (drop (at + 1) ids)) (string_bytes id) value
    so_far
    (ap (map string_bytes) (from_index ids at id within)
    ∙ ap (λ one. string_bytes one ∷ map string_bytes (drop (at + 1) ids)) (sym is))
    (sym here))

-- if two functions give the same for each item, they give the same for a list
pub given_agree : {A B : Type 0} (given other : A → Option B) (items : List A) → ((item : A) → given item ≡ other item)
    → filter_map given items ≡ filter_map other items
given_agree given other [] same = refl
given_agree given other (item ∷ items) same =
    ap (λ o. cons_option o (filter_map given items)) (same item)
    ∙ ap (cons_option (other item)) (given_agree given other items same)

-- the indices that are lent for an identity are those that are stored for it
lent_items : (had : Option (Vec ℕ Global)) (lent : Vec ℕ Global)
    → UnwrapsOrElse had (λ indices. (indices.items ≡ []) × (vec_len indices ≡ 0)) lent → lent.items ≡ stored_indices had
lent_items None lent is = is.0
lent_items (Some indices) lent is = ap (λ v. v.items) is

-- if the indices of one identity are changed by `with_entry_index`, the stored indices are those of `remembered` for this identity
pub stored_one : (old new : List ℕ → Option (Vec ℕ Global)) (key : List ℕ) (had : Option (Vec ℕ Global)) (lent kept : Vec ℕ Global)
    (index : ℕ) → had ≡ old key → UnwrapsOrElse had (λ indices. (indices.items ≡ []) × (vec_len indices ≡ 0)) lent
    → kept.items ≡ with_entry_index lent.items index → ((id : List ℕ) → new id ≡ update bytes_eq old key (Some kept) id)
    → (id : List ℕ) → stored_indices (new id) ≡ remembered (key ∷ []) index id (stored_indices (old id))
stored_one old new key had lent kept index finds lends adds writes id = by (bytes_eq key id) refl
  where
    by : (here : Bool) → bytes_eq key id ≡ here
        → stored_indices (new id) ≡ cond (bytes_eq id key) (with_entry_index (stored_indices (old id)) index) (stored_indices (old id))
    by true here =
        ap stored_indices (writes id ∙ ap (λ b. cond b (Some kept) (old id)) here) ∙ adds
        ∙ ap (λ l. with_entry_index l index)
        (lent_items had lent lends ∙ ap stored_indices finds ∙ ap (λ k. stored_indices (old k)) ((bytes_eq-Decides key id).0 here))
        ∙ sym
        (ap (λ b. cond b (with_entry_index (stored_indices (old id)) index) (stored_indices (old id))) (bytes_turned id key ∙ here))
    by false other =
        ap stored_indices (writes id ∙ ap (λ b. cond b (Some kept) (old id)) other)
        ∙ sym
        (ap (λ b. cond b (with_entry_index (stored_indices (old id)) index) (stored_indices (old id))) (bytes_turned id key ∙ other))

-- an index that is stored for two lists of identities in turn is stored for both
pub remembered_both : (ids more : Names) (index : ℕ) (id : List ℕ) (had : List ℕ)
    → remembered (ids ++ more) index id had ≡ remembered more index id (remembered ids index id had)
remembered_both [] more index id had = refl
remembered_both (one ∷ ids) more index id had = remembered_both ids more index id (cond (bytes_eq id one) (with_entry_index had index) had)

-- storing an index for the identity of a kind changes the indices of this identity by `with_entry_index`, and those of no other
remembered_identity : (kind text : List ℕ) (index : ℕ) (id had : List ℕ)
    → remembered (identity kind text) index id had ≡ cond (list_any (bytes_eq id) (identity kind text)) (with_entry_index had index) had
remembered_identity kind text index id had =
    elim (length text == 0) as
    (λ none.
    remembered (cond none [] ((kind ++ text) ∷ [])) index id had
    ≡ cond (list_any (bytes_eq id) (cond none [] ((kind ++ text) ∷ []))) (with_entry_index had index) had)
    [ true ↦ refl | false ↦ sole (bytes_eq id (kind ++ text)) ]
  where
    sole : (is : Bool) → cond is (with_entry_index had index) had ≡ cond (is || false) (with_entry_index had index) had
    sole true = refl
    sole false = refl

-- whether an identity is that of a kind
abbrev IsOfKind : List ℕ → List ℕ → List ℕ → Type 0
IsOfKind id kind text = list_any (bytes_eq id) (identity kind text) ≡ true

-- an identity of a kind is the kind, followed by the text
of_kind : (id kind text : List ℕ) → IsOfKind id kind text → id ≡ kind ++ text
of_kind id kind text is = (bytes_eq-Decides id (kind ++ text)).0 (in_identity (bytes_eq id) kind text is).0

-- an identity isn't of two kinds that begin with different letters
kinds_apart : (id kind text other more : List ℕ) → (get_or (kind ++ text) 0 0 ≡ get_or (other ++ more) 0 0 → ⊥)
    → IsOfKind id kind text → IsOfKind id other more → ⊥
kinds_apart id kind text other more differ one two =
    differ (ap (λ l. get_or l 0 0) (sym (of_kind id kind text one) ∙ of_kind id other more two))

-- if at most one of three tests passes, adding an index for each one that passes adds it once, or not at all if none passes
one_of_three : (a b c : Bool) (had more : List ℕ) (add : List ℕ → List ℕ) → add had ≡ more
    → (a ≡ true → b ≡ true → ⊥) → (a ≡ true → c ≡ true → ⊥) → (b ≡ true → c ≡ true → ⊥)
    → cond c (add (cond b (add (cond a (add had) had)) (cond a (add had) had))) (cond b (add (cond a (add had) had)) (cond a (add had) had))
    ≡ cond (a || (b || c)) more had
one_of_three true true c had more add is ab ac bc = absurd (ab refl refl)
one_of_three true false true had more add is ab ac bc = absurd (ac refl refl)
one_of_three true false false had more add is ab ac bc = is
one_of_three false true true had more add is ab ac bc = absurd (bc refl refl)
one_of_three false true false had more add is ab ac bc = is
one_of_three false false true had more add is ab ac bc = is
one_of_three false false false had more add is ab ac bc = refl

-- storing the index of an entry for its identities changes the indices of each of them once, by `with_entry_index`
pub remembered_once : (said : EntryReading) (index : ℕ) (id had : List ℕ)
    → remembered (identities said) index id had ≡ cond (has_identity id said) (with_entry_index had index) had
remembered_once said index id had =
    remembered_both dois (isbns ++ works) index id had ∙ remembered_both isbns works index id (remembered dois index id had)
    ∙ ap (λ l. remembered works index id (remembered isbns index id l)) (remembered_identity (codes "doi ") (doi_of said) index id had)
    ∙ ap (remembered works index id) (remembered_identity (codes "isbn ") (isbn_of said) index id (cond a (with_entry_index had index) had))
    ∙ remembered_identity (codes "work ") (work_of said) index id
    (cond b (with_entry_index (cond a (with_entry_index had index) had) index) (cond a (with_entry_index had index) had))
    ∙ one_of_three a b c had (with_entry_index had index) (λ l. with_entry_index l index) refl
    (kinds_apart id (codes "doi ") (doi_of said) (codes "isbn ") (isbn_of said) (λ (clash : 100 ≡ 105). omega (arith, clash)))
    (kinds_apart id (codes "doi ") (doi_of said) (codes "work ") (work_of said) (λ (clash : 100 ≡ 119). omega (arith, clash)))
    (kinds_apart id (codes "isbn ") (isbn_of said) (codes "work ") (work_of said) (λ (clash : 105 ≡ 119). omega (arith, clash)))
    ∙ ap (λ any. cond any (with_entry_index had index) had)
    (sym (list_any-append (bytes_eq id) dois (isbns ++ works) ∙ ap (λ any. a || any) (list_any-append (bytes_eq id) isbns works)))
  where
    dois : Names
    dois = identity (codes "doi ") (doi_of said)

    isbns : Names
    isbns = identity (codes "isbn ") (isbn_of said)

    works : Names
    works = identity (codes "work ") (work_of said)

    a : Bool
    a = list_any (bytes_eq id) dois

    b : Bool
    b = list_any (bytes_eq id) isbns

    c : Bool
    c = list_any (bytes_eq id) works

-- an index in range keeps indices in range
added_there : (count : ℕ) (had : List ℕ) (index : ℕ) → index < count → All (λ i. i < count) had
    → All (λ i. i < count) (with_entry_index had index)
added_there count had index within there =
    elim (nat_lt (length had) most_compared) as (λ b. All (λ i. i < count) (cond b (had ++ index ∷ []) had))
    [ true ↦ All-push (λ i. i < count) had index there within | false ↦ there ]

-- storing an index in range keeps indices in range
remembered_there : (count : ℕ) (ids : Names) (index : ℕ) (id had : List ℕ) → index < count → All (λ i. i < count) had
    → All (λ i. i < count) (remembered ids index id had)
remembered_there count [] index id had within there = there
remembered_there count (one ∷ ids) index id had within there =
    remembered_there count ids index id (cond (bytes_eq id one) (with_entry_index had index) had) within
    (elim (bytes_eq id one) as (λ b. All (λ i. i < count) (cond b (with_entry_index had index) had))
    [ true ↦ added_there count had index within there | false ↦ there ])

-- if an index in range is stored, the stored indices stay in range
pub still_there : (old new : List ℕ → Option (Vec ℕ Global)) (count : ℕ) (ids : Names) (index : ℕ) → AreThere old count → index < count
    → ((id : List ℕ) → stored_indices (new id) ≡ remembered ids index id (stored_indices (old id))) → AreThere new count
still_there old new count ids index there within is id =
    subst (All (λ i. i < count)) (sym (is id)) (remembered_there count ids index id (stored_indices (old id)) within (there id))

-- if `nat_lt` returns true, the first number is less than the second
less : (one other : ℕ) → nat_lt one other ≡ true → one < other
less one other is = grind (arith, nat_tests, is)

not_less : (one other : ℕ) → nat_lt one other ≡ false → other ≤ one
not_less one other is = grind (arith, nat_tests, is)

is_less : (one other : ℕ) → one < other → nat_lt one other ≡ true
is_less one other below = grind (arith, nat_tests, below)

is_not_less : (one other : ℕ) → other ≤ one → nat_lt one other ≡ false
is_not_less one other above = grind (arith, nat_tests, above)

-- the first items of a list with one more: that item is added if there are fewer than asked for
take_one : {A : Type 0} (count : ℕ) (items : List A) (item : A)
    → cond (nat_lt (length (take count items)) count) (take count items ++ item ∷ []) (take count items) ≡ take count (items ++ item ∷ [])
take_one {A} count items item = by (nat_lt (length items) count) refl
  where
    size : length (take count items) ≡ min count (length items)
    size = length-take count items

    by : (b : Bool) → nat_lt (length items) count ≡ b
        → cond (nat_lt (length (take count items)) count) (take count items ++ item ∷ []) (take count items)
        ≡ take count (items ++ item ∷ [])
    by true is =
        let below : length items < count = less (length items) count is in
        let short : length items ≤ count = omega (arith, below) in
        let longer : length (items ++ item ∷ []) ≤ count = omega (arith, below, length-append items (item ∷ [])) in
        let few : length (take count items) < count = omega (arith, size, below) in
        ap (λ b. cond b (take count items ++ item ∷ []) (take count items)) (is_less (length (take count items)) count few)
        ∙ ap (λ l. l ++ item ∷ []) (take_all count items short) ∙ sym (take_all count (items ++ item ∷ []) longer)
    by false is =
        let above : count ≤ length items = not_less (length items) count is in
        let many : count ≤ length (take count items) = omega (arith, size, above) in
        ap (λ b. cond b (take count items ++ item ∷ []) (take count items)) (is_not_less (length (take count items)) count many)
        ∙ sym (take-append-le count items (item ∷ []) above)

-- if one more entry has an identity, its index is added to those of the first entries with it, unless these are already enough
first_with : (said : List (Spanned RawEntry)) (other : Spanned RawEntry) (had : List ℕ) (index : ℕ) (one : EntryReading)
    (entries : List EntryReading) → All (λ i. i < length said) had → slice_get (map entry_reading_of said) index ≡ Some one
    → entries_at (map entry_reading_of said) had ≡ take most_compared entries
    → entries_at (map entry_reading_of said) (with_entry_index had index) ≡ take most_compared (entries ++ one ∷ [])
first_with said other had index one entries there at first =
    elim (nat_lt (length had) most_compared) as
    (λ b. entries_at (map entry_reading_of said) (cond b (had ++ index ∷ []) had)
    ≡ cond b (entries_at (map entry_reading_of said) had ++ one ∷ []) (entries_at (map entry_reading_of said) had))
    [ true ↦ given_more (slice_get (map entry_reading_of said)) had index one at | false ↦ refl ]
    ∙ ap
    (λ n. cond (nat_lt n most_compared) (entries_at (map entry_reading_of said) had ++ one ∷ [])
    (entries_at (map entry_reading_of said) had))
    (sym (as_many said other had there))
    ∙ ap (λ l. cond (nat_lt (length l) most_compared) (l ++ one ∷ []) l) first
    ∙ take_one most_compared entries one

-- if the index of one more entry is stored for its identities, each identity still has the first entries that have it
pub first_more : (old new : List ℕ → Option (Vec ℕ Global)) (said : List (Spanned RawEntry)) (earlier : List EntryReading) (index : ℕ)
    (item : Spanned RawEntry) → AreThere old (length said) → index < length said → item ≡ get_or said index item
    → ((id : List ℕ) → stored_indices (new id) ≡ remembered (identities (entry_reading_of item)) index id (stored_indices (old id)))
    → AreFirstWith old (map entry_reading_of said) earlier
    → AreFirstWith new (map entry_reading_of said) (earlier ++ entries_at (map entry_reading_of said) (index ∷ []))
first_more old new said earlier index item there within is stores first id =
    ap (entries_at readings) (stores id ∙ remembered_once one index id (stored_indices (old id)))
    ∙ by (has_identity id one) refl
    ∙ ap (λ o. take most_compared (filter (has_identity id) (earlier ++ cons_option o []))) (sym at)
  where
    one : EntryReading
    one = entry_reading_of item

    readings : List EntryReading
    readings = map entry_reading_of said

    at : slice_get readings index ≡ Some one
    at = entry_at said index item within is

    had : List ℕ
    had = stored_indices (old id)

    more : filter (has_identity id) (earlier ++ one ∷ []) ≡ filter (has_identity id) earlier ++ cond (has_identity id one) (one ∷ []) []
    more = filter-append (has_identity id) earlier (one ∷ [])

    by : (has : Bool) → has_identity id one ≡ has
        → entries_at readings (cond (has_identity id one) (with_entry_index had index) had)
        ≡ take most_compared (filter (has_identity id) (earlier ++ one ∷ []))
    by true has =
        ap (λ b. entries_at readings (cond b (with_entry_index had index) had)) has
        ∙ first_with said item had index one (filter (has_identity id) earlier) (there id) at (first id)
        ∙ sym (ap (take most_compared) (more ∙ ap (λ b. filter (has_identity id) earlier ++ cond b (one ∷ []) []) has))
    by false has =
        ap (λ b. entries_at readings (cond b (with_entry_index had index) had)) has ∙ first id
        ∙ sym
        (ap (take most_compared)
        (more ∙ ap (λ b. filter (has_identity id) earlier ++ cond b (one ∷ []) []) has ∙ append-nil (filter (has_identity id) earlier)))

-- the entry that is found by the stored indices is the earlier one that is likely the same work
alike_same : (seen : List ℕ → Option (Vec ℕ Global)) (said earlier : List EntryReading) (one : EntryReading)
    → AreFirstWith seen said earlier
    → alike_among seen said one (identities one) ≡ same_work earlier one
alike_same seen said earlier one first =
    ap (λ l. slice_get l 0)
    (given_agree (alike_by seen said one) (same_by earlier one) (identities one) (λ id. ap (first_alike one) (first id)))

-- the finding for the entry that the stored indices find is that of the entry at `index`, compared with the earlier ones
pub finds_same : (seen : List ℕ → Option (Vec ℕ Global)) (said : List (Spanned RawEntry)) (earlier : List EntryReading) (index : ℕ)
    (item : Spanned RawEntry) (first : Option EntryReading) → index < length said → item ≡ get_or said index item
    → first ≡ alike_among seen (map entry_reading_of said) (entry_reading_of item) (identities (entry_reading_of item))
    → AreFirstWith seen (map entry_reading_of said) earlier
    → same_finding (entry_reading_of item) first
    ≡ duplicates_after earlier (entries_at (map entry_reading_of said) (index ∷ []))
finds_same seen said earlier index item first within is found are =
    ap (same_finding (entry_reading_of item)) (found ∙ alike_same seen (map entry_reading_of said) earlier (entry_reading_of item) are)
    ∙ sym (append-nil (duplicate_after earlier (entry_reading_of item)))
    ∙ ap (λ o. duplicates_after earlier (cons_option o [])) (sym (entry_at said index item within is))

-- the findings of a concatenation are those of the first list, and then those of the second after it
pub duplicates_both : (earlier entries more : List EntryReading)
    → duplicates_after earlier (entries ++ more) ≡ duplicates_after earlier entries ++ duplicates_after (earlier ++ entries) more
duplicates_both earlier [] more = ap (λ before. duplicates_after before more) (sym (append-nil earlier))
duplicates_both earlier (first ∷ entries) more =
    ap (λ l. duplicate_after earlier first ++ l) (duplicates_both (earlier ++ first ∷ []) entries more
    ∙ ap (λ before. duplicates_after (earlier ++ first ∷ []) entries ++ duplicates_after before more)
    (append_assoc earlier (first ∷ []) entries))
    ∙ sym
    (append_assoc (duplicate_after earlier first) (duplicates_after (earlier ++ first ∷ []) entries)
    (duplicates_after (earlier ++ first ∷ entries) more))

-- the entries at the first indices and one more are those at the first indices, and then that at the next one
pub entries_one_more : (said : List EntryReading) (indices : List ℕ) (at index : ℕ) → at < length indices
    → index ≡ get_or indices at 0
    → entries_at said (take (at + 1) indices) ≡ entries_at said (take at indices) ++ entries_at said (index ∷ [])
entries_one_more said indices at index within is =
    ap (entries_at said) (take_more indices at 0 within ∙ ap (λ i. take at indices ++ i ∷ []) (sym is))
    ∙ filter_map-append (slice_get said) (take at indices) (index ∷ [])

-- a fact that holds for any result holds if the result is Ok
pub on_ok : {U E : Type 0} {P : Type 0} (r : Result U E) → P → OnOk r P
on_ok (Ok u) p = p
on_ok (Err e) p = tt

-- a consequence of a fact that holds if the result is Ok holds then too
pub on_ok_more : {U E : Type 0} {P Q : Type 0} (r : Result U E) → (P → Q) → OnOk r P → OnOk r Q
on_ok_more (Ok u) more p = more p
on_ok_more (Err e) more p = tt
