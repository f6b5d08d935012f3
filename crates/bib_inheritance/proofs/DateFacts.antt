-- Cached dates.
use Rattle.std.proofs.Common.{◌≡◌, ◌≢◌, ℕ, zero, suc, ◌+◌, ◌-◌, ◌<◌, List, [], ◌∷◌, ◌++◌, true, length, get_or, set, take, drop, map, eqb, eq-eqb, refl, sym, ap, ◌∙◌, subst, arith, Option, Some, None, is_some, inl, inr, ◌⊎◌, length-set, get_or-set_other, get_or-set_same}
use Rattle.std.specs.Prelude.{IsNone, IsSome}
use Rattle.std.specs.List.{Contains}
use Rattle.std.proofs.lemmas.Bool.{both_ways, cases_Bool, false≢true, eqb-true}
use Rattle.std.proofs.lemmas.List.{at_drop_more, get_or_default, map-set, take_more}
use Rattle.std.proofs.lemmas.List.Elements.{Contains-append_left, Contains-get_or}
use Rattle.std.proofs.lemmas.Option.{slice_get-get_or, slice_get_within}
use Rattle.bib_text.specs.declared.spanned.Spanned.{Spanned}
use Rattle.bib_chunks.specs.declared.chunk.Chunk.{Chunk}
use Rattle.bib_chunks.specs.Styled.{Atom, styled}
use Rattle.bib_entry.specs.declared.entry.Entry.{Entry}
use Rattle.bib_collections.specs.Graph.{Graph, IsTopologicalOrder, refs_of}
use Rattle.bib_collections.proofs.Solving.{new_turn}
use Rattle.bib_inheritance.specs.InheritableDate.{IsInheritableDate, dated_text, inheritable_date, last_date}
use Rattle.bib_inheritance.specs.EntryTexts.{EntryTexts, first_some, no_entry}
use Rattle.bib_inheritance.specs.declared.inheritable_date.InheritableDate.{InheritableDate as Kept}
use Rattle.bib_inheritance.specs.declared.inheritable_date.InheritableDate.TheVariants.{Undated, Unreadable, Dated}
use Rattle.bib_inheritance.specs.Resolving.{at_index, texts_of_entries, texts_of_entry}
use Rattle.bib_inheritance.specs.Turning.{AddsAmong, AreDates, Dates, IsDateAt, date_at, inheritable_chunks}
use Rattle.bib_text.proofs.ListFacts.{some_same}

-- ---- an empty cache, and one more date

-- a cache without dates still has none after an empty place is added
pub unread_more : (dates : Dates) → ((index : ℕ) → IsNone (date_at dates index)) → (index : ℕ) → IsNone (date_at (dates ++ None ∷ []) index)
unread_more [] none zero = refl
unread_more [] none (suc index) = refl
unread_more (d ∷ dates) none zero = none 0
unread_more (d ∷ dates) none (suc index) = unread_more dates (λ k. none (suc k)) index

module _ (entries : List Entry) where
  -- a cache without dates is valid
  pub none_read : (dates : Dates) → ((index : ℕ) → IsNone (date_at dates index)) → AreDates entries dates
  none_read dates none index d is = absurd (false≢true (sym (none index) ∙ ap is_some is))

  -- a cache stays valid after the date of one more entry is cached
  pub dates_more : (dates : Dates) (index : ℕ) (d : Kept) → index < length dates → IsDateAt entries index d
      → AreDates entries dates → AreDates entries (set dates index (Some d))
  dates_more dates index d within here are other e is = elim (cases_Bool (eqb other index)) [
    | inl same ↦
        let at : other ≡ index = eqb-true other index same in
        let now : Some d ≡ Some e =
        sym (get_or-set_same dates index (Some d) None within) ∙ ap (date_at (set dates index (Some d))) (sym at)
        ∙ is in
        subst (λ k. IsDateAt entries k e) (sym at) (subst (IsDateAt entries index) (some_same now) here)
    | inr apart ↦ are other e (sym (get_or-set_other dates index other (Some d) None (λ x. both_ways _ apart (eq-eqb other index x))) ∙ is)
  ]

-- caching a date adds a date only at its index
pub reads_more : (dates : Dates) (index other : ℕ) (d : Kept) → index < length dates
    → IsSome (date_at (set dates index (Some d)) other) → IsSome (date_at dates other) ⊎ (other ≡ index)
reads_more dates index other d within there = elim (cases_Bool (eqb other index)) [
  | inl same ↦ inr (eqb-true other index same)
  | inr apart ↦ inl (subst IsSome (get_or-set_other dates index other (Some d) None (λ x. both_ways _ apart (eq-eqb other index x))) there)
]

-- ---- the last date

module _ (at : ℕ → EntryTexts) where
  -- the last date of a suffix, if it has one, is the last date of the list
  date_prefix : (k : ℕ) (indices : List ℕ) (date : List Atom) → last_date (map at (drop k indices)) ≡ Some date
      → last_date (map at indices) ≡ Some date
  date_prefix zero indices date h = h
  date_prefix (suc k) [] date h = h
  date_prefix (suc k) (p ∷ rest) date h = ap (λ o. first_some o (dated_text (inheritable_date (at p).fields))) (date_prefix k rest date h)

  -- if no entry after it has a date that can be inherited, the last date from an entry on is that of the entry, if it can be inherited
  date_next : (indices : List ℕ) (done : ℕ) → done < length indices → last_date (map at (drop (length indices - done) indices)) ≡ None
      → last_date (map at (drop (length indices - (done + 1)) indices))
      ≡ dated_text (inheritable_date (at (get_or indices (length indices - 1 - done) 0)).fields)
  date_next indices done within none =
      let k : ℕ = length indices - (done + 1) in
      let here : k ≡ length indices - 1 - done = omega arith in
      let following : length indices - done ≡ k + 1 = omega arith in
      let none' = ap (λ n. last_date (map at (drop n indices))) (sym following) ∙ none in
      at_drop_more (λ l. last_date (map at l)) indices k 0 (omega arith)
      ∙ ap (λ o. first_some o (dated_text (inheritable_date (at (get_or indices k 0)).fields))) none'
      ∙ ap (λ n. dated_text (inheritable_date (at (get_or indices n 0)).fields)) here

  -- if the entry has none either, there is still no last date
  pub date_none : (indices : List ℕ) (done : ℕ) → done < length indices
      → dated_text (inheritable_date (at (get_or indices (length indices - 1 - done) 0)).fields) ≡ None
      → last_date (map at (drop (length indices - done) indices)) ≡ None
      → last_date (map at (drop (length indices - (done + 1)) indices)) ≡ None
  date_none indices done within has none = date_next indices done within none ∙ has

  -- if its date can be inherited and no entry after it has such a date, its date is the last date of the list
  pub date_found : (indices : List ℕ) (done : ℕ) (date : List Atom) → done < length indices
      → dated_text (inheritable_date (at (get_or indices (length indices - 1 - done) 0)).fields) ≡ Some date
      → last_date (map at (drop (length indices - done) indices)) ≡ None
      → last_date (map at indices) ≡ Some date
  date_found indices done date within has none =
      date_prefix (length indices - (done + 1)) indices date (date_next indices done within none ∙ has)

-- the cached date at an index in range doesn't depend on the default
pub read_at : {A : Type 0} (of : Option Kept → A) (dates : Dates) (index : ℕ) (o : Option Kept) → index < length dates
    → of (date_at dates index) ≡ of (get_or dates index o)
read_at of dates index o below = ap of (get_or_default dates index None o below)

module _ (entries : List Entry) (dates : Dates) (index : ℕ) (are : AreDates entries dates) where
  abbrev here : EntryTexts
  here = at_index (texts_of_entries entries) index

  -- a cached date with chunks is the date of the entry, with their styled text
  pub dated_here : (chunks : List (Spanned Chunk)) → inheritable_chunks (date_at dates index) ≡ Some chunks
      → dated_text (inheritable_date here.fields) ≡ Some (styled chunks)
  dated_here chunks is = go (date_at dates index) refl is where
    go : (o : Option Kept) → date_at dates index ≡ o → inheritable_chunks o ≡ Some chunks
        → dated_text (inheritable_date here.fields) ≡ Some (styled chunks)
    go None there is = cc
    go (Some Undated) there is = cc
    go (Some (Unreadable error)) there is = cc
    go (Some (Dated found)) there is = ap dated_text (are index (Dated found) there).is ∙ ap (λ c. Some (styled c)) (some_same is)

  -- an entry whose cached date has no chunks has no date that can be inherited
  pub undated_here : IsSome (date_at dates index) → inheritable_chunks (date_at dates index) ≡ None
      → dated_text (inheritable_date here.fields) ≡ None
  undated_here was is = go (date_at dates index) refl was is where
    go : (o : Option Kept) → date_at dates index ≡ o → IsSome o → inheritable_chunks o ≡ None
        → dated_text (inheritable_date here.fields) ≡ None
    go None there was is = absurd (false≢true was)
    go (Some Undated) there was is = ap dated_text (are index Undated there).is
    go (Some (Unreadable error)) there was is = ap dated_text (are index (Unreadable error) there).is.0
    go (Some (Dated found)) there was is = cc

-- if a cache has new dates only among `indices`, this stays true after a date is cached at one of these
pub adds_more : (indices : List ℕ) (k : ℕ) (old mid new : Dates) → k < length indices → AddsAmong indices old mid
    → ((other : ℕ) → IsSome (date_at new other) → IsSome (date_at mid other) ⊎ (other ≡ get_or indices k 0))
    → AddsAmong indices old new
adds_more indices k old mid new within before more other there = elim (more other there) [
  | inl mid ↦ before other mid
  | inr this ↦ inr (subst (Contains indices) (sym this) (Contains-get_or indices k 0 within))
]

-- ---- the order of resolving

-- cached dates stay valid if an entry changes whose date isn't cached
pub dates_kept : (entries : List Entry) (index : ℕ) (new : Entry) (dates : Dates) → (IsSome (date_at dates index) → ⊥)
    → AreDates entries dates → AreDates (set entries index new) dates
dates_kept entries index new dates unread are other d is =
    let apart : other ≢ index = λ same. unread (subst (λ k. IsSome (date_at dates k)) same (ap is_some is)) in
    let all = map-set texts_of_entry entries index new in
    let here : at_index (texts_of_entries (set entries index new)) other ≡ at_index (texts_of_entries entries) other =
    ap (λ l. at_index l other) all ∙ get_or-set_other (texts_of_entries entries) index other (texts_of_entry new) no_entry apart
    in
    let was = are other d is in
    let within = slice_get_within entries other was.entry was.there in
    record {
      is = subst (λ (s : EntryTexts). IsInheritableDate s.fields d) (sym here) was.is;
      entry = was.entry;
      there = slice_get-get_or (set entries index new) other was.entry (omega (arith, within, length-set entries index new))
          ∙ ap (λ e. Some e) (get_or-set_other entries index other new was.entry apart)
          ∙ sym (slice_get-get_or entries other was.entry within) ∙ was.there;
      lies = was.lies;
    }

-- the indices with cached dates are among `turns`, the entries resolved so far
abbrev pub AreAfter : List ℕ → Dates → Type 0
AreAfter turns dates = (index : ℕ) → IsSome (date_at dates index) → Contains turns index

-- the references of an entry come before it in a topological order
refs_after : (graph : Graph) (turns : List ℕ) (i index : ℕ) → IsTopologicalOrder graph turns → i < length turns
    → Contains (refs_of graph (get_or turns i 0)) index → Contains (take i turns) index
refs_after graph turns i index order within among = subst (Contains (take i turns)) among.2 (order.in_order i within among.0 index among.1)

module _ (graph : Graph) (turns indices : List ℕ) (i : ℕ) (order : IsTopologicalOrder graph turns)
    (within : i < length turns) (row : indices ≡ refs_of graph (get_or turns i 0)) (old new : Dates)
    (added : AddsAmong indices old new) (following : AreAfter (take i turns) old) where
  -- after the dates of an entry's references are cached, all entries with cached dates come before it
  still_after : (index : ℕ) → IsSome (date_at new index) → Contains (take i turns) index
  still_after index there = elim (added index there) [
    | inl before ↦ following index before
    | inr among ↦ refs_after graph turns i index order within (subst (λ l. Contains l index) row among)
  ]

  -- so the date of the entry itself is not cached
  pub turn_unread : IsSome (date_at new (get_or turns i 0)) → ⊥
  turn_unread there = new_turn graph turns i order within (still_after (get_or turns i 0) there)

  -- and all entries with cached dates are among the first `i + 1`
  pub after_more : AreAfter (take (i + 1) turns) new
  after_more index there =
      subst (λ l. Contains l index) (sym (take_more turns i 0 within))
      (Contains-append_left (take i turns) (get_or turns i 0 ∷ []) index (still_after index there))
