-- Entries without a field through which they inherit, which are not flagged.
use Rattle.std.proofs.Common.{◌≡◌, ℕ, zero, suc, ◌+◌, ◌<◌, List, [], ◌∷◌, ◌++◌, Bool, true, false, ◌&&◌, ◌||◌, length, get_or, take, map, refl, sym, ap, ap₂, ◌∙◌, Option, Some, None, is_some, option_map, filter_map, codes, arith}
use Rattle.std.specs.FinMap as by_name
use Rattle.std.specs.List.{list_any}
use Rattle.std.specs.Option.{option_map_or}
use Rattle.std.proofs.lemmas.Bool.{false≢true}
use Rattle.std.proofs.lemmas.List.{get_or-map, map_push, take_more}
use Rattle.bib_chunks.specs.Styled.{Atom, styled}
use Rattle.bib_chunks.specs.Lists.{comma_texts}
use Rattle.bib_entry.specs.Parents.{has_references}
use Rattle.bib_entry.specs.declared.entry.Entry.{Entry}
use Rattle.std.specs.declared.alloc.Global.{Global}
use Rattle.std.specs.declared.vec.Vec.{Vec}
use Rattle.bib_collections.specs.Graph.{Graph, IsTopologicalOrder, refs_of}
use Rattle.bib_collections.specs.Rows.{rows}
use Rattle.bib_collections.proofs.Solving.{new_turn}
use Rattle.bib_text.proofs.BoolFacts.{and_true_right}
use Rattle.bib_inheritance.specs.InheritableDate.{looks_for_date}
use Rattle.bib_inheritance.specs.References.{plain, references}
use Rattle.bib_inheritance.specs.EntryTexts.{EntryTexts, fields_of}
use Rattle.bib_collections.specs.Sorted.{ByText}
use Rattle.bib_collections.proofs.LeadFacts.{turn_within}
use Rattle.bib_inheritance.specs.Resolving.{AreDatesRead, at_index, graph_by, has_bad_date, is_bad_date, texts_of_entries, texts_of_entry}
use Rattle.bib_inheritance.specs.Turning.{is_unread_at}
use Rattle.bib_inheritance.proofs.TurnFacts.{HaveTurned, left_alone, turned_more}

-- whether an entry is flagged and lacks a required date
abbrev pub looks_by : Entry → Bool
looks_by e = has_references e && looks_for_date (texts_of_entry e)

first_none : {A : Type 0} (one two : Option A) → (is_some one || is_some two) ≡ false → one ≡ None
first_none None two is = refl
first_none (Some x) two is = absurd (false≢true (sym is))

second_none : {A : Type 0} (one two : Option A) → (is_some one || is_some two) ≡ false → two ≡ None
second_none None None is = refl
second_none None (Some x) is = absurd (false≢true (sym is))
second_none (Some x) two is = absurd (false≢true (sym is))

-- an entry that isn't flagged has no `xdata`
pub no_xdata : (e : Entry) → has_references e ≡ false → by_name.get e.fields (codes "xdata") ≡ None
no_xdata e is = second_none (by_name.get e.fields (codes "crossref")) (by_name.get e.fields (codes "xdata")) is

-- an entry that isn't flagged refers to nothing
pub refers_nowhere : (names : ByText ℕ) (e : Entry) → has_references e ≡ false → references names (fields_of e.fields) ≡ []
refers_nowhere names e is =
    let one = first_none (by_name.get e.fields (codes "crossref")) (by_name.get e.fields (codes "xdata")) is in
    let two = no_xdata e is in
    ap₂
    (λ one two.
    filter_map (by_name.get names)
    (option_map_or (λ (atoms : List Atom). plain atoms ∷ []) (option_map styled one) []
    ++ option_map_or comma_texts (option_map styled two) [])) one two

-- so it refers to no entry with an unreadable date, and the flag doesn't matter
unread_same : (flagged looks any : Bool) → (flagged ≡ false → any ≡ false) → ((flagged && looks) && any) ≡ (looks && any)
unread_same true looks any none = refl
unread_same false true any none = sym (none refl)
unread_same false false any none = refl

-- counting only flagged entries as lacking a required date leaves the same entries that refer to a bad date
unread_by : (names : ByText ℕ) (own : List Entry) (test : ℕ → Bool) (index : ℕ)
    → (get_or (map looks_by own) index false && list_any test (refs_of (graph_by names own) index))
    ≡ (looks_for_date (at_index (texts_of_entries own) index) && list_any test (refs_of (graph_by names own) index))
unread_by names [] test index = refl
unread_by names (e ∷ own) test zero =
    unread_same (has_references e) (looks_for_date (texts_of_entry e)) (list_any test (references names (fields_of e.fields)))
    (λ none. ap (list_any test) (refers_nowhere names e none))
unread_by names (e ∷ own) test (suc index) = unread_by names own test index

-- the flags of entries that lack a required date lead to the same bad dates as the definition
pub bad_flagged : (names : ByText ℕ) (own : List Entry) (looks : List Bool) (values : List EntryTexts) (index : ℕ)
    → looks ≡ map looks_by own
    → is_unread_at looks (graph_by names own) values index ≡ has_bad_date (texts_of_entries own) (graph_by names own) values index
bad_flagged names own looks values index are =
    ap (λ l. get_or l index false && list_any (is_bad_date values) (refs_of (graph_by names own) index)) are
    ∙ unread_by names own (is_bad_date values) index

-- a flagged entry in `looks` lacks a required date
looks_flagged : (own : List Entry) (index : ℕ) → get_or (map looks_by own) index false ≡ true
    → looks_for_date (at_index (texts_of_entries own) index) ≡ true
looks_flagged [] index is = absurd (false≢true is)
looks_flagged (e ∷ own) zero is = and_true_right (has_references e) (looks_for_date (texts_of_entry e)) is
looks_flagged (e ∷ own) (suc index) is = looks_flagged own index is

-- a flag that is set belongs to an entry that lacks a required date
pub looking : (own : List Entry) (looks : List Bool) → looks ≡ map looks_by own → (index : ℕ)
    → get_or looks index false ≡ true → looks_for_date (at_index (texts_of_entries own) index) ≡ true
looking own looks are index is = looks_flagged own index (sym (ap (λ l. get_or l index false) are) ∙ is)

-- if no flagged entry refers to a bad date, no entry that lacks a required date does
pub dates_read : (names : ByText ℕ) (own : List Entry) (looks : List Bool) (values : List EntryTexts)
    → looks ≡ map looks_by own → ((index : ℕ) → is_unread_at looks (graph_by names own) values index ≡ false)
    → AreDatesRead (texts_of_entries own) (graph_by names own) values
dates_read names own looks values are read index = sym (bad_flagged names own looks values index are) ∙ read index

-- the element at an index in range doesn't depend on the default
entry_within : {A : Type 0} (xs : List A) (p : ℕ) → p < length xs → (x : A) × ((d : A) → get_or xs p d ≡ x)
entry_within [] p within = absurd (omega (arith, within))
entry_within (x ∷ xs) zero within = (x, λ d. refl)
entry_within (x ∷ xs) (suc p) within = entry_within xs p (omega (arith, within))

-- one more entry that isn't flagged has no references, and is not flagged in `looks`
pub unflagged_more : (names : ByText ℕ) (entries : List Entry) (flags : List Bool) (i : ℕ) (refs : List (Vec ℕ Global))
    (looks : List Bool) (new : Vec ℕ Global) → i < length entries → flags ≡ map has_references entries
    → get_or flags i false ≡ false → new.items ≡ []
    → rows refs ≡ graph_by names (take i entries) → looks ≡ map looks_by (take i entries)
    → (rows (refs ++ new ∷ []) ≡ graph_by names (take (i + 1) entries))
    × ((looks ++ false ∷ []) ≡ map looks_by (take (i + 1) entries))
unflagged_more names entries flags i refs looks new within are not_flagged none graph found =
    let one = entry_within entries i within in
    let e : Entry = one.0 in
    let unflagged : has_references e ≡ false =
    ap has_references (sym (one.1 e)) ∙ sym (get_or-map has_references entries i e false within)
    ∙ sym (ap (λ l. get_or l i false) are) ∙ not_flagged in
    let more : take (i + 1) entries ≡ take i entries ++ e ∷ [] =
    take_more entries i e within ∙ ap (λ x. take i entries ++ x ∷ []) (one.1 e) in (
      map_push (λ (row : Vec ℕ Global). row.items) refs new ∙ ap₂ (λ l x. l ++ x ∷ []) graph (none ∙ sym (refers_nowhere names e unflagged))
          ∙ sym (map_push (λ (e : Entry). references names (fields_of e.fields)) (take i entries) e) ∙ ap (graph_by names) (sym more),
      ap₂ (λ l x. l ++ x ∷ []) found (sym (ap (λ b. b && looks_for_date (texts_of_entry e)) unflagged))
          ∙ sym (map_push looks_by (take i entries) e) ∙ ap (map looks_by) (sym more),
    )

-- if the next entry of a topological order isn't flagged and has no references, it is resolved unchanged
pub skipped : (refs : Graph) (order : List ℕ) (own entries : List Entry) (flags : List Bool) (i : ℕ) (indices : List ℕ)
    → IsTopologicalOrder refs order → i < length order → length own ≡ length refs → flags ≡ map has_references own
    → get_or flags (get_or order i 0) false ≡ false → indices ≡ [] → indices ≡ refs_of refs (get_or order i 0)
    → HaveTurned refs order own entries i → HaveTurned refs order own entries (i + 1)
skipped refs order own entries flags i indices topological within as_long are not_flagged none row h =
    let p : ℕ = get_or order i 0 in
    let below_refs : p < length refs = turn_within refs order i topological within in
    let below_own : p < length own = omega (arith, below_refs, as_long) in
    let below : p < length entries = omega (arith, below_own, h.as_long) in
    let one = entry_within entries p below in
    let e : Entry = one.0 in
    let same : get_or own p e ≡ e = sym (h.waiting p e (new_turn refs order i topological within)) ∙ one.1 e in
    let unflagged : has_references e ≡ false =
    ap has_references (sym same) ∙ sym (get_or-map has_references own p e false below_own)
    ∙ sym (ap (λ l. get_or l p false) are) ∙ not_flagged in
    let alone = left_alone entries p e indices below (sym (one.1 e)) none (no_xdata e unflagged) in
    turned_more refs order own entries entries i alone.0 indices topological within as_long row alone.1 alone.2 h
