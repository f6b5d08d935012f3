-- The change of one entry of a document: its edits, and the reading of the new text.
use Rattle.std.proofs.Common.{◌≡◌, ℕ, zero, suc, ◌<◌, ◌≤◌, Bool, true, false, cond, List, [], ◌∷◌, ◌++◌, map, refl, sym, ap, ◌∙◌, subst, arith, append-nil, Some, None}
use Rattle.std.specs.Prelude.{◌==◌, slice_get, slice_set}
use Rattle.std.proofs.lemmas.Bool.Decides.{nat_tests}
use Rattle.std.specs.List.{AllByRecursion}
use Rattle.std.specs.Str.{IsUtf8}
use Rattle.bib_syntax.specs.Reading.{EntryReading, FieldReading}
use Rattle.edit_entries.specs.Changes.{EntryChange, IsReadPlaceless, edits_of_entries, edits_of_entry, edits_of_fields, entry_changed, fields_changed, file_changed}
use Rattle.edit_entries.specs.Documents.{Document, IsDocument}
use Rattle.edit_entries.specs.EditList.{AreEditsInOrder}
use Rattle.edit_entries.specs.Edits.{edited_all}
use Rattle.edit_entries.proofs.ChangesFacts.{CanEntryChange, CanFieldsChange, changed_read, changes_in_order}
use Rattle.edit_entries.proofs.PartFacts.{AreEntriesIn, AreFieldsIn, file_in}

-- ---- an entry without a change

abbrev no_change : EntryChange
no_change = record { kind = None; fields = [] }

pub fields_kept : (fs : List FieldReading) → fields_changed fs [] ≡ fs
fields_kept [] = refl
fields_kept (f ∷ fs) = refl

entry_kept : (e : EntryReading) → entry_changed e no_change ≡ e
entry_kept e = ap (λ fs. record e { fields = fs }) (fields_kept e.fields)

pub no_edits : (text : List ℕ) (fs : List FieldReading) → edits_of_fields text fs [] ≡ []
no_edits text [] = refl
no_edits text (f ∷ fs) = refl

pub can_be_kept : (fs : List FieldReading) → CanFieldsChange fs []
can_be_kept [] = tt
can_be_kept (f ∷ fs) = tt

-- ---- the change of the entry whose type begins at a byte offset

-- the changes of entries: this one for the entry whose type begins at `start`, and none for the others
abbrev pub at_start : ℕ → EntryChange → EntryReading → EntryChange
at_start start change e = cond (e.kind.start == start) change no_change

fields_end : (text : List ℕ) (at end : ℕ) (fs : List FieldReading) → AreFieldsIn text at fs end → at ≤ end
fields_end text at end [] order = order
fields_end text at end (f ∷ fs) order =
    omega (arith, order.0, order.1.name.some, order.1.ordered, order.1.value, fields_end text f.value.end end fs order.2)

differs : (m n : ℕ) → n < m → (m == n) ≡ false
differs m n less = grind (arith, nat_tests)

equals : (m n : ℕ) → m ≡ n → (m == n) ≡ true
equals m n same = grind (arith, nat_tests)

lower : (m n : ℕ) → m < n → (m == n) ≡ false
lower m n less = grind (arith, nat_tests)

-- entries that begin after the byte offset `start` have no edits and are unchanged
later_kept : (text : List ℕ) (at start : ℕ) (change : EntryChange) (es : List EntryReading) → AreEntriesIn text at es → start < at
    → (edits_of_entries (at_start start change) text es ≡ [])
    × (map (λ e. entry_changed e (at_start start change e)) es ≡ es)
later_kept text at start change [] order past = (refl, refl)
later_kept text at start change (e ∷ es) order past =
    let other : (e.kind.start == start) ≡ false = differs e.kind.start start (omega (arith, order.1, past)) in
    let rest =
    later_kept text order.0 start change es order.4
    (omega (arith, past, order.1, order.2.some, fields_end text e.kind.end order.0 e.fields order.3)) in (
      ap (λ b. edits_of_entry text e (cond b change no_change) ++ edits_of_entries (at_start start change) text es) other
          ∙ ap (λ l. l ++ edits_of_entries (at_start start change) text es) (no_edits text e.fields) ∙ rest.0,
      ap (λ b. entry_changed e (cond b change no_change) ∷ map (λ x. entry_changed x (at_start start change x)) es) other
          ∙ ap (λ x. x ∷ map (λ y. entry_changed y (at_start start change y)) es) (entry_kept e) ∙ ap (λ xs. e ∷ xs) rest.1,
    )

start_in : (text : List ℕ) (at k : ℕ) (es : List EntryReading) (e : EntryReading) → AreEntriesIn text at es
    → slice_get es k ≡ Some e → at ≤ e.kind.start
start_in text at k [] e order here = absurd (cc)
start_in text at zero (x ∷ xs) e order here = let same : x ≡ e = cc in subst (λ y. at ≤ y.kind.start) same order.1
start_in text at (suc k) (x ∷ xs) e order here =
    omega (
      arith,
      order.1,
      order.2.some,
      fields_end text x.kind.end order.0 x.fields order.3,
      start_in text order.0 k xs e order.4 here,
    )

-- the type of the first entry begins before that of each later one
earlier_start : (text : List ℕ) (at k : ℕ) (x : EntryReading) (xs : List EntryReading) (e : EntryReading) → AreEntriesIn text at (x ∷ xs)
    → slice_get xs k ≡ Some e → x.kind.start < e.kind.start
earlier_start text at k x xs e order here =
    omega (
      arith,
      order.2.some,
      fields_end text x.kind.end order.0 x.fields order.3,
      start_in text order.0 k xs e order.4 here,
    )

-- the first entry is changed, and the others are kept
first_changed : (text : List ℕ) (at : ℕ) (change : EntryChange) (x : EntryReading) (xs : List EntryReading) → AreEntriesIn text at (x ∷ xs)
    → (edits_of_entries (at_start x.kind.start change) text (x ∷ xs) ≡ edits_of_entry text x change)
    × (map (λ y. entry_changed y (at_start x.kind.start change y)) (x ∷ xs) ≡ entry_changed x change ∷ xs)
first_changed text at change x xs order =
    let start : ℕ = x.kind.start in
    let this : (x.kind.start == start) ≡ true = equals x.kind.start start refl in
    let rest =
    later_kept text order.0 start change xs order.4
    (omega (arith, order.2.some, fields_end text x.kind.end order.0 x.fields order.3)) in (
      ap (λ b. edits_of_entry text x (cond b change no_change) ++ edits_of_entries (at_start start change) text xs) this
          ∙ ap (λ l. edits_of_entry text x change ++ l) rest.0 ∙ append-nil (edits_of_entry text x change),
      ap (λ b. entry_changed x (cond b change no_change) ∷ map (λ y. entry_changed y (at_start start change y)) xs) this
          ∙ ap (λ l. entry_changed x change ∷ l) rest.1,
    )

one_changed : (text : List ℕ) (at k : ℕ) (change : EntryChange) (es : List EntryReading) (e : EntryReading) → AreEntriesIn text at es
    → slice_get es k ≡ Some e
    → (edits_of_entries (at_start e.kind.start change) text es ≡ edits_of_entry text e change)
    × (map (λ x. entry_changed x (at_start e.kind.start change x)) es ≡ slice_set es k (entry_changed e change))
one_changed text at k change [] e order here = absurd (cc)
one_changed text at zero change (x ∷ xs) e order here =
    let same : x ≡ e = cc in
    subst
    (λ y.
    (edits_of_entries (at_start y.kind.start change) text (x ∷ xs) ≡ edits_of_entry text y change)
    × (map (λ z. entry_changed z (at_start y.kind.start change z)) (x ∷ xs) ≡ entry_changed y change ∷ xs)) same
    (first_changed text at change x xs order)
one_changed text at (suc k) change (x ∷ xs) e order here =
    let start : ℕ = e.kind.start in
    let other : (x.kind.start == start) ≡ false = lower x.kind.start start (earlier_start text at k x xs e order here) in
    let rest = one_changed text order.0 k change xs e order.4 here in (
      ap (λ b. edits_of_entry text x (cond b change no_change) ++ edits_of_entries (at_start start change) text xs) other
          ∙ ap (λ l. l ++ edits_of_entries (at_start start change) text xs) (no_edits text x.fields) ∙ rest.0,
      ap (λ b. entry_changed x (cond b change no_change) ∷ map (λ y. entry_changed y (at_start start change y)) xs) other
          ∙ ap (λ y. y ∷ map (λ z. entry_changed z (at_start start change z)) xs) (entry_kept x)
          ∙ ap (λ l. x ∷ l) rest.1,
    )

-- ---- the changes can be made

kept_can : (e : EntryReading) → CanEntryChange e no_change
kept_can e = record { kind = λ name is. absurd (cc); fields = can_be_kept e.fields }

case_can : (b : Bool) (e : EntryReading) (change : EntryChange) → CanEntryChange e change → CanEntryChange e (cond b change no_change)
case_can true e change can = can
case_can false e change can = kept_can e

later_can : (text : List ℕ) (at start : ℕ) (change : EntryChange) (es : List EntryReading) → AreEntriesIn text at es → start < at
    → AllByRecursion (λ e. CanEntryChange e (at_start start change e)) es
later_can text at start change [] order past = tt
later_can text at start change (e ∷ es) order past = (
  subst (λ b. CanEntryChange e (cond b change no_change)) (sym (differs e.kind.start start (omega (arith, order.1, past)))) (kept_can e),
  later_can text order.0 start change es order.4
      (omega (arith, past, order.1, order.2.some, fields_end text e.kind.end order.0 e.fields order.3)),
)

one_can : (text : List ℕ) (at k : ℕ) (change : EntryChange) (es : List EntryReading) (e : EntryReading) → AreEntriesIn text at es
    → slice_get es k ≡ Some e → CanEntryChange e change
    → AllByRecursion (λ x. CanEntryChange x (at_start e.kind.start change x)) es
one_can text at k change [] e order here can = absurd (cc)
one_can text at zero change (x ∷ xs) e order here can =
    let same : x ≡ e = cc in
    let past : x.kind.start < order.0 = omega (arith, order.2.some, fields_end text x.kind.end order.0 x.fields order.3) in
    let start : x.kind.start ≡ e.kind.start = ap (λ y. y.kind.start) same in (
      case_can (x.kind.start == e.kind.start) x change (subst (λ y. CanEntryChange y change) (sym same) can),
      subst (λ n. AllByRecursion (λ y. CanEntryChange y (at_start n change y)) xs) start
          (later_can text order.0 x.kind.start change xs order.4 past),
    )
one_can text at (suc k) change (x ∷ xs) e order here can = (
  subst (λ b. CanEntryChange x (cond b change no_change))
      (sym (lower x.kind.start e.kind.start (earlier_start text at k x xs e order here))) (kept_can x),
  one_can text order.0 k change xs e order.4 here can,
)

-- ---- the document

module _ (d : Document) (k : ℕ) (e : EntryReading) (change : EntryChange) (read : IsDocument d) (utf8 : IsUtf8 d.text)
    (here : slice_get d.says.entries k ≡ Some e) where
  abbrev changes : EntryReading → EntryChange
  changes = at_start e.kind.start change

  known : (edits_of_entries changes d.text d.says.entries ≡ edits_of_entry d.text e change)
      × (map (λ x. entry_changed x (changes x)) d.says.entries ≡ slice_set d.says.entries k (entry_changed e change))
  known = one_changed d.text 0 k change d.says.entries e (file_in d.text refl read) here

  -- the edits of this change are in order
  pub entry_edits_in_order : AreEditsInOrder d.text 0 (edits_of_entry d.text e change)
  entry_edits_in_order = subst (AreEditsInOrder d.text 0) known.0 (changes_in_order d changes read utf8)

  -- if the entry can have this change, the new text parses to the reading with it, except for byte offsets
  pub entry_changed_read : CanEntryChange e change
      → IsReadPlaceless (record d.says { entries = slice_set d.says.entries k (entry_changed e change) })
      (edited_all (edits_of_entry d.text e change) d.text)
  entry_changed_read can =
      subst (λ es. IsReadPlaceless (record d.says { entries = es }) (edited_all (edits_of_entry d.text e change) d.text)) known.1
      (subst (λ edits. IsReadPlaceless (file_changed changes d.says) (edited_all edits d.text)) known.0
      (changed_read d changes read utf8 (one_can d.text 0 k change d.says.entries e (file_in d.text refl read) here can)))
