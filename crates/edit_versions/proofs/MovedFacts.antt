-- A unit is alike the same units as another one with the same bytes.
use Rattle.std.proofs.Common.{◌≡◌, ℕ, ◌+◌, ◌-◌, ◌≤◌, arith, min, Bool, true, false, List, [], ◌∷◌, ◌++◌, Option, Some, None, drop, length, map, take, refl, sym, ap, ap₂, ◌∙◌, subst}
use Rattle.std.specs.Prelude.{◌==◌, ◌&&◌, ◌||◌, bytes_eq, filter, not, option_map}
use Rattle.std.specs.declared.ops.Range.{Range}
use Rattle.std.proofs.lemmas.List.{length-map}
use Rattle.bib_text.specs.Places.{Place, between, place}
use Rattle.bib_syntax.specs.Grammar.{is_word}
use Rattle.bib_syntax.specs.Reading.{EntryReading, FieldReading, Piece}
use Rattle.bib_syntax.specs.Reading.Piece.{abbreviation, literal}
use Rattle.bib_queries.specs.EqualValues.{are_equal_pieces, is_equal_piece}
use Rattle.edit_entries.specs.Edits.{moved_entry, moved_field, moved_piece}
use Rattle.edit_entries.proofs.ZoneFacts.{Inside, Zone, bytes_there}
use Rattle.edit_units.specs.Units.{UnitReading}
use Rattle.edit_versions.specs.Alike.{are_alike, are_alike_by, are_alike_entries, are_alike_fields, are_alike_in_layout, before_entry, behind_entry, has_comment_sign, have_same_words, is_alike_field, is_no_layout, outside_fields, rest_of_entry, single_entry, single_of, without_end_space, without_start_space}
use Rattle.edit_versions.specs.Versions.{text_of_unit, words_with_spaces}
use Rattle.edit_versions.proofs.RunFacts.{IsMovedUnit, IsUnitRun, inside_unit, moved_at, moved_range, ordered, same_bytes_same_reading, same_size, unit_frame, unit_zone}

-- ---- values

piece_moved : (move : ℕ → ℕ) (p q : Piece) → is_equal_piece (moved_piece move p) q ≡ is_equal_piece p q
piece_moved move (literal p) (literal q) = refl
piece_moved move (literal p) (abbreviation q) = refl
piece_moved move (abbreviation p) (literal q) = refl
piece_moved move (abbreviation p) (abbreviation q) = refl

pieces_moved : (move : ℕ → ℕ) (ps qs : List Piece) → are_equal_pieces (map (moved_piece move) ps) qs ≡ are_equal_pieces ps qs
pieces_moved move [] [] = refl
pieces_moved move [] (q ∷ qs) = refl
pieces_moved move (p ∷ ps) [] = refl
pieces_moved move (p ∷ ps) (q ∷ qs) = ap₂ (λ x y. x && y) (piece_moved move p q) (pieces_moved move ps qs)

fields_moved : (move : ℕ → ℕ) (fs gs : List FieldReading) → are_alike_fields (map (moved_field move) fs) gs ≡ are_alike_fields fs gs
fields_moved move [] [] = refl
fields_moved move [] (g ∷ gs) = refl
fields_moved move (f ∷ fs) [] = refl
fields_moved move (f ∷ fs) (g ∷ gs) =
    ap₂ (λ x y. x && y) (ap (λ b. is_word f.name.text g.name.text && b) (pieces_moved move f.value.pieces g.value.pieces))
    (fields_moved move fs gs)

-- ---- byte offsets

-- a byte offset is between two others
record IsBetween (start end n : ℕ) : Type 0 where
  from : start ≤ n
  to : n ≤ end

-- a byte offset that comes back from the stretch of another unit is in the stretch of its unit
bounded : (start end start' end' n : ℕ) → start ≤ end → start' ≤ end' → end - start ≡ end' - start'
    → n ≡ moved_at start' end' start (moved_at start end start' n) → IsBetween start end n
bounded start end start' end' n order order' size back =
    record { from = omega (arith, back); to = omega (arith, back, order, order', size) }

-- all byte offsets of fields are in the stretch of their unit
data AreBetween (start end : ℕ) : List FieldReading → Type 0 where
  none : AreBetween start end []
  some : {f : FieldReading} {fs : List FieldReading} → IsBetween start end f.name.start → IsBetween start end f.value.end
      → AreBetween start end fs → AreBetween start end (f ∷ fs)

-- the byte offsets by which entries are compared are in the stretch of their unit
record IsEntryBetween (start end : ℕ) (e : EntryReading) : Type 0 where
  first : IsBetween start end e.start
  last : IsBetween start end e.end
  kind : IsBetween start end e.kind.start
  name : IsBetween start end e.kind.end
  fields : AreBetween start end e.fields

fields_between : (start end start' end' : ℕ) (fs : List FieldReading) → start ≤ end → start' ≤ end' → end - start ≡ end' - start'
    → fs ≡ map (moved_field (moved_at start' end' start)) (map (moved_field (moved_at start end start')) fs) → AreBetween start end fs
fields_between start end start' end' [] order order' size back = AreBetween.none
fields_between start end start' end' (f ∷ fs) order order' size back =
    let first : f ≡ moved_field (moved_at start' end' start) (moved_field (moved_at start end start') f) = cc in
    let rest : fs ≡ map (moved_field (moved_at start' end' start)) (map (moved_field (moved_at start end start')) fs) = cc in
    AreBetween.some (bounded start end start' end' f.name.start order order' size (ap (λ g. g.name.start) first))
    (bounded start end start' end' f.value.end order order' size (ap (λ g. g.value.end) first))
    (fields_between start end start' end' fs order order' size rest)

entry_between : (start end start' end' : ℕ) (e : EntryReading) → start ≤ end → start' ≤ end' → end - start ≡ end' - start'
    → e ≡ moved_entry (moved_at start' end' start) (moved_entry (moved_at start end start') e) → IsEntryBetween start end e
entry_between start end start' end' e order order' size back = record {
  first = bounded start end start' end' e.start order order' size (ap (λ x. x.start) back);
  last = bounded start end start' end' e.end order order' size (ap (λ x. x.end) back);
  kind = bounded start end start' end' e.kind.start order order' size (ap (λ x. x.kind.start) back);
  name = bounded start end start' end' e.kind.end order order' size (ap (λ x. x.kind.end) back);
  fields = fields_between start end start' end' e.fields order order' size (ap (λ x. x.fields) back);
}

-- ---- bytes

-- moves byte offsets from a unit to another one
abbrev move_of : UnitReading → UnitReading → ℕ → ℕ
move_of u v = moved_at u.start u.end v.start

-- the bytes between two byte offsets of a unit are those at the moved byte offsets
stretch_moved : {text other : List ℕ} (u v : UnitReading) (a b : ℕ) → Zone (unit_frame text u other v) → IsBetween u.start u.end a
    → IsBetween u.start u.end b
    → between (place other (move_of u v a)) (place other (move_of u v b)) ≡ between (place text a) (place text b)
stretch_moved {text} {other} u v a b z ba bb =
    let ia : Inside (unit_frame text u other v) (place text a) = inside_unit u v a ba.from ba.to in
    let ib : Inside (unit_frame text u other v) (place text b) = inside_unit u v b bb.from bb.to in
    let size : move_of u v b - move_of u v a ≡ b - a = omega (arith, ia.moved, ib.moved, ia.start, ib.start) in
    ap (λ n. take n (drop (move_of u v a) other)) size
    ∙ bytes_there z a (b - a) (move_of u v a) ia.start (omega (arith, ia.end, ib.end)) ia.moved

outside_moved : {text other : List ℕ} (u v : UnitReading) (at : ℕ) (fs : List FieldReading) (end : ℕ) → Zone (unit_frame text u other v)
    → IsBetween u.start u.end at → AreBetween u.start u.end fs → IsBetween u.start u.end end
    → outside_fields other (move_of u v at) (map (moved_field (move_of u v)) fs) (move_of u v end) ≡ outside_fields text at fs end
outside_moved u v at [] end z first AreBetween.none last = stretch_moved u v at end z first last
outside_moved u v at (f ∷ fs) end z first (AreBetween.some name value others) last =
    ap₂ (λ x y. x ++ y) (stretch_moved u v at f.name.start z first name) (outside_moved u v f.value.end fs end z value others last)

-- a unit with its only entry, and another unit with the same bytes, whose entry is the same with moved byte offsets
record HaveSameEntry (text : List ℕ) (u : UnitReading) (e : EntryReading) (other : List ℕ) (v : UnitReading) : Type 0 where
  zone : Zone (unit_frame text u other v)
  order : u.start ≤ u.end
  first : move_of u v u.start ≡ v.start
  last : move_of u v u.end ≡ v.end
  within : IsEntryBetween u.start u.end e

start_between : {start end : ℕ} → start ≤ end → IsBetween start end start
start_between order = record { from = omega arith; to = order }

end_between : {start end : ℕ} → start ≤ end → IsBetween start end end
end_between order = record { from = order; to = omega arith }

before_moved : {text other : List ℕ} {u v : UnitReading} {e : EntryReading} → HaveSameEntry text u e other v
    → before_entry other v (moved_entry (move_of u v) e) ≡ before_entry text u e
before_moved {text} {other} {u} {v} {e} h =
    ap without_start_space
    (ap (λ n. between (place other n) (place other (move_of u v e.start))) (sym h.first)
    ∙ stretch_moved u v u.start e.start h.zone (start_between h.order) h.within.first)

behind_moved : {text other : List ℕ} {u v : UnitReading} {e : EntryReading} → HaveSameEntry text u e other v
    → behind_entry other v (moved_entry (move_of u v) e) ≡ behind_entry text u e
behind_moved {text} {other} {u} {v} {e} h =
    ap without_end_space
    (ap (λ n. between (place other (move_of u v e.end)) (place other n)) (sym h.last)
    ∙ stretch_moved u v e.end u.end h.zone h.within.last (end_between h.order))

rest_moved : {text other : List ℕ} {u v : UnitReading} {e : EntryReading} → HaveSameEntry text u e other v
    → rest_of_entry other v (moved_entry (move_of u v) e) ≡ rest_of_entry text u e
rest_moved {text} {other} {u} {v} {e} h =
    ap (filter is_no_layout)
    (ap₂ (λ x y. x ++ y)
    (ap (λ n. between (place other n) (place other (move_of u v e.kind.start))) (sym h.first)
    ∙ stretch_moved u v u.start e.kind.start h.zone (start_between h.order) h.within.kind)
    (ap (outside_fields other (move_of u v e.kind.end) (map (moved_field (move_of u v)) e.fields)) (sym h.last)
    ∙ outside_moved u v e.kind.end e.fields u.end h.zone h.within.name h.within.fields (end_between h.order)))

-- ---- units

entries_moved : {text other : List ℕ} {u v : UnitReading} {e : EntryReading} (third : List ℕ) (w : UnitReading) (g : EntryReading)
    → HaveSameEntry text u e other v
    → are_alike_entries other v (moved_entry (move_of u v) e) third w g ≡ are_alike_entries text u e third w g
entries_moved {u = u} {v = v} {e = e} third w g h =
    ap₂ (λ x y. x && y)
    (ap₂ (λ x y. x && y)
    (ap₂ (λ x y. x && y)
    (ap (λ b. is_word e.kind.text g.kind.text && b) (fields_moved (move_of u v) e.fields g.fields))
    (ap (λ t. bytes_eq t (before_entry third w g)) (before_moved h)))
    (ap (λ t. bytes_eq t (behind_entry third w g)) (behind_moved h)))
    (ap (λ t. bytes_eq t (rest_of_entry third w g)) (rest_moved h))

single_moved : (move : ℕ → ℕ) (blocks : List (Range ℕ)) (es : List EntryReading)
    → single_of (map (moved_range move) blocks) (map (moved_entry move) es) ≡ option_map (moved_entry move) (single_of blocks es)
single_moved move [] es = refl
single_moved move (b ∷ []) [] = refl
single_moved move (b ∷ []) (e ∷ []) = refl
single_moved move (b ∷ []) (e ∷ other ∷ es) = refl
single_moved move (b ∷ other ∷ bs) es = refl

-- the entry of a unit comes back if its entries do
single_back : (move back : ℕ → ℕ) (blocks : List (Range ℕ)) (es : List EntryReading) (e : EntryReading) → single_of blocks es ≡ Some e
    → es ≡ map (moved_entry back) (map (moved_entry move) es) → e ≡ moved_entry back (moved_entry move e)
single_back move back [] es e is same = absurd (cc)
single_back move back (b ∷ []) [] e is same = absurd (cc)
single_back move back (b ∷ []) (x ∷ []) e is same =
    let this : x ≡ e = cc in
    let own : x ≡ moved_entry back (moved_entry move x) = cc in
    subst (λ y. y ≡ moved_entry back (moved_entry move y)) this own
single_back move back (b ∷ []) (x ∷ other ∷ es) e is same = absurd (cc)
single_back move back (b ∷ other ∷ bs) es e is same = absurd (cc)

pub alike_moved : {text other : List ℕ} {u v : UnitReading} → IsUnitRun text u → IsUnitRun other v
    → text_of_unit text u ≡ text_of_unit other v → (third : List ℕ) (w : UnitReading)
    → are_alike other v third w ≡ are_alike text u third w
alike_moved {text} {other} {u} {v} run run' same third w =
    ap₂ (λ x y. x || y)
    (ap₂ (λ x y. x || y) (ap (λ t. bytes_eq t (text_of_unit third w)) (sym same)) layout)
    (ap₂ (λ n t. n == 0 && length w.blocks == 0 && bytes_eq (words_with_spaces t) (words_with_spaces (text_of_unit third w)))
    (ap length moved.blocks ∙ length-map u.blocks (moved_range (move_of u v))) (sym same))
  where
    moved : IsMovedUnit (move_of u v) u v
    moved = same_bytes_same_reading run run' same

    back : u.says.entries ≡ map (moved_entry (move_of v u)) (map (moved_entry (move_of u v)) u.says.entries)
    back =
        ap (λ r. r.entries) (same_bytes_same_reading run' run (sym same)).says
        ∙ ap (λ r. map (moved_entry (move_of v u)) r.entries) moved.says

    single : single_entry v ≡ option_map (moved_entry (move_of u v)) (single_entry u)
    single =
        ap₂ (λ bs r. single_of bs r.entries) moved.blocks moved.says
        ∙ single_moved (move_of u v) u.blocks u.says.entries

    has : (e : EntryReading) → single_entry u ≡ Some e → HaveSameEntry text u e other v
    has e is =
        let size = same_size run run' same in
        let order = ordered run in
        let order' = ordered run' in
        record {
          zone = unit_zone run run' same;
          order = order;
          first = omega (arith, order);
          last = omega (arith, order, order', size);
          within = entry_between u.start u.end v.start v.end e order order' size
              (single_back (move_of u v) (move_of v u) u.blocks u.says.entries e is back);
        }

    by : (found second : Option EntryReading) → single_entry u ≡ found
        → are_alike_by other v (option_map (moved_entry (move_of u v)) found) third w second ≡ are_alike_by text u found third w second
    by None second is = refl
    by (Some e) None is = refl
    by (Some e) (Some g) is = entries_moved third w g (has e is)

    layout : are_alike_in_layout other v third w ≡ are_alike_in_layout text u third w
    layout =
        ap₂ (λ x y. x && y)
        (ap (λ t. not (has_comment_sign t) && not (has_comment_sign (text_of_unit third w))) (sym same))
        (ap (λ found. are_alike_by other v found third w (single_entry w)) single ∙ by (single_entry u) (single_entry w) refl)
