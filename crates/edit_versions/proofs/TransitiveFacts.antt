-- Units that are alike the same unit are alike.
use Rattle.std.proofs.Common.{◌≡◌, inl, inr, ℕ, zero, suc, Bool, true, false, List, [], ◌∷◌, Option, Some, None, length, refl, sym, ap, ap₂, ◌∙◌, arith, subst}
use Rattle.std.specs.Prelude.{◌⊎◌, ◌==◌, ◌&&◌, ◌||◌, ⊤, bytes_eq, not, option_map, slice_get}
use Rattle.std.specs.List.{AllByRecursion}
use Rattle.std.specs.Str.{str_to_ascii_lowercase}
use Rattle.std.specs.declared.ops.Range.{Range}
use Rattle.std.proofs.lemmas.Bool.{and_parts, eqb-true}
use Rattle.std.proofs.lemmas.Slice.Eq.{bytes_eq-Decides}
use Rattle.bib_syntax.specs.Grammar.{is_word}
use Rattle.bib_syntax.specs.Reading.{EntryReading, FieldReading, Piece}
use Rattle.bib_syntax.specs.Reading.Piece.{abbreviation, literal}
use Rattle.bib_queries.specs.EqualValues.{are_equal_pieces, is_equal_piece, with_single_spaces}
use Rattle.edit_units.specs.Units.{AreUnits, UnitReading}
use Rattle.edit_versions.specs.Alike.{are_alike, are_alike_by, are_alike_entries, are_alike_fields, are_alike_in_layout, before_entry, behind_entry, has_comment_sign, have_same_words, is_alike, is_alike_field, is_same, rest_of_entry, single_entry, single_of}
use Rattle.edit_versions.specs.Versions.{VersionReading, text_of_unit, version_unit, words_with_spaces}
use Rattle.edit_versions.proofs.MovedFacts.{alike_moved}
use Rattle.edit_versions.proofs.RunFacts.{IsUnitRun, units_are_runs}
use Rattle.edit_versions.proofs.SymmetryFacts.{alike_symmetric}

both_true : {a b : Bool} → a ≡ true → b ≡ true → (a && b) ≡ true
both_true {a} {b} first second = ap₂ (λ x y. x && y) first second

either_true : (a b : Bool) → (a || b) ≡ true → (a ≡ true) ⊎ (b ≡ true)
either_true true b is = inl refl
either_true false b is = inr is

bytes_transitive : (a b c : List ℕ) → bytes_eq a b ≡ true → bytes_eq b c ≡ true → bytes_eq a c ≡ true
bytes_transitive a b c first second = (bytes_eq-Decides a c).1 ((bytes_eq-Decides a b).0 first ∙ (bytes_eq-Decides b c).0 second)

word_transitive : (a b c : List ℕ) → is_word a b ≡ true → is_word b c ≡ true → is_word a c ≡ true
word_transitive a b c = bytes_transitive (str_to_ascii_lowercase a) (str_to_ascii_lowercase b) (str_to_ascii_lowercase c)

-- ---- values and entries

piece_transitive : (p q r : Piece) → is_equal_piece p q ≡ true → is_equal_piece q r ≡ true → is_equal_piece p r ≡ true
piece_transitive (literal p) (literal q) (literal r) first second =
    bytes_transitive (with_single_spaces false p.text) (with_single_spaces false q.text) (with_single_spaces false r.text) first second
piece_transitive (abbreviation p) (abbreviation q) (abbreviation r) first second = bytes_transitive p.text q.text r.text first second
piece_transitive (literal p) (abbreviation q) r first second = absurd (cc)
piece_transitive (abbreviation p) (literal q) r first second = absurd (cc)
piece_transitive (literal p) (literal q) (abbreviation r) first second = absurd (cc)
piece_transitive (abbreviation p) (abbreviation q) (literal r) first second = absurd (cc)

pieces_transitive : (ps qs rs : List Piece) → are_equal_pieces ps qs ≡ true → are_equal_pieces qs rs ≡ true → are_equal_pieces ps rs ≡ true
pieces_transitive [] [] [] first second = refl
pieces_transitive [] [] (r ∷ rs) first second = absurd (cc)
pieces_transitive [] (q ∷ qs) rs first second = absurd (cc)
pieces_transitive (p ∷ ps) [] rs first second = absurd (cc)
pieces_transitive (p ∷ ps) (q ∷ qs) [] first second = absurd (cc)
pieces_transitive (p ∷ ps) (q ∷ qs) (r ∷ rs) first second =
    let one = and_parts (is_equal_piece p q) (are_equal_pieces ps qs) first in
    let two = and_parts (is_equal_piece q r) (are_equal_pieces qs rs) second in
    both_true (piece_transitive p q r one.0 two.0) (pieces_transitive ps qs rs one.1 two.1)

field_transitive : (f g h : FieldReading) → is_alike_field f g ≡ true → is_alike_field g h ≡ true → is_alike_field f h ≡ true
field_transitive f g h first second =
    let one = and_parts (is_word f.name.text g.name.text) (are_equal_pieces f.value.pieces g.value.pieces) first in
    let two = and_parts (is_word g.name.text h.name.text) (are_equal_pieces g.value.pieces h.value.pieces) second in
    both_true (word_transitive f.name.text g.name.text h.name.text one.0 two.0)
    (pieces_transitive f.value.pieces g.value.pieces h.value.pieces one.1 two.1)

fields_transitive : (fs gs hs : List FieldReading) → are_alike_fields fs gs ≡ true → are_alike_fields gs hs ≡ true
    → are_alike_fields fs hs ≡ true
fields_transitive [] [] [] first second = refl
fields_transitive [] [] (h ∷ hs) first second = absurd (cc)
fields_transitive [] (g ∷ gs) hs first second = absurd (cc)
fields_transitive (f ∷ fs) [] hs first second = absurd (cc)
fields_transitive (f ∷ fs) (g ∷ gs) [] first second = absurd (cc)
fields_transitive (f ∷ fs) (g ∷ gs) (h ∷ hs) first second =
    let one = and_parts (is_alike_field f g) (are_alike_fields fs gs) first in
    let two = and_parts (is_alike_field g h) (are_alike_fields gs hs) second in
    both_true (field_transitive f g h one.0 two.0) (fields_transitive fs gs hs one.1 two.1)

-- the tests of two entries
record AreAlikeParts (text : List ℕ) (u : UnitReading) (e : EntryReading) (other : List ℕ) (v : UnitReading) (g : EntryReading)
    : Type 0 where
  kind : is_word e.kind.text g.kind.text ≡ true
  fields : are_alike_fields e.fields g.fields ≡ true
  before : bytes_eq (before_entry text u e) (before_entry other v g) ≡ true
  behind : bytes_eq (behind_entry text u e) (behind_entry other v g) ≡ true
  rest : bytes_eq (rest_of_entry text u e) (rest_of_entry other v g) ≡ true

alike_parts : (text : List ℕ) (u : UnitReading) (e : EntryReading) (other : List ℕ) (v : UnitReading) (g : EntryReading)
    → are_alike_entries text u e other v g ≡ true → AreAlikeParts text u e other v g
alike_parts text u e other v g is =
    let kind : Bool = is_word e.kind.text g.kind.text in
    let fields : Bool = are_alike_fields e.fields g.fields in
    let before : Bool = bytes_eq (before_entry text u e) (before_entry other v g) in
    let behind : Bool = bytes_eq (behind_entry text u e) (behind_entry other v g) in
    let rest : Bool = bytes_eq (rest_of_entry text u e) (rest_of_entry other v g) in
    let four = and_parts (kind && fields && before && behind) rest is in
    let three = and_parts (kind && fields && before) behind four.0 in
    let two = and_parts (kind && fields) before three.0 in
    let one = and_parts kind fields two.0 in
    record { kind = one.0; fields = one.1; before = two.1; behind = three.1; rest = four.1 }

entries_transitive : (text : List ℕ) (u : UnitReading) (e : EntryReading) (other : List ℕ) (v : UnitReading) (g : EntryReading)
    (third : List ℕ) (w : UnitReading) (h : EntryReading) → are_alike_entries text u e other v g ≡ true
    → are_alike_entries other v g third w h ≡ true → are_alike_entries text u e third w h ≡ true
entries_transitive text u e other v g third w h first second =
    let one = alike_parts text u e other v g first in
    let two = alike_parts other v g third w h second in
    both_true
    (both_true
    (both_true
    (both_true (word_transitive e.kind.text g.kind.text h.kind.text one.kind two.kind)
    (fields_transitive e.fields g.fields h.fields one.fields two.fields))
    (bytes_transitive (before_entry text u e) (before_entry other v g) (before_entry third w h) one.before two.before))
    (bytes_transitive (behind_entry text u e) (behind_entry other v g) (behind_entry third w h) one.behind two.behind))
    (bytes_transitive (rest_of_entry text u e) (rest_of_entry other v g) (rest_of_entry third w h) one.rest two.rest)

by_transitive : (text : List ℕ) (u : UnitReading) (one : Option EntryReading) (other : List ℕ) (v : UnitReading) (two : Option EntryReading)
    (third : List ℕ) (w : UnitReading) (three : Option EntryReading) → are_alike_by text u one other v two ≡ true
    → are_alike_by other v two third w three ≡ true → are_alike_by text u one third w three ≡ true
by_transitive text u (Some e) other v (Some g) third w (Some h) first second = entries_transitive text u e other v g third w h first second
by_transitive text u (Some e) other v (Some g) third w None first second = absurd (cc)
by_transitive text u (Some e) other v None third w three first second = absurd (cc)
by_transitive text u None other v two third w three first second = absurd (cc)

-- ---- units

-- two units differ in their layout only
record AreLaidOut (text : List ℕ) (u : UnitReading) (other : List ℕ) (v : UnitReading) : Type 0 where
  plain : not (has_comment_sign (text_of_unit text u)) ≡ true
  plain' : not (has_comment_sign (text_of_unit other v)) ≡ true
  alike : are_alike_by text u (single_entry u) other v (single_entry v) ≡ true

laid_out : (text : List ℕ) (u : UnitReading) (other : List ℕ) (v : UnitReading) → are_alike_in_layout text u other v ≡ true
    → AreLaidOut text u other v
laid_out text u other v is =
    let no : Bool = not (has_comment_sign (text_of_unit text u)) in
    let no' : Bool = not (has_comment_sign (text_of_unit other v)) in
    let all = and_parts (no && no') (are_alike_by text u (single_entry u) other v (single_entry v)) is in
    let plain = and_parts no no' all.0 in
    record { plain = plain.0; plain' = plain.1; alike = all.1 }

-- two units have no blocks, and the same words
record HaveWords (text : List ℕ) (u : UnitReading) (other : List ℕ) (v : UnitReading) : Type 0 where
  empty : (length u.blocks == 0) ≡ true
  empty' : (length v.blocks == 0) ≡ true
  same : bytes_eq (words_with_spaces (text_of_unit text u)) (words_with_spaces (text_of_unit other v)) ≡ true

have_words : (text : List ℕ) (u : UnitReading) (other : List ℕ) (v : UnitReading) → have_same_words text u other v ≡ true
    → HaveWords text u other v
have_words text u other v is =
    let none : Bool = length u.blocks == 0 in
    let none' : Bool = length v.blocks == 0 in
    let words : Bool = bytes_eq (words_with_spaces (text_of_unit text u)) (words_with_spaces (text_of_unit other v)) in
    let all = and_parts (none && none') words is in
    let empty = and_parts none none' all.0 in
    record { empty = empty.0; empty' = empty.1; same = all.1 }

-- why two units are alike
data AreAlikeAs (text : List ℕ) (u : UnitReading) (other : List ℕ) (v : UnitReading) : Type 0 where
  by_bytes : text_of_unit text u ≡ text_of_unit other v → AreAlikeAs text u other v
  by_layout : AreLaidOut text u other v → AreAlikeAs text u other v
  by_words : HaveWords text u other v → AreAlikeAs text u other v

alike_as : (text : List ℕ) (u : UnitReading) (other : List ℕ) (v : UnitReading) → are_alike text u other v ≡ true
    → AreAlikeAs text u other v
alike_as text u other v is =
    let bytes : Bool = bytes_eq (text_of_unit text u) (text_of_unit other v) in
    let layout : Bool = are_alike_in_layout text u other v in
    elim (either_true (bytes || layout) (have_same_words text u other v) is) [
      | inl first ↦ elim (either_true bytes layout first) [
        | inl same ↦ AreAlikeAs.by_bytes ((bytes_eq-Decides (text_of_unit text u) (text_of_unit other v)).0 same)
        | inr alike ↦ AreAlikeAs.by_layout (laid_out text u other v alike)
      ]
      | inr words ↦ AreAlikeAs.by_words (have_words text u other v words)
    ]

or_second : (a b c : Bool) → b ≡ true → (a || b || c) ≡ true
or_second true b c is = refl
or_second false b c is = ap (λ x. x || c) is

or_third : (a b c : Bool) → c ≡ true → (a || b || c) ≡ true
or_third true b c is = refl
or_third false true c is = refl
or_third false false c is = is

no_single : (blocks : List (Range ℕ)) (es : List EntryReading) → (length blocks == 0) ≡ true → single_of blocks es ≡ None
no_single [] es empty = refl
no_single (b ∷ bs) es empty = absurd (omega (arith, eqb-true (length (b ∷ bs)) 0 empty))

-- two units don't differ in layout only if the second one has no blocks
not_laid_out : (text : List ℕ) (u : UnitReading) (other : List ℕ) (v : UnitReading) → AreLaidOut text u other v
    → (length v.blocks == 0) ≡ true → ⊥
not_laid_out text u other v laid empty = by (single_entry u) (single_entry v) (no_single v.blocks v.says.entries empty) laid.alike
  where
    by : (one two : Option EntryReading) → two ≡ None → are_alike_by text u one other v two ≡ true → ⊥
    by None two none is = cc
    by (Some e) None none is = cc
    by (Some e) (Some g) none is = cc

-- two units don't differ in layout only if the first one has no blocks
not_laid_out_from : (text : List ℕ) (u : UnitReading) (other : List ℕ) (v : UnitReading) → AreLaidOut text u other v
    → (length u.blocks == 0) ≡ true → ⊥
not_laid_out_from text u other v laid empty = by (single_entry u) (single_entry v) (no_single u.blocks u.says.entries empty) laid.alike
  where
    by : (one two : Option EntryReading) → one ≡ None → are_alike_by text u one other v two ≡ true → ⊥
    by None two none is = cc
    by (Some e) two none is = cc

units_transitive : (text : List ℕ) (u : UnitReading) (other : List ℕ) (v : UnitReading) (third : List ℕ) (w : UnitReading)
    → IsUnitRun text u → IsUnitRun other v → IsUnitRun third w → are_alike text u other v ≡ true → are_alike other v third w ≡ true
    → are_alike text u third w ≡ true
units_transitive text u other v third w run run' run'' first second =
    by (alike_as text u other v first) (alike_as other v third w second)
  where
    uv : VersionReading
    uv = record { text = text; units = [] }

    ww : VersionReading
    ww = record { text = third; units = [] }

    vv : VersionReading
    vv = record { text = other; units = [] }

    by : AreAlikeAs text u other v → AreAlikeAs other v third w → are_alike text u third w ≡ true
    by (AreAlikeAs.by_bytes same) two = sym (alike_moved run run' same third w) ∙ second
    by (AreAlikeAs.by_layout one) (AreAlikeAs.by_bytes same) =
        alike_symmetric uv (Some u) ww (Some w) ∙ alike_moved run' run'' same text u ∙ alike_symmetric vv (Some v) uv (Some u) ∙ first
    by (AreAlikeAs.by_words one) (AreAlikeAs.by_bytes same) =
        alike_symmetric uv (Some u) ww (Some w) ∙ alike_moved run' run'' same text u ∙ alike_symmetric vv (Some v) uv (Some u) ∙ first
    by (AreAlikeAs.by_layout one) (AreAlikeAs.by_layout two) =
        or_second (bytes_eq (text_of_unit text u) (text_of_unit third w)) (are_alike_in_layout text u third w)
        (have_same_words text u third w)
        (both_true (both_true one.plain two.plain')
        (by_transitive text u (single_entry u) other v (single_entry v) third w (single_entry w) one.alike two.alike))
    by (AreAlikeAs.by_layout one) (AreAlikeAs.by_words two) = absurd (not_laid_out text u other v one two.empty)
    by (AreAlikeAs.by_words one) (AreAlikeAs.by_layout two) = absurd (not_laid_out_from other v third w two one.empty')
    by (AreAlikeAs.by_words one) (AreAlikeAs.by_words two) =
        or_third (bytes_eq (text_of_unit text u) (text_of_unit third w)) (are_alike_in_layout text u third w)
        (have_same_words text u third w)
        (both_true (both_true one.empty two.empty')
        (bytes_transitive (words_with_spaces (text_of_unit text u)) (words_with_spaces (text_of_unit other v))
        (words_with_spaces (text_of_unit third w)) one.same two.same))

-- ---- units of versions

-- a unit of a version is a run, if it is there
abbrev pub HasRun : VersionReading → Option UnitReading → Type 0
HasRun v None = ⊤
HasRun v (Some u) = IsUnitRun v.text u

run_at : (text : List ℕ) (us : List UnitReading) (i : ℕ) (v : VersionReading) → v.text ≡ text → AllByRecursion (IsUnitRun text) us
    → HasRun v (slice_get us i)
run_at text [] i v same all = _
run_at text (u ∷ us) zero v same all = subst (λ t. IsUnitRun t u) (sym same) all.0
run_at text (u ∷ us) (suc i) v same all = run_at text us i v same all.1

pub has_run : (v : VersionReading) (index : Option ℕ) → AreUnits v.text v.units → HasRun v (version_unit v index)
has_run v None are = _
has_run v (Some i) are = run_at v.text v.units i v refl (units_are_runs v.text v.units are)

pub alike_transitive : (v : VersionReading) (u : Option UnitReading) (w : VersionReading) (x : Option UnitReading) (y : VersionReading)
    (z : Option UnitReading) → HasRun v u → HasRun w x → HasRun y z → is_alike v u w x ≡ true → is_alike w x y z ≡ true
    → is_alike v u y z ≡ true
alike_transitive v None w None y None run run' run'' first second = refl
alike_transitive v None w None y (Some z) run run' run'' first second = absurd (cc)
alike_transitive v None w (Some x) y z run run' run'' first second = absurd (cc)
alike_transitive v (Some u) w None y z run run' run'' first second = absurd (cc)
alike_transitive v (Some u) w (Some x) y None run run' run'' first second = absurd (cc)
alike_transitive v (Some u) w (Some x) y (Some z) run run' run'' first second =
    units_transitive v.text u w.text x y.text z run run' run'' first second

or_first : (a b c : Bool) → a ≡ true → (a || b || c) ≡ true
or_first a b c is = ap (λ x. x || b || c) is

-- the same units are alike
pub same_alike : (v : VersionReading) (u : Option UnitReading) (w : VersionReading) (x : Option UnitReading) → is_same v u w x ≡ true
    → is_alike v u w x ≡ true
same_alike v None w None is = refl
same_alike v None w (Some x) is = absurd (cc)
same_alike v (Some u) w None is = absurd (cc)
same_alike v (Some u) w (Some x) is =
    or_first (bytes_eq (text_of_unit v.text u) (text_of_unit w.text x)) (are_alike_in_layout v.text u w.text x)
    (have_same_words v.text u w.text x) is
