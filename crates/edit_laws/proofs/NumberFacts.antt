-- No abbreviation in an entry of a file has a number as its name.
use Rattle.std.proofs.Common.{◌≡◌, ℕ, zero, suc, ◌-◌, Bool, true, false, List, [], ◌∷◌, ◌++◌, take, drop, refl, sym, ap, ◌∙◌, subst}
use Rattle.std.specs.Prelude.{◌&&◌, slice_get, Some, ⊤}
use Rattle.std.specs.Char.{is_ascii_digit}
use Rattle.std.specs.List.{AllByRecursion, list_all}
use Rattle.std.proofs.lemmas.Str.{encode_ascii}
use Rattle.bib_text.specs.Places.{Place, between}
use Rattle.bib_text.proofs.PlaceFacts.{char_here}
use Rattle.bib_text.proofs.DigitFacts.{digit_small}
use Rattle.bib_syntax.specs.Grammar.{BlockKind, Body, Element, Elements, Fields, File, IsRawReading, NoDigit, longest}
use Rattle.bib_syntax.specs.Reading.{EntryReading, FieldReading, FileReading, Part, Piece}
use Rattle.bib_syntax.specs.Reading.Piece.{abbreviation, literal}
use Rattle.bib_text.proofs.BoolFacts.{and_true_left}
use Rattle.edit_entries.specs.Setting.{is_bare_number}

-- a piece isn't an abbreviation whose name is a number
abbrev pub IsNoNumber : Piece → Type 0
IsNoNumber (literal p) = ⊤
IsNoNumber (abbreviation p) = is_bare_number p.text ≡ false

-- no piece of a field is an abbreviation whose name is a number
abbrev pub HasNoNumber : FieldReading → Type 0
HasNoNumber f = AllByRecursion IsNoNumber f.value.pieces

-- ---- a name

take_head : (n : ℕ) (xs : List ℕ) (b : ℕ) (bs : List ℕ) → take n xs ≡ b ∷ bs → (rest : List ℕ) × (xs ≡ b ∷ rest)
take_head zero xs b bs is = cc
take_head (suc n) [] b bs is = cc
take_head (suc n) (x ∷ xs) b bs is = let same : x ≡ b = cc in (xs, ap (λ y. y ∷ xs) same)

name_is_no_number : (u v : Place) → NoDigit u → is_bare_number (between u v) ≡ false
name_is_no_number u v none = by_text (between u v) refl
  where
    by_text : (text : List ℕ) → between u v ≡ text → is_bare_number text ≡ false
    by_text [] is = refl
    by_text (b ∷ bs) is = by_number (is_bare_number (b ∷ bs)) refl
      where
        by_number : (c : Bool) → is_bare_number (b ∷ bs) ≡ c → c ≡ false
        by_number false number = refl
        by_number true number =
            let digit : is_ascii_digit b ≡ true = and_true_left (is_ascii_digit b) (list_all is_ascii_digit bs) number in
            let starts = take_head (v.at - u.at) (drop u.at u.text) b bs is in
            absurd
            (none b _ (char_here u.text starts.0 u.at b
            (starts.1 ∙ ap (λ l. l ++ starts.0) (sym (encode_ascii b (digit_small b digit))))) digit)

-- ---- from pieces to files

element_number : {u v : Place} {piece : Piece} → Element longest u piece v → IsNoNumber piece
element_number (Element.number n) = tt
element_number (Element.braced b) = tt
element_number (Element.quoted q) = tt
element_number (Element.named {u = u} {v = v} none name) =
    ap (λ (p : Part). is_bare_number p.text) name.reading ∙ name_is_no_number u v none

elements_number : {u v : Place} {pieces : List Piece} → Elements longest u pieces v → AllByRecursion IsNoNumber pieces
elements_number (Elements.last e white end) = (element_number e, tt)
elements_number (Elements.more e white sign space rest) = (element_number e, elements_number rest)

fields_number : {u v : Place} {fs : List FieldReading} → Fields longest u fs v → AllByRecursion HasNoNumber fs
fields_number (Fields.none white) = tt
fields_number (Fields.last f gap) = (elements_number f.elements, tt)
fields_number (Fields.more f gap comma space rest) = (elements_number f.elements, fields_number rest)

-- no piece of an entry is an abbreviation whose name is a number
abbrev pub EntryHasNoNumber : EntryReading → Type 0
EntryHasNoNumber e = AllByRecursion HasNoNumber e.fields

body_number : {start : Place} {kind : Part} {block : BlockKind} {u v : Place} {says : FileReading}
    → Body longest start kind block u says v → AllByRecursion EntryHasNoNumber says.entries
body_number (Body.comment v text close) = tt
body_number (Body.preamble quoted white close is) = tt
body_number (Body.strings fields close) = tt
body_number (Body.entry v key white comma gap fields close) = (fields_number fields, tt)

all_both : (es gs : List EntryReading) → AllByRecursion EntryHasNoNumber es → AllByRecursion EntryHasNoNumber gs
    → AllByRecursion EntryHasNoNumber (es ++ gs)
all_both [] gs first second = second
all_both (e ∷ es) gs first second = (first.0, all_both es gs first.1 second)

file_number : {u : Place} {says : FileReading} → File longest u says → AllByRecursion EntryHasNoNumber says.entries
file_number (File.end at) = tt
file_number (File.skipped char other rest) = file_number rest
file_number (File.line_comment sign rest) = file_number rest
file_number (File.block {first = first} {rest = more} block rest) =
    all_both first.entries more.entries (body_number block.body) (file_number rest)

at_entry : (es : List EntryReading) (k : ℕ) (e : EntryReading) → AllByRecursion EntryHasNoNumber es → slice_get es k ≡ Some e
    → EntryHasNoNumber e
at_entry [] k e all here = cc
at_entry (x ∷ es) zero e all here = let same : x ≡ e = cc in subst EntryHasNoNumber same all.0
at_entry (x ∷ es) (suc k) e all here = at_entry es k e all.1 here

-- no abbreviation in an entry of a file has a number as its name
pub no_number : {text : List ℕ} {says : FileReading} (k : ℕ) (e : EntryReading) → IsRawReading text says
    → slice_get says.entries k ≡ Some e → EntryHasNoNumber e
no_number {says = says} k e read here = at_entry says.entries k e (file_number read) here
