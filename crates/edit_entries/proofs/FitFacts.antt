-- Values that can be written: their bytes parse to their pieces.
use Rattle.std.proofs.Common.{◌≡◌, ℕ, ◌+◌, ◌-◌, Bool, true, false, cond, List, [], ◌∷◌, ◌++◌, length, map, take, drop, refl, sym, ap, ◌∙◌, subst, arith, append-nil}
use Rattle.std.specs.Prelude.{◌==◌, ◌&&◌}
use Rattle.std.specs.Char.{is_ascii_digit}
use Rattle.std.specs.List.{list_all}
use Rattle.std.proofs.lemmas.List.{drop_at, take_all}
use Rattle.std.proofs.lemmas.Str.{encode_ascii}
use Rattle.std.proofs.lemmas.Bool.{and_parts}
use Rattle.bib_text.specs.Braces.{IsParts}
use Rattle.bib_text.specs.Places.{Place, place, CharAt, Run, between}
use Rattle.bib_text.specs.Places.Run.{stop, step}
use Rattle.bib_text.proofs.PlaceFacts.{stops_at_end}
use Rattle.bib_text.proofs.DigitFacts.{digit_small}
use Rattle.bib_syntax.specs.Reading.{Part}
use Rattle.bib_syntax.specs.Reading.Piece.{abbreviation, literal}
use Rattle.bib_syntax.specs.Grammar.{Element, Identifier, NoDigit, Number, longest}
use Rattle.edit_entries.specs.Changes.{braced_value}
use Rattle.edit_entries.specs.Documents.{text_at}
use Rattle.edit_entries.specs.Setting.{CanBeNewName, IsBare, IsWritableAt, SetValue, begins_with_digit, is_bare_number, new_value}
use Rattle.edit_entries.proofs.NewFieldFacts.{element_read}
use Rattle.edit_entries.proofs.NewValueFacts.{CanBeRead, braced_elements}
use Rattle.edit_entries.proofs.StandsFacts.{Stands, ascii, first_part, last_part, nothing, past}
use Rattle.edit_entries.specs.Edits.{moved_piece}
use Rattle.bib_syntax.specs.Reading.{FieldReading}

-- ---- a text in braces

pub braced_read : (text : List ℕ) → IsParts text → CanBeRead (braced_value text)
braced_read text can u v w stands ending white stops =
    let x = braced_elements text can u v w stands ending white stops in
    record { reading = x.reading; elements = x.elements; alike = ap (map (moved_piece (λ n. 0))) x.is }

-- ---- a whole text

-- the text between its start and its end is the whole text
pub whole_bytes : (text : List ℕ) → between (place text 0) (place text (length text)) ≡ text
whole_bytes text =
    let size : length text - 0 ≡ length text = omega arith in
    ap (λ n. take n text) size ∙ take_all (length text) text (omega arith)

whole_part : (text : List ℕ) (p : Part)
    → p ≡ record { text = between (place text 0) (place text (length text)); start = 0; end = length text } → p ≡ text_at 0 text
whole_part text p is =
    let end : length text ≡ 0 + length text = omega arith in
    is ∙ ap (λ t. let q : Part = record { text = t; start = 0; end = length text } in q) (whole_bytes text)
    ∙ ap (λ n. let q : Part = record { text = text; start = 0; end = n } in q) end

-- ---- a number

digits_run : {u v : Place} (bytes : List ℕ) → list_all is_ascii_digit bytes ≡ true → Stands u bytes v → Run is_ascii_digit u v
digits_run {u} {v} [] all s = subst (λ p. Run is_ascii_digit u p) (nothing s) stop
digits_run {u} {v} (b ∷ bs) all s =
    let both = and_parts (is_ascii_digit b) (list_all is_ascii_digit bs) all in
    step (ascii b (digit_small b both.0) (first_part (b ∷ []) bs s)) both.0
    (digits_run {u = past u (b ∷ [])} {v = v} bs both.1 (last_part (b ∷ []) bs s))

number_of : {u v : Place} (text : List ℕ) → v ≡ place text (length text) → Run is_ascii_digit u v → (u ≡ v → ⊥) → Number longest u v
number_of {u} text end stop some = absurd (some refl)
number_of {u} {v} text end (step char digit rest) some =
    let last = λ (test : ℕ → Bool). subst (λ p. (c : ℕ) (w : Place) → CharAt p c w
    → test c ≡ false) (sym end) (stops_at_end test {u = place text (length text)} refl) in
    Number.whole char digit (record { run = rest; stops = last is_ascii_digit }) (last (λ d. d == 46))

number_read : (text : List ℕ) → is_bare_number text ≡ true → CanBeRead (record { bytes = text; pieces = literal (text_at 0 text) ∷ [] })
number_read [] is = absurd (cc)
number_read (b ∷ bs) is =
    let text : List ℕ = b ∷ bs in
    let whole : Stands (place text 0) text (place text (length text)) = record {
      same = refl;
      here = sym (append-nil text) ∙ ap (λ r. text ++ r) (sym (drop_at text [] (length text) refl) ∙ ap (drop (length text))
          (append-nil text));
      next = omega arith;
    } in
    let run = digits_run text is whole in
    let number = number_of text refl run (λ same. let none : 0 ≡ length text = ap (λ p. p.at) same in absurd (omega arith)) in
    let piece = whole_part text (record { text = between (place text 0) (place text (length text)); start = 0; end = length text }) refl in
    subst (λ p. CanBeRead (record { bytes = text; pieces = literal p ∷ [] })) piece
    (element_read {a = place text 0} text (Element.number number) (omega arith) (whole_bytes text))

-- ---- an abbreviation

no_digit : (text : List ℕ) → begins_with_digit text ≡ false → NoDigit (place text 0)
no_digit text none c v char digit =
    let small = digit_small c digit in
    let starts : text ≡ c ∷ drop v.at text = char.here ∙ ap (λ bs. bs ++ drop v.at text) (encode_ascii c small) in
    let first : begins_with_digit text ≡ is_ascii_digit c = ap begins_with_digit starts in
    absurd (cc)

name_read : (text : List ℕ) → CanBeNewName text → CanBeRead (record { bytes = text; pieces = abbreviation (text_at 0 text) ∷ [] })
name_read text can =
    let i : Identifier longest (place text 0) (text_at 0 text) (place text (length text)) =
    subst (λ p. Identifier longest (place text 0) p (place text (length text)))
    (whole_part text can.name.0 can.name.1.reading) can.name.1 in
    element_read {a = place text 0} text (Element.named (no_digit text can.no_digit) i) (omega arith) (whole_bytes text)

no_number : (text : List ℕ) → begins_with_digit text ≡ false → is_bare_number text ≡ false
no_number [] none = refl
no_number (b ∷ bs) none = ap (λ d. d && list_all is_ascii_digit bs) none

-- ---- each value that can be written

pub fit_read : (definitions : List FieldReading) (at : ℕ) (value : SetValue) → IsWritableAt definitions at value
    → CanBeRead (new_value value)
fit_read definitions at (SetValue.plain_text text) fit = braced_read text fit.braced
fit_read definitions at (SetValue.bare_text text) (IsBare.number is) =
    subst (λ b. CanBeRead (record { bytes = text; pieces = cond b (literal (text_at 0 text)) (abbreviation (text_at 0 text)) ∷ [] }))
    (sym is)
    (number_read text is)
fit_read definitions at (SetValue.bare_text text) (IsBare.named can known) =
    subst (λ b. CanBeRead (record { bytes = text; pieces = cond b (literal (text_at 0 text)) (abbreviation (text_at 0 text)) ∷ [] }))
    (sym (no_number text can.no_digit)) (name_read text can)
