-- The start of a text, before edits; and names of definitions.
use Rattle.std.proofs.Common.{◌≡◌, inl, ℕ, ◌<◌, ◌≤◌, true, false, List, [], ◌∷◌, ◌++◌, length, take, drop, refl, sym, ap, ◌∙◌, subst, arith, append-nil, length-append}
use Rattle.std.specs.Char.{is_ascii_digit}
use Rattle.std.specs.List.{AllByRecursion}
use Rattle.std.proofs.lemmas.Bool.{false≢true}
use Rattle.std.proofs.lemmas.Bool.Decides.{nat_tests}
use Rattle.std.proofs.lemmas.Str.{encode_ascii}
use Rattle.std.proofs.lemmas.List.{drop_all, length-take-le, take-take}
use Rattle.bib_text.specs.Places.{Place, place, CharAt, Run, between}
use Rattle.bib_text.proofs.BoundaryFacts.{not_over}
use Rattle.bib_text.proofs.ListFacts.{all_append}
use Rattle.bib_text.proofs.PlaceFacts.{ahead_char, ahead_run, ahead_then, char_left, no_char_at_end, stops_at_end}
use Rattle.bib_syntax.specs.Characters.{is_id_continue}
use Rattle.bib_syntax.specs.Reading.{FieldReading, FileReading, Part, part}
use Rattle.bib_syntax.specs.Grammar.{BlockKind, Body, Field, Fields, File, Identifier, NoDigit, longest}
use Rattle.bib_syntax.specs.Grammar.{Body as body}
use Rattle.bib_syntax.specs.Grammar.{Fields as fields}
use Rattle.bib_syntax.specs.Grammar.{File as file}
use Rattle.bib_syntax.proofs.FieldFacts.{ahead_identifier}
use Rattle.edit_entries.specs.Documents.{CanBeName}
use Rattle.edit_entries.specs.EditList.{AreEditsInOrder}
use Rattle.edit_entries.specs.Edits.{Edit, edited, edited_all}
use Rattle.edit_entries.proofs.EditFacts.{front}
use Rattle.edit_entries.proofs.StandsFacts.{Stands, copied, copy_frame}
use Rattle.edit_entries.proofs.ZoneFacts.{char_there, inside_between, run_there, there}
use Rattle.edit_strings.specs.Collected.{has_digit_first}

-- ---- the bytes before edits

-- if the first `n` bytes of two texts are the same, so are fewer first bytes
pub less_same : (x y : List ℕ) (m n : ℕ) → m ≤ n → take n x ≡ take n y → take m x ≡ take m y
less_same x y m n less same = sym (take-take m n x less) ∙ ap (take m) same ∙ take-take m n y less

-- the bytes before the first edit stay
pub edits_front : (text : List ℕ) (at : ℕ) (edits : List Edit) → at ≤ length text → AreEditsInOrder text at edits
    → (take at (edited_all edits text) ≡ take at text) × (at ≤ length (edited_all edits text))
edits_front text at [] within order = (refl, within)
edits_front text at (edit ∷ edits) within order =
    let start_less : at ≤ edit.start = order.0 in
    let ordered : edit.start ≤ edit.end = order.1 in
    let others : List ℕ = edited_all edits text in
    let rest = edits_front text edit.end edits order.3.0 order.4 in
    let size : edit.start ≤ length others = omega (arith, rest.1, ordered) in
    let own : take edit.start (edited edit others) ≡ take edit.start text =
    front edit.start edit.end edit.bytes others size ∙ less_same others text edit.start edit.end ordered rest.0 in (
      less_same (edited edit others) text at edit.start start_less own,
      omega (
        arith,
        start_less,
        length-append (take edit.start others ++ edit.bytes) (drop edit.end others),
        length-append (take edit.start others) edit.bytes,
        length-take-le edit.start others size,
      ),
    )

-- ---- names of definitions

-- the text of a parsed name can be a name
name_can : {a b : Place} {p : Part} → b.at ≤ length a.text → Identifier longest a p b → CanBeName (between a b)
name_can {a} {b} {p} within i =
    let text : List ℕ = between a b in
    let u : Place = place text 0 in
    let v : Place = place text (length text) in
    let rest : drop (length text) text ≡ [] = drop_all (length text) text (omega arith) in
    let stands : Stands u text v = record {
      same = refl;
      here = sym (append-nil text) ∙ ap (λ t. text ++ t) (sym rest);
      next = omega arith;
    } in
    let c =
    copied (ahead_identifier i) within stands (λ x y d same char below. not_over text (length text) (inl refl) same char below) in
    let f = copy_frame a b u in
    let second = inside_between c.zone c.start c.end (ahead_char i.here) (ahead_run i.rest.run) in (
      part u v,
      record {
        second = there f i.second;
        first = i.first;
        here = subst (λ q. CharAt q i.first (there f i.second)) c.goes_start (char_there c.zone c.start second i.here);
        starts = i.starts;
        rest = record {
          run = subst (λ q. Run is_id_continue (there f i.second) q) c.goes_end (run_there c.zone second c.end i.rest.run);
          stops = stops_at_end is_id_continue refl;
        };
        reading = refl;
      },
    )

-- the name of a field in a text can be a name
pub field_can : {u v : Place} {f : FieldReading} → Field longest u f v → CanBeName f.name.text
field_can field =
    let to_sign = ahead_then (ahead_identifier field.name) (ahead_run field.white.run) in
    subst CanBeName (sym (ap (λ p. p.text) field.name.reading))
    (name_can (omega (arith, (ahead_run field.white.run).at, char_left field.sign, ap length to_sign.text)) field.name)

abbrev HaveNames : List FieldReading → Type 0
HaveNames fs = AllByRecursion (λ f. CanBeName f.name.text) fs

fields_can : {u v : Place} {fs : List FieldReading} → Fields longest u fs v → HaveNames fs
fields_can (fields.none white) = tt
fields_can (fields.last field gap) = (field_can field, tt)
fields_can (fields.more field gap comma gap' rest) = (field_can field, fields_can rest)

-- the name of each definition of a file can be a name
pub definitions_can : {u : Place} {says : FileReading} → File longest u says → HaveNames says.abbreviations
definitions_can (file.end end) = tt
definitions_can (file.skipped char passes x) = definitions_can x
definitions_can (file.line_comment m x) = definitions_can x
definitions_can (file.block {first = first} {rest = rest} b x) =
    all_append (λ f. CanBeName f.name.text) first.abbreviations rest.abbreviations (of_body b.body) (definitions_can x)
  where
    of_body : {start u v : Place} {kind : Part} {k : BlockKind} {says : FileReading} → Body longest start kind k u says v
        → HaveNames says.abbreviations
    of_body (body.comment brace chars closes) = tt
    of_body (body.preamble quoted white closes is_brace) = tt
    of_body (body.strings fs closes) = fields_can fs
    of_body (body.entry key_end key white comma gap list closes) = tt

-- a name without a leading digit begins with no digit
pub no_digit : (name : List ℕ) → has_digit_first name ≡ false → NoDigit (place name 0)
no_digit [] none c v char digit = no_char_at_end refl char
no_digit (b ∷ bs) none c v char digit =
    let small : c < 128 = grind (arith, nat_tests) in
    let first : b ∷ bs ≡ c ∷ drop v.at (b ∷ bs) = char.here ∙ ap (λ l. l ++ drop v.at (b ∷ bs)) (encode_ascii c small) in
    let same : b ≡ c = cc in
    false≢true (sym none ∙ ap is_ascii_digit same ∙ digit)
