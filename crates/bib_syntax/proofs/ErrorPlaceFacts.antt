-- Each reported error is an error of the grammar, with a span in the text. Most lemmas `.._inside` are about the place after
-- a rule, and lemmas `.._later` are about the place of an error.
use Rattle.std.proofs.Common.{◌≡◌, ℕ, Bool, ◌+◌, ◌≤◌, List, length, refl, sym, ap, subst, arith}
use Rattle.std.specs.Prelude.{IsTrue}
use Rattle.std.specs.Char.{len_utf8}
use Rattle.bib_text.specs.Places.{Place, place, CharAt, Run}
use Rattle.bib_text.specs.Places.Run.{stop, step}
use Rattle.bib_text.proofs.PlaceFacts.{Ahead, ahead_here, ahead_then, ahead_char, ahead_run, char_left}
use Rattle.bib_syntax.specs.declared.raw.ParseErrorKind.{ParseErrorKind}
use Rattle.bib_syntax.specs.declared.raw.ParseError.{ParseError}
use Rattle.bib_syntax.specs.Reading.{Piece, FileReading, Part}
use Rattle.bib_syntax.specs.Grammar.{Identifier, Element, Elements, Gap, BlockKind, Body, longest}
use Rattle.bib_syntax.specs.Grammar.Number.{whole, broken}
use Rattle.bib_syntax.specs.Grammar.{Element as element}
use Rattle.bib_syntax.specs.Grammar.{Elements as elements}
use Rattle.bib_syntax.specs.Grammar.{Gap as gap}
use Rattle.bib_syntax.specs.Grammar.{Body as body}
use Rattle.bib_syntax.specs.Errors.{IsSyntaxError, is_syntax}
use Rattle.bib_syntax.specs.SyntaxErrors.{IdentifierFails, NumberFails, QuotedFails, BracedFails, ElementFails, ElementsFails, FieldFails, FieldsFails, HeadFails, BodyFails, BlockFails, FileFails, IsReported}
use Rattle.bib_syntax.specs.SyntaxErrors.{IdentifierFails as identifier_fail}
use Rattle.bib_syntax.specs.SyntaxErrors.{NumberFails as number_fail}
use Rattle.bib_syntax.specs.SyntaxErrors.{QuotedFails as quoted_fail}
use Rattle.bib_syntax.specs.SyntaxErrors.{BracedFails as braced_fail}
use Rattle.bib_syntax.specs.SyntaxErrors.{ElementFails as element_fail}
use Rattle.bib_syntax.specs.SyntaxErrors.{ElementsFails as elements_fail}
use Rattle.bib_syntax.specs.SyntaxErrors.{FieldFails as field_fail}
use Rattle.bib_syntax.specs.SyntaxErrors.{FieldsFails as fields_fail}
use Rattle.bib_syntax.specs.SyntaxErrors.{HeadFails as head_fail}
use Rattle.bib_syntax.specs.SyntaxErrors.{BodyFails as body_fail}
use Rattle.bib_syntax.specs.SyntaxErrors.{BlockFails as block_fail}
use Rattle.bib_syntax.specs.SyntaxErrors.{FileFails as file_fail}
use Rattle.bib_syntax.proofs.FieldFacts.{ahead_identifier, ahead_quoted, ahead_element, ahead_field, ahead_gap}
use Rattle.bib_syntax.proofs.FileFacts.{ahead_head, ahead_block, ahead_line_comment}

-- a place that isn't after the end of its text
record Inside (u : Place) : Type 0 where
  bound : u.at ≤ length u.text

char_inside : {u v : Place} {c : ℕ} → CharAt u c v → Inside v
char_inside {u} {v} {c} char =
    let left : u.at + len_utf8 c ≤ length u.text = char_left char in
    let next : v.at ≡ u.at + len_utf8 c = char.next in
    let text : length v.text ≡ length u.text = ap length char.same in
    record { bound = omega arith }

run_inside : {test : ℕ → Bool} {u v : Place} → Run test u v → Inside u → Inside v
run_inside stop inside = inside
run_inside (step char passes rest) inside = run_inside rest (char_inside char)

element_inside : {u v : Place} {e : Piece} → Element longest u e v → Inside v
element_inside (element.number (whole char digit run ends)) = run_inside run.run (char_inside char)
element_inside (element.number (broken char digit run point run' ends)) = run_inside run'.run (char_inside point)
element_inside (element.named none i) = run_inside i.rest.run (char_inside i.here)
element_inside (element.braced b) = char_inside b.closes
element_inside (element.quoted q) = char_inside q.closes

elements_inside : {u v : Place} {es : List Piece} → Elements longest u es v → Inside v
elements_inside (elements.last e white ends) = run_inside white.run (element_inside e)
elements_inside (elements.more e white sign white' rest) = elements_inside rest

gap_inside : {u v : Place} → Gap longest u v → Inside u → Inside v
gap_inside (gap.white white ends) inside = run_inside white.run inside
gap_inside (gap.line_comment white m white') inside = run_inside white'.run (run_inside m.line.run (char_inside m.sign))

body_inside : {start u v : Place} {p : Part} {k : BlockKind} {r : FileReading} → Body longest start p k u r v → Inside v
body_inside (body.comment a run close) = char_inside close
body_inside (body.preamble quoted white close is_close) = char_inside close
body_inside (body.strings fields close) = char_inside close
body_inside (body.entry a key white comma gap fields close) = char_inside close

-- an error of the grammar, reported at a place `v` ahead of `u`; `v` isn't after the end of the text if `u` isn't
record IsLater (u : Place) (kind : ParseErrorKind) (v : Place) : Type 0 where
  syntax : IsTrue (is_syntax kind)
  ahead : Ahead u v
  inside : Inside u → Inside v

later_here : (u : Place) (kind : ParseErrorKind) → IsTrue (is_syntax kind) → IsLater u kind u
later_here u kind syntax = record { syntax = syntax; ahead = ahead_here u; inside = λ i. i }

later_at_end : (u : Place) (kind : ParseErrorKind) → IsTrue (is_syntax kind) → u.at ≤ length u.text
    → IsLater u kind (place u.text (length u.text))
later_at_end u kind syntax i = record {
  syntax = syntax;
  ahead = record { text = refl; at = i };
  inside = λ j. record { bound = omega arith };
}

later_from : {u v w : Place} {kind : ParseErrorKind} → Ahead u v → (Inside u → Inside v) → IsLater v kind w → IsLater u kind w
later_from ahead inside later = record {
  syntax = later.syntax;
  ahead = ahead_then ahead later.ahead;
  inside = λ i. later.inside (inside i);
}

-- the place of a character isn't after the end of the text
stands_inside : {u v : Place} {c : ℕ} → CharAt u c v → u.at ≤ length u.text
stands_inside {u} {v} {c} char =
    let left : u.at + len_utf8 c ≤ length u.text = char_left char in
    omega arith

identifier_later : {u v : Place} {k : ParseErrorKind} → IdentifierFails u k v → IsLater u k v
identifier_later (identifier_fail.missing stops) = later_here _ _ refl

number_later : {u v : Place} {k : ParseErrorKind} → NumberFails u k v → IsLater u k v
number_later (number_fail.second_point run point more second) =
    later_from (ahead_then (ahead_run run.run) (ahead_then (ahead_char point) (ahead_run more.run)))
    (λ i. run_inside more.run (char_inside point)) (later_here _ _ refl)

quoted_later : {u v : Place} {k : ParseErrorKind} → QuotedFails u k v → IsLater u k v
quoted_later (quoted_fail.missing stops) = later_here _ _ refl
quoted_later (quoted_fail.unclosed quote none) = later_at_end _ _ refl (stands_inside quote)

braced_later : {u v : Place} {k : ParseErrorKind} → BracedFails u k v → IsLater u k v
braced_later (braced_fail.unclosed brace none) = later_at_end _ _ refl (stands_inside brace)

element_later : {u v : Place} {k : ParseErrorKind} → ElementFails u k v → IsLater u k v
element_later (element_fail.missing stops) = later_here _ _ refl
element_later (element_fail.number char digit f) = number_later f
element_later (element_fail.braced f) = braced_later f
element_later (element_fail.quoted quote f) = quoted_later f

elements_later : {u v : Place} {k : ParseErrorKind} → ElementsFails u k v → IsLater u k v
elements_later (elements_fail.first f) = element_later f
elements_later (elements_fail.more e white sign white' f) =
    later_from
    (ahead_then (ahead_element e)
    (ahead_then (ahead_run white.run) (ahead_then (ahead_char sign) (ahead_run white'.run))))
    (λ i. run_inside white'.run (char_inside sign)) (elements_later f)

name_inside : {u v : Place} {p : Part} → Identifier longest u p v → Inside v
name_inside name = run_inside name.rest.run (char_inside name.here)

field_later : {u v : Place} {k : ParseErrorKind} → FieldFails u k v → IsLater u k v
field_later (field_fail.equals name white stops) =
    later_from (ahead_then (ahead_identifier name) (ahead_run white.run)) (λ i. run_inside white.run (name_inside name))
    (later_here _ _ refl)
field_later (field_fail.value name white sign white' f) =
    later_from
    (ahead_then (ahead_identifier name)
    (ahead_then (ahead_run white.run) (ahead_then (ahead_char sign) (ahead_run white'.run))))
    (λ i. run_inside white'.run (char_inside sign)) (elements_later f)

fields_later : {u v : Place} {k : ParseErrorKind} → FieldsFails u k v → IsLater u k v
fields_later (fields_fail.first f) = field_later f
fields_later (fields_fail.more x g sign h f) =
    later_from (ahead_then (ahead_field x) (ahead_then (ahead_gap g) (ahead_then (ahead_char sign) (ahead_gap h))))
    (λ i. gap_inside h (char_inside sign)) (fields_later f)
fields_later (fields_fail.comma x g stops) =
    later_from (ahead_then (ahead_field x) (ahead_gap g)) (λ i. gap_inside g (elements_inside x.elements))
    (later_here _ _ refl)
fields_later (fields_fail.name none white stops more) = later_from (ahead_run white.run) (λ i. run_inside white.run i) (later_here _ _ refl)
fields_later (fields_fail.ended none white end) = later_from (ahead_run white.run) (λ i. run_inside white.run i) (later_here _ _ refl)

head_later : {u v : Place} {k : ParseErrorKind} → HeadFails u k v → IsLater u k v
head_later (head_fail.name sign f) = later_from (ahead_char sign) (λ i. char_inside sign) (identifier_later f)
head_later (head_fail.brace sign name white stops) =
    later_from (ahead_then (ahead_char sign) (ahead_then (ahead_identifier name) (ahead_run white.run)))
    (λ i. run_inside white.run (name_inside name)) (later_here _ _ refl)

body_later : {b : BlockKind} {u v : Place} {k : ParseErrorKind} → BodyFails b u k v → IsLater u k v
body_later (body_fail.comment run end) = later_from (ahead_run run.run) (λ i. run_inside run.run i) (later_here _ _ refl)
body_later (body_fail.preamble f) = quoted_later f
body_later (body_fail.preamble_end q white stops) =
    later_from (ahead_then (ahead_quoted q) (ahead_run white.run)) (λ i. run_inside white.run (char_inside q.closes))
    (later_here _ _ refl)
body_later (body_fail.strings f) = fields_later f
body_later (body_fail.comma key white stops) =
    later_from (ahead_then (ahead_run key.run) (ahead_run white.run)) (λ i. run_inside white.run (run_inside key.run i))
    (later_here _ _ refl)
body_later (body_fail.fields key white comma gap f) =
    later_from
    (ahead_then (ahead_run key.run)
    (ahead_then (ahead_run white.run) (ahead_then (ahead_char comma) (ahead_gap gap))))
    (λ i. gap_inside gap (char_inside comma)) (fields_later f)

block_later : {u v : Place} {k : ParseErrorKind} → BlockFails u k v → IsLater u k v
block_later (block_fail.head f) = head_later f
block_later (block_fail.body head f) =
    later_from (ahead_head head) (λ i. run_inside head.white'.run (char_inside head.opens)) (body_later f)

file_later : {u v : Place} {k : ParseErrorKind} → FileFails u k v → IsLater u k v
file_later (file_fail.skipped char passes f) = later_from (ahead_char char) (λ i. char_inside char) (file_later f)
file_later (file_fail.line_comment m f) = later_from (ahead_line_comment m) (λ i. run_inside m.line.run (char_inside m.sign)) (file_later f)
file_later (file_fail.more b f) = later_from (ahead_block b) (λ i. body_inside b.body) (file_later f)
file_later (file_fail.first f) = block_later f

-- the error that is reported for a text is an error of the grammar with a span in the text
pub reported_syntax : (text : List ℕ) (e : ParseError) → IsReported text e → IsSyntaxError text e
reported_syntax text e r =
    let later = file_later r.fails in
    let end = later.inside (record { bound = omega arith }) in
    subst (λ x. IsSyntaxError text x) (sym r.is)
    (record {
      kind = later.syntax;
      ordered = omega arith;
      within = subst (λ t. r.place.at ≤ length t) later.ahead.text end.bound;
    })
