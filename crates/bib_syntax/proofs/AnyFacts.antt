-- A match with the longest runs is also a match with any runs, so the mode `any` accepts each text that the mode `longest` accepts.
use Rattle.std.proofs.Common.{List}
use Rattle.bib_text.specs.Places.{Place}
use Rattle.bib_syntax.specs.Reading.{Part, Piece, FieldReading, FileReading}
use Rattle.bib_syntax.specs.Grammar.{Identifier, Number, Element, Elements, Field, Gap, Fields, Head, Body, File, any, longest}
use Rattle.bib_syntax.specs.Grammar.{Number as number}
use Rattle.bib_syntax.specs.Grammar.{Element as element}
use Rattle.bib_syntax.specs.Grammar.{Elements as elements}
use Rattle.bib_syntax.specs.Grammar.{Gap as gap}
use Rattle.bib_syntax.specs.Grammar.{Fields as fields}
use Rattle.bib_syntax.specs.Grammar.{Body as body}
use Rattle.bib_syntax.specs.Grammar.{File as file}
use Rattle.bib_syntax.specs.Grammar.{BlockKind}

-- a match in the mode `longest` is a match in the mode `any`

identifier_any : {u v : Place} {p : Part} → Identifier longest u p v → Identifier any u p v
identifier_any i = record { second = i.second; first = i.first; here = i.here; starts = i.starts; rest = i.rest.run; reading = i.reading }

number_any : {u v : Place} → Number longest u v → Number any u v
number_any (number.whole c d r e) = number.whole c d r.run tt
number_any (number.broken c d r p s e) = number.broken c d r.run p s.run tt

element_any : {u v : Place} {e : Piece} → Element longest u e v → Element any u e v
element_any (element.number n) = element.number (number_any n)
element_any (element.named none i) = element.named none (identifier_any i)
element_any (element.braced b) = element.braced b
element_any (element.quoted q) = element.quoted q

elements_any : {u v : Place} {es : List Piece} → Elements longest u es v → Elements any u es v
elements_any (elements.last e w ends) = elements.last (element_any e) w.run tt
elements_any (elements.more e w s w' rest) = elements.more (element_any e) w.run s w'.run (elements_any rest)

field_any : {u v : Place} {f : FieldReading} → Field longest u f v → Field any u f v
field_any f = record {
  name_end = f.name_end;
  before_sign = f.before_sign;
  after_sign = f.after_sign;
  value_start = f.value_start;
  name = identifier_any f.name;
  white = f.white.run;
  sign = f.sign;
  white' = f.white'.run;
  elements = elements_any f.elements;
  starts = f.starts;
  ends = f.ends;
}

gap_any : {u v : Place} → Gap longest u v → Gap any u v
gap_any (gap.white w ends) = gap.white w.run tt
gap_any (gap.line_comment w m w') = gap.line_comment w.run m w'.run

fields_any : {u v : Place} {fs : List FieldReading} → Fields longest u fs v → Fields any u fs v
fields_any (fields.none w) = fields.none w.run
fields_any (fields.last f g) = fields.last (field_any f) (gap_any g)
fields_any (fields.more f g s h rest) = fields.more (field_any f) (gap_any g) s (gap_any h) (fields_any rest)

head_any : {u v : Place} {p : Part} → Head longest u p v → Head any u p v
head_any h = record {
  name_start = h.name_start;
  name_end = h.name_end;
  before_brace = h.before_brace;
  after_brace = h.after_brace;
  brace = h.brace;
  sign = h.sign;
  name = identifier_any h.name;
  white = h.white.run;
  opens = h.opens;
  is_brace = h.is_brace;
  white' = h.white'.run;
}

body_any : {start u v : Place} {p : Part} {k : BlockKind} {r : FileReading} → Body longest start p k u r v → Body any start p k u r v
body_any (body.comment a inside close) = body.comment a inside.run close
body_any (body.preamble quoted white close is_close) = body.preamble quoted white.run close is_close
body_any (body.strings fields close) = body.strings (fields_any fields) close
body_any (body.entry a key white comma g fields close) = body.entry a key.run white.run comma (gap_any g) (fields_any fields) close

pub file_any : {u : Place} {r : FileReading} → File longest u r → File any u r
file_any (file.end end) = file.end end
file_any (file.skipped char passes x) = file.skipped char passes (file_any x)
file_any (file.line_comment m x) = file.line_comment m (file_any x)
file_any (file.block b x) =
    file.block (record { inside = b.inside; kind = b.kind; head = head_any b.head; body = body_any b.body })
    (file_any x)
