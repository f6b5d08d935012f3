-- How pieces and fields are parsed one by one.
use Rattle.std.proofs.Common.{List, [], ◌∷◌, ◌++◌, subst, append_assoc, append-nil, inl, inr, ◌==◌}
use Rattle.std.specs.Char.{is_whitespace}
use Rattle.bib_text.specs.Places.{Place, CharAt, Longest, Stops}
use Rattle.bib_text.proofs.BraceFacts.{ahead_parts}
use Rattle.bib_text.proofs.PlaceFacts.{stops_without, Ahead, ahead_here, ahead_then, ahead_char, ahead_run}
use Rattle.bib_syntax.proofs.WordFacts.{ahead_number}
use Rattle.bib_syntax.proofs.ReadingFacts.{error_back}
use Rattle.bib_syntax.specs.Reading.{Part, Piece, FieldReading}
use Rattle.bib_syntax.specs.Grammar.{Identifier, Quoted, QuotedParts, Element, Elements, Field, Gap, Fields, longest}
use Rattle.bib_syntax.specs.Grammar.{QuotedParts as quotes}
use Rattle.bib_syntax.specs.Grammar.{Element as element}
use Rattle.bib_syntax.specs.Grammar.{Elements as elements}
use Rattle.bib_syntax.specs.Grammar.{Gap as gap}
use Rattle.bib_syntax.specs.Grammar.{Fields as fields}
use Rattle.bib_syntax.specs.SyntaxErrors.{ElementsFails, FieldsFails}
use Rattle.bib_syntax.specs.SyntaxErrors.{ElementsFails as elements_fail}
use Rattle.bib_syntax.specs.SyntaxErrors.{FieldsFails as fields_fail}
use Rattle.bib_syntax.specs.Errors.{Refuses}
use Rattle.bib_syntax.specs.declared.raw.ParseErrorKind.{ParseErrorKind}
use Rattle.bib_syntax.specs.declared.raw.ParseError.{ParseError}

-- after the pieces of a value comes neither white space nor a number sign
pub elements_stop : {u v : Place} {es : List Piece} → Elements longest u es v → Stops is_whitespace v × Stops (λ c. c == 35) v
elements_stop (elements.last e white ends) = (white.stops, ends)
elements_stop (elements.more e white sign white' rest) = elements_stop rest

-- the longest white space, without a percent sign after it, is a gap
pub gap_without : {u a : Place} → Longest is_whitespace u a → ((x : Place) → CharAt a 37 x → ⊥) → Gap longest u a
gap_without white none = gap.white white (stops_without 37 none)

-- the pieces parsed from `start` to `here`: pieces from `here` continue them, and a failure from `here` is one from `start`
pub record ElementsRead (start : Place) (ps : List Piece) (here : Place) : Type 0 where
  pub there : (es : List Piece) (v : Place) → Elements longest here es v → Elements longest start (ps ++ es) v
  pub fails : (kind : ParseErrorKind) (v : Place) → ElementsFails here kind v → ElementsFails start kind v

-- at the start no piece is parsed
pub no_elements_read : (start : Place) → ElementsRead start [] start
no_elements_read start = record { there = λ es v x. x; fails = λ kind v f. f }

-- one more piece, with the # after it
pub element_read : {start u a b c d : Place} {ps : List Piece} (e : Piece) → ElementsRead start ps u
    → Element longest u e a → Longest is_whitespace a b → CharAt b 35 c → Longest is_whitespace c d
    → ElementsRead start (ps ++ e ∷ []) d
element_read {start} {u} {a} {b} {c} {d} {ps} e read one white sign white' = record {
  there = λ es v x. rw append_assoc (read.there (e ∷ es) v (elements.more one white sign white' x));
  fails = λ kind v f. read.fails kind v (elements_fail.more one white sign white' f);
}

-- the last piece, without a # after it: the pieces are complete
pub elements_found : {start u a b : Place} {ps : List Piece} (e : Piece) → ElementsRead start ps u
    → Element longest u e a → Longest is_whitespace a b → ((x : Place) → CharAt b 35 x → ⊥)
    → Elements longest start (ps ++ e ∷ []) b
elements_found e read one white no_sign = read.there _ _ (elements.last one white (stops_without 35 no_sign))

-- the fields parsed from `start` to `here`: fields from `here` continue them, and a failure from `here` is one from `start`
pub record FieldsRead (start : Place) (fs : List FieldReading) (here : Place) : Type 0 where
  pub there : (gs : List FieldReading) (v : Place) → Fields longest here gs v → Fields longest start (fs ++ gs) v
  pub fails : (kind : ParseErrorKind) (v : Place) → FieldsFails here kind v → FieldsFails start kind v

-- at the start no field is parsed
pub no_fields_read : (start : Place) → FieldsRead start [] start
no_fields_read start = record { there = λ gs v x. x; fails = λ kind v f. f }

-- one more field, with the comma after it
pub field_read : {start u a b c d : Place} {fs : List FieldReading} (f : FieldReading) → FieldsRead start fs u
    → Field longest u f a → Gap longest a b → CharAt b 44 c → Gap longest c d
    → FieldsRead start (fs ++ f ∷ []) d
field_read f read one g sign h = record {
  there = λ gs v x. rw append_assoc (read.there (f ∷ gs) v (fields.more one g sign h x));
  fails = λ kind v x. read.fails kind v (fields_fail.more one g sign h x);
}

-- the last field, without a comma after it: the fields are complete
pub fields_last : {start u a b : Place} {fs : List FieldReading} (f : FieldReading) → FieldsRead start fs u
    → Field longest u f a → Gap longest a b → Fields longest start (fs ++ f ∷ []) b
fields_last f read one g = read.there _ _ (fields.last one g)

-- white space without a further field: the fields are complete
pub fields_end : {start u v : Place} {fs : List FieldReading} → FieldsRead start fs u → Longest is_whitespace u v
    → Fields longest start fs v
fields_end {start} {u} {v} {fs} read white = subst (λ gs. Fields longest start gs v) (append-nil fs) (read.there _ _ (fields.none white))

pub ahead_identifier : {u v : Place} {p : Part} → Identifier longest u p v → Ahead u v
ahead_identifier i = ahead_then (ahead_char i.here) (ahead_run i.rest.run)

pub ahead_quoted_parts : {u v : Place} → QuotedParts u v → Ahead u v
ahead_quoted_parts {u} quotes.none = ahead_here u
ahead_quoted_parts (quotes.plain c p rest) = ahead_then (ahead_char c) (ahead_quoted_parts rest)
ahead_quoted_parts (quotes.hidden s c rest) = ahead_then (ahead_char s) (ahead_then (ahead_char c) (ahead_quoted_parts rest))

pub ahead_quoted : {u v : Place} {p : Part} → Quoted u p v → Ahead u v
ahead_quoted q = ahead_then (ahead_char q.opens) (ahead_then (ahead_quoted_parts q.parts) (ahead_char q.closes))

pub ahead_element : {u v : Place} {e : Piece} → Element longest u e v → Ahead u v
ahead_element (element.number n) = ahead_number n
ahead_element (element.named none i) = ahead_identifier i
ahead_element (element.braced b) = ahead_then (ahead_char b.opens) (ahead_then (ahead_parts b.parts) (ahead_char b.closes))
ahead_element (element.quoted q) = ahead_quoted q

pub ahead_elements : {u v : Place} {es : List Piece} → Elements longest u es v → Ahead u v
ahead_elements (elements.last e w ends) = ahead_then (ahead_element e) (ahead_run w.run)
ahead_elements (elements.more e w s w' rest) =
    ahead_then (ahead_element e)
    (ahead_then (ahead_run w.run) (ahead_then (ahead_char s) (ahead_then (ahead_run w'.run) (ahead_elements rest))))

pub ahead_field : {u v : Place} {f : FieldReading} → Field longest u f v → Ahead u v
ahead_field f =
    ahead_then (ahead_identifier f.name)
    (ahead_then (ahead_run f.white.run)
    (ahead_then (ahead_char f.sign) (ahead_then (ahead_run f.white'.run) (ahead_elements f.elements))))

pub ahead_gap : {u v : Place} → Gap longest u v → Ahead u v
ahead_gap (gap.white w ends) = ahead_run w.run
ahead_gap (gap.line_comment w r w') =
    ahead_then (ahead_run w.run) (ahead_then (ahead_char r.sign) (ahead_then (ahead_run r.line.run) (ahead_run w'.run)))

pub ahead_fields : {u v : Place} {fs : List FieldReading} → Fields longest u fs v → Ahead u v
ahead_fields (fields.none w) = ahead_run w.run
ahead_fields (fields.last f g) = ahead_then (ahead_field f) (ahead_gap g)
ahead_fields (fields.more f g s h rest) =
    ahead_then (ahead_field f)
    (ahead_then (ahead_gap g) (ahead_then (ahead_char s) (ahead_then (ahead_gap h) (ahead_fields rest))))

-- an error in the text of a place ahead is an error in the text of the earlier place, with `Q` if `P` implies it
pub refuses_from : {u v : Place} {e : ParseError} (P Q : Type 0) → Ahead u v → (P → Q) → Refuses v.text e P → Refuses u.text e Q
refuses_from P Q ahead implies (inl memory) = inl memory
refuses_from P Q ahead implies (inr error) = inr (error_back ahead error.0, implies error.1)
