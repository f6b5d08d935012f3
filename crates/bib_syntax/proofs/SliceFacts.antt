-- Each part of a raw reading is the text in its span.
use Rattle.std.proofs.Common.{◌≡◌, ℕ, Bool, ◌-◌, ◌≤◌, List, [], length, drop, sym, ap, ◌∙◌, subst, arith}
use Rattle.std.specs.Prelude.{min}
use Rattle.std.proofs.lemmas.List.{length-take, length-drop}
use Rattle.std.specs.List.{AllByRecursion}
use Rattle.bib_text.specs.Places.{Place, place, Run, between}
use Rattle.bib_text.specs.Places.Run.{stop, step}
use Rattle.bib_text.proofs.BraceFacts.{ahead_parts}
use Rattle.bib_text.proofs.PlaceFacts.{Ahead, ahead_then, ahead_char, ahead_run, char_within, before_char}
use Rattle.bib_syntax.specs.Reading.{Part, part, Piece, FieldReading, FileReading, then}
use Rattle.bib_syntax.specs.Grammar.{BlockKind, Body, Block, Braced, Element, Elements, Field, Fields, File, Identifier, Number, Quoted, longest}
use Rattle.bib_syntax.specs.Grammar.{Body as body}
use Rattle.bib_syntax.specs.Grammar.{Element as element}
use Rattle.bib_syntax.specs.Grammar.{Elements as elements}
use Rattle.bib_syntax.specs.Grammar.{Fields as fields}
use Rattle.bib_syntax.specs.Grammar.{File as file}
use Rattle.bib_syntax.specs.Grammar.Number.{whole, broken}
use Rattle.bib_syntax.specs.Slices.{StandsIn, PieceStandsIn, FieldStandsIn, EntryStandsIn, ReadingStandsIn}
use Rattle.bib_syntax.proofs.FieldFacts.{ahead_fields, ahead_element, ahead_field, ahead_gap, ahead_identifier, ahead_quoted_parts}
use Rattle.bib_syntax.proofs.WordFacts.{ahead_number}
use Rattle.bib_syntax.proofs.FileFacts.{ahead_block, ahead_head, ahead_line_comment}
use Rattle.bib_text.proofs.ListFacts.{all_append}

within_run : {test : ℕ → Bool} {u v : Place} → u.at ≤ length u.text → Run test u v → v.at ≤ length v.text
within_run start stop = start
within_run start (step char passes rest) = within_run (char_within char) rest

-- the part from a place to a place ahead is the text in its span
part_stands : {u v : Place} (text : List ℕ) → u.text ≡ text → Ahead u v → v.at ≤ length text → StandsIn text (part u v)
part_stands {u} {v} text same ahead within =
    let rest : length (drop u.at u.text) ≡ length text - u.at = length-drop u.at u.text ∙ ap (λ t. length t - u.at) same in
    let size : length (between u v) ≡ min (v.at - u.at) (length (drop u.at u.text)) = length-take (v.at - u.at) (drop u.at u.text) in
    let forward : u.at ≤ v.at = ahead.at in
    record {
      bytes = ap (λ t. between (place t u.at) (place t v.at)) same;
      size = omega (arith, rest, size, forward, within);
      within = within;
    }

-- ---- the rules, one after another

number_stands : {u v : Place} (text : List ℕ) → u.text ≡ text → Number longest u v → StandsIn text (part u v)
number_stands text same (whole first digit rest ends) =
    let number : Number longest _ _ = whole first digit rest ends in
    let end = within_run (char_within first) rest.run in
    let there = ap length ((ahead_number number).text ∙ same) in
    part_stands text same (ahead_number number) (omega (arith, end, there))
number_stands text same (broken first digit rest point more ends) =
    let number : Number longest _ _ = broken first digit rest point more ends in
    let end = within_run (char_within point) more.run in
    let there = ap length ((ahead_number number).text ∙ same) in
    part_stands text same (ahead_number number) (omega (arith, end, there))

identifier_stands : {u v : Place} {p : Part} (text : List ℕ) → u.text ≡ text → Identifier longest u p v → StandsIn text p
identifier_stands text same i =
    let end = within_run (char_within i.here) i.rest.run in
    let there = ap length ((ahead_identifier i).text ∙ same) in
    subst (λ p. StandsIn text p) (sym i.reading) (part_stands text same (ahead_identifier i) (omega (arith, end, there)))

quoted_stands : {u v : Place} {p : Part} (text : List ℕ) → u.text ≡ text → Quoted u p v → StandsIn text p
quoted_stands text same q =
    let inside = q.opens.same ∙ same in
    let size = ap length inside in
    let end = before_char (ahead_quoted_parts q.parts) q.closes in
    subst (λ p. StandsIn text p) (sym q.reading) (part_stands text inside (ahead_quoted_parts q.parts) (omega (arith, end, size)))

braced_stands : {u v : Place} {p : Part} (text : List ℕ) → u.text ≡ text → Braced u p v → StandsIn text p
braced_stands text same b =
    let inside = b.opens.same ∙ same in
    let size = ap length inside in
    let end = before_char (ahead_parts b.parts) b.closes in
    subst (λ p. StandsIn text p) (sym b.reading) (part_stands text inside (ahead_parts b.parts) (omega (arith, end, size)))

element_stands : {u v : Place} {e : Piece} (text : List ℕ) → u.text ≡ text → Element longest u e v → PieceStandsIn text e
element_stands text same (element.number n) = number_stands text same n
element_stands text same (element.named none i) = identifier_stands text same i
element_stands text same (element.braced b) = braced_stands text same b
element_stands text same (element.quoted q) = quoted_stands text same q

elements_stand : {u v : Place} {es : List Piece} (text : List ℕ) → u.text ≡ text → Elements longest u es v
    → AllByRecursion (PieceStandsIn text) es
elements_stand text same (elements.last e w ends) = (element_stands text same e, tt)
elements_stand text same (elements.more e w sign w' rest) =
    let next = ahead_then (ahead_element e) (ahead_then (ahead_run w.run) (ahead_then (ahead_char sign) (ahead_run w'.run))) in
    (element_stands text same e, elements_stand text (next.text ∙ same) rest)

field_stands : {u v : Place} {f : FieldReading} (text : List ℕ) → u.text ≡ text → Field longest u f v → FieldStandsIn text f
field_stands text same f =
    let value =
    ahead_then (ahead_identifier f.name)
    (ahead_then (ahead_run f.white.run) (ahead_then (ahead_char f.sign) (ahead_run f.white'.run))) in
    record { name = identifier_stands text same f.name; pieces = elements_stand text (value.text ∙ same) f.elements }

fields_stand : {u v : Place} {fs : List FieldReading} (text : List ℕ) → u.text ≡ text → Fields longest u fs v
    → AllByRecursion (FieldStandsIn text) fs
fields_stand text same (fields.none w) = tt
fields_stand text same (fields.last f g) = (field_stands text same f, tt)
fields_stand text same (fields.more f g sign h rest) =
    let next = ahead_then (ahead_field f) (ahead_then (ahead_gap g) (ahead_then (ahead_char sign) (ahead_gap h))) in
    (field_stands text same f, fields_stand text (next.text ∙ same) rest)

-- in a reading with only a preamble, each part is the text in its span, because it has no parts
nothing_stands : (text : List ℕ) (preamble : List ℕ)
    → ReadingStandsIn text (record { preamble = preamble; entries = []; abbreviations = [] })
nothing_stands text preamble = record { entries = tt; abbreviations = tt }

body_stands : {start u v : Place} {p : Part} {k : BlockKind} {r : FileReading} (text : List ℕ) → u.text ≡ text
    → start.at ≤ u.at → StandsIn text p → Body longest start p k u r v → ReadingStandsIn text r
body_stands text same before kind (body.comment a inside close) = nothing_stands text []
body_stands text same before kind (body.preamble quoted white close is_close) = nothing_stands text _
body_stands text same before kind (body.strings fs close) = record { entries = tt; abbreviations = fields_stand text same fs }
body_stands {start} {u} text same before kind (body.entry {z = z} a key white comma gap fs close) =
    let list = ahead_then (ahead_run key.run) (ahead_then (ahead_run white.run) (ahead_then (ahead_char comma) (ahead_gap gap))) in
    let size = ap length same in
    let spaced = ahead_run white.run in
    let comma_within = before_char spaced comma in
    let key_text = ap length ((ahead_run key.run).text ∙ same) in
    let end = before_char (ahead_then list (ahead_fields fs)) close in
    let forward = (ahead_then list (ahead_fields fs)).at in
    record {
      entries = (
        record {
          ordered = omega (arith, before, forward);
          within = omega (arith, end, size);
          key = part_stands text same (ahead_run key.run) (omega (arith, comma_within, spaced.at, key_text));
          kind = kind;
          fields = fields_stand text (list.text ∙ same) fs;
        },
        tt,
      );
      abbreviations = tt;
    }

block_stands : {u v : Place} {r : FileReading} (text : List ℕ) → u.text ≡ text → Block longest u r v → ReadingStandsIn text r
block_stands text same b =
    let head = ahead_head b.head in
    let kind = identifier_stands text (b.head.sign.same ∙ same) b.head.name in
    body_stands text (head.text ∙ same) head.at kind b.body

then_stands : (text : List ℕ) (first rest : FileReading) → ReadingStandsIn text first → ReadingStandsIn text rest
    → ReadingStandsIn text (then first rest)
then_stands text first rest one more = record {
  entries = all_append (EntryStandsIn text) first.entries rest.entries one.entries more.entries;
  abbreviations = all_append (FieldStandsIn text) first.abbreviations rest.abbreviations one.abbreviations more.abbreviations;
}

-- each part of the raw reading of a file is the text in its span
pub file_stands : {u : Place} {says : FileReading} (text : List ℕ) → u.text ≡ text → File longest u says → ReadingStandsIn text says
file_stands text same (file.end end) = nothing_stands text []
file_stands text same (file.skipped char passes rest) = file_stands text (char.same ∙ same) rest
file_stands text same (file.line_comment line_comment rest) = file_stands text ((ahead_line_comment line_comment).text ∙ same) rest
file_stands text same (file.block {first = first} {rest = rest} b more) =
    then_stands text first rest (block_stands text same b) (file_stands text ((ahead_block b).text ∙ same) more)
