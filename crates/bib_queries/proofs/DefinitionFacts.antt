-- The byte offsets of definitions in a text.
use Rattle.std.proofs.Common.{◌≡◌, ◌≤◌, ℕ, Bool, false, List, refl, sym, ap, subst, ◌∙◌, arith}
use Rattle.std.specs.List.{AllByRecursion}
use Rattle.std.specs.Str.{IsUtf8, IsCharBoundary}
use Rattle.bib_text.specs.Places.{Place, place, CharAt, Run}
use Rattle.bib_text.specs.Places.Run.{stop, step}
use Rattle.bib_text.proofs.BraceFacts.{ahead_parts}
use Rattle.bib_text.proofs.PlaceFacts.{ahead_run, boundary_following, same_place}
use Rattle.bib_syntax.specs.Grammar.{BlockKind, Body, Element, Elements, Field, Fields, Identifier, Number, longest}
use Rattle.bib_syntax.specs.Grammar.{Body as body}
use Rattle.bib_syntax.specs.Grammar.{Element as element}
use Rattle.bib_syntax.specs.Grammar.{Elements as elements}
use Rattle.bib_syntax.specs.Grammar.{Fields as fields}
use Rattle.bib_syntax.specs.Grammar.Number.{whole, broken}
use Rattle.bib_syntax.specs.Reading.{FieldReading, FileReading, Part, Piece}
use Rattle.bib_syntax.specs.Recovery.{Recovered}
use Rattle.bib_syntax.specs.Recovery.{Keeps as keep}
use Rattle.bib_syntax.specs.Recovery.{Recovered as recovered}
use Rattle.bib_syntax.specs.declared.raw.recovery.SkippedBlock.{SkippedBlock}
use Rattle.bib_syntax.proofs.FieldFacts.{ahead_field, ahead_gap, ahead_quoted_parts}
use Rattle.bib_syntax.proofs.FileFacts.{ahead_block, ahead_head, ahead_line_comment}
use Rattle.bib_syntax.proofs.KeptFacts.{ahead_passed}
use Rattle.bib_queries.specs.Standing.{IsFieldIn}
use Rattle.bib_text.proofs.ListFacts.{all_append}
use Rattle.bib_text.proofs.BoundaryFacts.{char_boundary}

-- ---- a text may be cut before and after a character, and after a part of a field

-- whether a text may be cut at a place of it
abbrev Cut : List ℕ → Place → Type 0
Cut text u = (u.text ≡ text) × IsCharBoundary text u.at

cut_before : {u v : Place} {c : ℕ} (text : List ℕ) → u.text ≡ text → CharAt u c v → Cut text u
cut_before {u} text same char = (same, subst (λ t. IsCharBoundary t u.at) same (char_boundary char))

cut_after : {u v : Place} {c : ℕ} (text : List ℕ) → IsUtf8 text → u.text ≡ text → CharAt u c v → Cut text v
cut_after {u} {v} text utf8 same char = (
  char.same ∙ same,
  subst (λ t. IsCharBoundary t v.at) same
      (boundary_following (subst (λ t. IsUtf8 t) (sym same) utf8) (char_boundary char) char),
)

cut_run : {test : ℕ → Bool} {u v : Place} (text : List ℕ) → IsUtf8 text → Cut text u → Run test u v → Cut text v
cut_run text utf8 cut stop = cut
cut_run text utf8 cut (step char passes rest) = cut_run text utf8 (cut_after text utf8 cut.0 char) rest

cut_identifier : {u v : Place} {p : Part} (text : List ℕ) → IsUtf8 text → u.text ≡ text → Identifier longest u p v → Cut text v
cut_identifier text utf8 same i = cut_run text utf8 (cut_after text utf8 same i.here) i.rest.run

cut_number : {u v : Place} (text : List ℕ) → IsUtf8 text → u.text ≡ text → Number longest u v → Cut text v
cut_number text utf8 same (whole first digit rest ends) = cut_run text utf8 (cut_after text utf8 same first) rest.run
cut_number text utf8 same (broken first digit rest point more ends) =
    cut_run text utf8 (cut_after text utf8 (cut_run text utf8 (cut_after text utf8 same first) rest.run).0 point) more.run

cut_element : {u v : Place} {e : Piece} (text : List ℕ) → IsUtf8 text → u.text ≡ text → Element longest u e v → Cut text v
cut_element text utf8 same (element.number n) = cut_number text utf8 same n
cut_element text utf8 same (element.named none i) = cut_identifier text utf8 same i
cut_element text utf8 same (element.braced b) = cut_after text utf8 ((ahead_parts b.parts).text ∙ (b.opens.same ∙ same)) b.closes
cut_element text utf8 same (element.quoted q) = cut_after text utf8 ((ahead_quoted_parts q.parts).text ∙ (q.opens.same ∙ same)) q.closes

cut_elements : {u v : Place} {es : List Piece} (text : List ℕ) → IsUtf8 text → u.text ≡ text → Elements longest u es v → Cut text v
cut_elements text utf8 same (elements.last e w ends) = cut_run text utf8 (cut_element text utf8 same e) w.run
cut_elements text utf8 same (elements.more e w s w' rest) =
    cut_elements text utf8 ((ahead_run w'.run).text ∙ (s.same ∙ (cut_run text utf8 (cut_element text utf8 same e) w.run).0)) rest

-- whether the source text of a definition may be cut out of its text
pub record IsCutOut (text : List ℕ) (f : FieldReading) : Type 0 where
  pub ordered : f.name.start ≤ f.value.end
  pub start : IsCharBoundary text f.name.start
  pub end : IsCharBoundary text f.value.end

-- if a field is at its offset in a UTF-8 text, its source text may be cut out
pub cut_out : (text : List ℕ) (f : FieldReading) → IsUtf8 text → IsFieldIn text f → IsCutOut text f
cut_out text f utf8 stands =
    let field = stands.1 in
    let ahead = ahead_field field in
    let before =
    (ahead_run field.white'.run).text
    ∙ (field.sign.same ∙ ((ahead_run field.white.run).text ∙ (cut_identifier text utf8 refl field.name).0)) in
    record {
      ordered = omega (arith, ahead.at, field.ends);
      start = char_boundary field.name.here;
      end = subst (λ n. IsCharBoundary text n) (sym field.ends) (cut_elements text utf8 before field.elements).1;
    }

-- ---- each definition that is parsed is at its offset in the text

field_in : {u v : Place} {f : FieldReading} (text : List ℕ) → u.text ≡ text → Field longest u f v → IsFieldIn text f
field_in {u} {v} {f} text same field = (
  v,
  subst (λ p. Field longest p f v)
      (same_place {u = u} {v = place text f.name.start} same (sym (ap (λ p. p.start) field.name.reading))) field,
)

fields_in : {u v : Place} {fs : List FieldReading} (text : List ℕ) → u.text ≡ text → Fields longest u fs v
    → AllByRecursion (IsFieldIn text) fs
fields_in text same (fields.none w) = _
fields_in text same (fields.last f g) = (field_in text same f, _)
fields_in text same (fields.more f g s h rest) =
    (field_in text same f, fields_in text ((ahead_gap h).text ∙ (s.same ∙ ((ahead_gap g).text ∙ ((ahead_field f).text ∙ same)))) rest)

in_body : {start u v : Place} {p : Part} {k : BlockKind} {says : FileReading} (text : List ℕ) → u.text ≡ text
    → Body longest start p k u says v → AllByRecursion (IsFieldIn text) says.abbreviations
in_body text same (body.comment v inside close) = _
in_body text same (body.preamble quoted white close is_close) = _
in_body text same (body.strings fs close) = fields_in text same fs
in_body text same (body.entry v key white comma gap fs close) = _

-- each definition that is recovered from a text is at its offset in the text
pub definitions_stand : {u : Place} {says : FileReading} {errors : List SkippedBlock} (text : List ℕ) → u.text ≡ text
    → Recovered false u says errors → AllByRecursion (IsFieldIn text) says.abbreviations
definitions_stand text same (recovered.end end) = _
definitions_stand text same (recovered.skipped char passes x) = definitions_stand text (char.same ∙ same) x
definitions_stand text same (recovered.line_comment m x) = definitions_stand text ((ahead_line_comment m).text ∙ same) x
definitions_stand text same (recovered.block {first = first} {rest = rest} b x) =
    all_append (IsFieldIn text) first.abbreviations rest.abbreviations
    (in_body text ((ahead_head b.head).text ∙ same) b.body) (definitions_stand text ((ahead_block b).text ∙ same) x)
definitions_stand text same (recovered.unread sign none on keep.nothing x) =
    definitions_stand text ((ahead_passed on.passed).text ∙ (sign.same ∙ same)) x
