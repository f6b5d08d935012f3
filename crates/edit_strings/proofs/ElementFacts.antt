-- Pieces of a file: each of them parses in the same way wherever its bytes are written before a character that can end a piece.
use Rattle.std.proofs.Common.{◌≡◌, ℕ, ◌+◌, ◌-◌, ◌≤◌, List, [], ◌∷◌, ◌++◌, length, map, codes, refl, sym, ap, ◌∙◌, subst, arith, append-nil}
use Rattle.std.specs.Prelude.{◌==◌}
use Rattle.std.specs.Char.{is_whitespace}
use Rattle.std.specs.List.{AllByRecursion}
use Rattle.bib_text.specs.Places.{Place, Stops, Longest, between}
use Rattle.bib_text.specs.Places.Run.{stop, step}
use Rattle.bib_text.proofs.PlaceFacts.{ahead_then, ahead_char, ahead_run, stops_at}
use Rattle.bib_syntax.specs.Reading.{Piece, FieldReading, FileReading}
use Rattle.bib_syntax.specs.Grammar.{Body, Element, Elements, Field, Fields, File, longest}
use Rattle.bib_syntax.specs.Grammar.{Elements as elements}
use Rattle.bib_syntax.specs.Grammar.{Fields as fields}
use Rattle.bib_syntax.specs.Grammar.{Body as body}
use Rattle.bib_syntax.specs.Grammar.{File as file}
use Rattle.bib_syntax.proofs.FieldFacts.{ahead_element, ahead_elements, ahead_field, ahead_fields, ahead_gap, ahead_identifier}
use Rattle.bib_syntax.proofs.FileFacts.{ahead_block, ahead_head, ahead_line_comment}
use Rattle.edit_entries.specs.Edits.{moved_piece}
use Rattle.edit_entries.proofs.MovedFacts.{body_within}
use Rattle.edit_entries.proofs.ValueFacts.{elements_opens}
use Rattle.edit_entries.specs.Cuts.{IsPieceCut}
use Rattle.edit_format.specs.Delimited.{piece_as_written}
use Rattle.edit_format.specs.Formatted.{value_laid_out}
use Rattle.edit_format.specs.declared.style.Delimiters.TheVariants.{Keep}
use Rattle.edit_entries.proofs.CutFacts.{element_cut}
use Rattle.edit_entries.proofs.ElementFacts.{Ending, NotOpened}
use Rattle.edit_entries.proofs.StandsFacts.{Stands, ascii, first_part, last_part}
use Rattle.edit_format.proofs.ValueFacts.{not_opened_run, not_opened_sign}
use Rattle.edit_strings.specs.Expanded.{elements as elements_of, laid_out}
use Rattle.edit_entries.proofs.ElementStandsFacts.{element_stands}
use Rattle.edit_strings.proofs.StandingFacts.{element_written}
use Rattle.edit_entries.proofs.NewValueFacts.{AreRead, CanBeRead}
use Rattle.edit_entries.proofs.NewFieldFacts.{piece_placeless}
use Rattle.bib_text.proofs.ListFacts.{all_append}

-- a piece occurs somewhere in a text, and neither an opening brace nor a quote is directly before it
pub record IsElement (text : List ℕ) (e : Piece) : Type 0 where
  pub start : Place
  pub end : Place
  pub same : start.text ≡ text
  pub within : end.at ≤ length start.text
  pub stands : Element longest start e end
  pub opened : NotOpened start

-- ---- literals begin at character boundaries

pub is_cut : (text : List ℕ) (e : Piece) → IsElement text e → IsPieceCut text e
is_cut text e x = element_cut text x.same x.stands

-- ---- pieces that are laid out parse

-- the text of some pieces with the separator before each of them
abbrev laid_out_more : List ℕ → List Piece → List ℕ
laid_out_more text es = value_laid_out (codes " # ") (codes " # ") (map (piece_as_written Keep text) es)

-- a piece of a text parses wherever its bytes occur before an ending
element_read : (text : List ℕ) (e : Piece) {u v : Place} → IsElement text e → Stands u (piece_as_written Keep text e) v
    → Ending v → (e' : Piece) × Element longest u e' v × (moved_piece (λ n. 0) e' ≡ moved_piece (λ n. 0) e)
element_read text e {u} {v} x s ending =
    let written : piece_as_written Keep text e ≡ between x.start x.end =
    ap (λ t. piece_as_written Keep t e) (sym x.same) ∙ element_written x.stands x.opened in
    let move = λ (n : ℕ). n - x.start.at + u.at in
    (moved_piece move e, element_stands x.stands x.within (subst (λ t. Stands u t v) written s) ending, piece_placeless move e)

pub elements_read : (text : List ℕ) (e : Piece) (es : List Piece) (u v w : Place) → IsElement text e
    → AllByRecursion (IsElement text) es → Stands u (piece_as_written Keep text e ++ laid_out_more text es) v → Ending v
    → Longest is_whitespace v w → Stops (λ c. c == 35) w → AreRead (e ∷ es) u w
elements_read text e [] u v w x all s ending over no_hash =
    let here = element_read text e x (subst (λ t. Stands u t v) (append-nil (piece_as_written Keep text e)) s) ending in
    record { reading = here.0 ∷ []; elements = elements.last here.1 over no_hash; alike = ap (λ p. p ∷ []) here.2 }
elements_read text e (f ∷ es) u v w x all s ending over no_hash =
    let written : List ℕ = piece_as_written Keep text e in
    let rest : List ℕ = piece_as_written Keep text f ++ laid_out_more text es in
    let first = first_part written (codes " # " ++ rest) s in
    let s1 = last_part written (codes " # " ++ rest) s in
    let space = ascii 32 (omega arith) (first_part (32 ∷ []) (35 ∷ 32 ∷ rest) s1) in
    let s2 = last_part (32 ∷ []) (35 ∷ 32 ∷ rest) s1 in
    let sign = ascii 35 (omega arith) (first_part (35 ∷ []) (32 ∷ rest) s2) in
    let s3 = last_part (35 ∷ []) (32 ∷ rest) s2 in
    let space' = ascii 32 (omega arith) (first_part (32 ∷ []) rest s3) in
    let s4 = last_part (32 ∷ []) rest s3 in
    let others = elements_read text f es _ v w all.0 all.1 s4 ending over no_hash in
    let here =
    element_read text e x first
    (record { char = 32; next = _; here = space; no_name = refl; no_digit = refl; no_point = refl }) in
    let opens = elements_opens others.elements in
    record {
      reading = here.0 ∷ others.reading;
      elements =
          elements.more here.1 (record { run = step space refl stop; stops = stops_at is_whitespace sign refl }) sign
          (record { run = step space' refl stop; stops = stops_at is_whitespace opens.here opens.dark })
          others.elements;
      alike = ap (λ p. p ∷ map (moved_piece (λ n. 0)) others.reading) here.2 ∙ ap (λ ps. moved_piece (λ n. 0) e ∷ ps) others.alike;
    }

-- a list of pieces isn't empty
abbrev pub IsSome : List Piece → Type 0
IsSome [] = ⊥
IsSome (e ∷ es) = Unit {0}

pub can_be_read : (text : List ℕ) (es : List Piece) → IsSome es → AllByRecursion (IsElement text) es
    → CanBeRead (record { bytes = laid_out text es; pieces = es })
can_be_read text [] some all = absurd some
can_be_read text (e ∷ es) some all = λ u v w s ending over no_hash. elements_read text e es u v w all.0 all.1 s ending over no_hash

-- ---- the pieces of a file

-- the value of a field has at least one piece, and all its pieces occur in a text
pub record IsValue (text : List ℕ) (f : FieldReading) : Type 0 where
  pub some : IsSome (elements_of f)
  pub all : AllByRecursion (IsElement text) (elements_of f)

elements_stand : (text : List ℕ) {u v : Place} {es : List Piece} → u.text ≡ text → v.at ≤ length text → NotOpened u
    → Elements longest u es v → AllByRecursion (IsElement text) es
elements_stand text {u} same within opened (elements.last {v = end} e white ends) = (
  record {
    start = u;
    end = end;
    same = same;
    within = omega (arith, (ahead_run white.run).at, within, ap length same);
    stands = e;
    opened = opened;
  },
  _,
)
elements_stand text {u} {v} same within opened (elements.more {v = end} {y = next} e white sign white' rest) =
    let past = ahead_then (ahead_run white.run) (ahead_then (ahead_char sign) (ahead_run white'.run)) in
    let opened' : NotOpened next =
    not_opened_run (not_opened_sign 35 (omega arith) (λ clash. omega arith) (λ clash. omega arith) sign) white'.run in (
      record {
        start = u;
        end = end;
        same = same;
        within = omega (arith, past.at, (ahead_elements rest).at, within, ap length same);
        stands = e;
        opened = opened;
      },
      elements_stand text (past.text ∙ (ahead_element e).text ∙ same) within opened' rest,
    )

elements_some : {u v : Place} {es : List Piece} → Elements longest u es v → IsSome es
elements_some (elements.last e white ends) = _
elements_some (elements.more e white sign white' rest) = _

field_stands : (text : List ℕ) {u v : Place} {f : FieldReading} → u.text ≡ text → v.at ≤ length text → Field longest u f v → IsValue text f
field_stands text same within field =
    let to_value =
    ahead_then (ahead_identifier field.name)
    (ahead_then (ahead_run field.white.run) (ahead_then (ahead_char field.sign) (ahead_run field.white'.run))) in
    let opened =
    not_opened_run (not_opened_sign 61 (omega arith) (λ clash. omega arith) (λ clash. omega arith) field.sign)
    field.white'.run in
    record { some = elements_some field.elements; all = elements_stand text (to_value.text ∙ same) within opened field.elements }

pub fields_stand : (text : List ℕ) {u v : Place} {fs : List FieldReading} → u.text ≡ text → v.at ≤ length text
    → Fields longest u fs v → AllByRecursion (IsValue text) fs
fields_stand text same within (fields.none white) = _
fields_stand text same within (fields.last field g) = (field_stands text same (omega (arith, (ahead_gap g).at, within)) field, _)
fields_stand text same within (fields.more field g comma g' rest) =
    let past = ahead_then (ahead_gap g) (ahead_then (ahead_char comma) (ahead_gap g')) in (
      field_stands text same (omega (arith, past.at, (ahead_fields rest).at, within)) field,
      fields_stand text (past.text ∙ (ahead_field field).text ∙ same) within rest,
    )

-- the values of the definitions and of the entries of a file are values of a text
pub record AreValues (text : List ℕ) (says : FileReading) : Type 0 where
  pub definitions : AllByRecursion (IsValue text) says.abbreviations
  pub entries : AllByRecursion (λ e. AllByRecursion (IsValue text) e.fields) says.entries

body_stands : (text : List ℕ) {start u v : Place} {kind : _} {k : _} {says : FileReading} → u.text ≡ text
    → v.at ≤ length text → Body longest start kind k u says v → AreValues text says
body_stands text same within (body.comment brace chars closes) = record { definitions = _; entries = _ }
body_stands text same within (body.preamble quoted white closes is_brace) = record { definitions = _; entries = _ }
body_stands text same within (body.strings fs closes) = record {
  definitions = fields_stand text same (omega (arith, (ahead_char closes).at, within)) fs;
  entries = _;
}
body_stands text same within (body.entry key_end key white comma gap list closes) =
    let to_fields = ahead_then (ahead_run key.run) (ahead_then (ahead_run white.run) (ahead_then (ahead_char comma) (ahead_gap gap))) in
    record {
      definitions = _;
      entries = (fields_stand text (to_fields.text ∙ same) (omega (arith, (ahead_char closes).at, within)) list, _);
    }

pub file_stands : (text : List ℕ) {u : Place} {says : FileReading} → u.text ≡ text → File longest u says → AreValues text says
file_stands text same (file.end end) = record { definitions = _; entries = _ }
file_stands text same (file.skipped char passes x) = file_stands text (char.same ∙ same) x
file_stands text same (file.line_comment m x) = file_stands text ((ahead_line_comment m).text ∙ same) x
file_stands text same (file.block {v = v} {first = first} {rest = rest} b x) =
    let to_end = ahead_block b in
    let within : v.at ≤ length text = omega (arith, body_within b.body, ap length (to_end.text ∙ same)) in
    let here = body_stands text ((ahead_head b.head).text ∙ same) within b.body in
    let others = file_stands text (to_end.text ∙ same) x in
    record {
      definitions = all_append (IsValue text) first.abbreviations rest.abbreviations here.definitions others.definitions;
      entries = all_append (λ e. AllByRecursion (IsValue text) e.fields) first.entries rest.entries here.entries others.entries;
    }
