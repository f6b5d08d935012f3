-- The line that defines a name, and such lines before a text, parsed by the file grammar.
use Rattle.std.proofs.Common.{◌≡◌, inr, ℕ, ◌+◌, ◌-◌, ◌<◌, Bool, true, false, cond, List, [], ◌∷◌, ◌++◌, length, take, drop, codes, refl, sym, ap, ◌∙◌, subst, arith, append_assoc, length-append}
use Rattle.std.specs.Prelude.{◌==◌, is_some}
use Rattle.std.specs.Char.{is_whitespace}
use Rattle.std.specs.List.{AllByRecursion}
use Rattle.std.proofs.lemmas.List.{take_at}
use Rattle.bib_text.specs.Braces.{IsParts}
use Rattle.bib_text.specs.Places.{place, CharAt, Run, Longest, between}
use Rattle.bib_text.specs.Places.Run.{stop, step}
use Rattle.bib_text.proofs.PlaceFacts.{ahead_char, ahead_run, stops_at, one_white}
use Rattle.bib_syntax.specs.Characters.{is_id_continue}
use Rattle.bib_syntax.specs.Reading.{Part, FieldReading, FileReading, empty_reading}
use Rattle.bib_syntax.specs.Reading.Piece.{literal}
use Rattle.bib_syntax.specs.Grammar.{Block, Element, Elements, Field, Fields, File, Gap, Head, Identifier, IsRawReading, longest}
use Rattle.bib_syntax.specs.Grammar.{Body as body}
use Rattle.bib_syntax.specs.Grammar.{File as file}
use Rattle.bib_syntax.proofs.LawFacts.{start_not_white}
use Rattle.edit_entries.specs.Documents.{CanBeName, Document, IsDocument, in_braces, text_at}
use Rattle.edit_entries.specs.Edits.{moved_field}
use Rattle.edit_entries.proofs.EditFacts.{ascii_stands, piece_frame, rest_stands, text_stands, zone_piece}
use Rattle.edit_entries.proofs.JoinedFacts.{joined_by, joined_by_read}
use Rattle.edit_entries.proofs.ValueFacts.{braced_stands}
use Rattle.edit_entries.proofs.ZoneFacts.{Inside, char_there, inside_between, run_there}
use Rattle.edit_strings.specs.Collected.{string_line, definition_lines, known_name, line_reading, line_readings}
use Rattle.edit_entries.specs.Changes.{IsReadPlaceless}
use Rattle.edit_entries.proofs.PlacelessFacts.{file_placeless}

-- ---- the parts of a line

-- a name before a space parses as an identifier
name_stands : (whole rest name : List ℕ) (at : ℕ) → CanBeName name → drop at whole ≡ name ++ (32 ∷ rest)
    → Identifier longest (place whole at) (text_at at name) (place whole (at + length name))
name_stands whole rest name at can here =
    let following : CharAt (place whole (at + length name)) 32 (place whole (at + length name + 1)) =
    ascii_stands whole rest (at + length name) 32 (omega arith) (text_stands whole name (32 ∷ rest) at here) in
    let z = zone_piece name whole (32 ∷ rest) at here (inr (32, place whole (at + length name + 1), following)) in
    let i = can.1 in
    let first : Inside (piece_frame name whole at) (place name 0) =
    record { text = refl; start = omega arith; end = omega arith; moved = omega arith } in
    let last : Inside (piece_frame name whole at) (place name (length name)) =
    record { text = refl; start = omega arith; end = omega arith; moved = omega arith } in
    let second = inside_between z first last (ahead_char i.here) (ahead_run i.rest.run) in
    let from : 0 + at ≡ at = omega arith in
    let to : length name + at ≡ at + length name = omega arith in
    let rest_run : Run is_id_continue (place whole (i.second.at + at)) (place whole (at + length name)) =
    subst (λ n. Run is_id_continue (place whole (i.second.at + at)) (place whole n)) to
    (run_there z second last i.rest.run) in
    let bytes : between (place whole at) (place whole (at + length name)) ≡ name =
    let size : at + length name - at ≡ length name = omega arith in
    ap (λ n. take n (drop at whole)) size ∙ ap (take (length name)) here ∙ take_at name (32 ∷ rest) (length name) refl in
    record {
      second = place whole (i.second.at + at);
      first = i.first;
      here = subst (λ n. CharAt (place whole n) i.first (place whole (i.second.at + at))) from (char_there z first second i.here);
      starts = i.starts;
      rest = record { run = rest_run; stops = stops_at is_id_continue following refl };
      reading = ap (λ t. let p : Part = record { text = t; start = at; end = at + length name } in p) (sym bytes);
    }

-- ---- a line

-- the carriage return between the closing brace of a line and its line feed, if the line end has one
abbrev return_if : Bool → List ℕ
return_if b = cond b (13 ∷ []) []

-- a line end, with a carriage return or not
abbrev pub line_end_by : Bool → List ℕ
line_end_by b = cond b (13 ∷ 10 ∷ []) (10 ∷ [])

-- a line without its line feed
abbrev line_text : Bool → List ℕ → List ℕ → List ℕ
line_text b name text = codes "@string{" ++ (name ++ (codes " = " ++ (in_braces text ++ (125 ∷ return_if b))))

-- the definition that a line parses to
abbrev line_field : List ℕ → List ℕ → FieldReading
line_field name text =
    let start : ℕ = 8 + length name + 3 in
    record {
      name = text_at 8 name;
      value = record {
        pieces = literal (text_at (start + 1) text) ∷ [];
        start = start;
        end = start + length (in_braces text);
      };
    }

abbrev line_says : List ℕ → List ℕ → FileReading
line_says name text = record { preamble = []; entries = []; abbreviations = line_field name text ∷ [] }

abbrev line_document : Bool → List ℕ → List ℕ → Document
line_document b name text = record { text = line_text b name text; says = line_says name text }

-- the text after the closing brace of a line has an empty reading
return_read : (whole : List ℕ) (b : Bool) (at : ℕ) → drop at whole ≡ return_if b → at + length (return_if b) ≡ length whole
    → File longest (place whole at) empty_reading
return_read whole false at here size = file.end (omega (arith, size))
return_read whole true at here size =
    file.skipped (ascii_stands whole [] at 13 (omega arith) here) refl (file.end (omega (arith, size)))

line_read : (b : Bool) (name text : List ℕ) → CanBeName name → IsParts text → IsDocument (line_document b name text)
line_read b name text can_name can_text =
    let whole : List ℕ = line_text b name text in
    let n1 : ℕ = 8 + length name in
    let n2 : ℕ = n1 + 3 in
    let n3 : ℕ = n2 + length (in_braces text) in
    let from_value : List ℕ = in_braces text ++ (125 ∷ return_if b) in
    let from_sign : List ℕ = 61 ∷ 32 ∷ from_value in
    let s3 : drop 8 whole ≡ name ++ (32 ∷ from_sign) = refl in
    let s4 : drop n1 whole ≡ 32 ∷ from_sign = text_stands whole name (32 ∷ from_sign) 8 s3 in
    let s5 : drop (n1 + 1) whole ≡ from_sign = rest_stands whole from_sign n1 32 s4 in
    let s6 : drop (n1 + 1 + 1) whole ≡ 32 ∷ from_value = rest_stands whole (32 ∷ from_value) (n1 + 1) 61 s5 in
    let s7 : drop n2 whole ≡ from_value =
    let sum : n1 + 1 + 1 + 1 ≡ n2 = omega arith in
    ap (λ n. drop n whole) (sym sum) ∙ rest_stands whole from_value (n1 + 1 + 1) 32 s6 in
    let s8 : drop n3 whole ≡ 125 ∷ return_if b = text_stands whole (in_braces text) (125 ∷ return_if b) n2 s7 in
    let space : CharAt (place whole n1) 32 (place whole (n1 + 1)) = ascii_stands whole from_sign n1 32 (omega arith) s4 in
    let sign : CharAt (place whole (n1 + 1)) 61 (place whole (n1 + 1 + 1)) =
    ascii_stands whole (32 ∷ from_value) (n1 + 1) 61 (omega arith) s5 in
    let space' : CharAt (place whole (n1 + 1 + 1)) 32 (place whole n2) =
    let sum : n1 + 1 + 1 + 1 ≡ n2 = omega arith in
    subst (λ n. CharAt (place whole (n1 + 1 + 1)) 32 (place whole n)) sum
    (ascii_stands whole from_value (n1 + 1 + 1) 32 (omega arith) s6) in
    let closes : CharAt (place whole n3) 125 (place whole (n3 + 1)) = ascii_stands whole (return_if b) n3 125 (omega arith) s8 in
    let name_read : Identifier longest (place whole 8) (text_at 8 name) (place whole n1) = name_stands whole from_sign name 8 can_name s3 in
    let braced = braced_stands whole (125 ∷ return_if b) text n2 can_text s7 in
    let none : Longest is_whitespace (place whole n3) (place whole n3) =
    record { run = stop; stops = stops_at is_whitespace closes refl } in
    let field : Field longest (place whole 8) (line_field name text) (place whole n3) = record {
      name_end = place whole n1;
      before_sign = place whole (n1 + 1);
      after_sign = place whole (n1 + 1 + 1);
      value_start = place whole n2;
      name = name_read;
      white = one_white {w = place whole (n1 + 1 + 1)} space sign refl;
      sign = sign;
      white' = one_white {w = braced.inside} space' braced.opens refl;
      elements = Elements.last (Element.braced braced) none (stops_at (λ c. c == 35) closes refl);
      starts = refl;
      ends = refl;
    } in
    let char : (k c : ℕ) → c < 128 → drop k whole ≡ c ∷ drop (k + 1) whole
    → CharAt (place whole k) c (place whole (k + 1)) =
    λ k c small here. ascii_stands whole (drop (k + 1) whole) k c small here in
    let opens : CharAt (place whole 7) 123 (place whole 8) = char 7 123 (omega arith) refl in
    let kind : Part = record { text = codes "string"; start = 1; end = 7 } in
    let head : Head longest (place whole 0) kind (place whole 8) = record {
      name_start = place whole 1;
      name_end = place whole 7;
      before_brace = place whole 7;
      after_brace = place whole 8;
      brace = 123;
      sign = char 0 64 (omega arith) refl;
      name = record {
        second = place whole 2;
        first = 115;
        here = char 1 115 (omega arith) refl;
        starts = refl;
        rest = record {
          run =
              step (char 2 116 (omega arith) refl) refl
              (step (char 3 114 (omega arith) refl) refl
              (step (char 4 105 (omega arith) refl) refl
              (step (char 5 110 (omega arith) refl) refl (step (char 6 103 (omega arith) refl) refl stop))));
          stops = stops_at is_id_continue opens refl;
        };
        reading = refl;
      };
      white = record { run = stop; stops = stops_at is_whitespace opens refl };
      opens = opens;
      is_brace = refl;
      white' = record { run = stop; stops = stops_at is_whitespace name_read.here (start_not_white name_read.first name_read.starts) };
    } in
    let fields : Fields longest (place whole 8) (line_field name text ∷ []) (place whole n3) =
    Fields.last field (Gap.white none (stops_at (λ c. c == 37) closes refl)) in
    let block : Block longest (place whole 0) (line_says name text) (place whole (n3 + 1)) =
    record { inside = place whole 8; kind = kind; head = head; body = body.strings fields closes } in
    let size : n3 + 1 + length (return_if b) ≡ length whole =
    omega (
      arith,
      length-append name (codes " = " ++ (in_braces text ++ (125 ∷ return_if b))),
      length-append (in_braces text) (125 ∷ return_if b),
    ) in
    file.block block (return_read whole b (n3 + 1) (rest_stands whole (return_if b) n3 125 s8) size)

-- ---- lines before a text

-- a reading with these definitions before its own
abbrev pub after_definitions : List FieldReading → FileReading → FileReading
after_definitions definitions says = record says { abbreviations = definitions ++ says.abbreviations }

line_is : (b : Bool) (name text rest : List ℕ) → string_line (line_end_by b) name text ++ rest ≡ line_text b name text ++ 10 ∷ rest
line_is true name text rest = ap (λ t. codes "@string{" ++ t)
    (append_assoc name (codes " = {" ++ (text ++ (125 ∷ 125 ∷ 13 ∷ 10 ∷ []))) rest
    ∙ ap (λ t. name ++ (codes " = {" ++ t))
    (append_assoc text (125 ∷ 125 ∷ 13 ∷ 10 ∷ []) rest ∙ sym (append_assoc text (125 ∷ []) (125 ∷ 13 ∷ 10 ∷ rest))
    ∙ sym (append_assoc (text ++ 125 ∷ []) (125 ∷ 13 ∷ []) (10 ∷ rest)))
    ∙ sym (append_assoc name (codes " = " ++ (in_braces text ++ (125 ∷ 13 ∷ []))) (10 ∷ rest)))
line_is false name text rest = ap (λ t. codes "@string{" ++ t)
    (append_assoc name (codes " = {" ++ (text ++ (125 ∷ 125 ∷ 10 ∷ []))) rest
    ∙ ap (λ t. name ++ (codes " = {" ++ t))
    (append_assoc text (125 ∷ 125 ∷ 10 ∷ []) rest ∙ sym (append_assoc text (125 ∷ []) (125 ∷ 10 ∷ rest))
    ∙ sym (append_assoc (text ++ 125 ∷ []) (125 ∷ []) (10 ∷ rest)))
    ∙ sym (append_assoc name (codes " = " ++ (in_braces text ++ (125 ∷ []))) (10 ∷ rest)))

-- lines before the text of a document
module _ (says : FileReading) (b : Bool) (d : Document) (read : IsDocument d) where
  pub lines_read : (names texts : List (List ℕ)) → AllByRecursion CanBeName names → AllByRecursion IsParts texts
      → IsReadPlaceless (after_definitions (line_readings says names texts) d.says)
      (definition_lines says (line_end_by b) names texts ++ d.text)
  lines_read [] texts can_names can_texts = record { tells = d.says; read = read; alike = refl }
  lines_read (name ∷ names) [] can_names can_texts = record { tells = d.says; read = read; alike = refl }
  lines_read (name ∷ names) (text ∷ texts) can_names can_texts =
      by_case (is_some (known_name says text)) (lines_read names texts can_names.1 can_texts.1)
    where
      by_case : (known : Bool)
          → IsReadPlaceless (after_definitions (line_readings says names texts) d.says)
          (definition_lines says (line_end_by b) names texts ++ d.text)
          → IsReadPlaceless
          (after_definitions (cond known [] (line_reading name text ∷ []) ++ line_readings says names texts) d.says)
          ((cond known [] (string_line (line_end_by b) name text) ++ definition_lines says (line_end_by b) names texts) ++ d.text)
      by_case true others = others
      by_case false others =
          let lines : List ℕ = definition_lines says (line_end_by b) names texts in
          let rest : Document = record { text = lines ++ d.text; says = others.tells } in
          let joined = joined_by_read false (line_document b name text) rest (line_read b name text can_names.0 can_texts.0) others.read in
          let whole : (string_line (line_end_by b) name text ++ lines) ++ d.text ≡ line_text b name text ++ 10 ∷ rest.text =
          append_assoc (string_line (line_end_by b) name text) lines d.text ∙ line_is b name text rest.text in
          let first : FieldReading = moved_field (λ n. 0) (line_field name text) in
          record {
            tells = (joined_by (10 ∷ []) (line_document b name text) rest).says;
            read = subst (λ t. IsRawReading t (joined_by (10 ∷ []) (line_document b name text) rest).says) (sym whole) joined;
            alike =
                ap (after_definitions (first ∷ []))
                (file_placeless (λ n. n + (length (line_text b name text) + 1)) others.tells ∙ others.alike);
          }

  -- the lines and a text that begins with an at sign begin with one
  pub lines_begin : (rest : List ℕ) → d.text ≡ 64 ∷ rest → (names texts : List (List ℕ))
      → (more : List ℕ) × (definition_lines says (line_end_by b) names texts ++ d.text ≡ 64 ∷ more)
  lines_begin rest sign [] texts = (rest, sign)
  lines_begin rest sign (name ∷ names) [] = (rest, sign)
  lines_begin rest sign (name ∷ names) (text ∷ texts) =
      by_case (is_some (known_name says text)) (lines_begin rest sign names texts)
    where
      by_case : (known : Bool)
          → (more : List ℕ) × (definition_lines says (line_end_by b) names texts ++ d.text ≡ 64 ∷ more)
          → (more : List ℕ)
          ×
          ((cond known [] (string_line (line_end_by b) name text) ++ definition_lines says (line_end_by b) names texts) ++ d.text
          ≡ 64 ∷ more)
      by_case true others = others
      by_case false others = (_, refl)
