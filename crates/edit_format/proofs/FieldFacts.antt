-- A field in a new layout parses to the old field, except for spans and the case of its name.
use Rattle.std.proofs.Common.{◌≡◌, ℕ, zero, suc, ◌-◌, ◌≤◌, Bool, true, false, List, [], ◌∷◌, ◌++◌, length, map, codes, refl, sym, ap, ◌∙◌, subst, arith, append_assoc}
use Rattle.std.specs.Prelude.{◌==◌, ◌&&◌, bytes_eq, cond, max, nat_lt, replicate}
use Rattle.std.specs.Char.{is_ascii_whitespace, is_whitespace}
use Rattle.std.specs.List.{AllByRecursion, AllZip, flat_map, list_all}
use Rattle.std.specs.Str.{chars, str_to_ascii_lowercase}
use Rattle.std.proofs.lemmas.Bool.{or_from}
use Rattle.bib_text.specs.Places.{Place, place, CharAt, Stops, Longest, between}
use Rattle.bib_text.specs.Places.Run.{stop, step}
use Rattle.bib_text.proofs.PlaceFacts.{ahead_then, ahead_char, ahead_run, run_append, stops_at}
use Rattle.bib_syntax.specs.Reading.{part, Piece, FieldReading}
use Rattle.bib_syntax.specs.Grammar.{Field, Fields, Gap, longest}
use Rattle.bib_syntax.specs.Grammar.{Fields as fields}
use Rattle.bib_syntax.specs.Grammar.{Gap as gap}
use Rattle.bib_syntax.proofs.FieldFacts.{ahead_identifier, ahead_elements, ahead_field, ahead_gap, ahead_fields}
use Rattle.bib_syntax.proofs.LawFacts.{start_not_white, start_plain}
use Rattle.edit_entries.specs.Documents.{has_name}
use Rattle.edit_entries.specs.Edits.{moved_field, moved_piece}
use Rattle.edit_format.specs.Formatted.{elements_as_written, field_in_lowercase, field_laid_out, has_percent, has_percent_between, is_broken, is_too_long, next_line, next_sign, spaces, value_laid_out}
use Rattle.edit_format.specs.declared.style.Style.{Style}
use Rattle.edit_format.proofs.ByteFacts.{has, white_without}
use Rattle.edit_entries.proofs.ElementFacts.{Ending}
use Rattle.edit_format.proofs.LowerFacts.{lower_lower}
use Rattle.edit_format.proofs.NameFacts.{name_read, none_between}
use Rattle.edit_entries.proofs.StandsFacts.{AreWhite, Stands, ascii, between_stands, first_part, joined, last_part, past, run_white, spaces_white, white_append}
use Rattle.edit_format.proofs.ValueFacts.{IsSeparator, in_line, not_opened_run, not_opened_sign, not_opened_white, signed, unsigned, value_read, written}
use Rattle.edit_format.proofs.WidthFacts.{width_lower}

-- a line end is white space, and a value ends before it
pub record IsLineEnd (line_end : List ℕ) : Type 0 where
  pub white : AreWhite line_end
  pub blank : list_all is_ascii_whitespace line_end ≡ true
  pub ending : (u v : Place) (rest : List ℕ) → Stands u (line_end ++ rest) v → Ending u

-- a field without spans and with its name in ASCII lowercase
abbrev pub field_content : FieldReading → FieldReading
field_content f = moved_field (λ n. 0) (field_in_lowercase f)

first_space : {u v : Place} (n : ℕ) (rest : List ℕ) → Stands u (replicate n 32 ++ 32 ∷ rest) v → Ending u
first_space {u} {v} zero rest s = record {
  char = 32;
  next = _;
  here = ascii 32 (omega arith) (first_part (32 ∷ []) rest s);
  no_name = refl;
  no_digit = refl;
  no_point = refl;
}
first_space {u} {v} (suc n) rest s = record {
  char = 32;
  next = _;
  here = ascii 32 (omega arith) (first_part (32 ∷ []) (replicate n 32 ++ 32 ∷ rest) s);
  no_name = refl;
  no_digit = refl;
  no_point = refl;
}

-- the output for a field, a comma and its line or lines, parses to the field in another text
pub record FieldRead (line_end : List ℕ) (style : Style) (text : List ℕ) (width : ℕ) (f : FieldReading) (u v : Place) : Type 0 where
  pub after : Place
  pub start : Place
  pub reading : FieldReading
  pub comma : CharAt u 44 after
  pub gap : Gap longest after start
  pub field : Field longest start reading v
  pub alike : field_content reading ≡ field_content f
  pub again : field_laid_out line_end style u.text width reading ≡ field_laid_out line_end style text width f
  pub clear : has_percent u.text u.at reading.name.start ≡ false

-- the separator before a piece that begins a new line
abbrev pub at_column : List ℕ → ℕ → ℕ → List ℕ
at_column line_end indent column = line_end ++ (spaces indent ++ (spaces column ++ codes "   # "))

in_next_line : (line_end : List ℕ) (indent column : ℕ) → IsLineEnd line_end → IsSeparator (at_column line_end indent column)
in_next_line line_end indent column ends =
    let sign : List ℕ = 35 ∷ 32 ∷ [] in
    let blank : List ℕ = 32 ∷ 32 ∷ 32 ∷ [] in
    let before : List ℕ = spaces column ++ blank in
    let before' : List ℕ = spaces indent ++ before in
    record {
      white = line_end ++ before';
      is =
          ap (λ t. line_end ++ (spaces indent ++ t)) (sym (append_assoc (spaces column) blank sign))
          ∙ ap (λ t. line_end ++ t) (sym (append_assoc (spaces indent) before sign))
          ∙ sym (append_assoc line_end before' sign);
      all =
          white_append line_end before' ends.white
          (white_append (spaces indent) before (spaces_white indent)
          (white_append (spaces column) blank (spaces_white column) (spaces_white 3)));
      ending = λ u v rest s.
          ends.ending u v ((spaces indent ++ (spaces column ++ codes "   # ")) ++ rest)
          (subst (λ t. Stands u t v)
          (append_assoc line_end (spaces indent ++ (spaces column ++ codes "   # ")) rest) s);
    }

-- `next_sign` is a separator
separates : (line_end : List ℕ) (style : Style) (width : ℕ) (name : List ℕ) (elements : List (List ℕ))
    → IsLineEnd line_end → IsSeparator (next_sign line_end style width name elements)
separates line_end style width name elements ends = by_choice (is_broken style width name elements)
  where
    by_choice : (b : Bool) → IsSeparator (cond b (next_line line_end style width name) (codes " # "))
    by_choice true = in_next_line line_end style.indent (max width (length (chars name))) ends
    by_choice false = in_line

-- the line of a field, given its name in ASCII lowercase, the length of the name in characters, and the output for its pieces
abbrev line_of : Style → ℕ → List ℕ → List ℕ → ℕ → List (List ℕ) → List ℕ
line_of style width next name count elements =
    spaces style.indent ++ (name ++ (spaces (width - count) ++ value_laid_out (codes " = ") next elements))

-- a field on its line or lines, with the comma before it, given the same parts
abbrev field_by : List ℕ → Style → ℕ → List ℕ → ℕ → List (List ℕ) → List ℕ
field_by line_end style width name count elements =
    let next : List ℕ =
    cond
    (nat_lt 1 (length elements)
    && is_too_long style.width (line_of style width (codes " # ") name count elements))
    (at_column line_end style.indent (max width count)) (codes " # ") in
    44 ∷ (line_end ++ line_of style width next name count elements)

pub field_read : (line_end : List ℕ) (style : Style) (width : ℕ) {a b u v w : Place} {f : FieldReading}
    → IsLineEnd line_end → Field longest a f b → b.at ≤ length a.text
    → Stands u (field_laid_out line_end style a.text width f) v
    → Ending v → Longest is_whitespace v w → Stops (λ c. c == 35) w → FieldRead line_end style a.text width f u w
field_read line_end style width {a} {b} {u} {v} {w} {f} ends field within s ending over no_hash =
    let indent = spaces style.indent in
    let name = str_to_ascii_lowercase f.name.text in
    let n : ℕ = width - length (chars f.name.text) in
    let to_sign = ahead_then (ahead_run field.white.run) (ahead_char field.sign) in
    let to_value = ahead_then to_sign (ahead_run field.white'.run) in
    let to_start = ahead_then (ahead_identifier field.name) to_value in
    let same : field.value_start.text ≡ a.text = to_start.text in
    let old = field.value_start in
    let es = f.value.pieces in
    let way = style.delimiters in
    let next = next_sign line_end style width f.name.text (elements_as_written style a.text f) in
    let rest_bytes = unsigned next (written way old.text es) in
    let value_is : value_laid_out (codes " = ") next (elements_as_written style a.text f) ≡ 32 ∷ 61 ∷ 32 ∷ rest_bytes =
    signed (codes " = ") next way a.text field.elements
    ∙ ap (λ t. codes " = " ++ unsigned next (written way t es)) (sym same) in
    let padded = replicate n 32 ++ 32 ∷ 61 ∷ 32 ∷ rest_bytes in
    let s0 : Stands u (44 ∷ (line_end ++ (indent ++ (name ++ padded)))) v =
    subst (λ t. Stands u (44 ∷ (line_end ++ (indent ++ (name ++ (replicate n 32 ++ t))))) v) value_is s in
    let comma = ascii 44 (omega arith) (first_part (44 ∷ []) (line_end ++ (indent ++ (name ++ padded))) s0) in
    let s1 = last_part (44 ∷ []) (line_end ++ (indent ++ (name ++ padded))) s0 in
    let line = run_white line_end ends.white (first_part line_end (indent ++ (name ++ padded)) s1) in
    let s2 = last_part line_end (indent ++ (name ++ padded)) s1 in
    let blank = run_white indent (spaces_white style.indent) (first_part indent (name ++ padded) s2) in
    let s3 = last_part indent (name ++ padded) s2 in
    let named = first_part name padded s3 in
    let s4 = last_part name padded s3 in
    let name_is : name ≡ str_to_ascii_lowercase (between a field.name_end) = ap (λ p. str_to_ascii_lowercase p.text) field.name.reading in
    let u3 = past (past (past u (44 ∷ [])) line_end) indent in
    let u4 = past u3 name in
    let over_value = ahead_then to_value (ahead_elements field.elements) in
    let name_within : field.name_end.at ≤ length a.text = omega (arith, within, over_value.at) in
    let name' = name_read field.name name_within (subst (λ t. Stands u3 t u4) name_is named) (first_space n (61 ∷ 32 ∷ rest_bytes) s4) in
    let pad = run_white (replicate n 32) (spaces_white n) (first_part (replicate n 32) (32 ∷ 61 ∷ 32 ∷ rest_bytes) s4) in
    let s5 = last_part (replicate n 32) (32 ∷ 61 ∷ 32 ∷ rest_bytes) s4 in
    let space = ascii 32 (omega arith) (first_part (32 ∷ []) (61 ∷ 32 ∷ rest_bytes) s5) in
    let s6 = last_part (32 ∷ []) (61 ∷ 32 ∷ rest_bytes) s5 in
    let sign = ascii 61 (omega arith) (first_part (61 ∷ []) (32 ∷ rest_bytes) s6) in
    let s7 = last_part (61 ∷ []) (32 ∷ rest_bytes) s6 in
    let space' = ascii 32 (omega arith) (first_part (32 ∷ []) rest_bytes s7) in
    let s8 = last_part (32 ∷ []) rest_bytes s7 in
    let opened =
    not_opened_run (not_opened_sign 61 (omega arith) (λ clash. omega arith) (λ clash. omega arith) field.sign)
    field.white'.run in
    let value =
    value_read way (separates line_end style width f.name.text (elements_as_written style a.text f) ends)
    field.elements opened (omega (arith, within, ap length same)) s8 (not_opened_white space' refl) ending over
    no_hash in
    let text_is : between u3 u4 ≡ name = between_stands name named in
    let value_again : written way u.text value.reading ≡ written way a.text es = value.again ∙ ap (λ t. written way t es) same in
    let write = field_by line_end style width in
    let before_name : between u u3 ≡ 44 ∷ (line_end ++ indent) =
    between_stands (44 ∷ (line_end ++ indent)) (joined (44 ∷ []) (line_end ++ indent)
    (first_part (44 ∷ []) (line_end ++ (indent ++ (name ++ padded))) s0)
    (joined line_end indent (first_part line_end (indent ++ (name ++ padded)) s1) (first_part indent (name ++ padded) s2))) in
    let build =
    λ (t : List ℕ) (ps : List Piece).
    let g : FieldReading =
    record {
      name = record { text = t; start = 0; end = 0 };
      value = record { pieces = ps; start = 0; end = 0 };
    } in
    g in
    record {
      after = past u (44 ∷ []);
      start = u3;
      reading = record {
        name = part u3 u4;
        value = record {
          pieces = value.reading;
          start = (past (past (past (past u4 (replicate n 32)) (32 ∷ [])) (61 ∷ [])) (32 ∷ [])).at;
          end = w.at;
        };
      };
      comma = comma;
      gap =
          gap.white
          (record {
            run = run_append line blank;
            stops = stops_at is_whitespace name'.here (start_not_white name'.first name'.starts);
          }) (stops_at (λ c. c == 37) name'.here (start_plain name'.first name'.starts));
      field = record {
        name_end = u4;
        before_sign = _;
        after_sign = _;
        value_start = _;
        name = name';
        white = record { run = run_append pad (step space refl stop); stops = stops_at is_whitespace sign refl };
        sign = sign;
        white' = record { run = step space' refl stop; stops = value.dark };
        elements = value.elements;
        starts = refl;
        ends = refl;
      };
      alike =
          ap (λ t. build (str_to_ascii_lowercase t) (map (moved_piece (λ n. 0)) value.reading)) text_is
          ∙ ap (λ t. build t (map (moved_piece (λ n. 0)) value.reading)) (lower_lower f.name.text)
          ∙ ap (build name) value.alike;
      again = ap (λ t. write (str_to_ascii_lowercase t) (length (chars t)) (written way u.text value.reading)) text_is
          ∙ ap (λ t. write t (length (chars name)) (written way u.text value.reading)) (lower_lower f.name.text)
          ∙ ap (λ k. write name k (written way u.text value.reading)) (width_lower f.name.text)
          ∙ ap (λ ts. write name (length (chars f.name.text)) ts) value_again;
      clear =
          ap (has 37) before_name
          ∙ white_without (line_end ++ indent) (white_append line_end indent ends.white (spaces_white style.indent));
    }

-- ---- fields

-- two fields have the same content except for spans and the case of their names, and the same layout
pub record IsLaidOutAlike (line_end : List ℕ) (style : Style) (new old : List ℕ) (width : ℕ) (f g : FieldReading) : Type 0 where
  pub alike : field_content f ≡ field_content g
  pub again : field_laid_out line_end style new width f ≡ field_laid_out line_end style old width g

-- a field occurs in a text
pub record FieldIn (text : List ℕ) (f : FieldReading) : Type 0 where
  pub from : Place
  pub to : Place
  pub field : Field longest from f to
  pub same : from.text ≡ text
  pub within : to.at ≤ length from.text

pub fields_in : (text : List ℕ) {a b : Place} {fs : List FieldReading} → a.text ≡ text → Fields longest a fs b
    → b.at ≤ length text → AllByRecursion (FieldIn text) fs
fields_in text same (fields.none white) within = _
fields_in text {a} {b} same (fields.last {v = a1} field g) within =
    (record { from = a; to = a1; field = field; same = same; within = omega (arith, within, (ahead_gap g).at, ap length same) }, _)
fields_in text {a} {b} same (fields.more {v = a1} field g sep g' rest) within =
    let past_comma = ahead_then (ahead_gap g) (ahead_then (ahead_char sep) (ahead_gap g')) in (
      record {
        from = a;
        to = a1;
        field = field;
        same = same;
        within = omega (arith, within, past_comma.at, (ahead_fields rest).at, ap length same);
      },
      fields_in text ((ahead_then (ahead_field field) past_comma).text ∙ same) rest within,
    )

-- some fields and the closing brace parse from their output after a comma
pub record CommaRead (line_end : List ℕ) (style : Style) (text : List ℕ) (width : ℕ) (fs : List FieldReading) (u v : Place) : Type 0 where
  pub after : Place
  pub start : Place
  pub brace : Place
  pub reading : List FieldReading
  pub comma : CharAt u 44 after
  pub gap : Gap longest after start
  pub fields : Fields longest start reading brace
  pub closes : CharAt brace 125 v
  pub each : AllZip (IsLaidOutAlike line_end style u.text text width) reading fs
  pub clear : has_percent_between u.text u.at reading brace.at ≡ false

-- white space and a closing brace parse
pub record CloseRead (u v : Place) : Type 0 where
  pub brace : Place
  pub ending : Ending u
  pub white : Longest is_whitespace u brace
  pub closes : CharAt brace 125 v

close_read : (line_end : List ℕ) {u v : Place} → IsLineEnd line_end → Stands u (line_end ++ 125 ∷ []) v → CloseRead u v
close_read line_end {u} {v} ends s =
    let brace = ascii 125 (omega arith) (last_part line_end (125 ∷ []) s) in
    record {
      brace = past u line_end;
      ending = ends.ending u v (125 ∷ []) s;
      white = record { run = run_white line_end ends.white (first_part line_end (125 ∷ []) s); stops = stops_at is_whitespace brace refl };
      closes = brace;
    }

pub none_read : (line_end : List ℕ) (style : Style) (text : List ℕ) (width : ℕ) {u v : Place} → IsLineEnd line_end
    → Stands u (44 ∷ (line_end ++ 125 ∷ [])) v → CommaRead line_end style text width [] u v
unfolding close_read
none_read line_end style text width {u} {v} ends s =
    let comma = ascii 44 (omega arith) (first_part (44 ∷ []) (line_end ++ 125 ∷ []) s) in
    let rest = last_part (44 ∷ []) (line_end ++ 125 ∷ []) s in
    let close = close_read line_end ends rest in
    let bytes : between u close.brace ≡ 44 ∷ line_end =
    between_stands (44 ∷ line_end)
    (joined (44 ∷ []) line_end (first_part (44 ∷ []) (line_end ++ 125 ∷ []) s) (first_part line_end (125 ∷ []) rest))
    in
    record {
      after = past u (44 ∷ []);
      start = close.brace;
      brace = close.brace;
      reading = [];
      comma = comma;
      gap = gap.white close.white (stops_at (λ c. c == 37) close.closes refl);
      fields = fields.none (record { run = stop; stops = stops_at is_whitespace close.closes refl });
      closes = close.closes;
      each = _;
      clear = ap (has 37) bytes ∙ white_without line_end ends.white;
    }

-- a field parses before other fields or before the closing brace
before_comma : (line_end : List ℕ) (style : Style) (text : List ℕ) (width : ℕ) {u m v : Place} {f : FieldReading}
    {fs : List FieldReading} → IsLineEnd line_end → FieldIn text f
    → Stands u (field_laid_out line_end style text width f) m → CommaRead line_end style text width fs m v
    → CommaRead line_end style text width (f ∷ fs) u v
before_comma line_end style text width {u} {m} {v} {f} {fs} ends stands s rest =
    let write = λ (t : List ℕ). field_laid_out line_end style t width in
    let none : Longest is_whitespace m m = record { run = stop; stops = stops_at is_whitespace rest.comma refl } in
    let here = subst (λ t. Stands u (write t f) m) (sym stands.same) s in
    let x =
    field_read line_end style width ends stands.field stands.within here
    (record { char = 44; next = _; here = rest.comma; no_name = refl; no_digit = refl; no_point = refl }) none
    (stops_at (λ c. c == 35) rest.comma refl) in
    let first : IsLaidOutAlike line_end style u.text text width x.reading f =
    record { alike = x.alike; again = x.again ∙ ap (λ t. write t f) stands.same } in
    record {
      after = x.after;
      start = x.start;
      brace = rest.brace;
      reading = x.reading ∷ rest.reading;
      comma = x.comma;
      gap = x.gap;
      fields = fields.more x.field (gap.white none (stops_at (λ c. c == 37) rest.comma refl)) rest.comma rest.gap rest.fields;
      closes = rest.closes;
      each = (first, subst (λ t. AllZip (IsLaidOutAlike line_end style t text width) rest.reading fs) s.same rest.each);
      clear =
          or_from _ _ x.clear
          (ap (λ n. has_percent_between u.text n rest.reading rest.brace.at) x.field.ends
          ∙ ap (λ t. has_percent_between t m.at rest.reading rest.brace.at) (sym s.same) ∙ rest.clear);
    }

before_close : (line_end : List ℕ) (style : Style) (text : List ℕ) (width : ℕ) {u m v : Place} {f : FieldReading}
    → IsLineEnd line_end → FieldIn text f
    → Stands u (field_laid_out line_end style text width f) m → CloseRead m v → CommaRead line_end style text width (f ∷ []) u v
before_close line_end style text width {u} {m} {v} {f} ends stands s rest =
    let here = subst (λ t. Stands u (field_laid_out line_end style t width f) m) (sym stands.same) s in
    let x =
    field_read line_end style width ends stands.field stands.within here rest.ending rest.white
    (stops_at (λ c. c == 35) rest.closes refl) in
    record {
      after = x.after;
      start = x.start;
      brace = rest.brace;
      reading = x.reading ∷ [];
      comma = x.comma;
      gap = x.gap;
      fields =
          fields.last x.field
          (gap.white (record { run = stop; stops = stops_at is_whitespace rest.closes refl })
          (stops_at (λ c. c == 37) rest.closes refl));
      closes = rest.closes;
      each = (record { alike = x.alike; again = x.again ∙ ap (λ t. field_laid_out line_end style t width f) stands.same }, _);
      clear =
          or_from _ _ x.clear
          (ap (λ n. has_percent u.text n rest.brace.at) x.field.ends
          ∙ ap (has 37) (none_between (place u.text rest.brace.at)));
    }

-- the comma after the last field, or none
pub data LastComma : List ℕ → Type 0 where
  comma : LastComma (44 ∷ [])
  none : LastComma []

-- the last field parses before the optional comma and the closing brace
after_last : (line_end : List ℕ) (style : Style) (text : List ℕ) (width : ℕ) {u m v : Place} {f : FieldReading}
    {last : List ℕ} → IsLineEnd line_end → LastComma last → FieldIn text f
    → Stands u (field_laid_out line_end style text width f) m → Stands m (last ++ (line_end ++ 125 ∷ [])) v
    → CommaRead line_end style text width (f ∷ []) u v
after_last line_end style text width ends LastComma.comma stands s rest =
    before_comma line_end style text width ends stands s (none_read line_end style text width ends rest)
after_last line_end style text width ends LastComma.none stands s rest =
    before_close line_end style text width ends stands s (close_read line_end ends rest)

-- the fields of an entry parse
pub fields_read : (line_end : List ℕ) (style : Style) (width : ℕ) (text : List ℕ) (last : List ℕ) (f : FieldReading)
    (fs : List FieldReading) {u v : Place} → IsLineEnd line_end → LastComma last → FieldIn text f
    → AllByRecursion (FieldIn text) fs
    → Stands u (flat_map (field_laid_out line_end style text width) (f ∷ fs) ++ (last ++ (line_end ++ 125 ∷ []))) v
    → CommaRead line_end style text width (f ∷ fs) u v
fields_read line_end style width text last f [] {u} {v} ends way stands others s =
    let write = field_laid_out line_end style text width in
    let tail = last ++ (line_end ++ 125 ∷ []) in
    let s' : Stands u (write f ++ tail) v = subst (λ t. Stands u t v) (append_assoc (write f) [] tail) s in
    after_last line_end style text width ends way stands (first_part (write f) tail s') (last_part (write f) tail s')
fields_read line_end style width text last f (g ∷ gs) {u} {v} ends way stands others s =
    let write = field_laid_out line_end style text width in
    let tail = last ++ (line_end ++ 125 ∷ []) in
    let rest = flat_map write (g ∷ gs) ++ tail in
    let s' : Stands u (write f ++ rest) v = subst (λ t. Stands u t v) (append_assoc (write f) (flat_map write (g ∷ gs)) tail) s in
    before_comma line_end style text width ends stands (first_part (write f) rest s')
    (fields_read line_end style width text last g gs ends way others.0 others.1 (last_part (write f) rest s'))

-- ---- consequences of the same layout

pub zip_alike : (line_end : List ℕ) (style : Style) (new old : List ℕ) (width : ℕ) (fs gs : List FieldReading)
    → AllZip (IsLaidOutAlike line_end style new old width) fs gs → map field_content fs ≡ map field_content gs
zip_alike line_end style new old width [] [] all = refl
zip_alike line_end style new old width [] (g ∷ gs) all = absurd all
zip_alike line_end style new old width (f ∷ fs) [] all = absurd all
zip_alike line_end style new old width (f ∷ fs) (g ∷ gs) all =
    ap (λ h. h ∷ map field_content fs) all.0.alike
    ∙ ap (λ hs. field_content g ∷ hs) (zip_alike line_end style new old width fs gs all.1)

pub zip_again : (line_end : List ℕ) (style : Style) (new old : List ℕ) (width : ℕ) (fs gs : List FieldReading)
    → AllZip (IsLaidOutAlike line_end style new old width) fs gs
    → flat_map (field_laid_out line_end style new width) fs ≡ flat_map (field_laid_out line_end style old width) gs
zip_again line_end style new old width [] [] all = refl
zip_again line_end style new old width [] (g ∷ gs) all = absurd all
zip_again line_end style new old width (f ∷ fs) [] all = absurd all
zip_again line_end style new old width (f ∷ fs) (g ∷ gs) all =
    ap (λ t. t ++ flat_map (field_laid_out line_end style new width) fs) all.0.again
    ∙ ap (λ t. field_laid_out line_end style old width g ++ t) (zip_again line_end style new old width fs gs all.1)

-- fields with the same content have the same names in any ASCII case
pub same_named : (n : List ℕ) (f g : FieldReading) → field_content f ≡ field_content g → has_name n f ≡ has_name n g
same_named n f g same = ap (λ h. bytes_eq h.name.text (str_to_ascii_lowercase n)) same
