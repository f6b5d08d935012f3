-- An entry in one style parses to the old entry, except for spans, the case of names and the order of fields.
use Rattle.std.proofs.Common.{◌≡◌, ℕ, ◌+◌, ◌-◌, ◌≤◌, Bool, true, false, cond, List, [], ◌∷◌, ◌++◌, length, drop, take, map, refl, sym, ap, ◌∙◌, subst, arith}
use Rattle.std.specs.Prelude.{◌||◌}
use Rattle.std.specs.Char.{is_whitespace}
use Rattle.std.specs.List.{AllByRecursion, flat_map, list_any}
use Rattle.std.specs.Str.{str_to_ascii_lowercase}
use Rattle.std.proofs.lemmas.Simd.{map-map}
use Rattle.std.proofs.lemmas.Bool.{or_from}
use Rattle.bib_text.specs.Places.{Place, place, Run, Stops, between}
use Rattle.bib_text.specs.Places.Run.{stop, step}
use Rattle.bib_text.proofs.PlaceFacts.{Ahead, ahead_then, ahead_char, ahead_run, stops_at, char_within}
use Rattle.bib_text.proofs.BoolFacts.{or_false_left, or_false_right}
use Rattle.bib_syntax.specs.Characters.{is_key}
use Rattle.bib_syntax.specs.Reading.{part, Piece, FieldReading, EntryReading}
use Rattle.bib_syntax.specs.Reading.Piece.{abbreviation, literal}
use Rattle.bib_syntax.specs.Kept.{entry_alone}
use Rattle.bib_syntax.specs.Grammar.{Block, Fields, block_kind, longest}
use Rattle.bib_syntax.specs.Grammar.{Fields as fields}
use Rattle.bib_syntax.proofs.FieldFacts.{ahead_identifier, ahead_field, ahead_fields, ahead_gap}
use Rattle.bib_syntax.proofs.FileFacts.{ahead_head}
use Rattle.edit_entries.specs.Edits.{moved_entry, moved_field, moved_piece}
use Rattle.edit_entries.proofs.SplitFacts.{EntryBlock, block_of}
use Rattle.edit_entries.proofs.ZoneFacts.{Frame, Inside, Zone, between_there, inside_between, run_there, there}
use Rattle.edit_format.specs.Formatted.{entry_content, entry_in_order, entry_in_style, entry_laid_out, field_in_lowercase, field_laid_out, has_comment, has_percent, has_percent_between, has_unbalanced, is_copied, is_unbalanced, last_comma, padded_width}
use Rattle.edit_format.specs.Ordered.{in_order, order_of}
use Rattle.edit_format.specs.declared.style.Style.{Style}
use Rattle.edit_format.proofs.ByteFacts.{has}
use Rattle.edit_format.proofs.ColumnFacts.{same_last, same_padded}
use Rattle.edit_format.proofs.ContentFacts.{entry_placeless}
use Rattle.edit_format.proofs.FieldFacts.{CommaRead, FieldIn, IsLaidOutAlike, IsLineEnd, LastComma, field_content, fields_in, fields_read, none_read, same_named, zip_again, zip_alike}
use Rattle.edit_format.proofs.LowerFacts.{kind_lower, lower_lower}
use Rattle.edit_format.proofs.NameFacts.{name_read}
use Rattle.edit_format.proofs.OrderFacts.{in_order_all, in_order_twice, in_order_zip, last_ordered, padded_ordered}
use Rattle.edit_entries.proofs.EntryCopyFacts.{entry_copied}
use Rattle.edit_entries.proofs.StandsFacts.{Stands, ascii, between_stands, copied_before, copy_frame, first_part, last_part, past}
use Rattle.bib_syntax.proofs.LawFacts.{key_dark}

abbrev contents : List FieldReading → List FieldReading
contents fs = map (moved_field (λ n. 0)) (map field_in_lowercase fs)

-- ---- literals whose braces aren't balanced

pieces_moved : (move : ℕ → ℕ) (ps : List Piece) → list_any is_unbalanced (map (moved_piece move) ps) ≡ list_any is_unbalanced ps
pieces_moved move [] = refl
pieces_moved move (literal p ∷ ps) = ap (λ b. is_unbalanced (literal p) || b) (pieces_moved move ps)
pieces_moved move (abbreviation p ∷ ps) = pieces_moved move ps

unbalanced_moved : (move : ℕ → ℕ) (fs : List FieldReading)
    → list_any has_unbalanced (map (moved_field move) fs) ≡ list_any has_unbalanced fs
unbalanced_moved move [] = refl
unbalanced_moved move (f ∷ fs) =
    ap (λ b. b || list_any has_unbalanced (map (moved_field move) fs)) (pieces_moved move f.value.pieces)
    ∙ ap (λ b. has_unbalanced f || b) (unbalanced_moved move fs)

unbalanced_content : (fs : List FieldReading) → list_any has_unbalanced (map field_content fs) ≡ list_any has_unbalanced fs
unbalanced_content [] = refl
unbalanced_content (f ∷ fs) =
    ap (λ b. b || list_any has_unbalanced (map field_content fs)) (pieces_moved (λ n. 0) f.value.pieces)
    ∙ ap (λ b. has_unbalanced f || b) (unbalanced_content fs)

-- if two lists of fields have the same content, both have an unbalanced literal or neither has
unbalanced_alike : (fs gs : List FieldReading) → map field_content fs ≡ map field_content gs
    → list_any has_unbalanced fs ≡ list_any has_unbalanced gs
unbalanced_alike fs gs alike = sym (unbalanced_content fs) ∙ ap (list_any has_unbalanced) alike ∙ unbalanced_content gs

none_unbalanced : (fs : List FieldReading) → list_any has_unbalanced fs ≡ false → AllByRecursion (λ f. has_unbalanced f ≡ false) fs
none_unbalanced [] is = _
none_unbalanced (f ∷ fs) is = (or_false_left (has_unbalanced f) _ is, none_unbalanced fs (or_false_right (has_unbalanced f) _ is))

all_balanced : (fs : List FieldReading) → AllByRecursion (λ f. has_unbalanced f ≡ false) fs → list_any has_unbalanced fs ≡ false
all_balanced [] all = refl
all_balanced (f ∷ fs) all = or_from _ _ all.0 (all_balanced fs all.1)

-- if no literal is unbalanced, none is in another order of the fields
unbalanced_ordered : (names : List (List ℕ)) (fs : List FieldReading) → list_any has_unbalanced fs ≡ false
    → list_any has_unbalanced (in_order names fs) ≡ false
unbalanced_ordered names fs is =
    all_balanced (in_order names fs) (in_order_all (λ f. has_unbalanced f ≡ false) names fs (none_unbalanced fs is))

-- ---- fields after the key

last_of : (style : Style) (f : FieldReading) (fs : List FieldReading) → LastComma (last_comma style (f ∷ fs))
last_of style f fs = by_choice style.trailing_comma
  where
    by_choice : (b : Bool) → LastComma (cond b (44 ∷ []) [])
    by_choice true = LastComma.comma
    by_choice false = LastComma.none

key_read : (line_end : List ℕ) (style : Style) (width : ℕ) (text : List ℕ) {u v : Place} (fs : List FieldReading)
    → IsLineEnd line_end → AllByRecursion (FieldIn text) fs
    → Stands u
    (flat_map (field_laid_out line_end style text width) fs ++ (last_comma style fs ++ (line_end ++ 125 ∷ []))) v
    → CommaRead line_end style text width fs u v
key_read line_end style width text [] ends stand s = none_read line_end style text width ends s
key_read line_end style width text (f ∷ fs) ends stand s =
    fields_read line_end style width text (last_comma style (f ∷ fs)) f fs ends (last_of style f fs) stand.0 stand.1 s

-- ---- an entry

-- an entry of a text parses from its output in another text, and formatting it again gives the same bytes
pub record EntryRead (line_end : List ℕ) (style : Style) (bytes : List ℕ) (e : EntryReading) (u v : Place) : Type 0 where
  pub reading : EntryReading
  pub block : Block longest u (entry_alone reading) v
  pub alike : entry_content reading ≡ entry_content e
  pub again : entry_in_style line_end style u.text reading ≡ bytes
  pub starts : reading.start ≡ u.at
  pub ends : reading.end + 1 ≡ v.at

stops_key : {u v : Place} → Run is_key u v → Stops is_whitespace v → Stops is_whitespace u
stops_key stop stops = stops
stops_key (step {c = c} char passes rest) stops = stops_at is_whitespace char (key_dark c passes)

-- an entry with its fields in the order of the style
abbrev ordered : Style → EntryReading → EntryReading
ordered style e = record e { fields = in_order (order_of style) e.fields }

laid_out_read : (line_end : List ℕ) (style : Style) {a b u v : Place} {e : EntryReading} → IsLineEnd line_end
    → list_any has_unbalanced e.fields ≡ false → EntryBlock a e b → Stands u (entry_laid_out line_end style a.text e) v
    → EntryRead line_end style (entry_laid_out line_end style a.text e) (ordered style e) u v
laid_out_read line_end style {a} {b} {u} {v} {e} ends balanced x s =
    let width = padded_width style e.fields in
    let names = order_of style in
    let fs = in_order names e.fields in
    let kind = str_to_ascii_lowercase e.kind.text in
    let listed = flat_map (field_laid_out line_end style a.text width) fs ++ (last_comma style e.fields ++ (line_end ++ 125 ∷ [])) in
    let from_fields = ahead_then (ahead_fields x.fields) (ahead_char x.closes) in
    let from_key =
    ahead_then (ahead_run x.key.run)
    (ahead_then (ahead_run x.white.run)
    (ahead_then (ahead_char x.comma) (ahead_then (ahead_gap x.gap) from_fields))) in
    let from_name = ahead_then (ahead_run x.head.white.run) (ahead_then (ahead_char x.head.opens) (ahead_run x.head.white'.run)) in
    let to_start = ahead_then (ahead_char x.head.sign) (ahead_identifier x.head.name) in
    let to_inside = ahead_then to_start from_name in
    let end_within : b.at ≤ length b.text = char_within x.closes in
    let inside_text : x.inside.text ≡ a.text = to_inside.text in
    let end_text : b.text ≡ x.inside.text = from_key.text in
    let s1 = last_part (64 ∷ []) (kind ++ (123 ∷ (e.key.text ++ listed))) s in
    let sign = ascii 64 (omega arith) (first_part (64 ∷ []) (kind ++ (123 ∷ (e.key.text ++ listed))) s) in
    let u1 = past u (64 ∷ []) in
    let u2 = past u1 kind in
    let named = first_part kind (123 ∷ (e.key.text ++ listed)) s1 in
    let s2 = last_part kind (123 ∷ (e.key.text ++ listed)) s1 in
    let brace = ascii 123 (omega arith) (first_part (123 ∷ []) (e.key.text ++ listed) s2) in
    let u3 = past u2 (123 ∷ []) in
    let s3 = last_part (123 ∷ []) (e.key.text ++ listed) s2 in
    let keyed = first_part e.key.text listed s3 in
    let u4 = past u3 e.key.text in
    let s4 = last_part e.key.text listed s3 in
    let fields_text : x.fields_start.text ≡ a.text =
    (ahead_then (ahead_run x.key.run) (ahead_then (ahead_run x.white.run) (ahead_then (ahead_char x.comma) (ahead_gap x.gap)))).text
    ∙ inside_text in
    let brace_within : x.brace.at ≤ length a.text =
    omega (arith, (ahead_char x.closes).at, end_within, ap length end_text, ap length inside_text) in
    let last : last_comma style fs ≡ last_comma style e.fields = last_ordered style names e.fields in
    let stand = in_order_all (FieldIn a.text) names e.fields (fields_in a.text fields_text x.fields brace_within) in
    let list =
    key_read line_end style width a.text fs ends stand
    (subst
    (λ t.
    Stands u4
    (flat_map (field_laid_out line_end style a.text width) fs ++ (t ++ (line_end ++ 125 ∷ []))) v)
    (sym last) s4) in
    let alike : map field_content list.reading ≡ map field_content fs =
    zip_alike line_end style u.text a.text width list.reading fs list.each in
    let zip =
    in_order_zip (IsLaidOutAlike line_end style u.text a.text width) (λ n f g are. same_named n f g are.alike) names
    list.reading fs list.each in
    let again : flat_map (field_laid_out line_end style u.text width) (in_order names list.reading)
    ≡ flat_map (field_laid_out line_end style a.text width) fs =
    zip_again line_end style u.text a.text width (in_order names list.reading) (in_order names fs) zip
    ∙ ap (flat_map (field_laid_out line_end style a.text width)) (in_order_twice names e.fields) in
    let same_width : padded_width style list.reading ≡ width =
    same_padded style list.reading fs alike ∙ padded_ordered style names e.fields in
    let same_comma : last_comma style list.reading ≡ last_comma style e.fields = same_last style list.reading fs alike ∙ last in
    let kind_is : kind ≡ str_to_ascii_lowercase (between x.head.name_start x.head.name_end) =
    ap (λ p. str_to_ascii_lowercase p.text) x.head.name.reading in
    let name_within : x.head.name_end.at ≤ length x.head.name_start.text =
    omega (arith, from_name.at, from_key.at, end_within, ap length end_text, ap length inside_text, ap length x.head.sign.same) in
    let name =
    name_read x.head.name name_within (subst (λ t. Stands u1 t u2) kind_is named)
    (record { char = 123; next = _; here = brace; no_name = refl; no_digit = refl; no_point = refl }) in
    let key_is : e.key.text ≡ between x.inside x.key_end = ap (λ p. p.text) x.key_is in
    let from_key_end = ahead_then (ahead_run x.white.run) (ahead_then (ahead_char x.comma) (ahead_then (ahead_gap x.gap) from_fields)) in
    let key_within : x.key_end.at ≤ length x.inside.text = omega (arith, from_key_end.at, end_within, ap length end_text) in
    let c = copied_before (ahead_run x.key.run) key_within (subst (λ t. Stands u3 t u4) key_is keyed) list.comma in
    let key_run : Run is_key u3 u4 =
    subst (λ p. Run is_key p u4) c.goes_start
    (subst (λ p. Run is_key (there (copy_frame x.inside x.key_end u3) x.inside) p) c.goes_end
    (run_there c.zone c.start c.end x.key.run)) in
    let dark : Stops is_whitespace u4 = stops_at is_whitespace list.comma refl in
    let kind_text : between u1 u2 ≡ kind = between_stands kind named in
    let key_text : between u3 u4 ≡ e.key.text = between_stands e.key.text keyed in
    let e' : EntryReading = record { key = part u3 u4; kind = part u1 u2; fields = list.reading; start = u.at; end = list.brace.at } in
    let block : EntryBlock u e' v = record {
      inside = u3;
      key_end = u4;
      before_comma = u4;
      after_comma = list.after;
      fields_start = list.start;
      brace = list.brace;
      head = record {
        name_start = u1;
        name_end = u2;
        before_brace = u2;
        after_brace = u3;
        brace = 123;
        sign = sign;
        name = name;
        white = record { run = stop; stops = stops_at is_whitespace brace refl };
        opens = brace;
        is_brace = refl;
        white' = record { run = stop; stops = stops_key key_run dark };
      };
      is_entry = ap block_kind kind_text ∙ kind_lower e.kind.text ∙ x.is_entry;
      key = record { run = key_run; stops = stops_at is_key list.comma refl };
      white = record { run = stop; stops = dark };
      comma = list.comma;
      gap = list.gap;
      fields = list.fields;
      closes = list.closes;
      key_is = refl;
      starts = refl;
      ends = refl;
    } in
    let write = λ (t k fields last : List ℕ). 64 ∷ (t ++ (123 ∷ (k ++ (fields ++ (last ++ (line_end ++ 125 ∷ [])))))) in
    let from = λ (n : ℕ). flat_map (field_laid_out line_end style u.text n) (in_order names list.reading) in
    let next : v.at ≡ list.brace.at + 1 = list.closes.next in
    let build =
    λ (k t : List ℕ) (fs : List FieldReading).
    let r : EntryReading =
    record {
      key = record { text = k; start = 0; end = 0 };
      kind = record { text = t; start = 0; end = 0 };
      fields = fs;
      start = 0;
      end = 0;
    } in
    r in
    record {
      reading = e';
      block = block_of block;
      alike = ap (λ k. build k (str_to_ascii_lowercase (between u1 u2)) (contents list.reading)) key_text
          ∙ ap (λ t. build e.key.text (str_to_ascii_lowercase t) (contents list.reading)) kind_text
          ∙ ap (λ t. build e.key.text t (contents list.reading)) (lower_lower e.kind.text)
          ∙ ap (build e.key.text kind)
          (map-map (moved_field (λ n. 0)) field_in_lowercase list.reading ∙ alike
          ∙ sym (map-map (moved_field (λ n. 0)) field_in_lowercase fs));
      again =
          ap
          (λ c.
          cond c (between (place u.text u.at) (place u.text (list.brace.at + 1)))
          (entry_laid_out line_end style u.text e'))
          (or_from _ _ list.clear (unbalanced_alike list.reading fs alike ∙ unbalanced_ordered names e.fields balanced))
          ∙ ap
          (λ t.
          write (str_to_ascii_lowercase t) (between u3 u4) (from (padded_width style list.reading))
          (last_comma style list.reading)) kind_text
          ∙ ap (λ t. write t (between u3 u4) (from (padded_width style list.reading)) (last_comma style list.reading))
          (lower_lower e.kind.text)
          ∙ ap (λ k. write kind k (from (padded_width style list.reading)) (last_comma style list.reading)) key_text
          ∙ ap (λ n. write kind e.key.text (from n) (last_comma style list.reading)) same_width
          ∙ ap (λ t. write kind e.key.text t (last_comma style list.reading)) again
          ∙ ap (write kind e.key.text (flat_map (field_laid_out line_end style a.text width) fs)) same_comma;
      starts = refl;
      ends = sym next;
    }

-- a part of a zone has a percent sign in both texts or in neither
percent_there : {f : Frame} {p q : Place} → Zone f → Inside f p → Inside f q → Ahead p q
    → has_percent f.new (f.move p.at) (f.move q.at) ≡ has_percent f.old p.at q.at
percent_there {f} {p} {q} z ip iq ahead = ap (has 37) (between_there z ip iq ahead ∙ ap (λ t. take (q.at - p.at) (drop p.at t)) ip.text)

percents_there : {f : Frame} {s x y : Place} {fs : List FieldReading} → Zone f → Inside f s → Inside f y → Ahead s x → Fields longest x fs y
    → has_percent_between f.new (f.move s.at) (map (moved_field f.move) fs) (f.move y.at) ≡ has_percent_between f.old s.at fs y.at
percents_there z is iy ahead (fields.none white) = percent_there z is iy (ahead_then ahead (ahead_run white.run))
percents_there {f} {s} {x} {y} z is iy ahead (fields.last {v = w} {f = r} field g) =
    let ix = inside_between z is iy ahead (ahead_then (ahead_field field) (ahead_gap g)) in
    let iw = inside_between z is iy (ahead_then ahead (ahead_field field)) (ahead_gap g) in
    let begins : r.name.start ≡ x.at = ap (λ p. p.start) field.name.reading in
    ap (λ n. has_percent f.new (f.move s.at) (f.move n) || has_percent f.new (f.move r.value.end) (f.move y.at)) begins
    ∙ ap (λ n. has_percent f.new (f.move s.at) (f.move x.at) || has_percent f.new (f.move n) (f.move y.at)) field.ends
    ∙ ap (λ c. c || has_percent f.new (f.move w.at) (f.move y.at)) (percent_there z is ix ahead)
    ∙ ap (λ c. has_percent f.old s.at x.at || c) (percent_there z iw iy (ahead_gap g))
    ∙ ap (λ n. has_percent f.old s.at x.at || has_percent f.old n y.at) (sym field.ends)
    ∙ ap (λ n. has_percent f.old s.at n || has_percent f.old r.value.end y.at) (sym begins)
percents_there {f} {s} {x} {y} z is iy ahead (fields.more {v = w} {f = r} {fs = rs} field g comma g' rest) =
    let past_comma = ahead_then (ahead_gap g) (ahead_then (ahead_char comma) (ahead_gap g')) in
    let over = ahead_then past_comma (ahead_fields rest) in
    let ix = inside_between z is iy ahead (ahead_then (ahead_field field) over) in
    let iw = inside_between z is iy (ahead_then ahead (ahead_field field)) over in
    let begins : r.name.start ≡ x.at = ap (λ p. p.start) field.name.reading in
    ap
    (λ n.
    has_percent f.new (f.move s.at) (f.move n)
    || has_percent_between f.new (f.move r.value.end) (map (moved_field f.move) rs) (f.move y.at)) begins
    ∙ ap
    (λ n.
    has_percent f.new (f.move s.at) (f.move x.at)
    || has_percent_between f.new (f.move n) (map (moved_field f.move) rs) (f.move y.at)) field.ends
    ∙ ap (λ c. c || has_percent_between f.new (f.move w.at) (map (moved_field f.move) rs) (f.move y.at)) (percent_there z is ix ahead)
    ∙ ap (λ c. has_percent f.old s.at x.at || c) (percents_there z iw iy past_comma rest)
    ∙ ap (λ n. has_percent f.old s.at x.at || has_percent_between f.old n rs y.at) (sym field.ends)
    ∙ ap (λ n. has_percent f.old s.at n || has_percent_between f.old r.value.end rs y.at) (sym begins)

-- an entry of a zone has a comment in both texts or in neither
comment_there : {f : Frame} {a b : Place} {e : EntryReading} → Zone f → Inside f a → Inside f b → EntryBlock a e b
    → has_comment f.new (moved_entry f.move e) ≡ has_comment f.old e
comment_there {f} {a} {b} {e} z ia ib x =
    let to_key = ahead_then (ahead_head x.head) (ahead_run x.key.run) in
    let to_fields = ahead_then (ahead_run x.white.run) (ahead_then (ahead_char x.comma) (ahead_gap x.gap)) in
    let to_brace = ahead_then to_fields (ahead_fields x.fields) in
    let key = inside_between z ia ib to_key (ahead_then to_brace (ahead_char x.closes)) in
    let brace = inside_between z ia ib (ahead_then to_key to_brace) (ahead_char x.closes) in
    let key_end : e.key.end ≡ x.key_end.at = ap (λ p. p.end) x.key_is in
    ap (λ n. has_percent_between f.new (f.move n) (map (moved_field f.move) e.fields) (f.move e.end)) key_end
    ∙ ap (λ n. has_percent_between f.new (f.move x.key_end.at) (map (moved_field f.move) e.fields) (f.move n)) x.ends
    ∙ percents_there z key brace to_fields x.fields
    ∙ ap (λ n. has_percent_between f.old x.key_end.at e.fields n) (sym x.ends)
    ∙ ap (λ n. has_percent_between f.old n e.fields e.end) (sym key_end)

-- an entry of a zone is copied in both texts or in neither
copied_there : {f : Frame} {a b : Place} {e : EntryReading} → Zone f → Inside f a → Inside f b → EntryBlock a e b
    → is_copied f.new (moved_entry f.move e) ≡ is_copied f.old e
copied_there {f} {a} {b} {e} z ia ib x =
    ap (λ c. c || list_any has_unbalanced (map (moved_field f.move) e.fields)) (comment_there z ia ib x)
    ∙ ap (λ c. has_comment f.old e || c) (unbalanced_moved f.move e.fields)

-- the copy of an entry parses
kept_read : (line_end : List ℕ) (style : Style) {a b u v : Place} {e : EntryReading} → is_copied a.text e ≡ true
    → EntryBlock a e b → Stands u (between a b) v → EntryRead line_end style (between a b) e u v
kept_read line_end style {a} {b} {u} {v} {e} commented x s =
    let c = entry_copied x s in
    let move = λ (n : ℕ). n - a.at + u.at in
    record {
      reading = moved_entry move e;
      block = c.block;
      alike = entry_placeless move e;
      again =
          ap
          (λ c.
          cond c (between (place u.text (move e.start)) (place u.text (move e.end + 1)))
          (entry_laid_out line_end style u.text (moved_entry move e)))
          (copied_there c.copy.zone c.copy.start c.copy.end x ∙ commented)
          ∙ ap (λ n. between (place u.text n) (place u.text (move e.end + 1))) c.starts
          ∙ ap (λ n. take (n - u.at) (drop u.at u.text)) c.ends ∙ between_stands (between a b) s;
      starts = c.starts;
      ends = c.ends;
    }

-- ---- an entry with a new layout or a copied one

pub entry_read : (line_end : List ℕ) (style : Style) (text : List ℕ) {a b u v : Place} {e : EntryReading}
    → IsLineEnd line_end → a.text ≡ text → EntryBlock a e b → Stands u (entry_in_style line_end style text e) v
    → EntryRead line_end style (entry_in_style line_end style text e) (entry_in_order style text e) u v
entry_read line_end style text {a} {b} {u} {v} {e} ends same x s = by_comment (is_copied text e) refl
  where
    by_comment : (c : Bool) → is_copied text e ≡ c
        → EntryRead line_end style (entry_in_style line_end style text e) (entry_in_order style text e) u v
    by_comment true is =
        let from : e.start ≡ a.at = x.starts in
        let next : b.at ≡ x.brace.at + 1 = x.closes.next in
        let to : e.end + 1 ≡ b.at = omega (arith, x.ends) in
        let kept : entry_in_style line_end style text e ≡ between a b =
        ap (λ c. cond c (between (place text e.start) (place text (e.end + 1))) (entry_laid_out line_end style text e)) is
        ∙ ap (λ n. between (place text n) (place text (e.end + 1))) from ∙ ap (λ n. take (n - a.at) (drop a.at text)) to
        ∙ ap (λ t. take (b.at - a.at) (drop a.at t)) (sym same) in
        let commented : is_copied a.text e ≡ true = ap (λ t. is_copied t e) same ∙ is in
        let as_it_was : entry_in_order style text e ≡ e = ap (λ c. cond c e (ordered style e)) is in
        subst (λ r. EntryRead line_end style (entry_in_style line_end style text e) r u v) (sym as_it_was)
        (subst (λ t. EntryRead line_end style t e u v) (sym kept) (kept_read line_end style commented x (subst (λ t. Stands u t v) kept s)))
    by_comment false is =
        let laid_out : entry_in_style line_end style text e ≡ entry_laid_out line_end style a.text e =
        ap (λ c. cond c (between (place text e.start) (place text (e.end + 1))) (entry_laid_out line_end style text e))
        is ∙ ap (λ t. entry_laid_out line_end style t e) (sym same) in
        let in_its_order : entry_in_order style text e ≡ ordered style e = ap (λ c. cond c e (ordered style e)) is in
        subst (λ r. EntryRead line_end style (entry_in_style line_end style text e) r u v) (sym in_its_order)
        (subst (λ t. EntryRead line_end style t (ordered style e) u v) (sym laid_out)
        (laid_out_read line_end style ends (or_false_right (has_comment text e) (list_any has_unbalanced e.fields) is) x
        (subst (λ t. Stands u t v) laid_out s)))
