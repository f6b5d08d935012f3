-- A match with any runs gives one with the longest runs (lemmas `.._longest`). So the modes `any` and `longest` accept
-- the same texts, for AnyFacts has the converse.
use Rattle.std.proofs.Common.{◌≡◌, ℕ, Bool, true, false, List, [], ◌∷◌, refl, subst, inl, inr, arith}
use Rattle.std.specs.Prelude.{not, ◌&&◌, ◌||◌, ◌==◌}
use Rattle.std.specs.Char.{is_whitespace, is_control, is_ascii_digit}
use Rattle.std.proofs.lemmas.Bool.{cases_Bool, ne_eqb, and_right, not_from_true}
use Rattle.std.proofs.lemmas.Bool.Decides.{nat_tests}
use Rattle.bib_text.specs.Places.{Place, CharAt, Run, Stops, Longest}
use Rattle.bib_text.specs.Places.Run.{stop, step}
use Rattle.bib_text.proofs.PlaceFacts.{run_append, run_push, stops_at, test_clash}
use Rattle.bib_text.proofs.DigitFacts.{digit_dark, white_no_digit}
use Rattle.bib_syntax.specs.Characters.{is_id_start, is_id_continue, is_delimiter, is_key}
use Rattle.bib_syntax.specs.Reading.{Part, Piece, FieldReading, FileReading, empty_reading}
use Rattle.bib_syntax.specs.Grammar.{Identifier, Element, Elements, Field, Gap, Fields, Head, Body, File, any, longest}
use Rattle.bib_syntax.specs.Grammar.{Number as number}
use Rattle.bib_syntax.specs.Grammar.{Element as element}
use Rattle.bib_syntax.specs.Grammar.{Elements as elements}
use Rattle.bib_syntax.specs.Grammar.{Gap as gap}
use Rattle.bib_syntax.specs.Grammar.{Fields as fields}
use Rattle.bib_syntax.specs.Grammar.{Body as body}
use Rattle.bib_syntax.specs.Grammar.{File as file}
use Rattle.bib_syntax.specs.Grammar.{BlockKind}
use Rattle.bib_syntax.proofs.LawFacts.{start_not_white, key_dark}

-- a character of white space is not allowed in an identifier or in a key, and isn't a point

white_not_continue : (c : ℕ) → is_whitespace c ≡ true → is_id_continue c ≡ false
white_not_continue c white = and_right (not (is_delimiter c) && not (is_control c)) (not (is_whitespace c)) (not_from_true _ white)

white_not_key : (c : ℕ) → is_whitespace c ≡ true → is_key c ≡ false
white_not_key c white = and_right (not (c == 44 || c == 125) && not (is_control c)) (not (is_whitespace c)) (not_from_true _ white)

white_not_point : (c : ℕ) → is_whitespace c ≡ true → c == 46 ≡ false
white_not_point c white = grind (arith, nat_tests)

-- a test that fails for white space and for the character after it also fails at the start of this white space
stops_before : (test : ℕ → Bool) {u v x : Place} {c : ℕ} → ((d : ℕ) → is_whitespace d ≡ true → test d ≡ false)
    → Run is_whitespace u v → CharAt v c x → test c ≡ false → Stops test u
stops_before test apart stop char fails = stops_at test char fails
stops_before test apart (step first white rest) char fails = stops_at test first (apart _ white)

-- a run up to a character that fails is the longest run
longest_to : (test : ℕ → Bool) {u v x : Place} {c : ℕ} → Run test u v → CharAt v c x → test c ≡ false → Longest test u v
longest_to test run char fails = record { run = run; stops = stops_at test char fails }

-- whether a character may follow a piece and white space: # , } or the % of a comment
abbrev is_end : ℕ → Bool
is_end c = c == 35 || c == 44 || c == 125 || c == 37

-- the character after a piece and white space
record Following (v : Place) : Type 0 where
  at : Place
  following : Place
  char : ℕ
  white : Run is_whitespace v at
  here : CharAt at char following
  ends : is_end char ≡ true

end_not_digit : (c : ℕ) → is_end c ≡ true → is_ascii_digit c ≡ false
end_not_digit c ends = grind (arith, nat_tests)

end_not_point : (c : ℕ) → is_end c ≡ true → c == 46 ≡ false
end_not_point c ends = grind (arith, nat_tests)

end_not_continue : (c : ℕ) → is_end c ≡ true → is_id_continue c ≡ false
end_not_continue c ends = grind (arith, nat_tests)

element_longest : {u v : Place} {e : Piece} → Element any u e v → Following v → Element longest u e v
element_longest (element.number (number.whole {w = w} c d r e)) b =
    element.number (number.whole c d
    (record { run = r; stops = stops_before is_ascii_digit white_no_digit b.white b.here (end_not_digit b.char b.ends) })
    (stops_before (λ x. x == 46) white_not_point b.white b.here (end_not_point b.char b.ends)))
element_longest (element.number (number.broken c d r p s e)) b =
    element.number (number.broken c d (longest_to is_ascii_digit r p refl) p
    (record { run = s; stops = stops_before is_ascii_digit white_no_digit b.white b.here (end_not_digit b.char b.ends) })
    (stops_before (λ x. x == 46) white_not_point b.white b.here (end_not_point b.char b.ends)))
element_longest (element.named none i) b =
    element.named none (record {
      second = i.second;
      first = i.first;
      here = i.here;
      starts = i.starts;
      reading = i.reading;
      rest = record {
        run = i.rest;
        stops = stops_before is_id_continue white_not_continue b.white b.here (end_not_continue b.char b.ends);
      };
    })
element_longest (element.braced x) b = element.braced x
element_longest (element.quoted q) b = element.quoted q

-- whether a character may follow a field and a gap: , or }
abbrev is_close : ℕ → Bool
is_close c = c == 44 || c == 125

close_ends : (c : ℕ) → is_close c ≡ true → is_end c ≡ true
close_ends c close = grind (arith, nat_tests)

close_not_white : (c : ℕ) → is_close c ≡ true → is_whitespace c ≡ false
close_not_white c close = grind (arith, nat_tests)

close_not_percent : (c : ℕ) → is_close c ≡ true → c == 37 ≡ false
close_not_percent c close = grind (arith, nat_tests)

close_not_sign : (c : ℕ) → is_close c ≡ true → c == 35 ≡ false
close_not_sign c close = grind (arith, nat_tests)

-- white space and a gap after it, cut where the longest white space ends
record WhiteGap (v x : Place) : Type 0 where
  end : Place
  white : Longest is_whitespace v end
  rest : Gap longest end x
  no_sign : Stops (λ c. c == 35) end
  following : Following v

white_gap : {v w x y : Place} {k : ℕ} → Run is_whitespace v w → Gap any w x → CharAt x k y → is_close k ≡ true → WhiteGap v x
white_gap {v} {w} {x} {y} {k} white (gap.white r e) char close =
    let all = longest_to is_whitespace (run_append white r) char (close_not_white k close) in
    record {
      end = x;
      white = all;
      rest = gap.white (record { run = stop; stops = all.stops }) (stops_at (λ c. c == 37) char (close_not_percent k close));
      no_sign = stops_at (λ c. c == 35) char (close_not_sign k close);
      following = record { at = x; following = y; char = k; white = all.run; here = char; ends = close_ends k close };
    }
white_gap {v} {w} {x} {y} {k} white (gap.line_comment {v = a} r m r') char close =
    let all = longest_to is_whitespace (run_append white r) m.sign refl in
    record {
      end = a;
      white = all;
      rest = gap.line_comment (record { run = stop; stops = all.stops }) m (longest_to is_whitespace r' char (close_not_white k close));
      no_sign = stops_at (λ c. c == 35) m.sign refl;
      following = record { at = a; following = m.inside; char = 37; white = all.run; here = m.sign; ends = refl };
    }

-- the character at a place is neither white space nor a percent sign
record Visible (u : Place) : Type 0 where
  char : ℕ
  following : Place
  here : CharAt u char following
  visible : is_whitespace char ≡ false
  no_line_comment : char == 37 ≡ false

digit_no_percent : (c : ℕ) → is_ascii_digit c ≡ true → c == 37 ≡ false
digit_no_percent c digit = grind (arith, nat_tests)

start_no_percent : (c : ℕ) → is_id_start c ≡ true → c == 37 ≡ false
start_no_percent c starts = ne_eqb c 37 (λ same. test_clash (is_id_start 37) (subst (λ x. is_id_start x ≡ true) same starts) refl)

digit_first : {u x : Place} {c : ℕ} → CharAt u c x → is_ascii_digit c ≡ true → Visible u
digit_first {u} {x} {c} char digit = record {
  char = c;
  following = x;
  here = char;
  visible = digit_dark c digit;
  no_line_comment = digit_no_percent c digit;
}

name_first : {u v : Place} {p : Part} → Identifier any u p v → Visible u
name_first i = record {
  char = i.first;
  following = i.second;
  here = i.here;
  visible = start_not_white i.first i.starts;
  no_line_comment = start_no_percent i.first i.starts;
}

element_first : {u v : Place} {e : Piece} → Element any u e v → Visible u
element_first (element.number (number.whole c d r e)) = digit_first c d
element_first (element.number (number.broken c d r p s e)) = digit_first c d
element_first (element.named none i) = name_first i
element_first (element.braced b) = record { char = 123; following = b.inside; here = b.opens; visible = refl; no_line_comment = refl }
element_first (element.quoted q) = record { char = 34; following = q.inside; here = q.opens; visible = refl; no_line_comment = refl }

elements_first : {u v : Place} {es : List Piece} → Elements any u es v → Visible u
elements_first (elements.last e w ends) = element_first e
elements_first (elements.more e w s w' rest) = element_first e

-- pieces with the longest runs, and a gap after them up to `x`
record ElementsLongest (u : Place) (es : List Piece) (x : Place) : Type 0 where
  end : Place
  elements : Elements longest u es end
  rest : Gap longest end x

elements_longest : {u w x y : Place} {k : ℕ} {es : List Piece} → Elements any u es w → Gap any w x → CharAt x k y
    → is_close k ≡ true → ElementsLongest u es x
elements_longest (elements.last e white ends) g char close =
    let cut = white_gap white g char close in
    record { end = cut.end; elements = elements.last (element_longest e cut.following) cut.white cut.no_sign; rest = cut.rest }
elements_longest (elements.more {w = w} {x = b} e white sign white' rest) g char close =
    let more = elements_longest rest g char close in
    let first = elements_first rest in
    record {
      end = more.end;
      elements = elements.more (element_longest e (record { at = w; following = b; char = 35; white = white; here = sign; ends = refl }))
          (longest_to is_whitespace white sign refl) sign (longest_to is_whitespace white' first.here first.visible) more.elements;
      rest = more.rest;
    }

-- a name is as long as possible if white space and a character that can't continue a name follow it
name_longest : {u v w x : Place} {p : Part} {c : ℕ} → Identifier any u p v → Run is_whitespace v w → CharAt w c x
    → is_id_continue c ≡ false → Identifier longest u p v
name_longest i white char fails = record {
  second = i.second;
  first = i.first;
  here = i.here;
  starts = i.starts;
  reading = i.reading;
  rest = record { run = i.rest; stops = stops_before is_id_continue white_not_continue white char fails };
}

-- a field with the longest runs, and a gap after it up to `x`
record FieldLongest (u x : Place) : Type 0 where
  end : Place
  says : FieldReading
  field : Field longest u says end
  rest : Gap longest end x

field_longest : {u w x y : Place} {k : ℕ} {f : FieldReading} → Field any u f w → Gap any w x → CharAt x k y
    → is_close k ≡ true → FieldLongest u x
field_longest {f = f} a g char close =
    let more = elements_longest a.elements g char close in
    let first = elements_first a.elements in
    record {
      end = more.end;
      says = record { name = f.name; value = record { pieces = f.value.pieces; start = f.value.start; end = more.end.at } };
      field = record {
        name_end = a.name_end;
        before_sign = a.before_sign;
        after_sign = a.after_sign;
        value_start = a.value_start;
        name = name_longest a.name a.white a.sign refl;
        white = longest_to is_whitespace a.white a.sign refl;
        sign = a.sign;
        white' = longest_to is_whitespace a.white' first.here first.visible;
        elements = more.elements;
        starts = a.starts;
        ends = refl;
      };
      rest = more.rest;
    }

-- a gap is as long as possible before a character that is neither white space nor a percent sign
gap_longest : {u v : Place} → Gap any u v → Visible v → Gap longest u v
gap_longest (gap.white r e) first =
    gap.white (longest_to is_whitespace r first.here first.visible)
    (stops_at (λ c. c == 37) first.here first.no_line_comment)
gap_longest (gap.line_comment r m r') first =
    gap.line_comment (longest_to is_whitespace r m.sign refl) m (longest_to is_whitespace r' first.here first.visible)

-- a gap and the white space after it are one gap, as long as possible, before such a character
gap_white : {u v w : Place} → Gap any u v → Run is_whitespace v w → Visible w → Gap longest u w
gap_white (gap.white r e) white first = gap_longest (gap.white (run_append r white) e) first
gap_white (gap.line_comment r m r') white first = gap_longest (gap.line_comment r m (run_append r' white)) first

close_visible : {v y : Place} {k : ℕ} → CharAt v k y → is_close k ≡ true → Visible v
close_visible {v} {y} {k} char close = record {
  char = k;
  following = y;
  here = char;
  visible = close_not_white k close;
  no_line_comment = close_not_percent k close;
}

-- fields with the longest runs that end at `v`
record FieldsLongest (v : Place) : Type 0 where
  start : Place
  says : List FieldReading
  fields : Fields longest start says v

-- a gap from `a`, and fields after it up to `v`
record GapFields (a v : Place) : Type 0 where
  fields : FieldsLongest v
  before : Gap longest a fields.start

gap_fields : {a u v y : Place} {fs : List FieldReading} → Gap any a u → Fields any u fs v → CharAt v 125 y → GapFields a v
gap_fields {v = v} g (fields.none white) close =
    let visible = close_visible close refl in
    record {
      fields = record {
        start = v;
        says = [];
        fields = fields.none (record { run = stop; stops = stops_at is_whitespace close refl });
      };
      before = gap_white g white visible;
    }
gap_fields {u = u} g (fields.last f h) close =
    let one = field_longest f h close refl in
    record {
      fields = record { start = u; says = one.says ∷ []; fields = fields.last one.field one.rest };
      before = gap_longest g (name_first f.name);
    }
gap_fields {u = u} g (fields.more f h comma h' rest) close =
    let one = field_longest f h comma refl in
    let more = gap_fields h' rest close in
    record {
      fields = record {
        start = u;
        says = one.says ∷ more.fields.says;
        fields = fields.more one.field one.rest comma more.before more.fields.fields;
      };
      before = gap_longest g (name_first f.name);
    }

-- the longest white space from `a`, and fields after it up to `v`
record WhiteFields (a v : Place) : Type 0 where
  fields : FieldsLongest v
  before : Longest is_whitespace a fields.start

white_fields : {a u v y : Place} {fs : List FieldReading} → Run is_whitespace a u → Fields any u fs v → CharAt v 125 y → WhiteFields a v
white_fields {v = v} run (fields.none white) close =
    record {
      fields = record {
        start = v;
        says = [];
        fields = fields.none (record { run = stop; stops = stops_at is_whitespace close refl });
      };
      before = longest_to is_whitespace (run_append run white) close refl;
    }
white_fields {u = u} run (fields.last f h) close =
    let one = field_longest f h close refl in
    let first = name_first f.name in
    record {
      fields = record { start = u; says = one.says ∷ []; fields = fields.last one.field one.rest };
      before = longest_to is_whitespace run first.here first.visible;
    }
white_fields {u = u} run (fields.more f h comma h' rest) close =
    let one = field_longest f h comma refl in
    let more = gap_fields h' rest close in
    let first = name_first f.name in
    record {
      fields = record {
        start = u;
        says = one.says ∷ more.fields.says;
        fields = fields.more one.field one.rest comma more.before more.fields.fields;
      };
      before = longest_to is_whitespace run first.here first.visible;
    }

-- white space and a run after it, cut where the longest white space ends
record WhiteRun (test : ℕ → Bool) (u w : Place) : Type 0 where
  end : Place
  white : Longest is_whitespace u end
  rest : Run test end w

white_run : (test : ℕ → Bool) {u v w x : Place} {k : ℕ} → Run is_whitespace u v → Run test v w → CharAt w k x
    → is_whitespace k ≡ false → WhiteRun test u w
white_run test {v = v} white stop char visible = record { end = v; white = longest_to is_whitespace white char visible; rest = stop }
white_run test {u} {v} {w} {x} {k} white (step {c = c} first passes rest) char visible =
    elim (cases_Bool (is_whitespace c)) [
      | inl more ↦ white_run test (run_push white first more) rest char visible
      | inr ends ↦ record { end = v; white = longest_to is_whitespace white first ends; rest = step first passes rest }
    ]

brace_no_name : (c : ℕ) → c == 123 || c == 34 ≡ true → is_id_continue c ≡ false
brace_no_name c brace = grind (arith, nat_tests)

brace_visible : (c : ℕ) → c == 123 || c == 34 ≡ true → is_whitespace c ≡ false
brace_visible c brace = grind (arith, nat_tests)

closing_visible : (c : ℕ) → c == 125 || c == 34 ≡ true → is_whitespace c ≡ false
closing_visible c brace = grind (arith, nat_tests)

head_longest : {u v w : Place} {p : Part} → (h : Head any u p w) → Longest is_whitespace h.after_brace v → Head longest u p v
head_longest h white = record {
  name_start = h.name_start;
  name_end = h.name_end;
  before_brace = h.before_brace;
  after_brace = h.after_brace;
  brace = h.brace;
  sign = h.sign;
  name = name_longest h.name h.white h.opens (brace_no_name h.brace h.is_brace);
  white = longest_to is_whitespace h.white h.opens (brace_visible h.brace h.is_brace);
  opens = h.opens;
  is_brace = h.is_brace;
  white' = white;
}

-- the longest white space, and the body of a block after it
record WhiteBody (start : Place) (p : Part) (k : BlockKind) (u v : Place) : Type 0 where
  inside : Place
  says : FileReading
  white : Longest is_whitespace u inside
  body : Body longest start p k inside says v

body_longest : {start a u v : Place} {p : Part} {k : BlockKind} {r : FileReading} → Run is_whitespace a u
    → Body any start p k u r v → WhiteBody start p k a v
body_longest run (body.comment b inside close) =
    let cut = white_run (λ c. not (c == 125)) run inside close refl in
    record {
      inside = cut.end;
      says = empty_reading;
      white = cut.white;
      body = body.comment b (longest_to (λ c. not (c == 125)) cut.rest close refl) close;
    }
body_longest {u = u} run (body.preamble {c = c} quoted white close shuts) =
    record {
      inside = u;
      says = _;
      white = longest_to is_whitespace run quoted.opens refl;
      body = body.preamble quoted (longest_to is_whitespace white close (closing_visible c shuts)) close shuts;
    }
body_longest run (body.strings inner close) =
    let cut = white_fields run inner close in
    record { inside = cut.fields.start; says = _; white = cut.before; body = body.strings cut.fields.fields close }
body_longest run (body.entry b stop white comma g inner close) =
    let cut = gap_fields g inner close in
    let all = longest_to is_whitespace (run_append run white) comma refl in
    record {
      inside = _;
      says = _;
      white = all;
      body =
          body.entry _ (longest_to is_key stop comma refl) (longest_to is_whitespace stop comma refl) comma cut.before
          cut.fields.fields close;
    }
body_longest {u = u} run (body.entry b (step {c = c} first passes rest) white comma g inner close) =
    let cut = gap_fields g inner close in
    record {
      inside = u;
      says = _;
      white = longest_to is_whitespace run first (key_dark c passes);
      body = body.entry b (record { run = step first passes rest; stops = stops_before is_key white_not_key white comma refl })
          (longest_to is_whitespace white comma refl) comma cut.before cut.fields.fields close;
    }

-- a file that matches in the mode `any` matches in the mode `longest`
pub file_longest : {u : Place} {r : FileReading} → File any u r → (s : FileReading) × File longest u s
file_longest (file.end end) = (empty_reading, file.end end)
file_longest (file.skipped char passes x) = let more = file_longest x in (more.0, file.skipped char passes more.1)
file_longest (file.line_comment m x) = let more = file_longest x in (more.0, file.line_comment m more.1)
file_longest (file.block b x) =
    let more = file_longest x in
    let cut = body_longest b.head.white' b.body in
    (_, file.block (record { inside = cut.inside; kind = b.kind; head = head_longest b.head cut.white; body = cut.body }) more.1)
