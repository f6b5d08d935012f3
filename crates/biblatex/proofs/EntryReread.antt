-- The file grammar, with longest runs, parses the output for valid entries and files.
use Rattle.std.proofs.Common.{◌≡◌, ℕ, false, List, [], ◌∷◌, ◌++◌, length, refl, sym, ap, ◌∙◌, subst, arith, drop}
use Rattle.std.specs.Prelude.{encode_utf8_all, codes, ◌==◌}
use Rattle.std.specs.Char.{is_whitespace}
use Rattle.std.specs.List.{AllByRecursion, flat_map}
use lib.Utf8.{encode}
use Rattle.std.specs.Str.{IsUtf8}
use Rattle.bib_text.specs.Places.{Place, place, CharAt, Run, Stops, AtEnd}
use Rattle.bib_text.specs.Places.Run.{stop, step}
use Rattle.bib_text.specs.Braces.{Parts}
use Rattle.bib_text.proofs.PlaceFacts.{same_place, stops_at}
use Rattle.bib_syntax.specs.Characters.{is_key, is_id_start, is_id_continue}
use Rattle.bib_syntax.specs.Reading.{Part, part, FieldReading, EntryReading}
use Rattle.bib_syntax.specs.Reading.Piece.{literal}
use Rattle.bib_syntax.specs.Grammar.{Identifier, Gap, Fields, Head, Body, Block, File, block_kind}
use Rattle.bib_syntax.specs.Grammar.Mode.{longest}
use Rattle.bib_contents.proofs.UnitFacts.{other_than}
use Rattle.biblatex.proofs.StandsFacts.{Stands, stands_none, stands_split, stands_char, stands_between, moved, char_moved, run_moved, utf8_char, utf8_run}
use Rattle.biblatex.proofs.WrittenParts.{Spells}
use Rattle.biblatex.proofs.FileReread.{FieldRead, field_read, identifier_stands, no_white}
use Rattle.biblatex.specs.Settled.{IsIdentifier}
use Rattle.bib_syntax.proofs.LawFacts.{key_dark, start_not_white}

-- a line: the name of a field, and the characters of its value between the braces
abbrev pub Line : Type 0
Line = List ℕ × List ℕ

-- the bytes of a line
abbrev pub line_text : Line → List ℕ
line_text l = l.0 ++ (codes " = " ++ (encode_utf8_all (123 ∷ (l.1 ++ 125 ∷ [])) ++ codes ",\n"))

-- the name of a line is an identifier, and the braces in its value are balanced
pub record IsLine (l : Line) : Type 0 where
  pub identifier : IsIdentifier l.0
  pub parts : (x y : Place) → Spells x l.1 y → Parts x y

-- a raw field has the name and the value of a line
pub record SaysLine (l : Line) (f : FieldReading) : Type 0 where
  pub name : f.name.text ≡ l.0
  pub inside : Place
  pub following : Place
  pub pieces : f.value.pieces ≡ literal (part inside following) ∷ []
  pub spells : Spells inside l.1 following
  pub utf8 : IsUtf8 (encode_utf8_all l.1)

-- raw fields have the names and values of lines, in order
abbrev pub SayLines : List Line → List FieldReading → Type 0
SayLines [] [] = Unit {0}
SayLines [] (f ∷ fs) = ⊥
SayLines (l ∷ ls) [] = ⊥
SayLines (l ∷ ls) (f ∷ fs) = SaysLine l f × SayLines ls fs

-- the next character is neither white space nor a percent sign
pub record Plainly (u : Place) : Type 0 where
  pub char : ℕ
  pub next : Place
  pub here : CharAt u char next
  pub dark : is_whitespace char ≡ false
  pub plain : (char == 37) ≡ false

-- neither white space nor a percent sign occurs where an identifier begins
identifier_plainly : {name : List ℕ} {u v : Place} → IsIdentifier name → Stands u name v → Plainly u
identifier_plainly {name} {u} {v} i stands =
    let first : moved u (place name 0) ≡ u = same_place {u = moved u (place name 0)} {v = u} refl (omega arith) in
    record {
      char = i.1.first;
      next = moved u i.1.second;
      here = subst (λ p. CharAt p i.1.first (moved u i.1.second)) first (char_moved stands refl i.1.here);
      dark = start_not_white i.1.first i.1.starts;
      plain = other_than is_id_start i.1.first 37 i.1.starts refl;
    }

-- neither white space nor a percent sign occurs at the start of lines, possibly none, that a closing brace follows
lines_plainly : (ls : List Line) {u w x : Place} → AllByRecursion IsLine ls → Stands u (flat_map line_text ls) w
    → CharAt w 125 x → Plainly u
lines_plainly [] {u} {w} {x} all stands closes = record {
  char = 125;
  next = x;
  here = subst (λ p. CharAt p 125 x) (stands_none stands) closes;
  dark = refl;
  plain = refl;
}
lines_plainly (l ∷ ls) all stands closes =
    let one = stands_split (line_text l) (flat_map line_text ls) stands in
    identifier_plainly all.0.identifier
    (stands_split l.0 (codes " = " ++ (encode_utf8_all (123 ∷ (l.1 ++ 125 ∷ [])) ++ codes ",\n")) one.1).1

-- a line feed is a gap if a character that is neither white space nor a percent sign follows
gap_feed : {u v : Place} → CharAt u 10 v → Plainly v → Gap longest u v
gap_feed feed following =
    Gap.white (record { run = step feed refl stop; stops = stops_at is_whitespace following.here following.dark })
    (stops_at (λ c. c == 37) following.here following.plain)

-- valid lines in UTF-8 text, followed by a closing brace, are parsed as raw fields with their names and values
pub fields_read : (ls : List Line) {u w x : Place} → AllByRecursion IsLine ls → IsUtf8 (drop u.at u.text)
    → Stands u (flat_map line_text ls) w → CharAt w 125 x
    → (fs : List FieldReading) × Fields longest u fs w × SayLines ls fs × IsUtf8 (drop w.at w.text)
fields_read [] {u} {w} {x} all utf8 stands closes = (
  [],
  subst (λ p. Fields longest p [] w) (stands_none stands) (Fields.none (no_white closes refl)),
  tt,
  subst (λ p. IsUtf8 (drop p.at p.text)) (sym (stands_none stands)) utf8,
)
fields_read (l ∷ ls) {u} {w} all utf8 stands closes =
    let cut = stands_split (line_text l) (flat_map line_text ls) stands in
    let one : FieldRead l.0 l.1 u cut.0 = field_read l.0 l.1 all.0.identifier.1 all.0.parts cut.1 in
    let texts = one.utf8 utf8 in
    let more = fields_read ls all.1 texts.1 cut.2 closes in
    let before_comma : Gap longest one.end one.end = Gap.white (no_white one.comma refl) (stops_at (λ c. c == 37) one.comma refl) in
    let said : SaysLine l one.says =
    record {
      name = one.named;
      inside = one.inside;
      following = one.following;
      pieces = one.pieces;
      spells = one.spells;
      utf8 = texts.0;
    } in (
      one.says ∷ more.0,
      Fields.more one.field before_comma one.comma (gap_feed one.feed (lines_plainly ls all.1 cut.2 closes)) more.1,
      (said, more.2),
      more.3,
    )

-- the parts of an entry in the output: the name of its type, its key and its lines
pub record WrittenEntry : Type 0 where
  pub kind : List ℕ
  pub key : List ℕ
  pub lines : List Line

-- the bytes of an entry
abbrev pub entry_bytes : WrittenEntry → List ℕ
entry_bytes e = 64 ∷ (e.kind ++ (123 ∷ (e.key ++ (44 ∷ 10 ∷ (flat_map line_text e.lines ++ 125 ∷ [])))))

-- the parts of an entry are valid: a type that begins an entry, key characters and valid lines
pub record IsWritten (e : WrittenEntry) : Type 0 where
  pub kind : IsIdentifier e.kind
  pub entry : block_kind e.kind ≡ block_kind (codes "misc")
  pub key : Run is_key (place e.key 0) (place e.key (length e.key))
  pub lines : AllByRecursion IsLine e.lines

-- a raw entry has the type, the key and the lines of these parts
pub record SaysEntry (e : WrittenEntry) (said : EntryReading) : Type 0 where
  pub kind : said.kind.text ≡ e.kind
  pub key : said.key.text ≡ e.key
  pub lines : SayLines e.lines said.fields

-- no white space occurs at the start of a key, possibly empty, that a comma follows
key_first : {u v w : Place} → Run is_key u v → CharAt v 44 w → Stops is_whitespace u
key_first stop comma = stops_at is_whitespace comma refl
key_first (step {c = c} char passes rest) comma = stops_at is_whitespace char (key_dark c passes)

-- a run of key characters is such a run wherever it occurs
key_stands : {key : List ℕ} {u v : Place} → Stands u key v → Run is_key (place key 0) (place key (length key)) → Run is_key u v
key_stands {key} {u} {v} stands run =
    let first : moved u (place key 0) ≡ u = same_place {u = moved u (place key 0)} {v = u} refl (omega arith) in
    let last : moved u (place key (length key)) ≡ v =
    same_place {u = moved u (place key (length key))} {v = v} (sym stands.same) (sym stands.next) in
    subst (λ p. Run is_key p v) first (subst (λ p. Run is_key (moved u (place key 0)) p) last (run_moved stands refl run))

-- the result of parsing an entry as a block
pub record BlockRead (e : WrittenEntry) (u v : Place) : Type 0 where
  pub said : EntryReading
  pub block : Block longest u (record { preamble = []; entries = said ∷ []; abbreviations = [] }) v
  pub says : SaysEntry e said
  pub utf8 : IsUtf8 (drop v.at v.text)

-- if the parts of an entry are valid, its bytes, in UTF-8 text, are parsed as a block with one raw entry
pub block_read : (e : WrittenEntry) {u w : Place} → IsWritten e → IsUtf8 (drop u.at u.text)
    → Stands u (entry_bytes e) w → BlockRead e u w
unfolding encode
block_read e {u} {w} right utf8 stands =
    let rest_key : List ℕ = 44 ∷ 10 ∷ (flat_map line_text e.lines ++ 125 ∷ []) in
    let a = stands_char 64 (e.kind ++ (123 ∷ (e.key ++ rest_key))) stands in
    let b = stands_split e.kind (123 ∷ (e.key ++ rest_key)) a.2 in
    let c = stands_char 123 (e.key ++ rest_key) b.2 in
    let d = stands_split e.key rest_key c.2 in
    let f = stands_char 44 (10 ∷ (flat_map line_text e.lines ++ 125 ∷ [])) d.2 in
    let g = stands_char 10 (flat_map line_text e.lines ++ 125 ∷ []) f.2 in
    let h = stands_split (flat_map line_text e.lines) (125 ∷ []) g.2 in
    let i = stands_char 125 [] h.2 in
    let closes : CharAt h.0 125 w = subst (λ q. CharAt h.0 125 q) (sym (stands_none i.2)) i.1 in
    let key : Run is_key c.0 d.0 = key_stands d.1 right.key in
    let name : Identifier longest a.0 (part a.0 b.0) b.0 = identifier_stands b.1 right.kind.1 (stops_at is_id_continue c.1 refl) in
    let start : IsUtf8 (drop g.0.at g.0.text) =
    utf8_char g.1
    (utf8_char f.1
    (utf8_run key (utf8_char c.1 (utf8_run name.rest.run (utf8_char name.here (utf8_char a.1 utf8)))))) in
    let fields = fields_read e.lines right.lines start h.1 closes in
    let kind : Part = part a.0 b.0 in
    let kind_is : kind.text ≡ e.kind = stands_between b.1 in
    let said : EntryReading = record { key = part c.0 d.0; kind = kind; fields = fields.0; start = u.at; end = h.0.at } in
    let head : Head longest u kind c.0 = record {
      name_start = a.0;
      name_end = b.0;
      before_brace = b.0;
      after_brace = c.0;
      brace = 123;
      sign = a.1;
      name = name;
      white = no_white c.1 refl;
      opens = c.1;
      is_brace = refl;
      white' = record { run = stop; stops = key_first key f.1 };
    } in
    let body : Body longest u kind (block_kind (codes "misc")) c.0 (record { preamble = []; entries = said ∷ []; abbreviations = [] }) w =
    Body.entry d.0 (record { run = key; stops = stops_at is_key f.1 refl }) (no_white f.1 refl) f.1
    (gap_feed g.1 (lines_plainly e.lines right.lines h.1 closes)) fields.1 closes in
    record {
      said = said;
      block = record {
        inside = c.0;
        kind = kind;
        head = head;
        body =
            subst (λ k. Body longest u kind k c.0 (record { preamble = []; entries = said ∷ []; abbreviations = [] }) w)
            (sym (ap block_kind kind_is ∙ right.entry)) body;
      };
      says = record { kind = kind_is; key = stands_between d.1; lines = fields.2 };
      utf8 = utf8_char closes fields.3;
    }

-- the bytes of entries: a line feed ends each, and an empty line is between two
abbrev pub file_bytes : List WrittenEntry → List ℕ
file_bytes [] = []
file_bytes (e ∷ []) = entry_bytes e ++ 10 ∷ []
file_bytes (e ∷ next ∷ rest) = entry_bytes e ++ (10 ∷ 10 ∷ file_bytes (next ∷ rest))

-- raw entries have the parts of these entries, in order
abbrev pub SayEntries : List WrittenEntry → List EntryReading → Type 0
SayEntries [] [] = Unit {0}
SayEntries [] (s ∷ ss) = ⊥
SayEntries (e ∷ es) [] = ⊥
SayEntries (e ∷ es) (s ∷ ss) = SaysEntry e s × SayEntries es ss

-- the result of parsing a file of entries
pub record FileAgain (es : List WrittenEntry) (u : Place) : Type 0 where
  pub said : List EntryReading
  pub file : File longest u (record { preamble = []; entries = said; abbreviations = [] })
  pub says : SayEntries es said

-- if the parts of entries are valid, their bytes, up to the end of UTF-8 text, are parsed as a file with one raw entry for each
pub file_again : (es : List WrittenEntry) {u w : Place} → AllByRecursion IsWritten es → IsUtf8 (drop u.at u.text)
    → Stands u (file_bytes es) w → AtEnd w → FileAgain es u
unfolding encode
file_again [] {u} {w} all utf8 stands end = record { said = []; file = File.end (subst (λ p. AtEnd p) (stands_none stands) end); says = tt }
file_again (e ∷ []) {u} {w} all utf8 stands end =
    let a = stands_split (entry_bytes e) (10 ∷ []) stands in
    let one = block_read e all.0 utf8 a.1 in
    let b = stands_char 10 [] a.2 in
    record {
      said = one.said ∷ [];
      file = File.block one.block (File.skipped b.1 refl (File.end (subst (λ p. AtEnd p) (stands_none b.2) end)));
      says = (one.says, tt);
    }
file_again (e ∷ next ∷ rest) {u} {w} all utf8 stands end =
    let a = stands_split (entry_bytes e) (10 ∷ 10 ∷ file_bytes (next ∷ rest)) stands in
    let one = block_read e all.0 utf8 a.1 in
    let b = stands_char 10 (10 ∷ file_bytes (next ∷ rest)) a.2 in
    let c = stands_char 10 (file_bytes (next ∷ rest)) b.2 in
    let more = file_again (next ∷ rest) all.1 (utf8_char c.1 (utf8_char b.1 one.utf8)) c.2 end in
    record {
      said = one.said ∷ more.said;
      file = File.block one.block (File.skipped b.1 refl (File.skipped c.1 refl more.file));
      says = (one.says, more.says);
    }
