-- How blocks are parsed one by one.
use Rattle.std.proofs.Common.{◌≡◌, ℕ, ◌-◌, ◌<◌, length, Bool, true, List, [], ◌∷◌, ◌++◌, refl, sym, ap, ◌∙◌, subst, append_assoc, append-nil, codes}
use Rattle.std.proofs.lemmas.Bool.{ne_eqb}
use Rattle.std.specs.Prelude.{not, ◌==◌, ◌&&◌, ◌||◌}
use Rattle.std.specs.Char.{is_whitespace}
use Rattle.bib_text.specs.Places.{Place, CharAt, Run, Longest, AtEnd, between}
use Rattle.bib_text.specs.Places.Run.{stop, step}
use Rattle.bib_text.proofs.PlaceFacts.{same_char, char_clash, pass_clash, longest_same, longest_rest, left_smaller, Ahead, ahead_here, ahead_then, ahead_char, ahead_run, no_char_at_end}
pub use Rattle.bib_syntax.specs.EntryReader.{FileRead}
use Rattle.bib_syntax.specs.Characters.{is_key}
use Rattle.bib_syntax.specs.Reading.{Part, part, FieldReading, EntryReading, FileReading, empty_reading, then, joined_preambles}
use Rattle.bib_syntax.specs.Grammar.{Identifier, LineComment, Gap, Fields, Head, Body, Block, File, block_kind, longest}
use Rattle.bib_syntax.specs.SyntaxErrors.{BodyFails, BlockFails, FileFails}
use Rattle.bib_syntax.specs.SyntaxErrors.{FileFails as file_fail}
use Rattle.bib_syntax.specs.SyntaxErrors.{BlockFails as block_fail}
use Rattle.bib_syntax.specs.declared.raw.ParseErrorKind.{ParseErrorKind}
use Rattle.bib_syntax.specs.Grammar.{Body as body}
use Rattle.bib_syntax.specs.Grammar.{File as file}
use Rattle.bib_syntax.specs.Grammar.{BlockKind}
use Rattle.bib_syntax.proofs.LawFacts.{moved, identifier_same, quoted_same, gap_same, fields_same, line_comment_same}
use Rattle.bib_syntax.proofs.FieldFacts.{ahead_identifier, ahead_quoted, ahead_gap, ahead_fields}

pub head_same : {u v w : Place} {p q : Part} → Head longest u p v → Head longest u q w → (p ≡ q) × (v ≡ w)
head_same a b =
    let name = identifier_same (subst (λ x. Identifier longest x _ _) (same_char a.sign b.sign).1 a.name) b.name in
    let white = longest_same (moved (Longest is_whitespace) name.1 a.white) b.white in
    let brace = (same_char (subst (λ x. CharAt x a.brace a.after_brace) white a.opens) b.opens).1 in
    (name.0, longest_same (moved (Longest is_whitespace) brace a.white') b.white')

pub ahead_head : {u v : Place} {p : Part} → Head longest u p v → Ahead u v
ahead_head h =
    ahead_then (ahead_char h.sign)
    (ahead_then (ahead_identifier h.name)
    (ahead_then (ahead_run h.white.run) (ahead_then (ahead_char h.opens) (ahead_run h.white'.run))))

-- whether a character isn't a closing brace
abbrev pub not_close : ℕ → Bool
not_close c = not (c == 125)

pub body_same : {start u v w : Place} {p : Part} {k : BlockKind} {r s : FileReading} → Body longest start p k u r v
    → Body longest start p k u s w → (r ≡ s) × (v ≡ w)
body_same (body.comment a inside close) (body.comment b inside' close') =
    (refl, (same_char (moved (λ x y. CharAt x 125 y) (longest_same inside inside') close) close').1)
body_same {u = u} {v = v} (body.preamble {c = c} quoted white close is_close) (body.preamble quoted' white' close' is_close') =
    let end = (quoted_same quoted quoted').1 in
    let there = longest_same (moved (Longest is_whitespace) end white) white' in (
      ap (λ x. let r : FileReading = record { preamble = between u x; entries = []; abbreviations = [] } in r) end,
      (same_char (subst (λ x. CharAt x c v) there close) close').1,
    )
body_same (body.strings fields close) (body.strings fields' close') =
    let same = fields_same fields close fields' close' in (
      ap (λ fs. let r : FileReading = record { preamble = []; entries = []; abbreviations = fs } in r) same.0,
      (same_char (moved (λ x y. CharAt x 125 y) same.1 close) close').1,
    )
body_same {start} {u} {p = p} (body.entry {z = z} {fs = fs} a key white comma gap fields close)
    (body.entry {z = z'} {fs = fs'} b key' white' comma' gap' fields' close') =
    let end = longest_same key key' in
    let there = longest_same (moved (Longest is_whitespace) end white) white' in
    let following = (same_char (moved (λ x y. CharAt x 44 y) there comma) comma').1 in
    let begin = gap_same (moved (Gap longest) following gap) gap' in
    let same = fields_same (subst (λ x. Fields longest x fs z) begin fields) close fields' close' in
    let says : Place → List FieldReading → Place → FileReading =
    λ x gs y.
    record {
      preamble = [];
      entries = record { key = part u x; kind = p; fields = gs; start = start.at; end = y.at } ∷ [];
      abbreviations = [];
    } in (
      ap (λ x. says x fs z) end ∙ ap (λ gs. says b gs z) same.0 ∙ ap (says b fs') same.1,
      (same_char (moved (λ x y. CharAt x 125 y) same.1 close) close').1,
    )

pub ahead_body : {start u v : Place} {p : Part} {k : BlockKind} {r : FileReading} → Body longest start p k u r v → Ahead u v
ahead_body (body.comment a inside close) = ahead_then (ahead_run inside.run) (ahead_char close)
ahead_body (body.preamble quoted white close is_close) =
    ahead_then (ahead_quoted quoted) (ahead_then (ahead_run white.run) (ahead_char close))
ahead_body (body.strings fields close) = ahead_then (ahead_fields fields) (ahead_char close)
ahead_body (body.entry a key white comma gap fields close) =
    ahead_then (ahead_run key.run)
    (ahead_then (ahead_run white.run)
    (ahead_then (ahead_char comma)
    (ahead_then (ahead_gap gap) (ahead_then (ahead_fields fields) (ahead_char close)))))

pub ahead_block : {u v : Place} {r : FileReading} → Block longest u r v → Ahead u v
ahead_block b = ahead_then (ahead_head b.head) (ahead_body b.body)

-- the body of a block begins where any match of its head ends
pub body_at : {u a v : Place} {p : Part} {r : FileReading} → Head longest u p a → (b : Block longest u r v)
    → Body longest u p (block_kind p.text) a r v
body_at {u} {a} {v} {p} {r} head b =
    let same = head_same b.head head in
    subst (λ x. Body longest u p (block_kind p.text) x r v) same.1
    (subst (λ q. Body longest u q (block_kind q.text) b.inside r v) same.0 b.body)

pub block_same : {u v w : Place} {r s : FileReading} → Block longest u r v → Block longest u s w → (r ≡ s) × (v ≡ w)
block_same a b = body_same a.body (body_at a.head b)

-- a block fails if its body fails after its head
pub body_fails : {u a v : Place} {p : Part} {kind : ParseErrorKind} (k : BlockKind) → Head longest u p a
    → k ≡ block_kind p.text → BodyFails k a kind v → BlockFails u kind v
body_fails {u} {a} {v} {p} {kind} k head is f = block_fail.body head (subst (λ b. BodyFails b a kind v) is f)

-- joining preambles is associative, and an empty preamble at the end adds nothing
joined_preambles-nil : (p : List ℕ) → joined_preambles p [] ≡ p
joined_preambles-nil [] = refl
joined_preambles-nil (b ∷ bs) = refl

texts-joined_preambles : (p sign q r : List ℕ) → p ++ sign ++ q ++ sign ++ r ≡ p ++ sign ++ (q ++ sign ++ r)
texts-joined_preambles p sign q r = simp append_assoc

pub joined_preambles-joined_preambles : (p q r : List ℕ)
    → joined_preambles (joined_preambles p q) r ≡ joined_preambles p (joined_preambles q r)
joined_preambles-joined_preambles [] q r = refl
joined_preambles-joined_preambles (b ∷ bs) [] r = refl
joined_preambles-joined_preambles (b ∷ bs) (c ∷ cs) [] = refl
joined_preambles-joined_preambles (b ∷ bs) (c ∷ cs) (d ∷ ds) = texts-joined_preambles (b ∷ bs) (codes " # ") (c ∷ cs) (d ∷ ds)

pub then-then : (a b c : FileReading) → then (then a b) c ≡ then a (then b c)
then-then a b c =
    let entries : (a.entries ++ b.entries) ++ c.entries ≡ a.entries ++ (b.entries ++ c.entries) = simp append_assoc in
    let abbreviations : (a.abbreviations ++ b.abbreviations) ++ c.abbreviations ≡ a.abbreviations
    ++ (b.abbreviations ++ c.abbreviations) =
    simp append_assoc in
    let build : List ℕ → List EntryReading → List FieldReading → FileReading =
    λ p es fs. record { preamble = p; entries = es; abbreviations = fs } in
    ap (λ p. build p ((a.entries ++ b.entries) ++ c.entries) ((a.abbreviations ++ b.abbreviations) ++ c.abbreviations))
    (joined_preambles-joined_preambles a.preamble b.preamble c.preamble)
    ∙ ap
    (λ es.
    build (joined_preambles a.preamble (joined_preambles b.preamble c.preamble)) es
    ((a.abbreviations ++ b.abbreviations) ++ c.abbreviations)) entries
    ∙ ap
    (build (joined_preambles a.preamble (joined_preambles b.preamble c.preamble))
    (a.entries ++ (b.entries ++ c.entries))) abbreviations

pub then-empty_reading : (a : FileReading) → then a empty_reading ≡ a
then-empty_reading a =
    let build : List ℕ → List EntryReading → List FieldReading → FileReading =
    λ p es fs. record { preamble = p; entries = es; abbreviations = fs } in
    ap (λ p. build p (a.entries ++ []) (a.abbreviations ++ [])) (joined_preambles-nil a.preamble)
    ∙ ap (λ es. build a.preamble es (a.abbreviations ++ [])) (append-nil a.entries)
    ∙ ap (build a.preamble a.entries) (append-nil a.abbreviations)

pub empty_reading-then : (a : FileReading) → then empty_reading a ≡ a
empty_reading-then a = refl

-- whether a character outside of blocks and line comments is skipped
abbrev pub is_skipped : ℕ → Bool
is_skipped c = not (c == 64) && not (c == 37)

-- at the start nothing is parsed
pub no_file_read : (start : Place) → FileRead start empty_reading start
no_file_read start = record { there = λ r x. x; fails = λ kind v f. f }

skip_there : {u v : Place} {r : FileReading} → Run is_skipped u v → File longest v r → File longest u r
skip_there stop x = x
skip_there (step char passes rest) x = file.skipped char passes (skip_there rest x)

-- the rest of a file after a skipped character is a file with the same content
pub skipped_rest : {u v : Place} {c : ℕ} {r : FileReading} → CharAt u c v → is_skipped c ≡ true → File longest u r → File longest v r
skipped_rest char passes (file.end end) = absurd (no_char_at_end end char)
skipped_rest {r = r} char passes (file.skipped char' passes' x) = subst (λ y. File longest y r) (same_char char' char).1 x
skipped_rest char passes (file.line_comment m x) = absurd (pass_clash is_skipped char passes m.sign refl)
skipped_rest char passes (file.block b x) = absurd (pass_clash is_skipped char passes b.head.sign refl)

skip_fails : {u v w : Place} {kind : ParseErrorKind} → Run is_skipped u v → FileFails v kind w → FileFails u kind w
skip_fails stop f = f
skip_fails (step char passes rest) f = file_fail.skipped char passes (skip_fails rest f)

-- the rest of a file after a line comment is a file with the same content
pub line_comment_rest : {u v : Place} {r : FileReading} → LineComment u v → File longest u r → File longest v r
line_comment_rest m (file.end end) = absurd (no_char_at_end end m.sign)
line_comment_rest m (file.skipped char passes x) = absurd (pass_clash is_skipped char passes m.sign refl)
line_comment_rest {r = r} m (file.line_comment m' x) = subst (λ y. File longest y r) (line_comment_same m' m) x
line_comment_rest m (file.block b x) = absurd (char_clash m.sign b.head.sign refl)

-- the first block of a file, and the rest of the file after it
pub record FirstBlock (u : Place) (r : FileReading) : Type 0 where
  pub following : Place
  pub first : FileReading
  pub rest : FileReading
  pub block : Block longest u first following
  pub left : File longest following rest
  pub whole : r ≡ then first rest

-- a file that begins with an at sign has a block there
pub first_block : {u x : Place} {r : FileReading} → CharAt u 64 x → File longest u r → FirstBlock u r
first_block sign (file.end end) = absurd (no_char_at_end end sign)
first_block sign (file.skipped char passes x) = absurd (pass_clash is_skipped char passes sign refl)
first_block sign (file.line_comment m x) = absurd (char_clash sign m.sign refl)
first_block sign (file.block b x) = record { following = _; first = _; rest = _; block = b; left = x; whole = refl }

-- skipped characters add no content
pub skip_read : {start u v : Place} {says : FileReading} → FileRead start says u → Longest is_skipped u v → FileRead start says v
skip_read read run = record {
  there = λ r x. read.there r (skip_there run.run x);
  fails = λ kind v f. read.fails kind v (skip_fails run.run f);
}

-- a line comment adds no content
pub line_comment_read : {start u v : Place} {says : FileReading} → FileRead start says u → LineComment u v → FileRead start says v
line_comment_read read m = record {
  there = λ r x. read.there r (file.line_comment m x);
  fails = λ kind v f. read.fails kind v (file_fail.line_comment m f);
}

-- a block adds its content
pub block_read : {start u v : Place} {says first : FileReading} → FileRead start says u → Block longest u first v
    → FileRead start (then says first) v
block_read {start} {u} {v} {says} {first} read b = record {
  there = λ r x. subst (λ s. File longest start s) (sym (then-then says first r)) (read.there (then first r) (file.block b x));
  fails = λ kind w f. read.fails kind w (file_fail.more b f);
}

-- at the end of the text, the parsed content is a raw reading from `start`
pub file_found : {start u : Place} {says : FileReading} → FileRead start says u → AtEnd u → File longest start says
file_found {start} {u} {says} read end =
    subst (λ r. File longest start r) (then-empty_reading says) (read.there empty_reading (file.end end))

-- a file from one place has at most one raw reading
pub file_same : {u : Place} {r s : FileReading} → File longest u r → File longest u s → r ≡ s
file_same (file.end end) (file.end end') = refl
file_same (file.end end) (file.skipped char passes x) = absurd (no_char_at_end end char)
file_same (file.end end) (file.line_comment m x) = absurd (no_char_at_end end m.sign)
file_same (file.end end) (file.block b x) = absurd (no_char_at_end end b.head.sign)
file_same (file.skipped char passes x) second = file_same x (skipped_rest char passes second)
file_same (file.line_comment m x) second = file_same x (line_comment_rest m second)
file_same {u} {r} {s} (file.block {first = first} {rest = rest} b x) second =
    let f = first_block b.head.sign second in
    let same = block_same f.block b in
    let left = file_same x (subst (λ z. File longest z f.rest) same.1 f.left) in
    ap (λ q. then q rest) (sym same.0) ∙ ap (then f.first) left ∙ sym f.whole

-- whether a character may follow the name of a block: { or "
abbrev pub opens_body : ℕ → Bool
opens_body c = c == 123 || c == 34

-- whether a character may end a preamble: } or "
abbrev pub closes_preamble : ℕ → Bool
closes_preamble c = c == 125 || c == 34

-- the reading of a block with an entry of these parts
abbrev pub says_entry : Part → Part → List FieldReading → ℕ → ℕ → FileReading
says_entry key kind fs start end = record {
  preamble = [];
  entries = record { key = key; kind = kind; fields = fs; start = start; end = end } ∷ [];
  abbreviations = [];
}

-- the body of an entry from its parts
pub entry_found : {u s a b c d z w : Place} {fs : List FieldReading} (kind key : Part) (start end : ℕ) → u.at ≡ start
    → end ≡ z.at → key ≡ part s a → Longest is_key s a → Longest is_whitespace a b → CharAt b 44 c → Gap longest c d
    → Fields longest d fs z → CharAt z 125 w → Body longest u kind BlockKind.entry s (says_entry key kind fs start end) w
entry_found {u} {s} {a} {b} {c} {d} {z} {w} {fs} kind key start end starts ends reading run white comma gap fields close =
    let same : says_entry (part s a) kind fs u.at z.at ≡ says_entry key kind fs start end =
    ap (λ k. says_entry k kind fs u.at z.at) (sym reading) ∙ ap (λ n. says_entry key kind fs n z.at) starts
    ∙ ap (says_entry key kind fs start) (sym ends) in
    subst (λ r. Body longest u kind BlockKind.entry s r w) same (body.entry a run white comma gap fields close)

-- after a block less of the text is left
pub block_smaller : {u v : Place} {r : FileReading} → Block longest u r v → length v.text - v.at < length u.text - u.at
block_smaller {u} b =
    let h = b.head in
    left_smaller (ahead_here u) h.sign
    (ahead_then (ahead_identifier h.name)
    (ahead_then (ahead_run h.white.run)
    (ahead_then (ahead_char h.opens) (ahead_then (ahead_run h.white'.run) (ahead_body b.body)))))

pub ahead_line_comment : {u v : Place} → LineComment u v → Ahead u v
ahead_line_comment m = ahead_then (ahead_char m.sign) (ahead_run m.line.run)

-- after a line comment less of the text is left
pub line_comment_smaller : {u v : Place} → LineComment u v → length v.text - v.at < length u.text - u.at
line_comment_smaller {u} m = left_smaller (ahead_here u) m.sign (ahead_run m.line.run)

-- a character that is neither an at sign nor a percent sign is skipped
pub is_skipped_from : (c : ℕ) → (c ≡ 64 → ⊥) → (c ≡ 37 → ⊥) → is_skipped c ≡ true
is_skipped_from c no_at no_percent = rw (ne_eqb c 64 no_at, ne_eqb c 37 no_percent)

-- after one or more skipped characters less of the text is left
pub skip_smaller : {u x v : Place} {c : ℕ} → CharAt u c x → is_skipped c ≡ true → Longest is_skipped u v
    → length v.text - v.at < length u.text - u.at
skip_smaller {u} char passes run = left_smaller (ahead_here u) char (ahead_run (longest_rest run char passes).run)
