-- A block or a file that fails doesn't match (lemmas `.._unread`), and fails with at most one error (lemmas `.._once`).
use Rattle.std.proofs.Common.{◌≡◌, ℕ, Bool, true, refl, sym, subst, ap, ◌∙◌}
use Rattle.std.specs.Prelude.{◌==◌}
use Rattle.std.specs.Char.{is_whitespace}
use Rattle.bib_text.specs.Places.{Place, CharAt, Stops, Longest}
use Rattle.bib_text.proofs.PlaceFacts.{same_char, char_clash, pass_clash, longest_same, no_char_at_end}
use Rattle.bib_syntax.specs.declared.raw.ParseErrorKind.{ParseErrorKind}
use Rattle.bib_syntax.specs.declared.raw.ParseError.{ParseError}
use Rattle.bib_syntax.specs.Characters.{is_key}
use Rattle.bib_syntax.specs.Reading.{Part, FileReading}
use Rattle.bib_syntax.specs.Grammar.{Identifier, Quoted, Gap, Fields, LineComment, BlockKind, block_kind, Head, Body, Block, File, longest}
use Rattle.bib_syntax.specs.Grammar.{Body as body}
use Rattle.bib_syntax.specs.SyntaxErrors.{IdentifierFails, FieldsFails, HeadFails, BodyFails, BlockFails, FileFails, error_at_place, Reports}
use Rattle.bib_syntax.specs.SyntaxErrors.{HeadFails as head_fail}
use Rattle.bib_syntax.specs.SyntaxErrors.{BodyFails as body_fail}
use Rattle.bib_syntax.specs.SyntaxErrors.{BlockFails as block_fail}
use Rattle.bib_syntax.specs.SyntaxErrors.{FileFails as file_fail}
use Rattle.bib_syntax.proofs.LawFacts.{moved, identifier_same, quoted_same, gap_same, line_comment_same}
use Rattle.bib_syntax.proofs.FileFacts.{head_same, body_at, block_same, is_skipped, skipped_rest, line_comment_rest, first_block, closes_preamble, opens_body}
use Rattle.bib_syntax.proofs.FailureFacts.{OneError, identifier_once, identifier_unread, quoted_once, quoted_unread, fields_once, fields_unread, missing_clash}

-- two matches of an at sign, a name and white space end at the same place
brace_place : {u x a b x' a' b' : Place} {p q : Part} → CharAt u 64 x → Identifier longest x p a
    → Longest is_whitespace a b → CharAt u 64 x' → Identifier longest x' q a' → Longest is_whitespace a' b' → b ≡ b'
brace_place {a' = a'} {q = q} sign name white sign' name' white' =
    let there = identifier_same name (subst (λ y. Identifier longest y q a') (same_char sign' sign).1 name') in
    longest_same (moved (Longest is_whitespace) there.1 white) white'

-- no passing character is at a place where one is missing
passes_clash : {u v w : Place} {c : ℕ} (test : ℕ → Bool) → Stops test u → u ≡ v → CharAt v c w → test c ≡ true → ⊥
passes_clash {c = c} test stops same char passes = missing_clash test c passes stops same char

head_unread : {u v w : Place} {k : ParseErrorKind} {p : Part} → HeadFails u k v → Head longest u p w → ⊥
head_unread {p = p} (head_fail.name sign f) h =
    identifier_unread f (subst (λ y. Identifier longest y p h.name_end) (same_char h.sign sign).1 h.name)
head_unread (head_fail.brace sign name white stops) h =
    passes_clash opens_body stops (brace_place sign name white h.sign h.name h.white) h.opens h.is_brace

head_once : {u v w : Place} {k l : ParseErrorKind} → HeadFails u k v → HeadFails u l w → OneError k v l w
head_once {w = w} {l = l} (head_fail.name sign f) (head_fail.name sign' g) =
    identifier_once f (subst (λ x. IdentifierFails x l w) (same_char sign' sign).1 g)
head_once (head_fail.name sign f) (head_fail.brace {w = a} {name = p} sign' name white stops) =
    absurd (identifier_unread f (subst (λ y. Identifier longest y p a) (same_char sign' sign).1 name))
head_once (head_fail.brace {w = a} {name = p} sign' name white stops) (head_fail.name sign f) =
    absurd (identifier_unread f (subst (λ y. Identifier longest y p a) (same_char sign' sign).1 name))
head_once (head_fail.brace sign name white stops) (head_fail.brace sign' name' white' stops') =
    (refl, brace_place sign name white sign' name' white')

-- two matches of a key and white space end at the same place, and so do two that continue to the fields
comma_place : {u a b a' b' : Place} → Longest is_key u a → Longest is_whitespace a b → Longest is_key u a'
    → Longest is_whitespace a' b' → b ≡ b'
comma_place key white key' white' = longest_same (moved (Longest is_whitespace) (longest_same key key') white) white'

fields_place : {u a b c d a' b' c' d' : Place} → Longest is_key u a → Longest is_whitespace a b → CharAt b 44 c → Gap longest c d
    → Longest is_key u a' → Longest is_whitespace a' b' → CharAt b' 44 c' → Gap longest c' d' → d ≡ d'
fields_place key white comma gap key' white' comma' gap' =
    let following = (same_char (moved (λ x y. CharAt x 44 y) (comma_place key white key' white') comma) comma').1 in
    gap_same (moved (Gap longest) following gap) gap'

-- two matches of a quoted text and white space end at the same place
end_place : {u a b a' b' : Place} {p q : Part} → Quoted u p a → Longest is_whitespace a b → Quoted u q a'
    → Longest is_whitespace a' b' → b ≡ b'
end_place q white q' white' = longest_same (moved (Longest is_whitespace) (quoted_same q q').1 white) white'

body_unread : {start u v w : Place} {p : Part} {b : BlockKind} {k : ParseErrorKind} {r : FileReading}
    → BodyFails b u k v → Body longest start p b u r w → ⊥
body_unread (body_fail.comment run end) (body.comment a inside close) =
    no_char_at_end end (moved (λ x y. CharAt x 125 y) (longest_same inside run) close)
body_unread (body_fail.preamble f) (body.preamble q white close is_close) = quoted_unread f q
body_unread (body_fail.preamble_end q' white' stops) (body.preamble q white close is_close) =
    passes_clash closes_preamble stops (end_place q' white' q white) close is_close
body_unread (body_fail.strings f) (body.strings fields close) = fields_unread f fields close
body_unread (body_fail.comma key white stops) (body.entry a key' white' comma gap fields close) =
    missing_clash (λ c. c == 44) 44 refl stops (comma_place key white key' white') comma
body_unread (body_fail.fields key white comma gap f) (body.entry {z = z} {fs = fs} a key' white' comma' gap' fields close) =
    fields_unread f (subst (λ x. Fields longest x fs z) (sym (fields_place key white comma gap key' white' comma' gap')) fields) close

body_once : {u v w : Place} {b : BlockKind} {k l : ParseErrorKind} → BodyFails b u k v → BodyFails b u l w → OneError k v l w
body_once (body_fail.comment run end) (body_fail.comment run' end') = (refl, longest_same run run')
body_once (body_fail.preamble f) (body_fail.preamble g) = quoted_once f g
body_once (body_fail.preamble f) (body_fail.preamble_end q white stops) = absurd (quoted_unread f q)
body_once (body_fail.preamble_end q white stops) (body_fail.preamble f) = absurd (quoted_unread f q)
body_once (body_fail.preamble_end q white stops) (body_fail.preamble_end q' white' stops') = (refl, end_place q white q' white')
body_once (body_fail.strings f) (body_fail.strings g) = fields_once f g
body_once (body_fail.comma key white stops) (body_fail.comma key' white' stops') = (refl, comma_place key white key' white')
body_once (body_fail.comma key white stops) (body_fail.fields key' white' comma gap g) =
    absurd (missing_clash (λ c. c == 44) 44 refl stops (comma_place key white key' white') comma)
body_once (body_fail.fields key' white' comma gap g) (body_fail.comma key white stops) =
    absurd (missing_clash (λ c. c == 44) 44 refl stops (comma_place key white key' white') comma)
body_once {w = w} {l = l} (body_fail.fields key white comma gap f) (body_fail.fields key' white' comma' gap' g) =
    fields_once f (subst (λ x. FieldsFails x l w) (sym (fields_place key white comma gap key' white' comma' gap')) g)

pub block_unread : {u v w : Place} {k : ParseErrorKind} {r : FileReading} → BlockFails u k v → Block longest u r w → ⊥
block_unread (block_fail.head f) b = head_unread f b.head
block_unread (block_fail.body head f) b = body_unread f (body_at head b)

block_once : {u v w : Place} {k l : ParseErrorKind} → BlockFails u k v → BlockFails u l w → OneError k v l w
block_once (block_fail.head f) (block_fail.head g) = head_once f g
block_once (block_fail.head f) (block_fail.body head g) = absurd (head_unread f head)
block_once (block_fail.body head g) (block_fail.head f) = absurd (head_unread f head)
block_once {w = w} {l = l} (block_fail.body {v = a} {name = p} head f) (block_fail.body {v = b} {name = q} head' g) =
    let same = head_same head' head in
    body_once f (subst (λ x. BodyFails (block_kind p.text) x l w) same.1 (subst (λ n. BodyFails (block_kind n.text) b l w) same.0 g))

-- at most one error is reported for a block
pub block_error : {u : Place} {e f : ParseError} → Reports (BlockFails u) e → Reports (BlockFails u) f → e ≡ f
block_error first second =
    let same = block_once first.fails second.fails in
    first.is ∙ ap (λ k. error_at_place k first.place) same.0 ∙ ap (error_at_place second.kind) same.1 ∙ sym second.is

-- a block that fails begins with an at sign
fail_sign : {u v : Place} {k : ParseErrorKind} → BlockFails u k v → (x : Place) × CharAt u 64 x
fail_sign (block_fail.head (head_fail.name sign f)) = (_, sign)
fail_sign (block_fail.head (head_fail.brace sign name white stops)) = (_, sign)
fail_sign (block_fail.body head f) = (_, head.sign)

-- ---- files

pub file_unread : {u v : Place} {k : ParseErrorKind} {r : FileReading} → FileFails u k v → File longest u r → ⊥
file_unread (file_fail.skipped char passes f) x = file_unread f (skipped_rest char passes x)
file_unread (file_fail.line_comment m f) x = file_unread f (line_comment_rest m x)
file_unread (file_fail.more b f) x =
    let first = first_block b.head.sign x in
    file_unread f (subst (λ z. File longest z first.rest) (block_same first.block b).1 first.left)
file_unread (file_fail.first f) x = let first = first_block (fail_sign f).1 x in block_unread f first.block

-- if a file that begins with a skipped character, a line comment or a block fails, the rest after it fails with the same error
skipped_fails : {u v w : Place} {c : ℕ} {k : ParseErrorKind} → CharAt u c v → is_skipped c ≡ true → FileFails u k w → FileFails v k w
skipped_fails {w = w} {k = k} char passes (file_fail.skipped char' passes' f) = subst (λ x. FileFails x k w) (same_char char' char).1 f
skipped_fails char passes (file_fail.line_comment m f) = absurd (pass_clash is_skipped char passes m.sign refl)
skipped_fails char passes (file_fail.more b f) = absurd (pass_clash is_skipped char passes b.head.sign refl)
skipped_fails char passes (file_fail.first f) = absurd (pass_clash is_skipped char passes (fail_sign f).1 refl)

comment_fails : {u v w : Place} {k : ParseErrorKind} → LineComment u v → FileFails u k w → FileFails v k w
comment_fails m (file_fail.skipped char passes f) = absurd (pass_clash is_skipped char passes m.sign refl)
comment_fails {w = w} {k = k} m (file_fail.line_comment m' f) = subst (λ x. FileFails x k w) (line_comment_same m' m) f
comment_fails m (file_fail.more b f) = absurd (char_clash m.sign b.head.sign refl)
comment_fails m (file_fail.first f) = absurd (char_clash m.sign (fail_sign f).1 refl)

block_fails : {u v w : Place} {k : ParseErrorKind} {r : FileReading} → Block longest u r v → FileFails u k w → FileFails v k w
block_fails b (file_fail.skipped char passes f) = absurd (pass_clash is_skipped char passes b.head.sign refl)
block_fails b (file_fail.line_comment m f) = absurd (char_clash m.sign b.head.sign refl)
block_fails {w = w} {k = k} b (file_fail.more b' f) = subst (λ x. FileFails x k w) (block_same b' b).1 f
block_fails b (file_fail.first f) = absurd (block_unread f b)

file_once : {u v w : Place} {k l : ParseErrorKind} → FileFails u k v → FileFails u l w → OneError k v l w
file_once (file_fail.skipped char passes f) g = file_once f (skipped_fails char passes g)
file_once (file_fail.line_comment m f) g = file_once f (comment_fails m g)
file_once (file_fail.more b f) g = file_once f (block_fails b g)
file_once (file_fail.first f) (file_fail.skipped char passes g) = absurd (pass_clash is_skipped char passes (fail_sign f).1 refl)
file_once (file_fail.first f) (file_fail.line_comment m g) = absurd (char_clash m.sign (fail_sign f).1 refl)
file_once (file_fail.first f) (file_fail.more b g) = absurd (block_unread f b)
file_once (file_fail.first f) (file_fail.first g) = block_once f g

-- at most one error is reported for a file
pub one_error : {u : Place} {e f : ParseError} → Reports (FileFails u) e → Reports (FileFails u) f → e ≡ f
one_error first second =
    let same = file_once first.fails second.fails in
    first.is ∙ ap (λ k. error_at_place k first.place) same.0 ∙ ap (error_at_place second.kind) same.1 ∙ sym second.is
