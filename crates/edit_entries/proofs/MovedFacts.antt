-- In an edited text: a file that is cut around an entry, and an entry's fields that are cut around one of them.
use Rattle.std.proofs.Common.{◌≡◌, ℕ, ◌+◌, ◌<◌, ◌≤◌, Bool, List, ◌∷◌, ◌++◌, length, map, refl, sym, ap, ◌∙◌, subst, arith}
use Rattle.std.specs.Prelude.{slice_set}
use Rattle.std.proofs.lemmas.List.{length-map, map-append, set_at}
use Rattle.bib_text.specs.Places.{Place, CharAt, Run}
use Rattle.bib_text.specs.Places.Run.{stop, step}
use Rattle.bib_text.proofs.PlaceFacts.{Ahead, ahead_then, ahead_char, char_within}
use Rattle.bib_syntax.specs.Reading.{Part, FieldReading, EntryReading, FileReading, then}
use Rattle.bib_syntax.specs.Kept.{entry_alone}
use Rattle.bib_syntax.specs.Grammar.{BlockKind, Body, File, longest}
use Rattle.bib_syntax.specs.Grammar.{Body as body}
use Rattle.bib_syntax.specs.Grammar.{File as file}
use Rattle.bib_syntax.proofs.FieldFacts.{ahead_field, ahead_gap, ahead_fields}
use Rattle.bib_syntax.proofs.FileFacts.{ahead_block, ahead_line_comment}
use Rattle.edit_entries.specs.Edits.{moved_field, moved_entry, moved_file}
use Rattle.edit_entries.proofs.ZoneFacts.{Frame, Zone, Inside, there, inside, inside_between, char_there, end_there}
use Rattle.edit_entries.proofs.GrammarFacts.{below_between, below_char, field_there, line_before, line_comment_there, gap_there, fields_there, block_there, moved-then}
use Rattle.edit_entries.proofs.SplitFacts.{FieldsBefore, FieldsAfter, FileBefore, ahead_fields_before, ahead_file_before}

-- ---- fields

pub fields_before_there : {f : Frame} {u v : Place} {fs : List FieldReading} → Zone f → Inside f u → Inside f v
    → v.at < f.end → FieldsBefore u fs v
    → FieldsBefore (there f u) (map (moved_field f.move) fs) (there f v)
fields_before_there z iu iv below FieldsBefore.none = FieldsBefore.none
fields_before_there {f} z iu iv below (FieldsBefore.more field gap comma gap' others) =
    let from_comma = ahead_then (ahead_char comma) (ahead_then (ahead_gap gap') (ahead_fields_before others)) in
    let a = inside_between z iu iv (ahead_field field) (ahead_then (ahead_gap gap) from_comma) in
    let b = inside_between z a iv (ahead_gap gap) from_comma in
    let c = inside_between z b iv (ahead_char comma) (ahead_then (ahead_gap gap') (ahead_fields_before others)) in
    let d = inside_between z c iv (ahead_gap gap') (ahead_fields_before others) in
    FieldsBefore.more (field_there z iu a (below_between f (ahead_then (ahead_gap gap) from_comma) below) field)
    (gap_there z a b (below_char c comma) gap)
    (char_there z b c comma) (gap_there z c d (below_between f (ahead_fields_before others) below) gap')
    (fields_before_there z d iv below others)

pub fields_after_there : {f : Frame} {u v : Place} {fs : List FieldReading} → Zone f → Inside f u → Inside f v
    → v.at < f.end → FieldsAfter u fs v
    → FieldsAfter (there f u) (map (moved_field f.move) fs) (there f v)
fields_after_there z iu iv below (FieldsAfter.last gap) = FieldsAfter.last (gap_there z iu iv below gap)
fields_after_there {f} z iu iv below (FieldsAfter.more gap comma gap' rest) =
    let from_comma = ahead_then (ahead_char comma) (ahead_then (ahead_gap gap') (ahead_fields rest)) in
    let b = inside_between z iu iv (ahead_gap gap) from_comma in
    let c = inside_between z b iv (ahead_char comma) (ahead_then (ahead_gap gap') (ahead_fields rest)) in
    let d = inside_between z c iv (ahead_gap gap') (ahead_fields rest) in
    FieldsAfter.more (gap_there z iu b (below_char c comma) gap) (char_there z b c comma)
    (gap_there z c d (below_between f (ahead_fields rest) below) gap') (fields_there z d iv below rest)

-- ---- a file up to an at sign

pub file_before_there : {f : Frame} {u v x : Place} {says : FileReading} → Zone f → Inside f u → Inside f v
    → CharAt v 64 x → FileBefore u says v → FileBefore (there f u) (moved_file f.move says) (there f v)
file_before_there z iu iv sign FileBefore.none = FileBefore.none
file_before_there z iu iv sign (FileBefore.skipped char passes others) =
    let a = inside_between z iu iv (ahead_char char) (ahead_file_before others) in
    FileBefore.skipped (char_there z iu a char) passes (file_before_there z a iv sign others)
file_before_there {f} z iu iv sign (FileBefore.line_comment m others) =
    let a = inside_between z iu iv (ahead_line_comment m) (ahead_file_before others) in
    let before = line_before m (ahead_file_before others) sign refl in
    FileBefore.line_comment (line_comment_there z iu a (omega (arith, before, iv.end)) m) (file_before_there z a iv sign others)
file_before_there {f} {u} {v} z iu iv sign (FileBefore.block {first = first} {rest = rest} b others) =
    let a = inside_between z iu iv (ahead_block b) (ahead_file_before others) in
    subst (λ says. FileBefore (there f u) says (there f v)) (sym (moved-then f.move first rest))
    (FileBefore.block (block_there z iu a b) (file_before_there z a iv sign others))

-- ---- a file to its end

pub run_within : {test : ℕ → Bool} {u v : Place} → Run test u v → u.at ≤ length u.text → v.at ≤ length v.text
run_within stop within = within
run_within (step char passes rest) within = run_within rest (char_within char)

pub body_within : {start u v : Place} {kind : Part} {k : BlockKind} {says : FileReading}
    → Body longest start kind k u says v → v.at ≤ length v.text
body_within (body.comment brace chars closes) = char_within closes
body_within (body.preamble quoted white closes is_brace) = char_within closes
body_within (body.strings fs closes) = char_within closes
body_within (body.entry key_end key white comma g list closes) = char_within closes

-- a place after one in a zone that goes to the end of the text is in the zone
pub inside_rest : {f : Frame} {u v : Place} → Zone f → f.end ≡ length f.old + 1 → Inside f u → Ahead u v → v.at ≤ length v.text → Inside f v
inside_rest {f} {u} {v} z whole iu ahead within =
    let text : v.text ≡ f.old = ahead.text ∙ iu.text in
    let size : length v.text ≡ length f.old = ap length text in
    inside z text (omega (arith, iu.start, ahead.at)) (omega arith)

pub file_there : {f : Frame} {u : Place} {says : FileReading} → Zone f → f.end ≡ length f.old + 1
    → length f.old + f.to ≡ length f.new + f.from → Inside f u → File longest u says
    → File longest (there f u) (moved_file f.move says)
file_there z whole sizes iu (file.end end) = file.end (end_there iu sizes end)
file_there {f} z whole sizes iu (file.skipped char passes x) =
    let a = inside_rest z whole iu (ahead_char char) (char_within char) in
    file.skipped (char_there z iu a char) passes (file_there z whole sizes a x)
file_there {f} z whole sizes iu (file.line_comment m x) =
    let within = run_within m.line.run (char_within m.sign) in
    let a = inside_rest z whole iu (ahead_line_comment m) within in
    let size = ap length a.text in
    file.line_comment (line_comment_there z iu a (omega (arith, within, size)) m) (file_there z whole sizes a x)
file_there {f} {u} z whole sizes iu (file.block {first = first} {rest = rest} b x) =
    let a = inside_rest z whole iu (ahead_block b) (body_within b.body) in
    subst (λ says. File longest (there f u) says) (sym (moved-then f.move first rest))
    (file.block (block_there z iu a b) (file_there z whole sizes a x))

-- ---- the whole reading

-- a mapped list with one element replaced is the mapped lists around it, with the new element between them
pub exchanged : {A B : Type 0} (move : A → B) (before following : List A) (x : A) (y : B) (k : ℕ) → length before ≡ k
    → slice_set (map move (before ++ x ∷ following)) k y ≡ map move before ++ y ∷ map move following
exchanged move before following x y k index =
    ap (λ l. slice_set l k y) (map-append move before (x ∷ following))
    ∙ set_at (map move before) (move x) (map move following) y k (length-map before move ∙ index)

-- moved readings with another entry between them are the whole moved reading with the entry replaced
pub says_exchanged : (move : ℕ → ℕ) (before following : FileReading) (e e' : EntryReading) (k : ℕ) → length before.entries ≡ k
    → then (moved_file move before) (then (entry_alone e') (moved_file move following))
    ≡ record (moved_file move (then before (then (entry_alone e) following)))
    { entries = slice_set (map (moved_entry move) (then before (then (entry_alone e) following)).entries) k e' }
says_exchanged move before following e e' k index =
    let build : List EntryReading → List FieldReading → FileReading =
    λ (es : List EntryReading) (fs : List FieldReading).
    record {
      preamble = (then before (then (entry_alone e) following)).preamble;
      entries = es;
      abbreviations = fs;
    } in
    ap (λ es. build es (map (moved_field move) before.abbreviations ++ map (moved_field move) following.abbreviations))
    (sym (exchanged (moved_entry move) before.entries following.entries e e' k index))
    ∙ ap (build (slice_set (map (moved_entry move) (before.entries ++ e ∷ following.entries)) k e'))
    (sym (map-append (moved_field move) before.abbreviations following.abbreviations))
