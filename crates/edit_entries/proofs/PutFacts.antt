-- Facts about an entry in which several fields replace one field.
use Rattle.std.proofs.Common.{◌≡◌, ℕ, zero, suc, ◌<◌, ◌≤◌, true, List, [], ◌∷◌, ◌++◌, length, map, refl, sym, ap, ◌∙◌, subst, arith, append_assoc}
use Rattle.bib_text.specs.Places.{Place, place, CharAt}
use Rattle.bib_text.proofs.PlaceFacts.{ahead_char, ahead_then, char_within}
use Rattle.bib_syntax.specs.Characters.{is_id_start}
use Rattle.bib_syntax.specs.Reading.{EntryReading, FieldReading}
use Rattle.bib_syntax.specs.Grammar.{Field, Fields, longest}
use Rattle.bib_syntax.proofs.FieldFacts.{ahead_field}
use Rattle.bib_syntax.proofs.LawFacts.{start_not_white, start_plain}
use Rattle.edit_entries.specs.Edits.{Edit, moved_place, moved_entry, moved_field}
use Rattle.edit_entries.specs.Documents.{Document, IsDocument, entry_edited}
use Rattle.edit_entries.proofs.EditFacts.{after_frame, zone_after}
use Rattle.edit_entries.proofs.ZoneFacts.{Inside, inside, inside_between}
use Rattle.edit_entries.proofs.GrammarFacts.{below_char}
use Rattle.edit_entries.proofs.SplitFacts.{EntrySplit, FieldSplit, FieldsBefore, ahead_fields_after, joined_fields}
use Rattle.edit_entries.proofs.MovedFacts.{fields_after_there}
use Rattle.edit_entries.proofs.EntryFacts.{ahead_to_field, goes}
use Rattle.edit_entries.proofs.UnsetFacts.{from_field_read}

-- ---- a list with several elements instead of one

-- a list in which several elements replace the one at an index
abbrev pub put_at : {A : Type 0} → ℕ → List A → List A → List A
put_at j news [] = []
put_at zero news (x ∷ xs) = news ++ xs
put_at (suc j) news (x ∷ xs) = x ∷ put_at j news xs

pub put_is : {A B : Type 0} (view : A → B) (before following : List A) (x : A) (news : List B) (j : ℕ)
    → length before ≡ j
    → put_at j news (map view (before ++ x ∷ following)) ≡ map view before ++ (news ++ map view following)
put_is view [] following x news zero index = refl
put_is view [] following x news (suc j) index = absurd (omega arith)
put_is view (b ∷ bs) following x news zero index = absurd (omega arith)
put_is view (b ∷ bs) following x news (suc j) index = ap (λ xs. view b ∷ xs) (put_is view bs following x news j (omega arith))

-- ---- the new fields

-- there are fields, and the first of them begins at this byte offset
pub record Begins (fields : List FieldReading) (at : ℕ) : Type 0 where
  pub first : FieldReading
  pub others : List FieldReading
  pub are : fields ≡ first ∷ others
  pub start : first.name.start ≡ at

-- fields between two places, with a comma after each except the last
pub record NewFields (u : Place) (fs : List FieldReading) (v : Place) : Type 0 where
  pub first : List FieldReading
  pub last : FieldReading
  pub middle : Place
  pub before : FieldsBefore u first middle
  pub field : Field longest middle last v
  pub are : fs ≡ first ++ last ∷ []

-- a character that can begin a name is at this place
pub record NameStarts (u : Place) : Type 0 where
  pub char : ℕ
  pub next : Place
  pub here : CharAt u char next
  pub starts : is_id_start char ≡ true

pub new_opens : {u v w : Place} {fs : List FieldReading} {f : FieldReading} → FieldsBefore u fs v → Field longest v f w → NameStarts u
new_opens FieldsBefore.none field = record {
  char = field.name.first;
  next = field.name.second;
  here = field.name.here;
  starts = field.name.starts;
}
new_opens (FieldsBefore.more field gap comma gap' others) last = record {
  char = field.name.first;
  next = field.name.second;
  here = field.name.here;
  starts = field.name.starts;
}

before_append : {u v w : Place} {fs gs : List FieldReading} → FieldsBefore u fs v → FieldsBefore v gs w → FieldsBefore u (fs ++ gs) w
before_append FieldsBefore.none others = others
before_append (FieldsBefore.more field gap comma gap' first) others = FieldsBefore.more field gap comma gap' (before_append first others)

-- ---- the whole

-- the document after an edit that replaces one field of an entry by several
abbrev pub fields_put : Document → Edit → ℕ → EntryReading → ℕ → List FieldReading → Document
fields_put d edit k e j news =
    entry_edited d edit k
    (record (moved_entry (moved_place edit) e)
    { fields = put_at j news (map (moved_field (moved_place edit)) e.fields) })

pub fields_put_read : (d : Document) (edit : Edit) (k : ℕ) (e : EntryReading) (j : ℕ) (f : FieldReading)
    (news : List FieldReading) (s : EntrySplit (place d.text 0) d.says e k)
    (g : FieldSplit s.block.fields_start e.fields f j s.block.brace)
    → edit.start ≡ g.start.at → edit.start < edit.end → edit.end ≤ g.end.at
    → NewFields (goes edit d.text g.start) news (goes edit d.text g.end) → IsDocument (fields_put d edit k e j news)
fields_put_read d edit k e j f news s g start_is some past n =
    let b = s.block in
    let move = moved_place edit in
    let at_end = ahead_then (ahead_to_field s g) (ahead_field g.field) in
    let to_brace = ahead_fields_after g.rest in
    let at_close = ahead_then at_end (ahead_then to_brace (ahead_char b.closes)) in
    let closing = char_within b.closes in
    let text_size : length s.end.text ≡ length d.text = ap length at_close.text in
    let z2 = zone_after edit d.text (omega (arith, some)) (omega (arith, past, to_brace.at, (ahead_char b.closes).at)) in
    let je : Inside (after_frame edit d.text) g.end = inside z2 at_end.text past (omega (arith, to_brace.at, (ahead_char b.closes).at)) in
    let jd : Inside (after_frame edit d.text) s.end =
    inside z2 at_close.text (omega (arith, past, to_brace.at, (ahead_char b.closes).at)) (omega arith) in
    let jz = inside_between z2 je jd to_brace (ahead_char b.closes) in
    let opens = new_opens n.before n.field in
    let rest = fields_after_there z2 je jz (below_char jd b.closes) g.rest in
    let first : List FieldReading = map (moved_field move) g.before in
    let following : List FieldReading = map (moved_field move) g.following in
    let listed : (first ++ n.first) ++ n.last ∷ following ≡ put_at j news (map (moved_field move) e.fields) =
    append_assoc first n.first (n.last ∷ following)
    ∙ ap (λ l. first ++ l) (sym (append_assoc n.first (n.last ∷ []) following))
    ∙ ap (λ l. first ++ (l ++ following)) (sym n.are)
    ∙ sym (put_is (moved_field move) g.before g.following f news j g.index)
    ∙ ap (λ fs. put_at j news (map (moved_field move) fs)) (sym g.whole) in
    from_field_read d edit k e j f (put_at j news (map (moved_field move) e.fields)) s g start_is some (omega (arith, past, to_brace.at))
    opens.here (start_not_white opens.char opens.starts) (start_plain opens.char opens.starts) (λ before.
    subst (λ fs. Fields longest (goes edit d.text b.fields_start) fs (goes edit d.text b.brace)) listed
    (joined_fields (before_append before n.before) n.field rest))
