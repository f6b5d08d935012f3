-- The complete parts of a block that can't be parsed: from each place, at most one reading is kept.
use Rattle.std.proofs.Common.{◌≡◌, ◌≢◌, ℕ, zero, suc, ◌+◌, ◌-◌, ◌≤◌, arith, length, drop, Bool, true, false, if◌then◌else◌, List, [], ◌∷◌, ◌++◌, Result, Ok, Err, IfOk, inl, inr, refl, sym, ap, ◌∙◌, subst, append_assoc, append-nil}
use Rattle.std.specs.Prelude.{take, encode_utf8, ◌==◌}
use Rattle.std.specs.Char.{is_whitespace, len_utf8}
use Rattle.std.specs.List.{AllByRecursion}
use Rattle.std.proofs.lemmas.List.{drop-take, length-take-le}
use Rattle.std.proofs.lemmas.Str.{length-encode}
use Rattle.std.proofs.Math.Seq.{take-append-add}
use Rattle.bib_text.specs.Places.{Place, place, CharAt, Longest, Stops, AtEnd}
use Rattle.bib_text.proofs.PlaceFacts.{same_char, longest_same, Ahead, ahead_here, ahead_then, ahead_char, ahead_run, char_within}
use Rattle.bib_syntax.specs.Characters.{is_key, is_id_start}
use Rattle.bib_syntax.specs.Reading.{Part, part, EntryReading, FieldReading, FileReading, empty_reading}
use Rattle.bib_syntax.specs.Grammar.{BlockKind, Field, Identifier, LineComment, block_kind, longest}
use Rattle.bib_syntax.specs.Kept.{Comments, CompleteFields, Kept, KeptBody, NoField, Opening, entry_alone, key_alone, opens_block}
use Rattle.bib_syntax.specs.Kept.{Comments as comments}
use Rattle.bib_syntax.specs.Kept.{CompleteFields as complete}
use Rattle.bib_syntax.specs.Kept.{Kept as kept}
use Rattle.bib_syntax.specs.Kept.{KeptBody as kept_body}
use Rattle.bib_syntax.specs.Recovery.{Passed}
use Rattle.bib_syntax.specs.Recovery.{Passed as passed}
use Rattle.bib_syntax.proofs.LawFacts.{moved, field_same, identifier_same, line_comment_same}
use Rattle.bib_syntax.specs.Errors.{Refuses}
use Rattle.bib_syntax.specs.SyntaxErrors.{FieldFails, IdentifierFails, Reports}
use Rattle.bib_syntax.specs.declared.raw.ParseError.{ParseError}
use Rattle.bib_syntax.specs.declared.raw.ParseErrorKind.{ParseErrorKind}
use Rattle.bib_syntax.specs.declared.raw.ParseErrorKind.TheVariants.{OutOfMemory}
use Rattle.bib_syntax.proofs.FailureFacts.{field_named, field_unread, identifier_unread, missing_clash}
use Rattle.bib_syntax.proofs.FileFacts.{says_entry}
use Rattle.bib_syntax.proofs.LeftFacts.{Left}

-- ---- a place of a text in the text up to a later place

pub ahead_passed : {u v : Place} → Passed u v → Ahead u v
ahead_passed passed.stop = ahead_here _
ahead_passed (passed.step char other rest) = ahead_then (ahead_char char) (ahead_passed rest)

-- a character that ends before an offset is also in the text up to this offset
pub char_cut : {u v : Place} {c : ℕ} (end : ℕ) → CharAt u c v → v.at ≤ end
    → CharAt (place (take end u.text) u.at) c (place (take end u.text) v.at)
char_cut {u} {v} {c} end char within =
    let more : ℕ = end - v.at in
    let first : end ≡ u.at + (len_utf8 c + more) = omega (arith, char.next, within) in
    let second : end ≡ v.at + more = omega (arith, within) in
    let rest : drop v.at (take end u.text) ≡ take more (drop v.at u.text) =
    ap (λ n. drop v.at (take n u.text)) second ∙ drop-take v.at more u.text in
    record {
      same = refl;
      here = ap (λ n. drop u.at (take n u.text)) first
          ∙ drop-take u.at (len_utf8 c + more) u.text
          ∙ ap (λ t. take (len_utf8 c + more) t) char.here
          ∙ ap (λ n. take (n + more) (encode_utf8 c ++ drop v.at u.text)) (sym (length-encode c))
          ∙ take-append-add (encode_utf8 c) (drop v.at u.text) more
          ∙ ap (λ t. encode_utf8 c ++ t) (sym rest);
      next = char.next;
    }

-- at the end of the text up to an offset, no character is left
end_cut : (text : List ℕ) (end : ℕ) → end ≤ length text → AtEnd (place (take end text) end)
end_cut text end within = sym (length-take-le end text within)

-- in the text up to a place, some number of characters is left from an earlier place
pub left_cut : {u w : Place} → Passed u w → u.at ≤ length u.text → (n : ℕ) × Left n (place (take w.at w.text) u.at)
left_cut {u} passed.stop within = (zero, Left.none (end_cut u.text u.at within))
left_cut {u} {w} (passed.step {v = v} {c = c} char other rest) within =
    let more = left_cut rest (char_within char) in
    let ahead = ahead_passed (passed.step char other rest) in
    let here : CharAt (place (take w.at w.text) u.at) c (place (take w.at w.text) v.at) =
    subst (λ t. CharAt (place (take w.at t) u.at) c (place (take w.at t) v.at)) (sym ahead.text)
    (char_cut w.at char (ahead_passed rest).at) in
    (suc more.0, Left.more here more.1)

-- ---- openings and line comments

pub opening_same : {u v w : Place} {p q : Part} → Opening u p v → Opening u q w → (p ≡ q) × (v ≡ w)
opening_same a b =
    let name = identifier_same (subst (λ x. Identifier longest x _ _) (same_char a.sign b.sign).1 a.name) b.name in
    let white = longest_same (moved (Longest is_whitespace) name.1 a.white) b.white in
    let bracket = (same_char (subst (λ x. CharAt x a.bracket a.after) white a.opens) b.opens).1 in
    (name.0, longest_same (moved (Longest is_whitespace) bracket a.white') b.white')

-- the bracket of an opening is where any match of the at sign, the name and the white space ends
pub bracket_place : {u x a b : Place} {p q : Part} {v : Place} → CharAt u 64 x → Identifier longest x p a
    → Longest is_whitespace a b → (o : Opening u q v) → b ≡ o.before
bracket_place {q = q} sign name white o =
    let there = identifier_same name (subst (λ y. Identifier longest y q o.name_end) (same_char o.sign sign).1 o.name) in
    longest_same (moved (Longest is_whitespace) there.1 white) o.white

-- a block isn't opened without a name
pub unnamed : {u v w : Place} {k : ParseErrorKind} → CharAt u 64 v → IdentifierFails v k w → (kind : Part) (x : Place)
    → Opening u kind x → ⊥
unnamed sign fails kind x o = identifier_unread fails (subst (λ y. Identifier longest y kind o.name_end) (same_char o.sign sign).1 o.name)

-- a block isn't opened where no bracket follows its name
pub unbracketed : {u x a b : Place} {p : Part} → CharAt u 64 x → Identifier longest x p a → Longest is_whitespace a b
    → Stops opens_block b → (kind : Part) (v : Place) → Opening u kind v → ⊥
unbracketed sign name white stops kind v o =
    missing_clash opens_block o.bracket o.is_bracket stops (bracket_place sign name white o) o.opens

pub comments_same : {u v w : Place} → Comments u v → Comments u w → v ≡ w
comments_same (comments.white a stops) (comments.white b stops') = longest_same a b
comments_same (comments.white a stops) (comments.more b r c) = absurd (missing_clash (λ c. c == 37) 37 refl stops (longest_same a b) r.sign)
comments_same (comments.more a r c) (comments.white b stops) = absurd (missing_clash (λ c. c == 37) 37 refl stops (longest_same b a) r.sign)
comments_same {v = v} (comments.more {w = x} a r c) (comments.more b s d) =
    comments_same (subst (λ y. Comments y v) (line_comment_same (moved (LineComment) (longest_same a b) r) s) c) d

pub ahead_comments : {u v : Place} → Comments u v → Ahead u v
ahead_comments (comments.white w stops) = ahead_run w.run
ahead_comments (comments.more w r rest) =
    ahead_then (ahead_run w.run) (ahead_then (ahead_char r.sign) (ahead_then (ahead_run r.line.run) (ahead_comments rest)))

-- white space and line comments from `start` to `here`, of which the last is the longest white space
pub record CommentsSoFar (start here : Place) : Type 0 where
  pub before : Place
  pub white : Longest is_whitespace before here
  pub all : (v : Place) → Comments before v → Comments start v

pub comments_begun : {start here : Place} → Longest is_whitespace start here → CommentsSoFar start here
comments_begun {start} white = record { before = start; white = white; all = λ v x. x }

-- one more line comment, and the white space after it
pub comments_more : {start u v w : Place} → CommentsSoFar start u → LineComment u v → Longest is_whitespace v w → CommentsSoFar start w
comments_more {v = v} read line white = record {
  before = v;
  white = white;
  all = λ x rest. read.all x (comments.more read.white line rest);
}

-- if no further line comment begins, the white space and line comments are complete
pub comments_all : {start here : Place} → CommentsSoFar start here → Stops (λ c. c == 37) here → Comments start here
comments_all read stops = read.all _ (comments.white read.white stops)

-- ---- the fields that are kept, one by one

-- no field is complete where no name begins
pub nameless : {u : Place} → Stops is_id_start u → NoField u
nameless stops f v field = field_named field stops

-- no field is complete where parsing one fails with an error other than out of memory
pub no_field : {u : Place} {e : ParseError} → Refuses u.text e (Reports (FieldFails u) e) → e.kind ≢ OutOfMemory → NoField u
no_field (inl no_room) some f v field = absurd (some (ap (λ error. error.kind) no_room))
no_field (inr refused) some f v field = field_unread refused.1.fails field

-- fields parsed from `start` to `here`: complete fields from `here` continue them
pub record KeptSoFar (start : Place) (fs : List FieldReading) (here : Place) : Type 0 where
  pub all : (gs : List FieldReading) (v : Place) → CompleteFields here gs v → CompleteFields start (fs ++ gs) v

pub none_so_far : (start : Place) → KeptSoFar start [] start
none_so_far start = record { all = λ gs v x. x }

-- one more field with a comma after it
pub kept_more : {start u a b c d : Place} {fs : List FieldReading} (f : FieldReading) → KeptSoFar start fs u → Field longest u f a
    → Comments a b → CharAt b 44 c → Comments c d → KeptSoFar start (fs ++ f ∷ []) d
kept_more {fs = fs} f read one g sign h = record {
  all = λ gs v x. rw append_assoc (read.all (f ∷ gs) v (complete.more one g sign h x));
}

-- one more field without a comma after it
pub kept_last : {start u a b : Place} {fs : List FieldReading} (f : FieldReading) → KeptSoFar start fs u → Field longest u f a
    → Comments a b → Stops (λ c. c == 44) b → CompleteFields start (fs ++ f ∷ []) b
kept_last f read one g stops = read.all _ _ (complete.last one g stops)

-- if no further field is complete, the fields so far are all complete fields
pub kept_all : {start u : Place} {fs : List FieldReading} → KeptSoFar start fs u → NoField u → CompleteFields start fs u
kept_all {start} {u} {fs} read none = subst (λ gs. CompleteFields start gs u) (append-nil fs) (read.all _ _ (complete.none none))

-- ---- the entry that is kept

-- an entry without a comma after its key
pub key_found : {u s a b : Place} (kind key : Part) → key ≡ part s a → Longest is_key s a → Longest is_whitespace a b
    → Stops (λ c. c == 44) b → KeptBody u kind BlockKind.entry s (key_alone u kind key b)
key_found {u} {s} {b = b} kind key reading run white stops =
    subst (λ k. KeptBody u kind BlockKind.entry s (key_alone u kind k b)) (sym reading) (kept_body.key run white stops)

-- an entry with its complete fields
pub cut_found : {u s a b c d z : Place} {fs : List FieldReading} (kind key : Part) (start end : ℕ) → u.at ≡ start
    → end ≡ z.at → key ≡ part s a → Longest is_key s a → Longest is_whitespace a b → CharAt b 44 c → Comments c d
    → CompleteFields d fs z → KeptBody u kind BlockKind.entry s (says_entry key kind fs start end)
cut_found {u} {s} {a} {z = z} {fs} kind key start end starts ends reading run white comma gap fields =
    let same : says_entry (part s a) kind fs u.at z.at ≡ says_entry key kind fs start end =
    ap (λ k. says_entry k kind fs u.at z.at) (sym reading) ∙ ap (λ n. says_entry key kind fs n z.at) starts
    ∙ ap (says_entry key kind fs start) (sym ends) in
    subst (λ r. KeptBody u kind BlockKind.entry s r) same (kept_body.entry run white comma gap fields)

-- if a fact is true of the value of an `Ok`, so is each consequence of this fact
pub if_ok : {A E : Type 0} {P Q : A → Type 0} (r : Result A E) → IfOk r P → ((x : A) → P x → Q x) → IfOk r Q
if_ok (Ok x) holds f = f x holds
if_ok (Err e) holds f = holds

-- nothing is kept without an opening
pub unopened_at : {u here : Place} → u ≡ here → ((kind : Part) (v : Place) → Opening u kind v → ⊥) → Kept here empty_reading
unopened_at same absent = subst (λ w. Kept w empty_reading) same (kept.unopened absent)

-- a block with an opening keeps the complete parts of its body
pub kept_at : {u v here : Place} {kind : Part} {k : BlockKind} {says : FileReading} → u ≡ here → Opening u kind v
    → k ≡ block_kind kind.text → ((w : Place) → w.at ≡ here.at → KeptBody w kind k v says) → Kept here says
kept_at {u} {v} {here} {kind} {says = says} same opening is body =
    subst (λ w. Kept w says) same
    (kept.block opening (subst (λ k. KeptBody u kind k v says) is (body u (ap (λ w. w.at) same))))

-- ---- only one reading is kept

-- two lists of complete fields from one place are equal and end at the same place
pub complete_same : {u v w : Place} {fs gs : List FieldReading} → CompleteFields u fs v → CompleteFields u gs w → (fs ≡ gs) × (v ≡ w)
complete_same (complete.none absent) (complete.none absent') = (refl, refl)
complete_same (complete.none absent) (complete.last f g stops) = absurd (absent _ _ f)
complete_same (complete.none absent) (complete.more f g sign h rest) = absurd (absent _ _ f)
complete_same (complete.last f g stops) (complete.none absent) = absurd (absent _ _ f)
complete_same (complete.last f g stops) (complete.last f' g' stops') =
    let same = field_same f f' in
    (ap (λ x. x ∷ []) same.0, comments_same (moved Comments same.1 g) g')
complete_same (complete.last f g stops) (complete.more f' g' sign h rest) =
    absurd (missing_clash (λ c. c == 44) 44 refl stops (comments_same (moved Comments (field_same f f').1 g) g') sign)
complete_same (complete.more f g sign h rest) (complete.none absent) = absurd (absent _ _ f)
complete_same (complete.more f g sign h rest) (complete.last f' g' stops) =
    absurd (missing_clash (λ c. c == 44) 44 refl stops (sym (comments_same (moved Comments (field_same f f').1 g) g')) sign)
complete_same {v = v} (complete.more {fs = fs} f g sign h rest) (complete.more {f = f1} f' g' sign' h' rest') =
    let same = field_same f f' in
    let comma = comments_same (moved Comments same.1 g) g' in
    let following = (same_char (moved (λ a b. CharAt a 44 b) comma sign) sign').1 in
    let next = comments_same (moved Comments following h) h' in
    let more = complete_same (subst (λ x. CompleteFields x fs v) next rest) rest' in
    (ap (λ x. x ∷ fs) same.0 ∙ ap (λ x. f1 ∷ x) more.0, more.1)

body_kept_same : {start u : Place} {kind : Part} {k : BlockKind} {r s : FileReading} → KeptBody start kind k u r
    → KeptBody start kind k u s → r ≡ s
body_kept_same kept_body.comment kept_body.comment = refl
body_kept_same kept_body.preamble kept_body.preamble = refl
body_kept_same (kept_body.strings fs) (kept_body.strings gs) =
    ap (λ x. let r : FileReading = record { preamble = []; entries = []; abbreviations = x } in r) (complete_same fs gs).0
body_kept_same {start} {u} {kind} (kept_body.key {w = w} key white stops) (kept_body.key {v = v'} key' white' stops') =
    let there = longest_same key key' in
    ap (λ x. key_alone start kind (part u x) w) there
    ∙ ap (λ x. key_alone start kind (part u v') x) (longest_same (moved (Longest is_whitespace) there white) white')
body_kept_same (kept_body.key key white stops) (kept_body.entry key' white' sign g fs) =
    absurd (missing_clash (λ c. c == 44) 44 refl stops
    (longest_same (moved (Longest is_whitespace) (longest_same key key') white) white') sign)
body_kept_same (kept_body.entry key white sign g fs) (kept_body.key key' white' stops) =
    absurd (missing_clash (λ c. c == 44) 44 refl stops
    (sym (longest_same (moved (Longest is_whitespace) (longest_same key key') white) white')) sign)
body_kept_same {start} {u} {kind} (kept_body.entry {v = v} {z = z} {fs = fs} key white sign g rest)
    (kept_body.entry {v = v'} {z = z'} {fs = fs'} key' white' sign' g' rest') =
    let key_end = longest_same key key' in
    let comma = longest_same (moved (Longest is_whitespace) key_end white) white' in
    let following = (same_char (moved (λ a b. CharAt a 44 b) comma sign) sign').1 in
    let next = comments_same (moved Comments following g) g' in
    let more = complete_same (subst (λ x. CompleteFields x fs z) next rest) rest' in
    let build : Place → List FieldReading → Place → FileReading =
    λ x y end. entry_alone (record { key = part u x; kind = kind; fields = y; start = start.at; end = end.at }) in
    ap (λ x. build x fs z) key_end ∙ ap (λ y. build v' y z) more.0 ∙ ap (λ end. build v' fs' end) more.1

-- only one reading of a block is kept
pub kept_same : {u : Place} {r s : FileReading} → Kept u r → Kept u s → r ≡ s
kept_same (kept.unopened absent) (kept.unopened absent') = refl
kept_same (kept.unopened absent) (kept.block opening body) = absurd (absent _ _ opening)
kept_same (kept.block opening body) (kept.unopened absent) = absurd (absent _ _ opening)
kept_same {u} {r} {s} (kept.block {v = v} {kind = kind} opening body) (kept.block {v = v'} {kind = kind'} opening' body') =
    let same = opening_same opening opening' in
    let there : KeptBody u kind' (block_kind kind'.text) v r = subst (λ k. KeptBody u k (block_kind k.text) v r) same.0 body in
    body_kept_same (subst (λ x. KeptBody u kind' (block_kind kind'.text) x r) same.1 there) body'

-- ---- each entry that is kept is the only part that is kept, and begins at the block

-- the entry `e` begins at `u`, and is the only kept part of the block there
abbrev IsKeptAt : Place → EntryReading → Type 0
IsKeptAt u e = (e.start ≡ u.at) × Kept u (entry_alone e)

key_kept : (start end : Place) (kind key : Part) (is_empty : Bool)
    → Kept start
    (if is_empty then empty_reading
    else entry_alone (record { key = key; kind = kind; fields = []; start = start.at; end = end.at }))
    → AllByRecursion (IsKeptAt start)
    ((if is_empty then empty_reading
    else entry_alone (record { key = key; kind = kind; fields = []; start = start.at; end = end.at })).entries)
key_kept start end kind key true is = _
key_kept start end kind key false is = ((refl, is), _)

body_entries : {start u : Place} {kind : Part} {k : BlockKind} {r : FileReading} → KeptBody start kind k u r → Kept start r
    → AllByRecursion (IsKeptAt start) r.entries
body_entries kept_body.comment is = _
body_entries kept_body.preamble is = _
body_entries (kept_body.strings fs) is = _
body_entries {start} {u} {kind} (kept_body.key {v = v} {w = w} key white stops) is =
    key_kept start w kind (part u v) (length (part u v).text == 0) is
body_entries (kept_body.entry key white sign g fs) is = ((refl, is), _)

pub kept_entries : {u : Place} {r : FileReading} → Kept u r → AllByRecursion (λ e. (e.start ≡ u.at) × Kept u (entry_alone e)) r.entries
kept_entries (kept.unopened absent) = _
kept_entries (kept.block opening body) = body_entries body (kept.block opening body)
