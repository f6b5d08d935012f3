-- The number of pieces that are left to expand, and the chunks that the pieces of a field are parsed as.
use Rattle.std.proofs.Common.{◌≡◌, ℕ, suc, ◌+◌, ◌-◌, ◌<◌, ◌≤◌, Bool, true, false, List, [], ◌∷◌, ◌++◌, map, length, take, drop, refl, sym, ap, ap₂, ◌∙◌, subst, append_assoc, append-nil, inl, inr, arith, Option, Some, None, get_or}
use Rattle.std.specs.Prelude.{◌⊎◌, if◌then◌else◌, bytes_eq, is_some, min, ◌^◌}
use Rattle.std.specs.BTreeMap as tree
use Rattle.std.specs.Borrow.{Bor}
use Rattle.std.specs.Cmp.Lexicographic.{slice_cmp}
use Rattle.std.specs.Ordering.{nat_cmp}
use Rattle.std.proofs.lemmas.Bool.{false≢true}
use Rattle.std.proofs.lemmas.Map.Text.{is_eq-slice_cmp}
use Rattle.std.proofs.lemmas.Slice.Eq.{bytes_eq-Decides}
use Rattle.std.specs.Global.{Vec}
use Rattle.std.specs.Map.{lookup}
use Rattle.std.specs.Option.{option_map}
use Rattle.std.specs.Str.{chars}
use Rattle.std.proofs.lemmas.List.{length-map, map-append, take_more, take_all, take-append-drop}
use Rattle.bib_chunks.specs.declared.chunk.Chunk.{Chunk}
use Rattle.bib_text.specs.declared.spanned.Spanned.{Spanned}
use Rattle.bib_chunks.specs.Styled.{Atom, styled}
use Rattle.bib_syntax.specs.declared.raw.ParseError.{ParseError}
use Rattle.bib_syntax.specs.declared.raw.RawChunk.{RawChunk}
use Rattle.bib_syntax.specs.declared.raw.RawChunk.TheVariants.{Normal as RawText}
use Rattle.bib_abbreviations.specs.declared.abbreviations.Frame.{Frame}
use Rattle.bib_abbreviations.specs.declared.abbreviations.Memo.{Memo}
use Rattle.bib_abbreviations.specs.declared.definitions.Lookup.{Lookup}
use Rattle.bib_abbreviations.specs.declared.definitions.Lookup.TheVariants.{Hashed, Sorted}
use Rattle.bib_abbreviations.specs.declared.abbreviations.Progress.{Progress}
use Rattle.bib_abbreviations.specs.declared.abbreviations.Progress.TheVariants.{Begun}
use Rattle.bib_contents.specs.ContentErrors.{ContentFails}
use Rattle.bib_contents.specs.Contents.{IsContent, StaysBetween}
use Rattle.bib_contents.proofs.FailFacts.{fails_kind}
use Rattle.bib_syntax.specs.Errors.{out_of_memory}
use Rattle.bib_chunks.specs.Joined.{AreJoined, ArePlaced}
use Rattle.bib_syntax.specs.Reading.{Part, Piece}
use Rattle.bib_syntax.specs.Reading.Piece.{literal, abbreviation}
use Rattle.bib_abbreviations.specs.Abbreviations.{AreContents, Definitions, Evaluates, IsFirstError, definition_among}
use Rattle.bib_abbreviations.specs.Abbreviations.{Evaluates as evaluates, IsFirstError as first_error}
use Rattle.bib_abbreviations.specs.Expanding.{found_in, progress, with_progress, chunks_between, IsSound, Expands, Opens}
use Rattle.bib_syntax.specs.Views.{piece_of, piece_at}
use Rattle.bib_chunks.proofs.JoinedFacts.{placed_up}
use Rattle.bib_abbreviations.proofs.MemoFacts.{stands_in, evaluates_as, evaluates_append, error_after, names_of, IsExpanding, between_all, all_after, none_begun, progress_same, none_done, no_pieces, IsNoted, noted_cases, sound_open}
use Rattle.bib_abbreviations.proofs.ExpansionFacts.{expanding_error}

-- ---- the number of pieces that are left

-- the number of pieces that frames have left, and one for each frame
abbrev pub weight : List Frame → ℕ
weight [] = 0
weight (frame ∷ frames) = suc (length frame.rest.now) + weight frames

-- the entries of a map of definitions
abbrev pub Entries : Type 0
Entries = List (Bor (List ℕ) × Bor (Vec (Spanned RawChunk)))

-- the entries of the map in a look-up
abbrev pub entries_of : Lookup → Entries
entries_of (Hashed m) = m.now.entries
entries_of (Sorted m) = m.now.entries

-- a look-up finds the definition among the entries
pub found_among : (l : Lookup) (name : List ℕ) → found_in l name ≡ definition_among (entries_of l) name
found_among (Hashed m) name = refl
found_among (Sorted m) name = refl

-- the query of a sorted map is a test of bytes
pub lookup_sorted : (name : List ℕ) (es : Entries)
    → lookup (tree.is_at (λ key. slice_cmp nat_cmp name key.now)) es ≡ lookup (λ key. bytes_eq name key.now) es
lookup_sorted name [] = refl
lookup_sorted name (e ∷ es) = ap₂ (λ b found. if b then Some e.1 else found) (is_eq-slice_cmp name e.0.now) (lookup_sorted name es)

-- the number of pieces in the definitions that don't occur in the memo, and one for each of these
abbrev pub unmet : (List ℕ → Bool) → Entries → ℕ
unmet is_met [] = 0
unmet is_met (e ∷ es) = (if is_met e.0.now then 0 else suc (length e.1.now.items)) + unmet is_met es

-- whether a name is in the memo
abbrev pub met_in : Memo → List ℕ → Bool
met_in memo name = is_some (progress memo name)

one_less : (before after : Bool) (n : ℕ) → (before ≡ true → after ≡ true) → (if after then 0 else n) ≤ (if before then 0 else n)
one_less true true n keeps = omega arith
one_less false true n keeps = omega arith
one_less false false n keeps = omega arith
one_less true false n keeps = absurd (false≢true (keeps refl))

-- the number of pieces left does not rise when more names occur
pub unmet_falls : (before after : List ℕ → Bool) → ((q : List ℕ) → before q ≡ true → after q ≡ true) → (es : Entries)
    → unmet after es ≤ unmet before es
unmet_falls before after keeps [] = omega arith
unmet_falls before after keeps (e ∷ es) =
    omega (arith, one_less (before e.0.now) (after e.0.now) (suc (length e.1.now.items)) (keeps e.0.now), unmet_falls before after keeps es)

-- a found definition is that of a field of the map
field_of_entry : (found : Option (Bor (Vec (Spanned RawChunk)))) (pieces : List Piece)
    → option_map (λ f. map piece_of f.now.items) found ≡ Some pieces
    → (field : Bor (Vec (Spanned RawChunk))) × (found ≡ Some field) × (map piece_of field.now.items ≡ pieces)
field_of_entry None pieces is = absurd (cc is)
field_of_entry (Some field) pieces is = (field, refl, cc is)

less_met_at : (before after : List ℕ → Bool) (name : List ℕ) (field : Bor (Vec (Spanned RawChunk)))
    (e : Bor (List ℕ) × Bor (Vec (Spanned RawChunk))) (es : Entries)
    (same : Bool) → bytes_eq name e.0.now ≡ same → ((q : List ℕ) → before q ≡ true → after q ≡ true)
    → before name ≡ false → after name ≡ true → lookup (λ key. bytes_eq name key.now) (e ∷ es) ≡ Some field
    → (lookup (λ key. bytes_eq name key.now) es ≡ Some field → suc (length field.now.items) + unmet after es ≤ unmet before es)
    → suc (length field.now.items) + unmet after (e ∷ es) ≤ unmet before (e ∷ es)
less_met_at before after name field e es true same keeps fresh met found rest =
    let here : e.0.now ≡ name = sym ((bytes_eq-Decides name e.0.now).0 same) in
    let is : e.1 ≡ field = cc (rw same at found) in
    let unmet_before : before e.0.now ≡ false = ap before here ∙ fresh in
    let met_after : after e.0.now ≡ true = ap after here ∙ met in
    let falls = unmet_falls before after keeps es in
    let many : length e.1.now.items ≡ length field.now.items = ap (λ (f : Bor (Vec (Spanned RawChunk))). length f.now.items) is in
    rw (unmet_before, met_after) (omega (arith, falls, many))
less_met_at before after name field e es false apart keeps fresh met found rest =
    let less = rest (rw apart at found) in
    omega (arith, one_less (before e.0.now) (after e.0.now) (suc (length e.1.now.items)) (keeps e.0.now), less)

-- after a new name occurs, the pieces of its definition and one more no longer count
less_met : (before after : List ℕ → Bool) (name : List ℕ) (field : Bor (Vec (Spanned RawChunk)))
    → ((q : List ℕ) → before q ≡ true → after q ≡ true)
    → before name ≡ false → after name ≡ true → (es : Entries) → lookup (λ key. bytes_eq name key.now) es ≡ Some field
    → suc (length field.now.items) + unmet after es ≤ unmet before es
less_met before after name field keeps fresh met [] found = absurd (cc found)
less_met before after name field keeps fresh met (e ∷ es) found =
    less_met_at before after name field e es (bytes_eq name e.0.now) refl keeps fresh met found
    (less_met before after name field keeps fresh met es)

-- a memo with the same names has all names of the old one
met_same : (new old : Memo) → new.names ≡ old.names → (q : List ℕ) → met_in old q ≡ true → met_in new q ≡ true
met_same new old names q met = ap is_some (progress_same new old names q) ∙ met

-- a memo in which the state of one name changed has all names of the old one
met_noted : {name q : List ℕ} {now : Progress} (new old : Memo) → met_in old q ≡ true
    → IsNoted name q now (progress new) (progress old) → met_in new q ≡ true
met_noted new old met (inl x) = ap is_some x.1
met_noted new old met (inr x) = ap is_some x.0 ∙ met

-- a name whose state was set is in the memo
now_met : {name : List ℕ} {now : Progress} (new old : Memo) → IsNoted name name now (progress new) (progress old) → met_in new name ≡ true
now_met new old (inl x) = ap is_some x.1
now_met new old (inr x) = absurd (x.1 refl)

-- less is left after a piece was expanded
pub less_said : (l : Lookup) (new old : Memo) (left : List (Spanned RawChunk)) (piece : Spanned RawChunk)
    (rest : List (Spanned RawChunk)) (frames : List Frame) → new.names ≡ old.names → left ≡ piece ∷ rest
    → suc (length rest) + weight frames + unmet (met_in new) (entries_of l)
    < suc (length left) + weight frames + unmet (met_in old) (entries_of l)
less_said l new old left piece rest frames names split =
    omega (arith, ap length split, unmet_falls (met_in old) (met_in new) (met_same new old names) (entries_of l))

-- less is left after the expansion of a name begins
pub less_opened : (l : Lookup) (new old : Memo) (left : List (Spanned RawChunk)) (piece : Spanned RawChunk)
    (frame opened : Frame) (frames waiting : List Frame) (name : List ℕ) → Opens (found_in l) old new name opened
    → left ≡ piece ∷ frame.rest.now → waiting ≡ frame ∷ frames
    → suc (length opened.rest.now) + weight waiting + unmet (met_in new) (entries_of l)
    < suc (length left) + weight frames + unmet (met_in old) (entries_of l)
less_opened l new old left piece frame opened frames waiting name opens split waits =
    let field = field_of_entry _ _ (sym (found_among l name) ∙ opens.is) in
    let fresh : met_in old name ≡ false = ap is_some opens.fresh in
    let cases = noted_cases name name Begun (progress new) (progress old) opens.names in
    let keeps =
    λ (q : List ℕ) (met : met_in old q ≡ true).
    met_noted {name = name} {now = Begun} new old met
    (noted_cases name q Begun (progress new) (progress old) opens.names) in
    let met : met_in new name ≡ true = now_met new old cases in
    let less = less_met (met_in old) (met_in new) name field.0 keeps fresh met (entries_of l) field.1 in
    let many : length field.0.now.items ≡ length opened.rest.now
    = sym (length-map field.0.now.items piece_of) ∙ ap length field.2 ∙ length-map opened.rest.now piece_of in
    omega (arith, ap length split, ap weight waits, less, many)

-- less is left after the expansion of a name ends
pub less_closed : (l : Lookup) (new old : Memo) (left : List (Spanned RawChunk))
    (below : Frame) (frames waiting : List Frame) (name : List ℕ) (now : Progress) → waiting ≡ below ∷ frames
    → ((other : List ℕ) → progress new other ≡ with_progress name now (progress old) other)
    → suc (length below.rest.now) + weight frames + unmet (met_in new) (entries_of l)
    < suc (length left) + weight waiting + unmet (met_in old) (entries_of l)
less_closed l new old left below frames waiting name now waits names =
    let keeps =
    λ (q : List ℕ) (met : met_in old q ≡ true).
    met_noted {name = name} {now = now} new old met (noted_cases name q now (progress new) (progress old) names) in
    omega (arith, ap weight waits, unmet_falls (met_in old) (met_in new) keeps (entries_of l))

-- the first error of the next piece is that of the first name, unless the error is out of memory
pub expanding_refused : {definitions : Definitions} {is_verbatim : Bool} {base : List (Spanned Chunk)} {first : List ℕ}
    {memo : Memo} {frame : Frame} {frames : List Frame}
    {whole : List Piece} (e : ParseError) (piece : Spanned RawChunk) (rest : List (Spanned RawChunk))
    → IsExpanding definitions is_verbatim base first memo frame frames
    → frame.rest.now ≡ piece ∷ rest → definitions first ≡ Some whole
    → (e ≡ out_of_memory)
    ⊎
    ((more : List Piece)
    → IsFirstError definitions is_verbatim (frame.name.now ∷ names_of frames) (piece_of piece ∷ more) e)
    → (e ≡ out_of_memory) ⊎ IsFirstError definitions is_verbatim (first ∷ []) whole e
expanding_refused e piece rest x split d (inl memory) = inl memory
expanding_refused e piece rest x split d (inr error) = inr (expanding_error piece rest x split d (error (map piece_of rest)))

module _ {definitions : Definitions} {is_verbatim : Bool} where
  -- `IsSound` holds for a memo without names and an empty path
  pub sound_empty : (memo : Memo) → ((name : List ℕ) → progress memo name ≡ None) → IsSound definitions is_verbatim memo []
  sound_empty memo empty = record {
    done = λ name start end is. absurd (none_done start end (sym (empty name) ∙ is));
    begun = λ name is. absurd (none_begun (sym (empty name) ∙ is));
    on_path = λ name on. absurd on;
  }

  -- the memo is right after the frame of a name in a field was opened
  pub opened_sound : {old : Memo} (new : Memo) (name : List ℕ) (frame : Frame) → IsSound definitions is_verbatim old []
      → Opens definitions old new name frame
      → IsSound definitions is_verbatim new (frame.name.now ∷ [])
  opened_sound new name frame sound opens =
      subst (λ n. IsSound definitions is_verbatim new (n ∷ [])) (sym opens.named)
      (sound_open new name opens.fresh opens.values opens.names sound)

  -- a name has the styled text of its definition
  pub expands_opened : {old : Memo} (mid new : Memo) (p : Part) (frame : Frame) → Opens definitions old mid p.text frame
      → Expands definitions is_verbatim mid.values.items new.values.items (map piece_of frame.rest.now)
      → Expands definitions is_verbatim old.values.items new.values.items (abbreviation p ∷ [])
  expands_opened mid new p frame opens x = record {
    more = x.more;
    values = x.values ∙ ap (λ (v : Vec (Spanned Chunk)). v.items ++ x.more) opens.values;
    says = evaluates_as (append-nil (styled x.more)) (evaluates.defined opens.is x.says evaluates.none);
  }

  -- the appended chunks are those after the old ones
  pub said_after : {old new : List (Spanned Chunk)} {pieces : List Piece}
      (x : Expands definitions is_verbatim old new pieces) (start : ℕ) (shown : List (Spanned Chunk))
      → start ≡ length old → shown ≡ new → chunks_between start (length shown) shown ≡ x.more
  said_after {old} x start shown at same =
      between_all start shown ∙ ap (λ n. drop n shown) at ∙ ap (drop (length old)) (same ∙ x.values)
      ∙ all_after old x.more

  pub error_opened : {old : Memo} (mid : Memo) (p : Part) (frame : Frame) (e : ParseError) → Opens definitions old mid p.text frame
      → (e ≡ out_of_memory) ⊎ IsFirstError definitions is_verbatim (frame.name.now ∷ []) (map piece_of frame.rest.now) e
      → (e ≡ out_of_memory) ⊎ ((rest : List Piece) → IsFirstError definitions is_verbatim [] (abbreviation p ∷ rest) e)
  error_opened mid p frame e opens (inl memory) = inl memory
  error_opened mid p frame e opens (inr error) =
      inr
      (λ rest.
      first_error.inside (λ on. on) opens.is
      (subst (λ n. IsFirstError definitions is_verbatim (n ∷ []) (map piece_of frame.rest.now) e)
      opens.named error))

-- the frame of an opened name has the pieces of its definition
pub opened_defined : {definitions : Definitions} {old : Memo} (new : Memo) (name : List ℕ) (frame : Frame)
    → Opens definitions old new name frame
    → definitions frame.name.now ≡ Some (map piece_of frame.rest.now)
opened_defined {definitions} new name frame opens = ap definitions opens.named ∙ opens.is

-- the frame of an opened name begins at the end of the chunks
pub opened_start : {definitions : Definitions} {old : Memo} (new : Memo) (name : List ℕ) (frame : Frame)
    → Opens definitions old new name frame → frame.start ≡ length new.values.items
opened_start new name frame opens = opens.start ∙ ap (λ (v : Vec (Spanned Chunk)). length v.items) (sym opens.values)

-- the pieces of a field were parsed as these chunks
pub record IsRead (definitions : Definitions) (is_verbatim : Bool) (pieces : List Piece) (out : List (Spanned Chunk)) : Type 0 where
  pub said : Evaluates definitions is_verbatim pieces (styled out)
  pub joined : AreJoined out
  pub empty : pieces ≡ [] → out ≡ []
  pub placed : (p : Part) → pieces ≡ literal p ∷ [] → p.end ≡ p.start + length p.text → ArePlaced p.start p.end out

one_piece : {A : Type 0} (xs : List A) (x y : A) → xs ++ x ∷ [] ≡ y ∷ [] → (xs ≡ []) × (x ≡ y)
one_piece [] x y is = (refl, cc is)
one_piece (z ∷ []) x y is = absurd (cc is)
one_piece (z ∷ w ∷ xs) x y is = absurd (cc is)

no_push : {A : Type 0} (xs : List A) (x : A) → xs ++ x ∷ [] ≡ [] → ⊥
no_push [] x is = cc is
no_push (z ∷ xs) x is = cc is

module _ {definitions : Definitions} {is_verbatim : Bool} where
  pub read_none : IsRead definitions is_verbatim [] []
  read_none = record { said = evaluates.none; joined = tt; empty = λ none. refl; placed = λ p is long. absurd (no_pieces p is) }

  -- one more piece was parsed
  pub read_more : {pieces : List Piece} {old new : List (Spanned Chunk)} {atoms : List Atom} (piece : Piece)
      → IsRead definitions is_verbatim pieces old
      → Evaluates definitions is_verbatim (piece ∷ []) atoms → styled new ≡ styled old ++ atoms → (AreJoined old → AreJoined new)
      → ((p : Part) → piece ≡ literal p → p.end ≡ p.start + length p.text → (low : ℕ) → ArePlaced low p.start old → ArePlaced low p.end new)
      → IsRead definitions is_verbatim (pieces ++ piece ∷ []) new
  read_more {pieces} {old} {new} {atoms} piece x says styles joins places = record {
    said = evaluates_as (sym styles) (evaluates_append atoms x.said says);
    joined = joins x.joined;
    empty = λ none. absurd (no_push pieces piece none);
    placed = λ p is long.
        let one = one_piece pieces piece (literal p) is in
        places p one.1 long p.start (subst (λ c. ArePlaced p.start p.start c) (sym (x.empty one.0)) (omega arith));
  }

  -- the error of the piece after parsed ones is the first error of the field, unless it is out of memory
  pub read_refused : {pieces : List Piece} {out : List (Spanned Chunk)} (whole : List Piece) (piece : Piece)
      (rest : List Piece) (e : ParseError)
      → IsRead definitions is_verbatim pieces out → whole ≡ pieces ++ piece ∷ rest
      → (e ≡ out_of_memory) ⊎ ((more : List Piece) → IsFirstError definitions is_verbatim [] (piece ∷ more) e)
      → (e ≡ out_of_memory) ⊎ IsFirstError definitions is_verbatim [] whole e
  read_refused whole piece rest e x is (inl memory) = inl memory
  read_refused whole piece rest e x is (inr error) =
      inr (subst (λ pieces. IsFirstError definitions is_verbatim [] pieces e) (sym is) (error_after x.said (error rest)))

-- a raw text is a literal with its text and its span
pub text_piece : (piece : Spanned RawChunk) (text : Bor (List ℕ)) → piece.v ≡ RawText text
    → piece_of piece ≡ literal (record { text = text.now; start = piece.span.start; end = piece.span.end })
text_piece piece text is = ap (piece_at piece.span.start piece.span.end) is

module _ {definitions : Definitions} {is_verbatim : Bool} where
  pub text_says : {atoms : List Atom} (piece : Spanned RawChunk) (text : Bor (List ℕ)) → piece.v ≡ RawText text
      → IsContent is_verbatim (chars text.now) atoms
      → Evaluates definitions is_verbatim (piece_of piece ∷ []) atoms
  text_says {atoms} piece text is read =
      subst (λ one. Evaluates definitions is_verbatim (one ∷ []) atoms) (sym (text_piece piece text is))
      (evaluates_as (append-nil atoms) (evaluates.text read evaluates.none))

  pub text_refused : (piece : Spanned RawChunk) (text : Bor (List ℕ)) (e : ParseError) → piece.v ≡ RawText text
      → (e ≡ out_of_memory) ⊎ ContentFails is_verbatim 0 (chars text.now) e.kind
      → (piece.span.start + length text.now < 2 ^ 64 → StaysBetween piece.span.start (piece.span.start + length text.now) e)
      → (e ≡ out_of_memory) ⊎ ((rest : List Piece) → IsFirstError definitions is_verbatim [] (piece_of piece ∷ rest) e)
  text_refused piece text e is (inl memory) within = inl memory
  text_refused piece text e is (inr fails) within =
      let part : Part = record { text = text.now; start = piece.span.start; end = piece.span.end } in
      let stands = stands_in part text.now piece.span.start e refl refl (fails_kind fails) within in
      inr (λ rest. subst (λ one. IsFirstError definitions is_verbatim [] (one ∷ rest) e) (sym (text_piece piece text is))
      (first_error.unread fails stands))

-- the chunks of a literal whose span is as long as its text are placed in this span
pub text_placed : (old new : List (Spanned Chunk)) (piece : Spanned RawChunk) (text : Bor (List ℕ)) (p : Part) (low : ℕ)
    → piece.v ≡ RawText text
    → piece_of piece ≡ literal p → p.end ≡ p.start + length p.text
    → (ArePlaced low piece.span.start old → ArePlaced low (min (piece.span.start + length text.now) (2 ^ 64 - 1)) new)
    → ArePlaced low p.start old → ArePlaced low p.end new
text_placed old new piece text p low is named long places placed =
    let same : literal (record { text = text.now; start = piece.span.start; end = piece.span.end }) ≡ literal p =
    sym (text_piece piece text is) ∙ named in
    let start : piece.span.start ≡ p.start = cc same in
    let bytes : text.now ≡ p.text = cc same in
    let below : min (piece.span.start + length text.now) (2 ^ 64 - 1) ≤ p.end = omega (arith, start, ap length bytes, long) in
    placed_up new low _ p.end below (places (subst (λ n. ArePlaced low n old) (sym start) placed))

-- the pieces up to the next index are those before it and the piece at it
pieces_more : (items : List (Spanned RawChunk)) (i : ℕ) (d : Spanned RawChunk) → i < length items
    → map piece_of (take (i + 1) items) ≡ map piece_of (take i items) ++ piece_of (get_or items i d) ∷ []
pieces_more items i d within = ap (map piece_of) (take_more items i d within) ∙ map-append piece_of (take i items) (get_or items i d ∷ [])

-- all pieces are those before an index, the piece at it and those after it
pieces_at : (items : List (Spanned RawChunk)) (i : ℕ) (d : Spanned RawChunk) → i < length items
    → map piece_of items ≡ map piece_of (take i items) ++ piece_of (get_or items i d) ∷ map piece_of (drop (i + 1) items)
pieces_at items i d within =
    let before = map piece_of (take i items) in
    let piece = piece_of (get_or items i d) in
    ap (map piece_of) (sym (take-append-drop (i + 1) items)) ∙ map-append piece_of (take (i + 1) items) (drop (i + 1) items)
    ∙ ap (λ pieces. pieces ++ map piece_of (drop (i + 1) items)) (pieces_more items i d within)
    ∙ append_assoc before (piece ∷ []) (map piece_of (drop (i + 1) items))

module _ {definitions : Definitions} {is_verbatim : Bool} where
  -- a step of the loop: one more piece was parsed
  pub read_step : {old new : List (Spanned Chunk)} {atoms : List Atom} (items shown : List (Spanned RawChunk)) (i : ℕ)
      (d : Spanned RawChunk) → shown ≡ items
      → i < length shown → IsRead definitions is_verbatim (map piece_of (take i items)) old
      → Evaluates definitions is_verbatim (piece_of (get_or shown i d) ∷ []) atoms → styled new ≡ styled old ++ atoms
      → (AreJoined old → AreJoined new)
      →
      ((p : Part) → piece_of (get_or shown i d) ≡ literal p → p.end ≡ p.start + length p.text → (low : ℕ)
      → ArePlaced low p.start old → ArePlaced low p.end new)
      → IsRead definitions is_verbatim (map piece_of (take (i + 1) items)) new
  read_step {new = new} {atoms = atoms} items shown i d same within x says styles joins places =
      let before : i < length items = omega (arith, ap length same) in
      let is : get_or shown i d ≡ get_or items i d = ap (λ xs. get_or xs i d) same in
      let piece = piece_of (get_or shown i d) in
      let more = ap (λ one. map piece_of (take i items) ++ piece_of one ∷ []) is ∙ sym (pieces_more items i d before) in
      subst (λ pieces. IsRead definitions is_verbatim pieces new) more (read_more piece x says styles joins places)

  -- once all pieces were parsed, the chunks are the contents of the field
  pub read_all : {out : List (Spanned Chunk)} (items shown : List (Spanned RawChunk)) (i : ℕ) → shown ≡ items
      → length shown ≤ i → IsRead definitions is_verbatim (map piece_of (take i items)) out
      → AreContents definitions is_verbatim (map piece_of items) out
  read_all {out} items shown i same past x =
      let all : take i items ≡ items = take_all i items (omega (arith, ap length same, past)) in
      let whole = subst (λ xs. IsRead definitions is_verbatim (map piece_of xs) out) all x in
      record { says = whole.said; joined = whole.joined; placed = whole.placed }

  pub read_stop : {old : List (Spanned Chunk)} (items shown : List (Spanned RawChunk)) (i : ℕ) (d : Spanned RawChunk)
      (e : ParseError) → shown ≡ items
      → i < length shown → IsRead definitions is_verbatim (map piece_of (take i items)) old
      → (e ≡ out_of_memory) ⊎ ((more : List Piece) → IsFirstError definitions is_verbatim [] (piece_of (get_or shown i d) ∷ more) e)
      → (e ≡ out_of_memory) ⊎ IsFirstError definitions is_verbatim [] (map piece_of items) e
  read_stop items shown i d e same within x error =
      let before : i < length items = omega (arith, ap length same) in
      let rest = map piece_of (drop (i + 1) items) in
      let is = pieces_at items i d before ∙ ap (λ xs. map piece_of (take i items) ++ piece_of (get_or xs i d) ∷ rest) (sym same) in
      read_refused (map piece_of items) (piece_of (get_or shown i d)) rest e x is error
