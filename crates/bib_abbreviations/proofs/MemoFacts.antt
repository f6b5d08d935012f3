-- The styled text of a literal, and the memo and the waiting frames after the expansion of a name begins or ends.
use Rattle.std.proofs.Common.{◌≡◌, ℕ, ◌+◌, ◌-◌, ◌<◌, ◌≤◌, Bool, true, false, List, [], ◌∷◌, ◌++◌, map, length, take, drop, refl, sym, ap, ◌∙◌, subst, append_assoc, append-nil, inl, inr, arith, Option, Some, None, length-append, length-drop}
use Rattle.std.specs.Prelude.{◌⊎◌, bytes_eq, ◌^◌}
use Rattle.std.specs.BTreeMap as tree
use Rattle.std.specs.Cmp.Lexicographic.{slice_cmp}
use Rattle.std.specs.Ordering.{nat_cmp}
use Rattle.std.proofs.lemmas.Bool.{false≢true}
use Rattle.std.proofs.lemmas.Slice.Eq.{bytes_eq-Decides}
use Rattle.std.specs.Global.{Vec}
use Rattle.std.specs.Str.{chars}
use Rattle.std.proofs.lemmas.List.{take-append-le, drop-append-le, take_all, take-append-drop, drop-drop}
use Rattle.bib_chunks.specs.declared.chunk.Chunk.{Chunk}
use Rattle.bib_chunks.specs.declared.chunk.Chunk.TheVariants.{Normal}
use Rattle.bib_text.specs.declared.spanned.Spanned.{Spanned}
use Rattle.bib_chunks.specs.Styled.{Atom, atoms_of, styled}
use Rattle.bib_syntax.specs.declared.raw.ParseError.{ParseError}
use Rattle.bib_abbreviations.specs.declared.abbreviations.Frame.{Frame}
use Rattle.bib_abbreviations.specs.declared.abbreviations.Memo.{Memo}
use Rattle.bib_abbreviations.specs.declared.abbreviations.Progress.{Progress}
use Rattle.bib_abbreviations.specs.declared.abbreviations.Progress.TheVariants.{Begun, Done}
use Rattle.bib_contents.specs.ContentErrors.{ContentFails}
use Rattle.bib_contents.specs.Contents.{IsContent, IsUnread, LiesBetween, StaysBetween}
use Rattle.bib_contents.proofs.FailFacts.{fails_kind}
use Rattle.bib_syntax.specs.declared.raw.ParseErrorKind.TheVariants.{OutOfMemory}
use Rattle.bib_syntax.specs.Errors.{out_of_memory}
use Rattle.bib_syntax.specs.Reading.{Part, Piece}
use Rattle.bib_syntax.specs.Reading.Piece.{literal, abbreviation}
use Rattle.bib_abbreviations.specs.Abbreviations.{Definitions, month, Evaluates, IsOnPath, IsFirstError, LiesInPart}
use Rattle.bib_abbreviations.specs.Abbreviations.{Evaluates as evaluates, IsFirstError as first_error}
use Rattle.bib_abbreviations.specs.Expanding.{progress, with_progress, chunks_between, IsValue, IsSound, Expands}
use Rattle.bib_syntax.specs.Views.{piece_of}

-- the error of a text that can't be parsed isn't out of memory
no_memory : (e : ParseError) → IsUnread e.kind → e ≡ out_of_memory → ⊥
no_memory e (inl eof) memory = let kind : e.kind ≡ OutOfMemory = ap (λ x. x.kind) memory in cc (eof, kind)
no_memory e (inr brace) memory = let kind : e.kind ≡ OutOfMemory = ap (λ x. x.kind) memory in cc (brace, kind)

-- an error of contents, which isn't out of memory, lies in the span of its literal
lies_in : (p : Part) (low high : ℕ) (e : ParseError) → IsUnread e.kind → p.start ≡ low → p.end ≡ high
    → StaysBetween low high e → LiesBetween p.start p.end e
lies_in p low high e unread starts ends (inl memory) = absurd (no_memory e unread memory)
lies_in p low high e unread starts ends (inr lies) = (omega (arith, starts, lies.0), lies.1, omega (arith, ends, lies.2))

-- the span of a literal's error lies in that of the literal
pub stands_in : (p : Part) (text : List ℕ) (offset : ℕ) (e : ParseError) → p.text ≡ text → p.start ≡ offset → IsUnread e.kind
    → (offset + length text < 2 ^ 64 → StaysBetween offset (offset + length text) e) → LiesInPart p e
stands_in p text offset e same starts unread within long fits =
    let size : length p.text ≡ length text = ap length same in
    lies_in p offset (offset + length text) e unread starts (omega (arith, long, starts, size))
    (within (omega (arith, long, fits, starts, size)))

module _ {definitions : Definitions} {is_verbatim : Bool} where
  pub evaluates_as : {pieces : List Piece} {atoms same : List Atom} → atoms ≡ same → Evaluates definitions is_verbatim pieces atoms
      → Evaluates definitions is_verbatim pieces same
  evaluates_as {pieces} is x = subst (λ a. Evaluates definitions is_verbatim pieces a) is x

  -- the styled text of appended pieces is the styled text of the first ones and then that of the second ones
  pub evaluates_append : {first more : List Piece} {a : List Atom} (b : List Atom) → Evaluates definitions is_verbatim first a
      → Evaluates definitions is_verbatim more b → Evaluates definitions is_verbatim (first ++ more) (a ++ b)
  evaluates_append b evaluates.none y = y
  evaluates_append b (evaluates.text {first = one} {more = rest'} x rest) y =
      evaluates_as (sym (append_assoc one rest' b)) (evaluates.text x (evaluates_append b rest y))
  evaluates_append b (evaluates.defined {first = one} {more = rest'} d x rest) y =
      evaluates_as (sym (append_assoc one rest' b)) (evaluates.defined d x (evaluates_append b rest y))
  evaluates_append b (evaluates.month_name {english = english} {more = rest'} d m rest) y =
      evaluates_as (sym (append_assoc (map Atom.normal (chars english)) rest' b)) (evaluates.month_name d m (evaluates_append b rest y))

  -- the first error after pieces with a styled text is the first of all
  pub error_after : {first more : List Piece} {a : List Atom} {path : List (List ℕ)} {e : ParseError}
      → Evaluates definitions is_verbatim first a
      → IsFirstError definitions is_verbatim path more e → IsFirstError definitions is_verbatim path (first ++ more) e
  error_after evaluates.none error = error
  error_after (evaluates.text x rest) error = first_error.following (evaluates.text x evaluates.none) (error_after rest error)
  error_after (evaluates.defined d x rest) error = first_error.following (evaluates.defined d x evaluates.none) (error_after rest error)
  error_after (evaluates.month_name d m rest) error =
      first_error.following (evaluates.month_name d m evaluates.none) (error_after rest error)

  -- a literal was expanded
  pub expands_text : {old new : List (Spanned Chunk)} {atoms : List Atom} (part : List (Spanned Chunk)) (p : Part)
      (text : List ℕ) → IsContent is_verbatim (chars text) atoms
      → styled part ≡ atoms → new ≡ old ++ part → p.text ≡ text → Expands definitions is_verbatim old new (literal p ∷ [])
  expands_text {atoms = atoms} part p text read says values same = record {
    more = part;
    values = values;
    says =
        evaluates_as (append-nil atoms ∙ sym says)
        (evaluates.text (subst (λ t. IsContent is_verbatim (chars t) atoms) (sym same) read) evaluates.none);
  }

  -- the name of a month was expanded
  pub expands_month : {old new : List (Spanned Chunk)} {english : List ℕ} (p : Part) (chunk : Spanned Chunk)
      (text : List ℕ) → definitions p.text ≡ None
      → Some english ≡ month p.text → chunk.v ≡ Normal text → text ≡ english → new ≡ old ++ chunk ∷ []
      → Expands definitions is_verbatim old new (abbreviation p ∷ [])
  expands_month {english = english} p chunk text d m is same values = record {
    more = chunk ∷ [];
    values = values;
    says =
        evaluates_as (ap (λ t. map Atom.normal (chars t) ++ []) (sym same) ∙ ap (λ v. atoms_of v ++ []) (sym is))
        (evaluates.month_name d (sym m) evaluates.none);
  }

  -- a name that was expanded before was expanded again
  pub expands_again : {old new : List (Spanned Chunk)} {start end : ℕ} (more : List (Spanned Chunk)) (p : Part)
      → IsValue definitions is_verbatim old p.text start end
      → new ≡ old ++ more → styled more ≡ styled (chunks_between start end old)
      → Expands definitions is_verbatim old new (abbreviation p ∷ [])
  expands_again more p value values says = record {
    more = more;
    values = values;
    says = evaluates_as (append-nil _ ∙ sym says) (evaluates.defined value.is value.says evaluates.none);
  }

  -- the error of the text of a literal is out of memory, or the first error of any pieces that begin with this literal
  pub unread_reported : (text : List ℕ) (offset : ℕ) (e : ParseError)
      → (e ≡ out_of_memory) ⊎ ContentFails is_verbatim 0 (chars text) e.kind
      → (offset + length text < 2 ^ 64 → StaysBetween offset (offset + length text) e)
      → (e ≡ out_of_memory)
      ⊎
      ((p : Part) (path : List (List ℕ)) (rest : List Piece) → p.text ≡ text → p.start ≡ offset
      → IsFirstError definitions is_verbatim path (literal p ∷ rest) e)
  unread_reported text offset e (inl memory) within = inl memory
  unread_reported text offset e (inr fails) within =
      inr (λ p path rest same starts. first_error.unread (subst (λ t. ContentFails is_verbatim 0 (chars t) e.kind) (sym same) fails)
      (stands_in p text offset e same starts (fails_kind fails) within))

-- the names of frames
abbrev pub names_of : List Frame → List (List ℕ)
names_of [] = []
names_of (frame ∷ frames) = frame.name.now ∷ names_of frames

-- frames that wait, each for the name of the one above. The topmost waits for `name`, whose chunks begin at `limit`.
-- The lowest is the frame of the first name.
pub data AreWaiting (definitions : Definitions) (is_verbatim : Bool) (chunks : List (Spanned Chunk)) (first : List ℕ)
    (base : ℕ) : List ℕ → ℕ → List Frame → Type 0 where
  none : {name : List ℕ} {limit : ℕ} → name ≡ first → limit ≡ base → AreWaiting definitions is_verbatim chunks first base name limit []
  above : {name : List ℕ} {limit : ℕ} {frame : Frame} {frames : List Frame} (said : List Piece) (p : Part) → p.text ≡ name
      → definitions frame.name.now ≡ Some (said ++ abbreviation p ∷ map piece_of frame.rest.now) → frame.start ≤ limit
      → Evaluates definitions is_verbatim said (styled (chunks_between frame.start limit chunks))
      → (IsOnPath (names_of frames) frame.name.now → ⊥)
      → AreWaiting definitions is_verbatim chunks first base frame.name.now frame.start frames
      → AreWaiting definitions is_verbatim chunks first base name limit (frame ∷ frames)

-- a name is being expanded, and frames wait for it: the pieces of its definition before those that are left were
-- expanded
pub record IsExpanding (definitions : Definitions) (is_verbatim : Bool) (base : List (Spanned Chunk)) (first : List ℕ)
    (memo : Memo) (frame : Frame) (frames : List Frame) : Type 0 where
  pub sound : IsSound definitions is_verbatim memo (frame.name.now ∷ names_of frames)
  pub more : List (Spanned Chunk)
  pub kept : memo.values.items ≡ base ++ more
  pub said : List Piece
  pub is : definitions frame.name.now ≡ Some (said ++ map piece_of frame.rest.now)
  pub start : frame.start ≤ length memo.values.items
  pub says : Evaluates definitions is_verbatim said (styled (drop frame.start memo.values.items))
  pub fresh : IsOnPath (names_of frames) frame.name.now → ⊥
  pub waiting : AreWaiting definitions is_verbatim memo.values.items first (length base) frame.name.now frame.start frames

-- chunks between two indices stay the same if more chunks are appended
between_grows : (start end : ℕ) (chunks more : List (Spanned Chunk)) → start ≤ end → end ≤ length chunks
    → chunks_between start end (chunks ++ more) ≡ chunks_between start end chunks
between_grows start end chunks more ordered within =
    let start_within : start ≤ length chunks = omega arith in
    let enough : end - start ≤ length (drop start chunks) = omega (arith, length-drop start chunks) in
    ap (take (end - start)) (drop-append-le start chunks more start_within) ∙ take-append-le (end - start) (drop start chunks) more enough

-- the chunks between an index and the end are those from the index on
pub between_all : (start : ℕ) (chunks : List (Spanned Chunk)) → chunks_between start (length chunks) chunks ≡ drop start chunks
between_all start chunks = take_all (length chunks - start) (drop start chunks) (omega (arith, length-drop start chunks))

-- the chunks from an index are those up to a later one and those from there
pub between_then : (start middle : ℕ) (chunks : List (Spanned Chunk)) → start ≤ middle
    → drop start chunks ≡ chunks_between start middle chunks ++ drop middle chunks
between_then start middle chunks ordered =
    let same : start + (middle - start) ≡ middle = omega arith in
    sym (take-append-drop (middle - start) (drop start chunks))
    ∙ ap (λ rest. chunks_between start middle chunks ++ rest) (drop-drop (middle - start) start chunks ∙ ap (λ n. drop n chunks) same)

pub nothing_after : (chunks : List (Spanned Chunk)) → drop (length chunks) chunks ≡ []
nothing_after [] = refl
nothing_after (c ∷ chunks) = nothing_after chunks

pub all_after : (chunks more : List (Spanned Chunk)) → drop (length chunks) (chunks ++ more) ≡ more
all_after [] more = refl
all_after (c ∷ chunks) more = all_after chunks more

pub none_begun : None ≡ Some Begun → ⊥
none_begun is = cc is

-- a memo with the same names has the same progress
pub progress_same : (new old : Memo) → new.names ≡ old.names → (name : List ℕ) → progress new name ≡ progress old name
progress_same new old names name = ap (λ m. tree.get_by (λ key. slice_cmp nat_cmp name key.now) m) names

pub none_done : (start end : ℕ) → None ≡ Some (Done start end) → ⊥
none_done start end is = cc is

pub no_pieces : (p : Part) → [] ≡ literal p ∷ [] → ⊥
no_pieces p is = cc is

begun_done : (start end : ℕ) → Some Begun ≡ Some (Done start end) → ⊥
begun_done start end is = cc is

-- equal states have the same ends
same_ends : (start end from to : ℕ) → Some (Done start end) ≡ Some (Done from to) → (start ≡ from) × (end ≡ to)
same_ends start end from to is = (cc is, cc is)

-- a name on a path that isn't the first is on the rest of the path
after_first : {name other : List ℕ} (path : List (List ℕ)) → (name ≡ other → ⊥) → IsOnPath (name ∷ path) other → IsOnPath path other
after_first path apart (inl same) = absurd (apart same)
after_first path apart (inr on) = on

-- the state of a name after that of one name changed
abbrev pub IsNoted : List ℕ → List ℕ → Progress → (List ℕ → Option Progress) → (List ℕ → Option Progress) → Type 0
IsNoted name other now new old = ((name ≡ other) × (new other ≡ Some now)) ⊎ ((new other ≡ old other) × (name ≡ other → ⊥))

noted_by : (name other : List ℕ) (now : Progress) (new old : List ℕ → Option Progress) (same : Bool) → bytes_eq name other ≡ same
    → new other ≡ with_progress name now old other → IsNoted name other now new old
noted_by name other now new old true same is = inl ((bytes_eq-Decides name other).0 same, rw same at is)
noted_by name other now new old false apart is = inr (rw apart at is, λ same. false≢true (sym apart ∙ (bytes_eq-Decides name other).1 same))

-- after the state of one name changed, that name has the new state, and any other its old one
pub noted_cases : (name other : List ℕ) (now : Progress) (new old : List ℕ → Option Progress)
    → ((q : List ℕ) → new q ≡ with_progress name now old q)
    → IsNoted name other now new old
noted_cases name other now new old is = noted_by name other now new old (bytes_eq name other) refl (is other)

module _ {definitions : Definitions} {is_verbatim : Bool} where
  value_grows : {name : List ℕ} {start end : ℕ} {old : List (Spanned Chunk)} (new more : List (Spanned Chunk)) → new ≡ old ++ more
      → IsValue definitions is_verbatim old name start end → IsValue definitions is_verbatim new name start end
  value_grows {start = start} {end = end} {old = old} new more grown value = record {
    definition = value.definition;
    is = value.is;
    ordered = value.ordered;
    within = omega (arith, value.within, ap length grown, length-append old more);
    says =
        evaluates_as
        (ap styled
        (sym (ap (chunks_between start end) grown ∙ between_grows start end old more value.ordered value.within)))
        value.says;
  }

  value_moves : {name : List ℕ} {start end : ℕ} (old new : Memo) → new.values ≡ old.values
      → IsValue definitions is_verbatim old.values.items name start end
      → IsValue definitions is_verbatim new.values.items name start end
  value_moves {name} {start} {end} old new values value =
      subst (λ (v : Vec (Spanned Chunk)). IsValue definitions is_verbatim v.items name start end) (sym values) value

  pub sound_grows : {path : List (List ℕ)} {old : Memo} (new : Memo) (more : List (Spanned Chunk))
      → new.names ≡ old.names → new.values.items ≡ old.values.items ++ more
      → IsSound definitions is_verbatim old path → IsSound definitions is_verbatim new path
  sound_grows {old = old} new more names grown sound = record {
    done = λ name start end is.
        value_grows new.values.items more grown
        (sound.done name start end (sym (progress_same new old names name) ∙ is));
    begun = λ name is. sound.begun name (sym (progress_same new old names name) ∙ is);
    on_path = λ name on. progress_same new old names name ∙ sound.on_path name on;
  }

  pub waiting_grows : {first : List ℕ} {base : ℕ} {old : List (Spanned Chunk)} (new more : List (Spanned Chunk))
      {name : List ℕ} {limit : ℕ} {frames : List Frame} → new ≡ old ++ more
      → limit ≤ length old → AreWaiting definitions is_verbatim old first base name limit frames
      → AreWaiting definitions is_verbatim new first base name limit frames
  waiting_grows new more grown within (AreWaiting.none is at) = AreWaiting.none is at
  waiting_grows {old = old} new more grown within (AreWaiting.above {limit = limit} {frame = frame} said p same is start says fresh below) =
      AreWaiting.above said p same is start
      (evaluates_as
      (ap styled
      (sym (ap (chunks_between frame.start limit) grown ∙ between_grows frame.start limit old more start within)))
      says)
      fresh (waiting_grows new more grown (omega arith) below)

  done_open : {path : List (List ℕ)} {old : Memo} (new : Memo) (name other : List ℕ) (start end : ℕ) → new.values ≡ old.values
      → IsSound definitions is_verbatim old path → progress new other ≡ Some (Done start end)
      → IsNoted name other Begun (progress new) (progress old)
      → IsValue definitions is_verbatim new.values.items other start end
  done_open new name other start end values sound is (inl x) = absurd (begun_done start end (sym x.1 ∙ is))
  done_open {old = old} new name other start end values sound is (inr x) =
      value_moves old new values (sound.done other start end (sym x.0 ∙ is))

  begun_open : {path : List (List ℕ)} {old : Memo} (new : Memo) (name other : List ℕ) → IsSound definitions is_verbatim old path
      → progress new other ≡ Some Begun → IsNoted name other Begun (progress new) (progress old) → IsOnPath (name ∷ path) other
  begun_open new name other sound is (inl x) = inl x.0
  begun_open new name other sound is (inr x) = inr (sound.begun other (sym x.0 ∙ is))

  path_open : {path : List (List ℕ)} {old : Memo} (new : Memo) (name other : List ℕ) → IsSound definitions is_verbatim old path
      → progress old name ≡ None → IsOnPath (name ∷ path) other → IsNoted name other Begun (progress new) (progress old)
      → progress new other ≡ Some Begun
  path_open new name other sound absent on (inl x) = x.1
  path_open new name other sound absent (inl same) (inr x) = absurd (x.1 same)
  path_open new name other sound absent (inr on) (inr x) = x.0 ∙ sound.on_path other on

  done_close : {path : List (List ℕ)} {old : Memo} (new : Memo) (name other : List ℕ) (start end from to : ℕ) → new.values ≡ old.values
      → IsValue definitions is_verbatim old.values.items name start end → IsSound definitions is_verbatim old (name ∷ path)
      → progress new other ≡ Some (Done from to) → IsNoted name other (Done start end) (progress new) (progress old)
      → IsValue definitions is_verbatim new.values.items other from to
  done_close {old = old} new name other start end from to values value sound is (inl x) =
      let same = same_ends start end from to (sym x.1 ∙ is) in
      let chunks = old.values.items in
      value_moves old new values (subst (λ n. IsValue definitions is_verbatim chunks other n to) same.0
      (subst (λ n. IsValue definitions is_verbatim chunks other start n) same.1
      (subst (λ n. IsValue definitions is_verbatim chunks n start end) x.0 value)))
  done_close {old = old} new name other start end from to values value sound is (inr x) =
      value_moves old new values (sound.done other from to (sym x.0 ∙ is))

  begun_close : {path : List (List ℕ)} {old : Memo} (new : Memo) (name other : List ℕ) (start end : ℕ)
      → IsSound definitions is_verbatim old (name ∷ path)
      → progress new other ≡ Some Begun → IsNoted name other (Done start end) (progress new) (progress old) → IsOnPath path other
  begun_close new name other start end sound is (inl x) = absurd (begun_done start end (sym is ∙ x.1))
  begun_close {path} new name other start end sound is (inr x) = after_first path x.1 (sound.begun other (sym x.0 ∙ is))

  path_close : {path : List (List ℕ)} {old : Memo} (new : Memo) (name other : List ℕ) (start end : ℕ) → (IsOnPath path name → ⊥)
      → IsSound definitions is_verbatim old (name ∷ path) → IsOnPath path other
      → IsNoted name other (Done start end) (progress new) (progress old)
      → progress new other ≡ Some Begun
  path_close {path} new name other start end fresh sound on (inl x) = absurd (fresh (subst (λ n. IsOnPath path n) (sym x.0) on))
  path_close new name other start end fresh sound on (inr x) = x.0 ∙ sound.on_path other (inr on)

  pub sound_open : {path : List (List ℕ)} {old : Memo} (new : Memo) (name : List ℕ) → progress old name ≡ None → new.values ≡ old.values
      → ((other : List ℕ) → progress new other ≡ with_progress name Begun (progress old) other)
      → IsSound definitions is_verbatim old path → IsSound definitions is_verbatim new (name ∷ path)
  sound_open {path} {old = old} new name absent values names sound = record {
    done = λ other start end is.
        done_open new name other start end values sound is
        (noted_cases name other Begun (progress new) (progress old) names);
    begun = λ other is. begun_open new name other sound is (noted_cases name other Begun (progress new) (progress old) names);
    on_path = λ other on. path_open new name other sound absent on (noted_cases name other Begun (progress new) (progress old) names);
  }

  pub sound_close : {path : List (List ℕ)} {old : Memo} (new : Memo) (name : List ℕ) (start end : ℕ) → (IsOnPath path name → ⊥)
      → IsValue definitions is_verbatim old.values.items name start end → new.values ≡ old.values
      → ((other : List ℕ) → progress new other ≡ with_progress name (Done start end) (progress old) other)
      → IsSound definitions is_verbatim old (name ∷ path) → IsSound definitions is_verbatim new path
  sound_close {old = old} new name start end fresh value values names sound = record {
    done = λ other from to is.
        done_close new name other start end from to values value sound is
        (noted_cases name other (Done start end) (progress new) (progress old) names);
    begun = λ other is.
        begun_close new name other start end sound is
        (noted_cases name other (Done start end) (progress new) (progress old) names);
    on_path = λ other on.
        path_close new name other start end fresh sound on
        (noted_cases name other (Done start end) (progress new) (progress old) names);
  }
