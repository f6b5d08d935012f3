-- The steps of the expansion of names, in which each name is expanded once.
use Rattle.std.proofs.Common.{◌≡◌, ℕ, Bool, List, [], ◌∷◌, ◌++◌, map, length, drop, refl, sym, ap, ◌∙◌, subst, append_assoc, append-nil, arith, Some, length-append}
use Rattle.std.specs.Borrow.{Bor}
use Rattle.std.specs.Global.{Vec}
use Rattle.std.proofs.lemmas.List.{drop-append-le}
use Rattle.bib_chunks.specs.declared.chunk.Chunk.{Chunk}
use Rattle.bib_text.specs.declared.spanned.Spanned.{Spanned}
use Rattle.bib_chunks.specs.Styled.{styled}
use Rattle.bib_syntax.specs.declared.raw.ParseError.{ParseError}
use Rattle.bib_syntax.specs.declared.raw.RawChunk.{RawChunk}
use Rattle.bib_abbreviations.specs.declared.abbreviations.Frame.{Frame}
use Rattle.bib_abbreviations.specs.declared.abbreviations.Memo.{Memo}
use Rattle.bib_abbreviations.specs.declared.abbreviations.Progress.TheVariants.{Done}
use Rattle.bib_syntax.specs.Reading.{Part, Piece}
use Rattle.bib_syntax.specs.Reading.Piece.{abbreviation}
use Rattle.bib_abbreviations.specs.Abbreviations.{Definitions, Evaluates, IsOnPath, IsFirstError}
use Rattle.bib_abbreviations.specs.Abbreviations.{Evaluates as evaluates, IsFirstError as first_error}
use Rattle.bib_abbreviations.specs.Expanding.{progress, with_progress, chunks_between, AreWithin, IsValue, IsSound, Expands, Opens}
use Rattle.bib_syntax.specs.Views.{piece_of}
use Rattle.bib_chunks.proofs.JoinedFacts.{styled-append}
use Rattle.bib_abbreviations.proofs.MemoFacts.{evaluates_as, evaluates_append, error_after, names_of, AreWaiting, IsExpanding, between_all, between_then, nothing_after, all_after, none_begun, sound_grows, waiting_grows, sound_open, sound_close}

module _ {definitions : Definitions} {is_verbatim : Bool} where
  -- the expansion of the first name begins
  pub expanding_first : (memo : Memo) (frame : Frame) → IsSound definitions is_verbatim memo (frame.name.now ∷ [])
      → definitions frame.name.now ≡ Some (map piece_of frame.rest.now) → frame.start ≡ length memo.values.items
      → IsExpanding definitions is_verbatim memo.values.items frame.name.now memo frame []
  expanding_first memo frame sound is start = record {
    sound = sound;
    more = [];
    kept = sym (append-nil memo.values.items);
    said = [];
    is = is;
    start = omega (arith, start);
    says = evaluates_as (ap styled (sym (ap (λ n. drop n memo.values.items) start ∙ nothing_after memo.values.items))) evaluates.none;
    fresh = λ on. on;
    waiting = AreWaiting.none refl start;
  }

  -- a piece was expanded
  pub expanding_said : {base : List (Spanned Chunk)} {first : List ℕ} {memo : Memo} {frame : Frame} {frames : List Frame} (new : Memo)
      (piece : Spanned RawChunk) (rest : Bor (List (Spanned RawChunk))) → IsExpanding definitions is_verbatim base first memo frame frames
      → frame.rest.now ≡ piece ∷ rest.now
      → Expands definitions is_verbatim memo.values.items new.values.items (piece_of piece ∷ [])
      → new.names ≡ memo.names
      → IsExpanding definitions is_verbatim base first new (record { name = frame.name; rest = rest; start = frame.start }) frames
  expanding_said {base} {memo = memo} {frame = frame} new piece rest x split said names = record {
    sound = sound_grows new said.more names said.values x.sound;
    more = x.more ++ said.more;
    kept = said.values ∙ ap (λ chunks. chunks ++ said.more) x.kept ∙ append_assoc base x.more said.more;
    said = x.said ++ piece_of piece ∷ [];
    is =
        x.is ∙ ap (λ pieces. Some (x.said ++ map piece_of pieces)) split
        ∙ ap Some (sym (append_assoc x.said (piece_of piece ∷ []) (map piece_of rest.now)));
    start = omega (arith, x.start, ap length said.values, length-append memo.values.items said.more);
    says = evaluates_as
        (sym (ap (λ chunks. styled (drop frame.start chunks)) said.values
        ∙ ap styled (drop-append-le frame.start memo.values.items said.more x.start)
        ∙ styled-append (drop frame.start memo.values.items) said.more))
        (evaluates_append (styled said.more) x.says said.says);
    fresh = x.fresh;
    waiting = waiting_grows new.values.items said.more said.values x.start x.waiting;
  }

  -- the expansion of a name begins, and the frame in which it occurred waits
  pub expanding_opened : {base : List (Spanned Chunk)} {first : List ℕ} {memo : Memo} {frame : Frame} {frames : List Frame} (new : Memo)
      (piece : Spanned RawChunk) (rest : Bor (List (Spanned RawChunk))) (p : Part) (opened : Frame)
      → IsExpanding definitions is_verbatim base first memo frame frames
      → frame.rest.now ≡ piece ∷ rest.now → piece_of piece ≡ abbreviation p → Opens definitions memo new p.text opened
      → IsExpanding definitions is_verbatim base first new opened (record { name = frame.name; rest = rest; start = frame.start } ∷ frames)
  expanding_opened {base} {first} {memo} {frame} {frames} new piece rest p opened x split named opens =
      let same : new.values.items ≡ memo.values.items = ap (λ (v : Vec (Spanned Chunk)). v.items) opens.values in
      let path = frame.name.now ∷ names_of frames in
      let off : IsOnPath path p.text → ⊥ = λ on. none_begun (sym opens.fresh ∙ x.sound.on_path p.text on) in
      let all : List Frame = record { name = frame.name; rest = rest; start = frame.start } ∷ frames in
      let waiting : AreWaiting definitions is_verbatim memo.values.items first (length base) p.text (length memo.values.items) all
      = AreWaiting.above x.said p refl
      (x.is ∙ ap (λ pieces. Some (x.said ++ map piece_of pieces)) split ∙ ap (λ one. Some (x.said ++ one ∷ map piece_of rest.now)) named)
      x.start
      (evaluates_as (ap styled (sym (between_all frame.start memo.values.items))) x.says)
      x.fresh x.waiting in
      record {
        sound =
            subst (λ n. IsSound definitions is_verbatim new (n ∷ path)) (sym opens.named)
            (sound_open new p.text opens.fresh opens.values opens.names x.sound);
        more = x.more;
        kept = same ∙ x.kept;
        said = [];
        is = ap definitions opens.named ∙ opens.is;
        start = omega (arith, opens.start, ap length same);
        says =
            evaluates_as
            (ap styled
            (sym
            (ap (λ n. drop n new.values.items) opens.start ∙ ap (drop (length memo.values.items)) same
            ∙ nothing_after memo.values.items))) evaluates.none;
        fresh = λ on. off (subst (λ n. IsOnPath path n) opens.named on);
        waiting = subst (λ n. AreWaiting definitions is_verbatim new.values.items first (length base) n opened.start all) (sym opens.named)
            (subst (λ n. AreWaiting definitions is_verbatim new.values.items first (length base) p.text n all) (sym opens.start)
            (subst
            (λ chunks.
            AreWaiting definitions is_verbatim chunks first (length base) p.text (length memo.values.items) all)
            (sym same) waiting));
      }

  -- if no piece is left, all were expanded
  said_all : {base : List (Spanned Chunk)} {first : List ℕ} {memo : Memo} {frame : Frame} {frames : List Frame}
      (x : IsExpanding definitions is_verbatim base first memo frame frames) → frame.rest.now ≡ []
      → definitions frame.name.now ≡ Some x.said
  said_all x ends = x.is ∙ ap (λ pieces. Some (x.said ++ map piece_of pieces)) ends ∙ ap Some (append-nil x.said)

  -- a name was expanded: its chunks have the styled text of its definition
  value_of : {base : List (Spanned Chunk)} {first : List ℕ} {memo : Memo} {frame : Frame} {frames : List Frame}
      → IsExpanding definitions is_verbatim base first memo frame frames → frame.rest.now ≡ []
      → IsValue definitions is_verbatim memo.values.items frame.name.now frame.start (length memo.values.items)
  value_of {memo = memo} {frame = frame} x ends = record {
    definition = x.said;
    is = said_all x ends;
    ordered = x.start;
    within = omega arith;
    says = evaluates_as (ap styled (sym (between_all frame.start memo.values.items))) x.says;
  }

  closed_with : {base : List (Spanned Chunk)} {first : List ℕ} {memo : Memo} {frame below : Frame} {frames : List Frame} (new : Memo)
      → IsExpanding definitions is_verbatim base first memo frame (below ∷ frames) → frame.rest.now ≡ [] → new.values ≡ memo.values
      → ((other : List ℕ) → progress new other
      ≡ with_progress frame.name.now (Done frame.start (length memo.values.items)) (progress memo) other)
      → AreWaiting definitions is_verbatim memo.values.items first (length base) frame.name.now frame.start (below ∷ frames)
      → IsExpanding definitions is_verbatim base first new below frames
  closed_with {base} {first} {memo} {frame} {below} {frames} new x ends values names
      (AreWaiting.above said p same is start says fresh waiting) =
      let value = value_of x ends in
      let chunks = memo.values.items in
      let items : new.values.items ≡ chunks = ap (λ (v : Vec (Spanned Chunk)). v.items) values in
      let whole : styled (chunks_between below.start frame.start chunks) ++ (styled (drop frame.start chunks) ++ [])
      ≡ styled (drop below.start new.values.items)
      = ap (λ a. styled (chunks_between below.start frame.start chunks) ++ a) (append-nil (styled (drop frame.start chunks)))
      ∙ sym (styled-append (chunks_between below.start frame.start chunks) (drop frame.start chunks))
      ∙ ap styled (sym (between_then below.start frame.start chunks start)) ∙ ap (λ c. styled (drop below.start c)) (sym items) in
      record {
        sound = sound_close new frame.name.now frame.start (length chunks) x.fresh value values names x.sound;
        more = x.more;
        kept = items ∙ x.kept;
        said = said ++ abbreviation p ∷ [];
        is = is ∙ ap Some (sym (append_assoc said (abbreviation p ∷ []) (map piece_of below.rest.now)));
        start = omega (arith, start, x.start, ap length items);
        says = evaluates_as whole (evaluates_append _ says
            (evaluates.defined (ap definitions same ∙ said_all x ends) x.says evaluates.none));
        fresh = fresh;
        waiting =
            subst (λ c. AreWaiting definitions is_verbatim c first (length base) below.name.now below.start frames)
            (sym items) waiting;
      }

  -- the expansion of a name ends, and the frame that waits for it continues
  pub expanding_closed : {base : List (Spanned Chunk)} {first : List ℕ} {memo : Memo} {frame below : Frame}
      {frames : List Frame} (new : Memo)
      → IsExpanding definitions is_verbatim base first memo frame (below ∷ frames) → frame.rest.now ≡ [] → new.values ≡ memo.values
      → ((other : List ℕ) → progress new other
      ≡ with_progress frame.name.now (Done frame.start (length memo.values.items)) (progress memo) other)
      → IsExpanding definitions is_verbatim base first new below frames
  expanding_closed new x ends values names = closed_with new x ends values names x.waiting

  done_with : {base : List (Spanned Chunk)} {first : List ℕ} {memo : Memo} {frame : Frame} {whole : List Piece} (new : Memo)
      → IsExpanding definitions is_verbatim base first memo frame [] → frame.rest.now ≡ [] → new.values ≡ memo.values
      → definitions first ≡ Some whole
      → AreWaiting definitions is_verbatim memo.values.items first (length base) frame.name.now frame.start []
      → Expands definitions is_verbatim base new.values.items whole
  done_with {base} {first} {memo} {frame} {whole} new x ends values d (AreWaiting.none is at) =
      let items : new.values.items ≡ memo.values.items = ap (λ (v : Vec (Spanned Chunk)). v.items) values in
      let same : x.said ≡ whole = cc (ap definitions is, said_all x ends, d) in
      record {
        more = x.more;
        values = items ∙ x.kept;
        says = subst (λ pieces. Evaluates definitions is_verbatim pieces (styled x.more)) same
            (evaluates_as
            (ap (λ n. styled (drop n memo.values.items)) at ∙ ap (λ c. styled (drop (length base) c)) x.kept
            ∙ ap styled (all_after base x.more)) x.says);
      }

  -- the expansion of the first name ends: chunks with the styled text of its definition were appended
  pub expanding_done : {base : List (Spanned Chunk)} {first : List ℕ} {memo : Memo} {frame : Frame} {whole : List Piece} (new : Memo)
      → IsExpanding definitions is_verbatim base first memo frame [] → frame.rest.now ≡ [] → new.values ≡ memo.values
      → definitions first ≡ Some whole
      → Expands definitions is_verbatim base new.values.items whole
  expanding_done new x ends values d = done_with new x ends values d x.waiting

  pub sound_done : {base : List (Spanned Chunk)} {first : List ℕ} {memo : Memo} {frame : Frame} (new : Memo)
      → IsExpanding definitions is_verbatim base first memo frame [] → frame.rest.now ≡ [] → new.values ≡ memo.values
      → ((other : List ℕ) → progress new other
      ≡ with_progress frame.name.now (Done frame.start (length memo.values.items)) (progress memo) other)
      → IsSound definitions is_verbatim new []
  sound_done {memo = memo} {frame = frame} new x ends values names =
      sound_close new frame.name.now frame.start (length memo.values.items) x.fresh (value_of x ends) values names x.sound

  error_first : {chunks : List (Spanned Chunk)} {first : List ℕ} {base : ℕ} {e : ParseError} {whole : List Piece}
      {name : List ℕ} {limit : ℕ} {frames : List Frame}
      (definition : List Piece) → definitions first ≡ Some whole → AreWaiting definitions is_verbatim chunks first base name limit frames
      → definitions name ≡ Some definition → (IsOnPath (names_of frames) name → ⊥)
      → IsFirstError definitions is_verbatim (name ∷ names_of frames) definition e
      → IsFirstError definitions is_verbatim (first ∷ []) whole e
  error_first {first = first} {e = e} {whole = whole} definition d (AreWaiting.none is at) defined fresh error =
      let same : definition ≡ whole = cc (ap definitions is, defined, d) in
      subst (λ pieces. IsFirstError definitions is_verbatim (first ∷ []) pieces e) same
      (subst (λ n. IsFirstError definitions is_verbatim (n ∷ []) definition e) is error)
  error_first {e = e} definition d
      (AreWaiting.above {frame = frame} {frames = frames} said p same is start says off waiting) defined fresh error =
      let path = frame.name.now ∷ names_of frames in
      error_first (said ++ abbreviation p ∷ map piece_of frame.rest.now) d waiting is off
      (error_after says (first_error.inside (λ on. fresh (subst (λ n. IsOnPath path n) same on)) (ap definitions same ∙ defined)
      (subst (λ n. IsFirstError definitions is_verbatim (n ∷ path) definition e) (sym same) error)))

  -- the first error of the pieces that are left is the first error of the first name's definition
  pub expanding_error : {base : List (Spanned Chunk)} {first : List ℕ} {memo : Memo} {frame : Frame}
      {frames : List Frame} {whole : List Piece} {e : ParseError}
      (piece : Spanned RawChunk) (rest : List (Spanned RawChunk)) → IsExpanding definitions is_verbatim base first memo frame frames
      → frame.rest.now ≡ piece ∷ rest → definitions first ≡ Some whole
      → IsFirstError definitions is_verbatim (frame.name.now ∷ names_of frames) (piece_of piece ∷ map piece_of rest) e
      → IsFirstError definitions is_verbatim (first ∷ []) whole e
  expanding_error {frame = frame} piece rest x split d error =
      error_first (x.said ++ map piece_of (piece ∷ rest)) d x.waiting
      (x.is ∙ ap (λ pieces. Some (x.said ++ map piece_of pieces)) split) x.fresh (error_after x.says error)

  -- the chunks of expanded names are in the memo
  pub sound_within : {path : List (List ℕ)} {memo : Memo} → IsSound definitions is_verbatim memo path → AreWithin memo
  sound_within sound name start end is = let value = sound.done name start end is in (value.ordered, value.within)
