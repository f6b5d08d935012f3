-- How a file is recovered block by block, and that there is only one recovery.
use Rattle.std.proofs.Common.{◌≡◌, ◌≢◌, ◌⊎◌, ⊎_elim, ℕ, zero, suc, ◌-◌, ◌<◌, ◌≤◌, arith, lit<, length, drop, get_or, Bool, true, false, List, [], ◌∷◌, ◌++◌, inl, inr, Option, Some, None, MatchOption, Result, Ok, Err, OnOk, refl, sym, ap, ◌∙◌, subst, append_assoc, append-nil}
use Rattle.std.specs.Prelude.{not, ◌==◌, take}
use Rattle.std.specs.List.{AllByRecursion, Contains}
use Rattle.std.proofs.lemmas.List.Elements.{Contains-append_left, Contains-append_right}
use Rattle.std.specs.Str.{IsCharBoundary}
use Rattle.std.proofs.lemmas.Str.{IsCharBoundary-before_ascii, byte_from_char, len_utf8_bounds}
use Rattle.std.proofs.lemmas.Bool.{eqb-true, cases_lt}
use Rattle.bib_text.specs.Places.{Place, place, CharAt, Run, Longest, AtEnd, EndsOr}
use Rattle.bib_text.specs.Places.Run.{stop, step}
use Rattle.bib_text.proofs.PlaceFacts.{same_place, char_left, same_char, char_clash, pass_clash, no_char_at_end, left_smaller, Ahead, ahead_here, ahead_then, ahead_char, ahead_run}
use Rattle.bib_syntax.specs.Reading.{Part, EntryReading, FileReading, empty_reading, then}
use Rattle.bib_syntax.specs.Errors.{Refuses}
use Rattle.bib_syntax.specs.declared.raw.ParseErrorKind.TheVariants.{OutOfMemory}
use Rattle.bib_syntax.specs.Grammar.{LineComment, BlockKind, Body, Block, File, longest}
use Rattle.bib_syntax.specs.Grammar.{Body as body}
use Rattle.bib_syntax.specs.Grammar.{File as file}
use Rattle.bib_syntax.specs.Recovering.{RecoveredTo}
use Rattle.bib_syntax.specs.Kept.{Kept, entry_alone}
use Rattle.bib_syntax.specs.Recovery.{ends_blank, BeginsLine, Passed, GoesOnAt, IsUnreadBlock, IsKeptPart, Keeps, Recovered, skipped_block, IsBlockOf, Reached, LiesInside, IsPassedOver}
use Rattle.bib_syntax.specs.Recovery.{Keeps as keep}
use Rattle.bib_syntax.specs.Recovery.{Passed as passed}
use Rattle.bib_syntax.specs.Recovery.{Recovered as recovered}
use Rattle.bib_syntax.specs.declared.raw.ParseError.{ParseError}
use Rattle.bib_syntax.specs.declared.raw.recovery.SkippedBlock.{SkippedBlock}
use Rattle.bib_syntax.proofs.LawFacts.{line_comment_same}
use Rattle.bib_syntax.proofs.FileFailureFacts.{block_unread, block_error}
use Rattle.bib_syntax.proofs.StretchFacts.{first_byte, byte_in}
use Rattle.bib_syntax.proofs.FileFacts.{ahead_block, ahead_line_comment, block_same, is_skipped, then-then, then-empty_reading}
use Rattle.bib_syntax.proofs.KeptFacts.{ahead_passed, char_cut, kept_same, kept_entries}
use Rattle.bib_text.proofs.ListFacts.{all_append, all_weaker}
use Rattle.bib_text.proofs.BoolFacts.{true_from_not}

-- ---- where recovery continues

pub passed_then : {u v w : Place} → Passed u v → Passed v w → Passed u w
passed_then passed.stop more = more
passed_then (passed.step char other rest) more = passed.step char other (passed_then rest more)

-- a run of characters other than at signs is passed
pub other_passed : {u v : Place} → Run (λ c. not (c == 64)) u v → Passed u v
other_passed stop = passed.stop
other_passed (step char other rest) = passed.step char (λ line. pass_clash (λ c. not (c == 64)) char other line.1 refl) (other_passed rest)

-- where recovery continues, each character is an at sign that begins a line
no_step : {u v : Place} {c : ℕ} → AtEnd u ⊎ BeginsLine u → CharAt u c v → (BeginsLine u → ⊥) → ⊥
no_step (inl end) char other = no_char_at_end end char
no_step (inr line) char other = other line

passed_same : {u v w : Place} → Passed u v → AtEnd v ⊎ BeginsLine v → Passed u w → AtEnd w ⊎ BeginsLine w → v ≡ w
passed_same passed.stop stands passed.stop stands' = refl
passed_same passed.stop stands (passed.step char other rest) stands' = absurd (no_step stands char other)
passed_same (passed.step char other rest) stands passed.stop stands' = absurd (no_step stands' char other)
passed_same {w = w} (passed.step char other rest) stands (passed.step char' other' rest') stands' =
    passed_same rest stands (subst (λ p. Passed p w) (sym (same_char char char').1) rest') stands'

-- recovery continues at only one place
pub goes_on_same : {u v w : Place} → GoesOnAt u v → GoesOnAt u w → v ≡ w
goes_on_same first second = passed_same first.passed first.stands second.passed second.stands

-- ---- the recovery up to a place

-- at the start nothing is recovered
pub nothing_recovered : (keeps : Bool) (start : Place) → RecoveredTo keeps start empty_reading [] start
nothing_recovered keeps start more others x = x

run_recovered : {keeps : Bool} {u v : Place} {r : FileReading} {errors : List SkippedBlock} → Run is_skipped u v
    → Recovered keeps v r errors → Recovered keeps u r errors
run_recovered stop x = x
run_recovered (step char passes rest) x = recovered.skipped char passes (run_recovered rest x)

-- skipped characters add nothing
pub skip_recovered : {keeps : Bool} {start u v : Place} (says : FileReading) (errors : List SkippedBlock)
    → RecoveredTo keeps start says errors u → Longest is_skipped u v → RecoveredTo keeps start says errors v
skip_recovered says errors read run more others x = read more others (run_recovered run.run x)

-- a line comment adds nothing
pub comment_recovered : {keeps : Bool} {start u v : Place} (says : FileReading) (errors : List SkippedBlock)
    → RecoveredTo keeps start says errors u → LineComment u v → RecoveredTo keeps start says errors v
comment_recovered says errors read m more others x = read more others (recovered.line_comment m x)

-- a block adds its content
pub block_recovered : {keeps : Bool} {start u v : Place} (says : FileReading) {first : FileReading} (errors : List SkippedBlock)
    → RecoveredTo keeps start says errors u → Block longest u first v → RecoveredTo keeps start (then says first) errors v
block_recovered {keeps} {start} says {first} errors read b more others x =
    subst (λ r. Recovered keeps start r (errors ++ others)) (sym (then-then says first more))
    (read (then first more) others (recovered.block b x))

-- a skipped block adds its error and its kept parts
pub unread_recovered : {keeps : Bool} {start u v w : Place} {e : ParseError} {kept : FileReading} (says : FileReading)
    (errors : List SkippedBlock) → RecoveredTo keeps start says errors u → CharAt u 64 v → IsUnreadBlock u e → GoesOnAt v w
    → Keeps keeps u w kept → RecoveredTo keeps start (then says kept) (errors ++ skipped_block e u w ∷ []) w
unread_recovered {keeps} {start} {u} {w = w} {e = e} {kept = kept} says errors read sign none on held more others x =
    subst (λ r. Recovered keeps start r ((errors ++ skipped_block e u w ∷ []) ++ others)) (sym (then-then says kept more))
    (subst (λ es. Recovered keeps start (then says (then kept more)) es) (sym (append_assoc errors (skipped_block e u w ∷ []) others))
    (read (then kept more) (skipped_block e u w ∷ others) (recovered.unread sign none on held x)))

-- at the end of the text the recovery is complete
pub all_recovered : {keeps : Bool} {start u : Place} (says : FileReading) (errors : List SkippedBlock)
    → RecoveredTo keeps start says errors u → AtEnd u → Recovered keeps start says errors
all_recovered {keeps} {start} says errors read end =
    subst (λ r. Recovered keeps start r errors) (then-empty_reading says)
    (subst (λ es. Recovered keeps start (then says empty_reading) es) (append-nil errors)
    (read empty_reading [] (recovered.end end)))

-- fewer bytes are left after a skipped block
pub unread_smaller : {u v w : Place} {c : ℕ} → CharAt u c v → GoesOnAt v w → length w.text - w.at < length u.text - u.at
unread_smaller {u} char on = left_smaller (ahead_here u) char (ahead_passed on.passed)

-- ---- a text has a raw reading if no block is skipped

-- a raw reading is a recovery without skipped blocks
pub all_parsed : {keeps : Bool} {u : Place} {says : FileReading} → File longest u says → Recovered keeps u says []
all_parsed (file.end end) = recovered.end end
all_parsed (file.skipped char other rest) = recovered.skipped char other (all_parsed rest)
all_parsed (file.line_comment line rest) = recovered.line_comment line (all_parsed rest)
all_parsed (file.block block rest) = recovered.block block (all_parsed rest)

-- a recovery without skipped blocks is a raw reading
pub all_read : {keeps : Bool} {u : Place} {says : FileReading} → Recovered keeps u says [] → File longest u says
all_read (recovered.end end) = file.end end
all_read (recovered.skipped char other rest) = file.skipped char other (all_read rest)
all_read (recovered.line_comment line rest) = file.line_comment line (all_read rest)
all_read (recovered.block block rest) = file.block block (all_read rest)

-- ---- the search for the next at sign that begins a line

at_sign_here : {u v : Place} (c : ℕ) → CharAt u c v → false ≡ not (c == 64) → (w : Place) × CharAt u 64 w
at_sign_here {u} {v} c char other = (v, subst (λ x. CharAt u x v) (eqb-true c 64 (true_from_not (c == 64) other)) char)

-- recovery continues where the search stops, at the end of the text or at an at sign that begins a line
stands_here : {u : Place} → EndsOr (λ c. false ≡ not (c == 64)) u → AtEnd u ⊎ (ends_blank (take u.at u.text) ≡ true)
    → AtEnd u ⊎ BeginsLine u
stands_here (inl end) blank = inl end
stands_here (inr here) (inl end) = inl end
stands_here (inr here) (inr blank) = let sign = at_sign_here here.0 here.2 here.3 in inr (sign.0, sign.1, blank)

-- recovery continues where the search stops
pub search_ends : {start u v : Place} → Passed start u → Longest (λ c. not (c == 64)) u v
    → EndsOr (λ c. false ≡ not (c == 64)) v → AtEnd v ⊎ (ends_blank (take v.at v.text) ≡ true) → GoesOnAt start v
search_ends before run here blank = record { passed = passed_then before (other_passed run.run); stands = stands_here here blank }

-- taking a character before the end of the text returns one
taken_here : {u v : Place} (taken : Option ℕ) → MatchOption taken (AtEnd u × (v ≡ u)) (λ c. CharAt u c v)
    → (AtEnd u → ⊥) → (c : ℕ) × CharAt u c v
taken_here None ended going = absurd (going ended.0)
taken_here (Some c) char going = (c, char)

-- a test can't have both results
no_line : (b : Bool) → b ≡ false → b ≡ true → ⊥
no_line b fails passes = cc

-- the search continues after an at sign that doesn't begin a line
pub search_more : {start u v w : Place} (taken : Option ℕ) → Passed start u → Longest (λ c. not (c == 64)) u v
    → (AtEnd v → ⊥) × (ends_blank (take v.at v.text) ≡ false)
    → MatchOption taken (AtEnd v × (w ≡ v)) (λ c. CharAt v c w) → Passed start w
search_more {v = v} taken before run (going, blank) is =
    let char = taken_here taken is going in
    passed_then before
    (passed_then (other_passed run.run)
    (passed.step char.1 (λ line. no_line (ends_blank (take v.at v.text)) blank line.2) passed.stop))

pub search_smaller : {u v : Place} (w : Place) (taken : Option ℕ) → Longest (λ c. not (c == 64)) u v
    → (AtEnd v → ⊥) × (ends_blank (take v.at v.text) ≡ false)
    → MatchOption taken (AtEnd v × (w ≡ v)) (λ c. CharAt v c w) → length w.text - w.at < length u.text - u.at
search_smaller w taken run (going, blank) is =
    let char = taken_here taken is going in left_smaller (ahead_run run.run) char.1 (ahead_here _)

-- ---- one more block, or one more skipped block

-- a reader that jumps to the offset of another reader is at the place of the other reader
pub follows : {u v w : Place} (at : ℕ) → Ahead u v → at ≡ v.at → w ≡ place u.text at → w ≡ v
follows {u} {v} at ahead is jump = jump ∙ same_place {u = place u.text at} {v = v} (sym ahead.text) is

-- if a fact is true for an `Ok`, so is each consequence of this fact
pub on_ok : {E P Q : Type 0} (r : Result (Unit {0}) E) → OnOk r P → (P → Q) → OnOk r Q
on_ok (Ok done) h f = f h
on_ok (Err e) h f = h

-- if three facts are true for an `Ok`, so is each consequence of the three
pub all_ok : {E P Q R S : Type 0} (r : Result (Unit {0}) E) → OnOk r P → OnOk r Q → OnOk r R → (P → Q → R → S) → OnOk r S
all_ok (Ok done) p q r f = f p q r
all_ok (Err e) p q r f = p

pub unread_from : {u : Place} {e : ParseError} → Refuses u.text e (IsUnreadBlock u e) → e.kind ≢ OutOfMemory → IsUnreadBlock u e
unread_from (inl no_room) some = absurd (some (ap (λ error. error.kind) no_room))
unread_from (inr refused) some = refused.1

pub block_found : {keeps : Bool} {u v : Place} {first : FileReading} (says all : FileReading) (errors : List SkippedBlock)
    → Block longest u first v → all ≡ then says first → (start : Place) → RecoveredTo keeps start says errors u
    → RecoveredTo keeps start all errors v
block_found {keeps} {u} {v} {first} says all errors b same start read =
    subst (λ r. RecoveredTo keeps start r errors v) (sym same) (block_recovered says errors read b)

pub unread_found : {keeps : Bool} {u w : Place} {e : ParseError} (says all : FileReading) (errors more : List SkippedBlock)
    → IsUnreadBlock u e → ((v : Place) × CharAt u 64 v × GoesOnAt v w)
    → ((kept : FileReading) × Keeps keeps u w kept × (all ≡ then says kept))
    → more ≡ errors ++ skipped_block e u w ∷ []
    → (start : Place) → RecoveredTo keeps start says errors u → RecoveredTo keeps start all more w
unread_found {keeps} {u} {w} {e} says all errors more none (v, sign, on) (kept, held, same) grown start read =
    subst (λ r. RecoveredTo keeps start r more w) (sym same)
    (subst (λ es. RecoveredTo keeps start (then says kept) es w) (sym grown) (unread_recovered says errors read sign none on held))

-- ---- the parts that are kept of a skipped block

pub go_on_text : {u v w : Place} → CharAt u 64 v → GoesOnAt v w → w.text ≡ u.text
go_on_text sign on = (ahead_passed on.passed).text ∙ sign.same

-- the at sign of a skipped block is in the text up to the end of the block
pub sign_in_cut : {v : Place} {text cut : List ℕ} {start end : ℕ} → CharAt (place text start) 64 v → GoesOnAt v (place text end)
    → cut ≡ take end text → (x : Place) × CharAt (place cut start) 64 x
sign_in_cut {v} {text} {cut} {start} {end} sign on is =
    let char : CharAt (place (take end text) start) 64 (place (take end text) v.at) = char_cut end sign (ahead_passed on.passed).at in
    (place (take end text) v.at, subst (λ t. CharAt (place t start) 64 (place (take end text) v.at)) (sym is) char)

-- the offset of an at sign is a character boundary
pub sign_boundary : {u v : Place} → CharAt u 64 v → IsCharBoundary u.text u.at
sign_boundary {u} {v} sign =
    let byte : get_or u.text u.at 0 ≡ 64 =
    sym (first_byte u.text u.at) ∙ byte_from_char (drop u.at u.text) (drop v.at u.text) 64 sign.here (lit< tt) in
    let left = char_left sign in
    IsCharBoundary-before_ascii u.text u.at (omega (arith, left, (len_utf8_bounds 64).0)) (subst (λ b. b < 128) (sym byte) (lit< tt))

-- the complete parts of a skipped block in the text up to its end are the parts that recovery keeps
pub parts_kept : {text cut : List ℕ} {start end : ℕ} {says : FileReading} → cut ≡ take end text → Kept (place cut start) says
    → Keeps true (place text start) (place text end) says
parts_kept {start = start} {says = says} is kept = keep.parts (subst (λ t. Kept (place t start) says) is kept)

-- ---- a text has at most one recovery

-- the rest after a skipped character or a line comment has the same recovery
skipped_left : {keeps : Bool} {u v : Place} {c : ℕ} {r : FileReading} {errors : List SkippedBlock} → CharAt u c v
    → is_skipped c ≡ true → Recovered keeps u r errors → Recovered keeps v r errors
skipped_left char passes (recovered.end end) = absurd (no_char_at_end end char)
skipped_left {keeps} {r = r} {errors = errors} char passes (recovered.skipped char' passes' x) =
    subst (λ y. Recovered keeps y r errors) (same_char char' char).1 x
skipped_left char passes (recovered.line_comment m x) = absurd (pass_clash is_skipped char passes m.sign refl)
skipped_left char passes (recovered.block b x) = absurd (pass_clash is_skipped char passes b.head.sign refl)
skipped_left char passes (recovered.unread sign none on held x) = absurd (pass_clash is_skipped char passes sign refl)

comment_left : {keeps : Bool} {u v : Place} {r : FileReading} {errors : List SkippedBlock} → LineComment u v
    → Recovered keeps u r errors → Recovered keeps v r errors
comment_left m (recovered.end end) = absurd (no_char_at_end end m.sign)
comment_left m (recovered.skipped char passes x) = absurd (pass_clash is_skipped char passes m.sign refl)
comment_left {keeps} {r = r} {errors = errors} m (recovered.line_comment m' x) =
    subst (λ y. Recovered keeps y r errors) (line_comment_same m' m) x
comment_left m (recovered.block b x) = absurd (char_clash m.sign b.head.sign refl)
comment_left m (recovered.unread sign none on held x) = absurd (char_clash m.sign sign refl)

-- the recovery of the rest after a block
record BlockLeft (keeps : Bool) (u v : Place) (first says : FileReading) (errors : List SkippedBlock) : Type 0 where
  rest : FileReading
  left : Recovered keeps v rest errors
  whole : says ≡ then first rest

block_left : {keeps : Bool} {u v : Place} {first says : FileReading} {errors : List SkippedBlock} → Block longest u first v
    → Recovered keeps u says errors → BlockLeft keeps u v first says errors
block_left b (recovered.end end) = absurd (no_char_at_end end b.head.sign)
block_left b (recovered.skipped char passes x) = absurd (pass_clash is_skipped char passes b.head.sign refl)
block_left b (recovered.line_comment m x) = absurd (char_clash b.head.sign m.sign refl)
block_left {keeps} {errors = errors} b (recovered.block {rest = rest} b' x) =
    let same = block_same b' b in
    record { rest = rest; left = subst (λ y. Recovered keeps y rest errors) same.1 x; whole = ap (λ q. then q rest) same.0 }
block_left b (recovered.unread sign none on held x) = absurd (block_unread none.fails b)

-- the recovery of the rest after a skipped block
record UnreadLeft (keeps : Bool) (u w : Place) (says : FileReading) (errors : List SkippedBlock) : Type 0 where
  error : ParseError
  kept : FileReading
  others : FileReading
  rest : List SkippedBlock
  none : IsUnreadBlock u error
  held : Keeps keeps u w kept
  left : Recovered keeps w others rest
  reading : says ≡ then kept others
  whole : errors ≡ skipped_block error u w ∷ rest

unread_left : {keeps : Bool} {u v w : Place} {e : ParseError} {says : FileReading} {errors : List SkippedBlock} → CharAt u 64 v
    → IsUnreadBlock u e → GoesOnAt v w → Recovered keeps u says errors → UnreadLeft keeps u w says errors
unread_left sign none on (recovered.end end) = absurd (no_char_at_end end sign)
unread_left sign none on (recovered.skipped char passes x) = absurd (pass_clash is_skipped char passes sign refl)
unread_left sign none on (recovered.line_comment m x) = absurd (char_clash sign m.sign refl)
unread_left sign none on (recovered.block b x) = absurd (block_unread none.fails b)
unread_left {keeps} {u} {w = w} sign none on
    (recovered.unread {w = w'} {e = e} {kept = kept} {says = says} {errors = errors} sign' none' on' held x) =
    let same : w' ≡ w = goes_on_same (subst (λ y. GoesOnAt y w') (same_char sign' sign).1 on') on in
    record {
      error = e;
      kept = kept;
      others = says;
      rest = errors;
      none = none';
      held = subst (λ y. Keeps keeps u y kept) same held;
      left = subst (λ y. Recovered keeps y says errors) same x;
      reading = refl;
      whole = ap (λ y. skipped_block e u y ∷ errors) same;
    }

-- recovery keeps only one reading of a skipped block
keeps_same : {keeps : Bool} {u w : Place} {r s : FileReading} → Keeps keeps u w r → Keeps keeps u w s → r ≡ s
keeps_same keep.nothing keep.nothing = refl
keeps_same (keep.parts kept) (keep.parts kept') = kept_same kept kept'

-- a text has only one recovery
pub recovery_same : {keeps : Bool} {u : Place} {r s : FileReading} {f g : List SkippedBlock} → Recovered keeps u r f
    → Recovered keeps u s g → (r ≡ s) × (f ≡ g)
recovery_same (recovered.end end) (recovered.end end') = (refl, refl)
recovery_same (recovered.end end) (recovered.skipped char passes x) = absurd (no_char_at_end end char)
recovery_same (recovered.end end) (recovered.line_comment m x) = absurd (no_char_at_end end m.sign)
recovery_same (recovered.end end) (recovered.block b x) = absurd (no_char_at_end end b.head.sign)
recovery_same (recovered.end end) (recovered.unread sign none on held x) = absurd (no_char_at_end end sign)
recovery_same (recovered.skipped char passes x) second = recovery_same x (skipped_left char passes second)
recovery_same (recovered.line_comment m x) second = recovery_same x (comment_left m second)
recovery_same (recovered.block {first = first} b x) second =
    let following = block_left b second in
    let left = recovery_same x following.left in
    (ap (then first) left.0 ∙ sym following.whole, left.1)
recovery_same {u = u} (recovered.unread {w = w} {e = e} {says = says} sign none on held x) second =
    let following = unread_left sign none on second in
    let left = recovery_same x following.left in
    let error : e ≡ following.error = block_error none following.none in
    let kept = keeps_same held following.held in (
      ap (λ r. then r says) kept ∙ ap (then following.kept) left.0 ∙ sym following.reading,
      ap (λ l. skipped_block e u w ∷ l) left.1 ∙ ap (λ y. skipped_block y u w ∷ following.rest) error ∙ sym following.whole,
    )

-- ---- each recovered entry is a block of the file grammar

entry_block : {start a v : Place} {p : Part} {k : BlockKind} {r : FileReading} → Body longest start p k a r v
    → Block longest start r v → AllByRecursion (IsBlockOf start.text) r.entries
entry_block (body.comment v inside close) b = _
entry_block (body.preamble quoted white close is_close) b = _
entry_block (body.strings fields close) b = _
entry_block (body.entry v key white comma gap fields close) b = ((_, b), _)

-- each entry of a recovery that keeps no parts is the only content of a block at its start
pub entries_stand : {u : Place} {says : FileReading} {errors : List SkippedBlock} (text : List ℕ) → u.text ≡ text
    → Recovered false u says errors → AllByRecursion (IsBlockOf text) says.entries
entries_stand text same (recovered.end end) = _
entries_stand text same (recovered.skipped char passes x) = entries_stand text (char.same ∙ same) x
entries_stand text same (recovered.line_comment m x) = entries_stand text ((ahead_line_comment m).text ∙ same) x
entries_stand text same (recovered.block {first = first} {rest = rest} b x) =
    all_append (IsBlockOf text) first.entries rest.entries
    (subst (λ t. AllByRecursion (IsBlockOf t) first.entries) same (entry_block b.body b))
    (entries_stand text ((ahead_block b).text ∙ same) x)
entries_stand text same (recovered.unread sign none on keep.nothing x) =
    entries_stand text ((ahead_passed on.passed).text ∙ (sign.same ∙ same)) x

-- an entry that is a block, or the kept part of one of `errors`, stays so if `block` is prepended to `errors`
cut_later : (text : List ℕ) (block : SkippedBlock) (errors : List SkippedBlock) (e : EntryReading)
    → IsBlockOf text e ⊎ IsKeptPart text errors e → IsBlockOf text e ⊎ IsKeptPart text (block ∷ errors) e
cut_later text block errors e (inl stands) = inl stands
cut_later text block errors e (inr (k, s, below, is, cut)) = inr (suc k, s, omega (arith, below), is, cut)

-- an entry that is the kept part of a skipped block is the kept part of one of the blocks that begin with this block
kept_cut : (text : List ℕ) (u w : Place) (error : ParseError) (errors : List SkippedBlock) (e : EntryReading) → w.text ≡ text
    → (e.start ≡ u.at) × Kept (place (take w.at w.text) u.at) (entry_alone e)
    → IsBlockOf text e ⊎ IsKeptPart text (skipped_block error u w ∷ errors) e
kept_cut text u w error errors e same (start, kept) =
    let at : Kept (place (take w.at text) e.start) (entry_alone e) =
    subst (λ n. Kept (place (take w.at text) n) (entry_alone e)) (sym start)
    (subst (λ t. Kept (place (take w.at t) u.at) (entry_alone e)) same kept) in
    inr (zero, skipped_block error u w, omega arith, refl, (sym start, at))

-- each recovered entry is the only content of a block at its start, or the kept part of a skipped block
pub full_entries_stand : {u : Place} {says : FileReading} {errors : List SkippedBlock} (text : List ℕ) → u.text ≡ text
    → Recovered true u says errors → AllByRecursion (λ e. IsBlockOf text e ⊎ IsKeptPart text errors e) says.entries
full_entries_stand text same (recovered.end end) = _
full_entries_stand text same (recovered.skipped char passes x) = full_entries_stand text (char.same ∙ same) x
full_entries_stand text same (recovered.line_comment m x) = full_entries_stand text ((ahead_line_comment m).text ∙ same) x
full_entries_stand {errors = errors} text same (recovered.block {first = first} {rest = rest} b x) =
    all_append (λ e. IsBlockOf text e ⊎ IsKeptPart text errors e) first.entries rest.entries
    (all_weaker (IsBlockOf text) (λ e. IsBlockOf text e ⊎ IsKeptPart text errors e) (λ e stands. inl stands) first.entries
    (subst (λ t. AllByRecursion (IsBlockOf t) first.entries) same (entry_block b.body b)))
    (full_entries_stand text ((ahead_block b).text ∙ same) x)
full_entries_stand {u} text same
    (recovered.unread {w = w} {e = error} {kept = kept} {says = says} {errors = errors} sign none on (keep.parts parts) x) =
    let there : w.text ≡ text = (ahead_passed on.passed).text ∙ (sign.same ∙ same) in
    all_append (λ e. IsBlockOf text e ⊎ IsKeptPart text (skipped_block error u w ∷ errors) e) kept.entries says.entries
    (all_weaker _ (λ e. IsBlockOf text e ⊎ IsKeptPart text (skipped_block error u w ∷ errors) e)
    (λ e cut. kept_cut text u w error errors e there cut) kept.entries (kept_entries parts))
    (all_weaker (λ e. IsBlockOf text e ⊎ IsKeptPart text errors e)
    (λ e. IsBlockOf text e ⊎ IsKeptPart text (skipped_block error u w ∷ errors) e)
    (cut_later text (skipped_block error u w) errors) says.entries (full_entries_stand text there x))

-- ---- the skipped blocks are the same whether their parts are kept or not

pub same_skipped : {keeps others : Bool} {u : Place} {r s : FileReading} {f g : List SkippedBlock} → Recovered keeps u r f
    → Recovered others u s g → f ≡ g
same_skipped (recovered.end end) (recovered.end end') = refl
same_skipped (recovered.end end) (recovered.skipped char passes x) = absurd (no_char_at_end end char)
same_skipped (recovered.end end) (recovered.line_comment m x) = absurd (no_char_at_end end m.sign)
same_skipped (recovered.end end) (recovered.block b x) = absurd (no_char_at_end end b.head.sign)
same_skipped (recovered.end end) (recovered.unread sign none on held x) = absurd (no_char_at_end end sign)
same_skipped (recovered.skipped char passes x) second = same_skipped x (skipped_left char passes second)
same_skipped (recovered.line_comment m x) second = same_skipped x (comment_left m second)
same_skipped (recovered.block b x) second = same_skipped x (block_left b second).left
same_skipped {u = u} (recovered.unread {w = w} {e = e} sign none on held x) second =
    let following = unread_left sign none on second in
    let error : e ≡ following.error = block_error none following.none in
    ap (λ l. skipped_block e u w ∷ l) (same_skipped x following.left)
    ∙ ap (λ y. skipped_block y u w ∷ following.rest) error ∙ sym following.whole

-- ---- each entry that could be parsed is recovered, or it is inside a block, a line comment or a skipped block

-- a character in whose bytes an at sign begins is this at sign
in_character : {w v u x : Place} {c : ℕ} → CharAt w c v → CharAt u 64 x → u.text ≡ w.text → w.at ≤ u.at → u.at < v.at → c ≡ 64
in_character {w} {v} {u} {x} {c} char sign same before inside =
    let byte : get_or w.text u.at 0 ≡ 64 =
    ap (λ t. get_or t u.at 0) (sym same) ∙ sym (first_byte u.text u.at)
    ∙ byte_from_char (drop u.at u.text) (drop x.at u.text) 64 sign.here (lit< tt) in
    byte_in u.at char before inside (subst (λ b. b < 128) (sym byte) (lit< tt)) ∙ byte

-- `u` is the start `w` of the next step of recovery, inside the step, or not before its end `v`
data Next (w v u : Place) : Type 0 where
  reached : w ≡ u → Next w v u
  begun : w.at < u.at → u.at < v.at → Next w v u
  ended : v.at ≤ u.at → v.text ≡ u.text → Next w v u

next : (w v u : Place) → w.text ≡ u.text → Ahead w v → w.at ≤ u.at → Next w v u
next w v u same ahead before = ⊎_elim
    (λ below. ⊎_elim (λ inside. Next.begun below inside) (λ later. Next.ended later (ahead.text ∙ same)) (cases_lt u.at v.at))
    (λ above. Next.reached (same_place same (omega (arith, above, before))))
    (cases_lt w.at u.at)

-- the entry `e` is recovered, or its place `u` is inside a block or a line comment, or in a skipped block
abbrev pub Found : List SkippedBlock → Place → FileReading → EntryReading → Type 0
Found errors u says e = Contains says.entries e ⊎ LiesInside u ⊎ IsPassedOver errors u

passed_later : (u : Place) (block : SkippedBlock) (errors : List SkippedBlock) → IsPassedOver errors u → IsPassedOver (block ∷ errors) u
passed_later u block errors (k, s, below, is, lies) = (suc k, s, omega (arith, below), is, lies)

found_later : {u : Place} (first rest : FileReading) (errors : List SkippedBlock) (e : EntryReading)
    → Found errors u rest e → Found errors u (then first rest) e
found_later first rest errors e (inl read) = inl (Contains-append_right first.entries rest.entries e read)
found_later first rest errors e (inr other) = inr other

found_past : (u : Place) (says : FileReading) (block : SkippedBlock) (errors : List SkippedBlock) (e : EntryReading)
    → Found errors u says e → Found (block ∷ errors) u says e
found_past u says block errors e (inl read) = inl read
found_past u says block errors e (inr (inl inside)) = inr (inl inside)
found_past u says block errors e (inr (inr lost)) = inr (inr (passed_later u block errors lost))

-- an entry that could be parsed at the start of a block is in the reading of the block
same_entry : {u v : Place} {r : FileReading} (text : List ℕ) (e : EntryReading) → u ≡ place text e.start
    → Block longest u r v → IsBlockOf text e → Contains r.entries e
same_entry {u} {r = r} text e here b at =
    let same : r ≡ entry_alone e = (block_same b (subst (λ y. Block longest y (entry_alone e) at.0) (sym here) at.1)).0 in
    subst (λ q. Contains q.entries e) (sym same) (0, lit< tt, refl)

at_not_skipped : (c : ℕ) → is_skipped c ≡ true → c ≡ 64 → ⊥
at_not_skipped c passes is = let fails : is_skipped 64 ≡ true = subst (λ d. is_skipped d ≡ true) is passes in cc

-- `Found` holds, for a recovery from a reached place on, of each entry that could be parsed and doesn't begin before it
pub nothing_lost : {keeps : Bool} {w : Place} {says : FileReading} {errors : List SkippedBlock} (text : List ℕ) (e : EntryReading)
    → Reached (place text 0) w → w.text ≡ text → w.at ≤ e.start → IsBlockOf text e → Recovered keeps w says errors
    → Found errors (place text e.start) says e
nothing_lost {w = w} text e onward same before at (recovered.end end) =
    let left = char_left at.1.head.sign in
    absurd (omega (arith, before, left, end, ap length same, (len_utf8_bounds 64).0))
nothing_lost {w = w} text e onward same before at (recovered.skipped {v = v} {c = c} char passes x) =
    elim (next w v (place text e.start) same (ahead_char char) before) [
      | Next.reached here ↦ absurd
          (pass_clash is_skipped char passes (subst (λ y. CharAt y 64 at.1.head.name_start) (sym here) at.1.head.sign) refl)
      | Next.begun below inside ↦ absurd (at_not_skipped c passes (in_character char at.1.head.sign (sym same) before inside))
      | Next.ended later text' ↦ nothing_lost text e (Reached.skipped onward char passes) text' later at x
    ]
nothing_lost {w = w} text e onward same before at (recovered.line_comment {v = v} m x) =
    elim (next w v (place text e.start) same (ahead_line_comment m) before) [
      | Next.reached here ↦ absurd (char_clash m.sign (subst (λ y. CharAt y 64 at.1.head.name_start) (sym here) at.1.head.sign) refl)
      | Next.begun below inside ↦ inr
          (inl (record { start = w; end = v; reached = onward; is = inr m; before = below; following = inside }))
      | Next.ended later text' ↦ nothing_lost text e (Reached.line_comment onward m) text' later at x
    ]
nothing_lost {w = w} {errors = errors} text e onward same before at (recovered.block {v = v} {first = first} {rest = rest} b x) =
    elim (next w v (place text e.start) same (ahead_block b) before) [
      | Next.reached here ↦ inl (Contains-append_left first.entries rest.entries e (same_entry text e here b at))
      | Next.begun below inside ↦ inr
          (inl (record { start = w; end = v; reached = onward; is = inl (first, b); before = below; following = inside }))
      | Next.ended later text' ↦ found_later first rest errors e (nothing_lost text e (Reached.block onward b) text' later at x)
    ]
nothing_lost {w = w} text e onward same before at
    (recovered.unread {w = z} {e = error} {kept = kept} {says = says} {errors = errors} sign none on held x) =
    elim (next w z (place text e.start) same (ahead_then (ahead_char sign) (ahead_passed on.passed)) before) [
      | Next.reached here ↦ absurd (block_unread none.fails (subst (λ y. Block longest y (entry_alone e) at.0) (sym here) at.1))
      | Next.begun below inside ↦ inr (inr (zero, skipped_block error w z, omega arith, refl, (below, inside)))
      | Next.ended later text' ↦ found_past _ (then kept says) (skipped_block error w z) errors e
          (found_later kept says errors e (nothing_lost text e (Reached.unread onward sign none on) text' later at x))
    ]
