-- The indices of the kept entries among the raw entries are unique.
use Rattle.std.proofs.Common.{◌≡◌, ℕ, zero, suc, ◌+◌, ◌<◌, ◌≤◌, Bool, true, false, if◌then◌else◌, List, [], ◌∷◌, ◌++◌, length, refl, sym, ap, ◌∙◌, subst, arith, Option, Some, None}
use Rattle.std.specs.Prelude.{slice_get, ◌==◌}
use Rattle.std.proofs.lemmas.Str.{len_utf8_bounds}
use Rattle.std.specs.List.{AllZip}
use Rattle.bib_file_entries.specs.Kept.{IsKeptFrom}
use Rattle.bib_syntax.specs.Grammar.{Body as body, BlockKind, Body, longest}
use Rattle.bib_syntax.specs.Reading.{EntryReading, FileReading, Part, empty_reading, part}
use Rattle.bib_syntax.specs.Kept.{Kept, KeptBody, entry_alone}
use Rattle.bib_syntax.specs.Kept.{Kept as kept}
use Rattle.bib_syntax.specs.Kept.{KeptBody as kept_body}
use Rattle.bib_syntax.specs.Recovery.{Keeps, Recovered}
use Rattle.bib_syntax.specs.Recovery.{Keeps as keep}
use Rattle.bib_syntax.specs.Recovery.{Recovered as recovered}
use Rattle.bib_syntax.specs.declared.raw.recovery.SkippedBlock.{SkippedBlock}
use Rattle.bib_syntax.proofs.FileFacts.{ahead_block, ahead_line_comment, block_smaller}
use Rattle.bib_syntax.proofs.KeptFacts.{ahead_passed}
use Rattle.bib_text.specs.Places.{Place}

-- the starts of entries are at least `n` and increase strictly
abbrev pub Rise : ℕ → List EntryReading → Type 0
Rise n [] = Unit {0}
Rise n (e ∷ es) = (n ≤ e.start) × Rise (e.start + 1) es

-- a smaller lower bound holds too
rise_weaker : (m n : ℕ) (es : List EntryReading) → m ≤ n → Rise n es → Rise m es
rise_weaker m n [] less rise = rise
rise_weaker m n (e ∷ es) less rise = (omega (arith, less, rise.0), rise.1)

-- a block has at most one entry, at its start; if `Rise` holds for the entries after it, it holds with this entry too
block_rises : {start u v : Place} {kind : Part} {k : BlockKind} {says : FileReading} (end : ℕ)
    (rest : List EntryReading) → Body longest start kind k u says v → start.at < end → Rise end rest
    → Rise start.at (says.entries ++ rest)
block_rises {start} end rest (body.comment brace chars closes) less rise = rise_weaker start.at end rest (omega (arith, less)) rise
block_rises {start} end rest (body.preamble quoted white closes is_brace) less rise =
    rise_weaker start.at end rest (omega (arith, less)) rise
block_rises {start} end rest (body.strings fields closes) less rise = rise_weaker start.at end rest (omega (arith, less)) rise
block_rises {start} end rest (body.entry key_end key white comma gap fields closes) less rise =
    (omega arith, rise_weaker (start.at + 1) end rest (omega (arith, less)) rise)

-- the same for an entry without fields, which is kept if its key isn't empty
key_rises : (start place : Place) (kind key : Part) (is_empty : Bool) (end : ℕ) (rest : List EntryReading) → start.at < end
    → Rise end rest
    → Rise start.at
    ((if is_empty then empty_reading
    else entry_alone (record { key = key; kind = kind; fields = []; start = start.at; end = place.at })).entries ++ rest)
key_rises start place kind key true end rest less rise = rise_weaker start.at end rest (omega (arith, less)) rise
key_rises start place kind key false end rest less rise = (omega arith, rise_weaker (start.at + 1) end rest (omega (arith, less)) rise)

-- the same for the kept parts of a block: at most one entry, at the start of the block
body_rises : {start u : Place} {kind : Part} {k : BlockKind} {says : FileReading} (end : ℕ) (rest : List EntryReading)
    → KeptBody start kind k u says → start.at < end → Rise end rest → Rise start.at (says.entries ++ rest)
body_rises {start} end rest kept_body.comment less rise = rise_weaker start.at end rest (omega (arith, less)) rise
body_rises {start} end rest kept_body.preamble less rise = rise_weaker start.at end rest (omega (arith, less)) rise
body_rises {start} end rest (kept_body.strings fields) less rise = rise_weaker start.at end rest (omega (arith, less)) rise
body_rises {start} {u} {kind} end rest (kept_body.key {v = v} {w = w} key white stops) less rise =
    key_rises start w kind (part u v) (length (part u v).text == 0) end rest less rise
body_rises {start} end rest (kept_body.entry key white comma comments fields) less rise =
    (omega arith, rise_weaker (start.at + 1) end rest (omega (arith, less)) rise)

kept_rises : {start : Place} {says : FileReading} (end : ℕ) (rest : List EntryReading) → Kept start says → start.at < end
    → Rise end rest → Rise start.at (says.entries ++ rest)
kept_rises {start} end rest (kept.unopened absent) less rise = rise_weaker start.at end rest (omega (arith, less)) rise
kept_rises end rest (kept.block opening body) less rise = body_rises end rest body less rise

keeps_rises : {keeps : Bool} {u w : Place} {says : FileReading} (rest : List EntryReading) → Keeps keeps u w says → u.at < w.at
    → Rise w.at rest → Rise u.at (says.entries ++ rest)
keeps_rises {u = u} {w} rest keep.nothing less rise = rise_weaker u.at w.at rest (omega (arith, less)) rise
keeps_rises {w = w} rest (keep.parts parts) less rise = kept_rises w.at rest parts less rise

-- the starts of the raw entries of a recovery increase
pub recovered_rises : {keeps : Bool} {u : Place} {says : FileReading} {errors : List SkippedBlock} → Recovered keeps u says errors
    → Rise u.at says.entries
recovered_rises (recovered.end end) = tt
recovered_rises {u = u} {says} (recovered.skipped {v = v} char passes x) =
    rise_weaker u.at v.at says.entries (omega (arith, char.next)) (recovered_rises x)
recovered_rises {u = u} {says} (recovered.line_comment {v = v} comment x) =
    rise_weaker u.at v.at says.entries (ahead_line_comment comment).at (recovered_rises x)
recovered_rises {u = u} (recovered.block {v = v} {rest = rest} b x) =
    block_rises v.at rest.entries b.body
    (omega (arith, block_smaller b, ap length (ahead_block b).text, (ahead_block b).at)) (recovered_rises x)
recovered_rises {u = u} (recovered.unread {v = v} {w = w} {says = says} sign none on held x) =
    keeps_rises says.entries held (omega (arith, sign.next, (len_utf8_bounds 64).0, (ahead_passed on.passed).at)) (recovered_rises x)

-- each raw entry starts at the lower bound or later
starts_later : (n : ℕ) (es : List EntryReading) (i : ℕ) (e : EntryReading) → Rise n es → slice_get es i ≡ Some e → n ≤ e.start
starts_later n [] i e rise is = cc
starts_later n (x ∷ es) zero e rise is = subst (λ o. n ≤ o) (ap start_of is) rise.0 where
  start_of : Option EntryReading → ℕ
  start_of None = 0
  start_of (Some y) = y.start
starts_later n (x ∷ es) (suc i) e rise is = let later = starts_later (x.start + 1) es i e rise.1 is in omega (arith, later, rise.0)

same_start : {a b : EntryReading} → Some a ≡ Some b → a.start ≡ b.start
same_start is = cc

-- if the starts of raw entries increase, two with the same start have the same index
one_index : (n : ℕ) (es : List EntryReading) (i j : ℕ) (e f : EntryReading) → Rise n es → slice_get es i ≡ Some e
    → slice_get es j ≡ Some f → e.start ≡ f.start → i ≡ j
one_index n [] i j e f rise one other same = cc
one_index n (x ∷ es) zero zero e f rise one other same = refl
one_index n (x ∷ es) zero (suc j) e f rise one other same =
    let later = starts_later (x.start + 1) es j f rise.1 other in absurd (omega (arith, later, same_start one, same))
one_index n (x ∷ es) (suc i) zero e f rise one other same =
    let later = starts_later (x.start + 1) es i e rise.1 one in absurd (omega (arith, later, same_start other, same))
one_index n (x ∷ es) (suc i) (suc j) e f rise one other same = ap suc (one_index (x.start + 1) es i j e f rise.1 one other same)

-- if the starts of raw entries increase, the same kept entries have the same indices
pub origins_once : (n : ℕ) (said : List EntryReading) (one other : List ℕ) (kept : List EntryReading) → Rise n said
    → AllZip (IsKeptFrom said) one kept → AllZip (IsKeptFrom said) other kept → one ≡ other
origins_once n said [] [] kept rise first second = refl
origins_once n said [] (j ∷ others) [] rise first second = absurd second
origins_once n said [] (j ∷ others) (e ∷ kept) rise first second = absurd first
origins_once n said (i ∷ ones) [] [] rise first second = absurd first
origins_once n said (i ∷ ones) [] (e ∷ kept) rise first second = absurd second
origins_once n said (i ∷ ones) (j ∷ others) [] rise first second = absurd first
origins_once n said (i ∷ ones) (j ∷ others) (e ∷ kept) rise first second =
    let here : i ≡ j =
    one_index n said i j first.0.one second.0.one rise first.0.there second.0.there
    (sym (ap (λ (x : EntryReading). x.start) first.0.is) ∙ ap (λ (x : EntryReading). x.start) second.0.is) in
    ap (λ k. k ∷ ones) here ∙ ap (λ rest. j ∷ rest) (origins_once n said ones others kept rise first.1 second.1)
