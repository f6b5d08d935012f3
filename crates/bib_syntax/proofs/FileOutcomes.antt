-- From each place with `Left` there is a raw reading or an error, and there is a recovery.
use Rattle.std.proofs.Common.{◌≡◌, ◌⊎◌, ℕ, zero, suc, ◌<◌, arith, Bool, true, false, List, [], ◌∷◌, ◌∙◌, inl, inr, refl, sym, subst}
use Rattle.std.specs.Prelude.{not, ◌==◌, take}
use Rattle.std.specs.Char.{is_whitespace}
use Rattle.std.proofs.lemmas.Bool.{cases_Bool}
use Rattle.bib_text.specs.Places.{Place, place, CharAt, AtEnd}
use Rattle.bib_text.proofs.PlaceFacts.{char_clash, test_clash, char_within}
use Rattle.bib_syntax.specs.declared.raw.ParseErrorKind.{ParseErrorKind}
use Rattle.bib_syntax.specs.declared.raw.ParseError.{ParseError}
use Rattle.bib_syntax.specs.declared.raw.recovery.SkippedBlock.{SkippedBlock}
use Rattle.bib_syntax.specs.Characters.{is_key}
use Rattle.bib_syntax.specs.Reading.{Part, FieldReading, FileReading, empty_reading, then}
use Rattle.bib_syntax.specs.Grammar.{LineComment, BlockKind, block_kind, Head, Body, Block, File, longest}
use Rattle.bib_syntax.specs.Grammar.{Body as body}
use Rattle.bib_syntax.specs.Grammar.{File as file}
use Rattle.bib_syntax.specs.SyntaxErrors.{HeadFails, BodyFails, BlockFails, FileFails, Reports}
use Rattle.bib_syntax.specs.SyntaxErrors.{HeadFails as head_fail}
use Rattle.bib_syntax.specs.SyntaxErrors.{BodyFails as body_fail}
use Rattle.bib_syntax.specs.SyntaxErrors.{BlockFails as block_fail}
use Rattle.bib_syntax.specs.SyntaxErrors.{FileFails as file_fail}
use Rattle.bib_syntax.specs.Kept.{Comments, CompleteFields, Kept, KeptBody, Opening, opens_block}
use Rattle.bib_syntax.specs.Kept.{Comments as comments}
use Rattle.bib_syntax.specs.Kept.{CompleteFields as complete}
use Rattle.bib_syntax.specs.Kept.{Kept as kept}
use Rattle.bib_syntax.specs.Kept.{KeptBody as kept_body}
use Rattle.bib_syntax.specs.Recovery.{ends_blank, BeginsLine, GoesOnAt, Keeps, Recovered}
use Rattle.bib_syntax.specs.Recovery.{Keeps as keep}
use Rattle.bib_syntax.specs.Recovery.{Passed as passed}
use Rattle.bib_syntax.specs.Recovery.{Recovered as recovered}
use Rattle.bib_syntax.proofs.LeftFacts.{Left, end_or_char, RuleEnd, found_at, found_as, Outcome, run_found, First, first, Sign, sign, is_sign}
use Rattle.bib_syntax.proofs.WordOutcomes.{name_outcome, quoted_outcome}
use Rattle.bib_syntax.proofs.FailureFacts.{identifier_unread, field_unread}
use Rattle.bib_syntax.proofs.FieldOutcomes.{line_comment_found, gap_found, field_outcome, fields_outcome}
use Rattle.bib_syntax.proofs.FileFacts.{is_skipped, closes_preamble, opens_body}
use Rattle.bib_syntax.proofs.KeptFacts.{ahead_passed, char_cut, left_cut, unbracketed, unnamed}

-- ---- blocks

-- the head of a block from one place to the other
abbrev HeadAt : Place → Place → Type 0
HeadAt u v = (p : Part) × Head longest u p v

-- the head of a block matches or fails
head_outcome : {n : ℕ} {u v : Place} → CharAt u 64 v → Left n v → Outcome n (HeadAt u) (HeadFails u)
head_outcome at_sign left = elim (name_outcome left) [
  | Outcome.fails f ↦ Outcome.fails (head_fail.name at_sign f)
  | Outcome.read name ↦
      let white = run_found is_whitespace name.rest in
      elim (first opens_body white.rest) [
        | First.stops stops ↦ Outcome.fails (head_fail.brace at_sign name.rule white.rule stops)
        | First.passes brace opens rest less ↦
            let white' = run_found is_whitespace rest in
            Outcome.read (found_as (omega (arith, name.fits, white.fits, less)) white' (
              _,
              record {
                name_start = _;
                name_end = name.place;
                before_brace = white.place;
                after_brace = _;
                brace = _;
                sign = at_sign;
                name = name.rule;
                white = white.rule;
                opens = brace;
                is_brace = opens;
                white' = white'.rule;
              },
            ))
      ]
]

-- the rest of a block from one place to the other
abbrev BodyAt : Place → Part → BlockKind → Place → Place → Type 0
BodyAt start p k u v = (says : FileReading) × Body longest start p k u says v

-- a truth value and its negation aren't both false
other_stops : (b : Bool) → b ≡ false → not b ≡ false → ⊥
other_stops b fails stops = cc

-- the rest of a block of this kind matches or fails
abbrev BodyOutcome : Place → Part → BlockKind → ℕ → Place → Type 0
BodyOutcome start p k n u = Outcome n (BodyAt start p k u) (BodyFails k u)

-- the rest of a comment block matches or fails
comment_outcome : (start : Place) (p : Part) {n : ℕ} {u : Place} → Left n u → BodyOutcome start p BlockKind.comment n u
comment_outcome start p left =
    let run = run_found (λ c. not (c == 125)) left in
    elim (sign 125 run.rest) [
      | Sign.here close rest less ↦
          Outcome.read (found_at (omega (arith, run.fits, less)) rest (empty_reading, body.comment run.place run.rule close))
      | Sign.missing stops ↦ elim (end_or_char run.rest) [
        | inl end ↦ Outcome.fails (body_fail.comment run.rule end)
        | inr char ↦
            let ends = run.rule.stops char.0 char.1 char.2 in
            absurd (other_stops (char.0 == 125) (stops char.0 char.1 char.2) ends)
      ]
    ]

-- the rest of a preamble matches or fails
preamble_outcome : (start : Place) (p : Part) {n : ℕ} {u : Place} → Left n u → BodyOutcome start p BlockKind.preamble n u
preamble_outcome start p left = elim (quoted_outcome left) [
  | Outcome.fails f ↦ Outcome.fails (body_fail.preamble f)
  | Outcome.read q ↦
      let white = run_found is_whitespace q.rest in
      elim (first closes_preamble white.rest) [
        | First.stops stops ↦ Outcome.fails (body_fail.preamble_end q.rule.1 white.rule stops)
        | First.passes close closes rest less ↦
            Outcome.read (found_at (omega (arith, q.fits, white.fits, less)) rest (_, body.preamble q.rule.1 white.rule close closes))
      ]
]

-- the rest of a block with definitions of abbreviations matches or fails
strings_outcome : (start : Place) (p : Part) {n : ℕ} {u : Place} → Left n u → BodyOutcome start p BlockKind.strings n u
strings_outcome start p {n} left = elim (fields_outcome (suc n) (omega arith) left) [
  | Outcome.fails f ↦ Outcome.fails (body_fail.strings f)
  | Outcome.read fs ↦ Outcome.read (found_as (omega arith) fs (_, body.strings fs.rule.2 fs.rule.3))
]

-- the rest of an entry matches or fails
entry_outcome : (start : Place) (p : Part) {n : ℕ} {u : Place} → Left n u → BodyOutcome start p BlockKind.entry n u
entry_outcome start p left =
    let key = run_found is_key left in
    let white = run_found is_whitespace key.rest in
    elim (sign 44 white.rest) [
      | Sign.missing stops ↦ Outcome.fails (body_fail.comma key.rule white.rule stops)
      | Sign.here comma rest less ↦
          let g = gap_found rest in
          elim (fields_outcome (suc g.left) (omega arith) g.rest) [
            | Outcome.fails f ↦ Outcome.fails (body_fail.fields key.rule white.rule comma g.rule f)
            | Outcome.read fs ↦
                let entry = body.entry key.place key.rule white.rule comma g.rule fs.rule.2 fs.rule.3 in
                Outcome.read (found_as (omega (arith, key.fits, white.fits, less, g.fits)) fs (_, entry))
          ]
    ]

-- the rest of a block of any kind matches or fails
body_outcome : (start : Place) (p : Part) (k : BlockKind) {n : ℕ} {u : Place} → Left n u → BodyOutcome start p k n u
body_outcome start p BlockKind.comment left = comment_outcome start p left
body_outcome start p BlockKind.preamble left = preamble_outcome start p left
body_outcome start p BlockKind.strings left = strings_outcome start p left
body_outcome start p BlockKind.entry left = entry_outcome start p left

-- a block from one place to the other
abbrev BlockAt : Place → Place → Type 0
BlockAt u v = (says : FileReading) × Block longest u says v

-- a block at an at sign matches or fails
block_outcome : {n : ℕ} {u v : Place} → CharAt u 64 v → Left n v → Outcome n (BlockAt u) (BlockFails u)
block_outcome {u = u} at_sign left = elim (head_outcome at_sign left) [
  | Outcome.fails f ↦ Outcome.fails (block_fail.head f)
  | Outcome.read head ↦
      let name : Part = head.rule.0 in
      elim (body_outcome u name (block_kind name.text) head.rest) [
        | Outcome.fails f ↦ Outcome.fails (block_fail.body head.rule.1 f)
        | Outcome.read b ↦
            let block : Block longest u b.rule.0 b.place = record {
              inside = head.place;
              kind = name;
              head = head.rule.1;
              body = b.rule.1;
            } in
            Outcome.read (found_as head.fits b (_, block))
      ]
]

-- ---- files

-- a raw reading from a place on, or the reported error of the first block that fails
abbrev FileCase : Place → Type 0
FileCase u = ((says : FileReading) × File longest u says) ⊎ ((e : ParseError) × Reports (FileFails u) e)

-- `FileCase` from `v` gives `FileCase` from `u` if each raw reading and each failure from `v` gives one from `u`
file_map : {u v : Place} (says : FileReading → FileReading) → ((r : FileReading) → File longest v r → File longest u (says r))
    → ((kind : ParseErrorKind) (w : Place) → FileFails v kind w → FileFails u kind w) → FileCase v → FileCase u
file_map says found failed (inl r) = inl (says r.0, found r.0 r.1)
file_map says found failed (inr e) =
    inr (e.0, record { kind = e.1.kind; place = e.1.place; fails = failed e.1.kind e.1.place e.1.fails; is = e.1.is })

-- the next step in a file: its end, a skipped character, a line comment or an at sign
data Step (n : ℕ) (u : Place) : Type 0 where
  ended : AtEnd u → Step n u
  skipped : {m c : ℕ} {v : Place} → CharAt u c v → is_skipped c ≡ true → Left m v → m < n → Step n u
  line_comment : {m : ℕ} {v : Place} → LineComment u v → Left m v → m < n → Step n u
  at_sign : {m : ℕ} {v : Place} → CharAt u 64 v → Left m v → m < n → Step n u

-- one of these four steps applies at each place with `Left`
next_step : {n : ℕ} {u : Place} → Left n u → Step n u
next_step (Left.none end) = Step.ended end
next_step (Left.more {c = c} char rest) = elim (cases_Bool (c == 64)) [
  | inl is_at ↦ Step.at_sign (is_sign 64 char is_at) rest (omega arith)
  | inr no_at ↦ elim (cases_Bool (c == 37)) [
    | inl is_percent ↦
        let line = line_comment_found (is_sign 37 char is_percent) rest in
        Step.line_comment line.rule line.rest (omega (arith, line.fits))
    | inr no_percent ↦ Step.skipped char (rw (no_at, no_percent) refl) rest (omega arith)
  ]
]

-- from each place with `Left` there is a raw reading or a reported error
pub file_case : (bound : ℕ) {n : ℕ} {u : Place} → n < bound → Left n u → FileCase u
file_case zero below left = absurd (omega (arith, below))
file_case (suc bound) below left = elim (next_step left) [
  | Step.ended end ↦ inl (empty_reading, file.end end)
  | Step.skipped char passes rest less ↦
      let more = file_case bound (omega (arith, below, less)) rest in
      file_map (λ r. r) (λ r x. file.skipped char passes x) (λ kind w f. file_fail.skipped char passes f) more
  | Step.line_comment line rest less ↦
      let more = file_case bound (omega (arith, below, less)) rest in
      file_map (λ r. r) (λ r x. file.line_comment line x) (λ kind w f. file_fail.line_comment line f) more
  | Step.at_sign char rest less ↦ elim (block_outcome char rest) [
    | Outcome.fails f ↦ inr (_, record { kind = _; place = _; fails = file_fail.first f; is = refl })
    | Outcome.read b ↦
        let more = file_case bound (omega (arith, below, less, b.fits)) b.rest in
        file_map (then b.rule.0) (λ r x. file.block b.rule.1 x) (λ kind w f. file_fail.more b.rule.1 f) more
  ]
]

-- ---- recovery

-- an at sign begins a line at a place, or none does
line_case : {u v : Place} (c : ℕ) → CharAt u c v → BeginsLine u ⊎ (BeginsLine u → ⊥)
line_case {u} {v} c char = elim (cases_Bool (c == 64)) [
  | inr no_at ↦ inr (λ line. char_clash char line.1 no_at)
  | inl is_at ↦ elim (cases_Bool (ends_blank (take u.at u.text))) [
    | inl blank ↦ inl (v, is_sign 64 char is_at, blank)
    | inr filled ↦ inr (λ line. test_clash _ line.2 filled)
  ]
]

-- from each place with `Left` there is a place where recovery continues
goes_on_found : {n : ℕ} {u : Place} → Left n u → RuleEnd n (GoesOnAt u)
goes_on_found (Left.none end) = found_at (omega arith) (Left.none {n = zero} end) (record { passed = passed.stop; stands = inl end })
goes_on_found {u = u} (Left.more {c = c} char rest) =
    let following = goes_on_found rest in
    elim (line_case c char) [
      | inl line ↦ found_at (omega arith) (Left.more char rest) (record { passed = passed.stop; stands = inr line })
      | inr other ↦
          let later : GoesOnAt u following.place = record {
            passed = passed.step char other following.rule.passed;
            stands = following.rule.stands;
          } in
          found_as (omega arith) following later
    ]

-- ---- the parts that are kept of a skipped block

-- an opening from one place to the other
abbrev OpeningAt : Place → Place → Type 0
OpeningAt u v = (p : Part) × Opening u p v

-- white space and line comments match at each place with `Left`
comments_found : (bound : ℕ) {n : ℕ} {u : Place} → n < bound → Left n u → RuleEnd n (Comments u)
comments_found zero below left = absurd (omega (arith, below))
comments_found (suc bound) below left =
    let white = run_found is_whitespace left in
    elim (sign 37 white.rest) [
      | Sign.missing stops ↦ found_as (omega arith) white (comments.white white.rule stops)
      | Sign.here percent rest less ↦
          let line = line_comment_found percent rest in
          let more = comments_found bound (omega (arith, below, white.fits, less, line.fits)) line.rest in
          found_as (omega (arith, white.fits, less, line.fits)) more (comments.more white.rule line.rule more.rule)
    ]

-- at an at sign, a block has an opening or it has none
opening_found : {n : ℕ} {u v : Place} → CharAt u 64 v → Left n v
    → RuleEnd n (OpeningAt u) ⊎ ((kind : Part) (w : Place) → Opening u kind w → ⊥)
opening_found char left = elim (name_outcome left) [
  | Outcome.fails f ↦ inr (unnamed char f)
  | Outcome.read name ↦
      let white = run_found is_whitespace name.rest in
      elim (first opens_block white.rest) [
        | First.stops stops ↦ inr (unbracketed char name.rule white.rule stops)
        | First.passes bracket opens rest less ↦
            let white' = run_found is_whitespace rest in
            inl (found_as (omega (arith, name.fits, white.fits, less)) white' (
              _,
              record {
                name_start = _;
                name_end = name.place;
                before = white.place;
                after = _;
                bracket = _;
                sign = char;
                name = name.rule;
                white = white.rule;
                opens = bracket;
                is_bracket = opens;
                white' = white'.rule;
              },
            ))
      ]
]

-- complete fields match at each place with `Left`
fields_kept : (bound : ℕ) {n : ℕ} {u : Place} → n < bound → Left n u → (fs : List FieldReading) × (v : Place) × CompleteFields u fs v
fields_kept zero below left = absurd (omega (arith, below))
fields_kept (suc bound) {u = u} below left = elim (name_outcome left) [
  | Outcome.fails none ↦ ([], u, complete.none (λ f v field. identifier_unread none field.name))
  | Outcome.read name ↦ elim (field_outcome name) [
    | Outcome.fails failed ↦ ([], u, complete.none (λ f v field. field_unread failed field))
    | Outcome.read f ↦
        let g = comments_found (suc f.left) (omega arith) f.rest in
        elim (sign 44 g.rest) [
          | Sign.missing stops ↦ (f.rule.0 ∷ [], g.place, complete.last f.rule.1 g.rule stops)
          | Sign.here {m = m} comma rest less ↦
              let h = comments_found (suc m) (omega arith) rest in
              let more = fields_kept bound (omega (arith, below, f.fits, g.fits, less, h.fits)) h.rest in
              (f.rule.0 ∷ more.0, more.1, complete.more f.rule.1 g.rule comma h.rule more.2)
        ]
  ]
]

-- a reading is kept of the rest of a block of any kind
body_kept : (start : Place) (p : Part) (k : BlockKind) {n : ℕ} {u : Place} → Left n u → (says : FileReading) × KeptBody start p k u says
body_kept start p BlockKind.comment left = (empty_reading, kept_body.comment)
body_kept start p BlockKind.preamble left = (empty_reading, kept_body.preamble)
body_kept start p BlockKind.strings {n} left = let fs = fields_kept (suc n) (omega arith) left in (_, kept_body.strings fs.2)
body_kept start p BlockKind.entry left =
    let key = run_found is_key left in
    let white = run_found is_whitespace key.rest in
    elim (sign 44 white.rest) [
      | Sign.missing stops ↦ (_, kept_body.key key.rule white.rule stops)
      | Sign.here {m = m} comma rest less ↦
          let g = comments_found (suc m) (omega arith) rest in
          let fs = fields_kept (suc g.left) (omega arith) g.rest in
          (_, kept_body.entry key.rule white.rule comma g.rule fs.2)
    ]

-- a reading is kept of a block at an at sign
block_kept : {n : ℕ} {u v : Place} → CharAt u 64 v → Left n v → (says : FileReading) × Kept u says
block_kept {u = u} char left = elim (opening_found char left) [
  | inr absent ↦ (empty_reading, kept.unopened absent)
  | inl opening ↦
      let name : Part = opening.rule.0 in
      let body = body_kept u name (block_kind name.text) opening.rest in
      (body.0, kept.block opening.rule.1 body.1)
]

-- a reading is kept of a skipped block
keeps_found : (keeps : Bool) {u v w : Place} → CharAt u 64 v → GoesOnAt v w → (says : FileReading) × Keeps keeps u w says
keeps_found false char on = (empty_reading, keep.nothing)
keeps_found true {u} {v} {w} char on =
    let passed = left_cut on.passed (char_within char) in
    let same : w.text ≡ u.text = (ahead_passed on.passed).text ∙ char.same in
    let sign : CharAt (place (take w.at w.text) u.at) 64 (place (take w.at w.text) v.at) =
    subst (λ t. CharAt (place (take w.at t) u.at) 64 (place (take w.at t) v.at)) (sym same)
    (char_cut w.at char (ahead_passed on.passed).at) in
    let found = block_kept sign passed.1 in
    (found.0, keep.parts found.1)

-- a recovery from a place on
abbrev RecoveredFrom : Bool → Place → Type 0
RecoveredFrom keeps u = (says : FileReading) × (errors : List SkippedBlock) × Recovered keeps u says errors

-- there is a recovery from each place with `Left` on
pub recovery_found : (keeps : Bool) (bound : ℕ) {n : ℕ} {u : Place} → n < bound → Left n u → RecoveredFrom keeps u
recovery_found keeps zero below left = absurd (omega (arith, below))
recovery_found keeps (suc bound) below left = elim (next_step left) [
  | Step.ended end ↦ (empty_reading, [], recovered.end end)
  | Step.skipped char passes rest less ↦
      let found = recovery_found keeps bound (omega (arith, below, less)) rest in
      (found.0, found.1, recovered.skipped char passes found.2)
  | Step.line_comment line rest less ↦
      let found = recovery_found keeps bound (omega (arith, below, less)) rest in
      (found.0, found.1, recovered.line_comment line found.2)
  | Step.at_sign char rest less ↦ elim (block_outcome char rest) [
    | Outcome.read b ↦
        let found = recovery_found keeps bound (omega (arith, below, less, b.fits)) b.rest in
        (_, found.1, recovered.block b.rule.1 found.2)
    | Outcome.fails f ↦
        let on = goes_on_found rest in
        let held = keeps_found keeps char on.rule in
        let found = recovery_found keeps bound (omega (arith, below, less, on.fits)) on.rest in
        (_, _, recovered.unread char (record { kind = _; place = _; fails = f; is = refl }) on.rule held.1 found.2)
  ]
]
