-- The text before an entry, cut after a line feed: parsing can resume there if no at sign, closing brace or quote follows.
use Rattle.std.proofs.Common.{◌≡◌, ◌⊎◌, inl, inr, ℕ, ◌<◌, ◌≤◌, Bool, true, false, List, ◌++◌, length, refl, sym, ap, ◌∙◌, subst, arith}
use Rattle.std.specs.Prelude.{◌==◌, ◌||◌}
use Rattle.std.specs.Char.{len_utf8}
use Rattle.std.proofs.lemmas.Bool.{cases_lt, eq-eqb, eqb-true}
use Rattle.std.proofs.lemmas.List.Folds.{list_any-append}
use Rattle.std.proofs.lemmas.Str.{len_utf8_ascii}
use Rattle.bib_text.specs.Places.{Place, CharAt, between}
use Rattle.bib_text.proofs.PlaceFacts.{Ahead, ahead_then, ahead_char, ahead_run, char_clash, same_char, same_place, test_clash}
use Rattle.bib_syntax.specs.Reading.{Part, FileReading, empty_reading}
use Rattle.bib_syntax.specs.Recovery.{has_byte}
use Rattle.bib_syntax.specs.Grammar.{BlockKind, Body, Block, longest}
use Rattle.bib_syntax.specs.Grammar.{Body as body}
use Rattle.bib_syntax.proofs.FieldFacts.{ahead_fields, ahead_gap, ahead_quoted}
use Rattle.bib_syntax.proofs.FileFacts.{ahead_block, ahead_head, ahead_line_comment}
use Rattle.edit_entries.specs.Edits.{moved_file}
use Rattle.bib_text.proofs.BoundaryFacts.{not_over}
use Rattle.edit_entries.proofs.GrammarFacts.{block_there, line_comment_there, moved-then}
use Rattle.edit_entries.proofs.SplitFacts.{FileBefore, ahead_file_before}
use Rattle.edit_entries.proofs.ZoneFacts.{Frame, Zone, Inside, there, inside_between, char_there}
use Rattle.edit_entries.proofs.ElementFacts.{one_byte, parted}
use Rattle.edit_sort.specs.Sorted.{has_block_sign}
use Rattle.edit_sort.proofs.PlainFacts.{Plain, before_plain, none_in_line}
use Rattle.std.proofs.Math.Bool.{or-true}

-- ---- a text without signs of blocks

pub record IsClearOf (text : List ℕ) : Type 0 where
  pub at : has_byte 64 text ≡ false
  pub brace : has_byte 125 text ≡ false
  pub quote : has_byte 34 text ≡ false

pub clear_of : (text : List ℕ) → has_block_sign text ≡ false → IsClearOf text
clear_of text clear = by_signs (has_byte 64 text) (has_byte 125 text) (has_byte 34 text) refl refl refl clear
  where
    by_signs : (x y z : Bool) → has_byte 64 text ≡ x → has_byte 125 text ≡ y → has_byte 34 text ≡ z → (x || y || z) ≡ false → IsClearOf text
    by_signs true y z at brace quote none = absurd (cc)
    by_signs false true z at brace quote none = absurd (cc)
    by_signs false false true at brace quote none = absurd (cc)
    by_signs false false false at brace quote none = record { at = at; brace = brace; quote = quote }

-- ---- the end of a block

-- a block ends with a closing brace or a quote
record LastSign (u v : Place) : Type 0 where
  sign : ℕ
  start : Place
  ahead : Ahead u start
  here : CharAt start sign v
  is : (sign ≡ 125) ⊎ (sign ≡ 34)

brace_or_quote : (c : ℕ) → (c == 125 || c == 34) ≡ true → (c ≡ 125) ⊎ (c ≡ 34)
brace_or_quote c is = by_brace (c == 125) refl is
  where
    by_brace : (b : Bool) → (c == 125) ≡ b → (b || c == 34) ≡ true → (c ≡ 125) ⊎ (c ≡ 34)
    by_brace true same is' = inl (eqb-true c 125 same)
    by_brace false same is' = inr (eqb-true c 34 is')

body_end : {start u v : Place} {kind : Part} {k : BlockKind} {says : FileReading} → Body longest start kind k u says v → LastSign u v
body_end (body.comment brace chars closes) = record { sign = 125; start = brace; ahead = ahead_run chars.run; here = closes; is = inl refl }
body_end (body.preamble {w = w} {c = c} quoted white closes is_brace) =
    record {
      sign = c;
      start = w;
      ahead = ahead_then (ahead_quoted quoted) (ahead_run white.run);
      here = closes;
      is = brace_or_quote c is_brace;
    }
body_end (body.strings {v = v} fs closes) = record { sign = 125; start = v; ahead = ahead_fields fs; here = closes; is = inl refl }
body_end (body.entry {z = z} key_end key white comma gap fs closes) = record {
  sign = 125;
  start = z;
  ahead =
      ahead_then (ahead_run key.run)
      (ahead_then (ahead_run white.run)
      (ahead_then (ahead_char comma) (ahead_then (ahead_gap gap) (ahead_fields fs))));
  here = closes;
  is = inl refl;
}

-- the text between two places contains an ASCII character that occurs there
byte_there : {m z v s : Place} (c : ℕ) → c < 128 → Ahead m z → CharAt z c v → Ahead v s → s.at ≤ length m.text
    → has_byte c (between m s) ≡ true
byte_there {m} {z} {v} {s} c small first char rest within =
    let within' : s.at ≤ length z.text = omega (arith, within, ap length first.text) in
    let later : has_byte c (between z s) ≡ true =
    ap (has_byte c) (parted (ahead_char char) rest within' ∙ ap (λ t. t ++ between v s) (one_byte c small char))
    ∙ ap (λ b. b || has_byte c (between v s)) (eq-eqb c c refl) in
    ap (has_byte c) (parted first (ahead_then (ahead_char char) rest) within) ∙ list_any-append (λ b. b == c) (between m z) (between z s)
    ∙ ap (λ b. has_byte c (between m z) || b) later ∙ or-true (has_byte c (between m z))

-- an ASCII character that doesn't occur after a line feed can't end a block after it
sign_over : {l m z v s : Place} (c : ℕ) → c < 128 → (c == 10) ≡ false → l.text ≡ z.text → CharAt l 10 m → CharAt z c v
    → l.at < v.at → Ahead v s → s.at ≤ length m.text → has_byte c (between m s) ≡ false → ⊥
sign_over {l} {m} {z} {v} {s} c small other same feed char before rest within clear =
    let width : len_utf8 c ≡ 1 = len_utf8_ascii c small in
    elim (cases_lt l.at z.at) [
      | inl inside ↦
          let first : Ahead m z = record { text = sym same ∙ sym feed.same; at = omega (arith, feed.next) } in
          test_clash (has_byte c (between m s)) (byte_there c small first char rest within) clear
      | inr at ↦
          let here : l ≡ z = same_place same (omega (arith, char.next)) in
          char_clash char (subst (λ p. CharAt p 10 m) here feed) other
    ]

block_over : {a l m v s : Place} {says : FileReading} → Block longest a says v → l.text ≡ a.text → CharAt l 10 m
    → l.at < v.at → Ahead v s → s.at ≤ length m.text → IsClearOf (between m s) → ⊥
block_over {a} {l} {m} {v} {s} b same feed before rest within clear =
    let last = body_end b.body in
    let ahead = ahead_then (ahead_head b.head) last.ahead in
    elim last.is [
      | inl is ↦ sign_over 125 (omega arith) refl (same ∙ sym ahead.text) feed
          (subst (λ c. CharAt last.start c v) is last.here) before rest within clear.brace
      | inr is ↦ sign_over 34 (omega arith) refl (same ∙ sym ahead.text) feed
          (subst (λ c. CharAt last.start c v) is last.here) before rest within clear.quote
    ]

-- if the text between a line feed and an at sign has no sign of a block, it is plain. The text up to the line feed then has the reading of
-- the text up to the at sign

pub feed_cut : {a l m s x : Place} {says : FileReading} → FileBefore a says s → CharAt s 64 x → s.at ≤ length m.text
    → l.text ≡ a.text → CharAt l 10 m → a.at ≤ l.at → m.at ≤ s.at → IsClearOf (between m s)
    → FileBefore a says l × Plain m s
feed_cut FileBefore.none sign within same feed from below clear = absurd (omega (arith, feed.next))
feed_cut {a} {l} {m} {s} {x} {says} (FileBefore.skipped {v = w} {c = c} char passes rest) sign within same feed from below clear =
    elim (cases_lt l.at w.at) [
      | inr past_it ↦
          let others = feed_cut rest sign within (same ∙ sym char.same) feed past_it below clear in
          (FileBefore.skipped char passes others.0, others.1)
      | inl before ↦ elim (cases_lt a.at l.at) [
        | inl inside ↦ absurd (omega (arith, not_over l.text l.at (inr (10, m, feed)) (sym same) char inside))
        | inr here ↦
            let at : l ≡ a = same_place same (omega arith) in
            let next : w ≡ m = (same_char char (subst (λ p. CharAt p 10 m) at feed)).1 in
            let plain = before_plain (subst (λ p. FileBefore p says s) next rest) sign within clear.at in
            (subst (λ p. FileBefore a says p) (sym at) (subst (λ r. FileBefore a r a) (sym plain.1) FileBefore.none), plain.0)
      ]
    ]
feed_cut {a} {l} {m} {s} (FileBefore.line_comment {v = w} line rest) sign within same feed from below clear =
    elim (cases_lt l.at w.at) [
      | inr past_it ↦
          let others = feed_cut rest sign within (same ∙ sym (ahead_line_comment line).text) feed past_it below clear in
          (FileBefore.line_comment line others.0, others.1)
      | inl before ↦ elim (cases_lt l.at line.inside.at) [
        | inr in_it ↦ absurd (none_in_line (same ∙ sym line.sign.same) feed line.line.run in_it before)
        | inl at_sign ↦
            let here : l ≡ a = same_place same (omega (arith, line.sign.next)) in
            absurd (char_clash line.sign (subst (λ p. CharAt p 10 m) here feed) refl)
      ]
    ]
feed_cut {a} {l} {m} {s} (FileBefore.block {v = w} b rest) sign within same feed from below clear =
    elim (cases_lt l.at w.at) [
      | inr past_it ↦
          let others = feed_cut rest sign within (same ∙ sym (ahead_block b).text) feed past_it below clear in
          (FileBefore.block b others.0, others.1)
      | inl before ↦ absurd (block_over b same feed before (ahead_file_before rest) within clear)
    ]

-- ---- a file in a zone

-- a part of a file in a zone parses in both texts
pub file_before_inside : {f : Frame} {u v : Place} {says : FileReading} → Zone f → Inside f u → Inside f v
    → v.at < f.end → FileBefore u says v → FileBefore (there f u) (moved_file f.move says) (there f v)
file_before_inside z iu iv below FileBefore.none = FileBefore.none
file_before_inside z iu iv below (FileBefore.skipped char passes others) =
    let a = inside_between z iu iv (ahead_char char) (ahead_file_before others) in
    FileBefore.skipped (char_there z iu a char) passes (file_before_inside z a iv below others)
file_before_inside {f} z iu iv below (FileBefore.line_comment m others) =
    let a = inside_between z iu iv (ahead_line_comment m) (ahead_file_before others) in
    FileBefore.line_comment (line_comment_there z iu a (omega (arith, (ahead_file_before others).at, below)) m)
    (file_before_inside z a iv below others)
file_before_inside {f} {u} {v} z iu iv below (FileBefore.block {first = first} {rest = rest} b others) =
    let a = inside_between z iu iv (ahead_block b) (ahead_file_before others) in
    subst (λ says. FileBefore (there f u) says (there f v)) (sym (moved-then f.move first rest))
    (FileBefore.block (block_there z iu a b) (file_before_inside z a iv below others))

-- text without a reading can follow a part of a file
pub before_then : {u v w : Place} {says : FileReading} → FileBefore u says v → FileBefore v empty_reading w → FileBefore u says w
before_then FileBefore.none others = others
before_then (FileBefore.skipped char passes rest) others = FileBefore.skipped char passes (before_then rest others)
before_then (FileBefore.line_comment m rest) others = FileBefore.line_comment m (before_then rest others)
before_then (FileBefore.block b rest) others = FileBefore.block b (before_then rest others)
