-- Copies of an entry and of the rest of a file in another text.
use Rattle.std.proofs.Common.{◌≡◌, inl, inr, ℕ, ◌+◌, ◌-◌, ◌<◌, ◌≤◌, [], ◌∷◌, ◌++◌, length, take, drop, refl, sym, ap, ◌∙◌, subst, arith, length-drop}
use Rattle.std.proofs.lemmas.Bool.{cases_lt}
use Rattle.bib_text.specs.Places.{Place, CharAt, between}
use Rattle.bib_text.proofs.BoundaryFacts.{not_over}
use Rattle.bib_text.proofs.PlaceFacts.{ahead_char, ahead_then, char_left, same_char, same_place, char_within}
use Rattle.bib_syntax.specs.Reading.{EntryReading, FileReading}
use Rattle.bib_syntax.specs.Kept.{entry_alone}
use Rattle.bib_syntax.specs.Grammar.{Block, File, longest}
use Rattle.bib_syntax.proofs.FieldFacts.{ahead_fields}
use Rattle.edit_entries.specs.Edits.{moved_entry, moved_file}
use Rattle.edit_entries.proofs.ElementFacts.{one_byte, parted}
use Rattle.edit_entries.proofs.EntryFacts.{ahead_to_fields}
use Rattle.edit_entries.proofs.GrammarFacts.{block_there}
use Rattle.edit_entries.proofs.MovedFacts.{file_there}
use Rattle.edit_entries.proofs.SplitFacts.{EntryBlock, block_of}
use Rattle.edit_entries.proofs.StandsFacts.{Copy, Stands, ascii, copied, copy_frame, last_part, past}
use Rattle.edit_entries.proofs.ZoneFacts.{Frame, Inside, Zone, there}

-- an entry parses from its bytes at a place of another text, with moved byte offsets
pub record EntryCopy (e : EntryReading) (a b u v : Place) : Type 0 where
  pub copy : Copy a b u v
  pub block : Block longest u (entry_alone (moved_entry (λ n. n - a.at + u.at) e)) v
  pub starts : e.start - a.at + u.at ≡ u.at
  pub ends : e.end - a.at + u.at + 1 ≡ v.at

pub entry_copied : {a b u v : Place} {e : EntryReading} → EntryBlock a e b → Stands u (between a b) v → EntryCopy e a b u v
entry_copied {a} {b} {u} {v} {e} x s =
    let to_brace = ahead_then (ahead_to_fields x) (ahead_fields x.fields) in
    let whole = ahead_then to_brace (ahead_char x.closes) in
    let within : b.at ≤ length a.text = omega (arith, char_within x.closes, ap length whole.text) in
    let cut : between a b ≡ between a x.brace ++ 125 ∷ [] =
    parted to_brace (ahead_char x.closes) within ∙ ap (λ t. between a x.brace ++ t) (one_byte 125 (omega arith) x.closes) in
    let s' : Stands u (between a x.brace ++ 125 ∷ []) v = subst (λ t. Stands u t v) cut s in
    let brace = ascii 125 (omega arith) (last_part (between a x.brace) (125 ∷ []) s') in
    let m = past u (between a x.brace) in
    let next : v.at ≡ m.at + 1 = brace.next in
    let over =
    λ (p q : Place) (d : ℕ) (same : p.text ≡ u.text) (char : CharAt p d q) (low : p.at < v.at).
    last_char m p q v same char brace low next in
    let c = copied whole within s over in
    let move = λ (n : ℕ). n - a.at + u.at in
    let last_next : b.at ≡ x.brace.at + 1 = x.closes.next in
    let size : v.at + a.at ≡ b.at + u.at = omega (arith, c.end.moved, ap (λ p. p.at) c.goes_end) in
    record {
      copy = c;
      block = subst (λ p. Block longest p (entry_alone (moved_entry move e)) v) c.goes_start
          (subst (λ p. Block longest (there (copy_frame a b u) a) (entry_alone (moved_entry move e)) p) c.goes_end
          (block_there c.zone c.start c.end (block_of x)));
      starts = omega (arith, x.starts);
      ends = omega (arith, x.ends, last_next, size, to_brace.at);
    }
  where
    last_char : (m p q v : Place) {d : ℕ} → p.text ≡ m.text → CharAt p d q → CharAt m 125 v → p.at < v.at → v.at ≡ m.at + 1 → q.at ≤ v.at
    last_char m p q v {d} same char brace low next =
        elim (cases_lt p.at m.at) [
          | inl before ↦ omega (
            arith,
            not_over m.text m.at
                (inr (125, v, record { same = brace.same; here = brace.here; next = brace.next })) same char
                before,
            next,
          )
          | inr past_it ↦
              let here : p ≡ m = same_place same (omega arith) in
              let at : q ≡ v = (same_char char (subst (λ x. CharAt x 125 v) (sym here) brace)).1 in
              omega (arith, ap (λ x. x.at) at)
        ]

-- the zone from `a` to the end of its text, which is moved to `u`
abbrev rest_frame : Place → Place → Frame
rest_frame a u = record { old = a.text; new = u.text; move = λ n. n - a.at + u.at; from = a.at; to = u.at; end = length a.text + 1 }

-- the rest of a file parses from its bytes in another text, with moved byte offsets
pub rest_copied : {a u : Place} {says : FileReading} → File longest a says → a.at ≤ length a.text → u.at ≤ length u.text
    → drop u.at u.text ≡ drop a.at a.text → File longest u (moved_file (λ n. n - a.at + u.at) says)
rest_copied {a} {u} {says} x within within' same =
    let sizes : length a.text + u.at ≡ length u.text + a.at =
    omega (arith, ap length same, length-drop a.at a.text, length-drop u.at u.text, within, within') in
    let z : Zone (rest_frame a u) = record {
      moves = λ n from below. omega arith;
      same = ap (take (length a.text + 1 - a.at)) (sym same);
      cut = λ {u = p} {v = q} {c = d} text char below. omega (arith, char_left char, char.next, ap length text, sizes);
    } in
    let start : Inside (rest_frame a u) a = record { text = refl; start = omega arith; end = omega (arith, within); moved = omega arith } in
    let goes : there (rest_frame a u) a ≡ u = same_place refl (omega arith) in
    subst (λ p. File longest p (moved_file (λ n. n - a.at + u.at) says)) goes (file_there z refl sizes start x)
