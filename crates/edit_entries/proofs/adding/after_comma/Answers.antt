use Rattle.std.proofs.Common.{◌≡◌, ℕ, Bool, List, MatchBool, sym, ap, ◌∙◌, subst}
use Rattle.std.specs.Char.{is_whitespace}
use Rattle.std.specs.Str.{IsCharBoundary}
use Rattle.bib_text.specs.Places.{CharAt, Longest, Place, place}
use Rattle.bib_text.proofs.PlaceFacts.{ahead_char, ahead_run, ahead_then, longest_same, same_place}
use Rattle.bib_syntax.specs.Reading.{EntryReading}
use Rattle.bib_syntax.specs.Views.{entry_reading_of}
use Rattle.bib_syntax.proofs.ReadingFacts.{taken_if}
use Rattle.edit_entries.specs.Setting.{IsAfterComma}
use Rattle.edit_entries.specs.Placed.{HasComma}
use Rattle.edit_entries.proofs.adding.after_comma.Goals as goal

-- the place after the comma that the parser takes after white space is the one of `IsAfterComma`
comma : (text : List ℕ) (e : EntryReading) (at : ℕ) (answer : Bool) {u a v : Place} → HasComma text e
    → u ≡ place text e.key.end → Longest is_whitespace u a
    → MatchBool answer (CharAt a 44 v) ((v ≡ a) × ((w : Place) → CharAt a 44 w → ⊥))
    → at ≡ v.at → IsAfterComma text e at × (v.text ≡ text)
comma text e at answer {u} {a} {v} has start white taken is_at =
    let same : a ≡ has.is.before = longest_same (subst (λ p. Longest is_whitespace p a) start white) has.is.white in
    let char : CharAt a 44 v = taken_if 44 answer taken (_, subst (λ p. CharAt p 44 (place text has.at)) (sym same) has.is.comma) in
    let text_is : v.text ≡ text = (ahead_then (ahead_run white.run) (ahead_char char)).text ∙ ap (λ p. p.text) start in
    let there : v ≡ place text at = same_place {u = v} {v = place text at} text_is (sym is_at) in (
      record {
        before = a;
        white = subst (λ p. Longest is_whitespace p a) start white;
        comma = subst (λ p. CharAt a 44 p) there char;
      },
      text_is,
    )

pub returns-clause-is : goal.returns-clause-is
returns-clause-is c =
    (comma c.args.text.now (entry_reading_of c.args.entry.now) c.cursor.result c.eat_if.result c.requires
    (c.jump.ensures ∙ ap (λ p. place p.text c.args.entry.now.v.key.span.end) c.new-s.ensures)
    c.eat_whitespace.ensures.longest c.eat_if.ensures c.cursor.ensures.place).0

pub returns-clause-boundary : goal.returns-clause-boundary
returns-clause-boundary c =
    subst (λ t. IsCharBoundary t c.cursor.result)
    (comma c.args.text.now (entry_reading_of c.args.entry.now) c.cursor.result c.eat_if.result c.requires
    (c.jump.ensures ∙ ap (λ p. place p.text c.args.entry.now.v.key.span.end) c.new-s.ensures)
    c.eat_whitespace.ensures.longest c.eat_if.ensures c.cursor.ensures.place).1
    c.cursor.ensures.boundary
