-- A piece that is copied into another text.
use Rattle.std.proofs.Common.{ℕ, ◌+◌, ◌-◌, ◌≤◌, length, sym, subst}
use Rattle.bib_text.specs.Places.{Place, between}
use Rattle.bib_text.proofs.PlaceFacts.{ahead_char, ahead_run}
use Rattle.bib_syntax.specs.Reading.{Piece}
use Rattle.bib_syntax.specs.Reading.Piece.{literal}
use Rattle.bib_syntax.specs.Grammar.{Element, longest}
use Rattle.bib_syntax.specs.Grammar.{Element as element}
use Rattle.bib_syntax.proofs.FieldFacts.{ahead_element}
use Rattle.bib_syntax.proofs.WordFacts.{ahead_number}
use Rattle.edit_entries.specs.Edits.{moved_piece}
use Rattle.edit_entries.proofs.ZoneFacts.{Frame, Zone, Inside, there, inside_between, char_back, part_there}
use Rattle.edit_entries.proofs.GrammarFacts.{below_char, braced_there, quoted_there}
use Rattle.edit_entries.proofs.ElementFacts.{Ending, identifier_until, number_until}
use Rattle.edit_entries.proofs.StandsFacts.{Stands, copy_frame, copied_before}

-- a piece in a zone is parsed at the moved place, if the next character can't continue a name or a number
element_until : {f : Frame} {u v : Place} {e : Piece} → Zone f → Inside f u → Inside f v → Ending (there f v)
    → Element longest u e v → Element longest (there f u) (moved_piece f.move e) (there f v)
element_until {f} {u} {v} z iu iv ending (element.number n) =
    subst (λ p. Element longest (there f u) (literal p) (there f v)) (part_there z iu iv (ahead_number n))
    (element.number (number_until z iu iv ending n))
element_until {f} {u} {v} z iu iv ending (element.named none i) =
    let is = inside_between z iu iv (ahead_char i.here) (ahead_run i.rest.run) in
    let below = below_char is i.here in
    element.named (λ c w char digit. none c _ (char_back z iu below char) digit) (identifier_until z iu iv ending i)
element_until z iu iv ending (element.braced b) = element.braced (braced_there z iu iv b)
element_until z iu iv ending (element.quoted q) = element.quoted (quoted_there z iu iv q)

-- a piece whose bytes are in another text is parsed there with a moved span, if the next character can't continue it
pub element_stands : {a b u v : Place} {e : Piece} → Element longest a e b → b.at ≤ length a.text
    → Stands u (between a b) v → Ending v → Element longest u (moved_piece (λ n. n - a.at + u.at) e) v
element_stands {a} {b} {u} {v} {e} x within s ending =
    let c = copied_before (ahead_element x) within s ending.here in
    let moved = λ (n : ℕ). n - a.at + u.at in
    subst (λ p. Element longest p (moved_piece moved e) v) c.goes_start
    (subst (λ p. Element longest (there (copy_frame a b u) a) (moved_piece moved e) p) c.goes_end
    (element_until c.zone c.start c.end (subst Ending (sym c.goes_end) ending) x))
