use Rattle.std.proofs.Common.{◌≡◌, ◌≤◌, ℕ, List, sym, ap, ◌∙◌, subst, arith}
use Rattle.std.specs.Char.{is_whitespace}
use Rattle.std.specs.Str.{IsCharBoundary}
use Rattle.bib_text.specs.Places.{Longest, Place, place}
use Rattle.bib_text.proofs.PlaceFacts.{ahead_run, same_place}
use Rattle.edit_entries.proofs.removing.after_white.Goals as goal

-- the longest run of white space from a byte offset of a text on
record Taken (text : List ℕ) (start at : ℕ) (v : Place) : Type 0 where
  white : Longest is_whitespace (place text start) (place text at)
  same : v.text ≡ text
  forward : start ≤ at

taken : (text : List ℕ) (start at : ℕ) {u v : Place} → u ≡ place text start → Longest is_whitespace u v → at ≡ v.at → Taken text start at v
taken text start at {u} {v} here white is =
    let over = ahead_run white.run in
    let same : v.text ≡ text = over.text ∙ ap (λ p. p.text) here in
    let there : v ≡ place text at = same_place {u = v} {v = place text at} same (sym is) in
    record {
      white = subst (λ p. Longest is_whitespace p (place text at)) here (subst (λ p. Longest is_whitespace u p) there white);
      same = same;
      forward = omega (arith, over.at, ap (λ p. p.at) here, is);
    }

all : (c : goal.After-cursor) → Taken c.args.text.now c.args.place c.cursor.result c.eat_whitespace.new.self
all c =
    taken c.args.text.now c.args.place c.cursor.result
    (c.jump.ensures ∙ ap (λ p. place p.text c.args.place) c.new-s.ensures) c.eat_whitespace.ensures.longest
    c.cursor.ensures.place

pub returns-clause-white : goal.returns-clause-white
returns-clause-white c = (all c).white

pub returns-clause-boundary : goal.returns-clause-boundary
returns-clause-boundary c = subst (λ t. IsCharBoundary t c.cursor.result) (all c).same c.cursor.ensures.boundary

pub returns-clause-forward : goal.returns-clause-forward
returns-clause-forward c = (all c).forward
