use Rattle.std.proofs.Common.{◌≡◌, ◌↔◌, ℕ, Bool, true, false, List, IsTrue, MatchBool, length, refl, sym, ap, ◌∙◌, subst}
use Rattle.bib_text.specs.Places.{AtEnd, CharAt, Longest, Place, place}
use Rattle.bib_text.proofs.PlaceFacts.{ahead_run, same_place, test_clash}
use Rattle.bib_syntax.specs.Characters.{is_id_continue, is_id_start}
use Rattle.bib_syntax.specs.Grammar.{Identifier, longest}
use Rattle.bib_syntax.specs.Reading.{part}
use Rattle.bib_syntax.proofs.LawFacts.{identifier_same}
use Rattle.bib_syntax.proofs.WordFacts.{identifier_found}
use Rattle.edit_entries.specs.Documents.{CanBeName}
use Rattle.edit_entries.proofs.names.can_be_name.Goals as goal

-- a text isn't a name if its first character can't begin one
no_name : (text : List ℕ) {u : Place} → u ≡ place text 0 → ((c : ℕ) (v : Place) → CharAt u c v → is_id_start c ≡ false) → CanBeName text → ⊥
no_name text {u} start none can =
    test_clash _ can.1.starts
    (none can.1.first can.1.second (subst (λ p. CharAt p can.1.first can.1.second) (sym start) can.1.here))

pub returns-then-not-begins_name : goal.returns-then-not-begins_name
returns-then-not-begins_name c = no_name c.args.text.now c.new-s.ensures c.if-not-begins_name.ensures

-- a text whose first character can begin a name is a name exactly if the longest run of name characters is the whole text
whole : (text : List ℕ) (answer : Bool) {u v : Place} → u ≡ place text 0
    → ((c : ℕ) × (w : Place) × CharAt u c w × (is_id_start c ≡ true)) → Longest is_id_continue u v
    → IsTrue answer ↔ AtEnd v
    → MatchBool answer (CanBeName text) (CanBeName text → ⊥)
whole text true {u} {v} start first run end =
    let same : v.text ≡ text = (ahead_run run.run).text ∙ ap (λ p. p.text) start in
    let last : v ≡ place text (length text) = same_place {u = v} {v = place text (length text)} same (end.0 refl ∙ ap length same) in (
      part u v,
      subst (λ p. Identifier longest p (part u v) (place text (length text))) start
          (subst (λ p. Identifier longest u (part u v) p) last (identifier_found first run refl)),
    )
whole text false {u} {v} start first run end = λ can.
    let here : Identifier longest (place text 0) (part u v) v =
    subst (λ p. Identifier longest p (part u v) v) start (identifier_found first run refl) in
    let ended : IsTrue false = end.1 (subst (λ p. AtEnd p) (identifier_same can.1 here).1 refl) in
    absurd (cc)

pub returns : goal.returns
returns c =
    whole c.args.text.now c.done.result c.new-s.ensures c.if-not-begins_name.ensures
    (c.eat_while.ensures.longest is_id_continue (λ x r post. post)) c.done.ensures
