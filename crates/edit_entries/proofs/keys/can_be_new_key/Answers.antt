use Rattle.std.proofs.Common.{◌≡◌, ◌↔◌, ◌<◌, Bool, true, false, List, ℕ, zero, suc, IsTrue, MatchBool, codes, length, refl, sym, ap, ◌∙◌, subst, arith}
use Rattle.std.specs.Prelude.{◌==◌, bytes_eq}
use Rattle.std.specs.Str.Iter.{HasSubslice}
use Rattle.std.proofs.lemmas.Str.Pattern.{contains_text}
use Rattle.bib_text.specs.Places.{AtEnd, Longest, Place, Run, place}
use Rattle.bib_text.proofs.PlaceFacts.{ahead_run, runs_same, same_place, stops_at_end}
use Rattle.edit_entries.specs.NewNames.{CanBeNewKey, is_new_key}
use Rattle.edit_entries.proofs.keys.can_be_new_key.Goals as goal

-- a text other than `*` that isn't empty and has no `--` can be a new key exactly if all its characters can be in one
whole : (text : List ℕ) (answer : Bool) {u v : Place} → u ≡ place text 0 → 0 < length text → bytes_eq text (codes "*") ≡ false
    → (HasSubslice text (codes "--") → ⊥) → Longest is_new_key u v → IsTrue answer ↔ AtEnd v
    → MatchBool answer (CanBeNewKey text) (CanBeNewKey text → ⊥)
whole text true {u} {v} start some star hyphens run end =
    let same : v.text ≡ text = (ahead_run run.run).text ∙ ap (λ p. p.text) start in
    let last : v ≡ place text (length text) = same_place {u = v} {v = place text (length text)} same (end.0 refl ∙ ap length same) in
    record {
      some = some;
      no_star = star;
      run = subst (λ p. Run is_new_key p (place text (length text))) start (subst (λ p. Run is_new_key u p) last run.run);
      hyphens = hyphens;
    }
whole text false {u} {v} start some star hyphens run end = λ can.
    let here : Run is_new_key (place text 0) v = subst (λ p. Run is_new_key p v) start run.run in
    let last : place text (length text) ≡ v = runs_same can.run (stops_at_end is_new_key refl) here run.stops in
    let ended : IsTrue false = end.1 (subst (λ p. AtEnd p) last refl) in
    absurd (cc)

some_left : (n : ℕ) (b : Bool) → b ≡ (n == 0) → b ≡ false → 0 < n
some_left zero b is fails = absurd (cc)
some_left (suc n) b is fails = omega arith

pub returns-then-eq : goal.returns-then-eq
returns-then-eq c = λ can. absurd (let clash : true ≡ false = sym (sym c.eq.ensures ∙ c.if-eq.true) ∙ can.no_star in cc)

pub returns-then-contains : goal.returns-then-contains
returns-then-contains c = λ can.
    can.hyphens ((contains_text c.contains.result (codes "--") c.args.text.now c.contains.ensures.cases).0 c.if-contains.true)

pub returns : goal.returns
returns c =
    whole c.args.text.now c.done.result c.new-s.ensures
    (some_left (length c.args.text.now) c.is_empty.result c.is_empty.ensures c.if-is_empty.false)
    (sym c.eq.ensures ∙ c.if-eq.false)
    (λ has.
    let found = (contains_text c.contains.result (codes "--") c.args.text.now c.contains.ensures.cases).1 has in
    absurd (let clash : true ≡ false = sym found ∙ c.if-contains.false in cc))
    (c.eat_while.ensures.longest is_new_key (λ x r post. post)) c.done.ensures
