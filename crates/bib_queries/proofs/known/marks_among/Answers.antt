use Rattle.std.proofs.Common.{◌≡◌, ◌∙◌, ◌+◌, ◌++◌, ◌∷◌, ℕ, List, Bool, [], get_or, map, take, ap, ap₂, sym, arith}
use Rattle.std.specs.Borrow.{Bor}
use Rattle.std.proofs.lemmas.List.{map-append, take_more}
use Rattle.bib_queries.specs.Needed.{is_listed}
use Rattle.bib_queries.proofs.known.marks_among.Goals as goal

pub keys-preserved : goal.keys-preserved
keys-preserved c =
    let nobody : Bor (List ℕ) = record { ref_ptr = (0, 0); now = [] } in
    let keys = c.args.keys.now in
    let i : ℕ = c.keys.key-index in
    let key : Bor (List ℕ) = get_or keys i nobody in
    let test : List ℕ → Bool = is_listed (map (λ n. n.now) c.args.names.now) in
    let next : map (λ k. k.now) (take (i + 1) keys) ≡ map (λ k. k.now) (take i keys) ++ key.now ∷ [] =
    ap (map (λ k. k.now)) (take_more keys i nobody (omega arith)) ∙ map-append (λ k. k.now) (take i keys) (key ∷ []) in
    c.in_ok-push.ensures.items ∙ ap₂ (λ l b. l ++ b ∷ []) c.keys.invariant (c.contains.ensures ∙ c.in_ok-set.ensures key.now)
    ∙ sym (ap (map test) next ∙ map-append test (map (λ k. k.now) (take i keys)) (key.now ∷ []))
