use Rattle.std.proofs.Common.{◌≡◌, ◌∙◌, ◌++◌, ◌∷◌, [], true, false, cond, map, ap, sym, append-nil}
use Rattle.std.proofs.lemmas.List.{map-append}
use Rattle.bib_queries.specs.Needed.{is_listed}
use Rattle.bib_queries.specs.Texts.{text_list}
use Rattle.bib_queries.proofs.citations.push_unlisted.Goals as goal

pub returns-then-contains_key : goal.returns-then-contains_key
returns-then-contains_key c = λ names same.
    let old = text_list c.args.kept.now in
    let has : is_listed names c.args.key.now ≡ true =
    sym (same c.args.key.now) ∙ sym c.contains_key.ensures ∙ c.if-contains_key.true in
    sym (ap (λ b. old ++ cond b [] (c.args.key.now ∷ [])) has ∙ append-nil old)

pub returns : goal.returns
returns c = λ names same.
    let old = text_list c.args.kept.now in
    let has : is_listed names c.args.key.now ≡ false =
    sym (same c.args.key.now) ∙ sym c.contains_key.ensures ∙ c.if-contains_key.false in
    ap (map (λ n. n.now)) c.in_ok-push.ensures.items ∙ map-append (λ n. n.now) c.args.kept.now.items (c.args.key ∷ [])
    ∙ sym (ap (λ b. old ++ cond b [] (c.args.key.now ∷ [])) has)
