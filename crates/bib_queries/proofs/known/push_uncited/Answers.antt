use Rattle.std.proofs.Common.{◌≡◌, ◌∙◌, ◌++◌, ◌∷◌, true, false, [], cond, map, ap, sym, append-nil}
use Rattle.std.proofs.lemmas.List.{map-append}
use Rattle.bib_syntax.specs.Views.{entry_reading_of, part_of}
use Rattle.bib_queries.specs.Known.{has_name_among}
use Rattle.bib_queries.specs.Names.{entry_names}
use Rattle.bib_queries.proofs.known.push_uncited.Goals as goal

pub returns-then-has_one : goal.returns-then-has_one
returns-then-has_one c = λ keys same.
    let e = entry_reading_of c.args.entry.now in
    let old = map part_of c.args.found.now.items in
    let named : map (λ n. n.now) c.deref.result.now ≡ entry_names e = ap (map (λ n. n.now)) c.deref.ensures.value ∙ c.in_ok-names.ensures in
    let has : has_name_among keys (entry_names e) ≡ true =
    sym (ap (has_name_among keys) named) ∙ sym (c.has_one.ensures keys same) ∙ c.if-has_one.true in
    sym (ap (λ b. old ++ cond b [] (e.key ∷ [])) has ∙ append-nil old)

pub returns : goal.returns
returns c = λ keys same.
    let e = entry_reading_of c.args.entry.now in
    let old = map part_of c.args.found.now.items in
    let named : map (λ n. n.now) c.deref.result.now ≡ entry_names e = ap (map (λ n. n.now)) c.deref.ensures.value ∙ c.in_ok-names.ensures in
    let has : has_name_among keys (entry_names e) ≡ false =
    sym (ap (has_name_among keys) named) ∙ sym (c.has_one.ensures keys same) ∙ c.if-has_one.false in
    ap (map part_of) c.in_ok-push.ensures.items ∙ map-append part_of c.args.found.now.items (c.new.result ∷ [])
    ∙ ap (λ x. old ++ part_of x ∷ []) c.new.ensures
    ∙ sym (ap (λ b. old ++ cond b [] (e.key ∷ [])) has)
