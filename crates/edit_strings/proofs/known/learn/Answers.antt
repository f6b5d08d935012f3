use Rattle.std.proofs.Common.{sym, ap, ◌∙◌}
use Rattle.std.specs.Prelude.{bytes_eq}
use Rattle.std.specs.Option.{option_map}
use Rattle.std.proofs.lemmas.Map.Text.{btree_map_updates_str}
use Rattle.bib_text.proofs.OptionFacts.{mapped_cond}
use Rattle.bib_syntax.specs.Views.{field_of}
use Rattle.edit_strings.specs.Collecting.{known_in, learned}
use Rattle.edit_strings.proofs.KnownFacts.{learned_first, no_name}
use Rattle.edit_strings.proofs.known.learn.Goals as goal

pub returns-in_ok-insert : goal.returns-in_ok-insert
returns-in_ok-insert c = λ other.
    let f = field_of c.args.definition.now in
    let own = c.in-Some.text.now in
    learned_first (known_in c.args.known.now other) (known_in c.insert.new.self other) own f other
    (λ same. ap (known_in c.args.known.now) (sym same) ∙ no_name (λ n. n.now) _ (sym c.contains_key.ensures ∙ c.if-not-contains_key.true))
    (ap (option_map (λ n. n.now)) (btree_map_updates_str own c.args.known.now c.insert.new.self _ c.in_ok-insert.ensures.updates other)
    ∙ mapped_cond (λ n. n.now) (bytes_eq own other) _ _)
    ∙ ap (λ o. learned (known_in c.args.known.now other) o f other) (ap (option_map (λ t. t.now)) (sym c.in-Some.is))
