use Rattle.std.proofs.Common.{◌≡◌, ◌∙◌, false, sym}
use Rattle.std.specs.Prelude.{bytes_eq, codes}
use Rattle.bib_queries.specs.declared.citations.Citation.{Citation}
use Rattle.bib_queries.proofs.CitationFacts.{known_keys, new_keys, not_all}
use Rattle.bib_queries.proofs.citations.Collected.add.Goals as goal

pub returns-then-contains_key : goal.returns-then-contains_key
returns-then-contains_key c =
    let one : Citation = record { key = c.args.key.now; at = c.args.at } in
    let other : bytes_eq c.args.key.now (codes "*") ≡ false = sym c.eq.ensures ∙ c.if-eq.false in
    record {
      keys =
          sym
          (known_keys c.args.self.now.keys.items one
          (sym (c.requires c.args.key.now) ∙ sym c.contains_key.ensures ∙ c.if-contains_key.true));
      all = not_all c.args.self.now.all one other;
      seen = c.requires;
    }

pub returns : goal.returns
returns c =
    let one : Citation = record { key = c.args.key.now; at = c.args.at } in
    let other : bytes_eq c.args.key.now (codes "*") ≡ false = sym c.eq.ensures ∙ c.if-eq.false in
    record {
      keys =
          c.in_ok-push.ensures.keys
          ∙ sym
          (new_keys c.args.self.now.keys.items one other
          (sym (c.requires c.args.key.now) ∙ sym c.contains_key.ensures ∙ c.if-contains_key.false));
      all = c.in_ok-push.ensures.all ∙ not_all c.args.self.now.all one other;
      seen = c.in_ok-push.ensures.seen;
    }
