use Rattle.std.proofs.lemmas.Grind.{common_steps}
use Rattle.std.proofs.Common.{◌≡◌, ◌∙◌, ◌++◌, ◌+◌, ◌∷◌, [], ap, rules, subst, sym, take, arith}
use Rattle.std.specs.Prelude.{string_bytes}
use Rattle.std.specs.BTreeMap.{get_by_text}
use Rattle.bib_keys.specs.Keys.{AreKeys}
use Rattle.bib_keys.proofs.KeyFacts.{AreTaken, is_first, keys_more, more_keys, none_taken}
use Rattle.bib_keys.proofs.keys.keys_of.Goals as goal

pub entries-init : goal.entries-init
entries-init c =
    let empty = c.new-keys.ensures.items in
    record {
      taken =
          subst (AreTaken (get_by_text c.new-taken.result)) (sym empty) (none_taken (get_by_text c.new-taken.result) (λ q. search rules));
      keys = subst (AreKeys c.args.pattern.now []) (sym empty) AreKeys.none;
    }

pub entries-preserved : goal.entries-preserved
entries-preserved c =
    let old = get_by_text c.entries.taken in
    let new = get_by_text c.take_key.new.taken in
    let text = string_bytes c.in_ok-text.text in
    let key = string_bytes c.in_ok-take_key.field-0 in
    let keys = c.entries.keys.items in
    let pushed : c.push.new.self.items ≡ keys ++ (key ∷ []) =
    c.in_ok-push.ensures.items ∙ ap (λ k. keys ++ (k ∷ [])) c.from_string.ensures in
    record {
      taken = subst (AreTaken new) (sym pushed) (more_keys old new keys text key c.entries.invariant.taken c.in_ok-take_key.ensures);
      keys =
          subst (AreKeys c.args.pattern.now (take (c.entries.entry-index + 1) c.args.entries.now)) (sym pushed)
          (keys_more c.args.pattern.now c.args.entries.now c.entries.entry-index c.entry-item.result keys text key
          c.entries.invariant.keys c.entries-test.true c.entry-item.is c.in_ok-text.ensures
          (is_first old new keys text key c.entries.invariant.taken c.in_ok-take_key.ensures));
    }

pub returns : goal.returns
returns c = grind (arith, common_steps)
