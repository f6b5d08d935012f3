use Rattle.std.proofs.Common.{◌≡◌, ◌+◌, ℕ, List, [], ◌∷◌, ◌++◌, length, get_or, take, rules, sym, ap, ◌∙◌, subst, arith, length-append}
use Rattle.std.specs.Borrow.{Bor}
use Rattle.std.specs.Prelude.{string_bytes}
use Rattle.std.proofs.lemmas.List.{get_or_default, map-append, take_all}
use Rattle.edit_strings.specs.Collected.{AreNames}
use Rattle.edit_strings.specs.Collecting.{string_texts}
use Rattle.edit_strings.specs.Views.{lent_texts}
use Rattle.edit_strings.proofs.NamesFacts.{AreNamed, gets_closed, named_more, none_closed}
use Rattle.edit_strings.proofs.TextFacts.{one_more}
use Rattle.edit_strings.proofs.naming.names.Goals as goal

pub texts-init : goal.texts-init
texts-init c = record {
  closed = none_closed c.args.taken.now c.new-numbers.result (λ base. search rules);
  count = ap length c.in_ok-names.ensures.items;
  named = λ says known known'.
      subst (λ l. AreNamed says [] (string_texts l) c.args.taken.now) (sym c.in_ok-names.ensures.items)
      (record { named = AreNames.none; taken = known });
}

pub texts-preserved : goal.texts-preserved
texts-preserved c =
    let i = c.texts.text-index in
    let nobody : Bor (List ℕ) = record { ref_ptr = (0, 0); now = [] } in
    let x : Bor (List ℕ) = get_or c.args.texts.now i nobody in
    let name : List ℕ = string_bytes c.in_ok-name_of.field-0 in
    let names : string_texts c.push.new.self.items ≡ string_texts c.texts.names.items ++ name ∷ [] =
    ap string_texts c.in_ok-push.ensures.items
    ∙ map-append string_bytes c.texts.names.items (c.in_ok-name_of.field-0 ∷ []) in
    let more : lent_texts (take (i + 1) c.args.texts.now) ≡ lent_texts (take i c.args.texts.now) ++ x.now ∷ [] =
    one_more (λ t. t.now) c.args.texts.now i x c.texts-test.true
    (get_or_default c.args.texts.now i nobody x c.texts-test.true) in
    record {
      closed = gets_closed c.texts.taken c.name_of.new.taken c.name_of.new.numbers _ x.now name c.in_ok-name_of.ensures;
      count =
          omega (
            arith,
            ap length c.in_ok-push.ensures.items,
            length-append c.texts.names.items (c.in_ok-name_of.field-0 ∷ []),
            c.texts.invariant.count,
          );
      named = λ says known known'.
          subst (λ ts. AreNamed says ts (string_texts c.push.new.self.items) c.name_of.new.taken) (sym more)
          (subst (λ ns. AreNamed says (lent_texts (take i c.args.texts.now) ++ x.now ∷ []) ns c.name_of.new.taken) (sym names)
          (named_more says (lent_texts (take i c.args.texts.now)) (string_texts c.texts.names.items) x.now name c.texts.taken
          c.name_of.new.taken c.name_of.new.numbers _ (known' x.now) c.in_ok-name_of.ensures
          (c.texts.invariant.named says known known')));
    }

pub returns : goal.returns
returns c = λ says known known'.
    subst (λ l. AreNames says (lent_texts l) (string_texts c.texts.names.items))
    (take_all c.texts.text-index c.args.texts.now c.texts-test.false)
    (c.texts.invariant.named says known known').named
