use Rattle.std.proofs.Common.{false, sym, ap, ◌∙◌, ◌++◌}
use Rattle.std.proofs.lemmas.List.{map-id}
use Rattle.std.proofs.lemmas.Iterator.{YieldsList-from_chars}
use Rattle.std.proofs.lemmas.Iterator.Consumers.{YieldsList-end}
use Rattle.edit_strings.specs.Collecting.{letter_at, met_after}
use Rattle.edit_strings.proofs.LetterFacts.{initials_are, letters_in, letters_push, met_push, no_letters, none_met}
use Rattle.edit_strings.proofs.naming.initials.Goals as goal

pub chars-init : goal.chars-init
chars-init c = record { letters = c.new-initials.ensures.bytes ∙ sym no_letters; met = sym none_met }

pub chars-preserved : goal.chars-preserved
chars-preserved c = record {
  letters = c.in_ok-push_initial.ensures ∙ ap (λ l. l ++ letter_at c.chars.is_met c.in-Some.c) c.chars.invariant.letters
      ∙ ap (λ m. letters_in false c.chars.yielded ++ letter_at m c.in-Some.c) c.chars.invariant.met
      ∙ sym (letters_push false c.chars.yielded c.in-Some.c);
  met = c.is_met_after-is_met.ensures ∙ ap (λ m. met_after m c.in-Some.c) c.chars.invariant.met
      ∙ sym (met_push false c.chars.yielded c.in-Some.c);
}

pub returns : goal.returns
returns c =
    let text = c.args.text.now in
    let all =
    YieldsList-end (YieldsList-from_chars text c.utf8.text cc) c.chars.yielded _ c.chars.yielded_by _ _
    c.in-None.is c.next.ensures.steps in
    c.chars.invariant.letters ∙ ap (letters_in false) (sym (map-id c.chars.yielded) ∙ all.0) ∙ initials_are text
