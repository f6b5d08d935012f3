use Rattle.std.proofs.Common.{◌++◌, ◌∷◌, [], ap, sym, true, ◌∙◌}
use Rattle.std.specs.Prelude.{encode_utf8_all}
use Rattle.std.proofs.lemmas.List.{map-id}
use Rattle.std.proofs.lemmas.Iterator.{YieldsList-from_chars}
use Rattle.std.proofs.lemmas.Iterator.Consumers.{YieldsList-end}
use Rattle.bib_queries.specs.EqualValues.{with_single_spaces}
use Rattle.edit_versions.proofs.WordFacts.{words_char, words_done, words_ended, words_none, words_same, words_space}
use Rattle.edit_versions.proofs.names.words_with_spaces.Goals as goal
use Rattle.edit_versions.proofs.names.words_with_spaces.Goals.{then-not-is_after-2+in_ok-push-3, else-not-is_after-2}

pub text-init : goal.text-init
text-init c = words_none c.new-words.result c.new-words.ensures

pub text-preserved-in_ok-push : goal.text-preserved-in_ok-push
text-preserved-in_ok-push c =
    words_char c.is_ascii_whitespace-is_white.result c.in-Some.c c.text.invariant c.is_ascii_whitespace-is_white.ensures.value
    c.if-not-is_white.true c.in_ok-push.ensures

pub text-preserved-in_ok-push-2 : goal.text-preserved-in_ok-push-2
text-preserved-in_ok-push-2 c =
    words_space c.is_ascii_whitespace-is_white.result c.in-Some.c c.text.invariant c.is_ascii_whitespace-is_white.ensures.value
    c.if-not-is_white.false c.if-not-is_after.true c.in_ok-push-2.ensures

pub text-preserved : goal.text-preserved
text-preserved c =
    words_same c.is_ascii_whitespace-is_white.result c.in-Some.c c.text.invariant c.is_ascii_whitespace-is_white.ensures.value
    c.if-not-is_white.false c.if-not-is_after.false

pub returns : goal.returns
returns c =
    let all =
    YieldsList-end (YieldsList-from_chars c.args.text.now c.utf8.text cc) c.text.yielded _ c.text.yielded_by _ _
    c.in-None.is c.next.ensures.steps in
    elim c.if-not-is_after-2.branch [
      | then-not-is_after-2+in_ok-push-3 w ↦
          w.words-is ∙ words_ended c.text.invariant w.if-not-is_after-2.true w.in_ok-push-3.ensures
          ∙ ap (λ cs. encode_utf8_all (with_single_spaces true (cs ++ 32 ∷ []))) (sym (map-id c.text.yielded) ∙ all.0)
      | else-not-is_after-2 w ↦
          w.words-is ∙ words_done c.text.invariant w.if-not-is_after-2.false
          ∙ ap (λ cs. encode_utf8_all (with_single_spaces true (cs ++ 32 ∷ []))) (sym (map-id c.text.yielded) ∙ all.0)
    ]
