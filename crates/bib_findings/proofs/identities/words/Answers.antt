use Rattle.std.proofs.Common.{◌≡◌, ◌+◌, ap, sym, ◌∙◌, length, subst}
use Rattle.std.proofs.lemmas.List.{length_push}
use Rattle.std.proofs.lemmas.Iterator.{YieldsList-from_chars}
use Rattle.std.proofs.lemmas.Iterator.Consumers.{YieldsList-end, YieldsList-turn}
use Rattle.std.specs.Prelude.{IsUtf8, chars, string_bytes}
use Rattle.bib_findings.specs.Words.{ends_before}
use Rattle.bib_findings.proofs.WordFacts.{AreWordsLeft, words_brace, words_last, words_letter, words_space, words_stop, words_stop_last}
use Rattle.bib_findings.proofs.identities.words.Goals.{then-not-ends_before+in_ok-end_word-2, else-not-ends_before}
use Rattle.bib_findings.proofs.identities.words.Goals as goal

pub characters-preserved-then-is_brace : goal.characters-preserved-then-is_brace
characters-preserved-then-is_brace c =
    let turn =
    YieldsList-turn (YieldsList-from_chars c.args.lowercase.now c.utf8.lowercase cc) c.characters.yielded _
    c.characters.yielded_by _ _ c.in-Some.c c.in-Some.is c.next.ensures.steps in
    subst
    (λ n.
    AreWordsLeft c.args.is_first (chars c.args.lowercase.now) n (string_bytes c.characters.text)
    (string_bytes c.characters.word)) (sym (length_push c.characters.yielded c.in-Some.c))
    (words_brace c.args.is_first (chars c.args.lowercase.now) (length c.characters.yielded) c.in-Some.c
    (string_bytes c.characters.text) (string_bytes c.characters.word) c.characters.invariant turn.0 turn.1
    (sym c.is_brace.ensures ∙ c.if-is_brace.true))

pub characters-preserved-then-not-is_whitespace : goal.characters-preserved-then-not-is_whitespace
characters-preserved-then-not-is_whitespace c =
    let turn =
    YieldsList-turn (YieldsList-from_chars c.args.lowercase.now c.utf8.lowercase cc) c.characters.yielded _
    c.characters.yielded_by _ _ c.in-Some.c c.in-Some.is c.next.ensures.steps in
    subst
    (λ n.
    AreWordsLeft c.args.is_first (chars c.args.lowercase.now) n (string_bytes c.characters.text)
    (string_bytes c.push.new.self)) (sym (length_push c.characters.yielded c.in-Some.c))
    (words_letter c.args.is_first (chars c.args.lowercase.now) (length c.characters.yielded) c.in-Some.c
    (string_bytes c.characters.text) (string_bytes c.characters.word) (string_bytes c.push.new.self)
    c.characters.invariant turn.0 turn.1
    (sym c.is_brace.ensures ∙ c.if-is_brace.false) (sym c.is_whitespace.ensures ∙ c.if-not-is_whitespace.true) c.in_ok-push.ensures.bytes)

pub returns-then-ends_before : goal.returns-then-ends_before
returns-then-ends_before c =
    let turn =
    YieldsList-turn (YieldsList-from_chars c.args.lowercase.now c.utf8.lowercase cc) c.characters.yielded _
    c.characters.yielded_by _ _ c.in-Some.c c.in-Some.is c.next.ensures.steps in
    words_stop c.args.is_first (chars c.args.lowercase.now) (length c.characters.yielded) c.in-Some.c
    (string_bytes c.characters.text) (string_bytes c.characters.word) c.characters.invariant turn.0 turn.1
    (sym c.is_brace.ensures ∙ c.if-is_brace.false) (sym c.is_whitespace.ensures ∙ c.if-not-is_whitespace.false)
    (subst IsUtf8 c.deref.ensures c.deref.utf8)
    (ap (ends_before c.args.is_first) (sym c.deref.ensures) ∙ sym c.ends_before.ensures ∙ c.if-ends_before.true)

pub characters-preserved : goal.characters-preserved
characters-preserved c =
    let turn =
    YieldsList-turn (YieldsList-from_chars c.args.lowercase.now c.utf8.lowercase cc) c.characters.yielded _
    c.characters.yielded_by _ _ c.in-Some.c c.in-Some.is c.next.ensures.steps in
    subst
    (λ n.
    AreWordsLeft c.args.is_first (chars c.args.lowercase.now) n (string_bytes c.end_word.new.text)
    (string_bytes c.end_word.new.word)) (sym (length_push c.characters.yielded c.in-Some.c))
    (subst
    (AreWordsLeft c.args.is_first (chars c.args.lowercase.now) (length c.characters.yielded + 1)
    (string_bytes c.end_word.new.text)) (sym c.in_ok-end_word.ensures.none)
    (words_space c.args.is_first (chars c.args.lowercase.now) (length c.characters.yielded) c.in-Some.c
    (string_bytes c.characters.text) (string_bytes c.characters.word) (string_bytes c.end_word.new.text)
    c.characters.invariant turn.0 turn.1
    (sym c.is_brace.ensures ∙ c.if-is_brace.false) (sym c.is_whitespace.ensures ∙ c.if-not-is_whitespace.false)
    (subst IsUtf8 c.deref.ensures c.deref.utf8)
    (ap (ends_before c.args.is_first) (sym c.deref.ensures) ∙ sym c.ends_before.ensures ∙ c.if-ends_before.false)
    c.in_ok-end_word.ensures.text))

pub returns : goal.returns
returns c =
    let end =
    YieldsList-end (YieldsList-from_chars c.args.lowercase.now c.utf8.lowercase cc) c.characters.yielded _
    c.characters.yielded_by _ _ c.in-None.is c.next.ensures.steps in
    let utf8 : IsUtf8 (string_bytes c.characters.word) = subst IsUtf8 c.deref-2.ensures c.deref-2.utf8 in
    let same : ends_before c.args.is_first (string_bytes c.characters.word) ≡ c.ends_before-2.result =
    ap (ends_before c.args.is_first) (sym c.deref-2.ensures) ∙ sym c.ends_before-2.ensures in
    elim c.if-not-ends_before.branch [
      | then-not-ends_before+in_ok-end_word-2 w ↦
          words_last c.args.is_first (chars c.args.lowercase.now) (length c.characters.yielded)
          (string_bytes c.characters.text) (string_bytes c.characters.word) (string_bytes c.if-not-ends_before.text)
          c.characters.invariant end.1 utf8
          (same ∙ w.if-not-ends_before.true) (ap string_bytes w.text-is ∙ w.in_ok-end_word-2.ensures.text)
      | else-not-ends_before w ↦
          ap string_bytes w.text-is
          ∙ words_stop_last c.args.is_first (chars c.args.lowercase.now) (length c.characters.yielded)
          (string_bytes c.characters.text) (string_bytes c.characters.word) c.characters.invariant end.1 utf8
          (same ∙ w.if-not-ends_before.false)
    ]
