use Rattle.std.proofs.Common.{◌≡◌, ◌∙◌, ◌||◌, ◌++◌, Some, None, false, map, take, sym, ap, subst, arith}
use Rattle.std.specs.BTreeSet.{contains_text}
use Rattle.std.proofs.lemmas.List.{length-map, take-map}
use Rattle.std.specs.Option.{option_map}
use Rattle.bib_text.proofs.ListFacts.{some_same}
use Rattle.bib_syntax.specs.Grammar.{is_word}
use Rattle.bib_syntax.specs.Views.{entry_reading_of}
use Rattle.edit_entries.specs.NameSets.{holds_name}
use Rattle.edit_entries.specs.NewKeys.{key_for}
use Rattle.edit_entries.specs.NewNames.{has_word, new_keys, staying_names}
use Rattle.edit_entries.proofs.PositionFacts.{slice_get-map}
use Rattle.edit_entries.proofs.TakenFacts.{key_more, keys_more, no_key_more, none_taken}
use Rattle.edit_entries.proofs.taken.is_new_key_taken.Goals as goal
use Rattle.edit_entries.proofs.taken.is_new_key_taken.Goals.{in-Some+in_ok-insert_key+else-branch, in_default}

pub returns-then-branch : goal.returns-then-branch
returns-then-branch c =
    let keys = key_for c.args.keys.now in
    let staying = staying_names keys 0 (map entry_reading_of c.args.entries.now) in
    let i = c.entries.index in
    record {
      index = i;
      entry = entry_reading_of c.index-entries-index.result;
      new = c.in-Some.key.now;
      here = slice_get-map entry_reading_of c.args.entries.now i c.index-entries-index.result
          c.entries-test.true c.index-entries-index.is;
      gets = sym c.at.ensures ∙ ap (option_map (λ k. k.now)) c.in-Some.is;
      taken =
          ap (λ es. has_word (staying ++ new_keys keys 0 es) c.in-Some.key.now) (take-map entry_reading_of i c.args.entries.now)
          ∙ sym (c.entries.invariant.0 c.in-Some.key.now) ∙ sym c.in_ok-insert_key.ensures.taken ∙ c.if-branch.true;
    }

pub entries-preserved : goal.entries-preserved
entries-preserved c =
    let keys = key_for c.args.keys.now in
    let entries = map entry_reading_of c.args.entries.now in
    let staying = staying_names keys 0 entries in
    let i = c.entries.index in
    let entry = c.index-entries-index.result in
    let before = c.entries.invariant in
    let taken_before = take-map entry_reading_of i c.args.entries.now in
    elim c.match-at.branch [
      | in-Some+in_ok-insert_key+else-branch w ↦
          let key = w.in-Some.key.now in
          let gets : keys i ≡ Some key = sym c.at.ensures ∙ ap (option_map (λ k. k.now)) w.in-Some.is in
          let free : has_word (staying ++ new_keys keys 0 (take i entries)) key ≡ false =
          ap (λ es. has_word (staying ++ new_keys keys 0 es) key) taken_before
          ∙ sym (before.0 key) ∙ sym w.in_ok-insert_key.ensures.taken ∙ w.if-branch.false in (
            λ name.
                ap (λ s. holds_name (contains_text s) name) w.set-is ∙ w.in_ok-insert_key.ensures.inserted name
                ∙ ap (λ b. is_word key name || b) (before.0 name)
                ∙ sym
                (key_more entry_reading_of keys c.args.entries.now i entry c.entries-test.true c.index-entries-index.is staying key
                gets name),
            keys_more (λ k new. has_word (staying ++ new_keys keys 0 (take k entries)) new ≡ false) keys i before.1
                (λ new own.
                subst (λ n. has_word (staying ++ new_keys keys 0 (take i entries)) n ≡ false) (some_same (sym gets ∙ own)) free),
          )
      | in_default w ↦
          let none : keys i ≡ None = sym c.at.ensures ∙ ap (option_map (λ k. k.now)) w.in_default.is in (
            λ name.
                ap (λ s. holds_name (contains_text s) name) w.set-is ∙ before.0 name
                ∙ ap (λ l. has_word (staying ++ l) name)
                (sym (no_key_more entry_reading_of keys c.args.entries.now i entry c.entries-test.true c.index-entries-index.is none)),
            keys_more (λ k new. has_word (staying ++ new_keys keys 0 (take k entries)) new ≡ false) keys i before.1
                (λ new own. absurd (let clash : None ≡ Some new = sym none ∙ own in cc)),
          )
    ]

pub returns : goal.returns
returns c =
    none_taken (map entry_reading_of c.args.entries.now) (key_for c.args.keys.now)
    (λ k new below gets.
    c.entries.invariant.1 k new (omega (arith, below, length-map c.args.entries.now entry_reading_of)) gets)
