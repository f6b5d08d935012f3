use Rattle.std.proofs.Common.{◌≡◌, ◌≤◌, ◌||◌, ℕ, List, sym, ap, ◌∙◌, subst}
use Rattle.std.specs.Prelude.{string_bytes}
use Rattle.std.specs.BTreeMap.{get_by_text}
use Rattle.std.proofs.lemmas.Map.Text.{btree_map_updates_text}
use Rattle.bib_syntax.specs.Grammar.{is_word}
use Rattle.edit_strings.specs.Collecting.{AreUsedBelow, IsLeastFree, is_plain_name, is_taken}
use Rattle.edit_strings.proofs.LetterFacts.{base_plain}
use Rattle.edit_strings.proofs.NamesFacts.{closed_more, from_known}
use Rattle.edit_strings.proofs.naming.new_name.Goals as goal

pub fresh-requires-clause-plain : goal.fresh-requires-clause-plain
fresh-requires-clause-plain c =
    ap is_plain_name (c.as_str-2.ensures.value ∙ c.in_ok-base.ensures) ∙ base_plain c.args.text.now

pub fresh-requires-clause-some : goal.fresh-requires-clause-some
fresh-requires-clause-some c =
    let base : List ℕ = string_bytes c.in_ok-base.base in
    let from = from_known c.args.taken.now base c.copied.result c.args.numbers.now
    (c.copied.ensures ∙ c.get.ensures.value ∙ ap (get_by_text c.args.numbers.now) c.as_str.ensures.value) c.requires in
    subst (λ n. 1 ≤ n) (sym c.unwrap_or-from.ensures) from.0

pub fresh-requires-clause-used : goal.fresh-requires-clause-used
fresh-requires-clause-used c =
    let base : List ℕ = string_bytes c.in_ok-base.base in
    let from = from_known c.args.taken.now base c.copied.result c.args.numbers.now
    (c.copied.ensures ∙ c.get.ensures.value ∙ ap (get_by_text c.args.numbers.now) c.as_str.ensures.value) c.requires in
    subst (λ b. AreUsedBelow c.args.taken.now b c.unwrap_or-from.result) (sym c.as_str-2.ensures.value)
    (subst (AreUsedBelow c.args.taken.now base) (sym c.unwrap_or-from.ensures) from.1)

pub returns : goal.returns
returns c =
    let base : List ℕ = string_bytes c.in_ok-base.base in
    let free = subst (λ b. IsLeastFree c.args.taken.now b c.in_ok-number.number (string_bytes c.in_ok-number.name))
    c.as_str-2.ensures.value c.in_ok-number.ensures in
    let name : List ℕ = string_bytes c.in_ok-number.name in
    let others : (other : List ℕ) → is_taken c.take.new.self other ≡ (is_word name other || is_taken c.args.taken.now other) =
    λ other. c.in_ok-take.ensures other ∙ ap (λ n. is_word n other || is_taken c.args.taken.now other) c.as_str-3.ensures.value in
    record {
      number = c.in_ok-number.number;
      free = subst (λ b. IsLeastFree c.args.taken.now b c.in_ok-number.number name) c.in_ok-base.ensures free;
      others = others;
      closed =
          closed_more c.args.taken.now c.take.new.self c.args.numbers.now c.insert.new.self name base c.in_ok-number.number others
          (btree_map_updates_text base c.args.numbers.now c.insert.new.self _ c.in_ok-insert.ensures.updates) c.requires free;
    }
