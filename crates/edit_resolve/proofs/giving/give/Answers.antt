use Rattle.std.proofs.Common.{◌≡◌, ◌∙◌, Bool, ap, sym, Some}
use Rattle.std.specs.String.{string_bytes}
use Rattle.std.proofs.lemmas.Map.Text.{btree_map_updates_text}
use Rattle.edit_resolve.specs.Inheritance.{passes_on, read_name}
use Rattle.edit_resolve.specs.Working.{named_of}
use Rattle.edit_resolve.proofs.GivenFacts.{name_added, name_kept, passed_on, passed_over}
use Rattle.edit_resolve.proofs.giving.give.Goals as goal
use Rattle.edit_resolve.proofs.giving.give.Goals.{then-not-passes_on-via-then-not-passes_on, then-not-passes_on-via-else-not-passes_on+then-contains_key}

pub returns-then-not-passes_on : goal.returns-then-not-passes_on
returns-then-not-passes_on c =
    let given = c.args.given.now in
    let n = named_of c.args.named in
    let low = string_bytes c.in_ok-name.name in
    let passes : Bool = passes_on (read_name n.name) in
    let known : passes ≡ c.passes_on.result = ap passes_on (sym (c.deref.ensures ∙ c.in_ok-name.ensures)) ∙ sym c.passes_on.ensures in
    elim c.then-not-passes_on.branch [
      | then-not-passes_on-via-then-not-passes_on w ↦ passed_over given n passes (known ∙ w.if-not-passes_on.true)
      | then-not-passes_on-via-else-not-passes_on+then-contains_key w ↦
          passed_on given given n passes (known ∙ w.if-not-passes_on.false)
          (name_kept given n low c.in_ok-name.ensures (sym w.contains_key.ensures ∙ w.if-contains_key.true))
    ]

pub returns : goal.returns
returns c =
    let old = c.args.given.now in
    let n = named_of c.args.named in
    let low = string_bytes c.in_ok-name.name in
    let known : passes_on (read_name n.name) ≡ c.passes_on.result =
    ap passes_on (sym (c.deref.ensures ∙ c.in_ok-name.ensures)) ∙ sym c.passes_on.ensures in
    passed_on old c.insert.new.self n (passes_on (read_name n.name)) (known ∙ c.if-not-passes_on.false)
    (name_added old c.insert.new.self c.args.named low c.in_ok-name.ensures (sym c.contains_key.ensures ∙ c.if-contains_key.false)
    (btree_map_updates_text low old c.insert.new.self (Some c.args.named) c.in_ok-insert.ensures.updates))
