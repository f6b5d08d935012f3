use Rattle.std.proofs.Common.{◌∙◌, ap, map, subst, sym}
use Rattle.std.proofs.lemmas.Result.{IfOk-weaker}
use Rattle.std.specs.String.{string_bytes}
use Rattle.bib_syntax.specs.Views.{entry_reading_of, file_of}
use Rattle.bib_queries.specs.Answers.{lines_of_keys}
use Rattle.bibkit_core.specs.Conditions.{entries_with}
use Rattle.bibkit_core.specs.Selecting.{AreCommonPrinted, AreKeysPrinted, ArePrintedOf}
use Rattle.bibkit_core.proofs.ConditionFacts.{selected_by}
use Rattle.bibkit_core.proofs.selecting.selected_answer.Goals as goal

pub returns-in-Some : goal.returns-in-Some
returns-in-Some c =
    IfOk-weaker c.common_answer.result _ _
    (λ answer are.
    let found = c.args.found in
    let text = c.args.text.now in
    let printed = string_bytes answer.text in
    let keys = map (λ key. key.now) c.in_ok-keys.keys.items in
    let listed =
    subst
    (λ ks.
    AreCommonPrinted (map (λ key. key.now) c.deref-in-Some.result.now) (map (λ key. key.now) ks) text printed answer.has_entry)
    c.deref-in-Some-2.ensures.value are in
    let common =
    subst (λ ws. AreCommonPrinted (map (λ key. key.now) ws) keys text printed answer.has_entry)
    c.deref-in-Some.ensures.value listed in
    record {
      says = file_of found.raw;
      skipped = found.skipped.items;
      recovery = c.requires;
      keys = keys;
      are_selected = selected_by c.in_ok-entries.entries.items c.in_ok-entries.ensures c.in_ok-keys.ensures c.deref.ensures.value
          c.deref-2.ensures.value;
      are_printed = subst (λ wanted. ArePrintedOf wanted keys text printed answer.has_entry) (sym c.in-Some.is) common;
    }) c.common_answer.ensures

pub returns-in-None : goal.returns-in-None
returns-in-None c =
    IfOk-weaker c.keys_answer.result _ _
    (λ answer are.
    let found = c.args.found in
    let text = c.args.text.now in
    let printed = string_bytes answer.text in
    let keys = map (λ key. key.now) c.in_ok-keys.keys.items in
    let listed : AreKeysPrinted keys text printed answer.has_entry = record {
      says = file_of found.raw;
      skipped = found.skipped.items;
      recovery = c.requires;
      is = are.0
          ∙ ap (λ ks. lines_of_keys (entries_with (map (λ key. key.now) ks) (map entry_reading_of found.raw.entries.items)))
          c.deref-in-None.ensures.value;
      found = are.1;
    } in
    record {
      says = file_of found.raw;
      skipped = found.skipped.items;
      recovery = c.requires;
      keys = keys;
      are_selected = selected_by c.in_ok-entries.entries.items c.in_ok-entries.ensures c.in_ok-keys.ensures c.deref.ensures.value
          c.deref-2.ensures.value;
      are_printed = subst (λ wanted. ArePrintedOf wanted keys text printed answer.has_entry) (sym c.in-None.is) listed;
    }) c.keys_answer.ensures
