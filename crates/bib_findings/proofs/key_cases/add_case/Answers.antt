use Rattle.std.proofs.Common.{◌≡◌, [], ◌∷◌, ◌++◌, List, ℕ, Option, Some, None, ap, append-nil, refl, sym, ◌∙◌}
use Rattle.std.specs.BTreeMap.{get_by_text}
use Rattle.std.specs.Borrow.{Bor}
use Rattle.std.specs.Prelude.{option_map}
use Rattle.std.specs.String.{string_bytes}
use Rattle.std.proofs.lemmas.Map.Text.{btree_map_updates_text}
use Rattle.bib_syntax.specs.Views.{entry_reading_of}
use Rattle.bib_findings.specs.FirstKeys.{lowercase_key}
use Rattle.bib_findings.proofs.KeyFacts.{case_found, case_none, keys_more, keys_same}
use Rattle.bib_findings.proofs.key_cases.add_case.Goals as goal

-- the value that is found under a key is the value of the text that equals the key
found : (value_of : List ℕ → Option (Bor (List ℕ))) (key name : List ℕ) (got is : Option (Bor (List ℕ))) → key ≡ name
    → got ≡ value_of key → got ≡ is → value_of name ≡ is
found value_of key name got is same looked says = sym (ap value_of same) ∙ sym looked ∙ says

abbrev now_of : Bor (List ℕ) → List ℕ
now_of key = key.now

pub returns-in-Some-clause-firsts : goal.returns-in-Some-clause-firsts
returns-in-Some-clause-firsts c = λ earlier are.
    let said = entry_reading_of c.args.said.now in
    keys_same (get_by_text c.args.firsts.now) earlier said c.in-Some.first.now are
    (ap (option_map now_of)
    (found (get_by_text c.args.firsts.now) c.as_str.result.now (lowercase_key said) c.copied.result (Some c.in-Some.first)
    (c.as_str.ensures.value ∙ c.in_ok-lowercase.ensures.ok) (c.copied.ensures ∙ c.get.ensures.value) c.in-Some.is))

pub returns-in-Some-clause-added : goal.returns-in-Some-clause-added
returns-in-Some-clause-added c = λ earlier are.
    let said = entry_reading_of c.args.said.now in
    let old = c.args.found.now.items in
    c.in_ok-push.ensures.items ∙ ap (λ finding. old ++ finding ∷ []) c.in_ok-case_finding.ensures
    ∙ ap (λ l. old ++ l)
    (sym
    (case_found (get_by_text c.args.firsts.now) earlier said c.in-Some.first.now are
    (ap (option_map now_of)
    (found (get_by_text c.args.firsts.now) c.as_str.result.now (lowercase_key said) c.copied.result (Some c.in-Some.first)
    (c.as_str.ensures.value ∙ c.in_ok-lowercase.ensures.ok) (c.copied.ensures ∙ c.get.ensures.value) c.in-Some.is))))

pub returns-clause-firsts : goal.returns-clause-firsts
returns-clause-firsts c = λ earlier are.
    let said = entry_reading_of c.args.said.now in
    let stored = string_bytes c.in_ok-lowercase.lowercase in
    let key = c.args.said.now.v.key.v in
    keys_more (get_by_text c.args.firsts.now) (get_by_text c.insert.new.self) earlier said key stored c.in_ok-lowercase.ensures.ok refl are
    (found (get_by_text c.args.firsts.now) c.as_str.result.now stored c.copied.result None c.as_str.ensures.value
    (c.copied.ensures ∙ c.get.ensures.value) c.in_default.is)
    (btree_map_updates_text stored c.args.firsts.now c.insert.new.self (Some key) c.in_ok-insert.ensures.updates)

pub returns-clause-added : goal.returns-clause-added
returns-clause-added c = λ earlier are.
    let said = entry_reading_of c.args.said.now in
    let old = c.args.found.now.items in
    sym (append-nil old)
    ∙ ap (λ l. old ++ l)
    (sym
    (case_none (get_by_text c.args.firsts.now) earlier said are
    (found (get_by_text c.args.firsts.now) c.as_str.result.now (lowercase_key said) c.copied.result None
    (c.as_str.ensures.value ∙ c.in_ok-lowercase.ensures.ok) (c.copied.ensures ∙ c.get.ensures.value) c.in_default.is)))
