-- Facts on the requests that arguments make.
use Rattle.std.proofs.Common.{Bor, ◌≡◌, ◌++◌, ◌∙◌, ℕ, List, None, Ok, Err, Option, Result, Some, ap, map, sym}
use Rattle.std.specs.Prelude.{IfOk, option_map}
use Rattle.std.specs.List.{find}
use Rattle.std.specs.Option.{option_or}
use Rattle.std.specs.declared.alloc.AllocError.{AllocError}
use Rattle.std.proofs.lemmas.List.Folds.{find-append}
use Rattle.bibkit_commands.specs.Asked.{is_no_rule}

-- the first of some words that is no rule is also the first one if other words follow
pub wrong_first : (words more : List (List ℕ)) (word : List ℕ) → Some word ≡ find is_no_rule words
    → Some word ≡ find is_no_rule (words ++ more)
wrong_first words more word is =
    ap (λ o. option_or o (find is_no_rule more)) is ∙ sym (find-append is_no_rule words more)

-- if all of some words are rules, the first word that is none is among those that follow
pub wrong_second : (words more : List (List ℕ)) (word : Option (List ℕ)) → None ≡ find is_no_rule words → word ≡ find is_no_rule more
    → word ≡ find is_no_rule (words ++ more)
wrong_second words more word none is =
    is ∙ ap (λ o. option_or o (find is_no_rule more)) none ∙ sym (find-append is_no_rule words more)

pub wrong_rest : (words more : List (List ℕ)) (given : List (Bor (List ℕ))) (r : Result (Option (Bor (List ℕ))) AllocError)
    → None ≡ find is_no_rule words → map (λ word. word.now) given ≡ more
    → IfOk r (λ word. option_map (λ word. word.now) word ≡ find is_no_rule (map (λ word. word.now) given))
    → IfOk r (λ word. option_map (λ word. word.now) word ≡ find is_no_rule (words ++ more))
wrong_rest words more given (Ok word) none same is =
    wrong_second words more (option_map (λ word. word.now) word) none (is ∙ ap (find is_no_rule) same)
wrong_rest words more given (Err e) none same is = is
