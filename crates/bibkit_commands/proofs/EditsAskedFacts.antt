-- Facts on the edits that arguments make.
use Rattle.std.proofs.Common.{◌≡◌, ◌<◌, ◌∙◌, ◌+◌, ◌∷◌, ℕ, Bor, List, None, Option, Result, Some, add-one, ap, ap₂, arith, cond}
use Rattle.std.proofs.Common.{drop, false, get_or, length, map, refl, subst, sym, true}
use Rattle.std.specs.Prelude.{◌==◌, IfOk, MatchOption, nat_lt, option_map}
use Rattle.std.specs.List.{after_first, before_first, find, position_or_len}
use Rattle.std.proofs.Math.Seq.{drop-cons}
use Rattle.std.proofs.lemmas.Bool.Decides.{nat_tests}
use Rattle.std.specs.declared.alloc.AllocError.{AllocError}
use Rattle.bib_text.proofs.EnumFacts.{IsNoneOf, named_none}
use Rattle.bibkit_commands.specs.Arguments.{Arguments, argument_values}
use Rattle.bibkit_commands.specs.Commands.{EditCommand, editing_command_named, edit_commands}
use Rattle.bibkit_commands.specs.Commands.EditCommand.{add_command}
use Rattle.bibkit_commands.specs.EditsAsked.{AreEditsBy, first_unpaired, is_unpaired, pair_in, word_or}
use Rattle.bibkit_commands.specs.declared.edits.Edits.{Edits}

-- a choice by whether one number is below another
none_if : {A : Type 0} (p l : ℕ) (x : Option A) → p ≡ l → None ≡ cond (nat_lt p l) x None
none_if p l x same = let not_below : nat_lt p l ≡ false = grind (arith, nat_tests) in sym (ap (λ b. cond b x None) not_below)

some_if : {A : Type 0} (p l : ℕ) (x : Option A) → p < l → x ≡ cond (nat_lt p l) x None
some_if p l x below = let is_below : nat_lt p l ≡ true = grind (arith, nat_tests) in sym (ap (λ b. cond b x None) is_below)

-- the texts of a word around its first equals sign
pub pair_cut : (word : List ℕ) (r : Option (Bor (List ℕ) × Bor (List ℕ)))
    → MatchOption r (position_or_len (λ b. b == 61) word ≡ length word)
    (λ x. (x.0.now ≡ before_first (λ b. b == 61) word) × (x.1.now ≡ after_first (λ b. b == 61) word)
    × (position_or_len (λ b. b == 61) word < length word))
    → option_map (λ pair. (pair.0.now, pair.1.now)) r ≡ pair_in word
unfolding pair_in
pair_cut word None cut = none_if (position_or_len (λ b. b == 61) word) (length word) _ cut
pair_cut word (Some x) cut =
    ap₂ (λ before after. Some (before, after)) cut.0 cut.1 ∙ some_if (position_or_len (λ b. b == 61) word) (length word) _ cut.2

-- the edits of a command by its name, and of the command with this name
pub edits_as : (command : EditCommand) (name : List ℕ) (arguments : Arguments) (made : Edits) → editing_command_named name ≡ command
    → AreEditsBy command arguments made → AreEditsBy (editing_command_named name) arguments made
edits_as command name arguments made is asked = subst (λ one. AreEditsBy one arguments made) (sym is) asked

pub edits_by : (command : EditCommand) (name : List ℕ) (arguments : Arguments) (r : Result Edits AllocError)
    → editing_command_named name ≡ command → IfOk r (AreEditsBy command arguments)
    → IfOk r (AreEditsBy (editing_command_named name) arguments)
edits_by command name arguments r is asked = subst (λ one. IfOk r (AreEditsBy one arguments)) (sym is) asked

-- a name that no other command has is that of `add`
pub named_add : (name : List ℕ) → IsNoneOf (map (λ row. row.0) edit_commands) name → editing_command_named name ≡ add_command
unfolding editing_command_named
named_add name none = rw (named_none edit_commands name none) refl

-- the words of one more option, and of those after it
pub unpaired_step : (arguments : Arguments) (options : List (Bor (List ℕ))) (i : ℕ) (d : Bor (List ℕ)) → i < length options
    → first_unpaired arguments (map (λ option. option.now) (drop i options))
    ≡ word_or (get_or options i d).now (find (is_unpaired (get_or options i d).now) (argument_values arguments (get_or options i d).now))
    (first_unpaired arguments (map (λ option. option.now) (drop (i + 1) options)))
unpaired_step arguments options i d below =
    let cut : drop i options ≡ get_or options i d ∷ drop (i + 1) options = rw (add-one, drop-cons options i d) refl in
    ap (λ rest. first_unpaired arguments (map (λ option. option.now) rest)) cut
