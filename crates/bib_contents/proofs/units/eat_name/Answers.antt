use Rattle.std.proofs.Common.{◌≡◌, ◌∷◌, [], sym}
use Rattle.std.specs.Str.{chars}
use Rattle.bib_contents.specs.Contents.{is_name_character}
use Rattle.bib_contents.specs.Progress.{Passes}
use Rattle.bib_contents.proofs.ArgumentFacts.{passes_text}
use Rattle.bib_contents.proofs.ProgressFacts.{passes_then}
use Rattle.bib_contents.proofs.CommandUnitFacts.{eaten_first, sign_name, other_name, sign_whole, other_whole}
use Rattle.bib_contents.proofs.units.eat_name.Goals as goal
use Rattle.bib_contents.proofs.units.eat_name.Goals.{After-from, After-from-2}

pub eat_while-requires-clause-is_test : goal.eat_while-requires-clause-is_test
eat_while-requires-clause-is_test c = (is_name_character, λ x r post. post)

sign_passed : (c : After-from) → Passes c.args.s.now (c.args.first ∷ []) c.eat.new.self
sign_passed c = eaten_first c.eat.result c.eat.ensures c.requires.is_next.1

sign_text : (c : After-from) → chars c.from.result.now ≡ c.args.first ∷ []
sign_text c = passes_text c.cursor-start.result c.from.result.now (sign_passed c) c.cursor-start.ensures.place c.from.utf8 c.from.ensures

pub returns-then-is_sign-clause-passed : goal.returns-then-is_sign-clause-passed
returns-then-is_sign-clause-passed c = rw (sign_text c) (sign_passed c)

pub returns-then-is_sign-clause-name : goal.returns-then-is_sign-clause-name
returns-then-is_sign-clause-name c =
    rw (sign_text c) (sign_name c.args.first c.requires.is_unescaped c.requires.is_visible (sym c.if-is_sign.ensures))

pub returns-then-is_sign-clause-whole : goal.returns-then-is_sign-clause-whole
returns-then-is_sign-clause-whole c = rw (sign_text c) (sign_whole c.args.first _ (sym c.if-is_sign.ensures))

name_passed : (c : After-from-2) → Passes c.args.s.now (c.args.first ∷ chars c.eat_while.result.now) c.eat_while.new.self
name_passed c = passes_then (eaten_first c.eat.result c.eat.ensures c.requires.is_next.1) c.eat_while.ensures.passed

name_text : (c : After-from-2) → chars c.from-2.result.now ≡ c.args.first ∷ chars c.eat_while.result.now
name_text c =
    passes_text c.cursor-start.result c.from-2.result.now (name_passed c) c.cursor-start.ensures.place c.from-2.utf8
    c.from-2.ensures

pub returns-clause-passed : goal.returns-clause-passed
returns-clause-passed c = rw (name_text c) (name_passed c)

pub returns-clause-name : goal.returns-clause-name
returns-clause-name c =
    let run = c.eat_while.ensures.longest is_name_character (λ x r post. post) in
    rw (name_text c) (other_name c.args.first _ c.requires.is_unescaped c.requires.is_visible (sym c.if-is_sign.ensures) run.0)

pub returns-clause-whole : goal.returns-clause-whole
returns-clause-whole c =
    let run = c.eat_while.ensures.longest is_name_character (λ x r post. post) in
    rw (name_text c) (other_whole c.args.first (chars c.eat_while.result.now) _ (sym c.if-is_sign.ensures) run.1)
