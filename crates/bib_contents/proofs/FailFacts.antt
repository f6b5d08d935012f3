-- Contents that fail have no parse, and one kind of error.
use Rattle.std.proofs.Common.{◌≡◌, ℕ, Bool, true, false, not, List, [], ◌∷◌, ◌++◌, refl, sym, ◌∙◌, inl, inr, None, Some, append_assoc}
use Rattle.std.specs.Prelude.{◌==◌}
use Rattle.std.specs.List.{list_all, list_any}
use Rattle.std.proofs.lemmas.Bool.{and_parts, both_ways, or_parts}
use Rattle.bib_chunks.specs.Styled.{Atom}
use Rattle.bib_syntax.specs.declared.raw.ParseErrorKind.{ParseErrorKind}
use Rattle.bib_syntax.specs.declared.raw.ParseErrorKind.TheVariants.{UnexpectedEof}
use Rattle.bib_contents.specs.ContentErrors.{UnitFails, ContentFails}
use Rattle.bib_contents.specs.ContentErrors.UnitFails.{dollar, backslash, brace}
use Rattle.bib_contents.specs.ContentErrors.ContentFails.{unopened, ended, inside, following}
use Rattle.bib_contents.specs.Contents.{Argument, ContentUnit, IsNext, IsUnread, Reads, argument_spelling, balances, inner_text, is_argument, is_closable, is_space, takes_next}
use Rattle.bib_contents.specs.Progress.{IsUntaken}
use Rattle.bib_contents.proofs.ArgumentFacts.{no_formula}
use Rattle.bib_contents.proofs.CommandUnitFacts.{command_none, no_escape}
use Rattle.bib_contents.proofs.ContentFacts.{rest_same, unit_same}
use Rattle.bib_contents.proofs.ReaderFacts.{ReadSoFar, no_argument, no_unit, unit_back}

-- a text without dollar signs, stated by two tests
without_dollars : (text : List ℕ) → list_any (λ c. c == 36) text ≡ false → list_all (λ c. not (c == 36)) text ≡ true
without_dollars [] none = refl
without_dollars (c ∷ cs) none =
    let parts = or_parts (c == 36) (list_any (λ c. c == 36) cs) none in
    rw parts.0 (without_dollars cs parts.1)

-- an opening brace isn't white space
no_space : is_space 123 ≡ false
unfolding is_space
no_space = refl

-- a command whose argument isn't closed has no argument
unclosed : (text : List ℕ) (takes : Bool) → ((inside rest : List ℕ) → text ≡ inside ++ 125 ∷ rest → balances 0 inside ≡ true → ⊥)
    → (a : Argument) (rest : List ℕ) → 123 ∷ text ≡ argument_spelling a ++ rest → is_argument takes false a rest ≡ true → ⊥
unclosed text takes none Argument.without rest spells right = both_ways false refl (rw (sym spells) at right)
unclosed text takes none Argument.empty rest spells right = both_ways false refl (and_parts takes false (rw (sym spells) at right)).1
unclosed text takes none (Argument.single c) rest spells right =
    let same : c ≡ 123 = cc in
    both_ways false refl (and_parts takes false (rw same at right)).1
unclosed text takes none (Argument.braced within) rest spells right =
    let same : text ≡ (within ++ 125 ∷ []) ++ rest = cc in
    none within rest (same ∙ append_assoc within (125 ∷ []) rest) (and_parts true (balances 0 within) right).1

-- a text whose first unit fails begins with no unit
pub no_unit_fails : {is_verbatim : Bool} {text : List ℕ} → UnitFails is_verbatim text → (u : ContentUnit) (rest : List ℕ)
    → IsNext is_verbatim u text rest → ⊥
no_unit_fails (dollar {text = text} none) u rest one = no_formula text (without_dollars text none) u rest one
no_unit_fails backslash u rest one = no_escape [] false refl refl u rest one
no_unit_fails (brace name text named whole none) u rest one =
    let takes = takes_next name [] in
    let after = 123 ∷ text in
    command_none (name ++ after) name after [] after takes false refl named whole refl refl no_space refl refl
    (unclosed text takes none) u rest one

-- a text whose first unit fails isn't empty
some_fails : {is_verbatim : Bool} {text : List ℕ} → UnitFails is_verbatim text → text ≡ [] → ⊥
some_fails (dollar none) nothing = cc
some_fails backslash nothing = cc
some_fails (brace name text named whole none) nothing = cc

-- contents that fail have no parse
pub fails_stuck : {is_verbatim : Bool} {depth : ℕ} {text : List ℕ} {kind : ParseErrorKind} → ContentFails is_verbatim depth text kind
    → (atoms : List Atom) → Reads is_verbatim depth text atoms → ⊥
fails_stuck (unopened {depth = depth} {u = u} one closed) atoms read = both_ways (is_closable depth u) closed (unit_back one read).0
fails_stuck (ended fails) atoms read = no_unit (some_fails fails) (no_unit_fails fails) read
fails_stuck (inside {argument = argument} one holds fails) atoms read =
    let within = (unit_back one read).1 argument holds in
    fails_stuck fails within.0 within.1
fails_stuck (following one closable argument fails) atoms read =
    let more = (unit_back one read).2 in
    fails_stuck fails more.0 more.1

-- the kind of an error of contents is one that `IsUnread` allows
pub fails_kind : {is_verbatim : Bool} {depth : ℕ} {text : List ℕ} {kind : ParseErrorKind} → ContentFails is_verbatim depth text kind
    → IsUnread kind
fails_kind (unopened one closed) = inr refl
fails_kind (ended fails) = inl refl
fails_kind (inside one holds fails) = fails_kind fails
fails_kind (following one closable argument fails) = fails_kind fails

-- a text fails if its next unit doesn't end
pub fails_unit : {is_verbatim : Bool} {whole text : List ℕ} {start now : List Atom} {depth : ℕ} {kind : ParseErrorKind}
    → ReadSoFar is_verbatim whole start text depth now → UnitFails is_verbatim text → kind ≡ UnexpectedEof
    → ContentFails is_verbatim 0 whole kind
fails_unit read fails is = read.goes.fails _ (rw is (ended fails))

-- a text fails if its next unit does
pub fails_here : {is_verbatim : Bool} {depth : ℕ} {u : ContentUnit} {text rest : List ℕ} {kind : ParseErrorKind}
    → IsNext is_verbatim u text rest → IsUntaken u depth kind → ContentFails is_verbatim depth text kind
fails_here one (inl closed) = rw (closed.1) (unopened one closed.0)
fails_here one (inr within) = inside one within.1 within.2

-- if a unit fails after a part of a text was parsed, the text fails with the same kind
pub fails_taken : {is_verbatim : Bool} {whole text rest : List ℕ} {u : ContentUnit} {start now : List Atom} {depth : ℕ}
    {kind : ParseErrorKind}
    → ReadSoFar is_verbatim whole start text depth now → IsNext is_verbatim u text rest → IsUntaken u depth kind
    → ContentFails is_verbatim 0 whole kind
fails_taken read one untaken = read.goes.fails _ (fails_here one untaken)

-- a closing brace has no argument
closed_none : (depth : ℕ) (u : ContentUnit) → is_closable depth u ≡ false → inner_text u ≡ None
closed_none depth ContentUnit.closing closed = refl
closed_none depth _ closed = absurd (both_ways true closed refl)

-- a closing brace that has no opening one has no argument
closed_holds : (depth : ℕ) (u : ContentUnit) (argument : List ℕ) → is_closable depth u ≡ false → inner_text u ≡ Some argument → ⊥
closed_holds depth u argument closed holds = no_argument (sym (closed_none depth u closed) ∙ holds)

-- contents that fail have one kind of error
pub kind_same : {is_verbatim : Bool} {depth : ℕ} {text : List ℕ} {first second : ParseErrorKind}
    → ContentFails is_verbatim depth text first → ContentFails is_verbatim depth text second → first ≡ second
kind_same (unopened one closed) (unopened two closed') = refl
kind_same (unopened one closed) (ended fails) = absurd (no_unit_fails fails _ _ one)
kind_same (unopened {depth = depth} {u = u} one closed) (inside {argument = argument} two holds fails) =
    absurd (closed_holds depth u argument closed (rw (unit_same one two) holds))
kind_same (unopened {depth = depth} {u = u} one closed) (following two closable argument fails) =
    absurd (both_ways (is_closable depth u) closed (rw (unit_same one two) closable))
kind_same (ended fails) (unopened one closed) = absurd (no_unit_fails fails _ _ one)
kind_same (ended fails) (ended fails') = refl
kind_same (ended fails) (inside one holds fails') = absurd (no_unit_fails fails _ _ one)
kind_same (ended fails) (following one closable argument fails') = absurd (no_unit_fails fails _ _ one)
kind_same (inside {argument = argument} two holds fails) (unopened {depth = depth} {u = u} one closed) =
    absurd (closed_holds depth u argument closed (rw (unit_same one two) holds))
kind_same (inside one holds fails) (ended fails') = absurd (no_unit_fails fails' _ _ one)
kind_same (inside {u = u} {argument = argument} one holds fails) (inside {argument = argument'} {kind = kind} two holds' fails') =
    let held_same : Some argument ≡ Some argument' = sym holds ∙ (rw (unit_same one two) holds') in
    let same : argument' ≡ argument = cc in
    kind_same fails (rw same at fails')
kind_same (inside {argument = argument} one holds fails) (following two closable reads fails') =
    let within = reads argument (rw (unit_same two one) holds) in
    absurd (fails_stuck fails within.0 within.1)
kind_same (following two closable argument fails) (unopened {depth = depth} {u = u} one closed) =
    absurd (both_ways (is_closable depth u) closed (rw (unit_same one two) closable))
kind_same (following one closable argument fails) (ended fails') = absurd (no_unit_fails fails' _ _ one)
kind_same (following two closable reads fails) (inside {argument = argument} one holds fails') =
    let within = reads argument (rw (unit_same two one) holds) in
    absurd (fails_stuck fails' within.0 within.1)
kind_same (following {u = u} {rest = rest} one closable within fails) (following {u = w} {rest = left} two closable' within' fails') =
    let same : u ≡ w = unit_same one two in
    let tail : rest ≡ left = rest_same one two in
    kind_same fails (rw (same, tail) fails')
