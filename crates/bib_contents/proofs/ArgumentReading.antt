-- Arguments are parsed and written unit by unit.
use Rattle.std.proofs.Common.{◌≡◌, ℕ, zero, suc, ◌+◌, ◌-◌, Bool, true, false, not, ◌&&◌, if◌then◌else◌, List, [], ◌∷◌, ◌++◌, map, replicate, refl, sym, ap, subst, ◌∙◌, append_assoc, append-nil, add-one, arith, inl, inr, Some, None}
use Rattle.std.specs.Prelude.{◌==◌, ◌/◌, ◌%◌, encode_utf8_all}
use Rattle.std.specs.Char.{is_whitespace}
use Rattle.std.specs.List.{list_all}
use Rattle.std.proofs.lemmas.Bool.{cases_Bool, and_parts, and_from, both_ways, not-true, eqb-true, lt-ltb}
use Rattle.bib_chunks.specs.Formatted.{is_break, is_unbroken}
use Rattle.bib_chunks.specs.Styled.{Atom}
use Rattle.bib_chunks.specs.Written.{is_grouping, is_reserved}
use Rattle.bib_contents.specs.Arguments.{IsReadTo, flat_if, argument_written, unit_written}
use Rattle.bib_contents.specs.Commands.{command_text}
use Rattle.bib_contents.specs.ContentErrors.{ContentFails, UnitFails}
use Rattle.bib_contents.specs.ContentErrors.ContentFails.{ended, inside, unopened}
use Rattle.bib_contents.specs.Contents.{Argument, ContentUnit, IsNext, begins, character, dashes, fits, inner_text, is_blank, is_closable, is_empty, is_escapable, is_escaped, is_name, is_name_character, is_ordinary, is_sign, is_space, unit_text}
use Rattle.bib_syntax.specs.declared.raw.Token.TheVariants.{ClosingBrace}
use Rattle.bib_syntax.specs.declared.raw.ParseErrorKind.{ParseErrorKind}
use Rattle.bib_syntax.specs.declared.raw.ParseErrorKind.TheVariants.{UnexpectedEof, Unexpected}
use Rattle.bib_contents.specs.Progress.{Goes}
use Rattle.bib_contents.proofs.EffectFacts.{wrote_more}
use Rattle.bib_contents.proofs.LaidFacts.{IsCapped, IsLed, flowing_plain, plain_append, capped_plain, capped_given, laid_given, alone_plain, led_characters, led_math, is_flat_at, written_append, written_characters, written_math}
use Rattle.bib_contents.proofs.ReaderFacts.{goes_then, goes_unit, goes_run, no_argument}
use Rattle.bib_contents.proofs.TakingFacts.{text_unit}
use Rattle.bib_contents.proofs.UnitFacts.{command_parts}
use Rattle.bib_contents.specs.UnitViews.{text_unit_of}
use Rattle.bib_contents.specs.declared.units.Argument.TheVariants as given_as
use Rattle.bib_contents.specs.declared.units.TextUnit.{TextUnit}
use Rattle.bib_contents.specs.declared.units.TextUnit.TheVariants as shown

-- a line break is white space
break_space : (c : ℕ) → is_break c ≡ true → is_whitespace c ≡ true
break_space c breaks = elim (cases_Bool (c == 10)) [
  | inl feed ↦ rw (eqb-true c 10 feed) refl
  | inr other ↦ rw (eqb-true c 13 (rw other at breaks)) refl
]

-- a character that isn't white space, by the test of std, is no line break
plain_unless : (c : ℕ) → is_whitespace c ≡ false → is_unbroken c ≡ true
plain_unless c other = elim (cases_Bool (is_break c)) [
  | inl breaks ↦ absurd (both_ways (is_whitespace c) other (break_space c breaks))
  | inr plain ↦ rw plain refl
]

-- a line break is no ordinary character
break_special : (c : ℕ) → is_break c ≡ true → is_ordinary false c ≡ false
unfolding is_ordinary is_space is_grouping
break_special c breaks = elim (cases_Bool (c == 10)) [
  | inl feed ↦ rw (eqb-true c 10 feed) refl
  | inr other ↦ rw (eqb-true c 13 (rw other at breaks)) refl
]

-- an ordinary character is no line break
pub ordinary_plain : (c : ℕ) → is_ordinary false c ≡ true → is_unbroken c ≡ true
ordinary_plain c right = elim (cases_Bool (is_break c)) [
  | inl breaks ↦ absurd (both_ways (is_ordinary false c) (break_special c breaks) right)
  | inr plain ↦ rw plain refl
]

pub ordinary_all : (cs : List ℕ) → list_all (is_ordinary false) cs ≡ true → list_all is_unbroken cs ≡ true
ordinary_all [] all = refl
ordinary_all (c ∷ cs) all =
    let parts = and_parts (is_ordinary false c) (list_all (is_ordinary false) cs) all in
    and_from _ _ (ordinary_plain c parts.0) (ordinary_all cs parts.1)

-- a line break is a blank character, so no command begins with it
blank_break : (c : ℕ) → is_break c ≡ true → is_blank c ≡ true
unfolding is_blank
blank_break c breaks = rw (break_space c breaks) refl

first_plain : (c : ℕ) → not (is_blank c) ≡ true → is_unbroken c ≡ true
first_plain c right = elim (cases_Bool (is_break c)) [
  | inl breaks ↦ absurd (both_ways (is_blank c) (not-true (is_blank c) right) (blank_break c breaks))
  | inr plain ↦ rw plain refl
]

character_plain : (c : ℕ) → is_name_character c ≡ true → is_unbroken c ≡ true
unfolding is_name_character
character_plain c right = plain_unless c (not-true (is_whitespace c) (and_parts _ (not (is_whitespace c)) right).1)

characters_plain : (cs : List ℕ) → list_all is_name_character cs ≡ true → list_all is_unbroken cs ≡ true
characters_plain [] all = refl
characters_plain (c ∷ cs) all =
    let parts = and_parts (is_name_character c) (list_all is_name_character cs) all in
    and_from _ _ (character_plain c parts.0) (characters_plain cs parts.1)

tail_plain : (is : Bool) (cs : List ℕ) → (if is then is_empty cs else list_all is_name_character cs) ≡ true → list_all is_unbroken cs ≡ true
tail_plain true [] right = refl
tail_plain true (c ∷ cs) right = absurd (both_ways false refl right)
tail_plain false cs right = characters_plain cs right

-- the name of a command contains no line break
pub name_plain : (name : List ℕ) → is_name name ≡ true → list_all is_unbroken name ≡ true
name_plain [] right = absurd (both_ways false refl right)
name_plain (c ∷ cs) right =
    let parts =
    and_parts (not (is_escaped false c) && not (is_blank c))
    (if is_sign c then is_empty cs else list_all is_name_character cs) right in
    and_from _ _ (first_plain c (and_parts (not (is_escaped false c)) (not (is_blank c)) parts.0).1) (tail_plain (is_sign c) cs parts.1)

-- a line break isn't escaped by a backslash
escaped_break : (c : ℕ) → is_break c ≡ true → is_escaped false c ≡ false
unfolding is_escaped is_escapable is_grouping is_reserved
escaped_break c breaks = elim (cases_Bool (c == 10)) [
  | inl feed ↦ rw (eqb-true c 10 feed) refl
  | inr other ↦ rw (eqb-true c 13 (rw other at breaks)) refl
]

-- an escaped character is no line break
pub escaped_plain : (c : ℕ) → is_escaped false c ≡ true → is_unbroken c ≡ true
escaped_plain c right = elim (cases_Bool (is_break c)) [
  | inl breaks ↦ absurd (both_ways (is_escaped false c) (escaped_break c breaks) right)
  | inr plain ↦ rw plain refl
]

-- a character that isn't white space, by the test of contents, is no line break
pub single_plain : (c : ℕ) → is_space c ≡ false → is_unbroken c ≡ true
unfolding is_space
single_plain c other = plain_unless c other

replicate_plain : (n c : ℕ) → is_unbroken c ≡ true → list_all is_unbroken (replicate n c) ≡ true
replicate_plain zero c plain = refl
replicate_plain (suc n) c plain = and_from _ _ plain (replicate_plain n c plain)

-- dashes contain no line break
pub dashes_plain : (n : ℕ) → list_all is_unbroken (dashes n) ≡ true
dashes_plain n =
    plain_append (replicate (n / 3) 8212) (if n % 3 == 2 then 8211 ∷ [] else if n % 3 == 1 then 45 ∷ [] else [])
    (replicate_plain (n / 3) 8212 refl) (last (n % 3 == 2) (n % 3 == 1))
  where
    last : (two one : Bool) → list_all is_unbroken (if two then 8211 ∷ [] else if one then 45 ∷ [] else []) ≡ true
    last true one = refl
    last false true = refl
    last false false = refl

-- a text without line breaks is the same on one line
pub laid_plain : (is_flat : Bool) (cs : List ℕ) → list_all is_unbroken cs ≡ true → flat_if is_flat cs ≡ cs
laid_plain true cs all = flowing_plain false cs all
laid_plain false cs all = refl

-- on one line, a line break after a backslash becomes a space
laid_copied : (is_flat : Bool) (c : ℕ) → flat_if is_flat (92 ∷ c ∷ []) ≡ 92 ∷ (if is_flat then (if is_break c then 32 else c) else c) ∷ []
laid_copied false c = refl
laid_copied true c = elim (cases_Bool (is_break c)) [
  | inl breaks ↦ rw breaks refl
  | inr plain ↦ rw plain refl
]

-- a unit is written as its text, put on one line if the flag says so, and the text doesn't begin with a line break
pub record IsUnitWritten (is_flat : Bool) (u : ContentUnit) : Type 0 where
  pub laid_is : flat_if is_flat (unit_text u []) ≡ unit_written is_flat u
  pub first : begins is_break (unit_text u []) ≡ false

-- `IsUnitWritten` holds for a unit that is written as its text, if the text has no line break
written_plain : (is_flat : Bool) (u : ContentUnit) → unit_written is_flat u ≡ unit_text u []
    → list_all is_unbroken (unit_text u []) ≡ true → IsUnitWritten is_flat u
written_plain is_flat u same all = record {
  laid_is = laid_plain is_flat (unit_text u []) all ∙ sym same;
  first = (capped_plain (unit_text u []) all).first;
}

-- a unit that fits and has no argument in braces is written as its text, put on one line if the flag says so
pub unit_laid : (is_flat : Bool) (u : ContentUnit) (rest : List ℕ) → fits false u rest ≡ true → inner_text u ≡ None
    → IsUnitWritten is_flat u
unit_laid is_flat (ContentUnit.hyphens n) rest right none = written_plain is_flat (ContentUnit.hyphens n) refl (dashes_plain n)
unit_laid is_flat (ContentUnit.spaces cs) rest right none = written_plain is_flat (ContentUnit.spaces cs) refl refl
unit_laid is_flat ContentUnit.opening rest right none = written_plain is_flat ContentUnit.opening refl refl
unit_laid is_flat ContentUnit.closing rest right none = written_plain is_flat ContentUnit.closing refl refl
unit_laid is_flat (ContentUnit.escaped c) rest right none =
    written_plain is_flat (ContentUnit.escaped c) refl (and_from _ _ (escaped_plain c right) refl)
unit_laid is_flat ContentUnit.backslash rest right none = written_plain is_flat ContentUnit.backslash refl refl
unit_laid is_flat (ContentUnit.copied c) rest right none = record { laid_is = laid_copied is_flat c; first = refl }
unit_laid is_flat (ContentUnit.formula text) rest right none = written_plain is_flat (ContentUnit.formula text) refl refl
unit_laid is_flat (ContentUnit.command name space Argument.without) rest right none =
    written_plain is_flat (ContentUnit.command name space Argument.without) refl
    (alone_plain name (name_plain name (command_parts false name space rest Argument.without right).1))
unit_laid is_flat (ContentUnit.command name space Argument.empty) rest right none =
    let plain = name_plain name (command_parts false name space rest Argument.empty right).1 in
    let capped : IsCapped [] = record { first = refl; last = refl } in
    record {
      laid_is =
          laid_given is_flat name [] plain capped ∙ ap (λ cs. command_text name (Some cs)) (laid_plain is_flat [] refl);
      first = (capped_given name [] plain capped).first;
    }
unit_laid is_flat (ContentUnit.command name space (Argument.single c)) rest right none =
    let parts = command_parts false name space rest (Argument.single c) right in
    let plain = name_plain name parts.1 in
    let one : list_all is_unbroken (c ∷ []) ≡ true = and_from _ _ (single_plain c parts.4) refl in
    record {
      laid_is =
          laid_given is_flat name (c ∷ []) plain (capped_plain (c ∷ []) one)
          ∙ ap (λ cs. command_text name (Some cs)) (laid_plain is_flat (c ∷ []) one);
      first = (capped_given name (c ∷ []) plain (capped_plain (c ∷ []) one)).first;
    }
unit_laid is_flat (ContentUnit.command name space (Argument.braced text)) rest right none = absurd (no_argument (sym none))
unit_laid is_flat (ContentUnit.other c) rest right none =
    written_plain is_flat (ContentUnit.other c) refl (and_from _ _ (ordinary_plain c right) refl)

-- more atoms, which don't begin with a line break, were parsed, and their text was written
pub read_more : {is_flat : Bool} {whole base text rest : List ℕ} {depth after : ℕ} {now more : List ℕ}
    (atoms : List Atom) (cs : List ℕ) → IsReadTo is_flat whole base text depth now
    → Goes false depth text atoms after rest → IsLed atoms → argument_written is_flat atoms ≡ cs
    → more ≡ now ++ encode_utf8_all cs → IsReadTo is_flat whole base rest after more
read_more {is_flat} {whole} {base} {text} {rest} {depth} {after} {now} {more} atoms cs read goes led is grew = record {
  atoms = read.atoms ++ atoms;
  goes = goes_then read.goes goes;
  wrote =
      wrote_more now more (base ++ argument_written is_flat read.atoms) cs read.wrote grew
      ∙ ap encode_utf8_all
      (append_assoc base (argument_written is_flat read.atoms) cs
      ∙ ap (λ xs. base ++ xs)
      (ap (λ xs. argument_written is_flat read.atoms ++ xs) (sym is)
      ∙ sym (written_append is_flat read.atoms atoms led)));
}

-- after a run of ordinary characters, the argument is parsed up to the text after the run
pub read_run : {is_flat : Bool} {whole base text rest : List ℕ} {depth : ℕ} {now more : List ℕ} (run : List ℕ)
    → IsReadTo is_flat whole base text depth now → text ≡ run ++ rest → list_all (is_ordinary false) run ≡ true
    → more ≡ now ++ encode_utf8_all run
    → IsReadTo is_flat whole base rest depth more
read_run {is_flat} {whole} {base} {text} {rest} {depth} run read leading_run all grew =
    let plain = ordinary_all run all in
    read_more (map (character depth) run) run read
    (subst (λ xs. Goes false depth xs (map (character depth) run) depth rest) (sym leading_run)
    (goes_run false depth run rest all)) (led_characters depth run (capped_plain run plain).first)
    (written_characters is_flat depth run ∙ laid_plain (is_flat_at is_flat depth) run plain) grew

-- a unit that is written as characters has no argument in braces
pub no_inner_text : (unit : TextUnit) → inner_text (text_unit_of unit) ≡ None
no_inner_text (shown.Hyphens n) = refl
no_inner_text (shown.Spaces text) = refl
no_inner_text (shown.Escaped c) = refl
no_inner_text shown.Backslash = refl
no_inner_text (shown.Copied c) = refl
no_inner_text (shown.Command name space given_as.Without) = refl
no_inner_text (shown.Command name space given_as.Empty) = refl
no_inner_text (shown.Command name space (given_as.Single c)) = refl
no_inner_text (shown.Other c) = refl

-- a unit without an argument in braces doesn't have one, so anything follows
pub holds_none : (u : ContentUnit) {A : Type 0} (argument : List ℕ) → inner_text u ≡ None → inner_text u ≡ Some argument → A
holds_none u argument none holds = absurd (no_argument (sym none ∙ holds))

-- a unit of text was parsed
pub read_text : {is_flat : Bool} {whole base text rest : List ℕ} {depth : ℕ} {now more : List ℕ} (unit : TextUnit)
    → IsReadTo is_flat whole base text depth now → IsNext false (text_unit_of unit) text rest
    → more ≡ now ++ encode_utf8_all (unit_written (is_flat_at is_flat depth) (text_unit_of unit))
    → IsReadTo is_flat whole base rest depth more
read_text {is_flat} {whole} {base} {text} {rest} {depth} unit read one grew =
    let u = text_unit_of unit in
    let is = text_unit depth unit in
    let wrote = unit_laid (is_flat_at is_flat depth) u rest one.fits (no_inner_text unit) in
    read_more (map (character depth) (unit_text u [])) (unit_written (is_flat_at is_flat depth) u) read
    (subst (λ atoms. Goes false depth text atoms depth rest) (is.means [])
    (goes_unit {inner = []} one is.closable
    (λ argument holds. holds_none (text_unit_of unit) argument (no_inner_text unit) holds) is.deep))
    (led_characters depth (unit_text u []) wrote.first) (written_characters is_flat depth (unit_text u []) ∙ wrote.laid_is) grew

-- math was parsed
pub read_math : {is_flat : Bool} {whole base text rest : List ℕ} {depth : ℕ} {now more : List ℕ} (math : List ℕ)
    → IsReadTo is_flat whole base text depth now → IsNext false (ContentUnit.formula math) text rest
    → more ≡ now ++ encode_utf8_all (36 ∷ (flat_if is_flat math ++ 36 ∷ [])) → IsReadTo is_flat whole base rest depth more
read_math {is_flat} math read one grew =
    read_more (Atom.math math ∷ []) (36 ∷ (flat_if is_flat math ++ 36 ∷ [])) read
    (goes_unit {inner = []} one refl (λ argument holds. absurd (no_argument holds)) refl) (led_math math)
    (written_math is_flat math) grew

-- an empty list of atoms doesn't begin with a line break
led_none : IsLed []
led_none = record { any = λ space. refl; first = refl }

-- an argument without atoms is written as the empty text
pub written_none : (is_flat : Bool) → argument_written is_flat [] ≡ []
written_none true = refl
written_none false = refl

-- an opening brace was parsed
pub read_opening : {is_flat : Bool} {whole base text rest : List ℕ} {depth after : ℕ} {now : List ℕ}
    → IsReadTo is_flat whole base text depth now → IsNext false ContentUnit.opening text rest → after ≡ depth + 1
    → IsReadTo is_flat whole base rest after now
read_opening {is_flat} {depth = depth} read one is =
    read_more [] [] read
    (goes_unit {inner = []} one refl (λ argument holds. absurd (no_argument holds)) (is ∙ add-one depth)) led_none
    (written_none is_flat) (sym (append-nil _))

-- a closing brace was parsed
pub read_closing : {is_flat : Bool} {whole base text rest : List ℕ} {depth after : ℕ} {now : List ℕ}
    → IsReadTo is_flat whole base text depth now → IsNext false ContentUnit.closing text rest → (depth ≡ 0 → ⊥)
    → after ≡ depth - 1 → IsReadTo is_flat whole base rest after now
read_closing {is_flat} {depth = depth} read one some is =
    read_more [] [] read
    (goes_unit {inner = []} one (lt-ltb 0 depth (omega (arith, some)))
    (λ argument holds. absurd (no_argument holds)) is) led_none (written_none is_flat) (sym (append-nil _))

-- an argument fails if its next unit doesn't end
pub fails_on : {is_flat : Bool} {whole base text : List ℕ} {depth : ℕ} {now : List ℕ} {kind : ParseErrorKind}
    → IsReadTo is_flat whole base text depth now → UnitFails false text → kind ≡ UnexpectedEof → ContentFails false 0 whole kind
fails_on read fails is = read.goes.fails _ (rw is (ended fails))

-- it fails if a closing brace has no opening one
pub fails_closing : {is_flat : Bool} {whole base text rest : List ℕ} {depth : ℕ} {now : List ℕ} {kind : ParseErrorKind}
    → IsReadTo is_flat whole base text depth now → IsNext false ContentUnit.closing text rest → depth ≡ 0
    → kind ≡ Unexpected ClosingBrace → ContentFails false 0 whole kind
fails_closing {depth = depth} read one none is =
    let closed : is_closable depth ContentUnit.closing ≡ false = rw none refl in
    read.goes.fails _ (rw is (unopened one closed))

-- it fails if the argument of a command in it does
pub fails_argument : {is_flat : Bool} {whole base text rest : List ℕ} {depth : ℕ} {now name space argument : List ℕ} {kind : ParseErrorKind}
    → IsReadTo is_flat whole base text depth now → IsNext false (ContentUnit.command name space (Argument.braced argument)) text rest
    → ContentFails false 0 argument kind → ContentFails false 0 whole kind
fails_argument read one fails = read.goes.fails _ (inside one refl fails)
