-- Facts about settled texts.
use Rattle.std.proofs.Common.{◌≡◌, ℕ, Bool, true, false, not, List, [], ◌∷◌, ◌++◌, refl, sym, ap, ◌∙◌, subst, Option, Some, None, MatchOption, MatchBool}
use Rattle.std.specs.Prelude.{◌↔◌, ◌==◌, is_some}
use Rattle.std.specs.List.{list_any, list_all, AllByRecursion}
use Rattle.std.specs.Str.{chars, IsUtf8}
use Rattle.std.proofs.lemmas.Bool.{and_parts, not-true, not-false, or_left}
use Rattle.std.proofs.lemmas.Str.{encodes-chars}
use Rattle.bib_chunks.specs.declared.chunk.Chunk.{Chunk}
use Rattle.bib_chunks.specs.declared.chunk.Chunk.TheVariants.{Normal as NormalChunk, Verbatim as VerbatimChunk, Math as MathChunk}
use Rattle.bib_chunks.specs.declared.settling.Before.{Before}
use Rattle.bib_chunks.specs.declared.settling.Before.TheVariants.{Nothing, Normal, Verbatim}
use Rattle.bib_text.specs.Braces.{IsParts}
use Rattle.bib_text.specs.Places.{Place, CharAt, Longest, AtEnd}
use Rattle.bib_chunks.specs.Styled.{Atom, atoms_of}
use Rattle.bib_chunks.specs.Settled.{IsSettledAtom, runs_together, AreApart, IsSettled}
use Rattle.bib_chunks.specs.Settling.{character_atom, text_atoms, neighbour, runs_into, MayFollow, AreSettledAfter, Continues, ContinuesIn, IsUnsettledAfter, IsStuckIn, IsSettledMath}
use Rattle.bib_text.proofs.TextFacts.{ahead, MovesPast, passed_char, passed_run, chars_at_end}

-- a character that is settled in a verbatim field is settled in every field
settled_anywhere : (v b : Bool) (c : ℕ) → IsSettledAtom true (character_atom b c) → IsSettledAtom v (character_atom b c)
settled_anywhere v true c settled = settled
settled_anywhere v false c settled = settled

-- a character that is settled in some field is settled in a verbatim field
settled_somewhere : (v b : Bool) (c : ℕ) → IsSettledAtom v (character_atom b c) → IsSettledAtom true (character_atom b c)
settled_somewhere v true c settled = settled
settled_somewhere v false c settled = settled

-- a step of the loop: a character was consumed that may occur there
pub settled_step : (b : Bool) (before last : Before) (c : ℕ) (all cs : List ℕ) → MayFollow last (character_atom b c)
    → Continues before (text_atoms b all) last (text_atoms b (c ∷ cs))
    → Continues before (text_atoms b all) (neighbour (character_atom b c)) (text_atoms b cs)
settled_step b before last c all cs may so_far v rest = (
  λ settled. ((so_far v rest).0 settled).2,
  λ settled. (so_far v rest).1 (settled_anywhere v b c may.0, may.1, settled),
)

-- if a character of a text may not occur at its place, no text that begins with this text is settled
pub settled_stuck : (b : Bool) (before last : Before) (c : ℕ) (all cs : List ℕ)
    → (MayFollow last (character_atom b c) → ⊥) → Continues before (text_atoms b all) last (text_atoms b (c ∷ cs))
    → IsUnsettledAfter before (text_atoms b all)
settled_stuck b before last c all cs may_not so_far v rest settled =
    let here = (so_far v rest).0 settled in
    may_not (settled_somewhere v b c here.0, here.1)

-- a run without dollar signs before a text doesn't change whether there is one
no_dollar : (cs rest : List ℕ) → list_all (λ c. not (c == 36)) cs ≡ true
    → list_any (λ c. c == 36) (cs ++ rest) ≡ list_any (λ c. c == 36) rest
no_dollar [] rest all = refl
no_dollar (c ∷ cs) rest all =
    let parts = and_parts (not (c == 36)) (list_all (λ d. not (d == 36)) cs) all in
    rw (not-true (c == 36) parts.0) (no_dollar cs rest parts.1)

-- in UTF-8 text, the characters ahead contain a dollar sign exactly if the longest run without one doesn't end at the end of the text
pub dollar_found : {u w : Place} (x : Place) (r : Option ℕ) (found : Bool) → Longest (λ c. not (c == 36)) u w
    → IsUtf8 (ahead u) → MatchOption r (AtEnd w × (x ≡ w)) (λ c. CharAt w c x) → found ≡ is_some r
    → found ≡ list_any (λ c. c == 36) (chars (ahead u))
dollar_found {u} {w} x None found longest utf8 end decides =
    let (cs, passed, all) = passed_run longest.run utf8 in
    decides ∙ sym (ap (list_any (λ c. c == 36)) (passed.spelt ∙ ap (λ xs. cs ++ xs) (chars_at_end w end.0)) ∙ no_dollar cs [] all)
dollar_found {u} {w} x (Some c) found longest utf8 char decides =
    let (cs, passed, all) = passed_run longest.run utf8 in
    let one : MovesPast w (c ∷ []) x = passed_char char passed.utf8 in
    let stops : (c == 36) ≡ true = not-false (c == 36) (longest.stops c x char) in
    let here : list_any (λ d. d == 36) (c ∷ chars (ahead x)) ≡ true = or_left (c == 36) _ stops in
    decides
    ∙ sym
    (ap (list_any (λ d. d == 36)) passed.spelt ∙ no_dollar cs (chars (ahead w)) all
    ∙ ap (list_any (λ d. d == 36)) one.spelt ∙ here)

-- `runs_into` and `runs_together` agree on two neighbouring atoms
same_runs : (a b : Atom) → runs_into (neighbour a) b ≡ runs_together a b
same_runs (Atom.normal c) (Atom.normal d) = refl
same_runs (Atom.normal c) (Atom.verbatim d) = refl
same_runs (Atom.normal c) (Atom.math d) = refl
same_runs (Atom.verbatim c) (Atom.normal d) = refl
same_runs (Atom.verbatim c) (Atom.verbatim d) = refl
same_runs (Atom.verbatim c) (Atom.math d) = refl
same_runs (Atom.math c) (Atom.normal d) = refl
same_runs (Atom.math c) (Atom.verbatim d) = refl
same_runs (Atom.math c) (Atom.math d) = refl

-- a settled text is settled after `before` if the parser doesn't merge its first atom with `before`
after_from : (v : Bool) (before : Before) (a : Atom) (rest : List Atom) → AllByRecursion (IsSettledAtom v) (a ∷ rest)
    → AreApart (a ∷ rest) → runs_into before a ≡ false → AreSettledAfter v before (a ∷ rest)
after_from v before a [] each apart free = (each.0, free, tt)
after_from v before a (b ∷ rest) each apart free =
    (each.0, free, after_from v (neighbour a) b rest each.1 apart.1 (same_runs a b ∙ apart.0))

-- each atom of a text that is settled after `before` may occur in settled text
each_from : (v : Bool) (before : Before) (atoms : List Atom) → AreSettledAfter v before atoms → AllByRecursion (IsSettledAtom v) atoms
each_from v before [] settled = tt
each_from v before (a ∷ rest) settled = (settled.0, each_from v (neighbour a) rest settled.2)

-- the parser merges no two neighbours of a text that is settled after `before`
apart_from : (v : Bool) (before : Before) (atoms : List Atom) → AreSettledAfter v before atoms → AreApart atoms
apart_from v before [] settled = tt
apart_from v before (a ∷ []) settled = tt
apart_from v before (a ∷ b ∷ rest) settled = (sym (same_runs a b) ∙ settled.2.1, apart_from v (neighbour a) (b ∷ rest) settled.2)

-- a text is settled if and only if its atoms are settled after `Nothing`
pub settled_whole : (v : Bool) (atoms : List Atom) → IsSettled atoms v ↔ AreSettledAfter v Nothing atoms
settled_whole v [] = (λ s. tt, λ s. record { each = tt; apart = tt })
settled_whole v (a ∷ rest) = (
  λ s. after_from v Nothing a rest s.each s.apart refl,
  λ s. record { each = each_from v Nothing (a ∷ rest) s; apart = apart_from v Nothing (a ∷ rest) s },
)

-- the text ends
pub settled_end : (b : Bool) (before last : Before) (all cs : List ℕ) → cs ≡ []
    → Continues before (text_atoms b all) last (text_atoms b cs) → Continues before (text_atoms b all) last []
settled_end b before last all cs nothing so_far = rw nothing at so_far

-- the result for the text of a chunk is the result for its atoms
chunk_of_text : (b v : Bool) (before : Before) (r : Option Before) (atoms : List Atom) (cs : List ℕ)
    → atoms ≡ text_atoms b cs
    → MatchOption r (IsUnsettledAfter before (text_atoms b cs)) (λ after. Continues before (text_atoms b cs) after [])
    → MatchOption r (IsStuckIn v before atoms) (λ after. ContinuesIn v before atoms after [])
chunk_of_text b v before None atoms cs is stuck = rw is (stuck v)
chunk_of_text b v before (Some after) atoms cs is on = rw is (on v)

-- the result for the text of a normal chunk is the result for the chunk
pub chunk_of_normal : (v : Bool) (before : Before) (r : Option Before) (chunk : Chunk) (text bytes : List ℕ)
    → chunk ≡ NormalChunk text → bytes ≡ text
    → MatchOption r (IsUnsettledAfter before (text_atoms false (chars bytes)))
    (λ after. Continues before (text_atoms false (chars bytes)) after [])
    → MatchOption r (IsStuckIn v before (atoms_of chunk)) (λ after. ContinuesIn v before (atoms_of chunk) after [])
chunk_of_normal v before r chunk text bytes is same =
    chunk_of_text false v before r (atoms_of chunk) (chars bytes)
    (ap atoms_of is ∙ ap (λ t. text_atoms false (chars t)) (sym same))

-- the result for the text of a verbatim chunk is the result for the chunk
pub chunk_of_verbatim : (v : Bool) (before : Before) (r : Option Before) (chunk : Chunk) (text bytes : List ℕ)
    → chunk ≡ VerbatimChunk text → bytes ≡ text
    → MatchOption r (IsUnsettledAfter before (text_atoms true (chars bytes)))
    (λ after. Continues before (text_atoms true (chars bytes)) after [])
    → MatchOption r (IsStuckIn v before (atoms_of chunk)) (λ after. ContinuesIn v before (atoms_of chunk) after [])
chunk_of_verbatim v before r chunk text bytes is same =
    chunk_of_text true v before r (atoms_of chunk) (chars bytes)
    (ap atoms_of is ∙ ap (λ t. text_atoms true (chars t)) (sym same))

-- the parser merges math with no atom before it
runs_into_math : (before : Before) (text : List ℕ) → runs_into before (Atom.math text) ≡ false
runs_into_math Nothing text = refl
runs_into_math (Normal c) text = refl
runs_into_math (Verbatim c) text = refl

math_atoms : (chunk : Chunk) (text bytes : List ℕ) → chunk ≡ MathChunk text → bytes ≡ text → atoms_of chunk ≡ Atom.math (chars bytes) ∷ []
math_atoms chunk text bytes is same = ap atoms_of is ∙ ap (λ t. Atom.math (chars t) ∷ []) (sym same)

-- no text that begins with the math of this chunk, which is UTF-8, is settled if the math isn't
pub math_stuck : (v : Bool) (before : Before) (chunk : Chunk) (text bytes : List ℕ) → chunk ≡ MathChunk text
    → bytes ≡ text → IsUtf8 bytes → (IsSettledMath bytes → ⊥) → IsStuckIn v before (atoms_of chunk)
math_stuck v before chunk text bytes is same utf8 unsettled =
    rw (math_atoms chunk text bytes is same) (λ rest s. unsettled (s.0.1, subst IsParts (encodes-chars bytes utf8) s.0.2))

-- without a dollar sign, a math text is settled exactly if its unescaped braces balance and no unescaped backslash ends it (`IsParts`)
pub math_by_parts : (text : List ℕ) (parts : Bool) → list_any (λ c. c == 36) (chars text) ≡ false
    → MatchBool parts (IsParts text) (IsParts text → ⊥) → MatchBool parts (IsSettledMath text) (IsSettledMath text → ⊥)
math_by_parts text true none is = (none, is)
math_by_parts text false none is = λ settled. is settled.1

-- outside verbatim fields, settled math in UTF-8 and the atoms after it are settled exactly if these atoms are settled after `Nothing`
pub math_on : (v : Bool) (before : Before) (chunk : Chunk) (text bytes : List ℕ) → chunk ≡ MathChunk text → bytes ≡ text
    → IsUtf8 bytes → v ≡ false → IsSettledMath bytes → ContinuesIn v before (atoms_of chunk) Nothing []
math_on v before chunk text bytes is same utf8 normal settled =
    rw (math_atoms chunk text bytes is same)
    (λ rest. (
      λ s. s.2,
      λ s. (
        (normal, settled.0, subst IsParts (sym (encodes-chars bytes utf8)) settled.1),
        runs_into_math before (chars bytes),
        s,
      ),
    ))
