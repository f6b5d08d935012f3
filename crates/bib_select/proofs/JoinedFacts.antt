-- The segments between words are the parts that the words join.
use Rattle.std.proofs.Common.{◌≡◌, ℕ, Bool, true, false, List, [], ◌∷◌, ◌++◌, refl, sym, ap, subst, ◌∙◌, append_assoc}
use Rattle.std.specs.Prelude.{codes, Result, Ok, if◌then◌else◌, ◌↔◌, ◌||◌}
use Rattle.std.specs.List.{list_any}
use Rattle.std.proofs.lemmas.Bool.{cond-true, cond-false, or_parts}
use Rattle.std.proofs.lemmas.List.{append-nil}
use Rattle.std.proofs.lemmas.List.Folds.{list_any-append}
use Rattle.bib_select.specs.Conditions.{alternatives_reading, term_reading, terms_reading}
use Rattle.bib_select.specs.Grammar.{AreJoinedBy, IsAlternative, IsCondition, IsTerm, LacksWord}
use Rattle.bib_select.specs.Grammar.AreJoinedBy.{one_part, more_parts}
use Rattle.bib_select.specs.Segments.{Segment, and_then, is_keyword, segments_between, segments_of, try_map, with_token}
use Rattle.bib_select.specs.Tokens.{Placed}
use Rattle.bib_select.specs.declared.errors.SelectionError.{SelectionError}
use Rattle.bib_select.proofs.GrammarFacts.{ok_same, steps, terms_by_grammar, up_to}
use Rattle.bib_select.proofs.SegmentFacts.{before_none, with_one_more, with_tokens}

-- the readings of segments are those of a relation
abbrev pub ReadsBy : {A : Type 0} → (Segment → Result A SelectionError) → (List Placed → A → Type 0) → Type 0
ReadsBy {A} f Is = (s : Segment) (a : A) → (f s ≡ Ok a) ↔ Is s.tokens a

-- ---- parts are segments

segment_alone : (joint : List ℕ) (end : ℕ) (tokens : List Placed) → LacksWord joint tokens
    → segments_between joint end tokens ≡ up_to end tokens ∷ []
segment_alone joint end [] lacks = refl
segment_alone joint end (first ∷ tokens) lacks =
    let (other, rest) = or_parts (is_keyword joint first.token) (list_any (λ p. is_keyword joint p.token) tokens) lacks in
    cond-false (is_keyword joint first.token) _ _ other ∙ ap (with_token first) (segment_alone joint end tokens rest)

segment_before : (joint : List ℕ) (end : ℕ) (tokens : List Placed) (placed : Placed) (more : List Placed) → LacksWord joint tokens
    → is_keyword joint placed.token ≡ true
    → segments_between joint end (tokens ++ placed ∷ more) ≡ up_to placed.at tokens ∷ segments_between joint end more
segment_before joint end [] placed more lacks is = cond-true (is_keyword joint placed.token) _ _ is
segment_before joint end (first ∷ tokens) placed more lacks is =
    let (other, rest) = or_parts (is_keyword joint first.token) (list_any (λ p. is_keyword joint p.token) tokens) lacks in
    cond-false (is_keyword joint first.token) _ _ other ∙ ap (with_token first) (segment_before joint end tokens placed more rest is)

-- the reading of a segment, followed by the readings of others, are the readings of all
first_then : {A : Type 0} (f : Segment → Result A SelectionError) (s : Segment) (rest : List Segment) (a : A) (others : List A)
    → f s ≡ Ok a → try_map f rest ≡ Ok others → try_map f (s ∷ rest) ≡ Ok (a ∷ others)
first_then f s rest a others is more =
    ap (λ r. and_then r (λ x. and_then (try_map f rest) (λ xs. Ok (x ∷ xs)))) is ∙ ap (λ r. and_then r (λ xs. Ok (a ∷ xs))) more

read_of_parts : {A : Type 0} (joint : List ℕ) (f : Segment → Result A SelectionError) (Is : List Placed → A → Type 0) → ReadsBy f Is
    → (end : ℕ) {tokens : List Placed} {all : List A} → AreJoinedBy joint Is tokens all
    → try_map f (segments_between joint end tokens) ≡ Ok all
read_of_parts joint f Is by end (one_part {tokens = tokens} {a = a} lacks is) =
    ap (try_map f) (segment_alone joint end tokens lacks) ∙ first_then f (up_to end tokens) [] a [] ((by (up_to end tokens) a).1 is) refl
read_of_parts joint f Is by end (more_parts {tokens = tokens} {rest = rest} placed {a = a} {others = others} lacks is word more) =
    ap (try_map f) (segment_before joint end tokens placed rest lacks word)
    ∙ first_then f (up_to placed.at tokens) (segments_between joint end rest) a others ((by (up_to placed.at tokens) a).1 is)
    (read_of_parts joint f Is by end more)

-- ---- segments are parts

-- the readings of a list of segments begin with that of the first
split_read : {A : Type 0} (f : Segment → Result A SelectionError) (s : Segment) (rest : List Segment) (all : List A)
    → try_map f (s ∷ rest) ≡ Ok all → (a : A) × (others : List A) × (f s ≡ Ok a) × (try_map f rest ≡ Ok others) × (all ≡ a ∷ others)
split_read f s rest all read =
    let (a, is, more) = steps (f s) (λ x. and_then (try_map f rest) (λ xs. Ok (x ∷ xs))) all read in
    let (others, reads, same) = steps (try_map f rest) (λ xs. Ok (a ∷ xs)) all more in
    (a, others, is, reads, ok_same (Ok all) refl (sym same))

parts_of_read : {A : Type 0} (joint : List ℕ) (f : Segment → Result A SelectionError) (Is : List Placed → A → Type 0) → ReadsBy f Is
    → (end : ℕ) (front tokens : List Placed) (all : List A) → LacksWord joint front
    → try_map f (with_tokens front (segments_between joint end tokens)) ≡ Ok all → AreJoinedBy joint Is (front ++ tokens) all
parts_of_read joint f Is by end front [] all lacks read =
    let (a, others, is, none, same) =
    split_read f (up_to end front) [] all (sym (ap (try_map f) (before_none front end [])) ∙ read) in
    subst (λ l. AreJoinedBy joint Is (front ++ []) l) (sym (same ∙ ap (λ l. a ∷ l) (ok_same (try_map f []) none refl)))
    (subst (λ l. AreJoinedBy joint Is l (a ∷ [])) (sym (append-nil front)) (one_part lacks ((by (up_to end front) a).0 is)))
parts_of_read {A} joint f Is by end front (first ∷ tokens) all lacks read =
    cases (λ before found. parts_of_read joint f Is by end before tokens found) (is_keyword joint first.token) refl read
  where
    cases : ((before : List Placed) (found : List A) → LacksWord joint before
        → try_map f (with_tokens before (segments_between joint end tokens)) ≡ Ok found → AreJoinedBy joint Is (before ++ tokens) found)
        → (b : Bool) → is_keyword joint first.token ≡ b
        → try_map f (with_tokens front (if b then up_to first.at [] ∷ segments_between joint end tokens
        else with_token first (segments_between joint end tokens))) ≡ Ok all
        → AreJoinedBy joint Is (front ++ first ∷ tokens) all
    cases again true word read =
        let (a, others, is, more, same) =
        split_read f (up_to first.at front) (segments_between joint end tokens) all
        (sym (ap (try_map f) (before_none front first.at (segments_between joint end tokens))) ∙ read) in
        subst (λ l. AreJoinedBy joint Is (front ++ first ∷ tokens) l) (sym same)
        (more_parts first lacks ((by (up_to first.at front) a).0 is) word (again [] others refl more))
    cases again false word read =
        subst (λ l. AreJoinedBy joint Is l all) (append_assoc front (first ∷ []) tokens)
        (again (front ++ first ∷ []) all
        (list_any-append (λ p. is_keyword joint p.token) front (first ∷ [])
        ∙ both (list_any (λ p. is_keyword joint p.token) front) _ lacks word)
        (sym (ap (try_map f) (with_one_more front first (segments_between joint end tokens))) ∙ read))
      where
        both : (a b : Bool) → a ≡ false → b ≡ false → (a || (b || false)) ≡ false
        both false false x y = refl
        both true b x y = absurd (cc)
        both false true x y = absurd (cc)

-- the readings of the segments between words are those of the parts
joined_by : {A : Type 0} (joint : List ℕ) (f : Segment → Result A SelectionError) (Is : List Placed → A → Type 0) → ReadsBy f Is
    → ReadsBy (λ s. try_map f (segments_of joint s)) (AreJoinedBy joint Is)
joined_by joint f Is by s all = (
  λ read. parts_of_read joint f Is by s.end [] s.tokens all refl read,
  λ parts. read_of_parts joint f Is by s.end parts,
)

-- the readings of conditions are those of the grammar
pub conditions_by_grammar : ReadsBy alternatives_reading IsCondition
conditions_by_grammar =
    joined_by (codes "or") terms_reading IsAlternative (joined_by (codes "and") term_reading IsTerm terms_by_grammar)
