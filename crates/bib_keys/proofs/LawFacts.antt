-- Each text is at most one pattern, and entries have at most one list of keys.
use Rattle.std.proofs.Common.{◌≡◌, ℕ, ◌<◌, ◌≤◌, ◌⊎◌, Bool, true, false, List, [], ◌∷◌, ◌++◌, Some, length, map, refl, sym, ◌∙◌, ap, ap₂, subst, inl, inr, arith, append_assoc, length-append}
use Rattle.std.proofs.lemmas.List.{length-map, map-append}
use Rattle.std.proofs.lemmas.Bool.{cases_lt}
use Rattle.bib_entry.specs.declared.entry.Entry.{Entry}
use Rattle.bib_text.proofs.PlaceFacts.{test_clash}
use Rattle.bib_keys.specs.Bases.{pattern_text}
use Rattle.bib_keys.specs.Characters.{is_in_keys}
use Rattle.bib_keys.specs.Keys.{AreKeys, HasSuffix, IsFirstNew, has_same_key, without_key}
use Rattle.bib_keys.specs.Patterns.{IsPart, IsPattern, IsPlaceholder, part_meant}
use Rattle.bib_keys.specs.declared.pattern.Part.{Part}
use Rattle.bib_keys.specs.declared.pattern.Part.TheVariants.{Literal}
use Rattle.bib_keys.proofs.KeyFacts.{one_with_suffix}
use Rattle.bib_keys.proofs.PatternFacts.{cut_once, inside_same, no_literal, one_named, part_end}

-- a placeholder means one part
one_placeholder : (p q : Part) (inside : List ℕ) → IsPlaceholder p inside → IsPlaceholder q inside → p ≡ q
one_placeholder p q inside one other =
    let same = one_named inside one.name other.name one.count other.count one.named other.named in
    let parts : Some p ≡ Some q =
    sym one.means ∙ ap (λ n. part_meant n one.count) same.0 ∙ ap (λ d. part_meant other.name d) same.1 ∙ other.means in cc

-- the part at the start of a text is one part
one_part : (p q : Part) (a b s t : List ℕ) → IsPart p a → IsPart q b → a ++ s ≡ b ++ t → p ≡ q
one_part _ _ _ _ s t (IsPart.literal {c = c} x) (IsPart.literal {c = d} y) e = let same : c ≡ d = cc in ap Literal same
one_part _ q _ _ s t (IsPart.literal {c = c} x) (IsPart.placeholder lacks y) e =
    let same : c ≡ 123 = cc in absurd (no_literal (subst (λ d. is_in_keys d ≡ true) same x))
one_part p _ _ _ s t (IsPart.placeholder lacks y) (IsPart.literal {c = c} x) e =
    let same : c ≡ 123 = cc in absurd (no_literal (subst (λ d. is_in_keys d ≡ true) same x))
one_part p q _ _ s t (IsPart.placeholder {inside = a} la x) (IsPart.placeholder {inside = b} lb y) e =
    let whole : 123 ∷ (a ++ (125 ∷ s)) ≡ (123 ∷ b ++ (125 ∷ [])) ++ t = sym (append_assoc (123 ∷ a) (125 ∷ []) s) ∙ e in
    let same : a ≡ b = (cut_once 125 a b s t la lb (inside_same (a ++ (125 ∷ s)) b t whole)).0 in
    one_placeholder p q b (subst (IsPlaceholder p) same x) y

-- an empty text has no part
some_part : (p : Part) (here : List ℕ) → IsPart p here → 0 < length here
some_part _ _ (IsPart.literal x) = omega arith
some_part p _ (IsPart.placeholder lacks x) = omega arith

-- the first part of a text with its text, and the other parts with theirs
record Begins (all : List Part) (text : List ℕ) : Type 0 where
  part : Part
  parts : List Part
  here : List ℕ
  rest : List ℕ
  first : IsPart part here
  others : IsPattern parts rest
  all_is : all ≡ part ∷ parts
  text_is : text ≡ here ++ rest

-- the parts of a text that isn't empty begin with one
begins : (all : List Part) (text : List ℕ) → IsPattern all text → 0 < length text → Begins all text
begins _ _ IsPattern.end some = absurd (omega arith)
begins _ _ (IsPattern.next {part = p} {parts = ps} {text = t} {rest = r} first others) some = record {
  part = p;
  parts = ps;
  here = t;
  rest = r;
  first = first;
  others = others;
  all_is = refl;
  text_is = refl;
}

-- an empty text has no parts
no_parts : (ps : List Part) (text : List ℕ) → IsPattern ps text → length text ≡ 0 → [] ≡ ps
no_parts _ _ IsPattern.end empty = refl
no_parts _ _ (IsPattern.next {part = p} {parts = ps} {text = t} {rest = r} first others) empty =
    absurd (omega (arith, length-append t r, some_part p t first, empty))

-- a text is at most one pattern
pub one_pattern : (ps qs : List Part) (text : List ℕ) → IsPattern ps text → IsPattern qs text → ps ≡ qs
one_pattern _ qs _ IsPattern.end other = no_parts qs [] other refl
one_pattern _ qs _ (IsPattern.next {part = p} {parts = ps} {text = t} {rest = r} first others) other =
    let some : 0 < length (t ++ r) = omega (arith, length-append t r, some_part p t first) in
    let begun = begins qs (t ++ r) other some in
    let rest : begun.rest ≡ r = sym (part_end p begun.part t begun.here r begun.rest first begun.first begun.text_is) in
    ap₂ (λ x l. x ∷ l) (one_part p begun.part t begun.here r begun.rest first begun.first begun.text_is)
    (one_pattern ps begun.parts r others (subst (IsPattern begun.parts) rest begun.others))
    ∙ sym begun.all_is

-- a text has at most one first new key
one_first : (keys : List (List ℕ)) (text a b : List ℕ) → IsFirstNew keys text a → IsFirstNew keys text b → a ≡ b
one_first keys text a b one other = of (cases_lt one.number other.number) (cases_lt other.number one.number) where
  of : (one.number < other.number) ⊎ (other.number ≤ one.number) → (other.number < one.number) ⊎ (one.number ≤ other.number) → a ≡ b
  of (inl less) _ = absurd (test_clash (has_same_key keys a) (other.first one.number a less one.suffixed) one.new)
  of (inr _) (inl less) = absurd (test_clash (has_same_key keys b) (one.first other.number b less other.suffixed) other.new)
  of (inr below) (inr above) =
      let same : other.number ≡ one.number = omega arith in
      one_with_suffix one.number text a b one.suffixed (subst (λ n. HasSuffix n text b) same other.suffixed)

-- equal lists have equal last elements, and the elements before these are equal too
last_same : {A : Type 0} (xs ys : List A) (x y : A) → xs ++ (x ∷ []) ≡ ys ++ (y ∷ []) → (xs ≡ ys) × (x ≡ y)
last_same [] [] x y e = (refl, cc)
last_same [] (b ∷ []) x y e = absurd (omega (arith, ap length e))
last_same [] (b ∷ c ∷ ys) x y e = absurd (omega (arith, ap length e))
last_same (a ∷ []) [] x y e = absurd (omega (arith, ap length e))
last_same (a ∷ c ∷ xs) [] x y e = absurd (omega (arith, ap length e))
last_same (a ∷ xs) (b ∷ ys) x y e =
    let rest : xs ++ (x ∷ []) ≡ ys ++ (y ∷ []) = cc in
    let head : a ≡ b = cc in
    let both = last_same xs ys x y rest in (ap₂ (λ h l. h ∷ l) head both.0, both.1)

-- entries that differ only in their keys have the same new keys
pub one_keys : (pattern : List Part) (entries others : List Entry) (keys other_keys : List (List ℕ))
    → map without_key entries ≡ map without_key others → AreKeys pattern entries keys → AreKeys pattern others other_keys
    → keys ≡ other_keys
one_keys pattern _ _ _ _ same AreKeys.none AreKeys.none = refl
one_keys pattern _ _ _ _ same AreKeys.none (AreKeys.next {entries = fs} {keys = ls} {key = l} f are first) =
    absurd (omega (arith, ap length same, length-map (fs ++ (f ∷ [])) without_key, length-append fs (f ∷ [])))
one_keys pattern _ _ _ _ same (AreKeys.next {entries = es} {keys = ks} {key = k} e are first) AreKeys.none =
    absurd (omega (arith, ap length same, length-map (es ++ (e ∷ [])) without_key, length-append es (e ∷ [])))
one_keys pattern _ _ _ _ same (AreKeys.next {entries = es} {keys = ks} {key = k} e are first)
    (AreKeys.next {entries = fs} {keys = ls} {key = l} f others other_first) =
    let ends =
    last_same (map without_key es) (map without_key fs) (without_key e) (without_key f)
    (sym (map-append without_key es (e ∷ [])) ∙ same ∙ map-append without_key fs (f ∷ [])) in
    let before : ks ≡ ls = one_keys pattern es fs ks ls ends.0 are others in
    let text : pattern_text pattern f ≡ pattern_text pattern e = ap (pattern_text pattern) (sym ends.1) in
    ap₂ (λ h x. h ++ (x ∷ [])) before
    (one_first ks (pattern_text pattern e) k l first
    (subst (λ h. IsFirstNew h (pattern_text pattern e) l) (sym before) (subst (λ t. IsFirstNew ls t l) text other_first)))
