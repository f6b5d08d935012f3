-- Texts of patterns: each has one reading, from its start to its end.
use Rattle.std.proofs.Common.{◌≡◌, ◌≢◌, refl, ℕ, suc, true, ◌+◌, ◌-◌, ◌<◌, List, [], ◌∷◌, ◌++◌, length, take, drop, get_or, Option, Some, None, sym, ◌∙◌, ap, subst, cond, add-zero, append-nil, append_assoc, arith, length-append}
use Rattle.std.proofs.Math.Seq.{drop-append_seam, take-append_seam}
use Rattle.std.proofs.lemmas.Bool.Decides.{nat_tests}
use Rattle.std.proofs.lemmas.List.{get_or-drop}
use Rattle.std.proofs.lemmas.Str.{char_from_byte, encode_ascii}
use Rattle.std.specs.Prelude.{Bool, false, ◌==◌, encode_utf8, slice_index}
use Rattle.std.specs.Option.{MatchOption}
use Rattle.std.specs.Str.Iter.{LacksByte}
use Rattle.bib_text.proofs.PlaceFacts.{test_clash}
use Rattle.bib_keys.specs.Characters.{is_in_keys}
use Rattle.bib_keys.specs.Parsing.{stop_error}
use Rattle.bib_keys.specs.Patterns.{IsCount, HasNameAndCount, IsNoPattern, IsPart, IsPattern, IsPatternError, IsPlaceholder, IsStuckAt, part_meant}
use Rattle.bib_keys.specs.declared.errors.PatternError.TheVariants.{NotInKeys, NoPlaceholder}
use Rattle.bib_keys.specs.declared.pattern.Part.{Part}
use Rattle.bib_keys.specs.declared.pattern.Part.TheVariants.{Literal}

-- a byte that a longer list lacks, its rest lacks too
lacks_rest : (c x : ℕ) (xs : List ℕ) → LacksByte c (x ∷ xs) → LacksByte c xs
lacks_rest c x xs lacks k h = lacks (suc k) (omega arith)

-- a text is cut at the first `c` in one way
pub cut_once : (c : ℕ) (a b s t : List ℕ) → LacksByte c a → LacksByte c b → a ++ (c ∷ s) ≡ b ++ (c ∷ t) → (a ≡ b) × (s ≡ t)
cut_once c [] [] s t la lb e = (cc, cc)
cut_once c [] (x ∷ b) s t la lb e = let same : x ≡ c = cc in absurd (lb 0 (omega arith) same)
cut_once c (x ∷ a) [] s t la lb e = let same : x ≡ c = cc in absurd (la 0 (omega arith) same)
cut_once c (x ∷ a) (y ∷ b) s t la lb e =
    let rest : a ++ (c ∷ s) ≡ b ++ (c ∷ t) = cc in
    let first : x ≡ y = cc in
    let both : (a ≡ b) × (s ≡ t) = cut_once c a b s t (lacks_rest c x a la) (lacks_rest c y b lb) rest in
    let same : a ≡ b = both.0 in
    (cc, both.1)

-- a text that lacks `c` has no `c` inside
pub lacks_inside : (c : ℕ) (text a s : List ℕ) → LacksByte c text → text ≡ a ++ (c ∷ s) → ⊥
lacks_inside c [] [] s lacks e = cc
lacks_inside c [] (x ∷ a) s lacks e = cc
lacks_inside c (x ∷ text) [] s lacks e = let same : x ≡ c = cc in lacks 0 (omega arith) same
lacks_inside c (x ∷ text) (y ∷ a) s lacks e =
    let rest : text ≡ a ++ (c ∷ s) = cc in lacks_inside c text a s (lacks_rest c x text lacks) rest

-- if the text after the first colon isn't a digit from 1 to 9, the text has no name and number
pub not_named : (text front number : List ℕ) → text ≡ front ++ (58 ∷ number) → LacksByte 58 front
    → ((n : ℕ) → 0 < n → n < 10 → number ≡ (48 + n) ∷ [] → ⊥) → (name : List ℕ) (count : Option ℕ) → HasNameAndCount text name count → ⊥
not_named text front number is lacks none name count named = of named.digits count named.number named.is where
  of : (digits : List ℕ) (count : Option ℕ) → IsCount count digits → text ≡ name ++ digits → ⊥
  of _ _ IsCount.none e = lacks_inside 58 name front number named.colon (sym (append-nil name) ∙ sym e ∙ is)
  of _ _ (IsCount.digit n some small) e =
      none n some small (cut_once 58 front name number ((48 + n) ∷ []) lacks named.colon (sym is ∙ e)).1

-- a text is named in one way
pub one_named : (text a b : List ℕ) (c d : Option ℕ) → HasNameAndCount text a c → HasNameAndCount text b d → (a ≡ b) × (c ≡ d)
one_named text a b c d one other = of one.digits other.digits c d one.number other.number (sym one.is ∙ other.is) where
  of : (s t : List ℕ) (c d : Option ℕ) → IsCount c s → IsCount d t → a ++ s ≡ b ++ t → (a ≡ b) × (c ≡ d)
  of _ _ _ _ IsCount.none IsCount.none e = (sym (append-nil a) ∙ e ∙ append-nil b, refl)
  of _ _ _ _ IsCount.none (IsCount.digit m mx my) e =
      absurd (lacks_inside 58 a b ((48 + m) ∷ []) one.colon (sym (append-nil a) ∙ e))
  of _ _ _ _ (IsCount.digit n nx ny) IsCount.none e =
      absurd (lacks_inside 58 b a ((48 + n) ∷ []) other.colon (sym (append-nil b) ∙ sym e))
  of _ _ _ _ (IsCount.digit n nx ny) (IsCount.digit m mx my) e =
      let both = cut_once 58 a b ((48 + n) ∷ []) ((48 + m) ∷ []) one.colon other.colon e in
      let tails : (48 + n) ∷ [] ≡ (48 + m) ∷ [] = both.1 in
      let sums : 48 + n ≡ 48 + m = cc in
      let same : n ≡ m = omega arith in
      (both.0, ap Some same)

-- if there is no part, there isn't this part
no_part : (o : Option Part) (part : Part) → o ≡ None → o ≡ Some part → ⊥
no_part o part is other = cc

-- a text is a placeholder exactly if its name and its number mean a part
pub placeholder_is : (text name : List ℕ) (count : Option ℕ) (r : Option Part) → HasNameAndCount text name count → r ≡ part_meant name count
    → MatchOption r ((part : Part) → IsPlaceholder part text → ⊥) (λ part. IsPlaceholder part text)
placeholder_is text name count None named is = λ part other.
    let same = one_named text name other.name count other.count named other.named in
    let means : part_meant name count ≡ Some part =
    subst (λ n. part_meant n count ≡ Some part) (sym same.0) (subst (λ d. part_meant other.name d ≡ Some part) (sym same.1) other.means) in
    no_part (part_meant name count) part (sym is) means
placeholder_is text name count (Some part) named is = record { name = name; count = count; named = named; means = sym is }

-- a brace is no character of keys
pub no_literal : is_in_keys 123 ≡ true → ⊥
no_literal h = cc

-- the first numbers of equal lists are equal
pub first_same : (c d : ℕ) (s t : List ℕ) → (c ∷ []) ++ s ≡ d ∷ t → c ≡ d
first_same c d s t e = cc

-- if a text begins with these braces, the text after its opening brace begins with their inside and the closing brace
pub inside_same : (after a rest : List ℕ) → 123 ∷ after ≡ (123 ∷ a ++ (125 ∷ [])) ++ rest → after ≡ a ++ (125 ∷ rest)
inside_same after a rest e =
    let whole : 123 ∷ after ≡ 123 ∷ (a ++ (125 ∷ rest)) = e ∙ ap (λ l. 123 ∷ l) (append_assoc a (125 ∷ []) rest) in cc

-- if `==` is true for two numbers, they are equal
same_number : (a b : ℕ) → a == b ≡ true → a ≡ b
same_number a b h = grind (arith, nat_tests)

other_number : (a b : ℕ) → a == b ≡ false → a ≡ b → ⊥
other_number a b h e = grind (arith, nat_tests)

-- the part at the start of a text ends at one place
pub part_end : (p q : Part) (a b s t : List ℕ) → IsPart p a → IsPart q b → a ++ s ≡ b ++ t → s ≡ t
part_end p q _ _ s t (IsPart.literal x) (IsPart.literal y) e = cc
part_end p q _ _ s t (IsPart.literal {c = c} x) (IsPart.placeholder lacks y) e =
    let same : c ≡ 123 = cc in let clash : is_in_keys 123 ≡ true = subst (λ d. is_in_keys d ≡ true) same x in cc
part_end p q _ _ s t (IsPart.placeholder lacks y) (IsPart.literal {c = c} x) e =
    let same : c ≡ 123 = cc in let clash : is_in_keys 123 ≡ true = subst (λ d. is_in_keys d ≡ true) same x in cc
part_end p q _ _ s t (IsPart.placeholder {inside = a} la x) (IsPart.placeholder {inside = b} lb y) e =
    let inner : a ++ (125 ∷ s) ≡ b ++ (125 ∷ t) =
    tails (sym (append_assoc (123 ∷ a) (125 ∷ []) s) ∙ e ∙ append_assoc (123 ∷ b) (125 ∷ []) t) in
    (cut_once 125 a b s t la lb inner).1 where
      tails : 123 ∷ (a ++ (125 ∷ s)) ≡ 123 ∷ (b ++ (125 ∷ t)) → a ++ (125 ∷ s) ≡ b ++ (125 ∷ t)
      tails h = cc

-- a pattern with one more part at its end is a pattern
pub pattern_more : (ps : List Part) (p : Part) (text here : List ℕ) → IsPattern ps text → IsPart p here
    → IsPattern (ps ++ (p ∷ [])) (text ++ here)
pattern_more _ p _ here IsPattern.end part = subst (IsPattern (p ∷ [])) (append-nil here) (IsPattern.next part IsPattern.end)
pattern_more _ p _ here (IsPattern.next {part = q} {parts = qs} {text = t} {rest = r} first rest) part =
    subst (IsPattern (q ∷ (qs ++ (p ∷ [])))) (sym (append_assoc t r here)) (IsPattern.next first (pattern_more qs p r here rest part))

-- how far a pattern was read: its first parts, and that each reading of the text has a reading of the rest
pub record IsReadTo (text : List ℕ) (parts : List Part) (rest : List ℕ) : Type 0 where
  pub before : List ℕ
  pub is : text ≡ before ++ rest
  pub read : IsPattern parts before
  pub only : (all : List Part) → IsPattern all text → (others : List Part) × IsPattern others rest

-- at the start of the text, no part was read
pub read_none : (text : List ℕ) → IsReadTo text [] text
read_none text = record { before = []; is = refl; read = IsPattern.end; only = λ all pattern. (all, pattern) }

-- the parts of a text that isn't empty begin with one
pub first_of : (all : List Part) (text : List ℕ) → IsPattern all text → 0 < length text
    → (part : Part) × (parts : List Part) × (here : List ℕ) × (rest : List ℕ) × IsPart part here × IsPattern parts rest
    × (text ≡ here ++ rest)
first_of _ _ IsPattern.end some = absurd (omega arith)
first_of _ _ (IsPattern.next {part = p} {parts = ps} {text = t} {rest = r} first rest) some = (p, ps, t, r, first, rest, refl)

-- if a part begins the remaining text, it is the last of the parts that were read, and the text after it remains
pub read_more : (text : List ℕ) (parts : List Part) (part : Part) (here rest after : List ℕ) → IsReadTo text parts rest → IsPart part here
    → rest ≡ here ++ after → 0 < length rest → IsReadTo text (parts ++ (part ∷ [])) after
read_more text parts part here rest after so_far is_part is some = record {
  before = so_far.before ++ here;
  is = so_far.is ∙ ap (λ l. so_far.before ++ l) is ∙ sym (append_assoc so_far.before here after);
  read = pattern_more parts part so_far.before here so_far.read is_part;
  only = λ all pattern.
      let left = so_far.only all pattern in
      let (q, qs, t, r, first, others, split) = first_of left.0 rest left.1 some in
      (qs, subst (IsPattern qs) (part_end q part t here r after first is_part (sym split ∙ is)) others);
}

-- if no text is left, the text has the parts that were read
pub read_all : (text : List ℕ) (parts : List Part) (rest : List ℕ) → IsReadTo text parts rest → length rest ≡ 0 → IsPattern parts text
read_all text parts [] so_far none = subst (IsPattern parts) (sym (so_far.is ∙ append-nil so_far.before)) so_far.read
read_all text parts (x ∷ rest) so_far none = absurd (omega arith)

-- if text is left and no part begins there, the error of the text is at this offset
pub read_no_more : (text : List ℕ) (parts : List Part) (rest : List ℕ) → IsReadTo text parts rest → 0 < length rest
    → ((part : Part) (here after : List ℕ) → IsPart part here → rest ≡ here ++ after → ⊥)
    → IsPatternError text (stop_error (length text - length rest) rest)
read_no_more text parts rest so_far some stops = by_case (slice_index rest 0 == 123) refl where
  at : ℕ
  at = length text - length rest

  sizes : length text ≡ length so_far.before + length rest
  sizes = ap length so_far.is ∙ length-append so_far.before rest

  place : length so_far.before ≡ at
  place = omega (arith, sizes)

  ahead : drop at text ≡ rest
  ahead = subst (λ n. drop n text ≡ rest) place (ap (drop (length so_far.before)) so_far.is ∙ drop-append_seam so_far.before rest)

  behind : take at text ≡ so_far.before
  behind =
      subst (λ n. take n text ≡ so_far.before) place
      (ap (take (length so_far.before)) so_far.is ∙ take-append_seam so_far.before rest)

  first : slice_index text at ≡ slice_index rest 0
  first = ap (λ n. get_or text n 0) (sym (add-zero at)) ∙ sym (get_or-drop at text 0 0) ∙ ap (λ l. get_or l 0 0) ahead

  none : IsNoPattern text
  none all pattern =
      let left = so_far.only all pattern in
      let (q, qs, t, r, first, others, split) = first_of left.0 rest left.1 some in
      stops q t r first split

  stop : IsStuckAt text at
  stop = record {
    parts = parts;
    before = subst (IsPattern parts) (sym behind) so_far.read;
    goes_on = omega (arith, sizes);
    stops = λ part here after is_part is. stops part here after is_part (sym ahead ∙ is);
  }

  by_case : (b : Bool) → slice_index rest 0 == 123 ≡ b → IsPatternError text (stop_error at rest)
  by_case true is =
      subst (λ b. IsPatternError text (cond b (NoPlaceholder at) (NotInKeys at))) (sym is)
      (none, stop, first ∙ same_number (slice_index rest 0) 123 is)
  by_case false is =
      subst (λ b. IsPatternError text (cond b (NoPlaceholder at) (NotInKeys at))) (sym is)
      (none, stop, λ brace. other_number (slice_index rest 0) 123 is (sym first ∙ brace))

-- a brace that isn't closed begins no part
pub not_closed : (text after : List ℕ) → text ≡ 123 ∷ after → LacksByte 125 after
    → (part : Part) (here rest : List ℕ) → IsPart part here → text ≡ here ++ rest → ⊥
not_closed text after is lacks part _ rest (IsPart.literal {c = c} x) e =
    let same : c ≡ 123 = first_same c 123 rest after (sym e ∙ is) in no_literal (subst (λ d. is_in_keys d ≡ true) same x)
not_closed text after is lacks part _ rest (IsPart.placeholder {inside = a} la x) e =
    lacks_inside 125 after a rest lacks (inside_same after a rest (sym is ∙ e))

-- braces with no placeholder inside begin no part
pub not_placeholder : (text after inside left : List ℕ) → text ≡ 123 ∷ after → after ≡ inside ++ (125 ∷ left) → LacksByte 125 inside
    → ((part : Part) → IsPlaceholder part inside → ⊥)
    → (part : Part) (here rest : List ℕ) → IsPart part here → text ≡ here ++ rest → ⊥
not_placeholder text after inside left is split lacks none part _ rest (IsPart.literal {c = c} x) e =
    let same : c ≡ 123 = first_same c 123 rest after (sym e ∙ is) in no_literal (subst (λ d. is_in_keys d ≡ true) same x)
not_placeholder text after inside left is split lacks none part _ rest (IsPart.placeholder {inside = a} la x) e =
    let same : inside ≡ a = (cut_once 125 inside a left rest lacks la (sym split ∙ inside_same after a rest (sym is ∙ e))).0 in
    none part (subst (IsPlaceholder part) (sym same) x)

-- a placeholder in braces at the start of a text is a part
pub is_placeholder : (text after inside left : List ℕ) (part : Part) → text ≡ 123 ∷ after → after ≡ inside ++ (125 ∷ left)
    → LacksByte 125 inside → IsPlaceholder part inside → (here : List ℕ) × IsPart part here × (text ≡ here ++ left)
is_placeholder text after inside left part is split lacks placeholder = (
  123 ∷ (inside ++ (125 ∷ [])),
  IsPart.placeholder lacks placeholder,
  is ∙ ap (λ l. 123 ∷ l) (split ∙ sym (append_assoc inside (125 ∷ []) left)),
)

-- a character that is allowed in keys is ASCII
pub in_keys_ascii : (c : ℕ) → is_in_keys c ≡ true → c < 128
in_keys_ascii c h = grind (arith, nat_tests)

-- a character at the start of a text is a part if it is allowed in keys
pub is_literal : (text rest : List ℕ) (c : ℕ) → text ≡ encode_utf8 c ++ rest → is_in_keys c ≡ true
    → (here : List ℕ) × IsPart (Literal c) here × (text ≡ here ++ rest)
is_literal text rest c is allowed =
    (c ∷ [], IsPart.literal allowed, is ∙ ap (λ l. l ++ rest) (encode_ascii c (in_keys_ascii c allowed)))

-- any other character, except an opening brace, begins no part
pub not_literal : (text after : List ℕ) (c : ℕ) → ((rest : List ℕ) → text ≢ 123 ∷ rest) → text ≡ encode_utf8 c ++ after
    → is_in_keys c ≡ false → (part : Part) (here rest : List ℕ) → IsPart part here → text ≡ here ++ rest → ⊥
not_literal text after c no_brace is refused part _ rest (IsPart.literal {c = d} x) e =
    let first : get_or text 0 0 ≡ d = ap (λ l. get_or l 0 0) e in
    let small : d < 128 = in_keys_ascii d x in
    let some : 0 < length text = subst (λ l. 0 < length l) (sym e) (omega arith) in
    let same : c ≡ get_or text 0 0 = char_from_byte text after c is (omega (arith, first, small)) some in
    test_clash (is_in_keys d) x (subst (λ n. is_in_keys n ≡ false) (same ∙ first) refused)
not_literal text after c no_brace is refused part _ rest (IsPart.placeholder {inside = a} la x) e =
    no_brace (a ++ (125 ∷ rest)) (e ∙ ap (λ l. 123 ∷ l) (append_assoc a (125 ∷ []) rest))

-- a length that isn't 0 is greater than 0
pub not_empty : (n : ℕ) → n == 0 ≡ false → 0 < n
not_empty n h = grind (arith, nat_tests)
