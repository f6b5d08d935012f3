-- Parts of a file counted by their texts.
use Rattle.std.proofs.Common.{◌≡◌, ℕ, Bool, true, false, ◌||◌, List, [], ◌∷◌, ◌++◌, ◌+◌, ◌-◌, ◌<◌, length, get_or, set, map, take, refl, sym, ap, ◌∙◌, append_assoc, append-nil, subst, arith, cond, suc, zero}
use Rattle.std.specs.Prelude.{bytes_eq, count_by, min}
use Rattle.std.specs.List.{list_any, swap_remove}
use Rattle.std.proofs.lemmas.List.{get_or_push, length-append, length-set, map-append, set-append_left, take_at}
use Rattle.std.proofs.lemmas.List.Folds.{list_any-append}
use Rattle.std.proofs.lemmas.Slice.Eq.{bytes_eq-Decides}
use Rattle.std.proofs.Math.Bool.{or-true, or-false}
use Rattle.bib_syntax.specs.Reading.{Part}
use Rattle.bib_text.proofs.ListFacts.{any_mapped, count_more}
use Rattle.bib_text.proofs.BytesFacts.{bytes_turned}
use Rattle.bib_findings.specs.After.{each_after}
use Rattle.bib_findings.specs.Counted.{counts, lowercase_part, one_part_more}
use Rattle.bib_findings.specs.Once.{count_of, have_one_text, if_first, most_counted}

-- the first part with each text that none of some earlier parts has
abbrev firsts_after : List Part → List Part → List Part
firsts_after = each_after if_first

-- a part and its count; if `g` has the text of the part, the count is one more, at most the greatest that is counted
abbrev pub raised : Part → Part × ℕ → Part × ℕ
raised g c = (c.0, cond (have_one_text c.0 g) (one_part_more c.1) c.1)

-- whether two parts have one text doesn't depend on their order
pub text_turned : (f g : Part) → have_one_text f g ≡ have_one_text g f
text_turned f g = by (have_one_text f g) (have_one_text g f) refl refl where
  by : (a b : Bool) → have_one_text f g ≡ a → have_one_text g f ≡ b → have_one_text f g ≡ have_one_text g f
  by true true one other = one ∙ sym other
  by false false one other = one ∙ sym other
  by true false one other = one ∙ sym (bytes_turned (lowercase_part g) (lowercase_part f) ∙ one)
  by false true one other = bytes_turned (lowercase_part f) (lowercase_part g) ∙ other ∙ sym other

-- if two parts have one text, either both or neither have the text of a third
text_alike : (g f e : Part) → have_one_text f e ≡ true → have_one_text g f ≡ have_one_text g e
text_alike g f e same = ap (λ n. bytes_eq (lowercase_part g) n) ((bytes_eq-Decides (lowercase_part f) (lowercase_part e)).0 same)

-- if `f` has the text of `g`, and an earlier part has the text of `f`, an earlier part has the text of `g`
earlier_alike : (g f : Part) (earlier : List Part) → list_any (have_one_text f) earlier ≡ true
    → have_one_text g f ≡ true → list_any (have_one_text g) earlier ≡ true
earlier_alike g f [] there is = there
earlier_alike g f (e ∷ earlier) there is =
    by (have_one_text f e) refl there (λ later. earlier_alike g f earlier later is)
  where
    by : (test : Bool) → have_one_text f e ≡ test → (have_one_text f e || list_any (have_one_text f) earlier) ≡ true
        → (list_any (have_one_text f) earlier ≡ true → list_any (have_one_text g) earlier ≡ true)
        → (have_one_text g e || list_any (have_one_text g) earlier) ≡ true
    by true same there rest = ap (λ b. b || list_any (have_one_text g) earlier) (sym (text_alike g f e same) ∙ is)
    by false differs there rest =
        ap (λ b. have_one_text g e || b) (rest (sym (ap (λ b. b || list_any (have_one_text f) earlier) differs) ∙ there))
        ∙ or-true (have_one_text g e)

-- the step of `any_first` for a part that is left out, in Booleans; `e` is true if `h` is
skipped : (x y e h : Bool) → (h ≡ true → e ≡ true) → (x || (e || (h || false))) ≡ (y || (e || (h || false)))
    → (x || e) ≡ ((h || y) || e)
skipped x y true h follows same = or-true x ∙ sym (or-true (h || y))
skipped x y false true follows same = absurd (let clash : false ≡ true = follows refl in cc)
skipped x y false false follows same = same

-- the step of `any_first` for a part that is listed, in Booleans
listed : (x y e h : Bool) → (x || (e || (h || false))) ≡ (y || (e || (h || false))) → ((h || x) || e) ≡ ((h || y) || e)
listed x y e true same = refl
listed x y true false same = same
listed x y false false same = same

-- whether one of some parts has the text of a part
abbrev occurs : Part → List Part → Bool
occurs g = list_any (have_one_text g)

-- a text occurs among the first parts with each text or earlier exactly if it occurs among all parts or earlier
any_first : (g : Part) (earlier parts : List Part)
    → (occurs g (firsts_after earlier parts) || occurs g earlier) ≡ (occurs g parts || occurs g earlier)
any_first g earlier [] = refl
any_first g earlier (f ∷ rest) =
    by (occurs f earlier) refl
    (subst (λ b. (occurs g (firsts_after (earlier ++ f ∷ []) rest) || b) ≡ (occurs g rest || b))
    (list_any-append (have_one_text g) earlier (f ∷ [])) (any_first g (earlier ++ f ∷ []) rest))
  where
    by : (test : Bool) → occurs f earlier ≡ test
        → (occurs g (firsts_after (earlier ++ f ∷ []) rest) || (occurs g earlier || (have_one_text g f || false)))
        ≡ (occurs g rest || (occurs g earlier || (have_one_text g f || false)))
        → (occurs g (if_first earlier f ++ firsts_after (earlier ++ f ∷ []) rest) || occurs g earlier)
        ≡ ((have_one_text g f || occurs g rest) || occurs g earlier)
    by true there later =
        ap (λ b. occurs g (cond b [] (f ∷ []) ++ firsts_after (earlier ++ f ∷ []) rest) || occurs g earlier) there
        ∙ skipped (occurs g (firsts_after (earlier ++ f ∷ []) rest)) (occurs g rest) (occurs g earlier) (have_one_text g f)
        (earlier_alike g f earlier there) later
    by false none later =
        ap (λ b. occurs g (cond b [] (f ∷ []) ++ firsts_after (earlier ++ f ∷ []) rest) || occurs g earlier) none
        ∙ listed (occurs g (firsts_after (earlier ++ f ∷ []) rest)) (occurs g rest) (occurs g earlier) (have_one_text g f) later

-- the first parts with each text among some parts and one more: the last is one of them if no other has its text
firsts_more : (earlier parts : List Part) (g : Part)
    → firsts_after earlier (parts ++ g ∷ []) ≡ firsts_after earlier parts ++ if_first (earlier ++ parts) g
firsts_more earlier [] g = append-nil (if_first earlier g) ∙ ap (λ l. if_first l g) (sym (append-nil earlier))
firsts_more earlier (f ∷ rest) g =
    ap (λ l. if_first earlier f ++ l) (firsts_more (earlier ++ f ∷ []) rest g)
    ∙ sym (append_assoc (if_first earlier f) (firsts_after (earlier ++ f ∷ []) rest) (if_first ((earlier ++ f ∷ []) ++ rest) g))
    ∙ ap (λ l. (if_first earlier f ++ firsts_after (earlier ++ f ∷ []) rest) ++ if_first l g) (append_assoc earlier (f ∷ []) rest)

-- with one part more, the count of each part is raised if the part has its text
all_raised : (parts : List Part) (g : Part) (firsts : List Part)
    → map (count_of (parts ++ g ∷ [])) firsts ≡ map (raised g) (map (count_of parts) firsts)
all_raised parts g [] = refl
all_raised parts g (f ∷ firsts) =
    ap (λ n. (f, n) ∷ map (count_of (parts ++ g ∷ [])) firsts) (by (have_one_text f g) (count_more (have_one_text f) parts g))
    ∙ ap (λ l. (f, cond (have_one_text f g) (one_part_more (count_of parts f).1) (count_of parts f).1) ∷ l) (all_raised parts g firsts)
  where
    by : (test : Bool) → count_by (have_one_text f) (parts ++ g ∷ []) ≡ count_by (have_one_text f) parts + cond test 1 0
        → min (count_by (have_one_text f) (parts ++ g ∷ [])) most_counted
        ≡ cond test (one_part_more (min (count_by (have_one_text f) parts) most_counted))
        (min (count_by (have_one_text f) parts) most_counted)
    by true more = omega (arith, more)
    by false more = omega (arith, more)

-- one more part raises the count of its text, or adds a count if its text is new
pub counts_more : (parts : List Part) (g : Part)
    → counts (parts ++ g ∷ []) ≡ map (raised g) (counts parts) ++ map (count_of (parts ++ g ∷ [])) (if_first parts g)
counts_more parts g =
    ap (map (count_of (parts ++ g ∷ []))) (firsts_more [] parts g)
    ∙ map-append (count_of (parts ++ g ∷ [])) (firsts_after [] parts) (if_first parts g)
    ∙ ap (λ l. l ++ map (count_of (parts ++ g ∷ [])) (if_first parts g)) (all_raised parts g (firsts_after [] parts))

-- a text occurs among the counts of some parts exactly if it occurs among the parts
pub any_counted : (parts : List Part) (g : Part)
    → list_any (λ c. have_one_text g c.0) (counts parts) ≡ list_any (have_one_text g) parts
any_counted parts g =
    any_mapped (count_of parts) (λ c. have_one_text g c.0) (firsts_after [] parts)
    ∙ sym (or-false (list_any (have_one_text g) (firsts_after [] parts)))
    ∙ any_first g [] parts ∙ or-false (list_any (have_one_text g) parts)

-- mapping doesn't change a list whose items are their own images
pub map_same : {A : Type 0} (f : A → A) (items : List A) (d : A)
    → ((k : ℕ) → k < length items → f (get_or items k d) ≡ get_or items k d) → map f items ≡ items
map_same f [] d same = refl
map_same f (one ∷ items) d same =
    ap (λ x. x ∷ map f items) (same 0 (omega arith))
    ∙ ap (λ l. one ∷ l) (map_same f items d (λ k inside. same (suc k) (omega arith)))

-- no item passes a test if none at an index does
pub any_none : {A : Type 0} (p : A → Bool) (items : List A) (d : A)
    → ((k : ℕ) → k < length items → p (get_or items k d) ≡ false) → list_any p items ≡ false
any_none p [] d none = refl
any_none p (one ∷ items) d none =
    ap (λ b. b || list_any p items) (none 0 (omega arith)) ∙ any_none p items d (λ k inside. none (suc k) (omega arith))

-- setting an item to its image maps the list if the images of all other items are themselves
pub set_is_map : {A : Type 0} (f : A → A) (items : List A) (i : ℕ) (d : A) → i < length items
    → ((k : ℕ) → k < length items → (k ≡ i → ⊥) → f (get_or items k d) ≡ get_or items k d)
    → set items i (f (get_or items i d)) ≡ map f items
set_is_map f [] i d within same = refl
set_is_map f (one ∷ items) zero d within same =
    ap (λ l. f one ∷ l) (sym (map_same f items d (λ k inside. same (suc k) (omega arith) (λ e. omega (arith, e)))))
set_is_map f (one ∷ items) (suc i) d within same =
    ap (λ x. x ∷ set items i (f (get_or items i d))) (sym (same 0 (omega arith) (λ e. omega (arith, e))))
    ∙ ap (λ l. f one ∷ l) (set_is_map f items i d (omega arith) (λ k inside other.
    same (suc k) (omega arith) (λ e. other (omega (arith, e)))))

-- appending an item and moving it to an index sets the item there
pub put_is : {A : Type 0} (old mid new : List A) (i : ℕ) (one d : A) → i < length old → mid ≡ old ++ one ∷ []
    → new ≡ swap_remove mid i d → new ≡ set old i one
put_is {A = A} old mid new i one d within appended moved =
    let all : List A = old ++ one ∷ [] in
    let last : length all - 1 ≡ length old = omega (arith, length-append old (one ∷ [])) in
    moved ∙ ap (λ l. swap_remove l i d) appended ∙ ap (λ n. take n (set all i (get_or all n d))) last
    ∙ ap (λ x. take (length old) (set all i x)) (get_or_push old one d (length old) refl)
    ∙ ap (take (length old)) (set-append_left old (one ∷ []) i one within)
    ∙ take_at (set old i one) (one ∷ []) (length old) (length-set old i one)
