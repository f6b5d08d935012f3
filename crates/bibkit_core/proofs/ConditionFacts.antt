-- Facts about the entries that meet conditions, and the findings about them.
use Rattle.std.proofs.Common.{◌≡◌, ◌+◌, ◌-◌, ◌<◌, ◌≤◌, ◌&&◌, ◌++◌, ◌∷◌, [], ℕ, zero, suc, Bool, List, Bor, true, false, cond, drop, get_or, length, map, take, take-append-drop, refl, sym, ap, ◌∙◌, arith, append-nil, Result, Ok, Err}
use Rattle.std.specs.Prelude.{MatchOption, Option, Some, None, eqb, filter, if◌then◌else◌, max, nat_le, nat_lt, replicate, IfOk}
use Rattle.std.specs.List.{ends_with}
use Rattle.std.specs.Option.{option_map, unwrap_or}
use Rattle.std.specs.Str.Pattern.{FindsTextSuffix}
use Rattle.std.proofs.lemmas.Bool.Decides.{Decides-eqb, nat_tests}
use Rattle.std.proofs.lemmas.List.{map-append, take_all, take_more}
use Rattle.std.proofs.lemmas.List.Elements.{filter-append}
use Rattle.std.proofs.lemmas.Slice.Eq.{ends_is}
use Rattle.bib_syntax.specs.Reading.{FileReading}
use Rattle.bib_entry.specs.declared.entry.Entry.{Entry}
use Rattle.bib_select.specs.declared.selection.Selection.{Selection}
use Rattle.bibkit_core.specs.Conditions.{AreResolvedEntries, AreSelectedKeys, selected_keys}
use Rattle.std.proofs.lemmas.Str.Pattern.{ends_text}

-- `strip_suffix` of std returns the text before the suffix, or `None` if the text doesn't end with it
pub suffix_before : (suffix text : List ℕ) (r : Option (Bor (List ℕ)))
    → MatchOption r (FindsTextSuffix suffix text None)
    (λ x. (n : ℕ) × FindsTextSuffix suffix text (Some n) × (x.now ≡ take (length text - n) text) × (length x.now + n ≡ length text))
    → option_map (λ x. x.now) r ≡ (if ends_with eqb text suffix then Some (take (length text - length suffix) text) else None)
suffix_before suffix text None h =
    sym (ap (λ b. cond b (Some (take (length text - length suffix) text)) None) (sym (ends_text false suffix text h)))
suffix_before suffix text (Some x) h =
    ap Some (h.2 ∙ ap (λ k. take (length text - k) text) h.1.0)
    ∙ sym
    (ap (λ b. cond b (Some (take (length text - length suffix) text)) None)
    ((ends_is Decides-eqb text suffix _ refl).1 _ h.1.1))

-- the text without the suffix, or the whole text without one, begins the text
pub suffix_begins : (suffix text : List ℕ) (whole : Bor (List ℕ)) (r : Option (Bor (List ℕ))) → whole.now ≡ text
    → MatchOption r (FindsTextSuffix suffix text None)
    (λ x. (n : ℕ) × FindsTextSuffix suffix text (Some n) × (x.now ≡ take (length text - n) text) × (length x.now + n ≡ length text))
    → (rest : List ℕ) × (text ≡ (unwrap_or r whole).now ++ rest)
suffix_begins suffix text whole None same h = ([], sym (append-nil whole.now ∙ same))
suffix_begins suffix text whole (Some x) same h =
    let n = length text - h.0 in (drop n text, sym (ap (λ t. t ++ drop n text) h.2 ∙ take-append-drop n text))

-- the elements that pass a test grow by the next one, if it passes
pub filter_step : {X Y : Type 0} (v : X → Y) (test : Y → Bool) (xs : List X) (i : ℕ) (d : X) → i < length xs
    → filter test (map v (take (i + 1) xs)) ≡ filter test (map v (take i xs)) ++ filter test (v (get_or xs i d) ∷ [])
filter_step v test xs i d within =
    ap (λ l. filter test (map v l)) (take_more xs i d within)
    ∙ ap (filter test) (map-append v (take i xs) (get_or xs i d ∷ []))
    ∙ filter-append test (map v (take i xs)) (v (get_or xs i d) ∷ [])

-- the same with the element appended
pub filter_push : {X Y : Type 0} (v : X → Y) (test : Y → Bool) (xs : List X) (x : X)
    → filter test (map v (xs ++ x ∷ [])) ≡ filter test (map v xs) ++ filter test (v x ∷ [])
filter_push v test xs x = ap (filter test) (map-append v xs (x ∷ [])) ∙ filter-append test (map v xs) (v x ∷ [])

-- if an element passes a test, appending it appends the elements of its one-element list that pass
pub one_passes : {Y : Type 0} (test : Y → Bool) (old : List Y) (y : Y) → test y ≡ true → old ++ y ∷ [] ≡ old ++ filter test (y ∷ [])
one_passes test old y is = sym (ap (λ b. old ++ cond b (y ∷ []) []) is)

-- if an element doesn't pass a test, nothing is appended
pub one_fails : {Y : Type 0} (test : Y → Bool) (old : List Y) (y : Y) → test y ≡ false → old ≡ old ++ filter test (y ∷ [])
one_fails test old y isnt = sym (ap (λ b. old ++ cond b (y ∷ []) []) isnt ∙ append-nil old)

-- if `a` is the greater of `s` and `e`, an offset is from `s` to before `a` exactly if it is from `s` to before `e`
pub range_ends : (s e a at : ℕ) → s ≤ a → a ≤ max s e → e ≤ a → (nat_le s at && nat_lt at a) ≡ (nat_le s at && nat_lt at e)
range_ends s e a at from to ended = grind (arith, nat_tests)

more_false : (xs : List Bool) (k at : ℕ) → get_or (xs ++ replicate k false) at false ≡ get_or xs at false
more_false [] zero at = refl
more_false [] (suc k) zero = refl
more_false [] (suc k) (suc at) = more_false [] k at
more_false (x ∷ xs) k zero = refl
more_false (x ∷ xs) k (suc at) = more_false xs k at

-- appending elements that are `false` changes no value of a list whose value past its end is `false`
pub grown : (xs : List Bool) (n k at : ℕ) → length xs ≤ n → get_or (take n xs ++ replicate k false) at false ≡ get_or xs at false
grown xs n k at within = more_false (take n xs) k at ∙ ap (λ l. get_or l at false) (take_all n xs within)

-- the keys of the entries that meet conditions, if the conditions and the entries are those of a call
pub selected_by : {conditions lent : List Selection} {says : FileReading} {keys : List (List ℕ)} {lent_entries : List Entry}
    (entries : List Entry) → AreResolvedEntries says entries → keys ≡ selected_keys lent lent_entries → lent ≡ conditions
    → lent_entries ≡ entries → AreSelectedKeys conditions says keys
selected_by {conditions} {lent_entries = lent_entries} entries of_content are same same_entries = record {
  entries = entries;
  of_content = of_content;
  are = are ∙ ap (λ cs. selected_keys cs lent_entries) same ∙ ap (selected_keys conditions) same_entries;
}
