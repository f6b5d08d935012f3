-- An array that is written element by element is parsed as the array of the elements' values.
use Rattle.std.proofs.Common.{◌≡◌, ℕ, suc, ◌≤◌, arith, List, [], ◌∷◌, ◌++◌, map, fold, codes, cond, Bool, true, false, Option, Some, option_map, option_and_then, Result, Ok, Err, IfOk, String, Global, string_bytes, inr, refl, sym, ap, ap₂, subst, ◌∙◌, append_assoc, append-nil}
use Rattle.std.proofs.lemmas.Grind.{fold-append}
use Rattle.std.proofs.Math.Nat.{max-le}
use Rattle.std.specs.Prelude.{max}
use Rattle.json.specs.Token.{Token}
use Rattle.json.specs.Json as json
use Rattle.json.specs.Lex.{tokens}
use Rattle.json.specs.Print.{print, print_from, token_text, begins, ends, separator, ArePrintable}
use Rattle.json.specs.Spaced.{AreGaps, print_spaced}
use Rattle.json.specs.Tree as tree
use Rattle.json.specs.Tree.{json_tokens, items_tokens, members_tokens, HasNumbers, ItemsHaveNumbers}
use Rattle.json.proofs.Numbered.{ArePrintableOrBad-tokens, value-HasNumbers}
use Rattle.json.proofs.Printed.Tokens.{tokens-print_spaced}
use Rattle.json.proofs.Printed.Trees.{ArePrintable-json_tokens, value-json_tokens}
use Rattle.serde_json.specs.Data.{Data, null, boolean, number, string, array, object, Items, no_items, item, Members, no_members, member, depth, items_depth, members_depth}
use Rattle.serde_json.specs.Read.{read, of_json, of_items, max_depth}
use Rattle.serde_json.specs.View.{items_of}
use Rattle.serde_json.specs.Written.{compact_text, comma_if, has_float, IsInOrder, outline, items_outline, members_outline}
use Rattle.serde_json.proofs.Texts.{print-outline, tokens_from_order}
use Rattle.std.specs.List.{AllByRecursion}
use Rattle.bib_entry.specs.declared.entry.Entry.{Entry}
use Rattle.bib_json.proofs.GapFacts.{with_line_feed}
use Rattle.bib_json.proofs.PlainFacts.{entry_has_no_float, entry_is_shallow}
use Rattle.bib_json.specs.Arrays.{array_text, further_elements}
use Rattle.bib_json.specs.Entries.{entry_object, json_text_of, IsReadBack}
use Rattle.bib_json.specs.Objects.{array_of}

-- the state of the writer after tokens: whether a value has just ended
abbrev after : Bool → List Token → Bool
after ended ts = fold (λ _ t. ends t) ended ts

-- ---- tokens with gaps

-- tokens, with a line feed before the first of them
abbrev on_own_line : List Token → List (List ℕ × Token)
on_own_line [] = []
on_own_line (t ∷ ts) = (codes "\n", t) ∷ map (λ t. ([], t)) ts

-- the tokens of elements, each on a new line, and the end of the array
abbrev elements : List Data → List (List ℕ × Token)
elements [] = (codes "\n", Token.end_array) ∷ []
elements (d ∷ ds) = on_own_line (json_tokens (outline d)) ++ elements ds

-- the tokens of the array
abbrev whole : List Data → List (List ℕ × Token)
whole [] = ([], Token.begin_array) ∷ ([], Token.end_array) ∷ []
whole (d ∷ ds) = ([], Token.begin_array) ∷ elements (d ∷ ds)

tokens_alone : (ts : List Token) (qs : List (List ℕ × Token)) → map (λ p. p.1) (map (λ t. ([], t)) ts ++ qs) ≡ ts ++ map (λ p. p.1) qs
tokens_alone [] qs = refl
tokens_alone (t ∷ ts) qs = ap (λ l. t ∷ l) (tokens_alone ts qs)

tokens_on_line : (ts : List Token) (qs : List (List ℕ × Token)) → map (λ p. p.1) (on_own_line ts ++ qs) ≡ ts ++ map (λ p. p.1) qs
tokens_on_line [] qs = refl
tokens_on_line (t ∷ ts) qs = ap (λ l. t ∷ l) (tokens_alone ts qs)

tokens_of_elements : (ds : List Data) → map (λ p. p.1) (elements ds) ≡ items_tokens (items_outline (items_of ds))
tokens_of_elements [] = refl
tokens_of_elements (d ∷ ds) =
    tokens_on_line (json_tokens (outline d)) (elements ds)
    ∙ ap (λ l. json_tokens (outline d) ++ l) (tokens_of_elements ds)

tokens_of_whole : (ds : List Data) → map (λ p. p.1) (whole ds) ≡ json_tokens (outline (array (items_of ds)))
tokens_of_whole [] = refl
tokens_of_whole (d ∷ ds) = ap (λ l. Token.begin_array ∷ l) (tokens_of_elements (d ∷ ds))

gaps_alone : (ts : List Token) (qs : List (List ℕ × Token)) → AreGaps qs → AreGaps (map (λ t. ([], t)) ts ++ qs)
gaps_alone [] qs h = h
gaps_alone (t ∷ ts) qs h = (tt, gaps_alone ts qs h)

gaps_on_line : (ts : List Token) (qs : List (List ℕ × Token)) → AreGaps qs → AreGaps (on_own_line ts ++ qs)
gaps_on_line [] qs h = h
gaps_on_line (t ∷ ts) qs h = ((inr refl, tt), gaps_alone ts qs h)

gaps_of_elements : (ds : List Data) → AreGaps (elements ds)
gaps_of_elements [] = ((inr refl, tt), tt)
gaps_of_elements (d ∷ ds) = gaps_on_line (json_tokens (outline d)) (elements ds) (gaps_of_elements ds)

gaps_of_whole : (ds : List Data) → AreGaps (whole ds)
gaps_of_whole [] = (tt, (tt, tt))
gaps_of_whole (d ∷ ds) = (tt, gaps_of_elements (d ∷ ds))

-- ---- the text of these tokens

grouped : (a b c d : List ℕ) → a ++ (b ++ (c ++ d)) ≡ (a ++ (b ++ c)) ++ d
grouped a b c d = simp append_assoc

spaced_alone : (ended : Bool) (ts : List Token) (qs : List (List ℕ × Token))
    → print_spaced ended (map (λ t. ([], t)) ts ++ qs) ≡ print_from ended ts ++ print_spaced (after ended ts) qs
unfolding print_spaced print_from
spaced_alone ended [] qs = refl
spaced_alone ended (t ∷ ts) qs =
    ap (λ l. separator ended t ++ (token_text t ++ l)) (spaced_alone (ends t) ts qs)
    ∙ grouped (separator ended t) (token_text t) (print_from (ends t) ts) (print_spaced (after (ends t) ts) qs)

spaced_on_line : (ended : Bool) (t : Token) (ts : List Token) (qs : List (List ℕ × Token)) → begins t ≡ true
    → print_spaced ended (on_own_line (t ∷ ts) ++ qs) ≡ comma_if ended ++ (10 ∷ (print (t ∷ ts) ++ print_spaced (after (ends t) ts) qs))
unfolding print_spaced print_from
spaced_on_line true t ts qs first =
    ap₂ (λ b l. cond b (44 ∷ []) [] ++ (10 ∷ (token_text t ++ l))) first (spaced_alone (ends t) ts qs)
    ∙ ap (λ l. 44 ∷ 10 ∷ l) (sym (append_assoc (token_text t) (print_from (ends t) ts) (print_spaced (after (ends t) ts) qs)))
spaced_on_line false t ts qs first =
    ap (λ l. 10 ∷ (token_text t ++ l)) (spaced_alone (ends t) ts qs)
    ∙ ap (λ l. 10 ∷ l)
    (sym (append_assoc (token_text t) (print_from (ends t) ts) (print_spaced (after (ends t) ts) qs)))

mutual
  items_ended : (ds : Items) (ended : Bool) → after ended (items_tokens (items_outline ds)) ≡ true
  items_ended no_items ended = refl
  items_ended (item d ds) ended = fold-append _ _ (json_tokens (outline d)) (items_tokens (items_outline ds)) ∙ items_ended ds _

  members_ended : (ms : Members) (ended : Bool) → after ended (members_tokens (members_outline ms)) ≡ true
  members_ended no_members ended = refl
  members_ended (member k d ms) ended = fold-append _ _ (json_tokens (outline d)) (members_tokens (members_outline ms)) ∙ members_ended ms _

-- the first of these tokens begins a value, and a value has ended after the last
record AreOfValue (ts : List Token) : Type 0 where
  pub first : Token
  pub others : List Token
  pub are : ts ≡ first ∷ others
  pub opens : begins first ≡ true
  pub closes : after (ends first) others ≡ true

of_value : (d : Data) → AreOfValue (json_tokens (outline d))
of_value null = record { first = Token.null; others = []; are = refl; opens = refl; closes = refl }
of_value (boolean b) = record { first = Token.boolean b; others = []; are = refl; opens = refl; closes = refl }
of_value (number n) = record { first = Token.number _; others = []; are = refl; opens = refl; closes = refl }
of_value (string s) = record { first = Token.string s; others = []; are = refl; opens = refl; closes = refl }
of_value (array ds) = record {
  first = Token.begin_array;
  others = items_tokens (items_outline ds);
  are = refl;
  opens = refl;
  closes = items_ended ds false;
}
of_value (object ms) = record {
  first = Token.begin_object;
  others = members_tokens (members_outline ms);
  are = refl;
  opens = refl;
  closes = members_ended ms false;
}

spaced_value : (ended : Bool) (ts : List Token) (qs : List (List ℕ × Token)) → AreOfValue ts
    → print_spaced ended (on_own_line ts ++ qs) ≡ comma_if ended ++ (10 ∷ (print ts ++ print_spaced true qs))
spaced_value ended ts qs v =
    ap (λ l. print_spaced ended (on_own_line l ++ qs)) v.are ∙ spaced_on_line ended v.first v.others qs v.opens
    ∙ ap₂ (λ l b. comma_if ended ++ (10 ∷ (print l ++ print_spaced b qs))) (sym v.are) v.closes

spaced_element : (ended : Bool) (d : Data) (qs : List (List ℕ × Token))
    → print_spaced ended (on_own_line (json_tokens (outline d)) ++ qs)
    ≡ comma_if ended ++ (10 ∷ (compact_text d ++ print_spaced true qs))
spaced_element ended d qs =
    spaced_value ended (json_tokens (outline d)) qs (of_value d)
    ∙ ap (λ l. comma_if ended ++ (10 ∷ (l ++ print_spaced true qs))) (print-outline d)

further_text : (ds : List Data) → further_elements (map compact_text ds) ≡ print_spaced true (elements ds) ++ codes "\n"
unfolding print_spaced
further_text [] = refl
further_text (d ∷ ds) =
    ap (λ l. 44 ∷ 10 ∷ (compact_text d ++ l)) (further_text ds)
    ∙ ap (λ l. 44 ∷ 10 ∷ l) (sym (append_assoc (compact_text d) (print_spaced true (elements ds)) (codes "\n")))
    ∙ ap (λ l. l ++ codes "\n") (sym (spaced_element true d (elements ds)))

whole_text : (ds : List Data) → array_text (map compact_text ds) ≡ print_spaced false (whole ds) ++ codes "\n"
unfolding print_spaced
whole_text [] = refl
whole_text (d ∷ ds) =
    ap (λ l. 91 ∷ 10 ∷ (compact_text d ++ l)) (further_text ds)
    ∙ ap (λ l. 91 ∷ 10 ∷ l) (sym (append_assoc (compact_text d) (print_spaced true (elements ds)) (codes "\n")))
    ∙ ap (λ l. 91 ∷ (l ++ codes "\n")) (sym (spaced_element false d (elements ds)))

-- ---- the value that the text is parsed as

mutual
  depth_outline : (d : Data) → tree.depth (outline d) ≡ depth d
  depth_outline null = refl
  depth_outline (boolean b) = refl
  depth_outline (number n) = refl
  depth_outline (string s) = refl
  depth_outline (array ds) = ap suc (items_depth_outline ds)
  depth_outline (object ms) = ap suc (members_depth_outline ms)

  items_depth_outline : (ds : Items) → tree.items_depth (items_outline ds) ≡ items_depth ds
  items_depth_outline no_items = refl
  items_depth_outline (item d ds) = ap₂ max (depth_outline d) (items_depth_outline ds)

  members_depth_outline : (ms : Members) → tree.members_depth (members_outline ms) ≡ members_depth ms
  members_depth_outline no_members = refl
  members_depth_outline (member k d ms) = ap₂ max (depth_outline d) (members_depth_outline ms)

self_le : (n : ℕ) → n ≤ n
self_le n = omega arith

-- if the tokens of a text are those of a value, `HasNumbers` holds for the value
numbers_of : (text : List ℕ) (d : Data) → tokens text ≡ json_tokens (outline d) → HasNumbers (outline d)
numbers_of text d same =
    let j = outline d in
    value-HasNumbers (tree.depth j) (tokens text) [] j (ArePrintableOrBad-tokens text)
    (ap (json.value (tree.depth j)) (same ∙ sym (append-nil (json_tokens j)))
    ∙ value-json_tokens j (tree.depth j) [] (self_le (tree.depth j)))

-- the JSON value that tokens are parsed as
abbrev parsed : List Token → Option json.Json
parsed ts = option_and_then (λ p. json.if_last p.0 p.1) (json.value max_depth ts)

parsed_value : (d : Data) → depth d ≤ max_depth → parsed (json_tokens (outline d)) ≡ Some (outline d)
parsed_value d shallow =
    let j = outline d in
    ap (option_and_then (λ p. json.if_last p.0 p.1))
    (ap (json.value max_depth) (sym (append-nil (json_tokens j)))
    ∙ value-json_tokens j max_depth [] (subst (λ n. n ≤ max_depth) (sym (depth_outline d)) shallow))

-- the text of a value has the tokens of the value, is parsed as it, and is not too deep
pub record IsRead (d : Data) : Type 0 where
  pub same : tokens (compact_text d) ≡ json_tokens (outline d)
  pub value : read (compact_text d) ≡ Some d
  pub shallow : suc (depth d) ≤ max_depth

is_converted : (d : Data) → IsRead d → of_json (outline d) ≡ Some d
is_converted d r =
    sym (ap (option_and_then of_json) (ap parsed r.same ∙ parsed_value d (omega (arith, r.shallow)))) ∙ r.value

abbrev pub AreRead : List Data → Type 0
AreRead [] = Unit {0}
AreRead (d ∷ ds) = IsRead d × AreRead ds

items_numbers : (ds : List Data) → AreRead ds → ItemsHaveNumbers (items_outline (items_of ds))
items_numbers [] r = tt
items_numbers (d ∷ ds) r = (numbers_of (compact_text d) d r.0.same, items_numbers ds r.1)

items_converted : (ds : List Data) → AreRead ds → of_items (items_outline (items_of ds)) ≡ Some (items_of ds)
items_converted [] r = refl
items_converted (d ∷ ds) r = ap₂ (λ o p. option_and_then (λ x. option_map (item x) p) o) (is_converted d r.0) (items_converted ds r.1)

below_limit : (n : ℕ) → suc n ≤ max_depth → n ≤ 126
below_limit n h = omega arith

items_shallow : (ds : List Data) → AreRead ds → items_depth (items_of ds) ≤ 126
items_shallow [] r = omega arith
items_shallow (d ∷ ds) r = max-le (below_limit (depth d) r.0.shallow) (items_shallow ds r.1)

not_deep : (n : ℕ) → suc n ≤ max_depth → n ≤ max_depth
not_deep n h = omega arith

one_deeper : (n : ℕ) → n ≤ 126 → suc n ≤ max_depth
one_deeper n h = omega arith

-- the text of an array of such values has the tokens of the array
array_tokens : (ds : List Data) → AreRead ds → tokens (array_text (map compact_text ds)) ≡ json_tokens (outline (array (items_of ds)))
array_tokens ds r =
    let d = array (items_of ds) in
    let gaps = gaps_of_whole ds in
    let printable : ArePrintable (map (λ p. p.1) (whole ds)) =
    subst ArePrintable (sym (tokens_of_whole ds)) (ArePrintable-json_tokens (outline d) (items_numbers ds r)) in
    ap tokens (whole_text ds) ∙ with_line_feed (whole ds) gaps printable ∙ tokens-print_spaced (whole ds) gaps printable
    ∙ tokens_of_whole ds

-- such an array is not too deep
array_shallow : (ds : List Data) → AreRead ds → depth (array (items_of ds)) ≤ max_depth
array_shallow ds r = one_deeper (items_depth (items_of ds)) (items_shallow ds r)

-- the text of an array of such values is parsed as the array
pub array_read : (ds : List Data) → AreRead ds → read (array_text (map compact_text ds)) ≡ Some (array (items_of ds))
array_read ds r =
    ap (λ ts. option_and_then of_json (parsed ts)) (array_tokens ds r)
    ∙ ap (option_and_then of_json) (parsed_value (array (items_of ds)) (array_shallow ds r)) ∙ ap (option_map array) (items_converted ds r)

less_deep : (n : ℕ) → n ≤ max_depth → n ≤ json.max_depth
less_deep n h = omega arith

-- a JSON parser that keeps numbers as texts parses it as the outline of the array
array_document : (ds : List Data) → AreRead ds
    → json.document (array_text (map compact_text ds)) ≡ Some (outline (array (items_of ds)))
array_document ds r =
    let d = array (items_of ds) in
    let j = outline d in
    let shallow : tree.depth j ≤ json.max_depth =
    less_deep (tree.depth j) (subst (λ n. n ≤ max_depth) (sym (depth_outline d)) (array_shallow ds r)) in
    ap (λ ts. option_and_then (λ p. json.if_last p.0 p.1) (json.value json.max_depth ts))
    (array_tokens ds r ∙ sym (append-nil (json_tokens j)))
    ∙ ap (option_and_then (λ p. json.if_last p.0 p.1)) (value-json_tokens j json.max_depth [] shallow)

-- ---- entries

-- the text that is written for an entry is parsed back
pub read_back : {E : Type 0} (result : Result (String Global) E) (v : Data) (entry : Entry) → v ≡ entry_object entry
    → IfOk result (λ s. has_float v ≡ false → string_bytes s ≡ compact_text v)
    → IfOk result (λ s. IsInOrder (string_bytes s) v)
    → IfOk result (λ s. depth v ≤ max_depth → read (string_bytes s) ≡ Some v) → IfOk result (λ _. IsReadBack entry)
read_back (Ok s) v entry is written order reads =
    let no_float : has_float v ≡ false = ap has_float is ∙ entry_has_no_float entry in
    let shallow : depth v ≤ max_depth = subst (λ d. depth d ≤ max_depth) (sym is) (not_deep _ (entry_is_shallow entry)) in
    let text : string_bytes s ≡ json_text_of entry = written no_float ∙ ap compact_text is in
    record {
      same_tokens = ap tokens (sym text) ∙ tokens_from_order (string_bytes s) v order no_float ∙ ap (λ d. json_tokens (outline d)) is;
      value = ap read (sym text) ∙ reads shallow ∙ ap Some is;
    }
read_back (Err e) v entry is written order reads = tt

are_read : (entries : List Entry) → AllByRecursion IsReadBack entries → AreRead (map entry_object entries)
are_read [] h = tt
are_read (entry ∷ rest) h = (record { same = h.0.same_tokens; value = h.0.value; shallow = entry_is_shallow entry }, are_read rest h.1)

texts_are : (entries : List Entry) → map compact_text (map entry_object entries) ≡ map json_text_of entries
texts_are [] = refl
texts_are (entry ∷ rest) = ap (λ l. json_text_of entry ∷ l) (texts_are rest)

-- if the text of each entry is parsed back, the text of the array of the entries is parsed as the array of their objects
pub entries_read : (entries : List Entry) → AllByRecursion IsReadBack entries
    → read (array_text (map json_text_of entries)) ≡ Some (array_of entry_object entries)
entries_read entries h =
    ap (λ texts. read (array_text texts)) (sym (texts_are entries))
    ∙ array_read (map entry_object entries) (are_read entries h)

-- and a JSON parser that keeps numbers as texts parses it as the outline of that array
pub entries_document : (entries : List Entry) → AllByRecursion IsReadBack entries
    → json.document (array_text (map json_text_of entries)) ≡ Some (outline (array_of entry_object entries))
entries_document entries h =
    ap (λ texts. json.document (array_text texts)) (sym (texts_are entries))
    ∙ array_document (map entry_object entries) (are_read entries h)
