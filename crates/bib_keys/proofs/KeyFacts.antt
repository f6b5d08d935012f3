-- New keys, and the keys that are taken.
use Rattle.std.proofs.Common.{◌≡◌, ℕ, zero, suc, ◌+◌, ◌<◌, ◌≤◌, ◌⊎◌, Bool, true, false, cond, List, [], ◌∷◌, ◌++◌, Option, Some, None, refl, sym, ◌∙◌, ap, subst, inl, inr, arith, length, take, get_or}
use Rattle.std.specs.Prelude.{◌||◌, bytes_eq, is_some}
use Rattle.std.specs.Char.{to_ascii_lowercase}
use Rattle.std.specs.List.{All, list_any}
use Rattle.std.specs.Option.{unwrap_or}
use Rattle.std.specs.Str.{str_eq_ignore_ascii_case, str_to_ascii_lowercase}
use Rattle.std.proofs.lemmas.List.{map-append, take_more}
use Rattle.std.proofs.lemmas.List.Elements.{All-push}
use Rattle.std.proofs.lemmas.List.Quantifiers.{all_pairs_push}
use Rattle.std.proofs.lemmas.List.Folds.{list_any-append, list_any_at}
use Rattle.std.proofs.lemmas.Slice.Eq.{bytes_eq-Decides}
use Rattle.std.proofs.lemmas.Bool.{or_right, cases_lt, cases_Bool}
use Rattle.bib_entry.specs.declared.entry.Entry.{Entry}
use Rattle.bib_text.proofs.PlaceFacts.{test_clash}
use Rattle.bib_text.proofs.BoolFacts.{or_last}
use Rattle.bib_keys.specs.Bases.{pattern_text}
use Rattle.bib_keys.specs.Characters.{CanServeAsKey}
use Rattle.bib_keys.specs.Keys.{AreDistinct, AreKeys, HasSuffix, IsFirstNew, IsSuffix, has_same_key}
use Rattle.bib_keys.specs.Taken.{AreBelowTaken, AreTakenBelow, IsFirstFree, Numbers, SetsNumber, TakesKey, is_key_taken}
use Rattle.bib_keys.specs.declared.pattern.Part.{Part}
use Rattle.bib_keys.proofs.AllowedFacts.{clean_pattern_text, suffixed_allowed}
use Rattle.bib_keys.proofs.SuffixFacts.{no_suffix}

-- a number has one suffix
pub one_suffix : (a b : ℕ) (s t : List ℕ) → IsSuffix a s → IsSuffix b t → a ≡ b → s ≡ t
one_suffix _ _ _ _ IsSuffix.none IsSuffix.none e = refl
one_suffix _ _ _ _ IsSuffix.none (IsSuffix.more k small one) e = absurd (omega arith)
one_suffix _ _ _ _ (IsSuffix.more k small one) IsSuffix.none e = absurd (omega arith)
one_suffix _ _ _ _ (IsSuffix.more {n = n} {letters = s} k small one) (IsSuffix.more {n = m} {letters = t} j little other) e =
    let numbers : n ≡ m = omega arith in
    let letters : k ≡ j = omega arith in
    let rest : s ≡ t = one_suffix n m s t one other numbers in cc

-- a text with the suffix of a number is one text
pub one_with_suffix : (n : ℕ) (text a b : List ℕ) → HasSuffix n text a → HasSuffix n text b → a ≡ b
one_with_suffix n text a b one other =
    one.is ∙ ap (λ s. text ++ s) (one_suffix n n one.suffix other.suffix one.numbered other.numbered refl) ∙ sym other.is

-- if the suffixes below a number are taken, and so is the one with the number, those below the next number are taken
pub more_taken : (taken : Numbers) (text key : List ℕ) (number : ℕ) → AreTakenBelow taken text number → HasSuffix number text key
    → is_key_taken taken key ≡ true → AreTakenBelow taken text (number + 1)
more_taken taken text key number before has this n other below has_other = of (cases_lt n number) where
  of : (n < number) ⊎ (number ≤ n) → is_key_taken taken other ≡ true
  of (inl less) = before n other less has_other
  of (inr not_less) =
      let same : n ≡ number = omega arith in
      let one : other ≡ key = one_with_suffix number text other key (subst (λ m. HasSuffix m text other) same has_other) has in
      subst (λ k. is_key_taken taken k ≡ true) (sym one) this

-- if a key is taken, so is each key that is the same in any ASCII case
same_taken : (taken : Numbers) (a b : List ℕ) → str_to_ascii_lowercase a ≡ str_to_ascii_lowercase b → is_key_taken taken a ≡ true
    → is_key_taken taken b ≡ true
same_taken taken a b same h = sym (ap (λ l. is_some (taken l)) same) ∙ h

-- texts that are the same in any ASCII case stay so with the same suffix
same_suffixed : (a b s : List ℕ) → str_to_ascii_lowercase a ≡ str_to_ascii_lowercase b
    → str_to_ascii_lowercase (a ++ s) ≡ str_to_ascii_lowercase (b ++ s)
same_suffixed a b s same =
    map-append to_ascii_lowercase a s ∙ ap (λ l. l ++ str_to_ascii_lowercase s) same ∙ sym (map-append to_ascii_lowercase b s)

-- the suffixes below the number that the map has for a text are taken
pub taken_before : (taken : Numbers) (text : List ℕ) (start : ℕ) → AreBelowTaken taken
    → start ≡ unwrap_or (taken (str_to_ascii_lowercase text)) 0 → AreTakenBelow taken text start
taken_before taken text start closed is n other below has =
    of (taken (str_to_ascii_lowercase text)) refl (subst (λ m. n < m) is below) where
      of : (o : Option ℕ) → taken (str_to_ascii_lowercase text) ≡ o → n < unwrap_or o 0 → is_key_taken taken other ≡ true
      of None same less = absurd (omega arith)
      of (Some m) same less = closed.below m text same n other less has

-- the text is the new key, or is taken
text_taken : (taken : Numbers) (text key : List ℕ) (number : ℕ) → IsFirstFree taken text number key
    → (text ≡ key) ⊎ (is_key_taken taken text ≡ true)
text_taken taken text key zero new = inl (one_with_suffix 0 text text key (no_suffix 0 text refl) new.suffixed)
text_taken taken text key (suc n) new = inr (new.first 0 text (omega arith) (no_suffix 0 text refl))

-- after the numbers of the text and of its key are set, the key is taken in addition to the earlier ones
pub now_taken : (m0 m1 m2 : Numbers) (text key : List ℕ) (number : ℕ) → IsFirstFree m0 text number key
    → SetsNumber m0 m1 (str_to_ascii_lowercase text) (number + 1) → SetsNumber m1 m2 (str_to_ascii_lowercase key) 1
    → (other : List ℕ) → is_key_taken m2 other ≡ (str_eq_ignore_ascii_case key other || is_key_taken m0 other)
now_taken m0 m1 m2 text key number new one two other = of (cases_Bool (bytes_eq k q)) (cases_Bool (bytes_eq t q)) where
  k : List ℕ
  k = str_to_ascii_lowercase key

  t : List ℕ
  t = str_to_ascii_lowercase text

  q : List ℕ
  q = str_to_ascii_lowercase other

  old_taken : bytes_eq k q ≡ false → bytes_eq t q ≡ true → is_key_taken m0 other ≡ true
  old_taken differs same = from (text_taken m0 text key number new) where
    equal : t ≡ q
    equal = (bytes_eq-Decides t q).0 same

    from : (text ≡ key) ⊎ (is_key_taken m0 text ≡ true) → is_key_taken m0 other ≡ true
    from (inl is) = absurd (test_clash (bytes_eq k q) ((bytes_eq-Decides k q).1 (ap str_to_ascii_lowercase (sym is) ∙ equal)) differs)
    from (inr taken) = same_taken m0 text other equal taken

  of : (bytes_eq k q ≡ true) ⊎ (bytes_eq k q ≡ false) → (bytes_eq t q ≡ true) ⊎ (bytes_eq t q ≡ false)
      → is_some (m2 q) ≡ (bytes_eq k q || is_some (m0 q))
  of (inl same) _ =
      ap is_some (two q) ∙ ap (λ b. is_some (cond b (Some 1) (m1 q))) same ∙ sym (ap (λ b. b || is_some (m0 q)) same)
  of (inr differs) (inl same) =
      ap is_some (two q) ∙ ap (λ b. is_some (cond b (Some 1) (m1 q))) differs ∙ ap is_some (one q)
      ∙ ap (λ b. is_some (cond b (Some (number + 1)) (m0 q))) same
      ∙ sym (ap (λ b. b || is_some (m0 q)) differs ∙ old_taken differs same)
  of (inr differs) (inr other_text) =
      ap is_some (two q) ∙ ap (λ b. is_some (cond b (Some 1) (m1 q))) differs ∙ ap is_some (one q)
      ∙ ap (λ b. is_some (cond b (Some (number + 1)) (m0 q))) other_text
      ∙ sym (ap (λ b. b || is_some (m0 q)) differs)

-- the suffixes with smaller numbers are taken then too
pub now_closed : (m0 m1 m2 : Numbers) (text key : List ℕ) (number : ℕ) → AreBelowTaken m0 → IsFirstFree m0 text number key
    → SetsNumber m0 m1 (str_to_ascii_lowercase text) (number + 1) → SetsNumber m1 m2 (str_to_ascii_lowercase key) 1 → AreBelowTaken m2
now_closed m0 m1 m2 text key number closed new one two = record {
  below = λ found base has n other below suffixed.
      of found n base other has below suffixed
      (cases_Bool (bytes_eq (str_to_ascii_lowercase key) (str_to_ascii_lowercase base)))
      (cases_Bool (bytes_eq (str_to_ascii_lowercase text) (str_to_ascii_lowercase base)));
} where
  others : (other : List ℕ) → is_key_taken m2 other ≡ (str_eq_ignore_ascii_case key other || is_key_taken m0 other)
  others = now_taken m0 m1 m2 text key number new one two

  old : (other : List ℕ) → is_key_taken m0 other ≡ true → is_key_taken m2 other ≡ true
  old other taken = others other ∙ or_right (str_eq_ignore_ascii_case key other) (is_key_taken m0 other) taken

  itself : is_key_taken m2 key ≡ true
  itself =
      others key
      ∙ ap (λ b. b || is_key_taken m0 key) ((bytes_eq-Decides (str_to_ascii_lowercase key) (str_to_ascii_lowercase key)).1 refl)

  of : (found n : ℕ) (base other : List ℕ) → m2 (str_to_ascii_lowercase base) ≡ Some found → n < found → HasSuffix n base other
      → (bytes_eq (str_to_ascii_lowercase key) (str_to_ascii_lowercase base) ≡ true)
      ⊎ (bytes_eq (str_to_ascii_lowercase key) (str_to_ascii_lowercase base) ≡ false)
      → (bytes_eq (str_to_ascii_lowercase text) (str_to_ascii_lowercase base) ≡ true)
      ⊎ (bytes_eq (str_to_ascii_lowercase text) (str_to_ascii_lowercase base) ≡ false)
      → is_key_taken m2 other ≡ true
  of found n base other has below suffixed (inl same) _ =
      let q = str_to_ascii_lowercase base in
      let here : Some 1 ≡ Some found = sym (two q ∙ ap (λ b. cond b (Some 1) (m1 q)) same) ∙ has in
      let one_more : 1 ≡ found = cc in
      let first : n ≡ 0 = omega arith in
      let equal : base ≡ other = one_with_suffix n base base other (no_suffix n base first) suffixed in
      subst (λ l. is_key_taken m2 l ≡ true) equal (ap is_some has)
  of found n base other has below suffixed (inr differs) (inl same) =
      let q = str_to_ascii_lowercase base in
      let here : Some (number + 1) ≡ Some found =
      sym
      (two q ∙ ap (λ b. cond b (Some 1) (m1 q)) differs ∙ one q ∙ ap (λ b. cond b (Some (number + 1)) (m0 q)) same) ∙ has in
      let limit : number + 1 ≡ found = cc in
      let equal = (bytes_eq-Decides (str_to_ascii_lowercase text) q).0 same in
      let twin : List ℕ = text ++ suffixed.suffix in
      let twin_suffixed : HasSuffix n text twin = record { suffix = suffixed.suffix; numbered = suffixed.numbered; is = refl } in
      let alike : str_to_ascii_lowercase twin ≡ str_to_ascii_lowercase other =
      same_suffixed text base suffixed.suffix equal ∙ ap str_to_ascii_lowercase (sym suffixed.is) in
      same_taken m2 twin other alike (by_number twin twin_suffixed (cases_lt n number) (omega arith)) where
        by_number : (twin : List ℕ) → HasSuffix n text twin → (n < number) ⊎ (number ≤ n) → n < number + 1 → is_key_taken m2 twin ≡ true
        by_number twin has_twin (inl less) _ = old twin (new.first n twin less has_twin)
        by_number twin has_twin (inr not_less) limit =
            let last : n ≡ number = omega arith in
            let equal : twin ≡ key =
            one_with_suffix number text twin key (subst (λ m. HasSuffix m text twin) last has_twin) new.suffixed in
            subst (λ l. is_key_taken m2 l ≡ true) (sym equal) itself
  of found n base other has below suffixed (inr differs) (inr other_text) =
      let q = str_to_ascii_lowercase base in
      old other
      (closed.below found base
      (sym
      (two q ∙ ap (λ b. cond b (Some 1) (m1 q)) differs ∙ one q ∙ ap (λ b. cond b (Some (number + 1)) (m0 q)) other_text) ∙ has) n other
      below
      suffixed)

-- after the numbers of a text and of its first free key are set, the text has got this key
pub gets_key : (m0 m1 m2 : Numbers) (text key text_name key_name : List ℕ) (number : ℕ) → AreBelowTaken m0
    → text_name ≡ str_to_ascii_lowercase text → key_name ≡ str_to_ascii_lowercase key → IsFirstFree m0 text number key
    → SetsNumber m0 m1 text_name (number + 1) → SetsNumber m1 m2 key_name 1 → TakesKey m0 m2 text key
gets_key m0 m1 m2 text key text_name key_name number closed is_text is_key free one two =
    let one' = subst (λ l. SetsNumber m0 m1 l (number + 1)) is_text one in
    let two' = subst (λ l. SetsNumber m1 m2 l 1) is_key two in
    record {
      number = number;
      free = free;
      others = now_taken m0 m1 m2 text key number free one' two';
      closed = now_closed m0 m1 m2 text key number closed free one' two';
    }

-- a test that fails for a whole list fails for each element
none_at : {X : Type 0} (p : X → Bool) (xs : List X) (i : ℕ) (d : X) → i < length xs → list_any p xs ≡ false → p (get_or xs i d) ≡ false
none_at p xs i d within none = of (cases_Bool (p (get_or xs i d))) where
  of : (p (get_or xs i d) ≡ true) ⊎ (p (get_or xs i d) ≡ false) → p (get_or xs i d) ≡ false
  of (inl passes) = absurd (test_clash (list_any p xs) (list_any_at p xs i d within passes) none)
  of (inr fails) = fails

-- a key is among keys and one more exactly if it is that one, in any ASCII case, or among the others
has_more : (keys : List (List ℕ)) (key other : List ℕ) (b : Bool) → b ≡ has_same_key keys other
    → (str_eq_ignore_ascii_case key other || b) ≡ has_same_key (keys ++ (key ∷ [])) other
has_more keys key other b is =
    or_last (str_eq_ignore_ascii_case key other) b ∙ ap (λ x. x || (str_eq_ignore_ascii_case key other || false)) is
    ∙ sym (list_any-append (λ own. str_eq_ignore_ascii_case own other) keys (key ∷ []))

-- the taken keys are exactly these, in any ASCII case, and for each name in the map, the suffixes with smaller numbers are taken
pub record AreTaken (taken : Numbers) (keys : List (List ℕ)) : Type 0 where
  pub closed : AreBelowTaken taken
  pub same : (key : List ℕ) → is_key_taken taken key ≡ has_same_key keys key

-- a map without names has no keys
pub none_taken : (taken : Numbers) → ((q : List ℕ) → taken q ≡ None) → AreTaken taken []
none_taken taken none = record {
  closed = record {
    below = λ number text has n other below suffixed. absurd (clash (taken (str_to_ascii_lowercase text)) number (none _) has);
  };
  same = λ key. ap is_some (none (str_to_ascii_lowercase key));
} where
  clash : (o : Option ℕ) (n : ℕ) → o ≡ None → o ≡ Some n → ⊥
  clash o n x y = cc

-- if the taken keys are `keys`, the key that a text takes is its first new key
pub is_first : (old new : Numbers) (keys : List (List ℕ)) (text key : List ℕ) → AreTaken old keys → TakesKey old new text key
    → IsFirstNew keys text key
is_first old new keys text key are is = record {
  number = is.number;
  suffixed = is.free.suffixed;
  new = sym (are.same key) ∙ is.free.new;
  first = λ n other below has. sym (are.same other) ∙ is.free.first n other below has;
}

-- one more key is taken
pub more_keys : (old new : Numbers) (keys : List (List ℕ)) (text key : List ℕ) → AreTaken old keys → TakesKey old new text key
    → AreTaken new (keys ++ (key ∷ []))
more_keys old new keys text key are is = record {
  closed = is.closed;
  same = λ other. is.others other ∙ has_more keys key other (is_key_taken old other) (are.same other);
}

-- the keys of the entries up to an index are those of the entries before it, and the first new key for the one at it
pub keys_more : (pattern : List Part) (entries : List Entry) (i : ℕ) (entry : Entry) (keys : List (List ℕ)) (text key : List ℕ)
    → AreKeys pattern (take i entries) keys → i < length entries → entry ≡ get_or entries i entry → text ≡ pattern_text pattern entry
    → IsFirstNew keys text key → AreKeys pattern (take (i + 1) entries) (keys ++ (key ∷ []))
keys_more pattern entries i entry keys text key are within is is_text first =
    subst (λ es. AreKeys pattern es (keys ++ (key ∷ [])))
    (sym (take_more entries i entry within ∙ ap (λ e. take i entries ++ (e ∷ [])) (sym is)))
    (AreKeys.next entry are (subst (λ t. IsFirstNew keys t key) is_text first))

-- the new keys of entries are distinct
pub distinct_keys : (pattern : List Part) (entries : List Entry) (keys : List (List ℕ)) → AreKeys pattern entries keys → AreDistinct keys
distinct_keys pattern _ _ AreKeys.none = λ i j d less within. absurd (omega arith)
distinct_keys pattern _ _ (AreKeys.next {entries = entries} {keys = keys} {key = key} entry are first) =
    all_pairs_push (λ a b. str_eq_ignore_ascii_case a b ≡ false) keys key (distinct_keys pattern entries keys are)
    (λ i d within. none_at (λ own. str_eq_ignore_ascii_case own key) keys i d within first.new)

-- the new keys of entries can be keys
pub allowed_keys : (pattern : List Part) (entries : List Entry) (keys : List (List ℕ)) → AreKeys pattern entries keys
    → All CanServeAsKey keys
allowed_keys pattern _ _ AreKeys.none = λ i d within. absurd (omega arith)
allowed_keys pattern _ _ (AreKeys.next {entries = entries} {keys = keys} {key = key} entry are first) =
    All-push CanServeAsKey keys key (allowed_keys pattern entries keys are)
    (suffixed_allowed first.number (pattern_text pattern entry) key (clean_pattern_text pattern entry) first.suffixed)
