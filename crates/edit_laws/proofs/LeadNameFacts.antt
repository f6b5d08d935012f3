-- The entries that names mean, before and after entries get new keys.
use Rattle.std.proofs.Common.{◌≡◌, inl, inr, ℕ, zero, suc, ◌+◌, ◌<◌, Bool, true, false, cond, List, [], ◌∷◌, ◌++◌, map, take, codes, Option, Some, None, refl, sym, ap, ap₂, ◌∙◌, subst, arith, ◌||◌}
use Rattle.std.specs.Prelude.{bytes_eq, is_some, option_to_list, slice_get, slice_index_or}
use Rattle.std.specs.List.{AllZip, list_any}
use Rattle.std.specs.Option.{unwrap_or, option_or}
use Rattle.std.specs.Str.{str_to_ascii_lowercase}
use Rattle.std.proofs.lemmas.Bool.{both_ways, cases_lt, or_right, or_left}
use Rattle.std.proofs.lemmas.List.Folds.{list_any-append}
use Rattle.std.proofs.lemmas.Slice.Eq.{bytes_eq-Decides}
use Rattle.bib_text.proofs.ListFacts.{some_same}
use Rattle.bib_syntax.specs.Grammar.{is_word}
use Rattle.bib_syntax.specs.Reading.{EntryReading}
use Rattle.bib_queries.specs.Names.{aliases_of}
use Rattle.edit_entries.specs.Documents.{first_position, is_keyed}
use Rattle.edit_entries.specs.NewNames.{IsNewKeyTaken, has_word, new_keys, staying_names, kept_names}
use Rattle.edit_entries.specs.References.{has_alias, has_key_word, index_in_any_case, meant_index, unless_other}
use Rattle.edit_entries.proofs.DefinitionFacts.{lower_same, word_from}
use Rattle.edit_laws.proofs.LeadListFacts.{IsFirst, first_facts, first_is, first_same, get_take, index_of_get, none_facts, none_is, zip_back, zip_get, zip_weaker}
use Rattle.edit_laws.specs.Renamed.{AreEarlierRenamed}

-- ---- names in any ASCII case

-- a test fails if it implies another test that fails
fails_too : (b other : Bool) → other ≡ false → (b ≡ true → other ≡ true) → b ≡ false
fails_too true other fails implies = absurd (both_ways other fails (implies refl))
fails_too false other fails implies = refl

-- names that aren't equal in any ASCII case aren't equal
pub words_differ : (a b : List ℕ) → is_word a b ≡ false → bytes_eq a b ≡ false
words_differ a b other =
    fails_too (bytes_eq a b) (is_word a b) other (λ is. word_from a b (ap str_to_ascii_lowercase ((bytes_eq-Decides a b).0 is)))

-- ---- names that are taken

-- if an element of the first list passes, an element of the joined list passes
any_left : (p : List ℕ → Bool) (xs ys : List (List ℕ)) → list_any p xs ≡ true → list_any p (xs ++ ys) ≡ true
any_left p xs ys is = list_any-append p xs ys ∙ or_left (list_any p xs) (list_any p ys) is

-- if an element of the second list passes, one of both lists passes
any_right : (p : List ℕ → Bool) (xs ys : List (List ℕ)) → list_any p ys ≡ true → list_any p (xs ++ ys) ≡ true
any_right p xs ys is = list_any-append p xs ys ∙ or_right (list_any p xs) (list_any p ys) is

-- the key of an entry without a new key is, in any ASCII case, among the names that stay
stays : (keys : ℕ → Option (List ℕ)) (index at : ℕ) (es : List EntryReading) (j : ℕ) (x : EntryReading) (name : List ℕ) → at ≡ index + j
    → slice_get es j ≡ Some x → keys at ≡ None → is_word x.key.text name ≡ true → has_word (staying_names keys index es) name ≡ true
stays keys index at [] j x name is here none word = absurd (cc)
stays keys index at (y ∷ ys) zero x name is here none word =
    let same : at ≡ index = omega arith in
    any_left (λ own. is_word own name) (kept_names (is_some (keys index)) y) (staying_names keys (suc index) ys)
    (subst (λ b. has_word (kept_names b y) name ≡ true) (sym (ap is_some (sym (ap keys same) ∙ none)))
    (or_left (is_word y.key.text name) (list_any (λ own. is_word own name) (aliases_of y.fields))
    (ap (λ z. is_word z.key.text name) (some_same here) ∙ word)))
stays keys index at (y ∷ ys) (suc j) x name is here none word =
    any_right (λ own. is_word own name) (kept_names (is_some (keys index)) y) (staying_names keys (suc index) ys)
    (stays keys (suc index) at ys j x name (omega (arith, is)) here none word)

-- the new key of an entry is, in any ASCII case, among the new keys
is_new : (keys : ℕ → Option (List ℕ)) (index at : ℕ) (es : List EntryReading) (j : ℕ) (x : EntryReading) (other name : List ℕ)
    → at ≡ index + j → slice_get es j ≡ Some x → keys at ≡ Some other → is_word other name ≡ true
    → has_word (new_keys keys index es) name ≡ true
is_new keys index at [] j x other name is here gets word = absurd (cc)
is_new keys index at (y ∷ ys) zero x other name is here gets word =
    let same : at ≡ index = omega arith in
    any_left (λ own. is_word own name) (option_to_list (keys index)) (new_keys keys (suc index) ys)
    (subst (λ o. has_word (option_to_list o) name ≡ true) (sym (sym (ap keys same) ∙ gets)) (or_left (is_word other name) false word))
is_new keys index at (y ∷ ys) (suc j) x other name is here gets word =
    any_right (λ own. is_word own name) (option_to_list (keys index)) (new_keys keys (suc index) ys)
    (is_new keys (suc index) at ys j x other name (omega (arith, is)) here gets word)

module _ (es : List EntryReading) (keys : ℕ → Option (List ℕ)) (free : IsNewKeyTaken es keys → ⊥) where
  -- a new key isn't, in any ASCII case, the key of an entry that keeps it
  apart_from_kept : (k j : ℕ) (e x : EntryReading) (new : List ℕ) → slice_get es k ≡ Some e → keys k ≡ Some new → slice_get es j ≡ Some x
      → keys j ≡ None → is_word x.key.text new ≡ false
  apart_from_kept k j e x new here gets there none = by_word (is_word x.key.text new) refl
    where
      by_word : (b : Bool) → is_word x.key.text new ≡ b → is_word x.key.text new ≡ false
      by_word false is = is
      by_word true is =
          absurd (free (record {
            index = k;
            entry = e;
            new = new;
            here = here;
            gets = gets;
            taken =
                any_left (λ own. is_word own new) (staying_names keys 0 es) (new_keys keys 0 (take k es))
                (stays keys 0 j es j x new (omega arith) there none is);
          }))

  -- a new key isn't, in any ASCII case, the new key of an earlier entry
  apart_from_new : (i k : ℕ) (x e : EntryReading) (other new : List ℕ) → i < k → slice_get es i ≡ Some x → slice_get es k ≡ Some e
      → keys i ≡ Some other → keys k ≡ Some new → is_word other new ≡ false
  apart_from_new i k x e other new below there here gets' gets = by_word (is_word other new) refl
    where
      by_word : (b : Bool) → is_word other new ≡ b → is_word other new ≡ false
      by_word false is = is
      by_word true is =
          absurd (free (record {
            index = k;
            entry = e;
            new = new;
            here = here;
            gets = gets;
            taken =
                any_right (λ own. is_word own new) (staying_names keys 0 es) (new_keys keys 0 (take k es))
                (is_new keys 0 i (take k es) i x other new (omega arith) (get_take es k i below ∙ there) gets' is);
          }))

-- ---- an index, unless another one is found

-- if `unless_other` returns `i`, the first index is `i`, and the second one, if there is one, has the same key
unless_facts : (keys : List (List ℕ)) (a b : Option ℕ) (i : ℕ) → unless_other keys a b ≡ Some i
    → (a ≡ Some i) × ((j : ℕ) → b ≡ Some j → bytes_eq (slice_index_or keys i []) (slice_index_or keys j []) ≡ true)
unless_facts keys None b i is = absurd (cc)
unless_facts keys (Some k) None i is = (is, λ j there. absurd (cc))
unless_facts keys (Some k) (Some l) i is =
    by_test (bytes_eq (slice_index_or keys k []) (slice_index_or keys l [])) refl is
  where
    by_test : (b : Bool) → bytes_eq (slice_index_or keys k []) (slice_index_or keys l []) ≡ b → cond b (Some k) None ≡ Some i
        → (Some k ≡ Some i) × ((j : ℕ) → Some l ≡ Some j → bytes_eq (slice_index_or keys i []) (slice_index_or keys j []) ≡ true)
    by_test false test found = absurd (cc)
    by_test true test found = (
      found,
      λ j there.
          ap₂ (λ m n. bytes_eq (slice_index_or keys m []) (slice_index_or keys n [])) (sym (some_same found)) (sym (some_same there))
          ∙ test,
    )

-- `unless_other` returns the first index if the second one, if there is one, has the same key
unless_is : (keys : List (List ℕ)) (b : Option ℕ) (i : ℕ)
    → ((j : ℕ) → b ≡ Some j → bytes_eq (slice_index_or keys i []) (slice_index_or keys j []) ≡ true) → unless_other keys (Some i) b ≡ Some i
unless_is keys None i same = refl
unless_is keys (Some j) i same = ap (λ b. cond b (Some i) None) (same j refl)

-- ---- the entry that a name means

-- an index that a name means is that of an entry
pub meant_there : (es : List EntryReading) (field name : List ℕ) (i : ℕ) → meant_index es field name ≡ Some i
    → (e : EntryReading) × (slice_get es i ≡ Some e)
meant_there es field name i meant =
    by_exact (first_position (is_keyed name) es) (is_word field (codes "crossref")) refl meant
  where
    by_exact : (o : Option ℕ) (b : Bool) → first_position (is_keyed name) es ≡ o
        → option_or o (cond b (index_in_any_case es name) None) ≡ Some i → (e : EntryReading) × (slice_get es i ≡ Some e)
    by_exact (Some k) b exact is = let f = first_facts (is_keyed name) es i (exact ∙ is) in (f.element, f.here)
    by_exact None false exact is = absurd (cc)
    by_exact None true exact is =
        let found =
        unless_facts (map (λ e. e.key.text) es) (first_position (has_key_word name) es) (first_position (has_alias name) es) i is in
        let f = first_facts (has_key_word name) es i found.0 in
        (f.element, f.here)

module _ (es gs : List EntryReading) (keys : ℕ → Option (List ℕ)) (free : IsNewKeyTaken es keys → ⊥) (earlier : AreEarlierRenamed es keys)
    (own : (k : ℕ) (e g : EntryReading) → slice_get es k ≡ Some e → slice_get gs k ≡ Some g → g.key.text ≡ unwrap_or (keys k) e.key.text)
    (aliases : AllZip (λ e g. aliases_of g.fields ≡ aliases_of e.fields) es gs) where
  -- each old entry has a new entry at its index
  new_entry : (k : ℕ) (e : EntryReading) → slice_get es k ≡ Some e → (g : EntryReading) × (slice_get gs k ≡ Some g)
  new_entry k e here = let found = zip_get (λ x y. aliases_of y.fields ≡ aliases_of x.fields) es gs k e aliases here in (found.0, found.1)

  -- each new entry has an old entry at its index
  old_entry : (k : ℕ) (g : EntryReading) → slice_get gs k ≡ Some g → (e : EntryReading) × (slice_get es k ≡ Some e)
  old_entry k g here = let found = zip_back (λ x y. aliases_of y.fields ≡ aliases_of x.fields) es gs k g aliases here in (found.0, found.1)

  -- the key of a new entry is the new key of the old one, or the old key if there is no new one
  key_is : (k : ℕ) (e g : EntryReading) (o : Option (List ℕ)) → slice_get es k ≡ Some e → slice_get gs k ≡ Some g → keys k ≡ o
      → g.key.text ≡ unwrap_or o e.key.text
  key_is k e g o here there is = own k e g here there ∙ ap (λ p. unwrap_or p e.key.text) is

  -- an entry with a new key is the first new entry with this key
  renamed_first : (i : ℕ) (e : EntryReading) (new : List ℕ) → slice_get es i ≡ Some e → keys i ≡ Some new
      → first_position (is_keyed new) gs ≡ Some i
  renamed_first i e new here gets =
      let g = new_entry i e here in
      first_is (is_keyed new) gs i
      (record {
        element = g.0;
        here = g.1;
        passes = (bytes_eq-Decides g.0.key.text new).1 (key_is i e g.0 (Some new) here g.1 gets);
        before = λ j h below there. let x = old_entry j h there in other (keys j) j x.0 h below x.1 there refl;
      })
    where
      other : (o : Option (List ℕ)) (j : ℕ) (x h : EntryReading) → j < i → slice_get es j ≡ Some x → slice_get gs j ≡ Some h → keys j ≡ o
          → is_keyed new h ≡ false
      other None j x h below old there none =
          ap (λ t. bytes_eq t new) (key_is j x h None old there none)
          ∙ words_differ x.key.text new (apart_from_kept es keys free i j e x new here gets old none)
      other (Some key) j x h below old there gets' =
          ap (λ t. bytes_eq t new) (key_is j x h (Some key) old there gets')
          ∙ words_differ key new (apart_from_new es keys free j i x e key new below old here gets' gets)

  -- `name` is, in any ASCII case, the key of an entry that keeps its key
  module _ (i : ℕ) (e : EntryReading) (name : List ℕ) (here : slice_get es i ≡ Some e) (none : keys i ≡ None)
      (word : is_word e.key.text name ≡ true) where
    -- no new key is this name, in any ASCII case
    no_new_word : (j : ℕ) (x : EntryReading) (key : List ℕ) → slice_get es j ≡ Some x → keys j ≡ Some key → is_word key name ≡ false
    no_new_word j x key old gets =
        fails_too (is_word key name) (is_word e.key.text key) (apart_from_kept es keys free j i x e key old gets here none)
        (λ is. word_from e.key.text key (lower_same e.key.text name word ∙ sym (lower_same key name is)))

    -- if the old key of an entry isn't this name, its key in the new file isn't this name either
    keyed_before : (j : ℕ) (x h : EntryReading) → slice_get es j ≡ Some x → slice_get gs j ≡ Some h → is_keyed name x ≡ false
        → is_keyed name h ≡ false
    keyed_before j x h old there fails = by_key (keys j) refl
      where
        by_key : (o : Option (List ℕ)) → keys j ≡ o → is_keyed name h ≡ false
        by_key None is = ap (λ t. bytes_eq t name) (key_is j x h None old there is) ∙ fails
        by_key (Some key) is =
            ap (λ t. bytes_eq t name) (key_is j x h (Some key) old there is) ∙ words_differ key name (no_new_word j x key old is)

    -- if the old key of an entry isn't this name in any ASCII case, its key in the new file isn't either
    word_before : (j : ℕ) (x h : EntryReading) → slice_get es j ≡ Some x → slice_get gs j ≡ Some h → has_key_word name x ≡ false
        → has_key_word name h ≡ false
    word_before j x h old there fails = by_key (keys j) refl
      where
        by_key : (o : Option (List ℕ)) → keys j ≡ o → has_key_word name h ≡ false
        by_key None is = ap (λ t. is_word t name) (key_is j x h None old there is) ∙ fails
        by_key (Some key) is = ap (λ t. is_word t name) (key_is j x h (Some key) old there is) ∙ no_new_word j x key old is

  -- an entry that keeps its key is still the first with this key
  kept_first : (i : ℕ) (name : List ℕ) → keys i ≡ None → first_position (is_keyed name) es ≡ Some i
      → first_position (is_keyed name) gs ≡ Some i
  kept_first i name none exact =
      let f = first_facts (is_keyed name) es i exact in
      let word : is_word f.element.key.text name ≡ true =
      word_from f.element.key.text name (ap str_to_ascii_lowercase ((bytes_eq-Decides f.element.key.text name).0 f.passes)) in
      let g = new_entry i f.element f.here in
      first_is (is_keyed name) gs i
      (record {
        element = g.0;
        here = g.1;
        passes = ap (λ t. bytes_eq t name) (key_is i f.element g.0 None f.here g.1 none) ∙ f.passes;
        before = λ j h below there.
            let x = old_entry j h there in
            keyed_before i f.element name f.here none word j x.0 h x.1 there (f.before j x.0 below x.1);
      })

  -- the first entry with a name in `ids` has the same index before and after
  alias_same : (name : List ℕ) → first_position (has_alias name) gs ≡ first_position (has_alias name) es
  alias_same name =
      first_same (has_alias name) (has_alias name) es gs
      (zip_weaker (λ e g. aliases_of g.fields ≡ aliases_of e.fields) (λ e g. has_alias name g ≡ has_alias name e) es gs
      (λ k e g here there same. ap (λ l. list_any (λ one. bytes_eq one name) l) same) aliases)

  -- a name that means, in any ASCII case, an entry that keeps its key still means it, if no old key is exactly the name
  kept_word : (i : ℕ) (name : List ℕ) → keys i ≡ None → first_position (is_keyed name) es ≡ None
      → index_in_any_case es name ≡ Some i
      → option_or (first_position (is_keyed name) gs) (index_in_any_case gs name) ≡ Some i
  kept_word i name none exact any =
      let found =
      unless_facts (map (λ e. e.key.text) es) (first_position (has_key_word name) es) (first_position (has_alias name) es) i any in
      let f = first_facts (has_key_word name) es i found.0 in
      let g = new_entry i f.element f.here in
      let no_exact : first_position (is_keyed name) gs ≡ None =
      none_is (is_keyed name) gs
      (λ j h there.
      let x = old_entry j h there in
      keyed_before i f.element name f.here none f.passes j x.0 h x.1 there (none_facts (is_keyed name) es exact j x.0 x.1)) in
      let first : first_position (has_key_word name) gs ≡ Some i =
      first_is (has_key_word name) gs i
      (record {
        element = g.0;
        here = g.1;
        passes = ap (λ t. is_word t name) (key_is i f.element g.0 None f.here g.1 none) ∙ f.passes;
        before = λ j h below there.
            let x = old_entry j h there in
            word_before i f.element name f.here none f.passes j x.0 h x.1 there (f.before j x.0 below x.1);
      }) in
      ap (λ o. option_or o (index_in_any_case gs name)) no_exact
      ∙ ap₂ (unless_other (map (λ e. e.key.text) gs)) first (alias_same name)
      ∙ unless_is (map (λ e. e.key.text) gs) (first_position (has_alias name) es) i (λ j there. same_key f g.0 g.1 found.1 j there)
    where
      -- if the old entry with the alias has the key of the entry at `i`, the new one has too
      same_key : (f : IsFirst (has_key_word name) es i) (g : EntryReading) → slice_get gs i ≡ Some g
          → ((j : ℕ) → first_position (has_alias name) es ≡ Some j
          → bytes_eq (slice_index_or (map (λ e. e.key.text) es) i []) (slice_index_or (map (λ e. e.key.text) es) j []) ≡ true)
          → (j : ℕ) → first_position (has_alias name) es ≡ Some j
          → bytes_eq (slice_index_or (map (λ e. e.key.text) gs) i []) (slice_index_or (map (λ e. e.key.text) gs) j []) ≡ true
      same_key f g here same j there =
          let x = first_facts (has_alias name) es j there in
          let h = new_entry j x.element x.here in
          let key : (z : EntryReading) → List ℕ = λ z. z.key.text in
          let equal : f.element.key.text ≡ x.element.key.text =
          sym (index_of_get key es i f.element [] f.here)
          ∙ (bytes_eq-Decides (slice_index_or (map key es) i []) (slice_index_or (map key es) j [])).0 (same j there)
          ∙ index_of_get key es j x.element [] x.here in
          let passes : has_key_word name x.element ≡ true = ap (λ t. is_word t name) (sym equal) ∙ f.passes in
          let new : g.key.text ≡ h.0.key.text =
          key_is i f.element g None f.here here none ∙ equal
          ∙ sym (key_is j x.element h.0 None x.here h.1 (keeps x.element x.here equal passes f (keys j) refl)) in
          (bytes_eq-Decides (slice_index_or (map key gs) i []) (slice_index_or (map key gs) j [])).1
          (index_of_get key gs i g [] here ∙ new ∙ sym (index_of_get key gs j h.0 [] h.1))
        where
          keeps : (x : EntryReading) → slice_get es j ≡ Some x → f.element.key.text ≡ x.key.text → has_key_word name x ≡ true
              → IsFirst (has_key_word name) es i → (o : Option (List ℕ)) → keys j ≡ o → keys j ≡ None
          keeps x old equal passes f' None is = is
          keeps x old equal passes f' (Some key) is =
              elim (cases_lt i j) [
                | inl below ↦
                    absurd (both_ways (is_some (keys i)) (ap is_some none) (earlier i j f.element x below f.here old equal (ap is_some is)))
                | inr above ↦
                    elim (cases_lt j i) [
                      | inl below ↦ absurd (both_ways (has_key_word name x) (f.before j x below old) passes)
                      | inr above' ↦ let same_index : j ≡ i = omega (arith, above, above') in ap keys same_index ∙ none
                    ]
              ]

  -- if a name means an entry, its new key means the new entry with the same index; if there is no new key, the same name does
  pub meant_alike : (field name : List ℕ) (i : ℕ) → meant_index es field name ≡ Some i
      → meant_index gs field (unwrap_or (keys i) name) ≡ Some i
  meant_alike field name i meant =
      let e = meant_there es field name i meant in
      by_key e.0 e.1 (keys i) refl
    where
      kept : (o : Option ℕ) (b : Bool) → keys i ≡ None → first_position (is_keyed name) es ≡ o
          → option_or o (cond b (index_in_any_case es name) None) ≡ Some i
          → option_or (first_position (is_keyed name) gs) (cond b (index_in_any_case gs name) None) ≡ Some i
      kept (Some k) b none exact is =
          ap (λ o. option_or o (cond b (index_in_any_case gs name) None)) (kept_first i name none (exact ∙ is))
      kept None false none exact is = absurd (cc)
      kept None true none exact is = kept_word i name none exact is

      by_key : (e : EntryReading) → slice_get es i ≡ Some e → (o : Option (List ℕ)) → keys i ≡ o
          → meant_index gs field (unwrap_or (keys i) name) ≡ Some i
      by_key e here (Some new) gets =
          ap (λ o. meant_index gs field (unwrap_or o name)) gets
          ∙ ap (λ o. option_or o (cond (is_word field (codes "crossref")) (index_in_any_case gs new) None))
          (renamed_first i e new here gets)
      by_key e here None gets =
          ap (λ o. meant_index gs field (unwrap_or o name)) gets
          ∙ kept (first_position (is_keyed name) es) (is_word field (codes "crossref")) gets refl meant
