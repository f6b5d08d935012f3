-- Collecting fields from references.
use Rattle.std.proofs.Common.{◌≡◌, ℕ, ◌+◌, ◌<◌, ◌-◌, List, [], ◌∷◌, ◌++◌, Bool, true, false, not, cond, ◌&&◌, ◌||◌, length, get_or, take, drop, refl, sym, ap, ◌∙◌, subst, arith, inl, inr, ◌⊎◌, Option, Some, None, option_map, is_some, map, append-nil}
use Rattle.std.specs.List.{flat_map}
use Rattle.std.specs.Str.{bytes_eq}
use Rattle.std.specs.Option.{option_copied}
use Rattle.std.specs.BTreeMap as tree
use Rattle.std.specs.BTreeMap.{BTreeMap}
use Rattle.std.specs.Map.{lookup}
use Rattle.std.specs.Cmp.Lexicographic.{slice_cmp}
use Rattle.std.specs.Ordering.{nat_cmp, eq_by_cmp}
use Rattle.std.specs.FinMap.{get, find, entries, get-entries}
use Rattle.std.proofs.lemmas.Bool.{false≢true}
use Rattle.std.proofs.lemmas.List.{at_drop_more, take_more}
use Rattle.std.proofs.lemmas.List.Folds.{list_any_more, list_any-append}
use Rattle.std.proofs.lemmas.Grind.{flat_map-append}
use Rattle.std.proofs.lemmas.Map.Text.{is_eq-slice_cmp, btree_map_updates_str}
use Rattle.std.proofs.lemmas.Slice.Eq.{bytes_eq-Decides}
use denote.Ref.{Bor}
use Rattle.bib_chunks.specs.declared.chunk.Chunk.{Chunk}
use Rattle.bib_chunks.specs.Styled.{Atom, styled}
use Rattle.bib_text.specs.declared.spanned.Spanned.{Spanned}
use Rattle.bib_text.proofs.BytesFacts.{bytes_turned}
use Rattle.bib_collections.specs.Sorted.{ByText, by_bytes}
use Rattle.bib_tables.specs.Requirements.{Names, texts, rules_of, author_names, page_names, inheritable, is_container, is_one_of, never_inherited}
use Rattle.bib_tables.specs.declared.mechanics.EntryType.{EntryType}
use Rattle.bib_text.proofs.OptionFacts.{some_mapped}
use Rattle.bib_inheritance.specs.Inherited.{offer, offered_field, inherited_field}
use Rattle.bib_inheritance.specs.Gathering.{gathered_text, gathered_text_in, offer_among}
use Rattle.bib_inheritance.specs.EntryTexts.{EntryTexts, fields_of, first_named, first_some, has, texts_of_reference, texts_of_references}
use Rattle.bib_inheritance.specs.declared.offers.Reference.{Reference}
use Rattle.std.proofs.Math.Bool.{and-false, or-false, or-true}

abbrev pub Value : Type 0
Value = List (Spanned Chunk)

-- a collected field: the borrowed name and chunks
abbrev pub Loan : Type 0
Loan = Bor (List ℕ) × Bor Value

-- the collected fields by name
abbrev pub GatheredFields : Type 0
GatheredFields = BTreeMap (Bor (List ℕ)) (Bor Value)

abbrev text_of_loan : Bor Value → List Atom
text_of_loan c = styled c.now

mapped_if : {A B : Type 0} (f : A → B) (b : Bool) (x y : Option A) → option_map f (cond b x y) ≡ cond b (option_map f x) (option_map f y)
mapped_if f true x y = refl
mapped_if f false x y = refl

-- a collected field after one more insertion
pub gathered_inserted : (m n : GatheredFields) (bs : List ℕ) (c : Bor Value)
    → tree.UpdatesBy (λ x y. slice_cmp nat_cmp x.now y.now) (λ k. slice_cmp nat_cmp bs k.now) m n (Some c)
    → (q : List ℕ) → gathered_text n q ≡ cond (bytes_eq bs q) (Some (styled c.now)) (gathered_text m q)
gathered_inserted m n bs c h q =
    ap (option_map text_of_loan) (btree_map_updates_str bs m n (Some c) h q)
    ∙ mapped_if text_of_loan (bytes_eq bs q) (Some c) (tree.get_by (λ k. slice_cmp nat_cmp q k.now) m)

-- two names are equal or different, by comparing their bytes
pub bytes_decides : (n q : List ℕ) → ((bytes_eq n q ≡ true) × (n ≡ q)) ⊎ ((bytes_eq n q ≡ false) × (n ≡ q → ⊥))
bytes_decides n q = go (bytes_eq n q) refl where
  go : (b : Bool) → bytes_eq n q ≡ b → ((bytes_eq n q ≡ true) × (n ≡ q)) ⊎ ((bytes_eq n q ≡ false) × (n ≡ q → ⊥))
  go true t = inl (t, (bytes_eq-Decides n q).0 t)
  go false t = inr (t, λ e. false≢true (sym t ∙ (bytes_eq-Decides n q).1 e))

-- the second map is the first one with the offers for the first `i` names, which replace its fields
abbrev pub IsGathered : Names → ℕ → EntryTexts → GatheredFields → GatheredFields → Type 0
IsGathered names i s old new = (q : List ℕ) → gathered_text new q ≡ first_some (offer_among (take i names) s q) (gathered_text old q)

-- a name is among the first `i + 1` names if it is among the first `i` or is the next
among_more : (names : Names) (i : ℕ) (q : List ℕ) (b : Bool) → i < length names → bytes_eq (get_or names i []) q ≡ b
    → is_one_of (take (i + 1) names) q ≡ (is_one_of (take i names) q || b)
among_more names i q b h e = list_any_more (λ each. bytes_eq each q) names i [] h ∙ ap (λ v. is_one_of (take i names) q || v) e

-- the next name adds no offer for another name
among_other : (names : Names) (i : ℕ) (s : EntryTexts) (q : List ℕ) → i < length names
    → bytes_eq (get_or names i []) q ≡ false → offer_among (take (i + 1) names) s q ≡ offer_among (take i names) s q
among_other names i s q h e =
    ap (λ b. cond (not (is_one_of never_inherited q) && b) (offer s q) None)
    (among_more names i q false h e ∙ or-false (is_one_of (take i names) q))

-- no field, whether a test passes or fails
pub nothing_either : {A : Type 0} (b : Bool) → cond {A = Option A} b None None ≡ None
nothing_either true = refl
nothing_either false = refl

-- nothing is offered for a name that is never inherited or has no offer
among_none : (names : Names) (s : EntryTexts) (q : List ℕ) → (is_one_of never_inherited q ≡ true) ⊎ (offer s q ≡ None)
    → offer_among names s q ≡ None
among_none names s q (inl k) = ap (λ k. cond (not k && is_one_of names q) (offer s q) None) k
among_none names s q (inr o) =
    ap (λ v. cond (not (is_one_of never_inherited q) && is_one_of names q) v None) o
    ∙ nothing_either (not (is_one_of never_inherited q) && is_one_of names q)

-- before the first name, nothing is collected
pub gathered_none : (names : Names) (s : EntryTexts) (gathered : GatheredFields) → IsGathered names 0 s gathered gathered
gathered_none names s gathered q =
    ap (λ b. first_some (cond b (offer s q) None) (gathered_text gathered q))
    (sym (and-false (not (is_one_of never_inherited q))))

-- if the next name is never inherited, or the reference offers nothing for it, the map is unchanged
pub gathered_skip : (names : Names) (i : ℕ) (s : EntryTexts) (n : List ℕ) (old new : GatheredFields) → i < length names
    → n ≡ get_or names i [] → (is_one_of never_inherited n ≡ true) ⊎ (offer s n ≡ None) → IsGathered names i s old new
    → IsGathered names (i + 1) s old new
gathered_skip names i s n old new within at none h q =
    elim (bytes_decides n q) [
      | inl t ↦
          let no = subst (λ x. (is_one_of never_inherited x ≡ true) ⊎ (offer s x ≡ None)) t.1 none in
          h q
          ∙ ap (λ o. first_some o (gathered_text old q))
          (among_none (take i names) s q no ∙ sym (among_none (take (i + 1) names) s q no))
      | inr t ↦ h q
          ∙ ap (λ o. first_some o (gathered_text old q))
          (sym (among_other names i s q within (ap (λ x. bytes_eq x q) (sym at) ∙ t.0)))
    ]

-- if the next name may be inherited and has an offer, the offer is inserted into the map
pub gathered_more : (names : Names) (i : ℕ) (s : EntryTexts) (n : List ℕ) (c : Bor Value) (old mid new : GatheredFields)
    → i < length names → n ≡ get_or names i [] → is_one_of never_inherited n ≡ false → offer s n ≡ Some (styled c.now)
    → tree.UpdatesBy (λ x y. slice_cmp nat_cmp x.now y.now) (λ k. slice_cmp nat_cmp n k.now) mid new (Some c)
    → IsGathered names i s old mid → IsGathered names (i + 1) s old new
gathered_more names i s n c old mid new within at free gives updates h q =
    elim (bytes_decides n q) [
      | inl t ↦
          let among = among_more names i q true within (ap (λ x. bytes_eq x q) (sym at) ∙ t.0) ∙ or-true (is_one_of (take i names) q) in
          let is : offer_among (take (i + 1) names) s q ≡ Some (styled c.now) =
          ap (λ b. cond (not (is_one_of never_inherited q) && b) (offer s q) None) among
          ∙ ap (λ k. cond (not k && true) (offer s q) None) (subst (λ x. is_one_of never_inherited x ≡ false) t.1 free)
          ∙ subst (λ x. offer s x ≡ Some (styled c.now)) t.1 gives
          in
          gathered_inserted mid new n c updates q ∙ ap (λ b. cond b (Some (styled c.now)) (gathered_text mid q)) t.0
          ∙ ap (λ o. first_some o (gathered_text old q)) (sym is)
      | inr t ↦
          gathered_inserted mid new n c updates q ∙ ap (λ b. cond b (Some (styled c.now)) (gathered_text mid q)) t.0 ∙ h q
          ∙ ap (λ o. first_some o (gathered_text old q)) (sym (among_other names i s q within (ap (λ x. bytes_eq x q) (sym at) ∙ t.0)))
    ]

-- collecting for two conditions one after the other is collecting for either
twice : {A : Type 0} (n a b : Bool) (o x : Option A)
    → first_some (cond (n && b) o None) (first_some (cond (n && a) o None) x)
    ≡ first_some (cond (n && (a || b)) o None) x
twice false a b o x = refl
twice true false false o x = refl
twice true false true o x = refl
twice true true false o x = refl
twice true true true None x = refl
twice true true true (Some v) x = refl

-- collecting for one list of names and then for another is collecting for both
pub offered_both : (a b : Names) (s : EntryTexts) (q : List ℕ) (x : Option (List Atom))
    → first_some (offer_among b s q) (first_some (offer_among a s q) x) ≡ first_some (offer_among (a ++ b) s q) x
offered_both a b s q x =
    twice (not (is_one_of never_inherited q)) (is_one_of a q) (is_one_of b q) (offer s q) x
    ∙ ap (λ v. first_some (cond (not (is_one_of never_inherited q) && v) (offer s q) None) x)
    (sym (list_any-append (λ each. bytes_eq each q) a b))

-- comparing two names by order is comparing their bytes
pub flipped : (q n : List ℕ) → eq_by_cmp by_bytes q n ≡ bytes_eq n q
flipped q n = is_eq-slice_cmp q n ∙ bytes_turned q n

found_or : (v : Value) (found : Option Value) (later b : Bool) → is_some found ≡ later → is_some (cond b (Some v) found) ≡ (b || later)
found_or v found later true h = refl
found_or v found later false h = h

is_some-find : (q : List ℕ) (es : List (List ℕ × Value)) → is_some (find by_bytes q es) ≡ is_one_of (map (λ e. e.0) es) q
is_some-find q [] = refl
is_some-find q (e ∷ es) =
    ap (λ b. is_some (cond b (Some e.1) (find by_bytes q es))) (flipped q e.0)
    ∙ found_or e.1 (find by_bytes q es) (is_one_of (map (λ x. x.0) es) q) (bytes_eq e.0 q) (is_some-find q es)

-- a map has a field of a name exactly if the name is among its names
pub has_names : (m : ByText Value) (q : List ℕ) → is_one_of (map (λ e. e.0) (entries m)) q ≡ is_some (fields_of m q)
has_names m q = sym (is_some-find q (entries m)) ∙ ap is_some (sym (get-entries m q)) ∙ sym (some_mapped styled (get m q))

-- for a container, the offers among the names of a reference's fields are the fields that it inherits from this reference
pub given_container : (entry_type : EntryType) (reference : Reference) (names : Names) (q : List ℕ)
    → is_container entry_type ≡ true → names ≡ map (λ e. e.0) (entries reference.fields.now)
    → offer_among names (texts_of_reference reference) q ≡ offered_field entry_type (texts_of_reference reference) q
given_container entry_type reference names q is all =
    let s = texts_of_reference reference in
    ap (λ b. cond (not (is_one_of never_inherited q) && b) (offer s q) None)
    (ap (λ l. is_one_of l q) all ∙ has_names reference.fields.now q)
    ∙ same (not (is_one_of never_inherited q)) (has s q) (offer s q)
    ∙ ap
    (λ b.
    cond
    ((not (is_one_of never_inherited q) && (b || is_one_of (inheritable entry_type) q))
    && (not b || has s q)) (offer s q) None) (sym is)
  where
    same : {A : Type 0} (n h : Bool) (o : Option A) → cond (n && h) o None ≡ cond ((n && true) && h) o None
    same true h o = refl
    same false h o = refl

-- for any other type, the offers among the names inheritable for it are the fields that it inherits from the reference
pub given_other : (entry_type : EntryType) (s : EntryTexts) (q : List ℕ) → is_container entry_type ≡ false
    → offer_among (inheritable entry_type) s q ≡ offered_field entry_type s q
given_other entry_type s q is =
    same (not (is_one_of never_inherited q)) (is_one_of (inheritable entry_type) q) (offer s q)
    ∙ ap
    (λ b.
    cond
    ((not (is_one_of never_inherited q) && (b || is_one_of (inheritable entry_type) q))
    && (not b || has s q)) (offer s q) None) (sym is)
  where
    same : {A : Type 0} (n h : Bool) (o : Option A) → cond (n && h) o None ≡ cond ((n && h) && true) o None
    same true true o = refl
    same true false o = refl
    same false h o = refl

-- after one more reference from the end, the collected fields are those inherited from this reference and the ones after it
pub given_more : (entry_type : EntryType) (refs : List Reference) (done : ℕ) (r : Reference) (old new : GatheredFields)
    → done < length refs → r ≡ get_or refs (length refs - 1 - done) r
    →
    ((q : List ℕ)
    → gathered_text new q ≡ first_some (offered_field entry_type (texts_of_reference r) q) (gathered_text old q))
    →
    ((q : List ℕ)
    → gathered_text old q ≡ inherited_field entry_type q (texts_of_references (drop (length refs - done) refs)))
    → (q : List ℕ) → gathered_text new q ≡ inherited_field entry_type q (texts_of_references (drop (length refs - (done + 1)) refs))
given_more entry_type refs done r old new within at adds h q =
    let k : ℕ = length refs - (done + 1) in
    let here : length refs - 1 - done ≡ k = omega arith in
    let following : length refs - done ≡ k + 1 = omega arith in
    let next = at_drop_more (λ l. inherited_field entry_type q (texts_of_references l)) refs k r (omega arith) in
    let is : r ≡ get_or refs k r = at ∙ ap (λ n. get_or refs n r) here in
    adds q
    ∙ ap (first_some (offered_field entry_type (texts_of_reference r) q))
    (h q ∙ ap (λ n. inherited_field entry_type q (texts_of_references (drop n refs))) following)
    ∙ ap
    (λ x.
    first_some (offered_field entry_type (texts_of_reference x) q)
    (inherited_field entry_type q (texts_of_references (drop (k + 1) refs)))) is
    ∙ sym next

-- after one more group of names, the collected fields are the old ones with the offers for the names of all groups so far
pub groups_more : (groups : List (Bor (List (Bor (List ℕ))))) (i : ℕ) (d : Bor (List (Bor (List ℕ)))) (s : EntryTexts)
    (old mid new : GatheredFields) → i < length groups
    → ((q : List ℕ) → gathered_text new q ≡ first_some (offer_among (texts (get_or groups i d).now) s q) (gathered_text mid q))
    →
    ((q : List ℕ)
    → gathered_text mid q
    ≡ first_some (offer_among (flat_map (λ group. texts group.now) (take i groups)) s q)
    (gathered_text old q))
    → (q : List ℕ)
    → gathered_text new q
    ≡ first_some (offer_among (flat_map (λ group. texts group.now) (take (i + 1) groups)) s q)
    (gathered_text old q)
groups_more groups i d s old mid new within adds h q =
    let g : Bor (List (Bor (List ℕ))) = get_or groups i d in
    let before : Names = flat_map (λ (group : Bor (List (Bor (List ℕ)))). texts group.now) (take i groups) in
    let all : flat_map (λ (group : Bor (List (Bor (List ℕ)))). texts group.now) (take (i + 1) groups) ≡ before ++ texts g.now =
    ap (flat_map (λ (group : Bor (List (Bor (List ℕ)))). texts group.now)) (take_more groups i d within)
    ∙ flat_map-append (λ (group : Bor (List (Bor (List ℕ)))). texts group.now) (take i groups) (g ∷ [])
    ∙ ap (λ l. before ++ l) (append-nil (texts g.now))
    in
    adds q ∙ ap (first_some (offer_among (texts g.now) s q)) (h q) ∙ offered_both before (texts g.now) s q (gathered_text old q)
    ∙ ap (λ l. first_some (offer_among l s q) (gathered_text old q)) (sym all)

-- the fields collected for the names of a type, in four steps
pub inheritable_gathered : (entry_type : EntryType) (s : EntryTexts) (required optional pages author : Names)
    (q : List ℕ) (x : Option (List Atom))
    → required ≡ (rules_of entry_type).required → optional ≡ (rules_of entry_type).optional
    → pages ≡ page_names (rules_of entry_type).pages → author ≡ author_names (rules_of entry_type).author
    → first_some (offer_among author s q)
    (first_some (offer_among pages s q)
    (first_some (offer_among optional s q) (first_some (offer_among required s q) x)))
    ≡ first_some (offer_among (inheritable entry_type) s q) x
inheritable_gathered entry_type s required optional pages author q x a b c d =
    ap (λ o. first_some (offer_among author s q) (first_some (offer_among pages s q) o)) (offered_both required optional s q x)
    ∙ ap (first_some (offer_among author s q)) (offered_both (required ++ optional) pages s q x)
    ∙ offered_both ((required ++ optional) ++ pages) author s q x
    ∙ ap (λ l. first_some (offer_among l s q) x) same
  where
    same : ((required ++ optional) ++ pages) ++ author ≡ inheritable entry_type
    same =
        ap (λ l. ((l ++ optional) ++ pages) ++ author) a
        ∙ ap (λ l. (((rules_of entry_type).required ++ l) ++ pages) ++ author) b
        ∙ ap (λ l. (((rules_of entry_type).required ++ (rules_of entry_type).optional) ++ l) ++ author) c
        ∙ ap (λ l. (((rules_of entry_type).required ++ (rules_of entry_type).optional) ++ page_names (rules_of entry_type).pages) ++ l) d

-- ---- copies

-- the copied field of a name: the collected one, if the entry lacks it
abbrev pub copied_text : ByText Value → List Loan → List ℕ → Option (List Atom)
copied_text own gathered q = cond (is_some (fields_of own q)) None (gathered_text_in gathered q)

-- the styled text of a name in a list of collected fields
gathered_next : (n : Bor (List ℕ)) (c : Bor Value) (rest : List Loan) (q : List ℕ)
    → gathered_text_in ((n, c) ∷ rest) q ≡ cond (bytes_eq n.now q) (Some (styled c.now)) (gathered_text_in rest q)
gathered_next n c rest q =
    ap (λ b. option_map text_of_loan (cond b (Some c) (lookup (tree.is_at (λ key. slice_cmp nat_cmp q key.now)) rest))) (flipped q n.now)
    ∙ mapped_if text_of_loan (bytes_eq n.now q) (Some c) (lookup (tree.is_at (λ key. slice_cmp nat_cmp q key.now)) rest)

-- the first value of a name in a concatenation
found-following : (q : List ℕ) (xs ys : List (List ℕ × Value))
    → find by_bytes q (xs ++ ys) ≡ first_some (find by_bytes q xs) (find by_bytes q ys)
found-following q [] ys = refl
found-following q (x ∷ xs) ys =
    step x.1 (find by_bytes q (xs ++ ys)) (find by_bytes q xs) (find by_bytes q ys) (eq_by_cmp by_bytes q x.0)
    (found-following q xs ys) where
      step : (v : Value) (all one other : Option Value) (b : Bool) → all ≡ first_some one other
          → cond b (Some v) all ≡ first_some (cond b (Some v) one) other
      step v all one other true h = refl
      step v all one other false h = h

-- the first field of a name in a concatenation
pub first_after : (q : List ℕ) (xs ys : List (List ℕ × Value)) → first_named (xs ++ ys) q ≡ first_some (first_named xs q) (first_named ys q)
first_after q xs ys = found-following q xs ys

pub styled_first : (a b : Option Value) → option_map styled (first_some a b) ≡ first_some (option_map styled a) (option_map styled b)
styled_first None b = refl
styled_first (Some x) b = refl

-- `first_some` of a value and `None` is the value
pub first_alone : {A : Type 0} (o : Option A) → first_some o None ≡ o
first_alone None = refl
first_alone (Some x) = refl

-- `first_some` is associative
pub first_last : {A : Type 0} (a b c : Option A) → first_some a (first_some b c) ≡ first_some (first_some a b) c
first_last None b c = refl
first_last (Some x) b c = refl

-- the copies so far, together with those of the remaining fields, are all copies
abbrev pub AreCopied : ByText Value → List Loan → List Loan → List (List ℕ × Value) → Type 0
AreCopied own all left copies =
    (q : List ℕ) → copied_text own all q ≡ first_some (option_map styled (first_named copies q)) (copied_text own left q)

-- before the first collected field, nothing is copied
pub copied_none : (own : ByText Value) (all : List Loan) → AreCopied own all all []
copied_none own all q = refl

-- a collected field that the entry has is skipped
pub copied_skip : (own : ByText Value) (all rest left : List Loan) (n : Bor (List ℕ)) (c : Bor Value)
    (copies : List (List ℕ × Value)) → left ≡ (n, c) ∷ rest → is_some (get own n.now) ≡ true
    → AreCopied own all left copies → AreCopied own all rest copies
copied_skip own all rest left n c copies is had h q =
    h q ∙ ap (first_some (option_map styled (first_named copies q))) (ap (λ l. copied_text own l q) is
    ∙ ap (cond (is_some (fields_of own q)) None) (gathered_next n c rest q)
    ∙ elim (bytes_decides n.now q) [
      | inl t ↦
          let own_has : is_some (fields_of own q) ≡ true =
          some_mapped styled (get own q) ∙ subst (λ x. is_some (get own x) ≡ true) t.1 had in
          ap (λ b. cond b None (cond (bytes_eq n.now q) (Some (styled c.now)) (gathered_text_in rest q))) own_has
          ∙ ap (λ b. cond b None (gathered_text_in rest q)) (sym own_has)
      | inr t ↦ ap (λ b. cond (is_some (fields_of own q)) None (cond b (Some (styled c.now)) (gathered_text_in rest q))) t.0
    ])

-- a collected field that the entry lacks is copied
pub copied_more : (own : ByText Value) (all rest left : List Loan) (n : Bor (List ℕ)) (c : Bor Value) (v : Value)
    (copies : List (List ℕ × Value)) → left ≡ (n, c) ∷ rest → is_some (get own n.now) ≡ false → v ≡ c.now
    → AreCopied own all left copies → AreCopied own all rest (copies ++ (n.now, v) ∷ [])
copied_more own all rest left n c v copies is lacks same h q =
    let one : option_map styled (first_named ((n.now, v) ∷ []) q) ≡ cond (bytes_eq n.now q) (Some (styled c.now)) None =
    ap (λ b. option_map styled (cond b (Some v) None)) (flipped q n.now)
    ∙ mapped_if styled (bytes_eq n.now q) (Some v) None
    ∙ ap (λ x. cond (bytes_eq n.now q) (Some (styled x)) None) same
    in
    let before : option_map styled (first_named (copies ++ (n.now, v) ∷ []) q)
    ≡ first_some (option_map styled (first_named copies q)) (cond (bytes_eq n.now q) (Some (styled c.now)) None) =
    ap (option_map styled) (first_after q copies ((n.now, v) ∷ []))
    ∙ styled_first (first_named copies q) (first_named ((n.now, v) ∷ []) q)
    ∙ ap (first_some (option_map styled (first_named copies q))) one
    in
    let here : copied_text own left q ≡ first_some (cond (bytes_eq n.now q) (Some (styled c.now)) None) (copied_text own rest q) =
    ap (λ l. copied_text own l q) is ∙ ap (cond (is_some (fields_of own q)) None) (gathered_next n c rest q)
    ∙ elim (bytes_decides n.now q) [
      | inl t ↦
          let own_lacks : is_some (fields_of own q) ≡ false =
          some_mapped styled (get own q) ∙ subst (λ x. is_some (get own x) ≡ false) t.1 lacks in
          ap (λ b. cond b None (cond (bytes_eq n.now q) (Some (styled c.now)) (gathered_text_in rest q))) own_lacks
          ∙ ap (λ b. cond b (Some (styled c.now)) (gathered_text_in rest q)) t.0
          ∙ sym (ap (λ b. first_some (cond b (Some (styled c.now)) None) (copied_text own rest q)) t.0)
      | inr t ↦
          ap (λ b. cond (is_some (fields_of own q)) None (cond b (Some (styled c.now)) (gathered_text_in rest q))) t.0
          ∙ sym (ap (λ b. first_some (cond b (Some (styled c.now)) None) (copied_text own rest q)) t.0)
    ]
    in
    h q ∙ ap (first_some (option_map styled (first_named copies q))) here
    ∙ first_last (option_map styled (first_named copies q)) (cond (bytes_eq n.now q) (Some (styled c.now)) None) (copied_text own rest q)
    ∙ ap (λ o. first_some o (copied_text own rest q)) (sym before)

pub copied_some : {A : Type 0} (o : Option (Bor A)) → is_some (option_copied o) ≡ is_some o
copied_some None = refl
copied_some (Some x) = refl

-- after the last collected field, all collected fields that the entry lacks are copied
pub copied_all : (own : ByText Value) (all left : List Loan) (copies : List (List ℕ × Value)) → left ≡ []
    → AreCopied own all left copies → (q : List ℕ) → option_map styled (first_named copies q) ≡ copied_text own all q
copied_all own all left copies none h q =
    sym
    (h q ∙ ap (λ l. first_some (option_map styled (first_named copies q)) (copied_text own l q)) none
    ∙ ap (first_some (option_map styled (first_named copies q))) (nothing_either (is_some (fields_of own q)))
    ∙ first_alone (option_map styled (first_named copies q)))
