-- The field with a name in the merged entry is that of the side that counts.
use Rattle.std.proofs.Common.{◌≡◌, ℕ, Bool, true, false, cond, not, List, [], ◌∷◌, filter, refl, sym, ap, ap₂, ◌∙◌, subst, Option, Some, None}
use Rattle.std.specs.Prelude.{◌&&◌, ◌||◌, bytes_eq, is_some, unwrap_or}
use Rattle.std.specs.List.{find, flat_map, list_any}
use Rattle.std.specs.Option.{option_or}
use Rattle.std.specs.Str.{str_to_ascii_lowercase}
use Rattle.std.proofs.lemmas.List.Folds.{find-append}
use Rattle.std.proofs.lemmas.Slice.Eq.{bytes_eq-Decides}
use Rattle.bib_queries.specs.EqualValues.{are_equal_pieces, is_equal_piece, with_single_spaces}
use Rattle.bib_text.proofs.ListFacts.{some_same}
use Rattle.bib_syntax.specs.Grammar.{is_word}
use Rattle.bib_syntax.specs.Reading.{FieldReading, Piece}
use Rattle.bib_syntax.specs.Reading.Piece.{abbreviation, literal}
use Rattle.edit_entries.specs.Documents.{has_name}
use Rattle.edit_entry_merge.specs.Choices.{are_different_sides, are_equal_fields, choice, counting_side, has_field_named, is_modification_time, modification_times, only_text, side_by_texts, takes_other}
use Rattle.edit_entry_merge.specs.Picks.{FieldPick, additions, field_merged, is_added, merged_fields, pick, pick_instead}
use Rattle.edit_entry_merge.specs.Versions.{EntryVersions, Version, are_found_by_name, base_named, have_distinct_names, named}
use Rattle.edit_entry_merge.specs.declared.choices.Side.{Side}

-- ---- equal values

same_bytes : (text : List ℕ) → bytes_eq text text ≡ true
same_bytes text = (bytes_eq-Decides text text).1 refl

same_pieces : (ps : List Piece) → are_equal_pieces ps ps ≡ true
same_pieces [] = refl
same_pieces (p ∷ ps) = ap (λ b. b && are_equal_pieces ps ps) (one p) ∙ same_pieces ps
  where
    one : (p : Piece) → is_equal_piece p p ≡ true
    one (literal p) = same_bytes (with_single_spaces false p.text)
    one (abbreviation p) = same_bytes p.text

same_fields : (o : Option FieldReading) → are_equal_fields o o ≡ true
same_fields None = refl
same_fields (Some f) = same_pieces f.value.pieces

-- ---- names in any ASCII case

abbrev lower : List ℕ → List ℕ
lower name = str_to_ascii_lowercase name

lowers : (one other : List ℕ) → is_word one other ≡ true → lower one ≡ lower other
lowers one other same = (bytes_eq-Decides (lower one) (lower other)).0 same

has_same : (one other : List ℕ) → lower one ≡ lower other → (f : FieldReading) → has_name one f ≡ has_name other f
has_same one other same f = ap (bytes_eq (lower f.name.text)) same

find_same : (one other : List ℕ) → lower one ≡ lower other → (fs : List FieldReading) → find (has_name one) fs ≡ find (has_name other) fs
find_same one other same [] = refl
find_same one other same (f ∷ fs) =
    ap (λ b. cond b (Some f) (find (has_name one) fs)) (has_same one other same f)
    ∙ ap (cond (has_name other f) (Some f)) (find_same one other same fs)

none_found : (name : List ℕ) (fs : List FieldReading) → list_any (has_name name) fs ≡ false → find (has_name name) fs ≡ None
none_found name [] none = refl
none_found name (f ∷ fs) none = by_case (has_name name f) none (none_found name fs)
  where
    by_case : (b : Bool) → (b || list_any (has_name name) fs) ≡ false
        → (list_any (has_name name) fs ≡ false → find (has_name name) fs ≡ None)
        → cond b (Some f) (find (has_name name) fs) ≡ None
    by_case true none rest = absurd (cc)
    by_case false none rest = rest none

-- no later field has the name of a field, if their names differ
others_lack : (name : List ℕ) (f : FieldReading) (fs : List FieldReading) → have_distinct_names (f ∷ fs) ≡ true → has_name name f ≡ true
    → list_any (has_name name) fs ≡ false
others_lack name f fs distinct named = by_list fs (first (list_any (λ g. has_name g.name.text f) fs) (have_distinct_names fs) distinct)
  where
    first : (b c : Bool) → (not b && c) ≡ true → b ≡ false
    first true c is = absurd (cc)
    first false c is = refl

    by_list : (gs : List FieldReading) → list_any (λ g. has_name g.name.text f) gs ≡ false → list_any (has_name name) gs ≡ false
    by_list [] none = refl
    by_list (g ∷ gs) none = by_case (has_name name g) refl (by_list gs)
      where
        by_case : (b : Bool) → has_name name g ≡ b
            → (list_any (λ h. has_name h.name.text f) gs ≡ false → list_any (has_name name) gs ≡ false)
            → (b || list_any (has_name name) gs) ≡ false
        by_case true same rest =
            let is : has_name g.name.text f ≡ true =
            (bytes_eq-Decides (lower f.name.text) (lower g.name.text)).1 (lowers f.name.text name named
            ∙ sym (lowers g.name.text name same)) in
            let clash : true ≡ false = ap (λ b. b || list_any (λ h. has_name h.name.text f) gs) (sym is) ∙ none in
            cc
        by_case false same rest = rest (rests (has_name g.name.text f) none)
          where
            rests : (b : Bool) → (b || list_any (λ h. has_name h.name.text f) gs) ≡ false
                → list_any (λ h. has_name h.name.text f) gs ≡ false
            rests true none = absurd (cc)
            rests false none = none

rest_distinct : (f : FieldReading) (fs : List FieldReading) → have_distinct_names (f ∷ fs) ≡ true → have_distinct_names fs ≡ true
rest_distinct f fs distinct = by_case (not (list_any (λ g. has_name g.name.text f) fs)) distinct
  where
    by_case : (b : Bool) → (b && have_distinct_names fs) ≡ true → have_distinct_names fs ≡ true
    by_case true is = is
    by_case false is = absurd (cc)

-- ---- the merged fields

module _ (takes : List ℕ → Bool) (main other : Version) (name : List ℕ)
    (alike : (n : List ℕ) → is_word n name ≡ true → takes n ≡ takes name) where
  -- the field with the name after the merge, given the one of the main side
  abbrev becomes : Option FieldReading → Option FieldReading
  becomes None = None
  becomes (Some f) = find (has_name name) (field_merged f (pick takes other f))

  abbrev merged : List FieldReading → List FieldReading
  merged fs = flat_map (λ f. field_merged f (pick takes other f)) fs

  keeps_name : (f : FieldReading) (p : FieldPick) → has_name name f ≡ false → find (has_name name) (field_merged f p) ≡ None
  keeps_name f FieldPick.keep is = ap (λ b. cond b (Some f) None) is
  keeps_name f (FieldPick.copy g) is = ap (λ b. cond b (Some (record f { value = g.value })) None) is
  keeps_name f FieldPick.remove is = refl

  or_nothing : (o p : Option FieldReading) → p ≡ None → option_or o p ≡ o
  or_nothing (Some f) p is = refl
  or_nothing None p is = is

  main_found : (fs : List FieldReading) → have_distinct_names fs ≡ true → find (has_name name) (merged fs)
      ≡ becomes (find (has_name name) fs)
  main_found [] distinct = refl
  main_found (f ∷ fs) distinct =
      find-append (has_name name) (field_merged f (pick takes other f)) (merged fs)
      ∙ by_case (has_name name f) refl (main_found fs (rest_distinct f fs distinct))
    where
      by_case : (b : Bool) → has_name name f ≡ b → find (has_name name) (merged fs) ≡ becomes (find (has_name name) fs)
          → option_or (find (has_name name) (field_merged f (pick takes other f))) (find (has_name name) (merged fs))
          ≡ becomes (cond b (Some f) (find (has_name name) fs))
      by_case true is rest =
          or_nothing (find (has_name name) (field_merged f (pick takes other f))) (find (has_name name) (merged fs))
          (rest ∙ ap becomes (none_found name fs (others_lack name f fs distinct is)))
      by_case false is rest =
          ap (λ o. option_or o (find (has_name name) (merged fs))) (keeps_name f (pick takes other f) is) ∙ rest

  added_found : (gs : List FieldReading) → find (has_name name) (filter (is_added takes main) gs)
      ≡ cond (takes name && not (has_field_named name main)) (find (has_name name) gs) None
  added_found [] = by_case (takes name && not (has_field_named name main))
    where
      by_case : (b : Bool) → None ≡ cond {A = Option FieldReading} b None None
      by_case true = refl
      by_case false = refl
  added_found (g ∷ gs) = by_case (has_name name g) refl (added_found gs)
    where
      is_the : has_name name g ≡ true → is_added takes main g ≡ (takes name && not (has_field_named name main))
      is_the same =
          ap (λ b. b && not (has_field_named g.name.text main)) (alike g.name.text same)
          ∙ ap (λ o. takes name && not (is_some o)) (find_same g.name.text name (lowers g.name.text name same) main.entry.fields)

      by_case : (b : Bool) → has_name name g ≡ b
          → find (has_name name) (filter (is_added takes main) gs)
          ≡ cond (takes name && not (has_field_named name main)) (find (has_name name) gs) None
          → find (has_name name) (cond (is_added takes main g) (g ∷ filter (is_added takes main) gs) (filter (is_added takes main) gs))
          ≡ cond (takes name && not (has_field_named name main)) (cond b (Some g) (find (has_name name) gs)) None
      by_case true same rest =
          ap (λ b. find (has_name name) (cond b (g ∷ filter (is_added takes main) gs) (filter (is_added takes main) gs))) (is_the same)
          ∙ by_added (takes name && not (has_field_named name main)) rest
        where
          by_added : (c : Bool)
              → find (has_name name) (filter (is_added takes main) gs) ≡ cond c (find (has_name name) gs) None
              → find (has_name name) (cond c (g ∷ filter (is_added takes main) gs) (filter (is_added takes main) gs)) ≡ cond c (Some g) None
          by_added true rest = ap (λ b. cond b (Some g) (find (has_name name) (filter (is_added takes main) gs))) same
          by_added false rest = rest
      by_case false differs rest = by_added (is_added takes main g) ∙ rest
        where
          by_added : (c : Bool) → find (has_name name) (cond c (g ∷ filter (is_added takes main) gs) (filter (is_added takes main) gs))
              ≡ find (has_name name) (filter (is_added takes main) gs)
          by_added true = ap (λ b. cond b (Some g) (find (has_name name) (filter (is_added takes main) gs))) differs
          by_added false = refl

  -- the field with the name is that of the version that counts
  pub field_is : have_distinct_names main.entry.fields ≡ true
      → are_equal_fields (find (has_name name) (merged_fields takes main other))
      (cond (takes name) (named name other) (named name main)) ≡ true
  field_is distinct =
      ap (λ o. are_equal_fields o (cond (takes name) (named name other) (named name main)))
      (find-append (has_name name) (merged main.entry.fields) (additions takes main other)
      ∙ ap (λ o. option_or o (find (has_name name) (additions takes main other))) (main_found main.entry.fields distinct)
      ∙ ap (option_or (becomes (named name main))) (added_found other.entry.fields))
      ∙ by_main (named name main) refl (takes name) refl
    where
      by_main : (m : Option FieldReading) → named name main ≡ m → (b : Bool) → takes name ≡ b
          → are_equal_fields (option_or (becomes m) (cond (b && not (is_some m)) (named name other) None))
          (cond b (named name other) m) ≡ true
      by_main None is true takes' = same_fields (named name other)
      by_main None is false takes' = refl
      by_main (Some f) is b takes' =
          ap
          (λ p.
          are_equal_fields
          (option_or (find (has_name name) (field_merged f p)) (cond (b && false) (named name other) None))
          (cond b (named name other) (Some f))) picked
          ∙ by_takes b
        where
          found : (fs : List FieldReading) → find (has_name name) fs ≡ Some f → has_name name f ≡ true
          found [] none = absurd (cc)
          found (g ∷ gs) some = by_first (has_name name g) refl some (found gs)
            where
              by_first : (c : Bool) → has_name name g ≡ c → cond c (Some g) (find (has_name name) gs) ≡ Some f
                  → (find (has_name name) gs ≡ Some f → has_name name f ≡ true) → has_name name f ≡ true
              by_first true passes same rest = let one : g ≡ f = some_same same in subst (λ h. has_name name h ≡ true) one passes
              by_first false passes same rest = rest same

          has : has_name name f ≡ true
          has = found main.entry.fields is

          picked : pick takes other f ≡ cond b (pick_instead f (named name other)) FieldPick.keep
          picked =
              ap (λ c. cond c (pick_instead f (named f.name.text other)) FieldPick.keep) (alike f.name.text has ∙ takes')
              ∙ ap (λ o. cond b (pick_instead f o) FieldPick.keep)
              (find_same f.name.text name (lowers f.name.text name has) other.entry.fields)

          kept : (o : Option FieldReading) → find (has_name name) (f ∷ []) ≡ Some f
          kept o = ap (λ c. cond c (Some f) None) has

          by_takes : (c : Bool)
              → are_equal_fields
              (option_or (find (has_name name) (field_merged f (cond c (pick_instead f (named name other)) FieldPick.keep)))
              (cond (c && false) (named name other) None))
              (cond c (named name other) (Some f))
              ≡ true
          by_takes false =
              ap (λ o. are_equal_fields (option_or o None) (Some f)) (kept None) ∙ same_pieces f.value.pieces
          by_takes true = by_other (named name other)
            where
              by_other : (o : Option FieldReading)
                  → are_equal_fields (option_or (find (has_name name) (field_merged f (pick_instead f o))) None) o ≡ true
              by_other None = refl
              by_other (Some g) = by_equal (are_equal_pieces f.value.pieces g.value.pieces) refl
                where
                  by_equal : (c : Bool) → are_equal_pieces f.value.pieces g.value.pieces ≡ c
                      → are_equal_fields
                      (option_or (find (has_name name) (field_merged f (cond c FieldPick.keep (FieldPick.copy g)))) None) (Some g)
                      ≡ true
                  by_equal true equal =
                      ap (λ o. are_equal_fields (option_or o None) (Some g)) (kept None) ∙ equal
                  by_equal false differs =
                      ap (λ c. are_equal_fields (option_or (cond c (Some (record f { value = g.value })) None) None) (Some g)) has
                      ∙ same_pieces g.value.pieces

-- ---- versions

-- a name in another ASCII case is the same words
words_same : (one other : List ℕ) → lower one ≡ lower other → (words : List (List ℕ)) → list_any (is_word one) words
    ≡ list_any (is_word other) words
words_same one other same [] = refl
words_same one other same (w ∷ words) =
    ap₂ (λ a b. a || b) (ap (λ l. bytes_eq l (lower w)) same) (words_same one other same words)

-- the choice, given whether the field has a modification time, and the fields of the three versions
abbrev choice_of : Bool → Option FieldReading → Option FieldReading → Option FieldReading → Option Side
choice_of is_time b o t =
    option_or (counting_side (are_equal_fields t b) (are_equal_fields o b) (are_equal_fields t o))
    (cond is_time (side_by_texts (only_text o) (only_text t)) None)

-- the choice for a name is the same in any ASCII case
choice_same : (vs : EntryVersions) (one other : List ℕ) → lower one ≡ lower other → choice vs one ≡ choice vs other
choice_same vs one other same =
    ap (λ t. choice_of (is_modification_time one) (base_named one vs.base) (named one vs.ours) t)
    (find_same one other same vs.theirs.entry.fields)
    ∙ ap (λ o. choice_of (is_modification_time one) (base_named one vs.base) o (named other vs.theirs))
    (find_same one other same vs.ours.entry.fields)
    ∙ ap (λ b. choice_of (is_modification_time one) b (named other vs.ours) (named other vs.theirs)) (base_same vs.base)
    ∙ ap (λ is. choice_of is (base_named other vs.base) (named other vs.ours) (named other vs.theirs))
    (words_same one other same modification_times)
  where
    base_same : (base : Option Version) → base_named one base ≡ base_named other base
    base_same None = refl
    base_same (Some v) = find_same one other same v.entry.fields

pub takes_same : (vs : EntryVersions) (main prefer : Side) (name n : List ℕ) → is_word n name ≡ true
    → takes_other vs main prefer n ≡ takes_other vs main prefer name
takes_same vs main prefer name n same =
    ap (λ c. are_different_sides main (unwrap_or c prefer)) (choice_same vs n name (lowers n name same))

pub found_distinct : (fs : List FieldReading) → are_found_by_name fs ≡ true → have_distinct_names fs ≡ true
found_distinct [] found = refl
found_distinct (f ∷ fs) found = found
