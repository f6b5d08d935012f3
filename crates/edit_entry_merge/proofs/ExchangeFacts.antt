-- The choice for a field if the sides are exchanged.
use Rattle.std.proofs.Common.{◌≡◌, ℕ, Bool, true, false, cond, List, [], ◌∷◌, refl, sym, ap, ap₂, ◌∙◌, Option, Some, None}
use Rattle.std.specs.Prelude.{◌&&◌, bytes_eq, option_map}
use Rattle.std.specs.Cmp.Lexicographic.{slice_cmp}
use Rattle.std.specs.Option.{option_or}
use Rattle.std.specs.Ordering.{is_eq, is_gt, nat_cmp, ordering_reverse}
use Rattle.std.specs.declared.cmp.Ordering.{Ordering}
use Rattle.std.specs.declared.cmp.Ordering.TheVariants.{Less, Equal, Greater}
use Rattle.std.proofs.lemmas.Cmp.{nat_list_cmp_total}
use Rattle.std.proofs.lemmas.Map.Text.{is_eq-slice_cmp}
use Rattle.std.proofs.lemmas.Slice.Eq.{bytes_eq-Decides}
use Rattle.bib_queries.specs.EqualValues.{are_equal_pieces, is_equal_piece, with_single_spaces}
use Rattle.bib_syntax.specs.Reading.{FieldReading, Piece}
use Rattle.bib_syntax.specs.Reading.Piece.{abbreviation, literal}
use Rattle.bib_text.proofs.BoolFacts.{and_true_left, and_true_right}
use Rattle.bib_text.proofs.PlaceFacts.{test_clash}
use Rattle.edit_entry_merge.specs.Choices.{are_equal_fields, choice, counting_side, greater_side, is_modification_time, only_literal, only_text, other_side, side_by_texts, time_choice, with_exchanged_sides}
use Rattle.edit_entry_merge.specs.Versions.{EntryVersions, base_named, named}
use Rattle.edit_entry_merge.specs.declared.choices.Side.{Side}
use Rattle.edit_entry_merge.specs.declared.choices.Side.TheVariants.{Ours, Theirs}

-- ---- equal values in the other order

bytes_symmetric : (text other : List ℕ) → bytes_eq text other ≡ bytes_eq other text
bytes_symmetric text other = by_tests (bytes_eq text other) (bytes_eq other text) refl refl
  where
    by_tests : (x y : Bool) → bytes_eq text other ≡ x → bytes_eq other text ≡ y → x ≡ y
    by_tests true true is is' = refl
    by_tests false false is is' = refl
    by_tests true false is is' =
        absurd (test_clash (bytes_eq other text) ((bytes_eq-Decides other text).1 (sym ((bytes_eq-Decides text other).0 is))) is')
    by_tests false true is is' =
        absurd (test_clash (bytes_eq text other) ((bytes_eq-Decides text other).1 (sym ((bytes_eq-Decides other text).0 is'))) is)

piece_symmetric : (p q : Piece) → is_equal_piece p q ≡ is_equal_piece q p
piece_symmetric (literal p) (literal q) = bytes_symmetric (with_single_spaces false p.text) (with_single_spaces false q.text)
piece_symmetric (literal p) (abbreviation q) = refl
piece_symmetric (abbreviation p) (literal q) = refl
piece_symmetric (abbreviation p) (abbreviation q) = bytes_symmetric p.text q.text

pieces_symmetric : (ps qs : List Piece) → are_equal_pieces ps qs ≡ are_equal_pieces qs ps
pieces_symmetric [] [] = refl
pieces_symmetric [] (q ∷ qs) = refl
pieces_symmetric (p ∷ ps) [] = refl
pieces_symmetric (p ∷ ps) (q ∷ qs) = ap₂ (λ a b. a && b) (piece_symmetric p q) (pieces_symmetric ps qs)

fields_symmetric : (o t : Option FieldReading) → are_equal_fields o t ≡ are_equal_fields t o
fields_symmetric None None = refl
fields_symmetric None (Some g) = refl
fields_symmetric (Some f) None = refl
fields_symmetric (Some f) (Some g) = pieces_symmetric f.value.pieces g.value.pieces

-- ---- two values that are equal to a third one

bytes_joined : (a b c : List ℕ) → bytes_eq a c ≡ true → bytes_eq b c ≡ true → bytes_eq a b ≡ true
bytes_joined a b c first second = (bytes_eq-Decides a b).1 ((bytes_eq-Decides a c).0 first ∙ sym ((bytes_eq-Decides b c).0 second))

piece_joined : (p q r : Piece) → is_equal_piece p r ≡ true → is_equal_piece q r ≡ true → is_equal_piece p q ≡ true
piece_joined (literal p) (literal q) (literal r) first second =
    bytes_joined (with_single_spaces false p.text) (with_single_spaces false q.text) (with_single_spaces false r.text) first second
piece_joined (abbreviation p) (abbreviation q) (abbreviation r) first second = bytes_joined p.text q.text r.text first second
piece_joined (literal p) q (abbreviation r) first second = absurd (cc)
piece_joined (abbreviation p) q (literal r) first second = absurd (cc)
piece_joined (literal p) (abbreviation q) (literal r) first second = absurd (cc)
piece_joined (abbreviation p) (literal q) (abbreviation r) first second = absurd (cc)

pieces_joined : (ps qs rs : List Piece) → are_equal_pieces ps rs ≡ true → are_equal_pieces qs rs ≡ true → are_equal_pieces ps qs ≡ true
pieces_joined [] [] rs first second = refl
pieces_joined [] (q ∷ qs) [] first second = absurd (cc)
pieces_joined [] (q ∷ qs) (r ∷ rs) first second = absurd (cc)
pieces_joined (p ∷ ps) [] [] first second = absurd (cc)
pieces_joined (p ∷ ps) [] (r ∷ rs) first second = absurd (cc)
pieces_joined (p ∷ ps) (q ∷ qs) [] first second = absurd (cc)
pieces_joined (p ∷ ps) (q ∷ qs) (r ∷ rs) first second =
    ap₂ (λ a b. a && b)
    (piece_joined p q r (and_true_left (is_equal_piece p r) (are_equal_pieces ps rs) first)
    (and_true_left (is_equal_piece q r) (are_equal_pieces qs rs) second))
    (pieces_joined ps qs rs (and_true_right (is_equal_piece p r) (are_equal_pieces ps rs) first)
    (and_true_right (is_equal_piece q r) (are_equal_pieces qs rs) second))

fields_joined : (t o b : Option FieldReading) → are_equal_fields t b ≡ true → are_equal_fields o b ≡ true → are_equal_fields t o ≡ true
fields_joined None None b first second = refl
fields_joined None (Some f) None first second = absurd (cc)
fields_joined None (Some f) (Some h) first second = absurd (cc)
fields_joined (Some g) None None first second = absurd (cc)
fields_joined (Some g) None (Some h) first second = absurd (cc)
fields_joined (Some g) (Some f) None first second = absurd (cc)
fields_joined (Some g) (Some f) (Some h) first second =
    pieces_joined g.value.pieces f.value.pieces h.value.pieces first second

-- ---- the greater text

greater_exchanged : (ours theirs : List ℕ) → bytes_eq theirs ours ≡ false → greater_side theirs ours ≡ other_side (greater_side ours theirs)
greater_exchanged ours theirs differ =
    by_orders (slice_cmp nat_cmp ours theirs) (slice_cmp nat_cmp theirs ours) (nat_list_cmp_total.antisymm ours theirs)
    (is_eq-slice_cmp theirs ours ∙ differ)
  where
    by_orders : (r s : Ordering) → r ≡ ordering_reverse s → is_eq s ≡ false
        → cond (is_gt r) Theirs Ours ≡ other_side (cond (is_gt s) Theirs Ours)
    by_orders r Less is other = ap (λ x. cond (is_gt x) Theirs Ours) is
    by_orders r Equal is other = absurd (cc)
    by_orders r Greater is other = ap (λ x. cond (is_gt x) Theirs Ours) is

no_text : (text : Option (List ℕ)) → side_by_texts text None ≡ None
no_text None = refl
no_text (Some text) = refl

pieces_exchanged : (ps qs : List Piece) → are_equal_pieces qs ps ≡ false
    → side_by_texts (only_literal qs) (only_literal ps) ≡ option_map other_side (side_by_texts (only_literal ps) (only_literal qs))
pieces_exchanged [] qs differ = no_text (only_literal qs)
pieces_exchanged (abbreviation p ∷ ps) qs differ = no_text (only_literal qs)
pieces_exchanged (literal p ∷ r ∷ ps) qs differ = no_text (only_literal qs)
pieces_exchanged (literal p ∷ []) [] differ = refl
pieces_exchanged (literal p ∷ []) (abbreviation q ∷ qs) differ = refl
pieces_exchanged (literal p ∷ []) (literal q ∷ r ∷ qs) differ = refl
pieces_exchanged (literal p ∷ []) (literal q ∷ []) differ =
    ap Some (greater_exchanged p.text q.text (texts_differ (bytes_eq q.text p.text) refl))
  where
    same : bytes_eq q.text p.text ≡ true → are_equal_pieces (literal q ∷ []) (literal p ∷ []) ≡ true
    same is =
        ap (λ b. b && true)
        ((bytes_eq-Decides (with_single_spaces false q.text) (with_single_spaces false p.text)).1
        (ap (with_single_spaces false) ((bytes_eq-Decides q.text p.text).0 is)))

    texts_differ : (b : Bool) → bytes_eq q.text p.text ≡ b → b ≡ false
    texts_differ true is = absurd (test_clash (are_equal_pieces (literal q ∷ []) (literal p ∷ [])) (same is) differ)
    texts_differ false is = refl

time_exchanged : (name : List ℕ) (o t : Option FieldReading) → are_equal_fields t o ≡ false
    → time_choice name t o ≡ option_map other_side (time_choice name o t)
time_exchanged name o t differ = by_name (is_modification_time name) (by_fields o t differ)
  where
    by_fields : (f g : Option FieldReading) → are_equal_fields g f ≡ false
        → side_by_texts (only_text g) (only_text f) ≡ option_map other_side (side_by_texts (only_text f) (only_text g))
    by_fields None g differ = no_text (only_text g)
    by_fields (Some f) None differ = sym (ap (option_map other_side) (no_text (only_text (Some f))))
    by_fields (Some f) (Some g) differ = pieces_exchanged f.value.pieces g.value.pieces differ

    by_name : (is : Bool)
        → side_by_texts (only_text t) (only_text o) ≡ option_map other_side (side_by_texts (only_text o) (only_text t))
        → cond is (side_by_texts (only_text t) (only_text o)) None
        ≡ option_map other_side (cond is (side_by_texts (only_text o) (only_text t)) None)
    by_name true exchanged = exchanged
    by_name false exchanged = refl

-- ---- the choice

fields_exchanged : (name : List ℕ) (b o t : Option FieldReading) → are_equal_fields t o ≡ false
    → option_or (counting_side (are_equal_fields o b) (are_equal_fields t b) (are_equal_fields o t)) (time_choice name t o)
    ≡ option_map other_side
    (option_or (counting_side (are_equal_fields t b) (are_equal_fields o b) (are_equal_fields t o)) (time_choice name o t))
fields_exchanged name b o t differ =
    ap
    (λ same. option_or (counting_side (are_equal_fields o b) (are_equal_fields t b) same) (time_choice name t o))
    (fields_symmetric o t ∙ differ)
    ∙ by_changes (are_equal_fields t b) (are_equal_fields o b) refl refl
    ∙ sym
    (ap
    (λ same.
    option_map other_side (option_or (counting_side (are_equal_fields t b) (are_equal_fields o b) same) (time_choice name o t))) differ)
  where
    by_changes : (theirs_is ours_is : Bool) → are_equal_fields t b ≡ theirs_is → are_equal_fields o b ≡ ours_is
        → option_or (counting_side ours_is theirs_is false) (time_choice name t o)
        ≡ option_map other_side (option_or (counting_side theirs_is ours_is false) (time_choice name o t))
    by_changes true true is is' = absurd (test_clash (are_equal_fields t o) (fields_joined t o b is is') differ)
    by_changes true false is is' = refl
    by_changes false true is is' = refl
    by_changes false false is is' = time_exchanged name o t differ

-- the other side counts if the sides are exchanged
pub choice_exchanged : (vs : EntryVersions) (name : List ℕ) → are_equal_fields (named name vs.theirs) (named name vs.ours) ≡ false
    → choice (with_exchanged_sides vs) name ≡ option_map other_side (choice vs name)
choice_exchanged vs name differ = fields_exchanged name (base_named name vs.base) (named name vs.ours) (named name vs.theirs) differ
