-- Machinery: words of private contracts.
-- The orders of times and of dates are partial orders, with `Equal` exactly for equal values.
use Rattle.std.specs.Prelude.{◌≡◌, refl, ℕ, Bool, true, false, ◌&&◌, Option, Some, None, is_some, option_map, nat_eq}
use Rattle.std.proofs.Common.{ap, subst, ◌∙◌, arith}
use Rattle.std.specs.Option.{option_eq}
use Rattle.std.specs.Ordering.{int_eq, ordering_reverse}
use Rattle.std.specs.Cmp.{IsPartialOrder, IsEquivalence, IsPartialEquivalence, partial_equiv_from_equiv, bool_eq_equiv, nat_eq_equiv, booleans_Decides, int_eq_equiv, decided, then_po, on_po, unsigned_po, signed_po}
use Rattle.std.specs.Bool.{Decides}
use Rattle.std.proofs.Math.Bool.{beq}
use Rattle.std.proofs.lemmas.Bool.{and_parts, and_from}
use Rattle.std.proofs.lemmas.Bool.Decides.{nat_tests}
use Rattle.std.specs.declared.cmp.Ordering.{Ordering}
use Rattle.std.specs.declared.cmp.Ordering.TheVariants.{Less, Equal}
use Rattle.bib_dates.specs.declared.date.Datetime.{Datetime}
use Rattle.bib_dates.specs.declared.date.Time.{Time}
use Rattle.bib_dates.specs.declared.date.TimeOffset.{TimeOffset}
use Rattle.bib_dates.specs.declared.date.TimeOffset.TheVariants.{Utc, Offset}
use Rattle.bib_dates.specs.Orders.{utc_seconds, if_equal, part_cmp, same_offset, same_time, time_cmp, datetime_cmp}

alone_back : (same : Bool) → if_equal same ≡ option_map ordering_reverse (if_equal same)
alone_back true = refl
alone_back false = refl

never_less : (same : Bool) → if_equal same ≡ Some Less → ⊥
never_less true h = cc
never_less false h = cc

alone_equal : (same : Bool) → Decides same (if_equal same ≡ Some Equal)
alone_equal true = (λ h. refl, λ h. refl)
alone_equal false = (λ h. cc, λ h. cc)

-- an order in which two values are equal, by an equivalence, or not comparable is a partial order
pub alone_po : {K : Type 0} (E : K → K → Bool) → IsEquivalence E → IsPartialOrder E (λ x y. if_equal (E x y))
alone_po E e = record {
  antisymm = λ x y. ap if_equal (e.symm x y) ∙ alone_back (E y x);
  trans = λ x y z h k. absurd (never_less (E x y) h);
  matches_eq = λ x y. alone_equal (E x y);
  congr = λ x y z h. ap if_equal (e.congr x y z h);
}

-- if a part has a partial order, so has an optional part; it isn't comparable if only one side has it
module _ {K : Type 0} {E : K → K → Bool} {C : K → K → Option Ordering} (o : IsPartialOrder E C) where
  back : (p q : Option K) → part_cmp C p q ≡ option_map ordering_reverse (part_cmp C q p)
  back None None = refl
  back None (Some b) = refl
  back (Some a) None = refl
  back (Some a) (Some b) = o.antisymm a b

  chain : (p q r : Option K) → part_cmp C p q ≡ Some Less → part_cmp C q r ≡ Some Less → part_cmp C p r ≡ Some Less
  chain None None r h k = cc
  chain None (Some b) r h k = cc
  chain (Some a) None r h k = cc
  chain (Some a) (Some b) None h k = cc
  chain (Some a) (Some b) (Some c) h k = o.trans a b c h k

  level : (p q : Option K) → Decides (option_eq E p q) (part_cmp C p q ≡ Some Equal)
  level None None = (λ h. refl, λ h. refl)
  level None (Some b) = (λ h. cc, λ h. cc)
  level (Some a) None = (λ h. cc, λ h. cc)
  level (Some a) (Some b) = o.matches_eq a b

  alike : (p q r : Option K) → option_eq E p q ≡ true → part_cmp C p r ≡ part_cmp C q r
  alike None None r h = refl
  alike None (Some b) r h = cc
  alike (Some a) None r h = cc
  alike (Some a) (Some b) None h = refl
  alike (Some a) (Some b) (Some c) h = o.congr a b c h

  pub part_po : IsPartialOrder (option_eq E) (part_cmp C)
  part_po = record { antisymm = back; trans = chain; matches_eq = level; congr = alike }

same_offset_itself : (a : TimeOffset) → same_offset a a ≡ true
same_offset_itself Utc = refl
same_offset_itself (Offset p h m) = simp (bool_eq_equiv.refl, nat_eq_equiv.refl)

-- numbers that pass the test of equality are equal
pub nat_is : (a b : ℕ) → nat_eq a b ≡ true → a ≡ b
nat_is a b h = grind (arith, nat_tests)

-- offsets of the same values are equal
same_offset_is : (a b : TimeOffset) → same_offset a b ≡ true → a ≡ b
same_offset_is Utc Utc h = refl
same_offset_is Utc (Offset q k n) h = cc
same_offset_is (Offset p h m) Utc e = cc
same_offset_is (Offset p h m) (Offset q k n) e =
    let one = and_parts (beq p q) (nat_eq h k && nat_eq m n) e in
    let two = and_parts (nat_eq h k) (nat_eq m n) one.1 in
    let x : p ≡ q = (booleans_Decides p q).0 one.0 in
    let y : h ≡ k = nat_is h k two.0 in
    let z : m ≡ n = nat_is m n two.1 in cc

-- a lemma: `same_offset` is an equivalence
pub same_offset_laws : IsEquivalence same_offset
same_offset_laws = decided same_offset (λ a b. (same_offset_is a b, λ e. subst (λ x. same_offset a x ≡ true) e (same_offset_itself a)))

-- a lemma: `same_offset` is a partial equivalence
pub same_offset_partial : IsPartialEquivalence same_offset
same_offset_partial = partial_equiv_from_equiv same_offset_laws

same_maybe_itself : (p : Option TimeOffset) → option_eq same_offset p p ≡ true
same_maybe_itself None = refl
same_maybe_itself (Some a) = same_offset_itself a

same_maybe_is : (p q : Option TimeOffset) → option_eq same_offset p q ≡ true → p ≡ q
same_maybe_is None None h = refl
same_maybe_is None (Some b) h = cc
same_maybe_is (Some a) None h = cc
same_maybe_is (Some a) (Some b) h = ap (λ o. Some o) (same_offset_is a b h)

same_time_itself : (a : Time) → same_time a a ≡ true
same_time_itself a =
    and_from _ _ (nat_eq_equiv.refl a.hour)
    (and_from _ _ (nat_eq_equiv.refl a.minute)
    (and_from _ _ (nat_eq_equiv.refl a.second) (same_maybe_itself a.offset)))

same_time_is : (a b : Time) → same_time a b ≡ true → a ≡ b
same_time_is a b h =
    let one =
    and_parts (nat_eq a.hour b.hour)
    (nat_eq a.minute b.minute && (nat_eq a.second b.second && option_eq same_offset a.offset b.offset)) h in
    let two = and_parts (nat_eq a.minute b.minute) (nat_eq a.second b.second && option_eq same_offset a.offset b.offset) one.1 in
    let three = and_parts (nat_eq a.second b.second) (option_eq same_offset a.offset b.offset) two.1 in
    λ i. record {
      hour = nat_is a.hour b.hour one.0 i;
      minute = nat_is a.minute b.minute two.0 i;
      second = nat_is a.second b.second three.0 i;
      offset = same_maybe_is a.offset b.offset three.1 i;
    }

-- `same_time` decides whether two times are equal
pub same_time_decides : (a b : Time) → Decides (same_time a b) (a ≡ b)
same_time_decides a b = (same_time_is a b, λ e. subst (λ x. same_time a x ≡ true) e (same_time_itself a))

absorbed : (p q s : Bool) → (s ≡ true → p ≡ true) → (s ≡ true → q ≡ true) → (p && (q && s)) ≡ s
absorbed p q true f g = and_from _ _ (f refl) (and_from _ _ (g refl) refl)
absorbed true true false f g = refl
absorbed true false false f g = refl
absorbed false q false f g = refl

same_says : (x y : Time)
    → (beq (is_some x.offset) (is_some y.offset) && (int_eq (utc_seconds x) (utc_seconds y) && same_time x y))
    ≡ same_time x y
same_says x y = absorbed (beq (is_some x.offset) (is_some y.offset)) (int_eq (utc_seconds x) (utc_seconds y)) (same_time x y)
    (λ h. subst (λ z. beq (is_some x.offset) (is_some z.offset) ≡ true) (same_time_is x y h) (bool_eq_equiv.refl (is_some x.offset)))
    (λ h. subst (λ z. int_eq (utc_seconds x) (utc_seconds z) ≡ true) (same_time_is x y h) (int_eq_equiv.refl (utc_seconds x)))

-- a lemma: `time_cmp` is a partial order, with `Equal` exactly for equal times
pub time_laws : IsPartialOrder same_time time_cmp
time_laws = subst (λ E. IsPartialOrder E time_cmp) (λ i x y. same_says x y i)
    (then_po (on_po (λ t. is_some t.offset) (alone_po beq bool_eq_equiv))
    (then_po (on_po utc_seconds signed_po) (alone_po same_time (decided same_time same_time_decides))))

-- whether two dates have the same values
abbrev pub same_datetime : Datetime → Datetime → Bool
same_datetime a b =
    int_eq a.year b.year
    && (option_eq nat_eq a.month b.month && (option_eq nat_eq a.day b.day && option_eq same_time a.time b.time))

-- a lemma: `datetime_cmp` is a partial order, with `Equal` exactly for equal dates
pub datetime_laws : IsPartialOrder same_datetime datetime_cmp
datetime_laws =
    then_po (on_po (λ d. d.year) signed_po)
    (then_po (on_po (λ d. d.month) (part_po unsigned_po))
    (then_po (on_po (λ d. d.day) (part_po unsigned_po)) (on_po (λ d. d.time) (part_po time_laws))))
